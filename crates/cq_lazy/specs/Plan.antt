-- How a query is made, and the query that is made so.
use Rattle.std.specs.Prelude.{false, ◌≡◌}
use Rattle.cq_query.specs.QueryData.{QueryData as Query}
use Rattle.cq_compose.specs.Composite.{composite, is_large}
use Rattle.cq_lazy.specs.declared.plan.Plan.{Plan, Made, Composite'}

abbrev pub query_of : Plan → Query
query_of (Made Q) = Q.value
query_of (Composite' p first q second) = composite (query_of first) (query_of second)

-- each two queries that are composed fit, and their composite keeps the limits on queries
abbrev pub IsPlan : Plan → Type 0
IsPlan (Made Q) = Unit {0}
IsPlan (Composite' p first q second) =
    IsPlan first × IsPlan second × ((query_of second).source ≡ (query_of first).target)
    × (is_large (composite (query_of first) (query_of second)) ≡ false)

-- What is known of a query that is made when it is used.
use Rattle.std.specs.Prelude.{ℕ, List, ◌≡◌, Option, IfSome}
use Rattle.cq_query.specs.IsQuery.{IsQuery}
use Rattle.cq_lazy.specs.declared.lengths.Lengths.{Lengths}
use Rattle.cq_lazy.specs.declared.plan.Plan.{Plan}
use Rattle.cq_lazy.specs.Plan.{IsPlan, query_of}
use Rattle.cq_lazy.specs.Widths.{widths_of}
use Rattle.cq_lazy.specs.Lengths.{AreLengths, plain}

pub record IsLazy (plan : Plan) (widths : List ℕ) (lengths : Option Lengths) : Type 0 where
  pub made : IsPlan plan
  pub sorted : IsQuery (query_of plan)
  pub counted : widths ≡ widths_of (query_of plan)
  pub bounded : IfSome lengths (λ n. AreLengths plain (query_of plan) n)

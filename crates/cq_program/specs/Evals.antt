-- The rules of names of instances that are moved along queries.
use Rattle.std.specs.Prelude.{Ok, Err, if◌then◌else◌}
use Rattle.cq_base.specs.Names.{same_name}
use Rattle.cq_syntax.specs.declared.part.Spot.{Spot}
use Rattle.cq_query.specs.Coeval.{coeval_of}
use Rattle.cq_environment.specs.declared.reason.Reason.TheVariants.{WrongSchema}
use Rattle.cq_environment.specs.Meanings.{Checked, Environment, InstanceMeant, QueryMeant, and_then, instance_used, query_used}
use Rattle.cq_program.specs.Posed.{Posed, a_made, an_eval}

-- It is over the source of a query that is answered, and over the target of one that is read backwards.
abbrev pub eval_between : Spot → QueryMeant → InstanceMeant → Checked Posed
eval_between spot Q i = if same_name Q.source i.schema then Ok (an_eval Q.target Q.query i.instance.tables)
    else Err (spot.place, WrongSchema)

abbrev pub coeval_between : Spot → QueryMeant → InstanceMeant → Checked Posed
coeval_between spot Q i =
    if same_name Q.target i.schema then Ok (a_made Q.source Q.query.source (coeval_of Q.query i.instance.tables))
    else Err (spot.place, WrongSchema)

abbrev pub eval_posed : Environment → Spot → Spot → Checked Posed
eval_posed env along spot = and_then (query_used env along) (λ Q. and_then (instance_used env spot) (λ i. eval_between spot Q i))

abbrev pub coeval_posed : Environment → Spot → Spot → Checked Posed
coeval_posed env along spot = and_then (query_used env along) (λ Q. and_then (instance_used env spot) (λ i. coeval_between spot Q i))

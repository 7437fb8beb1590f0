-- The rules of names and parts of queries, and of names of composites and of the queries of mappings.
use Rattle.std.specs.Prelude.{Ok, Err, if◌then◌else◌}
use Rattle.cq_base.specs.declared.place.Place.{Place}
use Rattle.cq_base.specs.Names.{same_name}
use Rattle.cq_syntax.specs.declared.part.Spot.{Spot}
use Rattle.cq_syntax.specs.declared.literal.QueryLit.{QueryLit}
use Rattle.cq_theory.specs.SchemaData.{SchemaData}
use Rattle.cq_query.specs.QueryData.{QueryData}
use Rattle.cq_query.specs.QueryParts.{query_fault, query_made}
use Rattle.cq_environment.specs.declared.reason.Reason.TheVariants.{WrongSchema}
use Rattle.cq_parts.specs.Parts.{query_parts, query_places}
use Rattle.cq_environment.specs.Meanings.{Checked, Environment, QueryMeant, SchemaMeant, and_then, mapping_used, query_used, schema_used}
use Rattle.cq_program.specs.Posed.{arrow_breach, of_parts, Posed, a_query, a_composite, a_mapping_query}

unfoldable pub query_given : Place → SchemaData → SchemaData → QueryLit → Checked QueryData
query_given place S T lit = of_parts (arrow_breach place (query_places lit)) (query_fault S T (query_parts lit))
    (query_made S T (query_parts lit))

abbrev pub query_between : Place → QueryLit → SchemaMeant → SchemaMeant → Checked Posed
query_between place lit source target =
    if same_name source.typeside target.typeside then and_then (query_given place source.schema target.schema lit)
    (λ Q. Ok (a_query source.name target.name Q))
    else Err (lit.target.place, WrongSchema)

abbrev pub query_posed : Environment → Place → QueryLit → Checked Posed
query_posed env place lit =
    and_then (schema_used env lit.source) (λ source.
    and_then (schema_used env lit.target) (λ target.
    query_between place lit source target))

-- The second query starts where the first ends.
abbrev pub composite_between : Spot → QueryMeant → QueryMeant → Checked Posed
composite_between spot Q W = if same_name Q.target W.source then Ok (a_composite Q.source W.target Q.query W.query)
    else Err (spot.place, WrongSchema)

abbrev pub composite_posed : Environment → Spot → Spot → Checked Posed
composite_posed env first second = and_then (query_used env first)
    (λ Q. and_then (query_used env second) (λ W. composite_between second Q W))

-- The query of a mapping goes from the mapping's target to its source.
abbrev pub mapping_query_posed : Environment → Spot → Checked Posed
mapping_query_posed env spot = and_then (mapping_used env spot) (λ F. Ok (a_mapping_query F.target F.source F.mapping))

-- What an operation makes of an instance, along a mapping or a query.
use Rattle.std.specs.Prelude.{◌≡◌, Option, Some, None}
use Rattle.cq_mapping.specs.MappingData.{MappingData}
use Rattle.cq_mapping.specs.Duties.{Preserves}
use Rattle.cq_mapping.specs.Images.{sigma}
use Rattle.cq_mapping.specs.Moved.{delta_tables}
use Rattle.cq_instance.specs.InstanceData.{InstanceData}
use Rattle.cq_instance.specs.Given.{given}
use Rattle.cq_query.specs.QueryData.{QueryData}
use Rattle.cq_query.specs.Duties.{Sound}
use Rattle.cq_query.specs.Answers.{IsEval}
use Rattle.cq_query.specs.Coeval.{coeval_of}
use Rattle.cq_environment.specs.Meanings.{Meant, mapping, query}
use Rattle.cq_environment.specs.declared.moved.Operation.{Operation}
use Rattle.cq_environment.specs.declared.moved.Operation.TheVariants as operation

-- an operation, and the mapping or the query along which it moves
pub data Route : Type 0 where
  by_sigma : MappingData → Route
  by_delta : MappingData → Route
  by_eval : QueryData → Route
  by_coeval : QueryData → Route

-- the route of an operation along what a name stands for
abbrev pub route_of : Operation → Meant → Option Route
route_of operation.Sigma (mapping n t F) = Some (by_sigma F)
route_of operation.Delta (mapping n t F) = Some (by_delta F)
route_of operation.Eval (query n t Q) = Some (by_eval Q)
route_of operation.Coeval (query n t Q) = Some (by_coeval Q)
route_of _ _ = None

-- the mapping preserves equality, or the query is sound
abbrev pub IsSound : Route → Type 0
IsSound (by_sigma F) = Preserves F
IsSound (by_delta F) = Preserves F
IsSound (by_eval Q) = Sound Q
IsSound (by_coeval Q) = Sound Q

-- a presents what sigma makes of the presentation of i
pub record IsPushed (F : MappingData) (i a : InstanceData) : Type 0 where
  pub over : i.schema ≡ F.source
  pub schema : a.schema ≡ F.target
  pub presentation : a.presentation ≡ sigma F i.presentation

-- a has the tables that are pulled back from those of i
pub record IsPulled (F : MappingData) (i a : InstanceData) : Type 0 where
  pub over : i.schema ≡ F.target
  pub instance : a ≡ given F.source (delta_tables F i.tables)

-- a has the tables of the query's answers in those of i
pub record IsAnswered (Q : QueryData) (i a : InstanceData) : Type 0 where
  pub over : i.schema ≡ Q.source
  pub tables : IsEval Q i.tables a.tables
  pub instance : a ≡ given Q.target a.tables

-- a presents what coeval makes of the tables of i
pub record IsReadBackwards (Q : QueryData) (i a : InstanceData) : Type 0 where
  pub over : i.schema ≡ Q.target
  pub schema : a.schema ≡ Q.source
  pub presentation : a.presentation ≡ coeval_of Q i.tables

-- a is what is made of i
abbrev pub IsMovedAlong : Route → InstanceData → InstanceData → Type 0
IsMovedAlong (by_sigma F) i a = IsPushed F i a
IsMovedAlong (by_delta F) i a = IsPulled F i a
IsMovedAlong (by_eval Q) i a = IsAnswered Q i a
IsMovedAlong (by_coeval Q) i a = IsReadBackwards Q i a

-- x is what is made of the one end of a unit or a counit, and the other end is what the operation that goes back makes of x: a unit goes
-- from an instance there and back, by sigma and delta, or by coeval and eval; a counit from there and back to the instance, by delta and
-- sigma, or by eval and coeval
abbrev pub IsAround : Route → InstanceData → InstanceData → InstanceData → Type 0
IsAround (by_sigma F) start finish x = IsPushed F start x × IsPulled F x finish
IsAround (by_delta F) start finish x = IsPulled F finish x × IsPushed F x start
IsAround (by_eval Q) start finish x = IsAnswered Q finish x × IsReadBackwards Q x start
IsAround (by_coeval Q) start finish x = IsReadBackwards Q start x × IsAnswered Q x finish

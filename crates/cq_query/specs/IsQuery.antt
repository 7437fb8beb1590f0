-- Well-sorted queries.
use Rattle.std.specs.Prelude.{ℕ, List, Some, ◌≡◌, ◌<◌, ◌≤◌, map, length, slice_get}
use Rattle.cq_base.specs.declared.name.Name.{Name}
use Rattle.cq_base.specs.Names.{AreDistinct}
use Rattle.cq_theory.specs.declared.schema.Edge.{Edge}
use Rattle.cq_theory.specs.declared.term.EntTerm.{EntTerm}
use Rattle.cq_theory.specs.declared.term.TypeTerm.{TypeTerm}
use Rattle.cq_theory.specs.EntTerm as ent
use Rattle.cq_theory.specs.TypeTerm as typ
use Rattle.cq_theory.specs.Schema.{IsSchema}
use Rattle.cq_theory.specs.Sorts.{entity_of, type_of}
use Rattle.cq_theory.specs.Presentation.{IsPresentation}
use Rattle.cq_query.specs.QueryData.{QueryData as Query}
use Rattle.cq_query.specs.Translation.{variables_at, key_sources, attribute_sources, found_terms, found_term}
use Rattle.cq_theory.specs.Groups.{positions}
use Rattle.cq_blocks.specs.declared.block.Block.{Block}
use Rattle.cq_query.specs.Duties.{frozen}

-- the term of an attribute is there, has the attribute's type over the variables of its entity's block, and at most 1,024 symbols
pub record IsAttributeTerm (Q : Query) (a : ℕ) (edge : Edge) : Type 0 where
  pub term : TypeTerm
  pub found : found_term Q a ≡ Some term
  pub typed : type_of Q.source (frozen Q edge.from).generators term ≡ Some edge.to
  pub fits : typ.symbols_of term ≤ 1024

-- the terms of a key are there, one for each variable of the block to which it leads, each of the variable's entity over the
-- variables of the block from which it goes, and with at most 1,024 symbols
pub record AreKeyTerms (Q : Query) (k : ℕ) (edge : Edge) : Type 0 where
  pub terms : List EntTerm
  pub found : found_terms Q k ≡ Some terms
  pub each : length terms ≡ length (variables_at Q edge.to)
  pub sorted : (n : ℕ) (t : EntTerm) (v : Name × ℕ) → slice_get terms n ≡ Some t → slice_get (variables_at Q edge.to) n ≡ Some v
      → (entity_of Q.source (frozen Q edge.from).generators t ≡ Some v.1) × (ent.symbols_of t ≤ 1024)

-- the block has as many terms as attributes, and as many lists of terms as foreign keys, begin at the entity
pub record HasBlockTerms (Q : Query) (entity : ℕ) (block : Block) : Type 0 where
  pub attributes : length block.attributes ≡ length (positions (attribute_sources Q) entity)
  pub keys : length block.keys ≡ length (positions (key_sources Q) entity)

-- Two schemas over one typeside; a block for each entity of the target, whose variables have names of their own and make a
-- presentation over the source with its where equations; a term for each attribute and terms for each key of the target, and no others.
pub record IsQuery (Q : Query) : Type 0 where
  pub source : IsSchema Q.source
  pub target : IsSchema Q.target
  pub typeside : Q.source.typeside ≡ Q.target.typeside
  pub blocks : length Q.blocks ≡ length Q.target.entities
  pub each_block : (entity : ℕ) (block : Block) → slice_get Q.blocks entity ≡ Some block → HasBlockTerms Q entity block
  pub each_frozen : (entity : ℕ) → entity < length Q.target.entities → IsPresentation Q.source (frozen Q entity)
  pub distinct : (entity : ℕ) → AreDistinct (map (λ v. v.0) (variables_at Q entity))
  pub few : (entity : ℕ) → length (variables_at Q entity) ≤ 16000000
  pub attributes : (a : ℕ) (edge : Edge) → slice_get Q.target.attributes a ≡ Some edge → IsAttributeTerm Q a edge
  pub keys : (k : ℕ) (edge : Edge) → slice_get Q.target.keys k ≡ Some edge → AreKeyTerms Q k edge

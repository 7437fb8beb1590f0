-- Generators as terms.
use Rattle.std.proofs.Common.{ℕ, List, [], Option, Some, ◌≡◌, ap, ◌∙◌}
use Rattle.std.specs.Prelude.{slice_get, option_and_then}
use Rattle.cq_base.specs.declared.name.Name.{Name}
use Rattle.cq_theory.specs.declared.presentation.Sort.{Sort}
use Rattle.cq_theory.specs.declared.presentation.Sort.TheVariants.{Plain, Entity}
use Rattle.cq_theory.specs.declared.term.TypeTerm.TheVariants.{Gen}
use Rattle.cq_theory.specs.SchemaData.{SchemaData as Schema}
use Rattle.cq_theory.specs.EntTerm.{alone}
use Rattle.cq_theory.specs.Sorts.{Generators, target_of, entity_at, type_at, entity_of, type_of, type_step}
use Rattle.cq_theory.proofs.TypeTerms.{fold-Gen}

-- a generator of a type, or of an entity, as a term
pub generator_type : (S : Schema) (G : Generators) (n : ℕ) (name : Name) (sort : Sort) (type : ℕ) → slice_get G n ≡ Some (name, sort) → sort ≡ Plain type → type_of S G (Gen n) ≡ Some type
generator_type S G n name sort type at is =
    fold-Gen (Option ℕ) (type_step S G) n ∙ ap type_at at ∙ ap (λ (s : Sort). type_at (Some (name, s))) is

pub generator_entity : (S : Schema) (G : Generators) (n : ℕ) (name : Name) (sort : Sort) (entity : ℕ) → slice_get G n ≡ Some (name, sort) → sort ≡ Entity entity → entity_of S G (alone n) ≡ Some entity
generator_entity S G n name sort entity at is =
    ap (λ o. option_and_then (target_of S.keys []) (entity_at o)) at ∙ ap (λ (s : Sort). option_and_then (target_of S.keys []) (entity_at (Some (name, s)))) is

-- What the end of a stage says of the schema and the presentation.
use Rattle.std.proofs.Common.{◌≡◌, ℕ, List, Option, Some, None, Result, Err, refl, sym, ◌∙◌, ap}
use Rattle.std.proofs.lemmas.List.{length-map}
use Rattle.std.proofs.lemmas.Option.{none-some, slice_get-map}
use Rattle.std.specs.Prelude.{slice_get, option_and_then, option_map}
use Rattle.cq_tables.specs.Content.{Content}
use Rattle.cq_theory.specs.declared.presentation.Presentation.{Presentation}
use Rattle.cq_theory.specs.SchemaData.{SchemaData}
use Rattle.cq_rows.specs.Theory.{IsTheory}
use Rattle.cq_rows.specs.Plain.{theory_of, generator_entity, entity_in}
use Rattle.cq_base.specs.declared.name.Name.{Name}
use Rattle.cq_theory.specs.declared.presentation.Sort.{Sort}
use Rattle.cq_theory.specs.declared.presentation.Sort.TheVariants.{Plain, Entity}
use Rattle.cq_theory.specs.Sorts.{type_at}
use Rattle.cq_rows.specs.Rows.{row_of_term}
use Rattle.cq_rows.specs.Rows as rows
use Rattle.cq_rows.specs.Saturated.{HasEntries, OneRowIsEqual, AllTraced, WithinIsOneRow, AllNamed, PathEquationsHold, EntityEquationsHold, NoneCloses, SomeWide}
use Rattle.cq_rows.specs.Stage.{IsStage}
use Rattle.cq_rows.proofs.Bridge.{sort_same, start_same, tree, from_within, closes_plain, wide_tree, is_given}
use Rattle.cq_rows.proofs.Stages.{stage_sound, within_one_row, have_rows}

-- one refusal, whatever the other answers are
pub same_refusal : {A B E : Type 0} (x y : E) → ◌≡◌ {A = Result A E} (Err x) (Err y) → ◌≡◌ {A = Result B E} (Err x) (Err y)
same_refusal x y h = let e : x ≡ y = cc in ap Err e

found_at : (o : Option (Option ℕ)) (e : ℕ) → option_and_then (λ x. x) o ≡ Some e → o ≡ Some (Some e)
found_at None e h = absurd (none-some e h)
found_at (Some x) e h = ap (λ y. Some y) h

-- a generator of a type has no entity
rowless_at : (o : Option (Name × Sort)) (p : Option (Option ℕ)) (t : ℕ) → p ≡ option_map generator_entity o → type_at o ≡ Some t → p ≡ Some None
rowless_at None p t e f = absurd (none-some t f)
rowless_at (Some g) p t e f = e ∙ ap (λ o. Some o) (no_entity g.1 t f)
  where
    no_entity : (sort : Sort) (t : ℕ) → type_at (Some (g.0, sort)) ≡ Some t → entity_in sort ≡ None
    no_entity (Plain n) t f = refl
    no_entity (Entity n) t f = absurd (none-some t f)

module _ (S : SchemaData) (P : Presentation) (th : IsTheory (theory_of S P)) (m : Content) (entries : List ℕ) (k : ℕ) (h : IsStage (theory_of S P) m entries k) where
  pub has_entries : HasEntries P m entries
  has_entries = record {
    count = h.grown.count ∙ length-map P.generators generator_entity;
    entity = λ g e f. have_rows (theory_of S P) m entries k h.grown g e (found_at (slice_get (theory_of S P).generators g) e (start_same S P g ∙ f));
    type = λ g t f. h.grown.rowless g (rowless_at (slice_get P.generators g) (slice_get (theory_of S P).generators g) t (slice_get-map generator_entity P.generators g) f);
  }

  pub one_row : OneRowIsEqual S P m entries
  one_row t u d e a qt qu ft fu = tree S P None (stage_sound (theory_of S P) m entries k h.grown t u d e a (sort_same S P t ∙ qt) (sort_same S P u ∙ qu) ft fu)

  pub all_traced : AllTraced S P m entries k
  all_traced t e q b = h.grown.traced t e (sort_same S P t ∙ q) b

  pub within_row : WithinIsOneRow S P m entries k
  within_row t u d = within_one_row (theory_of S P) m entries k th h (from_within S P k t u d)

  pub all_named : AllNamed S P m entries k
  all_named r l = let n = h.grown.named r l in (n.0, record { entity = sym (sort_same S P n.0) ∙ n.1.sort; depth = n.1.depth; row = n.1.row })

  pub path_equations : PathEquationsHold S m
  path_equations r n e l f q = h.rules r n e l f q

  pub entity_equations : EntityEquationsHold P m entries
  entity_equations n t u f = h.given n t u (is_given S P n t u f)

pub none_closes : (S : SchemaData) (P : Presentation) (k : ℕ) → rows.NoneCloses (theory_of S P) k → NoneCloses S P k
none_closes S P k h j b c = h j b (closes_plain S P j c)

pub some_wide : (S : SchemaData) (P : Presentation) (k : ℕ) → rows.SomeWide (theory_of S P) k 200000 → SomeWide S P k
some_wide S P k h = (h.0, h.1, wide_tree S P h.0 200000 h.2)

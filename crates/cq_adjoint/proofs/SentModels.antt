-- Where a homomorphism sends what generators stand for, the presentation holds too.
use Rattle.std.proofs.Common.{ℕ, List, [], Some, ◌≡◌, ◌<◌, map, length, sym, ap, subst, ◌∙◌, arith}
use Rattle.std.specs.Prelude.{slice_get, slice_index_or}
use Rattle.std.specs.List.{enumerate_from}
use Rattle.std.proofs.lemmas.List.{length-map}
use Rattle.std.proofs.lemmas.List.FromFn.{length-enumerate_from}
use Rattle.std.proofs.lemmas.Option.{slice_get-get_or}
use Rattle.cq_base.specs.declared.name.Name.{Name}
use Rattle.cq_theory.specs.declared.presentation.Sort.{Sort}
use Rattle.cq_theory.specs.declared.presentation.Sort.TheVariants.{Plain, Entity}
use Rattle.cq_theory.specs.declared.presentation.Presentation.{Presentation}
use Rattle.cq_theory.specs.declared.value.Value.{Value}
use Rattle.cq_theory.specs.SchemaData.{SchemaData as Schema}
use Rattle.cq_theory.specs.Derivation.{left_of, right_of}
use Rattle.cq_theory.specs.declared.presentation.Equation.{Equation}
use Rattle.cq_theory.specs.Presentation.{IsPresentation}
use Rattle.cq_theory.specs.Sorts.{sort_of}
use Rattle.cq_theory.specs.Tables.{Tables, Meaning, AtRow, AtValue, Assignment, HasSort, IsWellFormed, Satisfies, Holds}
use Rattle.cq_theory.specs.Homomorphism.{IsHomomorphism}
use Rattle.cq_instance.proofs.Enumerated.{numbered_at}
use Rattle.cq_transform.specs.Agreement.{meaning_image, Agrees}
use Rattle.cq_transform.proofs.Composites.{meaning_goes}
use Rattle.cq_transform.proofs.ExactlyOne.{within_counts}
use Rattle.cq_transform.proofs.SortedValues.{value_sorted}

-- the sides of each equation have one sort
abbrev pub AreSided : Schema → Presentation → Type 0
AreSided S P = (n : ℕ) (e : Equation) → slice_get P.equations n ≡ Some e
    → (sort : Sort) × (sort_of S P.generators (left_of e) ≡ Some sort) × (sort_of S P.generators (right_of e) ≡ Some sort)

pub are_sided : (S : Schema) (P : Presentation) → IsPresentation S P → AreSided S P
are_sided S P presented n e at = let h = presented.equations n e at in (h.sort, h.left, h.right)

module _ (S : Schema) (M N : Tables) (rows : List (List ℕ)) (nulls : List Value) (homomorphism : IsHomomorphism S M N rows nulls) (well : IsWellFormed S N) (formed : IsWellFormed S M) where
  -- what is of a sort goes to what is of the sort
  pub sent_sorted : (sort : Sort) (m : Meaning) → HasSort S M sort m → HasSort S N sort (meaning_image S M N rows nulls sort m)
  sent_sorted (Entity e) (AtRow r) h =
      let known : e < length rows = omega (arith, within_counts M.sheet.counts e r h, formed.entities, homomorphism.entities) in
      let at : slice_get rows e ≡ Some (slice_index_or rows e []) = slice_get-get_or rows e [] known in
      let list = homomorphism.each_row e (slice_index_or rows e []) at in
      list.1 r 0 (omega (arith, h, list.0))
  sent_sorted (Entity e) (AtValue v) h = absurd h
  sent_sorted (Plain type) (AtRow r) h = absurd h
  sent_sorted (Plain type) (AtValue v) h = value_sorted S M N rows nulls well homomorphism v type h.0

  module _ (P : Presentation) (sided : AreSided S P) (A : Assignment) (holds : Holds S P M A) where
    -- what each generator stands for, sent on
    abbrev pub sent_on : Assignment
    sent_on = map (λ (g : ℕ × (Name × Sort)). meaning_image S M N rows nulls g.1.1 (slice_index_or A g.0 (AtRow 0))) (enumerate_from 0 P.generators)

    pub sent_at : (n : ℕ) (g : Name × Sort) → slice_get P.generators n ≡ Some g → slice_index_or sent_on n (AtRow 0) ≡ meaning_image S M N rows nulls g.1 (slice_index_or A n (AtRow 0))
    sent_at n g at = numbered_at (λ (x : ℕ × (Name × Sort)). meaning_image S M N rows nulls x.1.1 (slice_index_or A x.0 (AtRow 0))) P.generators n g (AtRow 0) at

    sent_agrees : Agrees S P M N A sent_on rows nulls
    sent_agrees n g at = sym (sent_at n g at)

    pub sent_holds : Satisfies S N → Holds S P N sent_on
    sent_holds satisfies = record {
      well_formed = well;
      count = length-map (enumerate_from 0 P.generators) (λ (x : ℕ × (Name × Sort)). meaning_image S M N rows nulls x.1.1 (slice_index_or A x.0 (AtRow 0)))
          ∙ length-enumerate_from 0 P.generators;
      sorts = λ n g at. subst (HasSort S N g.1) (sym (sent_at n g at)) (sent_sorted g.1 (slice_index_or A n (AtRow 0)) (holds.sorts n g at));
      schema = satisfies;
      equations = λ n e at.
          let sides = sided n e at in
          sym (meaning_goes S P M N A sent_on rows nulls holds homomorphism sent_agrees (left_of e) sides.0 sides.1)
          ∙ ap (meaning_image S M N rows nulls sides.0) (holds.equations n e at)
          ∙ meaning_goes S P M N A sent_on rows nulls holds homomorphism sent_agrees (right_of e) sides.0 sides.2;
    }

-- The equation that two faultless terms make is one over the presentation.
use Rattle.std.proofs.Common.{ℕ, true, not, Option, Some, None, ◌≡◌, ◌||◌, refl, sym, ap, ◌∙◌}
use Rattle.std.specs.Prelude.{slice_get}
use Rattle.std.proofs.lemmas.Option.{slice_get-map}
use Rattle.std.proofs.lemmas.Bool.{eqb-true}
use Rattle.cq_base.specs.declared.name.Name.{Name}
use Rattle.cq_base.specs.declared.raw.Raw.{Raw}
use Rattle.cq_theory.specs.declared.refusal.TermRefusal.TheVariants as term_refusal
use Rattle.cq_theory.specs.declared.presentation.Equation.{Equation}
use Rattle.cq_theory.specs.declared.presentation.Presentation.{Presentation}
use Rattle.cq_theory.specs.declared.presentation.Sort.{Sort}
use Rattle.cq_theory.specs.declared.presentation.Sort.TheVariants.{Plain, Entity}
use Rattle.cq_theory.specs.SchemaData.{SchemaData as Schema}
use Rattle.cq_theory.specs.declared.term.Term.{Term}
use Rattle.cq_theory.specs.declared.term.Term.TheVariants.{Ent, Typ}
use Rattle.cq_theory.specs.Sorts.{Generators, entity_of, type_of, sort_of}
use Rattle.cq_theory.specs.Derivation.{left_of, right_of}
use Rattle.cq_theory.specs.Resolve.{raw_sort, has_unknown, has_wrong_count, has_reserved, is_too_large, are_of_one_sort}
use Rattle.cq_theory.specs.Resolved.{resolved}
use Rattle.cq_theory.specs.Parts.{equation_of}
use Rattle.cq_theory.proofs.Faults.{of_five, not_false, neither}
use Rattle.cq_theory.proofs.ResolvedSorts.{map_some, sort_of-resolved}
use Rattle.cq_terms.specs.Generators.{names_of, sorts_of}
use Rattle.cq_proof.specs.Answers.{IsWellSorted}
use Rattle.cq_explain.specs.Question.{Makes}

apart : (e t : ℕ) → Entity e ≡ Plain t → ⊥
apart e t h = cc

one_sort : (o p : Option Sort) → are_of_one_sort o p ≡ true → (sort : Sort) × (o ≡ Some sort) × (p ≡ Some sort)
one_sort None p h = cc
one_sort (Some s) None h = cc
one_sort (Some (Plain t)) (Some (Plain u)) h = (Plain t, refl, ap (λ n. Some (Plain n)) (sym (eqb-true t u h)))
one_sort (Some (Plain t)) (Some (Entity u)) h = cc
one_sort (Some (Entity t)) (Some (Plain u)) h = cc
one_sort (Some (Entity t)) (Some (Entity u)) h = (Entity t, refl, ap (λ n. Some (Entity n)) (sym (eqb-true t u h)))

module _ (S : Schema) (G : Generators) where
  -- terms of one sort are of one kind, so that they are the sides of their equation
  sides : (t u : Term) (sort : Sort) → sort_of S G t ≡ Some sort → sort_of S G u ≡ Some sort → (left_of (equation_of t u) ≡ t) × (right_of (equation_of t u) ≡ u)
  sides (Ent t) (Ent u) sort h h' = (refl, refl)
  sides (Typ t) (Typ u) sort h h' = (refl, refl)
  sides (Ent t) (Typ u) sort h h' =
      let e = map_some Entity (entity_of S G t) sort h in
      let f = map_some Plain (type_of S G u) sort h' in
      absurd (apart e.0 f.0 (e.2 ∙ sym f.2))
  sides (Typ t) (Ent u) sort h h' =
      let e = map_some Entity (entity_of S G u) sort h' in
      let f = map_some Plain (type_of S G t) sort h in
      absurd (apart e.0 f.0 (e.2 ∙ sym f.2))

  agrees : (n : ℕ) (sort : Sort) → slice_get (sorts_of G) n ≡ Some sort → (g : Name × Sort) × (slice_get G n ≡ Some g) × (g.1 ≡ sort)
  agrees n sort h = map_some (λ (g : Name × Sort). g.1) (slice_get G n) sort (sym (slice_get-map (λ (g : Name × Sort). g.1) G n) ∙ h)

  abbrev side : Raw → Term
  side = resolved S (names_of G) (sorts_of G)

pub made_is : (S : Schema) (P : Presentation) (left right : Raw) (e : Equation) → Makes S P.generators left right e → IsWellSorted S P e
made_is S P left right e makes =
    let G : Generators = P.generators in
    let names = names_of G in
    let sorts = sorts_of G in
    let rules = of_five (has_unknown S names left || has_unknown S names right) (has_wrong_count S left || has_wrong_count S right)
    (not (are_of_one_sort (raw_sort S names sorts left) (raw_sort S names sorts right))) (has_reserved S left || has_reserved S right) (is_too_large left || is_too_large right)
    term_refusal.Unknown term_refusal.WrongCount term_refusal.WrongSort term_refusal.Reserved term_refusal.TooLarge makes.faultless in
    let free = neither (has_reserved S left) (has_reserved S right) rules.3 in
    let found = one_sort (raw_sort S names sorts left) (raw_sort S names sorts right) (not_false _ rules.2) in
    let first : sort_of S G (side S G left) ≡ Some found.0 = sort_of-resolved S G names sorts (agrees S G) left free.0 found.0 found.1 in
    let second : sort_of S G (side S G right) ≡ Some found.0 = sort_of-resolved S G names sorts (agrees S G) right free.1 found.0 found.2 in
    let same = sides S G (side S G left) (side S G right) found.0 first second in
    let left_is : left_of e ≡ side S G left = ap left_of makes.equation ∙ same.0 in
    let right_is : right_of e ≡ side S G right = ap right_of makes.equation ∙ same.1 in
    record {
      sort = found.0;
      left = ap (sort_of S G) left_is ∙ first;
      right = ap (sort_of S G) right_is ∙ second;
    }

use Rattle.std.proofs.Common.{true, false, Option, Some, None, ◌≡◌, sym, ap, ◌∙◌, refl, inr}
use Rattle.std.specs.Prelude.{option_map, is_some}
use Rattle.std.proofs.lemmas.Option.{same_Some}
use Rattle.cq_theory.specs.declared.presentation.Sort.{Sort}
use Rattle.cq_theory.specs.declared.term.Term.{Term}
use Rattle.cq_theory.specs.Parts.{equation_of}
use Rattle.cq_theory.specs.Resolve.{are_of_one_sort, raw_sort}
use Rattle.cq_theory.specs.Resolved.{resolved}
use Rattle.cq_theory.proofs.KnownTerms.{equation_fault-sorted, equation_fault-unsorted}
use Rattle.cq_theory.proofs.lookup.parts.resolve_equation.Goals as goal

-- the sorts of sides that are made with their sorts
made_sort : (t : Term) (sort : Option Sort) (made : Option (Term × Sort)) → made ≡ option_map (λ s. (t, s)) sort → option_map (λ m. m.1) made ≡ sort
made_sort t sort made h = ap (option_map (λ m. m.1)) h ∙ at_sort sort
  where
    at_sort : (o : Option Sort) → option_map (λ (m : Term × Sort). m.1) (option_map (λ s. (t, s)) o) ≡ o
    at_sort None = refl
    at_sort (Some s) = refl

-- the term of a side that is made with its sort
made_term : (t : Term) (sort : Option Sort) (made : Option (Term × Sort)) (r : Term) → made ≡ option_map (λ s. (t, s)) sort → option_map (λ m. m.0) made ≡ Some r → r ≡ t
made_term t sort made r h e = at_sort sort (sym (ap (option_map (λ (m : Term × Sort). m.0)) h) ∙ e)
  where
    at_sort : (o : Option Sort) → option_map (λ (m : Term × Sort). m.0) (option_map (λ s. (t, s)) o) ≡ Some r → r ≡ t
    at_sort None e' = cc e'
    at_sort (Some s) e' = sym (same_Some t r e')

pub returns-in-Some-sorted_sides_rule-clause-refused : goal.returns-in-Some-sorted_sides_rule-clause-refused
returns-in-Some-sorted_sides_rule-clause-refused c =
    let left = raw_sort c.args.schema.now c.args.names.now c.args.sorts.now c.args.left.now in
    let right = raw_sort c.args.schema.now c.args.names.now c.args.sorts.now c.args.right.now in
    let one : are_of_one_sort left right ≡ true =
    sym (ap (λ s. are_of_one_sort s right) (made_sort _ left _ c.in_ok-left_made.ensures))
    ∙ (sym (ap (are_of_one_sort (option_map (λ m. m.1) c.in_ok-left_made.left_made)) (made_sort _ right _ c.in_ok-right_made.ensures)) ∙ sym c.in-Some.ensures.same) in
    inr (sym (equation_fault-sorted c.args.schema.now c.args.names.now c.args.sorts.now (c.args.left.now, c.args.right.now) one)
    ∙ (sym c.sorted_sides_rule.ensures ∙ c.in-Some-sorted_sides_rule.is))

pub returns-in-None-clause-accepted : goal.returns-in-None-clause-accepted
returns-in-None-clause-accepted c =
    let left = raw_sort c.args.schema.now c.args.names.now c.args.sorts.now c.args.left.now in
    let right = raw_sort c.args.schema.now c.args.names.now c.args.sorts.now c.args.right.now in
    let one : are_of_one_sort left right ≡ true =
    sym (ap (λ s. are_of_one_sort s right) (made_sort _ left _ c.in_ok-left_made.ensures))
    ∙ (sym (ap (are_of_one_sort (option_map (λ m. m.1) c.in_ok-left_made.left_made)) (made_sort _ right _ c.in_ok-right_made.ensures)) ∙ sym c.in-Some.ensures.same) in
    sym (equation_fault-sorted c.args.schema.now c.args.names.now c.args.sorts.now (c.args.left.now, c.args.right.now) one)
    ∙ (sym c.sorted_sides_rule.ensures ∙ c.in-None.is)

pub returns-in-None-clause-made : goal.returns-in-None-clause-made
returns-in-None-clause-made c =
    let f = resolved c.args.schema.now c.args.names.now c.args.sorts.now in
    c.make_equation.ensures
    ∙ ap (λ t. equation_of t c.in-Some.right_term) (made_term (f c.args.left.now) _ c.in_ok-left_made.left_made c.in-Some.left_term c.in_ok-left_made.ensures c.in-Some.ensures.terms.0)
    ∙ ap (equation_of (f c.args.left.now)) (made_term (f c.args.right.now) _ c.in_ok-right_made.right_made c.in-Some.right_term c.in_ok-right_made.ensures c.in-Some.ensures.terms.1)

pub returns-in_default-clause-refused : goal.returns-in_default-clause-refused
returns-in_default-clause-refused c =
    let left = raw_sort c.args.schema.now c.args.names.now c.args.sorts.now c.args.left.now in
    let right = raw_sort c.args.schema.now c.args.names.now c.args.sorts.now c.args.right.now in
    let other : are_of_one_sort left right ≡ false =
    sym (ap (λ s. are_of_one_sort s right) (made_sort _ left _ c.in_ok-left_made.ensures))
    ∙ (sym (ap (are_of_one_sort (option_map (λ m. m.1) c.in_ok-left_made.left_made)) (made_sort _ right _ c.in_ok-right_made.ensures))
    ∙ sym c.terms_of_one_sort.ensures.same ∙ ap is_some c.in_default.is) in
    inr (equation_fault-unsorted c.args.schema.now c.args.names.now c.args.sorts.now (c.args.left.now, c.args.right.now) other ∙ ap Some (sym c.unsorted_sides_rule.ensures))

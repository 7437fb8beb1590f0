use Rattle.std.proofs.Common.{true, ◌≡◌, ◌++◌, refl, sym, subst, ◌∙◌}
use Rattle.std.specs.Prelude.{MatchOption}
use Rattle.cq_theory.specs.declared.term.Term.TheVariants.{Typ}
use Rattle.cq_theory.specs.declared.value.Value.{Value}
use Rattle.cq_theory.specs.Sorts.{IsGround}
use Rattle.cq_theory.specs.Tables.{value_of}
use Rattle.cq_theory.specs.ValueText.{is_named}
use Rattle.cq_witness.specs.Sides.{values, two_values_text}
use Rattle.cq_witness.proofs.Meant.{meant_named, same_value}
use Rattle.cq_witness.proofs.sides.append_values.Goals as goal

pub append_texts-requires-clause-first : goal.append_texts-requires-clause-first
append_texts-requires-clause-first c =
    let i = c.args.instance.now in
    let t = c.args.left.now in
    let first = subst (λ o. MatchOption o (IsGround i.schema i.presentation (Typ t) → ⊥) (λ v. IsGround i.schema i.presentation (Typ t) × (v ≡ value_of i.tables i.assignment t))) c.in-Some.is c.in_ok-first.ensures in
    subst (λ (v : Value). is_named i.schema.typeside v ≡ true) (sym first.1) (meant_named i t c.is_instance.ensures first.0)

pub append_texts-requires-clause-second : goal.append_texts-requires-clause-second
append_texts-requires-clause-second c =
    let i = c.args.instance.now in
    let t = c.args.right.now in
    let second = subst (λ o. MatchOption o (IsGround i.schema i.presentation (Typ t) → ⊥) (λ v. IsGround i.schema i.presentation (Typ t) × (v ≡ value_of i.tables i.assignment t))) c.in-Some-2.is c.in_ok-second.ensures in
    subst (λ (v : Value). is_named i.schema.typeside v ≡ true) (sym second.1) (meant_named i t c.is_instance.ensures second.0)

pub returns : goal.returns
returns c =
    let i = c.args.instance.now in
    let t = c.args.left.now in
    let u = c.args.right.now in
    let first = subst (λ o. MatchOption o (IsGround i.schema i.presentation (Typ t) → ⊥) (λ v. IsGround i.schema i.presentation (Typ t) × (v ≡ value_of i.tables i.assignment t))) c.in-Some.is c.in_ok-first.ensures in
    let second = subst (λ o. MatchOption o (IsGround i.schema i.presentation (Typ u) → ⊥) (λ v. IsGround i.schema i.presentation (Typ u) × (v ≡ value_of i.tables i.assignment u))) c.in-Some-2.is c.in_ok-second.ensures in
    values t u refl refl
    (record {
      left = first.0;
      right = second.0;
      apart = λ same.
          let one = c.is_same_value.ensures.1 (first.1 ∙ same_value _ _ same ∙ sym second.1) in
          let no = c.if-is_same_value.false in
          cc (one, no);
    })
    (c.in_ok-append_texts.ensures ∙ (λ k. c.args.out.now.items ++ two_values_text i (first.1 k) (second.1 k)))

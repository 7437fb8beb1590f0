use Rattle.std.proofs.Common.{List, [], ◌∷◌, Bor, map, refl, sym, subst}
use Rattle.std.specs.Prelude.{MatchOption}
use Rattle.cq_check.specs.Asking.{AreWellSorted}
use Rattle.cq_check.specs.Deciding.{IsFirst, AreAllDerived}
use Rattle.cq_check.proofs.Depths.{one_sorted, one_cause, told_not_derivable, told_deep, told_many}
use Rattle.cq_theory.specs.declared.presentation.Equation.{Equation}
use Rattle.cq_check.proofs.duties.check_duty.Goals as goal

pub first_unmet-requires-clause-sorted : goal.first_unmet-requires-clause-sorted
first_unmet-requires-clause-sorted c =
    subst (λ (l : List (Bor Equation)). AreWellSorted c.args.prepared.now.schema.now c.args.presentation.now (map (λ (x : Bor Equation). x.now) l)) (sym c.from_ref-one.ensures.value)
    (one_sorted c.args.prepared.now.schema.now c.args.presentation.now c.args.equation.now c.requires.sorted)

pub returns-in-Ok-None-clause-derived : goal.returns-in-Ok-None-clause-derived
returns-in-Ok-None-clause-derived c =
    let all : AreAllDerived c.args.prepared.now.schema.now c.args.presentation.now (map (λ (x : Bor Equation). x.now) c.from_ref-one.result.now) =
    subst (λ o. MatchOption o (AreAllDerived c.args.prepared.now.schema.now c.args.presentation.now (map (λ (x : Bor Equation). x.now) c.from_ref-one.result.now))
    (IsFirst c.args.prepared.now.schema.now c.args.presentation.now c.args.depth (map (λ (x : Bor Equation). x.now) c.from_ref-one.result.now))) c.in-Ok-None.field-0-is c.in-Ok-None.ensures in
    subst (λ (l : List (Bor Equation)). AreAllDerived c.args.prepared.now.schema.now c.args.presentation.now (map (λ (x : Bor Equation). x.now) l)) c.from_ref-one.ensures.value all 0 c.args.equation.now refl

pub returns-in-Ok-Some-clause-not_derivable : goal.returns-in-Ok-Some-clause-not_derivable
returns-in-Ok-Some-clause-not_derivable c = λ n same.
    let e : Equation = c.args.equation.now in
    let told : IsFirst c.args.prepared.now.schema.now c.args.presentation.now c.args.depth (e ∷ []) c.in-Ok-Some.unmet =
    subst (λ (l : List (Bor Equation)). IsFirst c.args.prepared.now.schema.now c.args.presentation.now c.args.depth (map (λ (x : Bor Equation). x.now) l) c.in-Ok-Some.unmet) c.from_ref-one.ensures.value
    (subst (λ o. MatchOption o (AreAllDerived c.args.prepared.now.schema.now c.args.presentation.now (map (λ (x : Bor Equation). x.now) c.from_ref-one.result.now))
    (IsFirst c.args.prepared.now.schema.now c.args.presentation.now c.args.depth (map (λ (x : Bor Equation). x.now) c.from_ref-one.result.now))) c.in-Ok-Some.field-0-is c.in-Ok-Some.ensures) in
    told_not_derivable c.args.prepared.now.schema.now c.args.presentation.now e c.args.depth c.args.number n c.in-Ok-Some.unmet.cause c.refusal.result c.refusal.ensures
    (one_cause c.args.prepared.now.schema.now c.args.presentation.now e c.args.depth c.in-Ok-Some.unmet told) same

pub returns-in-Ok-Some-clause-deep : goal.returns-in-Ok-Some-clause-deep
returns-in-Ok-Some-clause-deep c = λ n same.
    let e : Equation = c.args.equation.now in
    let told : IsFirst c.args.prepared.now.schema.now c.args.presentation.now c.args.depth (e ∷ []) c.in-Ok-Some.unmet =
    subst (λ (l : List (Bor Equation)). IsFirst c.args.prepared.now.schema.now c.args.presentation.now c.args.depth (map (λ (x : Bor Equation). x.now) l) c.in-Ok-Some.unmet) c.from_ref-one.ensures.value
    (subst (λ o. MatchOption o (AreAllDerived c.args.prepared.now.schema.now c.args.presentation.now (map (λ (x : Bor Equation). x.now) c.from_ref-one.result.now))
    (IsFirst c.args.prepared.now.schema.now c.args.presentation.now c.args.depth (map (λ (x : Bor Equation). x.now) c.from_ref-one.result.now))) c.in-Ok-Some.field-0-is c.in-Ok-Some.ensures) in
    told_deep c.args.prepared.now.schema.now c.args.presentation.now e c.args.depth c.args.number n c.in-Ok-Some.unmet.cause c.refusal.result c.refusal.ensures
    (one_cause c.args.prepared.now.schema.now c.args.presentation.now e c.args.depth c.in-Ok-Some.unmet told) same

pub returns-in-Ok-Some-clause-many : goal.returns-in-Ok-Some-clause-many
returns-in-Ok-Some-clause-many c = λ n same.
    let e : Equation = c.args.equation.now in
    let told : IsFirst c.args.prepared.now.schema.now c.args.presentation.now c.args.depth (e ∷ []) c.in-Ok-Some.unmet =
    subst (λ (l : List (Bor Equation)). IsFirst c.args.prepared.now.schema.now c.args.presentation.now c.args.depth (map (λ (x : Bor Equation). x.now) l) c.in-Ok-Some.unmet) c.from_ref-one.ensures.value
    (subst (λ o. MatchOption o (AreAllDerived c.args.prepared.now.schema.now c.args.presentation.now (map (λ (x : Bor Equation). x.now) c.from_ref-one.result.now))
    (IsFirst c.args.prepared.now.schema.now c.args.presentation.now c.args.depth (map (λ (x : Bor Equation). x.now) c.from_ref-one.result.now))) c.in-Ok-Some.field-0-is c.in-Ok-Some.ensures) in
    told_many c.args.prepared.now.schema.now c.args.presentation.now e c.args.depth c.args.number n c.in-Ok-Some.unmet.cause c.refusal.result c.refusal.ensures
    (one_cause c.args.prepared.now.schema.now c.args.presentation.now e c.args.depth c.in-Ok-Some.unmet told) same

use Rattle.std.proofs.Common.{ℕ, Bool, List, false, ◌≡◌, ◌<◌, ◌+◌, ◌-◌, length, sym, ap, subst, ◌∙◌, arith}
use Rattle.std.specs.Prelude.{slice_get, slice_index, nat_le}
use Rattle.std.proofs.lemmas.Bool.{leb-true}
use Rattle.std.proofs.lemmas.List.{length-replicate, length-set, get_or_default}
use Rattle.cq_theory.specs.declared.presentation.Equation.{Equation}
use Rattle.cq_eval.proofs.Firsts.{IsFirstFrom, AreBorders, first_from, border_more, none_true}
use Rattle.cq_eval.proofs.borders.borders.Goals as goal

pub loop-step-init : goal.loop-step-init
loop-step-init c =
    let width : ℕ = length c.args.counts.now in
    record {
      long = ap length c.in_ok-borders.ensures ∙ length-replicate width false;
      first = λ n e at later. absurd (omega (arith, later));
      are = λ bound at. absurd (none_true width bound (ap (λ (l : List Bool). slice_get l bound) (sym c.in_ok-borders.ensures) ∙ at));
    }

pub loop-step-preserved : goal.loop-step-preserved
loop-step-preserved c =
    let width : ℕ = length c.args.counts.now in
    let tests : List Equation = c.args.tests.now in
    let bound : ℕ = width - 1 - c.loop-step.step in
    let firsts : List ℕ = c.in_ok-firsts.firsts.items in
    let less : c.loop-step.step < width = c.loop-step-test.true in
    let next : width - c.loop-step.step ≡ bound + 1 = omega (arith, less) in
    let here : bound ≡ width - (c.loop-step.step + 1) = omega (arith, less) in
    let inside : bound + 1 < length firsts = omega (arith, less, c.in_ok-firsts.ensures.long) in
    let read : c.index.result.now ≡ slice_index firsts (bound + 1) = c.index.ensures ∙ get_or_default firsts (bound + 1) c.index.result.now 0 inside in
    let first : ℕ = c.min-first.result in
    let from : IsFirstFrom width tests bound first =
    first_from width tests firsts c.in_ok-firsts.ensures bound c.loop-step.first first (subst (λ n. IsFirstFrom width tests n c.loop-step.first) next c.loop-step.invariant.first)
    (omega (arith, c.min-first.ensures)) (omega (arith, c.min-first.ensures, read)) in
    record {
      long = ap length c.mark.ensures ∙ length-set c.loop-step.borders.items bound (nat_le bound first) ∙ c.loop-step.invariant.long;
      first = subst (λ n. IsFirstFrom width tests n first) here from;
      are = subst (AreBorders width tests) (sym c.mark.ensures)
          (border_more width tests c.loop-step.borders.items bound first (nat_le bound first) c.loop-step.invariant.are from (λ is. leb-true bound first is));
    }

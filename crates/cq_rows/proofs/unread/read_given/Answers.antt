use Rattle.std.proofs.Common.{◌∙◌, Some, length, subst, ap, arith}
use Rattle.cq_rows.specs.Plain.{entity_sides}
use Rattle.cq_rows.specs.Unread.{HasNone}
use Rattle.cq_rows.proofs.Cells.{mapped_within}
use Rattle.cq_rows.proofs.ReadKeys.{given_skip, given_more}
use Rattle.cq_rows.proofs.unread.read_given.Goals as goal

pub loop-equation-preserved-in_default : goal.loop-equation-preserved-in_default
loop-equation-preserved-in_default c =
    let are = c.as_slice-equation-items.ensures in
    record {
      none = given_skip c.loop-equation.free c.as_slice-equation-items.result.now c.args.presentation.now.equations c.loop-equation.equation-index c.equation-item.result are
          (omega (arith, c.loop-equation-test.true, ap length are)) c.equation-item.is c.in_default.not-Ent c.loop-equation.invariant.none;
      kept = c.loop-equation.invariant.kept;
      len = c.loop-equation.invariant.len;
    }

pub loop-equation-preserved : goal.loop-equation-preserved
loop-equation-preserved c =
    let are = c.as_slice-equation-items.ensures in
    let half = c.read_path.new.free in
    let new = c.read_path-in-loop-equation.new.free in
    record {
      none = given_more c.loop-equation.free half new c.as_slice-equation-items.result.now c.args.presentation.now.equations c.loop-equation.equation-index c.equation-item.result c.in-Ent.left c.in-Ent.right are
          (omega (arith, c.loop-equation-test.true, ap length are)) c.equation-item.is c.in-Ent.is c.read_path.ensures.kept c.read_path-in-loop-equation.ensures.kept
          (subst (HasNone half) c.as_slice.ensures c.read_path.ensures.none)
          (subst (HasNone new) c.as_slice-in-loop-equation.ensures c.read_path-in-loop-equation.ensures.none) c.loop-equation.invariant.none;
      kept = λ k read. c.read_path-in-loop-equation.ensures.kept k (c.read_path.ensures.kept k (c.loop-equation.invariant.kept k read));
      len = c.read_path-in-loop-equation.ensures.len ∙ c.read_path.ensures.len ∙ c.loop-equation.invariant.len;
    }

pub returns-clause-none : goal.returns-clause-none
returns-clause-none c = λ i t u at. c.loop-equation.invariant.none i t u
    (omega (arith, mapped_within entity_sides c.args.presentation.now.equations i (Some (t, u)) at, ap length c.as_slice-equation-items.ensures, c.loop-equation-test.false, c.loop-equation.auto.equation-index-end)) at

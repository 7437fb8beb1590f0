use Rattle.std.proofs.Common.{ℕ, List, [], ◌∷◌, ◌++◌, ◌≡◌, ◌≤◌, ◌+◌, map, sum, length, sym, ap, ◌∙◌, arith}
use Rattle.std.proofs.lemmas.List.{take_all}
use Rattle.cq_base.specs.declared.name.Name.{Name}
use Rattle.cq_theory.specs.Canonical.{below}
use Rattle.cq_mapping.proofs.Ranges.{map_below_more}
use Rattle.cq_query.specs.Translation.{variables_at}
use Rattle.cq_compose.specs.Counting.{widths, start_in}
use Rattle.cq_compose.proofs.Sizing.{start_more, sum_of_first}
use Rattle.cq_compose.proofs.composite.find_starts.Goals as goal

pub overflow_add-total : goal.overflow_add-total
overflow_add-total c = omega (arith, c.loop-var.invariant.few, c.is_well_sorted.ensures.few c.var-item.result.1, c.width_at-width.ensures)

pub returns-then-total : goal.returns-then-total
returns-then-total c =
    let Q = c.args.first.now in
    let vars = c.args.vars.now in
    let i : ℕ = c.loop-var.var-index in
    let grown : c.loop-var.total + c.width_at-width.result ≡ start_in c.args.first.now c.args.vars.now (c.loop-var.var-index + 1) =
    (λ j. c.loop-var.invariant.total j + c.width_at-width.ensures j) ∙ ap (λ (v : Name × ℕ). start_in Q vars i + length (variables_at Q v.1)) c.var-item.is
    ∙ sym (start_more Q vars i c.var-item.result c.loop-var-test.true) in
    omega (arith, grown, sum_of_first (λ (v : Name × ℕ). length (variables_at Q v.1)) vars (i + 1), c.if-total.true)

pub loop-var-preserved : goal.loop-var-preserved
loop-var-preserved c =
    let Q = c.args.first.now in
    let vars = c.args.vars.now in
    let i : ℕ = c.loop-var.var-index in
    record {
      total = (λ j. c.loop-var.invariant.total j + c.width_at-width.ensures j) ∙ ap (λ (v : Name × ℕ). start_in Q vars i + length (variables_at Q v.1)) c.var-item.is
          ∙ sym (start_more Q vars i c.var-item.result c.loop-var-test.true);
      starts = c.in_ok-push.ensures.items ∙ (λ j. c.loop-var.invariant.starts j ++ c.loop-var.invariant.total j ∷ []) ∙ sym (map_below_more (start_in Q vars) i);
      few = omega (arith, c.if-total.false);
    }

pub returns : goal.returns
returns c =
    let Q = c.args.first.now in
    let vars = c.args.vars.now in
    let same : c.loop-var.var-index ≡ length c.args.vars.now = omega (arith, c.loop-var.auto.var-index-end, c.loop-var-test.false) in
    let all : c.loop-var.total ≡ sum (widths c.args.first.now c.args.vars.now) = c.loop-var.invariant.total ∙ ap (λ l. sum (widths Q l)) (take_all c.loop-var.var-index vars c.loop-var-test.false) in
    (c.loop-var.invariant.starts ∙ ap (λ n. map (start_in Q vars) (below n)) same, omega (arith, all, c.loop-var.invariant.few))

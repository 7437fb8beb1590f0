use Rattle.std.proofs.Common.{ℕ, Option, get_or, sym, ap, ◌∙◌}
use Rattle.std.specs.Prelude.{option_map}
use Rattle.cq_theory.specs.Resolve.{or_else}
use Rattle.cq_blocks.specs.declared.parts.Clause.{Clause}
use Rattle.cq_blocks.specs.Index.{at_place}
use Rattle.cq_blocks.specs.Blocks.{assigned_given}
use Rattle.cq_blocks.proofs.Assigning.{first_more}
use Rattle.cq_blocks.proofs.assigned.assigned_among.Goals as goal

pub loop-place-preserved : goal.loop-place-preserved
loop-place-preserved c = λ q.
    let f : ℕ → Option ℕ = λ place. option_map (λ _. place) (at_place (λ (part : ℕ × Clause). assigned_given c.args.target.now c.args.key q part.1) c.args.clauses.now place) in
    c.in_ok-add_place.ensures q ∙ ap (λ o. or_else o (f (get_or c.args.places.now c.loop-place.place-index 0))) (c.loop-place.invariant q) ∙ sym (first_more f c.args.places.now c.loop-place.place-index 0 c.loop-place-test.true)

use Rattle.std.proofs.Common.{ℕ, ◌∙◌, ap}
use Rattle.std.specs.Prelude.{option_and_then}
use Rattle.cq_blocks.specs.declared.parts.Clause.{Clause}
use Rattle.cq_blocks.specs.Index.{at_place}
use Rattle.cq_blocks.specs.Blocks.{assigned_given}
use Rattle.std.proofs.lemmas.Result.{IfOk-weaker}
use Rattle.cq_blocks.proofs.Indexing.{key_places, assigned_found}
use Rattle.cq_blocks.proofs.Assigning.{given_first}
use Rattle.cq_blocks.proofs.assigned.make_assigned.Goals as goal

pub of-places-requires : goal.of-places-requires
of-places-requires c = key_places c.args.target.now c.args.clauses.now c.args.index.now c.requires.index c.args.key c.requires.key

pub returns : goal.returns
returns c = IfOk-weaker c.assigned_among.result _ _ (λ made h. λ v.
    ap (option_and_then (at_place (λ (part : ℕ × Clause). assigned_given c.args.target.now c.args.key v part.1) c.args.clauses.now)) (h v)
    ∙ given_first (at_place (λ (part : ℕ × Clause). assigned_given c.args.target.now c.args.key v part.1) c.args.clauses.now) c.of-places.result.now
    ∙ assigned_found c.args.target.now c.args.clauses.now c.args.index.now c.requires.index c.args.key v c.requires.key c.of-places.result.now c.of-places.ensures)
    c.assigned_among.ensures

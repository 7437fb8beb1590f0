use Rattle.std.proofs.Common.{ℕ, List, ◌<◌, sym, subst, arith}
use Rattle.std.specs.Prelude.{slice_index}
use Rattle.cq_instance.specs.Terms.{IsOnWay}
use Rattle.cq_eval.proofs.index.path_index_of.Goals as goal

pub along-requires-clause-way : goal.along-requires-clause-way
along-requires-clause-way c =
    subst (λ (path : List ℕ). (row : ℕ) → row < slice_index c.args.counts.now c.args.given.side.now.generator → (target : ℕ) × IsOnWay c.args.instance.now.schema c.args.instance.now.tables path row target)
    (sym c.as_slice.ensures) (c.requires.way (omega arith))

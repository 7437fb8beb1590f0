use Rattle.std.proofs.Common.{ℕ, List, ◌∷◌, [], ◌≡◌, ◌<◌, get_or, map, sym, subst, arith}
use Rattle.std.specs.Prelude.{IfOk}
use Rattle.cq_theory.specs.Canonical.{below}
use Rattle.cq_theory.specs.Tables.{row_from}
use Rattle.cq_theory.specs.Groups.{positions}
use Rattle.cq_instance.specs.Terms.{IsOnWay}
use Rattle.cq_eval.proofs.Keeping.{only_key}
use Rattle.cq_eval.proofs.kept.Kept.along.Goals as goal

pub of_keys-requires-clause-way : goal.of_keys-requires-clause-way
of_keys-requires-clause-way c =
    let only : c.args.path.now ≡ get_or c.args.path.now 0 0 ∷ [] = sym (only_key c.args.path.now (omega arith) (omega arith)) in
    subst (λ (path : List ℕ). (row : ℕ) → row < c.args.count → (target : ℕ) × IsOnWay c.args.instance.now.schema c.args.instance.now.tables path row target) only c.requires.way

pub returns-in-len1-clause-index : goal.returns-in-len1-clause-index
returns-in-len1-clause-index c =
    subst (λ (path : List ℕ). IfOk c.of_keys.result (λ index. (row : ℕ) → get_or index.value row [] ≡ positions (map (λ start. row_from c.args.instance.now.tables start path) (below c.args.count)) row))
    (only_key c.args.path.now (omega arith) (omega arith)) c.of_keys.ensures.index

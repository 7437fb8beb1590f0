use Rattle.std.proofs.Common.{ℕ, ◌≡◌, drop}
use Rattle.cq_theory.specs.Tables.{row_from}
use Rattle.cq_instance.specs.Terms.{IsOnWay}
use Rattle.cq_instance.proofs.instance.Instance.row_along.Given as goal

abbrev pub invariant-loop-key : goal.invariant-loop-key
invariant-loop-key l = record {
  rest : row_from l.self.tables l.reached (drop l.key-index l.path) ≡ row_from l.self.tables l.row l.path;
  on_way : (target : ℕ) → IsOnWay l.self.schema l.self.tables l.path l.row target → IsOnWay l.self.schema l.self.tables (drop l.key-index l.path) l.reached target;
}

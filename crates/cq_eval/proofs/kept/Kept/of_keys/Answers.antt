use Rattle.std.proofs.Common.{rules, ◌≡◌, sym, subst}
use Rattle.cq_theory.specs.Tables.{Tables}
use Rattle.cq_eval.specs.Kept.{AreKept}
use Rattle.cq_eval.proofs.kept.Kept.of_keys.Goals as goal
use Rattle.cq_eval.proofs.kept.Kept.of_keys.Goals.{in-Some-Some+else-kept-key, else-kept-key-via-then-kept-key+else-kept-count, else-kept-key-via-else-kept-key, in-Some+in-None-1, in-None-1}

pub returns-clause-kept : goal.returns-clause-kept
returns-clause-kept c =
    let M : Tables = c.args.instance.now.tables in
    let same : c.match-get.self ≡ c.args.self.now =
    elim c.match-get.branch [
      | in-Some-Some+else-kept-key w ↦ elim w.else-kept-key.branch [ else-kept-key-via-then-kept-key+else-kept-count v ↦ cc | else-kept-key-via-else-kept-key v ↦ cc ]
      | in-Some+in-None-1 w ↦ w.self-is
      | in-None-1 w ↦ w.self-is
    ]
    in
    c.in_ok-keep_keys.ensures M (subst (AreKept M) (sym same) c.requires.kept) (search rules)

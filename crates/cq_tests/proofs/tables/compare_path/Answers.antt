use Rattle.std.proofs.Common.{◌≡◌, refl, arith}
use Rattle.cq_tables.specs.Content.{entity_of, step_of}
use Rattle.cq_tests.proofs.tables.compare_path.Goals as goal

pub trace-requires-clause-path : goal.trace-requires-clause-path
unfolding step_of
trace-requires-clause-path g c =
    let kind : entity_of c.args.tables.now c.args.row ≡ 0 = omega arith in
    rw (c.requires.keys, kind) refl

use Rattle.std.proofs.Common.{◌+◌, ◌<◌, ◌≤◌, inr, length, refl, arith}
use Rattle.cq_query.specs.Coeval.{null_start}
use Rattle.cq_query.proofs.Copying.{many_generators, checked}
use Rattle.cq_query.proofs.coeval.coeval_from.Goals as goal

pub returns-then-nulls-first-clause-refused : goal.returns-then-nulls-first-clause-refused
returns-then-nulls-first-clause-refused c =
    let many : 16000000 < null_start c.args.query.now c.args.sheet.now.counts + length c.args.algebra.now.nulls = omega (arith, c.if-nulls-first.true, c.len-nulls.ensures, c.requires.first, c.requires.small) in
    inr (refl, many_generators c.args.query.now (record { sheet = c.args.sheet.now; algebra = c.args.algebra.now }) many)

pub returns-clause-accepted : goal.returns-clause-accepted
returns-clause-accepted c =
    let few : null_start c.args.query.now c.args.sheet.now.counts + length c.args.algebra.now.nulls ≤ 16000000 = omega (arith, c.if-nulls-first.false, c.len-nulls.ensures, c.requires.first, c.requires.small) in
    checked c.args.query.now (record { sheet = c.args.sheet.now; algebra = c.args.algebra.now }) c.check_size.result c.in_ok-made.made c.in_ok-made.ensures few c.check_size.ensures.ok

pub build_coeval-requires-clause-layout : goal.build_coeval-requires-clause-layout
build_coeval-requires-clause-layout c = record {
  starts = c.requires.starts;
  first = c.requires.first;
  small = omega (arith, c.if-nulls-first.false, c.len-nulls.ensures, c.requires.first, c.requires.small);
}

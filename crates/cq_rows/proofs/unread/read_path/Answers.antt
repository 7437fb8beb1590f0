use Rattle.std.proofs.Common.{◌∙◌, ◌<◌, false, length, arith}
use Rattle.std.specs.Prelude.{slice_index_or}
use Rattle.std.proofs.lemmas.List.{length-set}
use Rattle.std.proofs.lemmas.Option.{slice_get-get_or, slice_get_within}
use Rattle.cq_rows.proofs.ReadKeys.{read_past, read_set, set_stays}
use Rattle.cq_rows.proofs.unread.read_path.Goals as goal

pub loop-key-preserved-then-key-free : goal.loop-key-preserved-then-key-free
loop-key-preserved-then-key-free c =
    let n = c.loop-key.key-index in
    let path = c.args.path.now in
    record {
      none = read_past c.loop-key.free path n (slice_index_or path n 0) (slice_get-get_or path n 0 c.loop-key-test.true) (omega (arith, c.if-key-free.true)) c.loop-key.invariant.none;
      kept = c.loop-key.invariant.kept;
      len = c.loop-key.invariant.len;
    }

pub loop-key-preserved : goal.loop-key-preserved
loop-key-preserved c =
    let n = c.loop-key.key-index in
    let path = c.args.path.now in
    let key = slice_index_or path n 0 in
    let inside : key < length c.loop-key.free = omega (arith, c.if-key-free.false) in
    record {
      none = read_set c.loop-key.free path n key (slice_get-get_or path n 0 c.loop-key-test.true) inside c.loop-key.invariant.none;
      kept = λ k read. set_stays c.loop-key.free key inside k (c.loop-key.invariant.kept k read);
      len = length-set c.loop-key.free key false ∙ c.loop-key.invariant.len;
    }

pub returns-clause-none : goal.returns-clause-none
returns-clause-none c = λ i k at. c.loop-key.invariant.none i k (omega (arith, slice_get_within c.args.path.now i k at, c.loop-key-test.false)) at

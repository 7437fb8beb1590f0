use Rattle.std.proofs.Common.{◌≤◌, length, sym, arith}
use Rattle.std.specs.List.{range_with_len}
use Rattle.std.proofs.lemmas.List.{get_or_past}
use Rattle.std.proofs.lemmas.List.FromFn.{get_or-range_with_len, length-range_with_len}
use Rattle.cq_terms.proofs.values.null_generator.Goals as goal

pub returns-then-label-count : goal.returns-then-label-count
returns-then-label-count c = sym (get_or-range_with_len c.args.first c.args.count c.args.label 0 (omega arith))

pub returns-else-label-count : goal.returns-else-label-count
returns-else-label-count c =
    let size = length-range_with_len c.args.first c.args.count in
    let past : length (range_with_len c.args.first c.args.count) ≤ c.args.label = omega arith in
    sym (get_or_past (range_with_len c.args.first c.args.count) c.args.label 0 past)

use Rattle.std.proofs.Common.{sym, ap, ◌∙◌}
use Rattle.std.specs.Prelude.{nat_lt}
use Rattle.cq_compose.specs.Counting.{translated_symbols}
use Rattle.cq_compose.proofs.Measuring.{no_room, symbols-translated}
use Rattle.cq_compose.proofs.lengths.is_long_translated.Goals as goal

pub returns : goal.returns
returns c =
    no_room c.room_after_translated.result c.is_none.result 1024 (translated_symbols c.args.frame.now c.args.term.now) c.is_none.ensures c.room_after_translated.ensures
    ∙ ap (nat_lt 1024) (sym (symbols-translated c.args.frame.now c.args.term.now))

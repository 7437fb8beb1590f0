use Rattle.std.proofs.Common.{◌∙◌}
use Rattle.cq_compose.specs.Counting.{keys_of}
use Rattle.cq_compose.proofs.Measuring.{no_room, one_less}
use Rattle.cq_compose.proofs.lengths.is_long_component.Goals as goal

pub returns : goal.returns
returns c =
    no_room c.room_after_component.result c.is_none.result 1023 (keys_of c.args.frame.now c.args.term.now c.args.place) c.is_none.ensures c.room_after_component.ensures
    ∙ one_less (keys_of c.args.frame.now c.args.term.now c.args.place)

use Rattle.std.proofs.Common.{refl}
use Rattle.cq_export.specs.declared.handing.Handed.TheVariants as handed
use Rattle.cq_run.specs.Writing.{no_room, no_sink}
use Rattle.cq_run.proofs.Gives.{handed_after, lacks_room}
use Rattle.cq_run.proofs.top.export.Goals as goal

pub returns-in_default : goal.returns-in_default
returns-in_default g c = no_room refl (rw c.reserve.ensures.items refl)

pub returns-in_default-write_all : goal.returns-in_default-write_all
returns-in_default-write_all g c =
    no_sink
    (record {
      written = rw (← c.as_slice.ensures.value) c.in_default-write_all.ensures.err;
      cause = c.in_default-write_all.ensures.failed;
      no_room = rw (← c.as_slice.ensures.value) (lacks_room _ _ _ _ c.in_default-write_all.ensures.spare);
    })
    (rw c.reserve.ensures.items refl)

pub returns-in-Whole : goal.returns-in-Whole
returns-in-Whole g c =
    handed_after _ _ _ _ _ _ _ _ _ _ handed.Whole c.reserve.ensures.items (rw (← c.as_slice.ensures.value) c.in-Ok-write_all.ensures.ok) c.in-Whole.ensures

pub returns-in-Spoiled : goal.returns-in-Spoiled
returns-in-Spoiled g c =
    handed_after _ _ _ _ _ _ _ _ _ _ handed.Spoiled c.reserve.ensures.items (rw (← c.as_slice.ensures.value) c.in-Ok-write_all.ensures.ok) c.in-Spoiled.ensures

pub returns-in-Memory : goal.returns-in-Memory
returns-in-Memory g c =
    handed_after _ _ _ _ _ _ _ _ _ _ handed.Memory c.reserve.ensures.items (rw (← c.as_slice.ensures.value) c.in-Ok-write_all.ensures.ok) c.in-Memory.ensures

use Rattle.std.proofs.Common.{◌≡◌, ◌∙◌, map, sym}
use Rattle.cq_rows.specs.Plain.{ends_of}
use Rattle.cq_rows.proofs.WellSorted.{ends_in}
use Rattle.cq_rows.proofs.grow.look_ahead.Goals as goal

pub weight-cells-requires : goal.weight-cells-requires
weight-cells-requires c =
    let keys : c.deref.result.now ≡ map ends_of c.args.origin.now.schema.now.keys = c.deref.ensures.value ∙ c.requires.frame.keys in
    record {
      range = rw (keys, c.requires.entities) (ends_in c.args.origin.now.schema.now c.requires.schema);
      keys = c.requires.keys ∙ sym keys;
      whole = c.requires.whole;
    }

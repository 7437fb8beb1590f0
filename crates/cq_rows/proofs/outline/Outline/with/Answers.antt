use Rattle.std.proofs.Common.{◌≡◌, ◌∙◌, length, map, ap, arith}
use Rattle.std.proofs.lemmas.List.{length-map}
use Rattle.cq_rows.specs.Plain.{ends_of}
use Rattle.cq_rows.proofs.WellSorted.{ends_in}
use Rattle.cq_rows.proofs.outline.Outline.with.Goals as goal

pub new-requires : goal.new-requires
new-requires c =
    let keys : c.deref.result.now ≡ map ends_of c.args.schema.now.keys = c.deref.ensures.value ∙ c.in_ok-keys.ensures in
    record {
      few = omega (arith, ap length keys, length-map c.args.schema.now.keys ends_of, c.is_well_sorted.ensures.key_numbers);
      range = rw (keys, c.count_entities.ensures) (ends_in c.args.schema.now c.is_well_sorted.ensures);
    }

pub returns-clause-frame : goal.returns-clause-frame
returns-clause-frame c =
    let keys : c.deref.result.now ≡ map ends_of c.args.schema.now.keys = c.deref.ensures.value ∙ c.in_ok-keys.ensures in
    record {
      keys = c.in_ok-keys.ensures;
      blank = record {
        keys = c.in_ok-tables.ensures.keys ∙ keys;
        entities = c.in_ok-tables.ensures.entities ∙ c.count_entities.ensures;
        empty = c.in_ok-tables.ensures.empty;
      };
    }

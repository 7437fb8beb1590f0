-- What merging starts from is there again after it.
use Rattle.std.proofs.Common.{◌∙◌, arith}
use Rattle.cq_tables.specs.Content.{Content}
use Rattle.cq_rows.specs.declared.entries.Entries.{Entries}
use Rattle.cq_rows.specs.declared.origin.Origin.{Origin}
use Rattle.cq_rows.specs.Entries.{rows_of}
use Rattle.cq_rows.specs.Origin.{theory_at, IsReady}
use Rattle.cq_rows.specs.Rows.{IsSettling}
use Rattle.cq_rows.proofs.Settling.{have_image}

pub ready_after : (o : Origin) (old m : Content) (e_old e : Entries) → IsReady o old e_old → IsSettling (theory_at o) old m e_old e → IsReady o m e
ready_after o old m e_old e r x = record {
  theory = r.theory;
  groups = λ some. r.groups (omega (arith, some, x.image.1.made));
  keys = x.image.1.keys ∙ r.keys;
  entities = x.image.1.entities ∙ r.entities;
  whole = x.whole;
  current = x.current;
  count = x.image.1.count ∙ r.count;
  rows = have_image (theory_at o) old m (rows_of e_old) (rows_of e) x.image.0 x.image.1 r.rows r.count;
}

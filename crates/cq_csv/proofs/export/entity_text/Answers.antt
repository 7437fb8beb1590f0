use Rattle.std.proofs.Common.{ℕ, [], ◌∷◌, ◌<◌, ◌≡◌, map, ap, subst, ◌∙◌, arith}
use Rattle.cq_theory.specs.Tables.{count_of}
use Rattle.cq_theory.specs.Canonical.{below}
use Rattle.csv.specs.Records.{fields_of}
use Rattle.cq_text.proofs.Numbers.{leaves_row, numbers_within}
use Rattle.cq_csv.specs.Files.{header, records, row_record}
use Rattle.cq_csv.specs.Records.{HasWritten, file_text}
use Rattle.cq_csv.proofs.Written.{filled, written_below}
use Rattle.cq_csv.proofs.export.entity_text.Goals as goal

pub push_header-requires-clause-attributes : goal.push_header-requires-clause-attributes
push_header-requires-clause-attributes c = numbers_within c.args.entity c.args.instance.now.schema.attributes c.args.attributes.now c.requires.attributes

pub push_header-requires-clause-keys : goal.push_header-requires-clause-keys
push_header-requires-clause-keys c = numbers_within c.args.entity c.args.instance.now.schema.keys c.args.keys.now c.requires.keys

pub push_row-requires-clause-attributes : goal.push_row-requires-clause-attributes
push_row-requires-clause-attributes c =
    let i = c.args.instance.now in
    leaves_row i.tables c.args.entity c.loop-row.row i.schema.attributes c.args.attributes.now c.requires.attributes (subst (λ n. c.loop-row.row < n) c.count-count.ensures c.loop-row-test.true)

pub push_row-requires-clause-keys : goal.push_row-requires-clause-keys
push_row-requires-clause-keys c =
    let i = c.args.instance.now in
    leaves_row i.tables c.args.entity c.loop-row.row i.schema.keys c.args.keys.now c.requires.keys (subst (λ n. c.loop-row.row < n) c.count-count.ensures c.loop-row-test.true)

pub loop-row-init : goal.loop-row-init
loop-row-init c =
    let first = filled c.new-fields.result c.push_header.new.fields (header c.args.instance.now c.args.attributes.now c.args.keys.now) c.new-fields.ensures.fields c.in_ok-push_header.ensures in
    subst (λ f. HasWritten c.write.new.writer (f ∷ [])) first (c.in_ok-write.ensures [] c.start-writer.ensures)

pub loop-row-preserved : goal.loop-row-preserved
loop-row-preserved c =
    let i = c.args.instance.now in
    let attributes = c.args.attributes.now in
    let keys = c.args.keys.now in
    written_below c.write-in-loop-row.new.writer (header i attributes keys ∷ []) (row_record i attributes keys) c.loop-row.row (fields_of c.push_row.new.fields)
    (filled c.clear.new.self c.push_row.new.fields (row_record i attributes keys c.loop-row.row) c.clear.ensures.fields c.in_ok-push_row.ensures)
    (c.in_ok-write-2.ensures _ c.loop-row.invariant)

pub returns : goal.returns
returns c =
    let i = c.args.instance.now in
    let attributes = c.args.attributes.now in
    let keys = c.args.keys.now in
    let all : c.loop-row.row ≡ c.count-count.result = omega arith in
    let written = subst (λ n. HasWritten c.loop-row.writer (header i attributes keys ∷ map (row_record i attributes keys) (below n))) (all ∙ c.count-count.ensures) c.loop-row.invariant in
    c.in_ok-bytes.ensures (records i c.args.entity attributes keys) written ∙ ap file_text (λ j. records i c.args.entity (c.requires.attributes j) (c.requires.keys j))

use Rattle.std.proofs.Common.{[], ◌∷◌, ◌++◌, sym, ap, ◌∙◌}
use Rattle.csv.specs.Records.{fields_of}
use Rattle.cq_values.specs.Built.{label_in}
use Rattle.cq_import.specs.Entries.{is_new, type_named}
use Rattle.cq_import.proofs.Faulty.{refuses_same}
use Rattle.cq_import.proofs.NullLines.{no_label, no_type, null_is, null_passes}
use Rattle.cq_import.proofs.nulls.read_null.Goals as goal

pub returns-in_default-clause-refused : goal.returns-in_default-clause-refused
returns-in_default-clause-refused c =
    let T = c.args.typeside.now in
    let labels = c.args.labels.now in
    let none = sym (c.new_label.ensures.told ∙ ap (λ f. is_new labels (label_in f)) c.field.ensures) ∙ c.in_default.is in
    refuses_same _ _ _ (sym (no_label T c.args.file.now labels c.args.number (fields_of c.args.fields.now) none)) c.bad_cell.ensures

pub returns-clause-passed : goal.returns-clause-passed
returns-clause-passed c =
    let T = c.args.typeside.now in
    let labels = c.args.labels.now in
    let new = sym (c.new_label.ensures.told ∙ ap (λ f. is_new labels (label_in f)) c.field.ensures) ∙ c.in-Some.is in
    let type = sym (c.in_ok-sort.ensures ∙ ap (type_named T) c.field-2.ensures) ∙ c.in-Some-2.is in
    null_passes T c.args.file.now labels c.args.number (fields_of c.args.fields.now) c.in-Some.label new c.in-Some-2.sort type

pub returns-clause-added : goal.returns-clause-added
returns-clause-added c =
    let T = c.args.typeside.now in
    let labels = c.args.labels.now in
    let label = sym (ap label_in c.field.ensures) ∙ c.in-Some.ensures.label in
    let type = sym (c.in_ok-sort.ensures ∙ ap (type_named T) c.field-2.ensures) ∙ c.in-Some-2.is in
    c.in_ok-add.ensures ∙ ap (λ u. labels ++ u ∷ []) (sym (null_is T c.args.file.now labels c.args.number (fields_of c.args.fields.now) c.in-Some.label c.in-Some-2.sort label type))

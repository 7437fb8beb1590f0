use Rattle.std.proofs.Common.{◌++◌, ◌≡◌, ap, ◌∙◌, subst}
use Rattle.cq_theory.specs.SchemaData.{SchemaData}
use Rattle.cq_theory.specs.declared.value.Algebra.{Algebra}
use Rattle.cq_csv.specs.Files.{null_records}
use Rattle.cq_csv.specs.Records.{HasWritten}
use Rattle.cq_csv.proofs.algebra.write_nulls.Goals as goal

pub returns : goal.returns
returns c = λ before has.
    let i = c.args.instance.now in
    let typeside : c.deref-2.result.now ≡ i.schema.typeside =
    c.deref-2.ensures ∙ ap (λ (s : SchemaData). s.typeside) (c.behind-schema.view_is ∙ c.deref.ensures ∙ c.schema.ensures.schema) in
    let sorts : c.as_slice-sorts.result.now ≡ i.tables.algebra.nulls = c.as_slice-sorts.ensures ∙ ap (λ (a : Algebra). a.nulls) c.algebra.ensures.algebra in
    subst (λ rs. HasWritten c.write_null_records.new.writer (before ++ rs)) (λ j. null_records (typeside j) (sorts j)) (c.in_ok-write_null_records.ensures before has)

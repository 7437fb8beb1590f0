use Rattle.std.proofs.Common.{◌++◌, ◌≡◌, ap, sym, ◌∙◌, subst}
use Rattle.std.specs.Prelude.{All}
use Rattle.cq_theory.specs.SchemaData.{SchemaData}
use Rattle.cq_theory.specs.declared.value.Algebra.{Algebra}
use Rattle.cq_text.specs.Transcript.{IsNamedEntry}
use Rattle.cq_text.proofs.Typed.{entries_are_named}
use Rattle.cq_csv.specs.Files.{entry_records}
use Rattle.cq_csv.specs.Records.{HasWritten}
use Rattle.cq_csv.proofs.algebra.write_entries.Goals as goal

pub write_entry_records-requires : goal.write_entry_records-requires
write_entry_records-requires c =
    let i = c.args.instance.now in
    let typeside : c.deref-2.result.now ≡ i.schema.typeside =
    c.deref-2.ensures ∙ ap (λ (s : SchemaData). s.typeside) (c.behind-schema.view_is ∙ c.deref.ensures ∙ c.schema.ensures.schema) in
    let entries : c.as_slice-entries.result.now ≡ i.tables.algebra.entries = c.as_slice-entries.ensures ∙ ap (λ (a : Algebra). a.entries) c.algebra.ensures.algebra in
    subst (λ T. All (IsNamedEntry T) c.as_slice-entries.result.now) (sym typeside)
    (subst (All (IsNamedEntry i.schema.typeside)) (sym entries) (entries_are_named i.schema i.tables c.algebra.ensures.instance.well_formed))

pub returns : goal.returns
returns c = λ before has.
    let i = c.args.instance.now in
    let typeside : c.deref-2.result.now ≡ i.schema.typeside =
    c.deref-2.ensures ∙ ap (λ (s : SchemaData). s.typeside) (c.behind-schema.view_is ∙ c.deref.ensures ∙ c.schema.ensures.schema) in
    let entries : c.as_slice-entries.result.now ≡ i.tables.algebra.entries = c.as_slice-entries.ensures ∙ ap (λ (a : Algebra). a.entries) c.algebra.ensures.algebra in
    subst (λ rs. HasWritten c.write_entry_records.new.writer (before ++ rs)) (λ j. entry_records (typeside j) (entries j)) (c.in_ok-write_entry_records.ensures before has)

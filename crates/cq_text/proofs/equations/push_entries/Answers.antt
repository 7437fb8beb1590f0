use Rattle.std.proofs.Common.{◌≡◌, ◌++◌, ap, sym, subst, ◌∙◌}
use Rattle.std.specs.Prelude.{All}
use Rattle.cq_theory.specs.SchemaData.{SchemaData}
use Rattle.cq_theory.specs.declared.value.Algebra.{Algebra}
use Rattle.cq_text.specs.Transcript.{IsNamedEntry}
use Rattle.cq_text.proofs.Typed.{entries_are_named}
use Rattle.cq_text.proofs.equations.push_entries.Goals as goal

pub push_entry_equations-requires : goal.push_entry_equations-requires
push_entry_equations-requires c =
    let i = c.args.instance.now in
    let typeside : c.deref-2.result.now ≡ i.schema.typeside =
    c.deref-2.ensures ∙ ap (λ (s : SchemaData). s.typeside) (c.behind-schema.view_is ∙ c.deref.ensures ∙ c.schema.ensures.schema) in
    let entries : c.as_slice-entries.result.now ≡ i.tables.algebra.entries = c.as_slice-entries.ensures ∙ ap (λ (a : Algebra). a.entries) c.algebra.ensures.algebra in
    subst (λ T. All (IsNamedEntry T) c.as_slice-entries.result.now) (sym typeside)
    (subst (All (IsNamedEntry i.schema.typeside)) (sym entries) (entries_are_named i.schema i.tables c.algebra.ensures.instance.well_formed))

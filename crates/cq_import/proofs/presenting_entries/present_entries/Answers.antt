use Rattle.std.proofs.Common.{ℕ, List, None, Some, ◌≡◌, ◌+◌, ◌≤◌, ◌∙◌, inr, refl, ap, subst, map, filter, length, arith, sym}
use Rattle.std.specs.Prelude.{string_bytes, OnOk, IfOk, IfErr}
use Rattle.std.proofs.lemmas.List.{length-map}
use Rattle.cq_theory.specs.SchemaData.{SchemaData}
use Rattle.cq_import.specs.declared.refusal.CsvRefusal.TheVariants.{TooLarge}
use Rattle.cq_import.specs.Context.{sheet_in}
use Rattle.cq_import.specs.Entries.{is_null, presented2, sheets2_fault}
use Rattle.cq_import.specs.Faults.{Tells}
use Rattle.cq_import.specs.Rows.{rows_of}
use Rattle.cq_import.proofs.WellFormed2.{if_presented2, many2_refused, present2_made, present2_passed, present2_refused}
use Rattle.cq_import.proofs.presenting_entries.present_entries.Goals as goal

pub returns-in_default-clause-refused : goal.returns-in_default-clause-refused
returns-in_default-clause-refused c =
    let many = rw c.in_default.is at c.in_ok-starts.ensures in
    many2_refused c.args.schema.now (map sheet_in c.args.files.now) (rows_of c.args.entries.now.text.items) (string_bytes c.args.entries.now.name) TooLarge (omega (arith, many)) (inr refl)

pub returns-then-nulls-total-clause-refused : goal.returns-then-nulls-total-clause-refused
returns-then-nulls-total-clause-refused c =
    let found = rw c.in-Some.is at c.in_ok-starts.ensures in
    many2_refused c.args.schema.now (map sheet_in c.args.files.now) (rows_of c.args.entries.now.text.items) (string_bytes c.args.entries.now.name) TooLarge
    (omega (arith, found.1, found.2, c.args.entries.now.nulls_are, c.if-nulls-total.true)) (inr refl)

pub present_all-requires-clause-typeside : goal.present_all-requires-clause-typeside
present_all-requires-clause-typeside c = c.deref-typeside.ensures ∙ ap (λ (s : SchemaData). s.typeside) c.schema.view_is

pub present_all-requires-clause-room : goal.present_all-requires-clause-room
present_all-requires-clause-room c =
    let found = rw c.in-Some.is at c.in_ok-starts.ensures in
    let same = ap (λ (t : List ℕ). length (filter is_null (rows_of t))) c.as_slice-text.ensures.value in
    omega (arith, found.2, c.args.entries.now.nulls_are, c.if-nulls-total.false, same)

pub returns-clause-passed : goal.returns-clause-passed
returns-clause-passed c =
    let found = rw c.in-Some.is at c.in_ok-starts.ensures in
    let S = c.args.schema.now in
    let sheets = map sheet_in c.args.files.now in
    let bytes = c.as_slice-text.result.now in
    let file = c.as_str-file.result.now in
    let result = c.present_all.result in
    let same = ap (λ (t : List ℕ). length (filter is_null (rows_of t))) c.as_slice-text.ensures.value in
    let fits : c.in-Some.total + length (filter is_null (rows_of bytes)) ≤ 16000000 = omega (arith, found.2, c.args.entries.now.nulls_are, c.if-nulls-total.false, same) in
    subst (λ (t : List ℕ). OnOk result (sheets2_fault S sheets (rows_of t) (string_bytes c.args.entries.now.name) ≡ None)) c.as_slice-text.ensures.value
    (subst (λ (f : List ℕ). OnOk result (sheets2_fault S sheets (rows_of bytes) f ≡ None)) c.as_str-file.ensures.value
    (present2_passed S sheets (rows_of bytes) file c.in-Some.total found.1 fits result c.present_all.ensures.passed))

pub returns-clause-made : goal.returns-clause-made
returns-clause-made c =
    let found = rw c.in-Some.is at c.in_ok-starts.ensures in
    let S = c.args.schema.now in
    let sheets = map sheet_in c.args.files.now in
    let bytes = c.as_slice-text.result.now in
    let file = c.as_str-file.result.now in
    let result = c.present_all.result in
    let same = ap (λ (t : List ℕ). length (filter is_null (rows_of t))) c.as_slice-text.ensures.value in
    let fits : c.in-Some.total + length (filter is_null (rows_of bytes)) ≤ 16000000 = omega (arith, found.2, c.args.entries.now.nulls_are, c.if-nulls-total.false, same) in
    subst (λ (t : List ℕ). IfOk result (λ p. p ≡ presented2 S sheets (rows_of t))) c.as_slice-text.ensures.value
    (present2_made S sheets (rows_of bytes) file c.in-Some.total found.1 fits result (length c.args.files.now) c.requires.files c.present_all.ensures.generators c.present_all.ensures.equations)

pub returns-clause-presentation : goal.returns-clause-presentation
returns-clause-presentation c =
    let found = rw c.in-Some.is at c.in_ok-starts.ensures in
    let S = c.args.schema.now in
    let sheets = map sheet_in c.args.files.now in
    let bytes = c.as_slice-text.result.now in
    let file = c.as_str-file.result.now in
    let result = c.present_all.result in
    let same = ap (λ (t : List ℕ). length (filter is_null (rows_of t))) c.as_slice-text.ensures.value in
    let fits : c.in-Some.total + length (filter is_null (rows_of bytes)) ≤ 16000000 = omega (arith, found.2, c.args.entries.now.nulls_are, c.if-nulls-total.false, same) in
    if_presented2 S sheets (rows_of bytes) file result c.is_well_sorted.ensures (length-map c.args.files.now sheet_in ∙ c.requires.files)
    (present2_passed S sheets (rows_of bytes) file c.in-Some.total found.1 fits result c.present_all.ensures.passed)
    (present2_made S sheets (rows_of bytes) file c.in-Some.total found.1 fits result (length c.args.files.now) c.requires.files c.present_all.ensures.generators c.present_all.ensures.equations)

pub returns-clause-refused : goal.returns-clause-refused
returns-clause-refused c =
    let found = rw c.in-Some.is at c.in_ok-starts.ensures in
    let S = c.args.schema.now in
    let sheets = map sheet_in c.args.files.now in
    let bytes = c.as_slice-text.result.now in
    let file = c.as_str-file.result.now in
    let result = c.present_all.result in
    let same = ap (λ (t : List ℕ). length (filter is_null (rows_of t))) c.as_slice-text.ensures.value in
    let fits : c.in-Some.total + length (filter is_null (rows_of bytes)) ≤ 16000000 = omega (arith, found.2, c.args.entries.now.nulls_are, c.if-nulls-total.false, same) in
    subst (λ (t : List ℕ). IfErr result (λ r. Tells r (sheets2_fault S sheets (rows_of t) (string_bytes c.args.entries.now.name)))) c.as_slice-text.ensures.value
    (subst (λ (f : List ℕ). IfErr result (λ r. Tells r (sheets2_fault S sheets (rows_of bytes) f))) c.as_str-file.ensures.value
    (present2_refused S sheets (rows_of bytes) file c.in-Some.total found.1 fits result c.present_all.ensures.refused))

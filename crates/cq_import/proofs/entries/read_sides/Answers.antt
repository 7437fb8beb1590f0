use Rattle.std.proofs.Common.{None, ◌≡◌, ◌∙◌, sym, ap, subst}
use Rattle.std.proofs.lemmas.Result.{on_ok_weaker, MatchResult-weaker}
use Rattle.csv.specs.Records.{fields_of}
use Rattle.cq_values.specs.Built.{built_in}
use Rattle.cq_import.specs.Entries.{sides_fault, uses_fault}
use Rattle.cq_import.specs.Records.{field_in}
use Rattle.cq_import.proofs.Faulty.{refuses_same}
use Rattle.cq_import.proofs.entries.read_sides.Goals as goal

pub with_right-requires-clause-given : goal.with_right-requires-clause-given
with_right-requires-clause-given c =
    let over = c.args.over.now in
    subst (λ l. uses_fault over.typeside.now over.file.now l c.args.number 2 c.in-Ok.left c.in-Ok.sort ≡ None) (sym c.in-Ok.ensures.kept) c.in-Ok.ensures.passed

pub returns-in-Ok-clause-passed : goal.returns-in-Ok-clause-passed
returns-in-Ok-clause-passed c =
    let over = c.args.over.now in
    let fields = fields_of c.args.fields.now in
    on_ok_weaker c.with_right.result
    (λ none. ap (λ l. sides_fault over.typeside.now over.file.now l c.args.number (built_in over.typeside.now (field_in fields 1)) (field_in fields 2)) (sym c.in-Ok.ensures.kept) ∙ none) c.with_right.ensures.passed

pub returns-in-Ok-clause-kept : goal.returns-in-Ok-clause-kept
returns-in-Ok-clause-kept c = on_ok_weaker c.with_right.result (λ e. e ∙ c.in-Ok.ensures.kept) c.with_right.ensures.kept

pub returns-in-Ok-clause-refused : goal.returns-in-Ok-clause-refused
returns-in-Ok-clause-refused c =
    let over = c.args.over.now in
    let fields = fields_of c.args.fields.now in
    MatchResult-weaker c.with_right.result c.with_right.ensures.refused (λ done ok. ok)
    (λ r refuses. refuses_same r _ _ (ap (λ l. sides_fault over.typeside.now over.file.now l c.args.number (built_in over.typeside.now (field_in fields 1)) (field_in fields 2)) c.in-Ok.ensures.kept) refuses)

pub returns-in-Err-clause-refused : goal.returns-in-Err-clause-refused
returns-in-Err-clause-refused c = c.in-Err.ensures.refused (field_in (fields_of c.args.fields.now) 2)

use Rattle.std.proofs.Common.{sym, ap, subst}
use Rattle.cq_theory.specs.SchemaData.{SchemaData as Schema}
use Rattle.cq_theory.specs.Tables.{Tables, IsWellFormed, Satisfies}
use Rattle.cq_instance.specs.InstanceData.{InstanceData}
use Rattle.cq_query.specs.QueryData.{QueryData as Query}
use Rattle.cq_query.specs.Answers.{IsEval}
use Rattle.cq_eval.proofs.Answered.{made_eval}
use Rattle.cq_eval.proofs.Told.{tells_eval, tells_large, none_many}
use Rattle.cq_eval.proofs.evaluating.eval.Goals as goal

pub returns-in-Err-clause-refused : goal.returns-in-Err-clause-refused
returns-in-Err-clause-refused c = tells_eval c.args.query.now c.args.instance.now.tables c.in-Err.refusal c.in-Err.ensures.refused

pub returns-in-Err-made_sheet-clause-refused : goal.returns-in-Err-made_sheet-clause-refused
returns-in-Err-made_sheet-clause-refused c =
    let Q : Query = c.args.query.now in
    let M : Tables = c.args.instance.now.tables in
    tells_large Q M c.is_well_sorted.ensures c.requires.sound
    (subst (λ (S : Schema). IsWellFormed S M) c.requires.over c.is_instance.ensures.well_formed) (subst (λ (S : Schema). Satisfies S M) c.requires.over c.is_instance.ensures.satisfies)
    (none_many Q M c.in-Ok.answers.items c.in-Ok.ensures.answers c.in-Ok.ensures.few) c.in-Err-made_sheet.refusal c.in-Err-made_sheet.ensures.refused

pub returns-in-Ok-made_instance-clause-tables : goal.returns-in-Ok-made_instance-clause-tables
returns-in-Ok-made_instance-clause-tables c =
    let Q : Query = c.args.query.now in
    let M : Tables = c.args.instance.now.tables in
    subst (IsEval Q M) (sym (ap (λ (i : InstanceData). i.tables) c.in-Ok-made_instance.ensures.instance))
    (made_eval Q M c.is_well_sorted.ensures c.requires.sound
    (subst (λ (S : Schema). IsWellFormed S M) c.requires.over c.is_instance.ensures.well_formed) (subst (λ (S : Schema). Satisfies S M) c.requires.over c.is_instance.ensures.satisfies))

pub returns-in-Ok-made_instance-clause-few : goal.returns-in-Ok-made_instance-clause-few
returns-in-Ok-made_instance-clause-few c = none_many c.args.query.now c.args.instance.now.tables c.in-Ok.answers.items c.in-Ok.ensures.answers c.in-Ok.ensures.few

use Rattle.std.proofs.Common.{◌≡◌, ap, subst, ◌∙◌}
use Rattle.cq_theory.specs.SchemaData.{SchemaData}
use Rattle.cq_theory.specs.TypesideData.{TypesideData}
use Rattle.cq_theory.specs.Tables.{Tables, IsWellFormed}
use Rattle.cq_query.specs.Coeval.{coeval_of}
use Rattle.cq_query.specs.QueryData.{QueryData}
use Rattle.cq_program.specs.Judging.{IsAnswerOf}
use Rattle.cq_program.proofs.Answered.{are_term_models, coeval_answers, coeval_named}
use Rattle.cq_program.proofs.evals.meaning.mean_coeval_made.Goals as goal

pub mean_model-requires-clause-named : goal.mean_model-requires-clause-named
mean_model-requires-clause-named c =
    let Q : QueryData = c.args.query.now in
    let M : Tables = c.args.instance.now.tables in
    let is : IsWellFormed Q.target M = subst (λ (S : SchemaData). IsWellFormed S M) c.requires.over c.is_instance.ensures.well_formed in
    let of : IsAnswerOf Q.source (coeval_of Q M) c.args.depth c.coeval-answer.result =
    coeval_answers Q M c.args.depth c.coeval-answer.result c.is_well_sorted.ensures is c.coeval-answer.ensures in
    let typeside : c.deref-2.result.now ≡ Q.source.typeside =
    c.deref-2.ensures ∙ ap (λ (S : SchemaData). S.typeside) (c.behind-query.view_is ∙ c.deref.ensures) ∙ ap (λ (R : QueryData). R.source.typeside) c.query.view_is in
    λ least greater clash. coeval_named Q M c.args.depth c.coeval-answer.result c.is_well_sorted.ensures is of c.deref-2.result.now typeside least greater clash

pub returns-clause-stands : goal.returns-clause-stands
returns-clause-stands c =
    let Q : QueryData = c.args.query.now in
    let M : Tables = c.args.instance.now.tables in
    let is : IsWellFormed Q.target M = subst (λ (S : SchemaData). IsWellFormed S M) c.requires.over c.is_instance.ensures.well_formed in
    let of : IsAnswerOf Q.source (coeval_of Q M) c.args.depth c.coeval-answer.result =
    coeval_answers Q M c.args.depth c.coeval-answer.result c.is_well_sorted.ensures is c.coeval-answer.ensures in
    c.mean_model.ensures.stands Q.source (coeval_of Q M) c.args.depth of

pub mean_model-requires-clause-modelled : goal.mean_model-requires-clause-modelled
mean_model-requires-clause-modelled c = are_term_models c.coeval-answer.result c.coeval-answer.ensures.listed

pub returns-clause-refused : goal.returns-clause-refused
returns-clause-refused c =
    let Q : QueryData = c.args.query.now in
    let M : Tables = c.args.instance.now.tables in
    let is : IsWellFormed Q.target M = subst (λ (S : SchemaData). IsWellFormed S M) c.requires.over c.is_instance.ensures.well_formed in
    let of : IsAnswerOf Q.source (coeval_of Q M) c.args.depth c.coeval-answer.result =
    coeval_answers Q M c.args.depth c.coeval-answer.result c.is_well_sorted.ensures is c.coeval-answer.ensures in
    let typeside : c.deref-2.result.now ≡ Q.source.typeside =
    c.deref-2.ensures ∙ ap (λ (S : SchemaData). S.typeside) (c.behind-query.view_is ∙ c.deref.ensures) ∙ ap (λ (R : QueryData). R.source.typeside) c.query.view_is in
    c.mean_model.ensures.refused Q.source (coeval_of Q M) c.args.depth typeside of

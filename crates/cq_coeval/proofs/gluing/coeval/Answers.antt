use Rattle.std.proofs.Common.{IfOk, sym, ap, subst, ◌∙◌}
use Rattle.cq_theory.specs.declared.presentation.Presentation.{Presentation}
use Rattle.cq_theory.specs.Presentation.{IsPresentation}
use Rattle.cq_theory.specs.SchemaData.{SchemaData as Schema}
use Rattle.cq_query.specs.Coeval.{coeval_of}
use Rattle.cq_query.specs.QueryData.{QueryData as Query}
use Rattle.cq_model.specs.Moving.{IsModelOrCause}
use Rattle.cq_coeval.proofs.gluing.coeval.Goals as goal

pub build_presented-requires : goal.build_presented-requires
build_presented-requires c =
    let source = c.in_ok-source.ensures.cases ∙ ap (λ (Q : Query). Q.source) c.query.view_is in
    record {
      presentation = subst (λ (S : Schema). IfOk c.present_coeval-presented.result (λ made. IsPresentation S made)) (sym source) c.present_coeval-presented.ensures.presentation;
      depth = c.requires.depth;
    }

pub returns : goal.returns
returns c =
    let P : Presentation = coeval_of c.args.query.now c.args.instance.now.tables in
    let source = c.in_ok-source.ensures.cases ∙ ap (λ (Q : Query). Q.source) c.query.view_is in
    subst (λ (S : Schema). IsModelOrCause S P c.args.depth c.build_presented.result) source (c.build_presented.ensures P c.present_coeval-presented.ensures.presents)

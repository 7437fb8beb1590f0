use Rattle.std.proofs.Common.{ap, ◌∙◌}
use Rattle.cq_instance.specs.declared.transform.Image.TheVariants as image
use Rattle.cq_terms.specs.ValueTerms as terms_of
use Rattle.cq_adjoint.proofs.NumberedNulls.{value_made}
use Rattle.cq_adjoint.proofs.spelling.spell_value.Goals as goal

pub returns : goal.returns
returns c =
    ap image.Value (c.in_ok-term.ensures ∙ (λ k. terms_of.value_term (c.first_null-first.ensures.first k) (c.null_count-count.ensures k) c.args.value.now)
    ∙ value_made c.args.to.now.schema c.args.to.now.tables c.args.value.now c.requires.typed.0 c.requires.typed.1)

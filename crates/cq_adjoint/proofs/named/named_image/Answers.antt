use Rattle.std.proofs.Common.{ℕ, ◌≡◌, sym, ap, ◌∙◌}
use Rattle.cq_theory.specs.declared.presentation.Sort.TheVariants.{Entity}
use Rattle.cq_theory.specs.declared.term.TypeTerm.{TypeTerm}
use Rattle.cq_instance.specs.declared.transform.Image.{Image}
use Rattle.cq_transform.proofs.Answered.{if_ok}
use Rattle.cq_adjoint.specs.Nameable.{moved_name}
use Rattle.cq_instance.specs.Spelling.{term_among}
use Rattle.cq_adjoint.proofs.named.named_image.Goals as goal

pub returns-in-Entity : goal.returns-in-Entity
returns-in-Entity c =
    let nulls : ℕ → TypeTerm = term_among c.args.naming.now.null_terms.now in
    if_ok c.named_row.result
    (λ (made : Image). (terms : ℕ → TypeTerm) → made ≡ moved_name c.args.mapping.now c.args.k.now c.args.from.now c.args.naming.now.to.now terms c.args.generator (Entity c.in-Entity.entity))
    (λ (made : Image). made ≡ moved_name c.args.mapping.now c.args.k.now c.args.from.now c.args.naming.now.to.now nulls c.args.generator c.args.sort)
    (λ made all. all nulls ∙ ap (moved_name c.args.mapping.now c.args.k.now c.args.from.now c.args.naming.now.to.now nulls c.args.generator) (sym c.in-Entity.is))
    c.named_row.ensures

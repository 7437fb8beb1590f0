use Rattle.std.proofs.Common.{ℕ, [], ◌∷◌, ◌++◌, ◌≡◌, get_or, sym, ap, ◌∙◌}
use Rattle.cq_base.specs.declared.name.Name.{Name}
use Rattle.cq_theory.specs.declared.presentation.Sort.{Sort}
use Rattle.cq_instance.specs.declared.transform.Image.{Image}
use Rattle.cq_instance.proofs.Enumerated.{enumerated_more}
use Rattle.cq_transform.specs.Composing.{has_long}
use Rattle.cq_transform.proofs.Loops.{read_at}
use Rattle.cq_adjoint.specs.Nameable.{moved_name}
use Rattle.cq_instance.specs.Spelling.{term_among}
use Rattle.cq_adjoint.proofs.Within.{fits_more, tells_numbered}
use Rattle.cq_adjoint.proofs.named.named_images.Goals as goal

pub named_image-requires : goal.named_image-requires
named_image-requires c =
    c.requires.nameable c.loop-number.number c.index-generators-number.result
    (read_at c.args.generators.now c.loop-number.number c.index-generators-number.result c.loop-number-test.true c.index-generators-number.is)

pub returns-in-Err-clause-refused : goal.returns-in-Err-clause-refused
returns-in-Err-clause-refused c =
    tells_numbered (λ (x : ℕ × (Name × Sort)). moved_name c.args.mapping.now c.args.k.now c.args.from.now c.args.naming.now.to.now (term_among c.args.naming.now.null_terms.now) x.0 x.1.1) c.args.generators.now c.loop-number.number
    c.index-generators-number.result c.in-Ok-named_image.image c.in-Err.refusal c.loop-number-test.true c.index-generators-number.is c.in-Ok-named_image.ensures c.in-Err.ensures.refused

pub loop-number-preserved : goal.loop-number-preserved
loop-number-preserved c =
    let f : ℕ × (Name × Sort) → Image = λ x. moved_name c.args.mapping.now c.args.k.now c.args.from.now c.args.naming.now.to.now (term_among c.args.naming.now.null_terms.now) x.0 x.1.1 in
    let image : c.in-Ok-named_image.image ≡ f (c.loop-number.number, get_or c.args.generators.now c.loop-number.number c.index-generators-number.result) =
    c.in-Ok-named_image.ensures ∙ ap (λ (g : Name × Sort). f (c.loop-number.number, g)) c.index-generators-number.is in
    record {
      made =
          c.in_default-push_image.ensures.made ∙ (λ j. c.loop-number.invariant.made j ++ image j ∷ [])
          ∙ sym (enumerated_more f c.args.generators.now c.loop-number.number c.index-generators-number.result c.loop-number-test.true);
      fits = ap has_long c.in_default-push_image.ensures.made ∙ fits_more c.loop-number.images.items c.in-Ok-named_image.image c.loop-number.invariant.fits c.in_default-push_image.ensures.fits;
    }

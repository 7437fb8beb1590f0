use Rattle.std.proofs.Common.{◌≡◌, map, length, ap, ◌∙◌, arith}
use Rattle.cq_theory.specs.declared.presentation.Presentation.{Presentation}
use Rattle.cq_theory.specs.declared.value.Value.TheVariants.{Null}
use Rattle.cq_theory.specs.declared.value.Sheet.{Sheet}
use Rattle.cq_theory.specs.declared.value.Algebra.{Algebra}
use Rattle.cq_theory.specs.Canonical.{below}
use Rattle.cq_theory.specs.Homomorphism.{identity_rows, identity_nulls}
use Rattle.cq_transform.specs.Identities.{identity_images}
use Rattle.cq_transform.proofs.Itself.{identity_goes}
use Rattle.cq_transform.proofs.identities.identity.Goals as goal

pub own_images-requires : goal.own_images-requires
own_images-requires c =
    omega (arith, ap length c.as_slice.ensures, ap (λ (P : Presentation). length P.generators) c.presentation.ensures.presentation, c.presentation.ensures.instance.presented.count)

pub returns : goal.returns
returns c =
    let images : c.from_vec.result ≡ identity_images c.args.instance.now.presentation.generators =
    c.from_vec.ensures ∙ c.in_ok-images.ensures ∙ ap identity_images (c.as_slice.ensures ∙ ap (λ (P : Presentation). P.generators) c.presentation.ensures.presentation) in
    let rows : c.from_vec-2.result ≡ identity_rows c.args.instance.now.tables =
    c.from_vec-2.ensures ∙ c.in_ok-rows.ensures ∙ ap (map below) (c.as_slice-2.ensures ∙ ap (λ (s : Sheet). s.counts) c.sheet.ensures.sheet) in
    let nulls : c.from_vec-3.result ≡ identity_nulls c.args.instance.now.tables =
    c.from_vec-3.ensures ∙ c.in_ok-nulls.ensures ∙ ap (λ n. map Null (below n)) (c.len.ensures ∙ ap (λ (a : Algebra). length a.nulls) c.algebra.ensures.algebra) in
    record {
      images = images;
      rows = rows;
      nulls = nulls;
      goes = λ holds. identity_goes c.args.instance.now holds c.from_vec.result c.from_vec-2.result c.from_vec-3.result images rows nulls;
    }

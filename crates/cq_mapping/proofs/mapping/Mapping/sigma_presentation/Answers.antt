use Rattle.std.proofs.Common.{List, ◌≡◌, false, map, sym, ap, subst, ◌∙◌}
use Rattle.std.specs.List.{list_any}
use Rattle.cq_theory.specs.declared.presentation.Equation.{Equation}
use Rattle.cq_theory.specs.Presentation.{IsPresentation}
use Rattle.cq_mapping.specs.Images.{equation_image, sigma}
use Rattle.cq_mapping.specs.Mapping.{IsMapping}
use Rattle.cq_theory.specs.Presentation.{has_long_side}
use Rattle.cq_mapping.specs.Duties.{is_too_large}
use Rattle.cq_mapping.proofs.ImagedPresentations.{sigma-is_presentation}
use Rattle.cq_mapping.proofs.mapping.Mapping.sigma_presentation.Goals as goal

pub returns-clause-presentation : goal.returns-clause-presentation
returns-clause-presentation c =
    let F = c.args.self.now in
    let P = c.args.presentation.now in
    let mapping : IsMapping F = c.is_well_sorted.ensures in
    let items : c.as_slice.result.now ≡ P.equations = cc in
    let short : is_too_large F P ≡ false =
    ap (λ (es : List Equation). list_any has_long_side (map (equation_image F) es)) (sym items) ∙ sym c.has_long_image.ensures ∙ c.if-has_long_image.false in
    let is : c.in_ok-made.made ≡ sigma F P = c.in_ok-made.ensures in
    subst (IsPresentation F.target) (sym is) (sigma-is_presentation F mapping P c.requires short)

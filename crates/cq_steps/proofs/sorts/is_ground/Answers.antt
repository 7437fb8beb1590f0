use Rattle.std.proofs.Common.{◌≡◌, sym, ap, ◌∙◌, subst}
use Rattle.std.specs.Prelude.{is_some}
use Rattle.cq_theory.specs.Sorts.{entity_of, type_of, IsGround}
use Rattle.cq_theory.specs.declared.presentation.Sort.TheVariants.{Plain, Entity}
use Rattle.cq_steps.specs.Sides.{term_of}
use Rattle.cq_steps.proofs.Deciding.{Decides, decides_sort, decides_is}
use Rattle.cq_steps.proofs.sorts.is_ground.Goals as goal

pub returns-in-Ent : goal.returns-in-Ent
returns-in-Ent c =
    let S = c.args.schema.now in
    let P = c.args.presentation.now in
    let t = c.in-Ent.term.now in
    let found : c.is_some.result ≡ is_some (entity_of S P.generators t) = c.is_some.ensures ∙ ap is_some (c.entity_of.ensures ∙ ap (λ g. entity_of S g t) c.as_slice-generators.ensures) in
    subst (λ z. Decides c.is_some.result (IsGround S P (term_of z))) (sym c.in-Ent.is)
    (decides_is c.is_some.result (is_some (entity_of S P.generators t)) _ found (decides_sort Entity (entity_of S P.generators t)))

pub returns-in-Typ : goal.returns-in-Typ
returns-in-Typ c =
    let S = c.args.schema.now in
    let P = c.args.presentation.now in
    let t = c.in-Typ.term.now in
    let found : c.is_some-in-Typ.result ≡ is_some (type_of S P.generators t) = c.is_some-in-Typ.ensures ∙ ap is_some (c.type_of.ensures ∙ ap (λ g. type_of S g t) c.as_slice-generators.ensures) in
    subst (λ z. Decides c.is_some-in-Typ.result (IsGround S P (term_of z))) (sym c.in-Typ.is)
    (decides_is c.is_some-in-Typ.result (is_some (type_of S P.generators t)) _ found (decides_sort Plain (type_of S P.generators t)))

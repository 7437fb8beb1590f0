use Rattle.std.proofs.Common.{ℕ, List, [], ◌≡◌, ◌<◌, IfOk, length, sym, ap, subst, ◌∙◌}
use Rattle.cq_theory.specs.declared.term.EntTerm.{EntTerm}
use Rattle.cq_theory.specs.Canonical.{row_term}
use Rattle.cq_theory.specs.Tables.{count_of}
use Rattle.cq_instance.specs.InstanceData.{InstanceData}
use Rattle.cq_adjoint.specs.Copies.{answers_at, place_of}
use Rattle.cq_adjoint.proofs.SpelledTerms.{name_is, entity_within}
use Rattle.cq_adjoint.proofs.crossing.answer_term.Goals as goal

pub place_of-place-requires : goal.place_of-place-requires
place_of-place-requires c = subst (λ (l : List (List ℕ)). length l < 4294967296) (sym c.places_at-answers.ensures) c.requires.few

pub name_of-requires : goal.name_of-requires
name_of-requires c =
    let d : InstanceData = c.args.evaluated.now in
    let place : c.place_of-place.result ≡ place_of (answers_at c.args.places.now c.args.entity) c.args.rows.items =
    c.place_of-place.ensures ∙ ap (λ (l : List (List ℕ)). place_of l c.args.rows.items) c.places_at-answers.ensures in
    let inside : c.place_of-place.result < count_of d.tables c.args.entity = subst (λ (m : ℕ). m < count_of d.tables c.args.entity) (sym place) c.requires.place in
    record { entity = entity_within d.schema d c.requires.given c.is_instance.ensures.well_formed c.args.entity c.place_of-place.result inside; row = inside }

pub returns : goal.returns
returns c =
    let d : InstanceData = c.args.evaluated.now in
    let place : c.place_of-place.result ≡ place_of (answers_at c.args.places.now c.args.entity) c.args.rows.items =
    c.place_of-place.ensures ∙ ap (λ (l : List (List ℕ)). place_of l c.args.rows.items) c.places_at-answers.ensures in
    let inside : c.place_of-place.result < count_of d.tables c.args.entity = subst (λ (m : ℕ). m < count_of d.tables c.args.entity) (sym place) c.requires.place in
    let name : c.name_of.result.now ≡ row_term d.schema d.tables c.args.entity (place_of (answers_at c.args.places.now c.args.entity) c.args.rows.items) =
    c.name_of.ensures ∙ name_is d.schema d c.requires.given c.is_instance.ensures.well_formed c.args.entity c.place_of-place.result inside ∙ ap (row_term d.schema d.tables c.args.entity) place in
    subst (λ (t : EntTerm). IfOk c.copy_entity_term.result (λ made. made ≡ t)) name c.copy_entity_term.ensures

use Rattle.std.proofs.Common.{ℕ, List, Some, ◌≡◌, IfOk, sym, ap, subst, ◌∙◌}
use Rattle.std.specs.Prelude.{option_map}
use Rattle.cq_base.specs.declared.name.Name.{Name}
use Rattle.cq_theory.specs.declared.presentation.Sort.{Sort}
use Rattle.cq_theory.specs.declared.presentation.Sort.TheVariants.{Plain, Entity}
use Rattle.cq_theory.specs.EntTerm.{alone}
use Rattle.cq_theory.specs.Sorts.{entity_of}
use Rattle.cq_theory.specs.Tables.{row_of}
use Rattle.cq_instance.specs.InstanceData.{InstanceData}
use Rattle.cq_adjoint.specs.QueryMoves.{eval_row, eval_image}
use Rattle.cq_adjoint.proofs.SortedGenerators.{generator_type, generator_entity}
use Rattle.cq_adjoint.proofs.eval_maps.generator_image.Goals as goal

pub value_image-requires : goal.value_image-requires
value_image-requires c =
    let a : InstanceData = c.args.evaluating.now.evaluated.now in
    record {
      evaluating = c.requires.evaluating;
      typed = (c.in-Plain.field-0, generator_type a.schema a.presentation.generators c.args.generator c.requires.generator.0 c.args.sort c.in-Plain.field-0 c.requires.generator.1 c.in-Plain.is);
    }

pub row_of-row-requires : goal.row_of-row-requires
row_of-row-requires c =
    let a : InstanceData = c.args.evaluating.now.evaluated.now in (
      Entity c.in-Entity.entity,
      ap (option_map Entity) (ap (entity_of a.schema a.presentation.generators) c.alone.ensures
          ∙ generator_entity a.schema a.presentation.generators c.args.generator c.requires.generator.0 c.args.sort c.in-Entity.entity c.requires.generator.1 c.in-Entity.is),
    )

pub answer_image-requires : goal.answer_image-requires
answer_image-requires c =
    let a : InstanceData = c.args.evaluating.now.evaluated.now in
    record {
      evaluating = c.requires.evaluating;
      row = c.row_of-row.ensures.within c.in-Entity.entity (ap (entity_of a.schema a.presentation.generators) c.alone.ensures
          ∙ generator_entity a.schema a.presentation.generators c.args.generator c.requires.generator.0 c.args.sort c.in-Entity.entity c.requires.generator.1 c.in-Entity.is);
    }

pub returns-in-Plain : goal.returns-in-Plain
returns-in-Plain c = λ name.
    let m = c.args.evaluating.now in
    subst (λ (s : Sort). IfOk c.value_image.result (λ made. made ≡ eval_image m.query.now m.moved.now m.source.now m.target.now m.evaluated.now m.there.now m.from.now m.places.now (c.args.generator, (name, s))))
    (sym c.in-Plain.is) c.value_image.ensures

pub returns-in-Entity : goal.returns-in-Entity
returns-in-Entity c = λ name.
    let m = c.args.evaluating.now in
    let a : InstanceData = m.evaluated.now in
    let row : c.row_of-row.result ≡ row_of a.tables a.assignment (alone c.args.generator) = c.row_of-row.ensures.row ∙ ap (row_of a.tables a.assignment) c.alone.ensures in
    subst (λ (s : Sort). IfOk c.answer_image.result (λ made. made ≡ eval_image m.query.now m.moved.now m.source.now m.target.now a m.there.now m.from.now m.places.now (c.args.generator, (name, s)))) (sym c.in-Entity.is)
    (subst (λ (r : ℕ). IfOk c.answer_image.result (λ made. made ≡ eval_row m.query.now m.moved.now m.source.now m.target.now a m.there.now m.from.now m.places.now c.in-Entity.entity r)) row c.answer_image.ensures)

use Rattle.std.proofs.Common.{ℕ, List, Some, ◌≡◌, IfOk, sym, ap, subst, ◌∙◌}
use Rattle.std.specs.Prelude.{option_map}
use Rattle.cq_base.specs.declared.name.Name.{Name}
use Rattle.cq_theory.specs.declared.presentation.Sort.{Sort}
use Rattle.cq_theory.specs.declared.presentation.Sort.TheVariants.{Plain, Entity}
use Rattle.cq_theory.specs.EntTerm.{alone}
use Rattle.cq_theory.specs.Sorts.{entity_of}
use Rattle.cq_theory.specs.Tables.{row_of}
use Rattle.cq_instance.specs.InstanceData.{InstanceData}
use Rattle.cq_instance.specs.declared.transform.Transform.{Transform}
use Rattle.cq_query.specs.QueryData.{QueryData as Query}
use Rattle.cq_adjoint.specs.QueryMoves.{to_eval_row, to_eval_image}
use Rattle.cq_adjoint.proofs.SortedGenerators.{generator_type, generator_entity}
use Rattle.cq_adjoint.proofs.crossing.generator_image.Goals as goal

pub value_image-requires : goal.value_image-requires
value_image-requires c = record {
  crossing = c.requires.crossing;
  typed = (
    c.in-Plain.field-0,
    generator_type c.args.crossing.now.source.now.schema c.args.crossing.now.source.now.presentation.generators c.args.generator c.requires.generator.0 c.args.sort c.in-Plain.field-0 c.requires.generator.1 c.in-Plain.is,
  );
}

pub row_of-row-requires : goal.row_of-row-requires
row_of-row-requires c = (
  Entity c.in-Entity.entity,
  ap (option_map Entity) (ap (entity_of c.args.crossing.now.source.now.schema c.args.crossing.now.source.now.presentation.generators) c.alone.ensures
      ∙ generator_entity c.args.crossing.now.source.now.schema c.args.crossing.now.source.now.presentation.generators c.args.generator c.requires.generator.0 c.args.sort c.in-Entity.entity c.requires.generator.1 c.in-Entity.is),
)

pub row_image-requires : goal.row_image-requires
row_image-requires c = record {
  crossing = c.requires.crossing;
  row = c.row_of-row.ensures.within c.in-Entity.entity (ap (entity_of c.args.crossing.now.source.now.schema c.args.crossing.now.source.now.presentation.generators) c.alone.ensures
      ∙ generator_entity c.args.crossing.now.source.now.schema c.args.crossing.now.source.now.presentation.generators c.args.generator c.requires.generator.0 c.args.sort c.in-Entity.entity c.requires.generator.1 c.in-Entity.is);
}

pub returns-in-Plain : goal.returns-in-Plain
returns-in-Plain c = λ name.
    subst (λ (s : Sort). IfOk c.value_image.result (λ made. made ≡ to_eval_image c.args.crossing.now.query.now c.args.crossing.now.moved.now c.args.crossing.now.source.now c.args.crossing.now.copies.now
    c.args.crossing.now.target.now c.args.crossing.now.evaluated.now c.args.crossing.now.places.now (c.args.generator, (name, s)))) (sym c.in-Plain.is) c.value_image.ensures

pub returns-in-Entity : goal.returns-in-Entity
returns-in-Entity c = λ name.
    let Q : Query = c.args.crossing.now.query.now in
    let h : Transform = c.args.crossing.now.moved.now in
    let i : InstanceData = c.args.crossing.now.source.now in
    let a : InstanceData = c.args.crossing.now.copies.now in
    let j : InstanceData = c.args.crossing.now.target.now in
    let d : InstanceData = c.args.crossing.now.evaluated.now in
    let answers : List (List (List ℕ)) = c.args.crossing.now.places.now in
    let row : c.row_of-row.result ≡ row_of i.tables i.assignment (alone c.args.generator) = c.row_of-row.ensures.row ∙ ap (row_of i.tables i.assignment) c.alone.ensures in
    subst (λ (s : Sort). IfOk c.row_image.result (λ made. made ≡ to_eval_image Q h i a j d answers (c.args.generator, (name, s)))) (sym c.in-Entity.is)
    (subst (λ (r : ℕ). IfOk c.row_image.result (λ made. made ≡ to_eval_row Q h i a j d answers c.in-Entity.entity r)) row c.row_image.ensures)

use Rattle.std.proofs.Common.{ℕ, List, Some, ◌≡◌, ◌<◌, ◌+◌, length, sym, ap, ◌∙◌, arith}
use Rattle.std.specs.Prelude.{slice_index_or, option_map}
use Rattle.cq_theory.specs.declared.presentation.Sort.TheVariants.{Plain}
use Rattle.cq_theory.specs.declared.term.TypeTerm.TheVariants.{Gen}
use Rattle.cq_theory.specs.declared.value.Value.{Value}
use Rattle.cq_theory.specs.SchemaData.{SchemaData as Schema}
use Rattle.cq_theory.specs.Canonical.{value_term}
use Rattle.cq_theory.specs.Sorts.{type_of}
use Rattle.cq_theory.specs.Tables.{AtRow, value_in, value_of, value_step, value_type}
use Rattle.cq_theory.proofs.TypeTerms.{fold-Gen}
use Rattle.cq_theory.proofs.Typing.{value_typed}
use Rattle.cq_terms.specs.ValueTerms.{value_term as value_term_over}
use Rattle.cq_instance.specs.InstanceData.{InstanceData}
use Rattle.cq_instance.specs.Given.{given}
use Rattle.cq_instance.specs.declared.transform.Image.TheVariants.{Value as ValueImage}
use Rattle.cq_instance.specs.declared.transform.Transform.{Transform}
use Rattle.cq_query.specs.QueryData.{QueryData as Query}
use Rattle.cq_adjoint.specs.Copies.{copied_value}
use Rattle.cq_adjoint.specs.QueryMoves.{IsCoeval, AreAcross, value_sent}
use Rattle.cq_adjoint.proofs.CoevalTerms.{few_generators, value_over}
use Rattle.cq_adjoint.proofs.ToEval.{sent_typed}
use Rattle.cq_adjoint.proofs.crossing.value_image.Goals as goal

-- the value of a generator has the generator's type
of_type : (Q : Query) (i a j d : InstanceData) (answers : List (List (List ℕ))) → AreAcross Q i a j d answers → (n type : ℕ) (v : Value) → v ≡ value_of i.tables i.assignment (Gen n)
    → type_of i.schema i.presentation.generators (Gen n) ≡ Some type → value_type Q.target i.tables.algebra.nulls v ≡ Some type
of_type Q i a j d answers across n type v is typed =
    ap (value_type Q.target i.tables.algebra.nulls) is
    ∙ sym (ap (λ (S : Schema). value_type S i.tables.algebra.nulls (value_of i.tables i.assignment (Gen n))) across.coeval.over)
    ∙ value_typed i.schema i.presentation i.tables i.assignment across.initial.0.holds (Gen n) type typed

pub value_of-requires : goal.value_of-requires
value_of-requires c = (Plain c.requires.typed.0, ap (option_map Plain) c.requires.typed.1)

pub copied_value-requires : goal.copied_value-requires
copied_value-requires c =
    omega (
      arith,
      c.requires.crossing.first,
      few_generators c.args.crossing.now.query.now c.is_well_sorted.ensures c.args.crossing.now.source.now c.args.crossing.now.copies.now c.requires.crossing.across.coeval c.is_instance.ensures c.is_instance-2.ensures,
    )

pub sent_value-requires : goal.sent_value-requires
sent_value-requires c =
    let Q : Query = c.args.crossing.now.query.now in
    let i : InstanceData = c.args.crossing.now.source.now in
    let a : InstanceData = c.args.crossing.now.copies.now in
    let across = c.requires.crossing.across in
    let typed : value_type Q.target i.tables.algebra.nulls c.in_ok-value.value ≡ Some c.requires.typed.0 =
    of_type Q i a c.args.crossing.now.target.now c.args.crossing.now.evaluated.now c.args.crossing.now.places.now across c.args.generator c.requires.typed.0 c.in_ok-value.value c.in_ok-value.ensures c.requires.typed.1 in
    let copied : c.in_ok-copied.copied ≡ copied_value Q i.tables c.in_ok-value.value =
    c.in_ok-copied.ensures ∙ ap (λ (m : ℕ). value_term_over m (length i.tables.algebra.nulls) c.in_ok-value.value) c.requires.crossing.first in (
      Plain c.requires.typed.0,
      ap (option_map Plain) (ap (type_of a.schema a.presentation.generators) copied ∙ value_over Q c.is_well_sorted.ensures i a across.coeval c.is_instance.ensures c.in_ok-value.value c.requires.typed.0 typed),
    )

pub spelled-requires : goal.spelled-requires
spelled-requires c =
    let Q : Query = c.args.crossing.now.query.now in
    let h : Transform = c.args.crossing.now.moved.now in
    let i : InstanceData = c.args.crossing.now.source.now in
    let a : InstanceData = c.args.crossing.now.copies.now in
    let j : InstanceData = c.args.crossing.now.target.now in
    let d : InstanceData = c.args.crossing.now.evaluated.now in
    let across = c.requires.crossing.across in
    let schema : d.schema ≡ Q.target = ap (λ (x : InstanceData). x.schema) across.evaluated.given in
    let typed : value_type Q.target i.tables.algebra.nulls c.in_ok-value.value ≡ Some c.requires.typed.0 =
    of_type Q i a j d c.args.crossing.now.places.now across c.args.generator c.requires.typed.0 c.in_ok-value.value c.in_ok-value.ensures c.requires.typed.1 in
    let copied : c.in_ok-copied.copied ≡ copied_value Q i.tables c.in_ok-value.value =
    c.in_ok-copied.ensures ∙ ap (λ (m : ℕ). value_term_over m (length i.tables.algebra.nulls) c.in_ok-value.value) c.requires.crossing.first in
    let sent : c.in_ok-sent.sent ≡ value_sent h a j (copied_value Q i.tables c.in_ok-value.value) = c.in_ok-sent.ensures ∙ ap (value_sent h a j) copied in
    record {
      given = across.evaluated.given ∙ ap (λ (S : Schema). given S d.tables) (sym schema);
      typed = (
        c.requires.typed.0,
        ap (λ (S : Schema). value_type S d.tables.algebra.nulls c.in_ok-sent.sent) schema ∙ ap (value_type Q.target d.tables.algebra.nulls) sent
            ∙ sent_typed Q c.is_well_sorted.ensures h i a j d c.args.crossing.now.places.now across c.requires.crossing.goes c.is_instance.ensures c.is_instance-3.ensures c.in_ok-value.value c.requires.typed.0 typed,
      );
    }

pub returns : goal.returns
returns c =
    let Q : Query = c.args.crossing.now.query.now in
    let h : Transform = c.args.crossing.now.moved.now in
    let i : InstanceData = c.args.crossing.now.source.now in
    let a : InstanceData = c.args.crossing.now.copies.now in
    let j : InstanceData = c.args.crossing.now.target.now in
    let d : InstanceData = c.args.crossing.now.evaluated.now in
    let value : c.in_ok-value.value ≡ value_in (slice_index_or i.assignment c.args.generator (AtRow 0)) = c.in_ok-value.ensures ∙ fold-Gen Value (value_step i.tables i.assignment) c.args.generator in
    let copied : c.in_ok-copied.copied ≡ copied_value Q i.tables c.in_ok-value.value =
    c.in_ok-copied.ensures ∙ ap (λ (m : ℕ). value_term_over m (length i.tables.algebra.nulls) c.in_ok-value.value) c.requires.crossing.first in
    ap ValueImage (c.in_ok-term.ensures ∙ ap (value_term d.schema d.tables) (c.in_ok-sent.ensures ∙ ap (value_sent h a j) (copied ∙ ap (copied_value Q i.tables) value)))

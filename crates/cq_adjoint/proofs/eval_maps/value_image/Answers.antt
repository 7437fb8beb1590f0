use Rattle.std.proofs.Common.{ℕ, List, Some, ◌≡◌, refl, sym, ap, ◌∙◌}
use Rattle.std.specs.Prelude.{slice_index_or, option_map}
use Rattle.cq_theory.specs.declared.presentation.Sort.TheVariants.{Plain}
use Rattle.cq_theory.specs.declared.term.Term.TheVariants.{Typ}
use Rattle.cq_theory.specs.declared.term.TypeTerm.TheVariants.{Gen}
use Rattle.cq_theory.specs.declared.value.Value.{Value}
use Rattle.cq_theory.specs.SchemaData.{SchemaData as Schema}
use Rattle.cq_theory.specs.Canonical.{value_term}
use Rattle.cq_theory.specs.Homomorphism.{value_image}
use Rattle.cq_theory.specs.Sorts.{type_of}
use Rattle.cq_theory.specs.Tables.{AtRow, value_in, value_of, value_step, value_type}
use Rattle.cq_theory.proofs.TypeTerms.{fold-Gen}
use Rattle.cq_instance.specs.InstanceData.{InstanceData, IsInstance}
use Rattle.cq_instance.specs.Given.{given}
use Rattle.cq_instance.specs.declared.transform.Image.TheVariants.{Value as ValueImage}
use Rattle.cq_instance.specs.declared.transform.Transform.{Transform}
use Rattle.cq_transform.proofs.Made.{meaning_sorted}
use Rattle.cq_transform.proofs.Placed.{sent_image}
use Rattle.cq_query.specs.QueryData.{QueryData as Query}
use Rattle.cq_adjoint.proofs.EvalImages.{sent_typed}
use Rattle.cq_adjoint.proofs.eval_maps.value_image.Goals as goal

-- the value of a generator has the generator's type
of_type : (T : Schema) (a : InstanceData) → IsInstance a → a.schema ≡ T → (n type : ℕ) (v : Value) → v ≡ value_of a.tables a.assignment (Gen n) → type_of a.schema a.presentation.generators (Gen n) ≡ Some type
    → value_type T a.tables.algebra.nulls v ≡ Some type
of_type T a instance over n type v is typed =
    ap (value_type T a.tables.algebra.nulls) is ∙ sym (ap (λ (S : Schema). value_type S a.tables.algebra.nulls (value_of a.tables a.assignment (Gen n))) over)
    ∙ (meaning_sorted a a refl instance (Typ (Gen n)) (Plain type) (ap (option_map Plain) typed)).0

pub value_of-requires : goal.value_of-requires
value_of-requires c = (Plain c.requires.typed.0, ap (option_map Plain) c.requires.typed.1)

pub spelled-requires : goal.spelled-requires
spelled-requires c =
    let m = c.args.evaluating.now in
    let Q : Query = m.query.now in
    let h : Transform = m.moved.now in
    let i : InstanceData = m.source.now in
    let j : InstanceData = m.target.now in
    let b : InstanceData = m.there.now in
    let are = c.requires.evaluating.are in
    let schema : b.schema ≡ Q.target = ap (λ (x : InstanceData). x.schema) are.target.given in
    let typed : value_type Q.target m.evaluated.now.tables.algebra.nulls c.in_ok-value.value ≡ Some c.requires.typed.0 =
    of_type Q.target m.evaluated.now c.is_instance-3.ensures (ap (λ (x : InstanceData). x.schema) are.source.given) c.args.generator c.requires.typed.0 c.in_ok-value.value c.in_ok-value.ensures c.requires.typed.1 in
    let sent : c.in_ok-sent.sent ≡ value_image i.schema i.tables j.tables h.rows h.nulls c.in_ok-value.value = c.in_ok-sent.ensures ∙ sent_image i.schema i.tables j.tables h.rows h.nulls c.in_ok-value.value in
    record {
      given = are.target.given ∙ ap (λ (S : Schema). given S b.tables) (sym schema);
      typed = (
        c.requires.typed.0,
        ap (λ (S : Schema). value_type S b.tables.algebra.nulls c.in_ok-sent.sent) schema ∙ ap (value_type Q.target b.tables.algebra.nulls) sent
            ∙ sent_typed Q c.is_well_sorted.ensures h i j m.evaluated.now b m.from.now m.places.now are c.requires.evaluating.goes c.is_instance.ensures c.is_instance-2.ensures c.is_instance-3.ensures c.in_ok-value.value c.requires.typed.0 typed,
      );
    }

pub returns : goal.returns
returns c =
    let m = c.args.evaluating.now in
    let h : Transform = m.moved.now in
    let i : InstanceData = m.source.now in
    let j : InstanceData = m.target.now in
    let b : InstanceData = m.there.now in
    let value : c.in_ok-value.value ≡ value_in (slice_index_or m.evaluated.now.assignment c.args.generator (AtRow 0)) =
    c.in_ok-value.ensures ∙ fold-Gen Value (value_step m.evaluated.now.tables m.evaluated.now.assignment) c.args.generator in
    let sent : c.in_ok-sent.sent ≡ value_image i.schema i.tables j.tables h.rows h.nulls c.in_ok-value.value = c.in_ok-sent.ensures ∙ sent_image i.schema i.tables j.tables h.rows h.nulls c.in_ok-value.value in
    ap ValueImage (c.in_ok-term.ensures ∙ ap (value_term b.schema b.tables) (sent ∙ ap (value_image i.schema i.tables j.tables h.rows h.nulls) value))

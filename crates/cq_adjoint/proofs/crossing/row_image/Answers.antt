use Rattle.std.proofs.Common.{ℕ, List, ◌≡◌, ◌<◌, ◌+◌, map, length, sym, ap, subst, ◌∙◌, arith}
use Rattle.std.specs.List.{enumerate_from}
use Rattle.cq_base.specs.declared.name.Name.{Name}
use Rattle.cq_theory.specs.declared.term.Term.TheVariants.{Ent}
use Rattle.cq_theory.specs.SchemaData.{SchemaData as Schema}
use Rattle.cq_theory.specs.EntTerm.{alone}
use Rattle.cq_theory.specs.Canonical.{row_term}
use Rattle.cq_theory.specs.Sorts.{IsGround}
use Rattle.cq_theory.specs.Tables.{count_of}
use Rattle.cq_instance.specs.InstanceData.{InstanceData}
use Rattle.cq_instance.specs.Given.{given}
use Rattle.cq_instance.specs.declared.transform.Image.TheVariants.{Row}
use Rattle.cq_instance.specs.declared.transform.Transform.{Transform}
use Rattle.cq_query.specs.QueryData.{QueryData as Query}
use Rattle.cq_query.specs.Translation.{variables_at}
use Rattle.cq_adjoint.specs.Copies.{answers_at, place_of}
use Rattle.cq_adjoint.specs.QueryMoves.{row_sent, copies_sent}
use Rattle.cq_adjoint.proofs.CoevalTerms.{known, copy_ground}
use Rattle.cq_adjoint.proofs.EvalMaps.{count_is}
use Rattle.cq_adjoint.proofs.SpelledTerms.{few_rows}
use Rattle.cq_adjoint.proofs.ToEval.{well, place_inside}
use Rattle.cq_adjoint.proofs.crossing.row_image.Goals as goal

pub sent_rows-requires : goal.sent_rows-requires
sent_rows-requires c =
    let Q : Query = c.args.crossing.now.query.now in
    let i : InstanceData = c.args.crossing.now.source.now in
    let a : InstanceData = c.args.crossing.now.copies.now in
    record {
      few = omega (arith, c.first_copy-first.ensures.few);
      ground = λ k v at.
          subst (λ (m : ℕ). IsGround a.schema a.presentation (Ent (alone (m + k)))) (sym c.first_copy-first.ensures.first)
          (copy_ground Q c.is_well_sorted.ensures i a c.requires.crossing.across.coeval c.is_instance.ensures c.args.entity c.args.row k v c.requires.row at);
    }

pub answer_term-requires : goal.answer_term-requires
answer_term-requires c =
    let Q : Query = c.args.crossing.now.query.now in
    let h : Transform = c.args.crossing.now.moved.now in
    let i : InstanceData = c.args.crossing.now.source.now in
    let a : InstanceData = c.args.crossing.now.copies.now in
    let j : InstanceData = c.args.crossing.now.target.now in
    let d : InstanceData = c.args.crossing.now.evaluated.now in
    let answers : List (List (List ℕ)) = c.args.crossing.now.places.now in
    let across = c.requires.crossing.across in
    let e : ℕ = c.args.entity in
    let rows : c.in_ok-rows.rows.items ≡ copies_sent Q h i a j e c.args.row =
    c.in_ok-rows.ensures
    ∙ ap (λ (m : ℕ). map (λ (v : ℕ × (Name × ℕ)). row_sent h a j v.1.1 (alone (m + v.0))) (enumerate_from 0 (variables_at Q e))) c.first_copy-first.ensures.first in
    let within : e < length Q.target.entities = known Q c.is_well_sorted.ensures i a across.coeval c.is_instance.ensures e c.args.row c.requires.row in
    record {
      entity = omega (arith, across.answered.count, within);
      few = omega (
        arith,
        count_is Q j.tables d.tables across.evaluated.tables answers across.answered e within,
        few_rows Q.target d across.evaluated.given (well Q c.is_well_sorted.ensures h i a j d answers across c.requires.crossing.goes c.is_instance.ensures c.is_instance-2.ensures) c.is_instance-3.ensures e,
      );
      place = subst (λ (l : List ℕ). place_of (answers_at answers e) l < count_of d.tables e) (sym rows)
          (place_inside Q c.is_well_sorted.ensures h i a j d answers across c.requires.crossing.goes c.is_instance.ensures c.is_instance-2.ensures e c.args.row c.requires.row);
      given = across.evaluated.given ∙ ap (λ (S : Schema). given S d.tables) (sym (ap (λ (x : InstanceData). x.schema) across.evaluated.given));
    }

pub returns : goal.returns
returns c =
    let Q : Query = c.args.crossing.now.query.now in
    let h : Transform = c.args.crossing.now.moved.now in
    let i : InstanceData = c.args.crossing.now.source.now in
    let a : InstanceData = c.args.crossing.now.copies.now in
    let j : InstanceData = c.args.crossing.now.target.now in
    let d : InstanceData = c.args.crossing.now.evaluated.now in
    let answers : List (List (List ℕ)) = c.args.crossing.now.places.now in
    let e : ℕ = c.args.entity in
    let rows : c.in_ok-rows.rows.items ≡ copies_sent Q h i a j e c.args.row =
    c.in_ok-rows.ensures
    ∙ ap (λ (m : ℕ). map (λ (v : ℕ × (Name × ℕ)). row_sent h a j v.1.1 (alone (m + v.0))) (enumerate_from 0 (variables_at Q e))) c.first_copy-first.ensures.first in
    ap Row (c.in_ok-name.ensures ∙ ap (λ (l : List ℕ). row_term d.schema d.tables e (place_of (answers_at answers e) l)) rows)

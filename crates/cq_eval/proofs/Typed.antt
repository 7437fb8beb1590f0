-- Terms of a query over variables that stand for rows.
use Rattle.std.proofs.Common.{ℕ, List, Option, Some, None, ◌≡◌, ◌<◌, map, length, sym, ap, subst, ◌∙◌}
use Rattle.std.specs.Prelude.{slice_get, option_map}
use Rattle.std.proofs.lemmas.List.{length-map}
use Rattle.cq_theory.specs.declared.presentation.Equation.{Equation}
use Rattle.cq_theory.specs.declared.presentation.Equation.TheVariants as equation
use Rattle.cq_theory.specs.declared.presentation.Sort.TheVariants.{Plain, Entity}
use Rattle.cq_theory.specs.declared.schema.Edge.{Edge}
use Rattle.cq_theory.specs.declared.term.EntTerm.{EntTerm}
use Rattle.cq_theory.specs.declared.term.TypeTerm.{TypeTerm}
use Rattle.cq_theory.specs.SchemaData.{SchemaData as Schema}
use Rattle.cq_theory.specs.Presentation.{IsEquation}
use Rattle.cq_theory.specs.Sorts.{entity_of, type_of}
use Rattle.cq_theory.specs.Tables.{Tables, AtRow}
use Rattle.cq_instance.specs.Terms.{AreStandings, IsEntTermOf, IsTypeTermOf}
use Rattle.cq_query.specs.QueryData.{QueryData as Query}
use Rattle.cq_query.specs.IsQuery.{IsQuery}
use Rattle.cq_query.specs.Duties.{frozen}
use Rattle.cq_query.specs.Translation.{variables_at, tests_at, assigned, attribute_term, term_or_constant}
use Rattle.cq_query.specs.Answers.{IsTuple, variable_counts}
use Rattle.cq_query.proofs.Answering.{among_answers}
use Rattle.cq_query.proofs.Holding.{rows_sorted, variable_count}
use Rattle.cq_query.proofs.Standing.{assigned_stand, within_length}
use Rattle.cq_eval.specs.Testing.{IsTestAt}
use Rattle.cq_eval.specs.Made.{answers_of}
use Rattle.cq_eval.proofs.Answered.{answers_are}

option_map_some : {X Y : Type 0} (f : X → Y) (o : Option X) (y : Y) → option_map f o ≡ Some y → (x : X) × (o ≡ Some x) × (f x ≡ y)
option_map_some f None y h = cc
option_map_some f (Some x) y h = (x, cc, cc)

module _ (Q : Query) (M : Tables) (query : IsQuery Q) (S : Schema) (over : S ≡ Q.source) where
  module _ (entity : ℕ) (rows : List ℕ) (tuple : IsTuple rows (variable_counts Q M entity)) where
    stand : AreStandings Q.source M (frozen Q entity).generators (map AtRow rows)
    stand = record {
      count = length-map rows AtRow ∙ variable_count Q M entity rows tuple ∙ sym (length-map (variables_at Q entity) (λ v. (v.0, Entity v.1)));
      sorts = rows_sorted Q M entity rows tuple;
    }

    entity_term : (t : EntTerm) (e : ℕ) → entity_of Q.source (frozen Q entity).generators t ≡ Some e → IsEntTermOf S M (map AtRow rows) t e
    entity_term t e h = subst (λ T. IsEntTermOf T M (map AtRow rows) t e) (sym over) (record { generators = (frozen Q entity).generators; standings = stand; of_entity = h })

    type_term : (t : TypeTerm) (type : ℕ) → type_of Q.source (frozen Q entity).generators t ≡ Some type → IsTypeTermOf S M (map AtRow rows) t type
    type_term t type h = subst (λ T. IsTypeTermOf T M (map AtRow rows) t type) (sym over) (record { generators = (frozen Q entity).generators; standings = stand; typed = h })

    -- the sides of a where equation
    sides : (e : Equation) → IsEquation Q.source (frozen Q entity) e → IsTestAt S M rows e
    sides (equation.Ent t u) is =
        let left = option_map_some Entity (entity_of Q.source (frozen Q entity).generators t) is.sort is.left in
        let right = option_map_some Entity (entity_of Q.source (frozen Q entity).generators u) is.sort is.right in
        let both : Entity right.0 ≡ Entity left.0 = right.2 ∙ sym left.2 in
        let same : right.0 ≡ left.0 = cc in
        (left.0, entity_term t left.0 left.1, entity_term u left.0 (right.1 ∙ ap (λ e. Some e) same))
    sides (equation.Typ t u) is =
        let left = option_map_some Plain (type_of Q.source (frozen Q entity).generators t) is.sort is.left in
        let right = option_map_some Plain (type_of Q.source (frozen Q entity).generators u) is.sort is.right in
        let both : Plain right.0 ≡ Plain left.0 = right.2 ∙ sym left.2 in
        let same : right.0 ≡ left.0 = cc in
        (left.0, type_term t left.0 left.1, type_term u left.0 (right.1 ∙ ap (λ e. Some e) same))

    pub tests_typed : entity < length Q.target.entities → (n : ℕ) (e : Equation) → slice_get (tests_at Q entity) n ≡ Some e → IsTestAt S M rows e
    tests_typed within n e at = sides e ((query.each_frozen entity within).equations n e at)

  answer_tuple : (entity place : ℕ) (rows : List ℕ) → slice_get (answers_of Q M entity) place ≡ Some rows → IsTuple rows (variable_counts Q M entity)
  answer_tuple entity place rows at = ((among_answers Q M entity (answers_of Q M entity) (answers_are Q M entity) rows).0 (place, at)).0

  -- the terms of keys and attributes, at answers
  pub key_typed : (k : ℕ) (edge : Edge) → slice_get Q.target.keys k ≡ Some edge → (place : ℕ) (rows : List ℕ) → slice_get (answers_of Q M edge.from) place ≡ Some rows
      → (n : ℕ) (t : EntTerm) → slice_get (assigned Q k) n ≡ Some t → (e : ℕ) × IsEntTermOf S M (map AtRow rows) t e
  key_typed k edge is place rows at n t here =
      let key = assigned_stand Q query k edge is in
      let v = within_length (variables_at Q edge.to) (assigned Q k) n t here (sym key.count) in
      (v.0.1, entity_term edge.from rows (answer_tuple edge.from place rows at) t v.0.1 (key.each n t v.0 here v.1))

  pub attribute_typed : (a : ℕ) (edge : Edge) → slice_get Q.target.attributes a ≡ Some edge → (place : ℕ) (rows : List ℕ) → slice_get (answers_of Q M edge.from) place ≡ Some rows
      → IsTypeTermOf S M (map AtRow rows) (attribute_term Q a) edge.to
  attribute_typed a edge is place rows at =
      let term = query.attributes a edge is in
      type_term edge.from rows (answer_tuple edge.from place rows at) (attribute_term Q a) edge.to (ap (λ o. type_of Q.source (frozen Q edge.from).generators (term_or_constant o)) term.found ∙ term.typed)

use Rattle.std.proofs.Common.{ℕ, List, Some, ◌≡◌, ◌<◌, ◌∙◌, length, take, get_or, refl, sym, ap, subst, arith, eq-eqb}
use Rattle.std.specs.Prelude.{slice_get}
use Rattle.std.proofs.lemmas.List.{take_all}
use Rattle.std.proofs.lemmas.Option.{slice_get-get_or}
use Rattle.cq_tables.specs.Content.{Content}
use Rattle.cq_tables.specs.Content.{entity_of as row_entity}
use Rattle.cq_theory.specs.declared.schema.ObsEq.{ObsEq}
use Rattle.cq_theory.specs.Schema.{IsSchema, one_of}
use Rattle.cq_theory.specs.SchemaData.{SchemaData as Schema}
use Rattle.cq_model.specs.declared.places.Places.{Places}
use Rattle.cq_model.proofs.AddedSides.{AreAtRow, HaveOneType, observation_typed, row_readable, row_none, row_more, next_found}
use Rattle.cq_instance.proofs.FoundEquations.{found_at, found_more}
use Rattle.cq_model.proofs.NumberedEquations.{number_within, entity_at_number, at_row_of_group}
use Rattle.cq_model.proofs.PushedTerms.{HavePlaces-wider}
use Rattle.cq_model.proofs.equations.push_row.Goals as goal

pub loop-number-init : goal.loop-number-init
loop-number-init c = row_none c.args.ground.now.schema.now c.args.ground.now.tables.now c.args.ground.now.places.now (row_entity c.args.ground.now.tables.now c.args.row) c.args.row c.args.list.now

pub bounds-equations-number : goal.bounds-equations-number
bounds-equations-number c =
    let S : Schema = c.args.ground.now.schema.now in
    let numbers : List ℕ = c.args.numbers.now in
    let i : ℕ = c.loop-number.number-index in
    let items : c.as_slice-equations.result.now ≡ S.obs_eqs = c.as_slice-equations.ensures ∙ ap (λ (s : Schema). s.obs_eqs) c.schema.view_is in
    let inside : get_or numbers i 0 < length S.obs_eqs =
    number_within S.obs_eqs (row_entity c.args.ground.now.tables.now c.args.row) numbers c.requires.numbers i (get_or numbers i 0) (slice_get-get_or numbers i 0 c.loop-number-test.true) in
    omega (arith, inside, ap length items)

pub offset_bounds-equations-number : goal.offset_bounds-equations-number
offset_bounds-equations-number c =
    let S : Schema = c.args.ground.now.schema.now in
    let numbers : List ℕ = c.args.numbers.now in
    let i : ℕ = c.loop-number.number-index in
    let items : c.as_slice-equations.result.now ≡ S.obs_eqs = c.as_slice-equations.ensures ∙ ap (λ (s : Schema). s.obs_eqs) c.schema.view_is in
    let inside : get_or numbers i 0 < length S.obs_eqs =
    number_within S.obs_eqs (row_entity c.args.ground.now.tables.now c.args.row) numbers c.requires.numbers i (get_or numbers i 0) (slice_get-get_or numbers i 0 c.loop-number-test.true) in
    omega (arith, inside, ap length items, c.as_slice-equations.type_inv)

pub push_equation-requires : goal.push_equation-requires
push_equation-requires c =
    let S : Schema = c.args.ground.now.schema.now in
    let m : Content = c.args.ground.now.tables.now in
    let places : Places = c.args.ground.now.places.now in
    let entity : ℕ = row_entity m c.args.row in
    let numbers : List ℕ = c.args.numbers.now in
    let i : ℕ = c.loop-number.number-index in
    let n : ℕ = get_or numbers i 0 in
    let equation : ObsEq = c.index-equations-number.result in
    let at : slice_get numbers i ≡ Some n = slice_get-get_or numbers i 0 c.loop-number-test.true in
    let items : c.as_slice-equations.result.now ≡ S.obs_eqs = c.as_slice-equations.ensures ∙ ap (λ (s : Schema). s.obs_eqs) c.schema.view_is in
    let inside : n < length S.obs_eqs = number_within S.obs_eqs entity numbers c.requires.numbers i n at in
    let found : slice_get S.obs_eqs n ≡ Some equation = next_found c.as_slice-equations.result.now S.obs_eqs n equation items (omega (arith, inside, ap length items)) c.index-equations-number.is in
    let schema : IsSchema S = subst IsSchema c.schema.view_is c.schema.invariant.0 in
    let typed : HaveOneType S (one_of entity) equation.left equation.right =
    observation_typed S entity equation (schema.obs_eqs n equation found) (entity_at_number S.obs_eqs entity numbers c.requires.numbers i n at equation found) in
    let readable = row_readable S m places entity c.args.row (length c.loop-number.list.nodes) c.requires.live refl in
    record {
      places = HavePlaces-wider S m places (length c.args.list.now.nodes) (length c.loop-number.list.nodes) c.loop-number.invariant.grows c.requires.places;
      left = record { generators = one_of entity; readable = readable; type = typed.type; sort = typed.left };
      right = record { generators = one_of entity; readable = readable; type = typed.type; sort = typed.right };
    }

pub loop-number-preserved : goal.loop-number-preserved
loop-number-preserved c =
    let S : Schema = c.args.ground.now.schema.now in
    let m : Content = c.args.ground.now.tables.now in
    let places : Places = c.args.ground.now.places.now in
    let entity : ℕ = row_entity m c.args.row in
    let numbers : List ℕ = c.args.numbers.now in
    let i : ℕ = c.loop-number.number-index in
    let n : ℕ = get_or numbers i 0 in
    let equation : ObsEq = c.index-equations-number.result in
    let at : slice_get numbers i ≡ Some n = slice_get-get_or numbers i 0 c.loop-number-test.true in
    let items : c.as_slice-equations.result.now ≡ S.obs_eqs = c.as_slice-equations.ensures ∙ ap (λ (s : Schema). s.obs_eqs) c.schema.view_is in
    let inside : n < length S.obs_eqs = number_within S.obs_eqs entity numbers c.requires.numbers i n at in
    let found : slice_get S.obs_eqs n ≡ Some equation = next_found c.as_slice-equations.result.now S.obs_eqs n equation items (omega (arith, inside, ap length items)) c.index-equations-number.is in
    let schema : IsSchema S = subst IsSchema c.schema.view_is c.schema.invariant.0 in
    let same : equation.entity ≡ entity = entity_at_number S.obs_eqs entity numbers c.requires.numbers i n at equation found in
    let typed : HaveOneType S (one_of entity) equation.left equation.right = observation_typed S entity equation (schema.obs_eqs n equation found) same in
    subst (λ (es : List ObsEq). AreAtRow S m places entity c.args.row es c.args.list.now c.push_equation.new.list) (sym (found_more S.obs_eqs numbers i n equation c.loop-number-test.true refl found))
    (row_more S m places entity c.args.row c.args.list.now c.loop-number.list c.push_equation.new.list (found_at S.obs_eqs (take i numbers)) equation c.loop-number.invariant (eq-eqb equation.entity entity same) typed
    c.in_ok-push_equation.ensures)

pub returns-clause-grows : goal.returns-clause-grows
returns-clause-grows c = c.loop-number.invariant.grows

pub returns-clause-added : goal.returns-clause-added
returns-clause-added c =
    let S : Schema = c.args.ground.now.schema.now in
    let entity : ℕ = row_entity c.args.ground.now.tables.now c.args.row in
    let numbers : List ℕ = c.args.numbers.now in
    let all : take c.loop-number.number-index numbers ≡ numbers = take_all c.loop-number.number-index numbers c.loop-number-test.false in
    let are = subst (λ (l : List ℕ). AreAtRow S c.args.ground.now.tables.now c.args.ground.now.places.now entity c.args.row (found_at S.obs_eqs l) c.args.list.now c.loop-number.list) all c.loop-number.invariant in
    (at_row_of_group S c.args.ground.now.tables.now c.args.ground.now.places.now entity c.args.row numbers c.args.list.now c.loop-number.list c.requires.numbers are).added

-- The canonical presentation of tables closes at each depth from 1 on, is wide at no depth where the rows are few, and equates no two constants.
use Rattle.std.proofs.Common.{ℕ, zero, suc, Bool, true, false, List, [], ◌∷◌, ◌++◌, Option, Some, None, ◌≡◌, ◌≢◌, ◌<◌, ◌≤◌, ◌+◌, ◌==◌, ◌||◌, map, take, length, sum, get_or, refl, sym, ap, subst, ◌∙◌, arith, length-append}
use Rattle.std.specs.Prelude.{slice_get, slice_index, slice_index_or, option_map, option_and_then, unwrap_or, nat_eq, All, AllPairs}
use Rattle.std.specs.List.{flat_map, enumerate_from, list_any, IsDistinct}
use Rattle.std.proofs.lemmas.Bool.{eq-eqb, eqb-true}
use Rattle.std.proofs.lemmas.List.{length-map, get_or-map, append-nil}
use Rattle.std.proofs.lemmas.List.Sums.{sum_by-cons}
use Rattle.std.proofs.lemmas.Map.Made.{IsDistinct-from_AllPairs}
use Rattle.std.proofs.lemmas.Map.Steps.{length-le_from_distinct_below}
use Rattle.std.proofs.lemmas.Option.{option_and_then_some}
use Rattle.cq_theory.specs.declared.constant.Con.{Con}
use Rattle.cq_theory.specs.declared.presentation.Equation.{Equation}
use Rattle.cq_theory.specs.declared.presentation.Presentation.{Presentation}
use Rattle.cq_theory.specs.declared.presentation.Sort.TheVariants.{Plain, Entity}
use Rattle.cq_theory.specs.declared.schema.Edge.{Edge}
use Rattle.cq_theory.specs.SchemaData.{SchemaData as Schema}
use Rattle.cq_theory.specs.declared.term.EntTerm.{EntTerm}
use Rattle.cq_theory.specs.declared.term.Term.{Term}
use Rattle.cq_theory.specs.declared.term.Term.TheVariants.{Ent, Typ}
use Rattle.cq_theory.specs.declared.term.TypeTerm.TheVariants.{Const}
use Rattle.cq_theory.specs.declared.value.Value.{Value}
use Rattle.cq_theory.specs.declared.value.Value.TheVariants as value
use Rattle.cq_theory.specs.Canonical.{below, edges_from, row_generator, row_term, cell_equation, key_equation, row_equations, entity_equations, entry_equation, canonical, canonical_assignment}
use Rattle.cq_theory.specs.Closing.{Closes, HasKey, IsWide, MoreClassesThan, IsInconsistent}
use Rattle.cq_theory.specs.Constant.{IsLesser}
use Rattle.cq_theory.specs.Derivation.{reflexivity, symmetry, transitivity, key, given, Within}
use Rattle.cq_theory.specs.EntTerm.{depth_of, extended}
use Rattle.cq_theory.specs.Schema.{IsSchema}
use Rattle.cq_theory.specs.Sorts.{Generators, followed, target_of, entity_at, entity_of, IsGround}
use Rattle.cq_theory.specs.Tables.{Tables, AtRow, AtValue, Assignment, row_in, count_of, key_at, row_from, row_of, value_of, value_step, IsWellFormed, Satisfies}
use Rattle.cq_theory.proofs.Closings.{entity_of-extended, extended-cons}
use Rattle.cq_theory.proofs.Constants.{lesser-irreflexive}
use Rattle.cq_theory.proofs.Every.{Every, Every-from, Every-parts, Every-in_flat_map, Every-unmap, Every-in_filter, enumerated, at_range}
use Rattle.cq_theory.proofs.Sound.{followed_some, meaning_of-derived}
use Rattle.cq_theory.proofs.TypeTerms.{fold-Const}
use Rattle.cq_instance.proofs.CanonicalGenerators as generators
use Rattle.cq_instance.proofs.CanonicalHolds as model

-- the place of a member of a block is below the sum of the blocks
place_below : (xs : List ℕ) (e r : ℕ) → r < slice_index xs e → sum (take e xs) + r < sum xs
place_below [] e r h = absurd (omega arith)
place_below (x ∷ xs) zero r h = omega (arith, h, sum_by-cons (λ n. n) x xs)
place_below (x ∷ xs) (suc e) r h =
    let rest : sum (take e xs) + r < sum xs = place_below xs e r h in
    omega (arith, rest, sum_by-cons (λ n. n) x xs, sum_by-cons (λ n. n) x (take e xs))

-- a number that stands among numbers below n is below n
among_below : (n : ℕ) (xs : List ℕ) → All (λ x. x < n) xs → (q : ℕ) → list_any (nat_eq q) xs ≡ true → q < n
among_below n [] all q h = cc
among_below n (x ∷ xs) all q h = at_test (nat_eq q x) refl h (among_below n xs (λ k d within. all (suc k) d (omega (arith, within))) q)
  where
    at_test : (b : Bool) → nat_eq q x ≡ b → (b || list_any (nat_eq q) xs) ≡ true → (list_any (nat_eq q) xs ≡ true → q < n) → q < n
    at_test true e _ others = let first : x < n = all 0 0 (omega arith) in let same : q ≡ x = eqb-true q x e in omega arith
    at_test false e rest others = others rest

module _ {X : Type 0} (number : X → ℕ) where
  all_numbers : (n : ℕ) (xs : List X) → All (λ x. number x < n) xs → All (λ m. m < n) (map number xs)
  all_numbers n [] all k d within = absurd (omega (arith, within))
  all_numbers n (x ∷ xs) all zero d within = all 0 x (omega arith)
  all_numbers n (x ∷ xs) all (suc k) d within = all_numbers n xs (λ m e inside. all (suc m) e (omega (arith, inside))) k d (omega (arith, within))

  pairs_numbered : (xs : List X) → AllPairs (λ x y. number x ≢ number y) xs → AllPairs (λ a b. a ≢ b) (map number xs)
  pairs_numbered [] apart i j d first second = absurd (omega (arith, second))
  pairs_numbered (x ∷ xs) apart zero zero d first second = absurd (omega (arith, first))
  pairs_numbered (x ∷ xs) apart zero (suc j) d first second =
      let inside : j < length xs = omega (arith, second, length-map xs number) in
      let is : get_or (map number xs) j d ≡ number (get_or xs j x) = get_or-map number xs j x d inside in
      λ one. apart 0 (suc j) x (omega arith) (omega (arith, inside)) (one ∙ is)
  pairs_numbered (x ∷ xs) apart (suc i) zero d first second = absurd (omega (arith, first))
  pairs_numbered (x ∷ xs) apart (suc i) (suc j) d first second =
      pairs_numbered xs (λ k m e before inside. apart (suc k) (suc m) e (omega (arith, before)) (omega (arith, inside))) i j d (omega (arith, first)) (omega (arith, second))

  -- as many members as there are numbers have different ones at most
  crowded : (n : ℕ) (xs : List X) → All (λ x. number x < n) xs → AllPairs (λ x y. number x ≢ number y) xs → length xs ≤ n
  crowded n xs within apart =
      let shorter : length (map number xs) ≤ n =
      length-le_from_distinct_below (map number xs) n (IsDistinct-from_AllPairs (λ a b. (eqb-true a b, eq-eqb a b)) (map number xs) (pairs_numbered xs apart)) (among_below n (map number xs) (all_numbers n xs within)) in
      omega (arith, shorter, length-map xs number)

module _ (S : Schema) (M : Tables) (schema : IsSchema S) (well : IsWellFormed S M) where
  abbrev same : length M.sheet.counts ≡ length S.entities
  same = well.entities

  abbrev P : Presentation
  P = canonical S M

  abbrev G : Generators
  G = P.generators

  abbrev A : Assignment
  A = canonical_assignment S M

  -- the equation is one of the presentation
  abbrev IsGiven : Equation → Type 0
  IsGiven e = (n : ℕ) × (slice_get P.equations n ≡ Some e)

  all_given : Every IsGiven P.equations
  all_given = Every-from IsGiven P.equations (λ n e at. (n, at))

  below_at : (n k : ℕ) → k < n → slice_get (below n) k ≡ Some k
  below_at n k h = let here : 0 + k ≡ k = omega arith in at_range 0 n k h ∙ ap (λ m. Some m) here

  enumerated_at : (edges : List Edge) (k : ℕ) (edge : Edge) → slice_get edges k ≡ Some edge → slice_get (enumerate_from 0 edges) k ≡ Some (k, edge)
  enumerated_at edges k edge h = let here : 0 + k ≡ k = omega arith in enumerated 0 edges k edge h ∙ ap (λ m. Some (m, edge)) here

  row_given : (e row : ℕ) → e < length S.entities → row < count_of M e → Every IsGiven (row_equations S M e row)
  row_given e row within inside =
      let of_rows = (Every-parts IsGiven (flat_map (entity_equations S M) (below (length S.entities))) (map (entry_equation S M) M.algebra.entries) all_given).0 in
      let of_entity = Every-in_flat_map IsGiven (entity_equations S M) (below (length S.entities)) e e of_rows (below_at (length S.entities) e within) in
      Every-in_flat_map IsGiven (row_equations S M e) (below (count_of M e)) row row of_entity (below_at (count_of M e) row inside)

  key_given : (e row k : ℕ) (edge : Edge) → e < length S.entities → row < count_of M e → slice_get S.keys k ≡ Some edge → edge.from ≡ e → IsGiven (key_equation S M e row (k, edge))
  key_given e row k edge within inside at from =
      let keys = (Every-parts IsGiven (map (cell_equation S M e row) (edges_from e S.attributes)) (map (key_equation S M e row) (edges_from e S.keys)) (row_given e row within inside)).1 in
      Every-in_filter (λ (p : ℕ × Edge). IsGiven (key_equation S M e row p)) (λ (p : ℕ × Edge). p.1.from == e) (enumerate_from 0 S.keys) k (k, edge)
      (Every-unmap IsGiven (key_equation S M e row) (edges_from e S.keys) keys) (enumerated_at S.keys k edge at) (eq-eqb edge.from e from)

  module _ (b : ℕ) where
    -- t equals the generator of a row, within b
    record IsNear (t : EntTerm) (e row : ℕ) : Type 0 where
      pub sorted : entity_of S G t ≡ Some e
      pub within : e < length S.entities
      pub inside : row < count_of M e
      pub near : Within S P b (Ent t) (Ent (row_term S M e row))

    key_near : (e row k : ℕ) (edge : Edge) → 1 ≤ b → e < length S.entities → row < count_of M e → slice_get S.keys k ≡ Some edge → edge.from ≡ e
        → Within S P b (Ent (record { generator = row_generator S M e row; path = k ∷ [] })) (Ent (row_term S M edge.to (key_at M k row)))
    key_near e row k edge deep within inside at from =
        let found = key_given e row k edge within inside at from in
        (given found.0, (key_equation S M e row (k, edge), found.1, refl, refl, omega arith, omega arith))

    followed_near : (t : EntTerm) (e row k middle : ℕ) → Within S P b (Ent t) (Ent (row_term S M e row)) → entity_of S G (extended t (k ∷ [])) ≡ Some middle → depth_of (extended t (k ∷ [])) ≤ b
        → 1 ≤ b → Within S P b (Ent (extended t (k ∷ []))) (Ent (record { generator = row_generator S M e row; path = k ∷ [] }))
    followed_near t e row k middle near sorted short deep =
        (key k near.0, (t, row_term S M e row, near.1, refl, refl, (Entity middle, ap (option_map Entity) sorted), short, omega arith))

    one_key : (t : EntTerm) (e row k middle : ℕ) → IsNear t e row → followed (slice_get S.keys k) e ≡ Some middle → depth_of (extended t (k ∷ [])) ≤ b → 1 ≤ b
        → IsNear (extended t (k ∷ [])) middle (key_at M k row)
    one_key t e row k middle near led short deep =
        let edge = followed_some (slice_get S.keys k) e middle led in
        let there = model.key_is S M schema well e row k edge.0 near.inside edge.1 edge.2 in
        let sorted : entity_of S G (extended t (k ∷ [])) ≡ Some middle =
        entity_of-extended S P t (k ∷ []) ∙ ap (option_and_then (target_of S.keys (k ∷ []))) near.sorted ∙ ap (option_and_then (target_of S.keys [])) led in
        let first = followed_near t e row k middle near.near sorted short deep in
        let second : Within S P b (Ent (record { generator = row_generator S M e row; path = k ∷ [] })) (Ent (row_term S M middle (key_at M k row))) =
        subst (λ n. Within S P b (Ent (record { generator = row_generator S M e row; path = k ∷ [] })) (Ent (row_term S M n (key_at M k row)))) edge.3
        (key_near e row k edge.0 deep near.within near.inside edge.1 edge.2) in
        record {
          sorted = sorted;
          within = subst (λ n. n < length S.entities) edge.3 there.within;
          inside = subst (λ n. key_at M k row < count_of M n) edge.3 there.inside;
          near = (transitivity first.0 second.0, (Ent (record { generator = row_generator S M e row; path = k ∷ [] }), first.1, second.1));
        }

    extended-nil : (t : EntTerm) → extended t [] ≡ t
    extended-nil t = ap (λ p. extended (record { generator = t.generator; path = [] }) p) (append-nil t.path)

    along : (path : List ℕ) (t : EntTerm) (e target row : ℕ) → IsNear t e row → target_of S.keys path e ≡ Some target → depth_of t + length path ≤ b
        → IsNear (extended t path) target (row_from M row path)
    along [] t e target row near led short =
        let one : e ≡ target = cc in
        subst (λ u. IsNear u target row) (sym (extended-nil t)) (subst (λ n. IsNear t n row) one near)
    along (k ∷ path) t e target row near led short = option_and_then_some (target_of S.keys path) (followed (slice_get S.keys k) e) target led (λ middle first rest.
        let longer : depth_of (extended t (k ∷ [])) ≡ depth_of t + 1 = length-append t.path (k ∷ []) in
        subst (λ u. IsNear u target (row_from M (key_at M k row) path)) (extended-cons S P t k path)
        (along path (extended t (k ∷ [])) middle target (key_at M k row) (one_key t e row k middle near first (omega (arith, longer, short)) (omega (arith, short))) rest (omega (arith, longer, short))))

    row_near : (e row : ℕ) → e < length S.entities → row < count_of M e → IsNear (row_term S M e row) e row
    row_near e row within inside =
        let sorted = generators.row_term_entity S M same e row within inside in
        record {
          sorted = sorted;
          within = within;
          inside = inside;
          near = (reflexivity (Ent (row_term S M e row)), ((Entity e, ap (option_map Entity) sorted), omega arith, refl, refl));
        }

    -- each term of depth at most b equals the generator of its row
    ent_near : (t : EntTerm) (e : ℕ) → entity_of S G t ≡ Some e → depth_of t ≤ b → IsNear t e (row_of M A t)
    ent_near t e h short = option_and_then_some (target_of S.keys t.path) (entity_at (slice_get G t.generator)) e h (λ start first rest.
        let at = generators.from_entity S M same t.generator start first in
        let begins : row_in (slice_index_or A t.generator (AtRow 0)) ≡ at.0 = ap (λ n. row_in (slice_index_or A n (AtRow 0))) at.3 ∙ ap row_in (generators.row_stands S M same start at.0 at.1 at.2) in
        let is : extended (row_term S M start at.0) t.path ≡ t = ap (λ n. extended (record { generator = n; path = [] }) t.path) (sym at.3) in
        subst (λ row. IsNear t e (row_from M row t.path)) (sym begins)
        (subst (λ u. IsNear u e (row_from M at.0 t.path)) is (along t.path (row_term S M start at.0) start e at.0 (row_near start at.0 at.1 at.2) rest (omega (arith, short)))))

    -- the presentation closes there, if it is 1 or more
    pub closes : 1 ≤ b → Closes S P b
    closes deep t entity h has_key short =
        (row_term S M entity (row_of M A t), omega (arith, deep), (ent_near t entity h short).near)

    -- the number of the generator that a term equals
    abbrev number : EntTerm → ℕ
    number t = row_generator S M (unwrap_or (entity_of S G t) 0) (row_of M A t)

    record IsNumbered (t : EntTerm) : Type 0 where
      pub inside : number t < sum M.sheet.counts
      pub near : Within S P b (Ent t) (Ent (record { generator = number t; path = [] }))

    numbered : (t : EntTerm) → IsGround S P (Ent t) → depth_of t ≤ b → IsNumbered t
    numbered t ground short = of_entity (entity_of S G t) refl ground.1
      where
        of_entity : (o : Option ℕ) → entity_of S G t ≡ o → option_map Entity o ≡ Some ground.0 → IsNumbered t
        of_entity None is h = cc
        of_entity (Some e) is h =
            let at = ent_near t e is short in
            let entity : e ≡ unwrap_or (entity_of S G t) 0 = sym (ap (λ o. unwrap_or o 0) is) in
            record {
              inside = subst (λ n. row_generator S M n (row_of M A t) < sum M.sheet.counts) entity (place_below M.sheet.counts e (row_of M A t) at.inside);
              near = subst (λ n. Within S P b (Ent t) (Ent (record { generator = row_generator S M n (row_of M A t); path = [] }))) entity at.near;
            }

    one_class : (t u : EntTerm) → IsGround S P (Ent t) × (depth_of t ≤ b) → IsGround S P (Ent u) × (depth_of u ≤ b) → number t ≡ number u → Within S P b (Ent t) (Ent u)
    one_class t u left right one =
        let first = numbered t left.0 left.1 in
        let second : Within S P b (Ent u) (Ent (record { generator = number t; path = [] })) =
        subst (λ n. Within S P b (Ent u) (Ent (record { generator = n; path = [] }))) (sym one) (numbered u right.0 right.1).near in
        (transitivity first.near.0 (symmetry second.0), (Ent (record { generator = number t; path = [] }), first.near.1, second.1))

    -- there are no more classes than rows
    few_classes : sum M.sheet.counts ≤ 200000 → IsWide S P b → ⊥
    few_classes few wide =
        let shorter : length wide.0 ≤ sum M.sheet.counts = crowded number (sum M.sheet.counts) wide.0
        (λ k d within. (numbered (slice_index_or wide.0 k d) (wide.2 k d within).0 (wide.2 k d within).1).inside)
        (λ i j d first second one.
        let inside : i < length wide.0 = omega (arith, first, second) in
        wide.3 i j d first second (one_class (slice_index_or wide.0 i d) (slice_index_or wide.0 j d) (wide.2 i d inside) (wide.2 j d second) one)) in
        omega (arith, shorter, wide.1, few)

  pub narrow : sum M.sheet.counts ≤ 200000 → (k : ℕ) → IsWide S P k → ⊥
  narrow few k = few_classes k few

  same_constant : (c d : Con) → AtValue (value.Const c) ≡ AtValue (value.Const d) → c ≡ d
  same_constant c d h = cc

  -- what is derivable holds in the tables, where each constant is itself
  pub consistent : Satisfies S M → IsInconsistent S P → ⊥
  consistent satisfies (c, d, at) =
      let means : (x : Con) → value_of M A (Const x) ≡ value.Const x = λ x. fold-Const Value (value_step M A) x in
      let one : c ≡ d = same_constant c d (ap AtValue (sym (means c)) ∙ meaning_of-derived S P M A schema (model.holds S M schema well satisfies) (Typ (Const c)) (Typ (Const d)) at.equal ∙ ap AtValue (means d)) in
      lesser-irreflexive d (subst (λ x. IsLesser x d) one at.greater)

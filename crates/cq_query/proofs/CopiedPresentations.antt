-- The coeval presentation is one over the source of the query.
use Rattle.std.proofs.Common.{ℕ, zero, suc, Bool, true, false, List, [], ◌∷◌, ◌++◌, Option, Some, None, ◌≡◌, ◌<◌, ◌≤◌, ◌+◌, ◌*◌, ◌&&◌, Result, Ok, Err, IfOk, if◌then◌else◌, map, length, get_or, refl, sym, ap, subst, ◌∙◌, arith}
use Rattle.std.specs.Prelude.{slice_get, slice_index, slice_index_or, nat_lt, option_map, option_and_then, codes, decimal}
use Rattle.std.specs.List.{range_with_len, flat_map, enumerate_from, list_any, sum_by}
use Rattle.std.proofs.lemmas.Bool.Decides.{nat_tests}
use Rattle.std.proofs.lemmas.Bool.{and_parts}
use Rattle.std.proofs.lemmas.List.{length-map}
use Rattle.std.proofs.lemmas.List.Sums.{sum_by-cons, sum-map}
use Rattle.std.proofs.lemmas.List.FromFn.{length-range_with_len, get_or-range_with_len}
use Rattle.std.proofs.lemmas.Option.{slice_get_within, slice_get-get_or, slice_get-map}
use Rattle.cq_base.specs.declared.name.Name.{Name}
use Rattle.cq_theory.specs.declared.refusal.SizeRefusal.{SizeRefusal}
use Rattle.cq_theory.specs.declared.presentation.Equation.{Equation}
use Rattle.cq_theory.specs.declared.presentation.Equation.TheVariants.{Ent as EntEquation, Typ as TypEquation}
use Rattle.cq_theory.specs.declared.presentation.Presentation.{Presentation}
use Rattle.cq_theory.specs.declared.presentation.Sort.{Sort}
use Rattle.cq_theory.specs.declared.presentation.Sort.TheVariants.{Plain, Entity}
use Rattle.cq_theory.specs.declared.schema.Edge.{Edge}
use Rattle.cq_theory.specs.declared.term.EntTerm.{EntTerm}
use Rattle.cq_theory.specs.declared.term.TypeTerm.{TypeTerm}
use Rattle.cq_theory.specs.declared.term.TypeTerm.TheVariants as term
use Rattle.cq_theory.specs.declared.value.Value.{Value}
use Rattle.cq_theory.specs.declared.value.Value.TheVariants as value
use Rattle.cq_theory.specs.EntTerm as ent
use Rattle.cq_theory.specs.TypeTerm as typ
use Rattle.cq_theory.specs.SchemaData.{SchemaData as Schema}
use Rattle.cq_theory.specs.declared.constant.Con.TheVariants.{Named}
use Rattle.cq_theory.specs.TypesideData.{TypesideData as Typeside}
use Rattle.cq_theory.specs.Typeside.{constant_type}
use Rattle.cq_theory.specs.Sorts.{Generators, target_of, entity_at, type_at, entity_of, is_type, have_types, applied_type, type_of, type_step}
use Rattle.cq_theory.specs.Derivation.{left_of, right_of}
use Rattle.cq_theory.specs.Presentation.{IsSort, IsPresentation, term_symbols, has_long_side, is_oversized}
use Rattle.cq_theory.specs.Tables.{Tables, value_type, value_type_step, IsWellFormed, IsSoundEntry}
use Rattle.cq_theory.specs.Canonical.{below}
use Rattle.cq_theory.proofs.Faults.{made_of, neither, at_most}
use Rattle.cq_theory.proofs.OnValues.{Each, on_values, All_at}
use Rattle.cq_theory.proofs.Sound.{is_type_some, applied_type_some}
use Rattle.cq_theory.proofs.TypeTerms.{fold-Gen, fold-Const, fold-Fun}
use Rattle.cq_theory.proofs.Values as values
use Rattle.cq_query.specs.QueryData.{QueryData as Query}
use Rattle.cq_theory.specs.Groups.{positions}
use Rattle.cq_theory.specs.EntTerm.{alone}
use Rattle.cq_query.specs.Puts.{generators_from, put, put_type, put_equation}
use Rattle.cq_query.specs.Translation.{key_sources, attribute_sources, variables_at, tests_at, assigned, term_or_constant}
use Rattle.cq_query.specs.IsQuery.{IsQuery}
use Rattle.cq_terms.specs.ValueTerms.{value_term, value_term_step, entry_equation}
use Rattle.cq_query.specs.Coeval.{size_of, start_of, null_start, row_sorts, terms_from, row_terms, key_equations, key_equations_at, cell_equation, row_equations, entity_equations, coeval_of}
use Rattle.cq_theory.proofs.Grouped.{made_at}
use Rattle.cq_query.proofs.Parted.{below_at}
use Rattle.cq_query.proofs.Standing.{HasOneSort, Stand, generators_at, put_type_sorted, put_equation_sorted, put_stand, alone_at}
use Rattle.cq_query.proofs.SortedDuties.{All_in, all_append, all_flat_map, all_equal, from_position}
use Rattle.cq_query.proofs.Copying.{const_sum, rows_size, rows_count}

get_front : {X : Type 0} (xs ys : List X) (n : ℕ) (x : X) → slice_get xs n ≡ Some x → slice_get (xs ++ ys) n ≡ Some x
get_front [] ys n x h = cc
get_front (y ∷ xs) ys zero x h = h
get_front (y ∷ xs) ys (suc n) x h = get_front xs ys n x h

get_back : {X : Type 0} (xs ys : List X) (n : ℕ) (x : X) → slice_get ys n ≡ Some x → slice_get (xs ++ ys) (length xs + n) ≡ Some x
get_back [] ys n x h = let here : 0 + n ≡ n = omega arith in ap (slice_get ys) here ∙ h
get_back (y ∷ xs) ys n x h = let there : suc (length xs) + n ≡ suc (length xs + n) = omega arith in ap (slice_get (y ∷ (xs ++ ys))) there ∙ get_back xs ys n x h

get_mapped : {X Y : Type 0} (f : X → Y) (xs : List X) (n : ℕ) (x : X) → slice_get xs n ≡ Some x → slice_get (map f xs) n ≡ Some (f x)
get_mapped f xs n x h = slice_get-map f xs n ∙ ap (option_map f) h

-- a member of one of many lists stands after those before it
in_flat : {X : Type 0} (f : ℕ → List X) (s n k j : ℕ) (x : X) → k < n → slice_get (f (s + k)) j ≡ Some x
    → slice_get (flat_map f (range_with_len s n)) (sum_by (λ m. length (f m)) (range_with_len s k) + j) ≡ Some x
in_flat f s zero k j x within h = absurd (omega arith)
in_flat f s (suc n) zero j x within h =
    let here : s + 0 ≡ s = omega arith in
    let start : 0 + j ≡ j = omega arith in
    ap (slice_get (f s ++ flat_map f (range_with_len (s + 1) n))) start ∙ get_front (f s) (flat_map f (range_with_len (s + 1) n)) j x (ap (λ m. slice_get (f m) j) (sym here) ∙ h)
in_flat f s (suc n) (suc k) j x within h =
    let there : s + suc k ≡ s + 1 + k = omega arith in
    let rest = in_flat f (s + 1) n k j x (omega arith) (ap (λ m. slice_get (f m) j) (sym there) ∙ h) in
    let place : sum_by (λ m. length (f m)) (range_with_len s (suc k)) + j ≡ length (f s) + (sum_by (λ m. length (f m)) (range_with_len (s + 1) k) + j) =
    omega (arith, sum_by-cons (λ m. length (f m)) s (range_with_len (s + 1) k)) in
    ap (slice_get (f s ++ flat_map f (range_with_len (s + 1) n))) place
    ∙ get_back (f s) (flat_map f (range_with_len (s + 1) n)) (sum_by (λ m. length (f m)) (range_with_len (s + 1) k) + j) x rest

abbrev generator_at : ℕ × Sort → Name × Sort
generator_at p = (codes "g" ++ decimal p.0, p.1)

-- a named generator has its sort
named_at : (s : ℕ) (sorts : List Sort) (i : ℕ) (sort : Sort) → slice_get sorts i ≡ Some sort → (g : Name × Sort) × (slice_get (map generator_at (enumerate_from s sorts)) i ≡ Some g) × (g.1 ≡ sort)
named_at s [] i sort h = cc
named_at s (x ∷ xs) zero sort h = let same : x ≡ sort = cc in (generator_at (s, x), refl, same)
named_at s (x ∷ xs) (suc i) sort h = named_at (s + 1) xs i sort h

sort_named : (s : ℕ) (sorts : List Sort) (i : ℕ) (g : Name × Sort) → slice_get (map generator_at (enumerate_from s sorts)) i ≡ Some g → slice_get sorts i ≡ Some g.1
sort_named s [] i g h = cc
sort_named s (x ∷ xs) zero g h = let same : generator_at (s, x) ≡ g = cc in ap (λ (y : Name × Sort). Some y.1) same
sort_named s (x ∷ xs) (suc i) g h = sort_named (s + 1) xs i g h

none_large : {X : Type 0} (p : X → Bool) (xs : List X) → list_any p xs ≡ false → All_in (λ x. p x ≡ false) xs
none_large p [] h n x at = cc
none_large p (y ∷ ys) h zero x at = let same : y ≡ x = cc in ap p (sym same) ∙ (neither (p y) (list_any p ys) h).0
none_large p (y ∷ ys) h (suc n) x at = none_large p ys (neither (p y) (list_any p ys) h).1 n x at

sides_fit : (e : Equation) → has_long_side e ≡ false → (term_symbols (left_of e) ≤ 1024) × (term_symbols (right_of e) ≤ 1024)
sides_fit (EntEquation t u) h =
    let both = neither (nat_lt 1024 (ent.symbols_of t)) (nat_lt 1024 (ent.symbols_of u)) h in
    (at_most 1024 (ent.symbols_of t) both.0, at_most 1024 (ent.symbols_of u) both.1)
sides_fit (TypEquation t u) h =
    let both = neither (nat_lt 1024 (typ.symbols_of t)) (nat_lt 1024 (typ.symbols_of u)) h in
    (at_most 1024 (typ.symbols_of t) both.0, at_most 1024 (typ.symbols_of u) both.1)

module _ (Q : Query) (query : IsQuery Q) (M : Tables) (tables : IsWellFormed Q.target M) where
  abbrev S : Schema
  S = Q.source

  abbrev counts : List ℕ
  counts = M.sheet.counts

  abbrev nulls : List ℕ
  nulls = M.algebra.nulls

  abbrev n : ℕ
  n = length Q.target.entities

  abbrev rows : List Sort
  rows = flat_map (row_sorts Q counts) (below n)

  abbrev sorts : List Sort
  sorts = rows ++ map Plain nulls

  abbrev H : Generators
  H = (coeval_of Q M).generators

  abbrev width : ℕ → ℕ
  width e = length (variables_at Q e)

  abbrev row_of_sorts : ℕ → List Sort
  row_of_sorts e = map (λ (v : Name × ℕ). Entity v.1) (variables_at Q e)

  -- the sort of the generator of a row and a variable
  sort_at : (e row k : ℕ) (v : Name × ℕ) → e < n → row < slice_index counts e → slice_get (variables_at Q e) k ≡ Some v
      → slice_get sorts (start_of Q counts e + row * width e + k) ≡ Some (Entity v.1)
  sort_at e row k v within inside at =
      let one : slice_get (row_of_sorts e) k ≡ Some (Entity v.1) = get_mapped (λ (w : Name × ℕ). Entity w.1) (variables_at Q e) k v at in
      let of_row = in_flat (λ (r : ℕ). row_of_sorts e) 0 (slice_index counts e) row k (Entity v.1) inside one in
      let before : sum_by (λ (r : ℕ). length (row_of_sorts e)) (below row) ≡ row * width e =
      ap (λ w. sum_by (λ (r : ℕ). w) (below row)) (length-map (variables_at Q e) (λ (w : Name × ℕ). Entity w.1)) ∙ const_sum (width e) 0 row in
      let in_row : slice_get (row_sorts Q counts e) (row * width e + k) ≡ Some (Entity v.1) = ap (λ m. slice_get (row_sorts Q counts e) (m + k)) (sym before) ∙ of_row in
      let zero_first : 0 + e ≡ e = omega arith in
      let of_entity = in_flat (row_sorts Q counts) 0 n e (row * width e + k) (Entity v.1) within (ap (λ m. slice_get (row_sorts Q counts m) (row * width e + k)) zero_first ∙ in_row) in
      let start : sum_by (λ m. length (row_sorts Q counts m)) (below e) ≡ start_of Q counts e = (λ i. sum_by (λ m. rows_size Q M m i) (below e)) ∙ sym (sum-map (size_of Q counts) (below e)) in
      let place : start_of Q counts e + row * width e + k ≡ sum_by (λ m. length (row_sorts Q counts m)) (below e) + (row * width e + k) = omega (arith, start) in
      get_front rows (map Plain nulls) (start_of Q counts e + row * width e + k) (Entity v.1) (ap (slice_get rows) place ∙ of_entity)

  null_at : (label type : ℕ) → slice_get nulls label ≡ Some type → slice_get sorts (null_start Q counts + label) ≡ Some (Plain type)
  null_at label type h = ap (λ m. slice_get sorts (m + label)) (sym (rows_count Q M)) ∙ get_back rows (map Plain nulls) label (Plain type) (get_mapped Plain nulls label type h)

  entity_alone : (i e : ℕ) → slice_get sorts i ≡ Some (Entity e) → entity_of S H (alone i) ≡ Some e
  entity_alone i e h =
      let g = named_at 1 sorts i (Entity e) h in
      ap (λ o. option_and_then (target_of S.keys []) (entity_at o)) g.1 ∙ ap (λ (s : Sort). option_and_then (target_of S.keys []) (entity_at (Some (g.0.0, s)))) g.2

  type_alone : (i type : ℕ) → slice_get sorts i ≡ Some (Plain type) → type_of S H (term.Gen i) ≡ Some type
  type_alone i type h =
      let g = named_at 1 sorts i (Plain type) h in
      fold-Gen (Option ℕ) (type_step S H) i ∙ ap type_at g.1 ∙ ap (λ (s : Sort). type_at (Some (g.0.0, s))) g.2

  terms_are : (e row : ℕ) → e < n → row < slice_index counts e → row_terms Q counts e row ≡ generators_from (start_of Q counts e + row * width e) (width e)
  terms_are e row within inside =
      ap (terms_from Q counts e row) (made_at (start_of Q counts) n e within)
      ∙ ap (λ b. if b then generators_from (start_of Q counts e + row * width e) (width e) else []) (is_less row (slice_index counts e) inside)
    where
      is_less : (a b : ℕ) → a < b → nat_lt a b ≡ true
      is_less a b h = grind (arith, nat_tests)

  -- the generators of a row stand for a row
  stand : (e row : ℕ) → e < n → row < slice_index counts e → Stand Q H (row_terms Q counts e row) e
  stand e row within inside =
      let first : ℕ = start_of Q counts e + row * width e in
      subst (λ (ts : List EntTerm). Stand Q H ts e) (sym (terms_are e row within inside)) (record {
        count = length-map (range_with_len first (width e)) alone ∙ length-range_with_len first (width e);
        each = λ k t v at at'.
            let same : alone (first + k) ≡ t = alone_at Q first (width e) k t at in
            ap (entity_of S H) (sym same) ∙ entity_alone (first + k) v.1 (sort_at e row k v within inside at');
      })

  -- values keep their types
  abbrev IsTyped : Value → Type 0
  IsTyped v = (type : ℕ) → value_type Q.target nulls v ≡ Some type → type_of S H (value_term (null_start Q counts) (length nulls) v) ≡ Some type

  abbrev made : Value → TypeTerm
  made = value_term (null_start Q counts) (length nulls)

  all_typed : (vs : List Value) (types : List ℕ) → Each IsTyped vs → have_types (map (value_type Q.target nulls) vs) types ≡ true → have_types (map (type_of S H) (map made vs)) types ≡ true
  all_typed [] [] each h = refl
  all_typed [] (type ∷ types) each h = cc
  all_typed (v ∷ vs) [] each h = cc
  all_typed (v ∷ vs) (type ∷ types) each h =
      let parts = and_parts (is_type (value_type Q.target nulls v) type) (have_types (map (value_type Q.target nulls) vs) types) h in
      let before : value_type Q.target nulls v ≡ Some type = is_type_some (value_type Q.target nulls v) type parts.0 in
      let one : is_type (type_of S H (made v)) type ≡ true = ap (λ o. is_type o type) (each.0 type before ∙ sym before) ∙ parts.0 in
      ap (λ b. b && have_types (map (type_of S H) (map made vs)) types) one ∙ all_typed vs types each.1 parts.1

  applied_typed : (f : ℕ) (vs : List Value) → Each IsTyped vs → (type : ℕ) → value_type Q.target nulls (value.Fun f vs) ≡ Some type → type_of S H (term.Fun f (map made vs)) ≡ Some type
  applied_typed f vs each type h =
      let parts = applied_type_some (slice_get Q.target.typeside.functions f) (map (value_type Q.target nulls) vs) type (sym (values.fold-Fun (Option ℕ) (value_type_step Q.target nulls) f vs) ∙ h) in
      let args : have_types (map (type_of S H) (map made vs)) parts.0.args ≡ true = all_typed vs parts.0.args each parts.2 in
      fold-Fun (Option ℕ) (type_step S H) f (map made vs)
      ∙ ap (λ (y : Typeside). applied_type (slice_get y.functions f) (map (type_of S H) (map made vs))) query.typeside
      ∙ ap (λ o. applied_type o (map (type_of S H) (map made vs))) parts.1
      ∙ ap (λ (b : Bool). if b then Some parts.0.result else None) args ∙ ap (λ m. Some m) parts.3

  value_typed : (v : Value) → IsTyped v
  value_typed = on_values IsTyped
      (λ c type h.
      ap (type_of S H) (values.fold-Const TypeTerm (value_term_step (null_start Q counts) (length nulls)) c) ∙ fold-Const (Option ℕ) (type_step S H) c
      ∙ ap (λ (y : Typeside). constant_type y c) query.typeside
      ∙ sym (values.fold-Const (Option ℕ) (value_type_step Q.target nulls) c) ∙ h)
      (λ label type h.
      let typed : slice_get nulls label ≡ Some type = sym (values.fold-Null (Option ℕ) (value_type_step Q.target nulls) label) ∙ h in
      let number : slice_index (range_with_len (null_start Q counts) (length nulls)) label ≡ null_start Q counts + label =
      get_or-range_with_len (null_start Q counts) (length nulls) label 0 (slice_get_within nulls label type typed) in
      ap (type_of S H) (values.fold-Null TypeTerm (value_term_step (null_start Q counts) (length nulls)) label ∙ ap term.Gen number)
      ∙ type_alone (null_start Q counts + label) type (null_at label type typed))
      (λ f vs each type h. ap (type_of S H) (values.fold-Fun TypeTerm (value_term_step (null_start Q counts) (length nulls)) f vs) ∙ applied_typed f vs each type h)

  each_typed : (vs : List Value) → Each IsTyped vs
  each_typed [] = tt
  each_typed (v ∷ vs) = (value_typed v, each_typed vs)

  abbrev IsRight : Equation → Type 0
  IsRight = HasOneSort Q H

  module _ (e row : ℕ) (within : e < n) (inside : row < slice_index counts e) where
    tests_right : All_in IsRight (map (put_equation (row_terms Q counts e row)) (tests_at Q e))
    tests_right k x at =
        let equation = made_of (put_equation (row_terms Q counts e row)) (tests_at Q e) k x at in
        let test = (query.each_frozen e within).equations k equation.0 equation.1 in
        subst IsRight (sym equation.2) (put_equation_sorted Q H (row_terms Q counts e row) e (stand e row within inside) equation.0 (test.sort, test.left, test.right))

    key_right : (k : ℕ) (edge : Edge) → slice_get Q.target.keys k ≡ Some edge → edge.from ≡ e → All_in IsRight (key_equations_at Q M.sheet e row k (Some edge))
    key_right k edge at same =
        let column : List ℕ = slice_index_or M.sheet.keys k [] in
        let of = tables.key_columns k edge at in
        let there : row < length column = omega (arith, of.0, inside, ap (slice_index counts) same) in
        let leads : slice_index column row < slice_index counts edge.to = of.1 row 0 there in
        let ends : edge.to < n = (All_at (λ (x : Edge). (x.from < n) × (x.to < n)) Q.target.keys k edge query.target.keys at).1 in
        all_equal Q query H edge.to (row_terms Q counts edge.to (slice_index column row)) (map (put (row_terms Q counts e row)) (assigned Q k))
        (stand edge.to (slice_index column row) ends leads)
        (put_stand Q query H (row_terms Q counts e row) k edge at (subst (Stand Q H (row_terms Q counts e row)) (sym same) (stand e row within inside)))

    keys_right : All_in IsRight (flat_map (key_equations Q M.sheet e row) (positions (key_sources Q) e))
    keys_right = all_flat_map IsRight (key_equations Q M.sheet e row) (positions (key_sources Q) e) (λ r k at.
        let edge = from_position (λ (x : Edge). x.from) Q.target.keys e r k at in
        subst (λ (o : Option Edge). All_in IsRight (key_equations_at Q M.sheet e row k o)) (sym edge.1) (key_right k edge.0 edge.1 edge.2))

    cell_right : (a : ℕ) (edge : Edge) → slice_get Q.target.attributes a ≡ Some edge → edge.from ≡ e → IsRight (cell_equation Q M.sheet (length nulls) e row a)
    cell_right a edge at same =
        let column : List Value = slice_index_or M.sheet.cells a [] in
        let of = tables.cell_columns a edge at in
        let there : row < length column = omega (arith, of.0, inside, ap (slice_index counts) same) in
        let is = query.attributes a edge at in
        let stands : Stand Q H (row_terms Q counts e row) edge.from = subst (Stand Q H (row_terms Q counts e row)) (sym same) (stand e row within inside) in (
          Plain edge.to,
          ap (option_map Plain) (ap (λ (o : Option TypeTerm). type_of S H (put_type (row_terms Q counts e row) (term_or_constant o))) is.found
              ∙ put_type_sorted Q H (row_terms Q counts e row) edge.from stands is.term edge.to is.typed),
          ap (option_map Plain) (value_typed (slice_index_or column row (value.Const (Named 0))) edge.to (of.1 row (value.Const (Named 0)) there).0),
        )

    cells_right : All_in IsRight (map (cell_equation Q M.sheet (length nulls) e row) (positions (attribute_sources Q) e))
    cells_right k x at =
        let a = made_of (cell_equation Q M.sheet (length nulls) e row) (positions (attribute_sources Q) e) k x at in
        let edge = from_position (λ (y : Edge). y.from) Q.target.attributes e k a.0 a.1 in
        subst IsRight (sym a.2) (cell_right a.0 edge.0 edge.1 edge.2)

    row_right : All_in IsRight (row_equations Q M.sheet (length nulls) e row)
    row_right =
        all_append IsRight
        (map (put_equation (row_terms Q counts e row)) (tests_at Q e) ++ flat_map (key_equations Q M.sheet e row) (positions (key_sources Q) e))
        (map (cell_equation Q M.sheet (length nulls) e row) (positions (attribute_sources Q) e))
        (all_append IsRight (map (put_equation (row_terms Q counts e row)) (tests_at Q e)) (flat_map (key_equations Q M.sheet e row) (positions (key_sources Q) e)) tests_right keys_right) cells_right

  below_within : (m k x : ℕ) → slice_get (below m) k ≡ Some x → x < m
  below_within m k x at =
      let place : k < m = subst (λ l. k < l) (length-range_with_len 0 m) (slice_get_within (below m) k x at) in
      let both : Some x ≡ Some k = sym at ∙ below_at m k place in
      let same : x ≡ k = cc in
      omega arith

  entry_right : All_in IsRight (map (entry_equation (null_start Q counts) (length nulls)) M.algebra.entries)
  entry_right k x at =
      let entry = made_of (entry_equation (null_start Q counts) (length nulls)) M.algebra.entries k x at in
      let sound = All_at (IsSoundEntry Q.target M) M.algebra.entries k entry.0 tables.entries entry.1 in
      subst IsRight (sym entry.2) (
        Plain sound.function.result,
        ap (option_map Plain) (applied_typed entry.0.function entry.0.args (each_typed entry.0.args) sound.function.result sound.typed),
        ap (option_map Plain) (value_typed entry.0.value sound.function.result sound.same_type),
      )

  equations_right : All_in IsRight (coeval_of Q M).equations
  equations_right =
      all_append IsRight (flat_map (entity_equations Q M.sheet (length nulls)) (below n)) (map (entry_equation (null_start Q counts) (length nulls)) M.algebra.entries)
      (all_flat_map IsRight (entity_equations Q M.sheet (length nulls)) (below n) (λ k e at.
      all_flat_map IsRight (row_equations Q M.sheet (length nulls) e) (below (slice_index counts e)) (λ j row there.
      row_right e row (below_within n k e at) (below_within (slice_index counts e) j row there))))
      entry_right

  -- the sorts of the generators are those of variables, and those of nulls
  sorts_right : All_in (IsSort S) sorts
  sorts_right =
      all_append (IsSort S) rows (map Plain nulls)
      (all_flat_map (IsSort S) (row_sorts Q counts) (below n) (λ k e at.
      all_flat_map (IsSort S) (λ (r : ℕ). row_of_sorts e) (below (slice_index counts e)) (λ j row there p sort here.
      let v = made_of (λ (w : Name × ℕ). Entity w.1) (variables_at Q e) p sort here in
      let g : slice_get (generators_at Q e) p ≡ Some (v.0.0, Entity v.0.1) = get_mapped (λ (w : Name × ℕ). let x : Name × Sort = (w.0, Entity w.1) in x) (variables_at Q e) p v.0 v.1 in
      subst (IsSort S) (sym v.2) (All_at (λ (x : Name × Sort). IsSort S x.1) (generators_at Q e) p (v.0.0, Entity v.0.1) (query.each_frozen e (below_within n k e at)).generators g))))
      (λ k sort at.
      let null = made_of Plain nulls k sort at in
      let of_target : null.0 < length Q.target.typeside.types = All_at (λ m. m < length Q.target.typeside.types) nulls k null.0 tables.nulls null.1 in
      subst (IsSort S) (sym null.2) (subst (λ (y : Typeside). null.0 < length y.types) (sym query.typeside) of_target))

  few : is_oversized (coeval_of Q M) ≡ false → length H ≤ 16000000
  few h = at_most 16000000 (length H) (neither (nat_lt 16000000 (length H)) (list_any has_long_side (coeval_of Q M).equations) h).0

  pub coeval_is : is_oversized (coeval_of Q M) ≡ false → IsPresentation S (coeval_of Q M)
  coeval_is h =
      let fits = none_large has_long_side (coeval_of Q M).equations (neither (nat_lt 16000000 (length H)) (list_any has_long_side (coeval_of Q M).equations) h).1 in
      record {
        generators = λ i d inside. sorts_right i (get_or H i d).1 (sort_named 1 sorts i (get_or H i d) (slice_get-get_or H i d inside));
        count = few h;
        equations = λ i e at.
            let one = equations_right i e at in
            let sides = sides_fit e (fits i e at) in
            record { sort = one.0; left = one.1; right = one.2; left_fits = sides.0; right_fits = sides.1 };
      }

  pub presented : (result : Result Presentation SizeRefusal) → IfOk result (λ _. is_oversized (coeval_of Q M) ≡ false) → IfOk result (λ made. made ≡ coeval_of Q M) → IfOk result (λ made. IsPresentation S made)
  presented (Ok made) small is = subst (IsPresentation S) (sym is) (coeval_is small)
  presented (Err refusal) small is = small

-- What stands where among the generators and the equations of coeval.
use Rattle.std.proofs.Common.{ℕ, zero, suc, List, [], ◌∷◌, ◌++◌, Option, Some, None, ◌≡◌, ◌<◌, ◌+◌, ◌*◌, if◌then◌else◌, true, map, length, refl, sym, ap, subst, ◌∙◌, arith}
use Rattle.std.specs.Prelude.{slice_get, slice_index, slice_index_or, option_and_then, option_map, nat_lt, codes, decimal}
use Rattle.std.specs.List.{flat_map, range_with_len, enumerate_from, sum_by}
use Rattle.std.proofs.lemmas.Bool.Decides.{nat_tests}
use Rattle.std.proofs.lemmas.List.{length-map}
use Rattle.std.proofs.lemmas.List.FromFn.{length-range_with_len}
use Rattle.std.proofs.lemmas.List.Sums.{sum_by-cons, sum-map}
use Rattle.cq_base.specs.declared.name.Name.{Name}
use Rattle.cq_theory.specs.declared.presentation.Equation.{Equation}
use Rattle.cq_theory.specs.declared.presentation.Equation.TheVariants.{Ent as EntEquation}
use Rattle.cq_theory.specs.declared.presentation.Sort.{Sort}
use Rattle.cq_theory.specs.declared.presentation.Sort.TheVariants.{Plain, Entity}
use Rattle.cq_theory.specs.declared.schema.Edge.{Edge}
use Rattle.cq_theory.specs.declared.term.EntTerm.{EntTerm}
use Rattle.cq_theory.specs.declared.value.Entry.{Entry}
use Rattle.cq_theory.specs.EntTerm.{alone}
use Rattle.cq_theory.specs.Canonical.{below}
use Rattle.cq_theory.specs.Groups.{positions}
use Rattle.cq_theory.specs.Sorts.{Generators, target_of, entity_at, entity_of}
use Rattle.cq_theory.specs.Tables.{Tables, count_of, key_at}
use Rattle.cq_theory.proofs.Grouped.{made_at}
use Rattle.cq_instance.proofs.Lists.{get-map, get-append, get-append_front, get-range}
use Rattle.cq_terms.specs.ValueTerms.{entry_equation}
use Rattle.cq_query.specs.QueryData.{QueryData as Query}
use Rattle.cq_query.specs.Puts.{generators_from, put, put_equation}
use Rattle.cq_query.specs.Translation.{key_sources, attribute_sources, variables_at, tests_at, assigned}
use Rattle.cq_query.specs.Duties.{equal_terms}
use Rattle.cq_query.specs.Coeval.{size_of, start_of, null_start, row_sorts, terms_from, row_terms, key_equations, key_equations_at, cell_equation, row_equations, entity_equations, coeval_of}
use Rattle.cq_query.proofs.Answering.{IsIn, in_front, in_back}
use Rattle.cq_query.proofs.Holding.{in_map, in_flat_map, position_of_member}
use Rattle.cq_query.proofs.Parted.{below_at}
use Rattle.cq_query.proofs.Standing.{Stand, alone_at}
use Rattle.cq_query.proofs.Copying.{const_sum, rows_size, rows_count}

-- a member of one of many lists stands after those before it
pub in_flat : {X : Type 0} (f : ℕ → List X) (s n k j : ℕ) (x : X) → k < n → slice_get (f (s + k)) j ≡ Some x
    → slice_get (flat_map f (range_with_len s n)) (sum_by (λ m. length (f m)) (range_with_len s k) + j) ≡ Some x
in_flat f s zero k j x within h = absurd (omega arith)
in_flat f s (suc n) zero j x within h =
    let here : s + 0 ≡ s = omega arith in
    let start : 0 + j ≡ j = omega arith in
    ap (slice_get (f s ++ flat_map f (range_with_len (s + 1) n))) start ∙ get-append_front (f s) (flat_map f (range_with_len (s + 1) n)) j x (ap (λ m. slice_get (f m) j) (sym here) ∙ h)
in_flat f s (suc n) (suc k) j x within h =
    let there : s + suc k ≡ s + 1 + k = omega arith in
    let rest = in_flat f (s + 1) n k j x (omega arith) (ap (λ m. slice_get (f m) j) (sym there) ∙ h) in
    let place : sum_by (λ m. length (f m)) (range_with_len s (suc k)) + j ≡ length (f s) + (sum_by (λ m. length (f m)) (range_with_len (s + 1) k) + j) =
    omega (arith, sum_by-cons (λ m. length (f m)) s (range_with_len (s + 1) k)) in
    ap (slice_get (f s ++ flat_map f (range_with_len (s + 1) n))) place
    ∙ get-append (f s) (flat_map f (range_with_len (s + 1) n)) (sum_by (λ m. length (f m)) (range_with_len (s + 1) k) + j) x rest

abbrev generator_at : ℕ × Sort → Name × Sort
generator_at p = (codes "g" ++ decimal p.0, p.1)

-- a named generator has its sort
named_at : (s : ℕ) (sorts : List Sort) (i : ℕ) (sort : Sort) → slice_get sorts i ≡ Some sort → (g : Name × Sort) × (slice_get (map generator_at (enumerate_from s sorts)) i ≡ Some g) × (g.1 ≡ sort)
named_at s [] i sort h = cc
named_at s (x ∷ xs) zero sort h = let same : x ≡ sort = cc in (generator_at (s, x), refl, same)
named_at s (x ∷ xs) (suc i) sort h = named_at (s + 1) xs i sort h

equal_at : (ts us : List EntTerm) (n : ℕ) (t u : EntTerm) → slice_get ts n ≡ Some t → slice_get us n ≡ Some u → IsIn (EntEquation t u) (equal_terms ts us)
equal_at [] us n t u h k = cc
equal_at (x ∷ ts) [] n t u h k = cc
equal_at (x ∷ ts) (y ∷ us) zero t u h k =
    let left : x ≡ t = cc in
    let right : y ≡ u = cc in
    (zero, (λ i. Some (EntEquation (left i) (right i))))
equal_at (x ∷ ts) (y ∷ us) (suc n) t u h k = let rest = equal_at ts us n t u h k in (suc rest.0, rest.1)

is_less : (a b : ℕ) → a < b → nat_lt a b ≡ true
is_less a b h = grind (arith, nat_tests)

module _ (Q : Query) (M : Tables) where
  abbrev counts : List ℕ
  counts = M.sheet.counts

  abbrev nulls : ℕ
  nulls = length M.algebra.nulls

  abbrev n : ℕ
  n = length Q.target.entities

  abbrev rows : List Sort
  rows = flat_map (row_sorts Q counts) (below n)

  abbrev sorts : List Sort
  sorts = rows ++ map Plain M.algebra.nulls

  abbrev H : Generators
  H = (coeval_of Q M).generators

  abbrev equations : List Equation
  equations = (coeval_of Q M).equations

  abbrev width : ℕ → ℕ
  width e = length (variables_at Q e)

  abbrev row_of_sorts : ℕ → List Sort
  row_of_sorts e = map (λ (v : Name × ℕ). Entity v.1) (variables_at Q e)

  -- the sort of the generator of a row and a variable
  sort_at : (e row k : ℕ) (v : Name × ℕ) → e < n → row < slice_index counts e → slice_get (variables_at Q e) k ≡ Some v
      → slice_get sorts (start_of Q counts e + row * width e + k) ≡ Some (Entity v.1)
  sort_at e row k v within inside at =
      let one : slice_get (row_of_sorts e) k ≡ Some (Entity v.1) = get-map (λ (w : Name × ℕ). Entity w.1) (variables_at Q e) k v at in
      let of_row = in_flat (λ (r : ℕ). row_of_sorts e) 0 (slice_index counts e) row k (Entity v.1) inside one in
      let before : sum_by (λ (r : ℕ). length (row_of_sorts e)) (below row) ≡ row * width e =
      ap (λ w. sum_by (λ (r : ℕ). w) (below row)) (length-map (variables_at Q e) (λ (w : Name × ℕ). Entity w.1)) ∙ const_sum (width e) 0 row in
      let in_row : slice_get (row_sorts Q counts e) (row * width e + k) ≡ Some (Entity v.1) = ap (λ m. slice_get (row_sorts Q counts e) (m + k)) (sym before) ∙ of_row in
      let zero_first : 0 + e ≡ e = omega arith in
      let of_entity = in_flat (row_sorts Q counts) 0 n e (row * width e + k) (Entity v.1) within (ap (λ m. slice_get (row_sorts Q counts m) (row * width e + k)) zero_first ∙ in_row) in
      let start : sum_by (λ m. length (row_sorts Q counts m)) (below e) ≡ start_of Q counts e = (λ i. sum_by (λ m. rows_size Q M m i) (below e)) ∙ sym (sum-map (size_of Q counts) (below e)) in
      let place : start_of Q counts e + row * width e + k ≡ sum_by (λ m. length (row_sorts Q counts m)) (below e) + (row * width e + k) = omega (arith, start) in
      get-append_front rows (map Plain M.algebra.nulls) (start_of Q counts e + row * width e + k) (Entity v.1) (ap (slice_get rows) place ∙ of_entity)

  -- the generator of a copy
  pub copy_at : (e row k : ℕ) (v : Name × ℕ) → e < n → row < slice_index counts e → slice_get (variables_at Q e) k ≡ Some v
      → (g : Name × Sort) × (slice_get H (start_of Q counts e + row * width e + k) ≡ Some g) × (g.1 ≡ Entity v.1)
  copy_at e row k v within inside at = named_at 1 sorts (start_of Q counts e + row * width e + k) (Entity v.1) (sort_at e row k v within inside at)

  -- the generator of a null
  pub null_at : (label type : ℕ) → slice_get M.algebra.nulls label ≡ Some type
      → (g : Name × Sort) × (slice_get H (null_start Q counts + label) ≡ Some g) × (g.1 ≡ Plain type)
  null_at label type h = named_at 1 sorts (null_start Q counts + label) (Plain type)
      (ap (λ m. slice_get sorts (m + label)) (sym (rows_count Q M)) ∙ get-append rows (map Plain M.algebra.nulls) label (Plain type) (get-map Plain M.algebra.nulls label type h))

  pub terms_are : (e row : ℕ) → e < n → row < slice_index counts e → row_terms Q counts e row ≡ generators_from (start_of Q counts e + row * width e) (width e)
  terms_are e row within inside =
      ap (terms_from Q counts e row) (made_at (start_of Q counts) n e within)
      ∙ ap (λ b. if b then generators_from (start_of Q counts e + row * width e) (width e) else []) (is_less row (slice_index counts e) inside)

  pub copy_sorted : (e row k : ℕ) (v : Name × ℕ) → e < n → row < slice_index counts e → slice_get (variables_at Q e) k ≡ Some v
      → entity_of Q.source H (alone (start_of Q counts e + row * width e + k)) ≡ Some v.1
  copy_sorted e row k v within inside at =
      let g = copy_at e row k v within inside at in
      ap (λ o. option_and_then (target_of Q.source.keys []) (entity_at o)) g.1 ∙ ap (λ (s : Sort). option_and_then (target_of Q.source.keys []) (entity_at (Some (g.0.0, s)))) g.2

  -- the generators of a row stand for a row
  pub stand : (e row : ℕ) → e < n → row < slice_index counts e → Stand Q H (row_terms Q counts e row) e
  stand e row within inside =
      let first : ℕ = start_of Q counts e + row * width e in
      subst (λ (ts : List EntTerm). Stand Q H ts e) (sym (terms_are e row within inside)) (record {
        count = length-map (range_with_len first (width e)) alone ∙ length-range_with_len first (width e);
        each = λ k t v at at'.
            let same : alone (first + k) ≡ t = alone_at Q first (width e) k t at in
            ap (entity_of Q.source H) (sym same) ∙ copy_sorted e row k v within inside at';
      })

  -- which generator a copy is
  pub copy_term : (e row k : ℕ) (v : Name × ℕ) → e < n → row < slice_index counts e → slice_get (variables_at Q e) k ≡ Some v
      → slice_get (row_terms Q counts e row) k ≡ Some (alone (start_of Q counts e + row * width e + k))
  copy_term e row k v within inside at =
      let first : ℕ = start_of Q counts e + row * width e in
      ap (λ (ts : List EntTerm). slice_get ts k) (terms_are e row within inside)
      ∙ get-map alone (range_with_len first (width e)) k (first + k) (get-range first (width e) k (within_of (variables_at Q e) k v at))
    where
      within_of : {X : Type 0} (xs : List X) (k : ℕ) (x : X) → slice_get xs k ≡ Some x → k < length xs
      within_of [] k x h = cc
      within_of (y ∷ xs) zero x h = omega arith
      within_of (y ∷ xs) (suc k) x h = let rest = within_of xs k x h in omega arith

  module _ (e row : ℕ) (within : e < n) (inside : row < slice_index counts e) where
    abbrev ts : List EntTerm
    ts = row_terms Q counts e row

    abbrev tests : List Equation
    tests = map (put_equation ts) (tests_at Q e)

    abbrev keys : List Equation
    keys = flat_map (key_equations Q M.sheet e row) (positions (key_sources Q) e)

    abbrev cells : List Equation
    cells = map (cell_equation Q M.sheet nulls e row) (positions (attribute_sources Q) e)

    -- the equations of a row are equations
    of_row : (x : Equation) → IsIn x (row_equations Q M.sheet nulls e row) → IsIn x equations
    of_row x h =
        in_front x (flat_map (entity_equations Q M.sheet nulls) (below n)) (map (entry_equation (null_start Q counts) nulls) M.algebra.entries)
        (in_flat_map (entity_equations Q M.sheet nulls) e (below n) x (e, below_at n e within)
        (in_flat_map (row_equations Q M.sheet nulls e) row (below (slice_index counts e)) x (row, below_at (slice_index counts e) row inside) h))

    pub test_in : (k : ℕ) (x : Equation) → slice_get (tests_at Q e) k ≡ Some x → IsIn (put_equation ts x) equations
    test_in k x at = of_row (put_equation ts x) (in_front (put_equation ts x) (tests ++ keys) cells (in_front (put_equation ts x) tests keys (in_map (put_equation ts) (tests_at Q e) k x at)))

    pub key_in : (k : ℕ) (edge : Edge) → slice_get Q.target.keys k ≡ Some edge → edge.from ≡ e → (m : ℕ) (t u : EntTerm)
        → slice_get (row_terms Q counts edge.to (key_at M k row)) m ≡ Some t → slice_get (map (put ts) (assigned Q k)) m ≡ Some u → IsIn (EntEquation t u) equations
    key_in k edge at from m t u left right =
        let x : Equation = EntEquation t u in
        let here : IsIn x (key_equations Q M.sheet e row k) = subst (λ (o : Option Edge). IsIn x (key_equations_at Q M.sheet e row k o)) (sym at)
        (equal_at (row_terms Q counts edge.to (key_at M k row)) (map (put ts) (assigned Q k)) m t u left right) in
        of_row x (in_front x (tests ++ keys) cells (in_back x tests keys
        (in_flat_map (key_equations Q M.sheet e row) k (positions (key_sources Q) e) x
        (subst (λ (y : ℕ). IsIn k (positions (key_sources Q) y)) from (position_of_member (λ (y : Edge). y.from) Q.target.keys k edge at)) here)))

    pub cell_in : (a : ℕ) (edge : Edge) → slice_get Q.target.attributes a ≡ Some edge → edge.from ≡ e → IsIn (cell_equation Q M.sheet nulls e row a) equations
    cell_in a edge at from =
        let x : Equation = cell_equation Q M.sheet nulls e row a in
        let place = subst (λ (y : ℕ). IsIn a (positions (attribute_sources Q) y)) from (position_of_member (λ (y : Edge). y.from) Q.target.attributes a edge at) in
        of_row x (in_back x (tests ++ keys) cells (in_map (cell_equation Q M.sheet nulls e row) (positions (attribute_sources Q) e) place.0 a place.1))

  pub entry_in : (k : ℕ) (entry : Entry) → slice_get M.algebra.entries k ≡ Some entry → IsIn (entry_equation (null_start Q counts) nulls entry) equations
  entry_in k entry at =
      in_back (entry_equation (null_start Q counts) nulls entry) (flat_map (entity_equations Q M.sheet nulls) (below n)) (map (entry_equation (null_start Q counts) nulls) M.algebra.entries)
      (in_map (entry_equation (null_start Q counts) nulls) M.algebra.entries k entry at)

-- The steps of the walk that names rows.
use Rattle.std.proofs.Common.{ℕ, zero, suc, Bool, true, false, List, [], ◌∷◌, ◌++◌, Option, Some, None, ◌≡◌, ◌≢◌, ◌<◌, ◌≤◌, ◌+◌, ◌⊎◌, inl, inr, cond, length, get_or, replicate, refl, sym, ap, subst, ◌∙◌, arith, length-append, append_assoc, map}
use Rattle.std.specs.Prelude.{slice_get, slice_set, slice_index, slice_index_or, option_and_then}
use Rattle.std.proofs.lemmas.Bool.{cases_eq}
use Rattle.std.proofs.lemmas.List.{append-nil, length-set, length-replicate, get_or-set_same, get_or-set_other}
use Rattle.std.proofs.lemmas.Option.{slice_get_within, same_Some, option_and_then_some}
use Rattle.cq_tables.specs.Content.{Content, made_of, live_of, cell_of, step_of, trace_of, keys_of, IsWhole}
use Rattle.cq_tables.specs.Content.{entity_of as row_entity}
use Rattle.cq_rows.specs.Plain.{ends_of, theory_of}
use Rattle.cq_rows.specs.Rows.{row_of_term}
use Rattle.cq_rows.specs.Saturated.{HasEntries}
use Rattle.cq_rows.proofs.Bridge.{sort_same}
use Rattle.cq_rows.proofs.Sorts.{sort-along, end_one}
use Rattle.cq_rows.proofs.Cells.{filled_below}
use Rattle.cq_rows.proofs.Tracing.{trace_append, trace_one}
use Rattle.cq_base.specs.declared.name.Name.{Name}
use Rattle.cq_theory.specs.declared.presentation.Presentation.{Presentation}
use Rattle.cq_theory.specs.declared.presentation.Sort.{Sort}
use Rattle.cq_theory.specs.SchemaData.{SchemaData as Schema}
use Rattle.cq_theory.specs.declared.term.EntTerm.{EntTerm}
use Rattle.cq_theory.specs.Sorts.{entity_of, entity_at}
use Rattle.cq_instance.proofs.Lists.{get-append_front}
use Rattle.cq_instance.specs.TermOrder.{IsBefore, generator_term, one_further}
use Rattle.cq_names.specs.Walking.{Listing, unmet, Meets, IsNamedUpTo, IsPast, IsStep, IsGenerator, IsListing, IsWalked}
use Rattle.cq_instance.proofs.TermOrder.{IsBefore-further, IsBefore-keys, IsBefore-generators, IsBefore-generator, IsUpTo-further, IsUpTo-trans}

-- what stands in a list with one more
get_last : {X : Type 0} (xs : List X) (x : X) → slice_get (xs ++ x ∷ []) (length xs) ≡ Some x
get_last [] x = refl
get_last (y ∷ ys) x = get_last ys x

front_or_last : {X : Type 0} (xs : List X) (x : X) (i : ℕ) (y : X) → slice_get (xs ++ x ∷ []) i ≡ Some y → (slice_get xs i ≡ Some y) ⊎ ((i ≡ length xs) × (y ≡ x))
front_or_last [] x zero y h = inr (refl, sym (same_Some x y h))
front_or_last [] x (suc i) y h = inl h
front_or_last (z ∷ zs) x zero y h = inl h
front_or_last (z ∷ zs) x (suc i) y h = elim (front_or_last zs x i y h) [ inl a ↦ inl a | inr b ↦ inr (ap suc b.0, b.1) ]

unmet-set : (met : List Bool) (i : ℕ) → i < length met → get_or met i false ≡ false → unmet (slice_set met i true) + 1 ≡ unmet met
unmet-set [] i within h = absurd (omega arith)
unmet-set (true ∷ met) zero within h = cc
unmet-set (false ∷ met) zero within h = refl
unmet-set (true ∷ met) (suc i) within h = unmet-set met i (omega arith) h
unmet-set (false ∷ met) (suc i) within h = ap (λ n. n + 1) (unmet-set met i (omega arith) h)

pub unmet-none : (n : ℕ) → unmet (replicate n false) ≡ n
unmet-none zero = refl
unmet-none (suc n) = let rest = unmet-none n in omega (arith, rest)

pub met-none : (n r : ℕ) → get_or (replicate n false) r false ≡ false
met-none zero r = refl
met-none (suc n) zero = refl
met-none (suc n) (suc r) = met-none n r

-- with one more row and its name
abbrev with_row : Listing → ℕ → EntTerm → Listing
with_row w row name = record { rows = w.rows ++ row ∷ []; names = w.names ++ name ∷ []; met = slice_set w.met row true }

meets_new : (w w' : Listing) (row : ℕ) (name : EntTerm) → Meets w w' row name → slice_index_or w.met row false ≡ false → w' ≡ with_row w row name
meets_new w w' row name meets new =
    let rows : w'.rows ≡ w.rows ++ row ∷ [] = meets.rows ∙ ap (λ b. cond b w.rows (w.rows ++ row ∷ [])) new in
    let names : w'.names ≡ w.names ++ name ∷ [] = meets.names ∙ ap (λ b. cond b w.names (w.names ++ name ∷ [])) new in
    let met : w'.met ≡ slice_set w.met row true = meets.met ∙ ap (λ b. cond b w.met (slice_set w.met row true)) new in
    λ i. record { rows = rows i; names = names i; met = met i }

meets_old : (w w' : Listing) (row : ℕ) (name : EntTerm) → Meets w w' row name → slice_index_or w.met row false ≡ true → w' ≡ w
meets_old w w' row name meets old =
    let rows : w'.rows ≡ w.rows = meets.rows ∙ ap (λ b. cond b w.rows (w.rows ++ row ∷ [])) old in
    let names : w'.names ≡ w.names = meets.names ∙ ap (λ b. cond b w.names (w.names ++ name ∷ [])) old in
    let met : w'.met ≡ w.met = meets.met ∙ ap (λ b. cond b w.met (slice_set w.met row true)) old in
    λ i. record { rows = rows i; names = names i; met = met i }

IsNamedUpTo-more : (w : Listing) (row s : ℕ) (name u : EntTerm) → IsNamedUpTo w s u → IsNamedUpTo (with_row w row name) s u
IsNamedUpTo-more w row s name u h = record {
  at = h.at;
  name = h.name;
  is_row = get-append_front w.rows (row ∷ []) h.at s h.is_row;
  is_name = get-append_front w.names (name ∷ []) h.at h.name h.is_name;
  up_to = h.up_to;
}

IsStep-more : (w : Listing) (row n k : ℕ) (name u : EntTerm) → IsStep w n k u → IsStep (with_row w row name) n k u
IsStep-more w row n k name u h = record {
  at = h.at;
  key = h.key;
  name = h.name;
  is_name = get-append_front w.names (name ∷ []) h.at h.name h.is_name;
  past = h.past;
  is = h.is;
}

IsStep-past : (w : Listing) (n k n' k' : ℕ) (u : EntTerm) → ((i key : ℕ) → IsPast n k i key → IsPast n' k' i key) → IsStep w n k u → IsStep w n' k' u
IsStep-past w n k n' k' u wider h = record { at = h.at; key = h.key; name = h.name; is_name = h.is_name; past = wider h.at h.key h.past; is = h.is }

past_key : (n k i key : ℕ) → IsPast n k i key → IsPast n (k + 1) i key
past_key n k i key (inl h) = inl h
past_key n k i key (inr h) = inr (h.0, omega (arith, h.1))

past_row : (n k i key : ℕ) → IsPast n k i key → IsPast (n + 1) 0 i key
past_row n k i key (inl h) = inl (omega arith)
past_row n k i key (inr h) = inl (omega (arith, h.0))

key_or_here : (n k i key : ℕ) → IsPast n (k + 1) i key → IsPast n k i key ⊎ ((i ≡ n) × (key ≡ k))
key_or_here n k i key (inl h) = inl (inl h)
key_or_here n k i key (inr h) = elim (below_or_at key k h.1) [ inl a ↦ inl (inr (h.0, a)) | inr b ↦ inr (h.0, b) ]
  where
    below_or_at : (a b : ℕ) → a < b + 1 → (a < b) ⊎ (a ≡ b)
    below_or_at a b less = grind arith

generators_wider : (g : ℕ) (u : EntTerm) → IsGenerator g u → IsGenerator (g + 1) u
generators_wider g u h = (h.0, omega (arith, h.1), h.2)

module _ (S : Schema) (P : Presentation) (m : Content) (entries : List ℕ) where
  -- nothing is named yet
  pub IsWalked-none : (met : List Bool) → met ≡ replicate (made_of m) false → IsWalked S P m entries (record { rows = []; names = []; met = met }) 0 0 0
  IsWalked-none met is = record {
    listing = record {
      same_length = refl;
      marks = ap length is ∙ length-replicate (made_of m) false;
      counted = ap (λ l. 0 + unmet l) is ∙ (let n = unmet-none (made_of m) in omega (arith, n));
      marked = λ i r h. cc;
      found = λ r h. (let bad : true ≡ false = sym h ∙ ap (λ l. get_or l r false) is ∙ met-none (made_of m) r in cc);
      once = λ i j r a b. cc;
      live = λ i r h. cc;
      entity = λ i r t a b. cc;
      leads = λ i r t a b. cc;
      sorted = λ i j t u less a b. cc;
    };
    origin = λ j u h. cc;
    generators = λ i e less h. absurd (omega arith);
    steps = λ i key r s t past a b c. cc;
  }

  -- the listing with a row that is new and a name that comes after all
  IsListing-more : (w : Listing) (row : ℕ) (name : EntTerm) → IsListing S P m entries w → slice_index_or w.met row false ≡ false → row < made_of m → live_of m row ≡ true
      → entity_of S P.generators name ≡ Some (row_entity m row) → row_of_term m entries name ≡ Some row
      → ((j : ℕ) (u : EntTerm) → slice_get w.names j ≡ Some u → IsBefore u name) → IsListing S P m entries (with_row w row name)
  IsListing-more w row name l new made live entity leads after = record {
    same_length = length-append w.names (name ∷ []) ∙ ap (λ n. n + 1) l.same_length ∙ sym (length-append w.rows (row ∷ []));
    marks = length-set w.met row true ∙ l.marks;
    counted = omega (arith, length-append w.rows (row ∷ []), unmet-set w.met row inside new, l.counted);
    marked = λ i r h. elim (front_or_last w.rows row i r h) [
      | inl a ↦ met_still r (l.marked i r a)
      | inr b ↦ ap (λ n. get_or (slice_set w.met row true) n false) b.1 ∙ met_here
    ];
    found = λ r h. found r h;
    once = λ i j r a b. once i j r (front_or_last w.rows row i r a) (front_or_last w.rows row j r b);
    live = λ i r h. elim (front_or_last w.rows row i r h) [ inl a ↦ l.live i r a | inr b ↦ ap (live_of m) b.1 ∙ live ];
    entity = λ i r t a b. entities i r t (front_or_last w.rows row i r a) (front_or_last w.names name i t b);
    leads = λ i r t a b. traces i r t (front_or_last w.rows row i r a) (front_or_last w.names name i t b);
    sorted = λ i j t u less a b. sorted i j t u less (front_or_last w.names name i t a) (front_or_last w.names name j u b);
  }
    where
      inside : row < length w.met
      inside = omega (arith, l.marks)

      met_here : get_or (slice_set w.met row true) row false ≡ true
      met_here = get_or-set_same w.met row true false inside

      other : (r : ℕ) → r ≢ row → get_or (slice_set w.met row true) r false ≡ get_or w.met r false
      other r ne = get_or-set_other w.met row r true false ne

      clash : (r : ℕ) → get_or w.met r false ≡ true → r ≡ row → ⊥
      clash r h e = let bad : get_or w.met row false ≡ true = ap (λ n. get_or w.met n false) (sym e) ∙ h in cc

      met_still : (r : ℕ) → get_or w.met r false ≡ true → get_or (slice_set w.met row true) r false ≡ true
      met_still r h = other r (clash r h) ∙ h

      found : (r : ℕ) → get_or (slice_set w.met row true) r false ≡ true → (i : ℕ) × (slice_get (w.rows ++ row ∷ []) i ≡ Some r)
      found r h = elim (cases_eq r row) [
        | inl e ↦ (length w.rows, get_last w.rows row ∙ ap (λ n. Some n) (sym e))
        | inr ne ↦ (let at = l.found r (sym (other r ne) ∙ h) in (at.0, get-append_front w.rows (row ∷ []) at.0 r at.1))
      ]

      no_old : (i : ℕ) → slice_get w.rows i ≡ Some row → ⊥
      no_old i h = let bad : get_or w.met row false ≡ true = l.marked i row h in cc

      once : (i j r : ℕ) → (slice_get w.rows i ≡ Some r) ⊎ ((i ≡ length w.rows) × (r ≡ row)) → (slice_get w.rows j ≡ Some r) ⊎ ((j ≡ length w.rows) × (r ≡ row)) → i ≡ j
      once i j r (inl a) (inl b) = l.once i j r a b
      once i j r (inl a) (inr b) = absurd (no_old i (a ∙ ap (λ n. Some n) b.1))
      once i j r (inr a) (inl b) = absurd (no_old j (b ∙ ap (λ n. Some n) a.1))
      once i j r (inr a) (inr b) = a.0 ∙ sym b.0

      past : {X : Type 0} (i n : ℕ) (xs : List X) (x : X) → slice_get xs i ≡ Some x → length xs ≡ n → i ≡ n → ⊥
      past i n xs x h size e = absurd (omega (arith, slice_get_within xs i x h, size, e))

      entities : (i r : ℕ) (t : EntTerm) → (slice_get w.rows i ≡ Some r) ⊎ ((i ≡ length w.rows) × (r ≡ row)) → (slice_get w.names i ≡ Some t) ⊎ ((i ≡ length w.names) × (t ≡ name))
          → entity_of S P.generators t ≡ Some (row_entity m r)
      entities i r t (inl a) (inl b) = l.entity i r t a b
      entities i r t (inl a) (inr b) = absurd (past i (length w.names) w.rows r a (sym l.same_length) b.0)
      entities i r t (inr a) (inl b) = absurd (past i (length w.rows) w.names t b l.same_length a.0)
      entities i r t (inr a) (inr b) = ap (entity_of S P.generators) b.1 ∙ entity ∙ ap (λ n. Some (row_entity m n)) (sym a.1)

      traces : (i r : ℕ) (t : EntTerm) → (slice_get w.rows i ≡ Some r) ⊎ ((i ≡ length w.rows) × (r ≡ row)) → (slice_get w.names i ≡ Some t) ⊎ ((i ≡ length w.names) × (t ≡ name))
          → row_of_term m entries t ≡ Some r
      traces i r t (inl a) (inl b) = l.leads i r t a b
      traces i r t (inl a) (inr b) = absurd (past i (length w.names) w.rows r a (sym l.same_length) b.0)
      traces i r t (inr a) (inl b) = absurd (past i (length w.rows) w.names t b l.same_length a.0)
      traces i r t (inr a) (inr b) = ap (row_of_term m entries) b.1 ∙ leads ∙ ap (λ n. Some n) (sym a.1)

      sorted : (i j : ℕ) (t u : EntTerm) → i < j → (slice_get w.names i ≡ Some t) ⊎ ((i ≡ length w.names) × (t ≡ name)) → (slice_get w.names j ≡ Some u) ⊎ ((j ≡ length w.names) × (u ≡ name)) → IsBefore t u
      sorted i j t u less (inl a) (inl b) = l.sorted i j t u less a b
      sorted i j t u less (inl a) (inr b) = subst (IsBefore t) (sym b.1) (after i t a)
      sorted i j t u less (inr a) (inl b) = absurd (omega (arith, less, a.0, slice_get_within w.names j u b))
      sorted i j t u less (inr a) (inr b) = absurd (omega (arith, less, a.0, b.0))

  -- a row that is met is named by a term up to the new one, if all terms are before it
  named_already : (w : Listing) (row : ℕ) (name : EntTerm) → IsListing S P m entries w → slice_index_or w.met row false ≡ true
      → ((j : ℕ) (u : EntTerm) → slice_get w.names j ≡ Some u → IsBefore u name) → IsNamedUpTo w row name
  named_already w row name l met after =
      let at : (i : ℕ) × (slice_get w.rows i ≡ Some row) = l.found row met in
      let u : (u : EntTerm) × (slice_get w.names at.0 ≡ Some u) = name_at w.names at.0 (omega (arith, slice_get_within w.rows at.0 row at.1, l.same_length)) in
      record { at = at.0; name = u.0; is_row = at.1; is_name = u.1; up_to = inl (after at.0 u.0 u.1) }
    where
      name_at : (xs : List EntTerm) (i : ℕ) → i < length xs → (u : EntTerm) × (slice_get xs i ≡ Some u)
      name_at [] i h = absurd (omega arith)
      name_at (x ∷ xs) zero h = (x, refl)
      name_at (x ∷ xs) (suc i) h = name_at xs i (omega arith)

  named_now : (w : Listing) (row : ℕ) (name : EntTerm) → IsListing S P m entries w → IsNamedUpTo (with_row w row name) row name
  named_now w row name l = record {
    at = length w.rows;
    name = name;
    is_row = get_last w.rows row;
    is_name = ap (slice_get (w.names ++ name ∷ [])) (sym l.same_length) ∙ get_last w.names name;
    up_to = inr refl;
  }

  -- entity terms, one key further
  module _ (whole : IsWhole m) (keys : keys_of m ≡ map ends_of S.keys) where
    further_row : (t : EntTerm) (r s k : ℕ) → row_of_term m entries t ≡ Some r → cell_of m r k ≡ Some s → row_of_term m entries (one_further t k) ≡ Some s
    further_row t r s k leads cell =
        trace_append m (slice_index entries t.generator) r t.path (k ∷ []) leads ∙ trace_one m r k s cell

    further_entity : (t : EntTerm) (r s k : ℕ) → entity_of S P.generators t ≡ Some (row_entity m r) → live_of m r ≡ true → cell_of m r k ≡ Some s
        → entity_of S P.generators (one_further t k) ≡ Some (row_entity m s)
    further_entity t r s k entity live cell =
        let step : step_of (map ends_of S.keys) (row_entity m r) k ≡ Some (row_entity m s) = ap (λ (l : List (ℕ × ℕ)). step_of l (row_entity m r) k) (sym keys) ∙ (whole.held r k s live cell).step in
        sym (sort_same S P (one_further t k))
        ∙ sort-along (theory_of S P) t (row_entity m r) (row_entity m s) (k ∷ []) (sort_same S P t ∙ entity) (end_one (map ends_of S.keys) (row_entity m r) k (row_entity m s) step)

    -- all names are before the step from row n along key k
    pub all_before : (w : Listing) (g n k : ℕ) (t : EntTerm) → IsWalked S P m entries w g n k → slice_get w.names n ≡ Some t
        → (j : ℕ) (u : EntTerm) → slice_get w.names j ≡ Some u → IsBefore u (one_further t k)
    all_before w g n k t walked here j u at = elim (walked.origin j u at) [
      | inl o ↦ subst (λ (x : EntTerm). IsBefore x (one_further t k)) (sym o.2) (IsBefore-generator o.0 t k)
      | inr o ↦ subst (λ (x : EntTerm). IsBefore x (one_further t k)) (sym o.is) (step_before o.at o.key o.name o.is_name o.past)
    ]
      where
        step_before : (i key : ℕ) (v : EntTerm) → slice_get w.names i ≡ Some v → IsPast n k i key → IsBefore (one_further v key) (one_further t k)
        step_before i key v found (inl less) = IsBefore-further v t key k (walked.listing.sorted i n v t less found here)
        step_before i key v found (inr e) =
            let same : v ≡ t = same_Some v t (sym found ∙ ap (slice_get w.names) e.0 ∙ here) in
            subst (λ (x : EntTerm). IsBefore (one_further x key) (one_further t k)) (sym same) (IsBefore-keys t key k e.1)

    -- a step to a row
    pub IsWalked-step : (w w' : Listing) (g n k r s : ℕ) (t : EntTerm) → IsWalked S P m entries w g n k → slice_get w.rows n ≡ Some r → slice_get w.names n ≡ Some t
        → cell_of m r k ≡ Some s → Meets w w' s (one_further t k) → IsWalked S P m entries w' g n (k + 1)
    IsWalked-step w w' g n k r s t walked row name cell meets = elim (true_or_false (slice_index_or w.met s false)) [
      | inl met ↦ subst (λ (x : Listing). IsWalked S P m entries x g n (k + 1)) (sym (meets_old w w' s (one_further t k) meets met)) (old met)
      | inr new ↦ subst (λ (x : Listing). IsWalked S P m entries x g n (k + 1)) (sym (meets_new w w' s (one_further t k) meets new)) (fresh new)
    ]
      where
        true_or_false : (b : Bool) → (b ≡ true) ⊎ (b ≡ false)
        true_or_false true = inl refl
        true_or_false false = inr refl

        l : IsListing S P m entries w
        l = walked.listing

        live : live_of m r ≡ true
        live = l.live n r row

        target : live_of m s ≡ true
        target = (whole.held r k s live cell).live

        before : (j : ℕ) (u : EntTerm) → slice_get w.names j ≡ Some u → IsBefore u (one_further t k)
        before = all_before w g n k t walked name

        -- the step from row n along key k is the new one
        new_step : (x : Listing) (i key q z : ℕ) (u : EntTerm) → IsNamedUpTo x s (one_further t k) → i ≡ n → key ≡ k → slice_get w.rows i ≡ Some q → slice_get w.names i ≡ Some u → cell_of m q key ≡ Some z
            → IsNamedUpTo x z (one_further u key)
        new_step x i key q z u named at on is_row is_name is_cell =
            let same_row : q ≡ r = same_Some q r (sym is_row ∙ ap (slice_get w.rows) at ∙ row) in
            let same_name : u ≡ t = same_Some u t (sym is_name ∙ ap (slice_get w.names) at ∙ name) in
            let same_cell : z ≡ s = same_Some z s (sym is_cell ∙ (λ i'. cell_of m (same_row i') (on i')) ∙ cell) in
            subst (λ (y : ℕ × EntTerm). IsNamedUpTo x y.0 y.1) (λ i'. (sym same_cell i', one_further (sym same_name i') (sym on i'))) named

        old : slice_index_or w.met s false ≡ true → IsWalked S P m entries w g n (k + 1)
        old met = record {
          listing = l;
          origin = λ j u h. elim (walked.origin j u h) [ inl o ↦ inl o | inr o ↦ inr (IsStep-past w n k n (k + 1) u (past_key n k) o) ];
          generators = walked.generators;
          steps = λ i key q z u past a b c. elim (key_or_here n k i key past) [
            | inl p ↦ walked.steps i key q z u p a b c
            | inr e ↦ new_step w i key q z u (named_already w s (one_further t k) l met before) e.0 e.1 a b c
          ];
        }

        fresh : slice_index_or w.met s false ≡ false → IsWalked S P m entries (with_row w s (one_further t k)) g n (k + 1)
        fresh new = record {
          listing = IsListing-more w s (one_further t k) l new (whole.made s target) target
              (further_entity t r s k (l.entity n r t row name) live cell) (further_row t r s k (l.leads n r t row name) cell) before;
          origin = λ j u h. elim (front_or_last w.names (one_further t k) j u h) [
            | inl a ↦ elim (walked.origin j u a) [
              | inl o ↦ inl o
              | inr o ↦ inr (IsStep-past (with_row w s (one_further t k)) n k n (k + 1) u (past_key n k) (IsStep-more w s n k (one_further t k) u o))
            ]
            | inr b ↦ inr (record { at = n; key = k; name = t; is_name = get-append_front w.names (one_further t k ∷ []) n t name; past = inr (refl, omega arith); is = b.1 })
          ];
          generators = λ i e less h. IsNamedUpTo-more w s (slice_index entries i) (one_further t k) (generator_term i) (walked.generators i e less h);
          steps = λ i key q z u past a b c. steps i key q z u past (front_or_last w.rows s i q a) (front_or_last w.names (one_further t k) i u b) c;
        }
          where
            not_past : (i key : ℕ) → IsPast n (k + 1) i key → i ≡ length w.rows → ⊥
            not_past i key (inl less) e = omega (arith, slice_get_within w.rows n r row, less, e)
            not_past i key (inr h) e = omega (arith, slice_get_within w.rows n r row, h.0, e)

            steps : (i key q z : ℕ) (u : EntTerm) → IsPast n (k + 1) i key → (slice_get w.rows i ≡ Some q) ⊎ ((i ≡ length w.rows) × (q ≡ s)) → (slice_get w.names i ≡ Some u) ⊎ ((i ≡ length w.names) × (u ≡ one_further t k))
                → cell_of m q key ≡ Some z → IsNamedUpTo (with_row w s (one_further t k)) z (one_further u key)
            steps i key q z u past (inl a) (inl b) c = elim (key_or_here n k i key past) [
              | inl p ↦ IsNamedUpTo-more w s z (one_further t k) (one_further u key) (walked.steps i key q z u p a b c)
              | inr e ↦ new_step (with_row w s (one_further t k)) i key q z u (named_now w s (one_further t k) l) e.0 e.1 a b c
            ]
            steps i key q z u past (inl a) (inr b) c = absurd (omega (arith, slice_get_within w.rows i q a, l.same_length, b.0))
            steps i key q z u past (inr a) b c = absurd (not_past i key past (a.0))

    -- no step, where the cell is empty
    pub IsWalked-skip : (w : Listing) (g n k r : ℕ) → IsWalked S P m entries w g n k → slice_get w.rows n ≡ Some r → cell_of m r k ≡ None → IsWalked S P m entries w g n (k + 1)
    IsWalked-skip w g n k r walked row empty = record {
      listing = walked.listing;
      origin = λ j u h. elim (walked.origin j u h) [ inl o ↦ inl o | inr o ↦ inr (IsStep-past w n k n (k + 1) u (past_key n k) o) ];
      generators = walked.generators;
      steps = λ i key q z u past a b c. elim (key_or_here n k i key past) [
        | inl p ↦ walked.steps i key q z u p a b c
        | inr e ↦ absurd (nothing i key q z e.0 e.1 a c)
      ];
    }
      where
        nothing : (i key q z : ℕ) → i ≡ n → key ≡ k → slice_get w.rows i ≡ Some q → cell_of m q key ≡ Some z → ⊥
        nothing i key q z at on is_row is_cell =
            let same_row : q ≡ r = same_Some q r (sym is_row ∙ ap (slice_get w.rows) at ∙ row) in
            let bad : Some z ≡ None = sym is_cell ∙ (λ i'. cell_of m (same_row i') (on i')) ∙ empty in
            cc

    -- all keys of row n are done
    pub IsWalked-row : (w : Listing) (g n : ℕ) → IsWalked S P m entries w g n (length (keys_of m)) → IsWalked S P m entries w g (n + 1) 0
    IsWalked-row w g n walked = record {
      listing = walked.listing;
      origin = λ j u h. elim (walked.origin j u h) [ inl o ↦ inl o | inr o ↦ inr (IsStep-past w n (length (keys_of m)) (n + 1) 0 u (past_row n (length (keys_of m))) o) ];
      generators = walked.generators;
      steps = λ i key q z u past a b c. walked.steps i key q z u (within i key q z past c) a b c;
    }
      where
        within : (i key q z : ℕ) → IsPast (n + 1) 0 i key → cell_of m q key ≡ Some z → IsPast n (length (keys_of m)) i key
        within i key q z (inl less) c = elim (at_or_below i n less) [ inl a ↦ inl a | inr b ↦ inr (b, filled_below m q key z whole c) ]
          where
            at_or_below : (a b : ℕ) → a < b + 1 → (a < b) ⊎ (a ≡ b)
            at_or_below a b h = grind arith
        within i key q z (inr h) c = absurd (omega (arith, h.1))

    no_step : (w : Listing) (u : EntTerm) → IsStep w 0 0 u → ⊥
    no_step w u o = nothing o.at o.key o.past
      where
        nothing : (i key : ℕ) → IsPast 0 0 i key → ⊥
        nothing i key (inl less) = omega arith
        nothing i key (inr h) = omega (arith, h.1)

    no_past : (i key : ℕ) (X : Type 0) → IsPast 0 0 i key → X
    no_past i key X (inl less) = absurd (omega arith)
    no_past i key X (inr h) = absurd (omega (arith, h.1))

    all_before_generator : (w : Listing) (g : ℕ) → IsWalked S P m entries w g 0 0 → (j : ℕ) (u : EntTerm) → slice_get w.names j ≡ Some u → IsBefore u (generator_term g)
    all_before_generator w g walked j u at = elim (walked.origin j u at) [
      | inl o ↦ subst (λ (x : EntTerm). IsBefore x (generator_term g)) (sym o.2) (IsBefore-generators o.0 g o.1)
      | inr o ↦ absurd (no_step w u o)
    ]

    up_to_or_here : (i g : ℕ) → i < g + 1 → (i < g) ⊎ (i ≡ g)
    up_to_or_here i g h = grind arith

    -- a generator of an entity
    pub IsWalked-generator : (w w' : Listing) (g e : ℕ) → HasEntries P m entries → IsWalked S P m entries w g 0 0 → entity_at (slice_get P.generators g) ≡ Some e
        → Meets w w' (slice_index entries g) (generator_term g) → IsWalked S P m entries w' (g + 1) 0 0
    IsWalked-generator w w' g e has walked sort meets = elim (true_or_false (slice_index_or w.met s false)) [
      | inl met ↦ subst (λ (x : Listing). IsWalked S P m entries x (g + 1) 0 0) (sym (meets_old w w' s t meets met)) (old met)
      | inr new ↦ subst (λ (x : Listing). IsWalked S P m entries x (g + 1) 0 0) (sym (meets_new w w' s t meets new)) (fresh new)
    ]
      where
        true_or_false : (b : Bool) → (b ≡ true) ⊎ (b ≡ false)
        true_or_false true = inl refl
        true_or_false false = inr refl

        s : ℕ
        s = slice_index entries g

        t : EntTerm
        t = generator_term g

        l : IsListing S P m entries w
        l = walked.listing

        live : live_of m s ≡ true
        live = (has.entity g e sort).0

        before : (j : ℕ) (u : EntTerm) → slice_get w.names j ≡ Some u → IsBefore u t
        before = all_before_generator w g walked

        at_generator : (x : Listing) → IsNamedUpTo x s t → (i : ℕ) → i ≡ g → IsNamedUpTo x (slice_index entries i) (generator_term i)
        at_generator x named i same = subst (λ n. IsNamedUpTo x (slice_index entries n) (generator_term n)) (sym same) named

        old : slice_index_or w.met s false ≡ true → IsWalked S P m entries w (g + 1) 0 0
        old met = record {
          listing = l;
          origin = λ j u h. elim (walked.origin j u h) [ inl o ↦ inl (generators_wider g u o) | inr o ↦ inr o ];
          generators = λ i e' less h. elim (up_to_or_here i g less) [
            | inl a ↦ walked.generators i e' a h
            | inr b ↦ at_generator w (named_already w s t l met before) i b
          ];
          steps = walked.steps;
        }

        fresh : slice_index_or w.met s false ≡ false → IsWalked S P m entries (with_row w s t) (g + 1) 0 0
        fresh new = record {
          listing = IsListing-more w s t l new (whole.made s live) live
              (ap (option_and_then (λ n. Some n)) sort ∙ ap (λ n. Some n) (sym (has.entity g e sort).1)) refl before;
          origin = λ j u h. elim (front_or_last w.names t j u h) [
            | inl a ↦ elim (walked.origin j u a) [ inl o ↦ inl (generators_wider g u o) | inr o ↦ absurd (no_step w u o) ]
            | inr b ↦ inl (g, omega arith, b.1)
          ];
          generators = λ i e' less h. elim (up_to_or_here i g less) [
            | inl a ↦ IsNamedUpTo-more w s (slice_index entries i) t (generator_term i) (walked.generators i e' a h)
            | inr b ↦ at_generator (with_row w s t) (named_now w s t l) i b
          ];
          steps = λ i key q z u past a b c. no_past i key (IsNamedUpTo (with_row w s t) z (one_further u key)) past;
        }

    -- a generator of a type
    pub IsWalked-other : (w : Listing) (g : ℕ) → IsWalked S P m entries w g 0 0 → entity_at (slice_get P.generators g) ≡ None → IsWalked S P m entries w (g + 1) 0 0
    IsWalked-other w g walked sort = record {
      listing = walked.listing;
      origin = λ j u h. elim (walked.origin j u h) [ inl o ↦ inl (generators_wider g u o) | inr o ↦ inr o ];
      generators = λ i e less h. elim (up_to_or_here i g less) [
        | inl a ↦ walked.generators i e a h
        | inr b ↦ (let bad : None ≡ Some e = sym sort ∙ ap (λ n. entity_at (slice_get P.generators n)) (sym b) ∙ h in cc)
      ];
      steps = walked.steps;
    }

    -- Where all rows are done, each term leads to a row that is named by a term up to it.
    module _ (w : Listing) (g : ℕ) (walked : IsWalked S P m entries w g (length w.rows) 0) where
      named_along : (q : List ℕ) (p : List ℕ) (n a r : ℕ) → IsNamedUpTo w a (record { generator = n; path = p }) → trace_of m a q ≡ Some r → IsNamedUpTo w r (record { generator = n; path = p ++ q })
      named_along [] p n a r named h =
          subst (λ (y : ℕ × List ℕ). IsNamedUpTo w y.0 (record { generator = n; path = y.1 })) (λ i. (same_Some a r h i, sym (append-nil p) i)) named
      named_along (k ∷ ks) p n a r named h = option_and_then_some (λ x. trace_of m x ks) (cell_of m a k) r h (λ x cell rest.
          let here : EntTerm = record { generator = n; path = p } in
          let step : IsNamedUpTo w x (one_further named.name k) = walked.steps named.at k a x named.name (inl (slice_get_within w.rows named.at a named.is_row)) named.is_row named.is_name cell in
          let next : IsNamedUpTo w x (one_further here k) = record {
            at = step.at;
            name = step.name;
            is_row = step.is_row;
            is_name = step.is_name;
            up_to = IsUpTo-trans step.name (one_further named.name k) (one_further here k) step.up_to (IsUpTo-further named.name here k named.up_to);
          } in
          subst (λ (l : List ℕ). IsNamedUpTo w r (record { generator = n; path = l })) (append_assoc p (k ∷ []) ks) (named_along ks (p ++ k ∷ []) n x r next rest))

      pub covered : length P.generators ≤ g → (t : EntTerm) (e r : ℕ) → entity_of S P.generators t ≡ Some e → row_of_term m entries t ≡ Some r → IsNamedUpTo w r t
      covered all t e r sort h = option_and_then_some (λ (d : ℕ). _) (entity_at (slice_get P.generators t.generator)) e sort (λ start first rest.
          named_along t.path [] t.generator (slice_index entries t.generator) r (walked.generators t.generator start (inside t.generator start first) first) h)
        where
          inside : (i start : ℕ) → entity_at (slice_get P.generators i) ≡ Some start → i < g
          inside i start first = found (slice_get P.generators i) refl first
            where
              found : (o : Option (Name × Sort)) → slice_get P.generators i ≡ o → entity_at o ≡ Some start → i < g
              found None h none = cc
              found (Some x) h some = omega (arith, all, slice_get_within P.generators i x h)

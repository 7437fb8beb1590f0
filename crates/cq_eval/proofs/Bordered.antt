-- Behind a border the same is found, whatever rows stand before it.
use Rattle.std.proofs.Common.{ℕ, zero, suc, Bool, true, false, not, cond, List, [], ◌∷◌, ◌++◌, Some, ◌≡◌, ◌<◌, ◌≤◌, ◌+◌, ◌-◌, ◌⊎◌, inl, inr, ◌==◌, ◌||◌, ◌&&◌, map, filter, drop, length, refl, sym, ap, subst, ◌∙◌, arith, append_assoc}
use Rattle.std.specs.Prelude.{slice_get, slice_index, slice_index_or}
use Rattle.std.specs.List.{list_all, flat_map}
use Rattle.std.proofs.lemmas.Bool.{eqb-true}
use Rattle.std.proofs.lemmas.List.{length-append, append-nil, map-append, take_all, drop_at, take-append-le}
use Rattle.cq_theory.specs.declared.presentation.Equation.{Equation}
use Rattle.cq_theory.specs.declared.presentation.Equation.TheVariants as equation
use Rattle.cq_theory.specs.declared.term.EntTerm.{EntTerm}
use Rattle.cq_theory.specs.declared.term.TypeTerm.{TypeTerm}
use Rattle.cq_theory.specs.declared.value.Value.{Value}
use Rattle.cq_theory.specs.Canonical.{below}
use Rattle.cq_theory.specs.Tables.{Tables, AtRow, Assignment, row_in, value_in, cell_at, row_from, row_of, value_of, value_step, applied}
use Rattle.cq_theory.proofs.TypeTerms.{fold-Gen, fold-Const, fold-Att, fold-Fun, Each, on_terms}
use Rattle.cq_instance.specs.SameValue.{same_value}
use Rattle.cq_eval.specs.Border.{least, first_step, first_of, first_variable, IsBorder}
use Rattle.cq_eval.specs.Testing.{holds_at, stage}
use Rattle.cq_eval.specs.Join.{passes, found_from, found_by}
use Rattle.cq_eval.specs.Known.{behind, between, IsKnownAt, AreKnown}
use Rattle.cq_eval.specs.declared.known.Known.{Known}
use Rattle.cq_eval.specs.declared.known.Stretch.{Stretch}
use Rattle.cq_eval.proofs.Extended.{rows_all}

-- what stands behind as many others
same_stand : (before before' rows : List ℕ) (v : ℕ) → length before ≡ length before' → length before ≤ v
    → slice_index_or (map AtRow (before ++ rows)) v (AtRow 0) ≡ slice_index_or (map AtRow (before' ++ rows)) v (AtRow 0)
same_stand [] [] rows v long past = refl
same_stand [] (y ∷ before') rows v long past = absurd (omega (arith, long))
same_stand (x ∷ before) [] rows v long past = absurd (omega (arith, long))
same_stand (x ∷ before) (y ∷ before') rows zero long past = absurd (omega (arith, past))
same_stand (x ∷ before) (y ∷ before') rows (suc v) long past = same_stand before before' rows v (omega (arith, long)) (omega (arith, past))

module _ (M : Tables) (width : ℕ) (before before' rows : List ℕ) (long : length before ≡ length before') where
  abbrev A : Assignment
  A = map AtRow (before ++ rows)

  abbrev B : Assignment
  B = map AtRow (before' ++ rows)

  row_behind : (t : EntTerm) → length before ≤ t.generator → row_of M A t ≡ row_of M B t
  row_behind t past = ap (λ m. row_from M (row_in m) t.path) (same_stand before before' rows t.generator long past)

  abbrev IsBehind : TypeTerm → Type 0
  IsBehind t = length before ≤ first_of width t → value_of M A t ≡ value_of M B t

  args_behind : (ts : List TypeTerm) → Each IsBehind ts → length before ≤ least width (map (first_of width) ts) → map (value_of M A) ts ≡ map (value_of M B) ts
  args_behind [] each past = refl
  args_behind (t ∷ ts) each past = λ i. each.0 (omega (arith, past)) i ∷ args_behind ts each.1 (omega (arith, past)) i

  value_behind : (t : TypeTerm) → IsBehind t
  value_behind = on_terms IsBehind
      (λ n past. fold-Gen Value (value_step M A) n
      ∙ ap value_in (same_stand before before' rows n long (subst (λ r. length before ≤ r) (fold-Gen ℕ (first_step width) n) past))
      ∙ sym (fold-Gen Value (value_step M B) n))
      (λ c past. fold-Const Value (value_step M A) c ∙ sym (fold-Const Value (value_step M B) c))
      (λ a t past. fold-Att Value (value_step M A) a t
      ∙ ap (λ row. cell_at M a row) (row_behind t (subst (λ r. length before ≤ r) (fold-Att ℕ (first_step width) a t) past))
      ∙ sym (fold-Att Value (value_step M B) a t))
      (λ f ts each past. fold-Fun Value (value_step M A) f ts
      ∙ ap (λ vs. applied M f vs) (args_behind ts each (subst (λ r. length before ≤ r) (fold-Fun ℕ (first_step width) f ts) past))
      ∙ sym (fold-Fun Value (value_step M B) f ts))

  holds_behind : (e : Equation) → length before ≤ first_variable width e → holds_at M (before ++ rows) e ≡ holds_at M (before' ++ rows) e
  holds_behind (equation.Ent t u) past = λ i. row_behind t (omega (arith, past)) i == row_behind u (omega (arith, past)) i
  holds_behind (equation.Typ t u) past = λ i. same_value (value_behind t (omega (arith, past)) i) (value_behind u (omega (arith, past)) i)

all_alike : {E : Type 0} (f g : E → Bool) (es : List E) → ((n : ℕ) (e : E) → slice_get es n ≡ Some e → f e ≡ g e) → list_all f es ≡ list_all g es
all_alike f g [] each = refl
all_alike f g (e ∷ es) each = λ i. each 0 e refl i && all_alike f g es (λ n x at. each (suc n) x at) i

module _ (M : Tables) (tests : List Equation) (counts : List ℕ) (bound : ℕ) (border : IsBorder (length counts) tests bound) where
  abbrev N : ℕ
  N = length counts

  abbrev test_passes : List ℕ → Bool
  test_passes = passes (stage N) (holds_at M) tests

  one_passes : (s size size' : ℕ) (b b' : Bool) → size ≡ size' → (s ≡ size → b ≡ b') → (not (s == size) || b) ≡ (not (s == size') || b')
  one_passes s size size' b b' same held = ap (λ n. not (s == size) || b) same ∙ at (s == size) refl ∙ ap (λ n. not (s == n) || b') same
    where
      at : (c : Bool) → (s == size) ≡ c → (not (s == size) || b) ≡ (not (s == size) || b')
      at true is = ap (λ x. not (s == size) || x) (held (eqb-true s size is))
      at false is = ap (λ c. not c || b) is ∙ sym (ap (λ c. not c || b') is)

  module _ (before before' : List ℕ) (long : length before ≡ bound) (long' : length before' ≡ bound) where
    passes_behind : (rows : List ℕ) (row : ℕ) → test_passes (before ++ (rows ++ row ∷ [])) ≡ test_passes (before' ++ (rows ++ row ∷ []))
    passes_behind rows row =
        let all : List ℕ = rows ++ row ∷ [] in
        let size : length (before ++ all) ≡ length (before' ++ all) =
        length-append before all ∙ ap (λ n. n + length all) (long ∙ sym long') ∙ sym (length-append before' all) in
        let more : length all ≡ length rows + 1 = length-append rows (row ∷ []) in
        let past : bound < length (before ++ all) = omega (arith, length-append before all, long, more) in
        all_alike (λ e. not (stage N e == length (before ++ all)) || holds_at M (before ++ all) e) (λ e. not (stage N e == length (before' ++ all)) || holds_at M (before' ++ all) e) tests
        (λ n e at. one_passes (stage N e) (length (before ++ all)) (length (before' ++ all)) (holds_at M (before ++ all) e) (holds_at M (before' ++ all) e) size
        (λ here. holds_behind M N before before' all (long ∙ sym long') e (subst (λ m. m ≤ first_variable N e) (sym long) (border n e at (subst (λ m. bound < m) (sym here) past)))))

    -- the same rows behind others
    abbrev put : List ℕ → List ℕ
    put list = before' ++ drop bound list

    mutual_rows : (left rows rs : List ℕ)
        → ((row : ℕ) → found_from M tests counts left (before' ++ (rows ++ row ∷ [])) ≡ map put (found_from M tests counts left (before ++ (rows ++ row ∷ []))))
        → flat_map (found_from M tests counts left) (filter test_passes (map (λ r. (before' ++ rows) ++ r ∷ []) rs))
        ≡ map put (flat_map (found_from M tests counts left) (filter test_passes (map (λ r. (before ++ rows) ++ r ∷ []) rs)))
    mutual_rows left rows [] each = refl
    mutual_rows left rows (r ∷ rs) each =
        let F : List ℕ → List (List ℕ) = found_from M tests counts left in
        let one : List ℕ = (before ++ rows) ++ r ∷ [] in
        let one' : List ℕ = (before' ++ rows) ++ r ∷ [] in
        let rest = mutual_rows left rows rs each in
        let same : F one' ≡ map put (F one) = ap F (append_assoc before' rows (r ∷ [])) ∙ each r ∙ ap (λ l. map put (F l)) (sym (append_assoc before rows (r ∷ []))) in
        let alike : test_passes one' ≡ test_passes one =
        ap test_passes (append_assoc before' rows (r ∷ [])) ∙ sym (passes_behind rows r) ∙ ap test_passes (sym (append_assoc before rows (r ∷ []))) in
        step F (test_passes one) (test_passes one') one one' (filter test_passes (map (λ x. (before ++ rows) ++ x ∷ []) rs)) (filter test_passes (map (λ x. (before' ++ rows) ++ x ∷ []) rs)) alike same rest
      where
        step : (F : List ℕ → List (List ℕ)) (b b' : Bool) (one one' : List ℕ) (l l' : List (List ℕ)) → b' ≡ b → F one' ≡ map put (F one) → flat_map F l' ≡ map put (flat_map F l)
            → flat_map F (cond b' (one' ∷ l') l') ≡ map put (flat_map F (cond b (one ∷ l) l))
        step F true true one one' l l' alike same rest = (λ i. same i ++ rest i) ∙ sym (map-append put (F one) (flat_map F l))
        step F false false one one' l l' alike same rest = rest
        step F true false one one' l l' alike same rest = cc
        step F false true one one' l l' alike same rest = cc

    found_behind : (left rows : List ℕ) → found_from M tests counts left (before' ++ rows) ≡ map put (found_from M tests counts left (before ++ rows))
    found_behind [] rows = ap (λ l. (before' ++ l) ∷ []) (sym (drop_at before rows bound long))
    found_behind (count ∷ left) rows = mutual_rows left rows (below count) (λ row. found_behind left (rows ++ row ∷ []))

    pub found_same : (left : List ℕ) → found_from M tests counts left before' ≡ map put (found_from M tests counts left before)
    found_same left =
        ap (found_from M tests counts left) (sym (append-nil before')) ∙ found_behind left []
        ∙ ap (λ l. map put (found_from M tests counts left l)) (append-nil before)

-- what is known stays known when more is found
between_more : (s : Stretch) (found more : List (List ℕ)) → s.end ≤ length found → between s (found ++ more) ≡ between s found
between_more s found more within = ap (drop s.start) (take-append-le s.end found more within)

pub known_more : (M : Tables) (tests : List Equation) (counts : List ℕ) (found more : List (List ℕ)) (known : Known) → AreKnown M tests counts found known → AreKnown M tests counts (found ++ more) known
known_more M tests counts found more known are = record {
  long = are.long;
  borders = are.borders;
  noted = λ bound s at.
      let old = are.noted bound s at in
      let size = length-append found more in
      record {
        rises = old.rises;
        within = omega (arith, old.within, size);
        same = λ rows long. old.same rows long ∙ ap (behind rows) (sym (between_more s found more old.within));
      };
  vain = are.vain;
}

pub known_as : (M : Tables) (tests : List Equation) (counts : List ℕ) (found found' more : List (List ℕ)) (known : Known) → found' ≡ found ++ more → AreKnown M tests counts found known → AreKnown M tests counts found' known
known_as M tests counts found found' more known is are = subst (λ l. AreKnown M tests counts l known) (sym is) (known_more M tests counts found more known are)

-- where nothing is found behind any rows, nothing is found behind fewer
module _ (M : Tables) (tests : List Equation) (counts : List ℕ) (bound : ℕ) (inside : bound < length counts)
    (nothing : (rows : List ℕ) → length rows ≡ bound → found_from M tests counts (drop bound counts) rows ≡ []) where
  none_of : (left rows rs : List ℕ) → ((row : ℕ) → found_from M tests counts left (rows ++ row ∷ []) ≡ [])
      → flat_map (found_from M tests counts left) (filter (passes (stage (length counts)) (holds_at M) tests) (map (λ r. rows ++ r ∷ []) rs)) ≡ []
  none_of left rows [] each = refl
  none_of left rows (r ∷ rs) each = at (passes (stage (length counts)) (holds_at M) tests (rows ++ r ∷ [])) (filter (passes (stage (length counts)) (holds_at M) tests) (map (λ x. rows ++ x ∷ []) rs)) (none_of left rows rs each)
    where
      at : (b : Bool) (l : List (List ℕ)) → flat_map (found_from M tests counts left) l ≡ [] → flat_map (found_from M tests counts left) (cond b ((rows ++ r ∷ []) ∷ l) l) ≡ []
      at true l rest = (λ i. each r i ++ rest i)
      at false l rest = rest

  none_before : (more fewer : ℕ) → fewer + more ≡ bound → (rows : List ℕ) → length rows ≡ fewer → found_from M tests counts (drop fewer counts) rows ≡ []
  none_before zero fewer sum rows long =
      let same : fewer ≡ bound = omega (arith, sum) in
      subst (λ n. found_from M tests counts (drop n counts) rows ≡ []) (sym same) (nothing rows (long ∙ same))
  none_before (suc more) fewer sum rows long =
      rows_all M tests counts fewer rows (omega (arith, sum, inside))
      ∙ none_of (drop (fewer + 1) counts) rows (below (slice_index counts fewer)) (λ row.
      none_before more (fewer + 1) (omega (arith, sum)) (rows ++ row ∷ []) (length-append rows (row ∷ []) ∙ ap (λ n. n + 1) long))

  pub none_behind : (fewer : ℕ) → fewer ≤ bound → (rows : List ℕ) → length rows ≡ fewer → found_from M tests counts (drop fewer counts) rows ≡ []
  none_behind fewer less rows long = none_before (bound - fewer) fewer (omega (arith, less)) rows long

none_long : {X : Type 0} (xs : List X) → length xs ≡ 0 → xs ≡ []
none_long [] h = refl
none_long (x ∷ xs) h = absurd (omega (arith, h))

-- what is found behind a border is noted
module _ (M : Tables) (tests : List Equation) (counts : List ℕ) (bound : ℕ) (border : IsBorder (length counts) tests bound) (inside : bound < length counts)
    (before : List ℕ) (long : length before ≡ bound) (found0 found : List (List ℕ)) (is : found ≡ found0 ++ found_from M tests counts (drop bound counts) before)
    (stretch : Stretch) (starts : stretch.start ≡ length found0) (ends : stretch.end ≡ length found) where
  abbrev more : List (List ℕ)
  more = found_from M tests counts (drop bound counts) before

  size : length found ≡ length found0 + length more
  size = ap length is ∙ length-append found0 more

  newest : between stretch found ≡ more
  newest =
      ap (drop stretch.start) (take_all stretch.end found (omega (arith, ends)) ∙ is)
      ∙ drop_at found0 more stretch.start (sym starts)

  here : IsKnownAt M tests counts found bound stretch
  here = record {
    rises = omega (arith, starts, ends, size);
    within = omega (arith, ends);
    same = λ rows as_long.
        found_same M tests counts bound border before rows long as_long (drop bound counts)
        ∙ (λ i. map (λ list. rows ++ drop (sym as_long i) list) (sym newest i));
  }

  nothing : stretch.start ≡ stretch.end → (rows : List ℕ) → length rows ≡ bound → found_from M tests counts (drop bound counts) rows ≡ []
  nothing same rows as_long =
      let none : more ≡ [] = none_long more (omega (arith, starts, ends, size, same)) in
      found_same M tests counts bound border before rows long as_long (drop bound counts) ∙ ap (map (λ list. rows ++ drop bound list)) none

  pub known_noted : (known known' : Known) → AreKnown M tests counts found known → known'.borders ≡ known.borders
      → ((place : ℕ) (other : Stretch) → slice_get known'.noted.items place ≡ Some (Some other) → (slice_get known.noted.items place ≡ Some (Some other)) ⊎ ((place ≡ bound) × (other ≡ stretch)))
      → ((place : ℕ) → place < known'.vain → (place < known.vain) ⊎ ((stretch.start ≡ stretch.end) × (place ≤ bound)))
      → AreKnown M tests counts found known'
  known_noted known known' are borders noted vain = record {
    long = ap length borders ∙ are.long;
    borders = λ place at. are.borders place (ap (λ l. slice_get l place) (sym borders) ∙ at);
    noted = λ place other at. elim (noted place other at) [
      | inl old ↦ are.noted place other old
      | inr new ↦ subst (λ n. IsKnownAt M tests counts found n other) (sym new.0) (subst (IsKnownAt M tests counts found bound) (sym new.1) here)
    ];
    vain = λ place rows below_it as_long. elim (vain place below_it) [
      | inl old ↦ are.vain place rows old as_long
      | inr new ↦ none_behind M tests counts bound inside (nothing new.0) place new.1 rows as_long
    ];
  }

-- where the search is known to be in vain, nothing more is found
module _ (M : Tables) (tests : List Equation) (counts : List ℕ) (found : List (List ℕ)) (known : Known) (are : AreKnown M tests counts found known) where
  pub vain_found : (bound row : ℕ) (before : List ℕ) → length before ≡ bound → bound + 1 < known.vain → found ≡ found ++ found_by M tests counts (drop (bound + 1) counts) (before ++ row ∷ [])
  vain_found bound row before long vain =
      let none = are.vain (bound + 1) (before ++ row ∷ []) vain (length-append before (row ∷ []) ∙ ap (λ n. n + 1) long) in
      let passed : Bool = passes (stage (length counts)) (holds_at M) tests (before ++ row ∷ []) in
      sym (ap (λ l. found ++ l) (ap (λ l. cond passed l []) none ∙ neither passed) ∙ append-nil found)
    where
      neither : (b : Bool) → ◌≡◌ {A = List (List ℕ)} (cond b [] []) []
      neither true = refl
      neither false = refl

  pub repeated : (bound : ℕ) (stretch : Stretch) (before : List ℕ) → slice_get known.noted.items bound ≡ Some (Some stretch) → length before ≡ bound
      → found_from M tests counts (drop bound counts) before ≡ map (λ list. before ++ drop bound list) (between stretch found)
  repeated bound stretch before at long =
      (are.noted bound stretch at).same before long ∙ ap (λ n. map (λ list. before ++ drop n list) (between stretch found)) long

-- nothing is known at first
pub known_first : (M : Tables) (tests : List Equation) (counts : List ℕ) (found : List (List ℕ)) (known : Known) → length known.borders ≡ length counts → ((bound : ℕ) → slice_get known.borders bound ≡ Some true → IsBorder (length counts) tests bound)
    → ((bound : ℕ) (stretch : Stretch) → slice_get known.noted.items bound ≡ Some (Some stretch) → ⊥) → known.vain ≡ 0 → AreKnown M tests counts found known
known_first M tests counts found known long borders noted vain = record {
  long = long;
  borders = borders;
  noted = λ bound stretch at. absurd (noted bound stretch at);
  vain = λ bound rows less long. absurd (omega (arith, less, vain));
}

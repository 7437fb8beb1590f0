-- Nodes that have the same values under two assignments.
use Rattle.std.proofs.Common.{ℕ, zero, suc, true, List, [], ◌∷◌, ◌++◌, Option, Some, ◌≡◌, ◌<◌, ◌≤◌, ◌+◌, map, length, refl, sym, ap, subst, ◌∙◌, arith}
use Rattle.std.specs.Prelude.{slice_get, slice_index_or}
use Rattle.std.specs.List.{cons_option, filter_map, flat_map, range_with_len}
use Rattle.std.proofs.lemmas.Bool.{and_parts}
use Rattle.cq_theory.specs.declared.constant.Con.{Con}
use Rattle.cq_theory.specs.declared.term.EntTerm.{EntTerm}
use Rattle.cq_theory.specs.declared.term.TypeTerm.{TypeTerm}
use Rattle.cq_theory.specs.declared.term.TypeTerm.TheVariants as term
use Rattle.cq_theory.specs.declared.value.Value.{Value}
use Rattle.cq_theory.specs.EntTerm.{extended}
use Rattle.cq_theory.specs.Listed.{subterms, subterms_step}
use Rattle.cq_theory.specs.Schema.{one_of}
use Rattle.cq_theory.specs.SchemaData.{SchemaData as Schema}
use Rattle.cq_theory.specs.Sorts.{have_types, is_type, type_at, type_of, type_step}
use Rattle.cq_theory.specs.Tables.{Assignment, AtRow, Tables, applied, cell_at, row_from, row_in, row_of, value_of, value_step}
use Rattle.cq_theory.specs.TypeTerm.{substituted, substituted_step}
use Rattle.cq_theory.proofs.Every.{Every}
use Rattle.cq_theory.proofs.Sound.{applied_type_some, is_type_some, row_from-append}
use Rattle.cq_theory.proofs.TypeTerms.{Each, fold-Gen, fold-Const, fold-Att, fold-Fun, on_terms, para-Gen, para-Const, para-Att, para-Fun}

first_of_pairs : (ts : List TypeTerm) → map (λ (arg : TypeTerm × List TypeTerm). arg.0) (map (λ t. (t, subterms t)) ts) ≡ ts
first_of_pairs [] = refl
first_of_pairs (t ∷ ts) = ap (λ l. t ∷ l) (first_of_pairs ts)

second_of_pairs : (ts : List TypeTerm) → flat_map (λ (arg : TypeTerm × List TypeTerm). arg.1) (map (λ t. (t, subterms t)) ts) ≡ flat_map subterms ts
second_of_pairs [] = refl
second_of_pairs (t ∷ ts) = ap (λ l. subterms t ++ l) (second_of_pairs ts)

pub subterms-Gen : (n : ℕ) → subterms (term.Gen n) ≡ term.Gen n ∷ []
subterms-Gen = para-Gen (List TypeTerm) subterms_step

pub subterms-Const : (c : Con) → subterms (term.Const c) ≡ term.Const c ∷ []
subterms-Const = para-Const (List TypeTerm) subterms_step

pub subterms-Att : (a : ℕ) (t : EntTerm) → subterms (term.Att a t) ≡ term.Att a t ∷ []
subterms-Att = para-Att (List TypeTerm) subterms_step

pub subterms-Fun : (f : ℕ) (ts : List TypeTerm) → subterms (term.Fun f ts) ≡ flat_map subterms ts ++ term.Fun f ts ∷ []
subterms-Fun f ts = para-Fun (List TypeTerm) subterms_step f ts ∙ λ i. second_of_pairs ts i ++ term.Fun f (first_of_pairs ts i) ∷ []

module _ (M : Tables) (A B : Assignment) where
  -- the nodes have the same values, one by one
  abbrev pub Alike : List TypeTerm → List TypeTerm → Type 0
  Alike [] [] = Unit {0}
  Alike (t ∷ ts) (u ∷ us) = (value_of M A t ≡ value_of M B u) × Alike ts us
  Alike _ _ = ⊥

  pub alike-append : (ts us vs ws : List TypeTerm) → Alike ts us → Alike vs ws → Alike (ts ++ vs) (us ++ ws)
  alike-append [] [] vs ws one more = more
  alike-append (t ∷ ts) (u ∷ us) vs ws one more = (one.0, alike-append ts us vs ws one.1 more)
  alike-append [] (u ∷ us) vs ws one more = absurd one
  alike-append (t ∷ ts) [] vs ws one more = absurd one

  pub alike-flat_map : {X : Type 0} (f g : X → List TypeTerm) (xs : List X) → ((n : ℕ) (x : X) → slice_get xs n ≡ Some x → Alike (f x) (g x)) → Alike (flat_map f xs) (flat_map g xs)
  alike-flat_map f g [] each = tt
  alike-flat_map f g (x ∷ xs) each = alike-append (f x) (g x) (flat_map f xs) (flat_map g xs) (each 0 x refl) (alike-flat_map f g xs (λ n y at. each (suc n) y at))

  pub alike_every : (P : Value → Type 0) (ts us : List TypeTerm) → Alike ts us → Every (λ t. P (value_of M A t)) ts → Every (λ u. P (value_of M B u)) us
  alike_every P [] [] one each = tt
  alike_every P (t ∷ ts) (u ∷ us) one each = (subst P one.0 each.0, alike_every P ts us one.1 each.1)
  alike_every P [] (u ∷ us) one each = absurd one
  alike_every P (t ∷ ts) [] one each = absurd one

  pub alike_found : {Y : Type 0} (h : Value → Option Y) (ts us : List TypeTerm) → Alike ts us → filter_map (λ t. h (value_of M A t)) ts ≡ filter_map (λ u. h (value_of M B u)) us
  alike_found h [] [] one = refl
  alike_found h (t ∷ ts) (u ∷ us) one = let first = one.0 in let rest = alike_found h ts us one.1 in λ j. cons_option (h (first j)) (rest j)
  alike_found h [] (u ∷ us) one = absurd one
  alike_found h (t ∷ ts) [] one = absurd one

  -- terms that name one row after the other
  abbrev pub NameRows : List EntTerm → ℕ → Type 0
  NameRows [] s = Unit {0}
  NameRows (t ∷ ts) s = (row_of M A t ≡ s) × NameRows ts (s + 1)

  pub over_rows : (f g : EntTerm → List TypeTerm) (h : ℕ → EntTerm) (ts : List EntTerm) (s : ℕ) → NameRows ts s
      → ((t : EntTerm) (row : ℕ) → s ≤ row → row < s + length ts → row_of M A t ≡ row → Alike (f t) (g (h row))) → Alike (flat_map f ts) (flat_map g (map h (range_with_len s (length ts))))
  over_rows f g h [] s names each = tt
  over_rows f g h (t ∷ ts) s names each =
      alike-append (f t) (g (h s)) (flat_map f ts) (flat_map g (map h (range_with_len (s + 1) (length ts)))) (each t s (omega arith) (omega arith) names.0)
      (over_rows f g h ts (s + 1) names.1 (λ u row low high. each u row (omega arith) (omega arith)))

  -- Terms at a row.
  module _ (S : Schema) (e : ℕ) (t u : EntTerm) (same : row_of M A t ≡ row_of M B u) where
    path_same : (path : List ℕ) → row_of M A (extended t path) ≡ row_of M B (extended u path)
    path_same path =
        row_from-append M (row_in (slice_index_or A t.generator (AtRow 0))) t.path path ∙ ap (λ row. row_from M row path) same
        ∙ sym (row_from-append M (row_in (slice_index_or B u.generator (AtRow 0))) u.path path)

    abbrev AreSame : TypeTerm → Type 0
    AreSame x = (type : ℕ) → type_of S (one_of e) x ≡ Some type
        → (value_of M A (substituted t x) ≡ value_of M B (substituted u x)) × Alike (subterms (substituted t x)) (subterms (substituted u x))

    no_variable : (n type : ℕ) → type_at (slice_get (one_of e) n) ≡ Some type → ⊥
    no_variable zero type h = cc
    no_variable (suc n) type h = cc

    alone : (x y : TypeTerm) → subterms x ≡ x ∷ [] → subterms y ≡ y ∷ [] → value_of M A x ≡ value_of M B y → Alike (subterms x) (subterms y)
    alone x y first second value = subst (λ l. Alike l (subterms y)) (sym first) (subst (Alike (x ∷ [])) (sym second) (value, tt))

    moved : (x y v w : TypeTerm) → v ≡ x → w ≡ y → (value_of M A x ≡ value_of M B y) × Alike (subterms x) (subterms y) → (value_of M A v ≡ value_of M B w) × Alike (subterms v) (subterms w)
    moved x y v w is isnt h = subst (λ z. (value_of M A z ≡ value_of M B w) × Alike (subterms z) (subterms w)) (sym is)
        (subst (λ z. (value_of M A x ≡ value_of M B z) × Alike (subterms x) (subterms z)) (sym isnt) h)

    record AreAll (xs : List TypeTerm) : Type 0 where
      values : map (value_of M A) (map (substituted t) xs) ≡ map (value_of M B) (map (substituted u) xs)
      nodes : Alike (flat_map subterms (map (substituted t) xs)) (flat_map subterms (map (substituted u) xs))

    all_same : (xs : List TypeTerm) (types : List ℕ) → Each AreSame xs → have_types (map (type_of S (one_of e)) xs) types ≡ true → AreAll xs
    all_same [] types each typed = record { values = refl; nodes = tt }
    all_same (x ∷ xs) [] each typed = cc
    all_same (x ∷ xs) (type ∷ types) each typed =
        let parts = and_parts (is_type (type_of S (one_of e) x) type) (have_types (map (type_of S (one_of e)) xs) types) typed in
        let one = each.0 type (is_type_some _ _ parts.0) in
        let rest = all_same xs types each.1 parts.1 in
        record {
          values = (λ j. one.0 j ∷ rest.values j);
          nodes = alike-append (subterms (substituted t x)) (subterms (substituted u x)) (flat_map subterms (map (substituted t) xs)) (flat_map subterms (map (substituted u) xs)) one.1 rest.nodes;
        }

    pub at_row : (x : TypeTerm) → AreSame x
    at_row = on_terms AreSame
        (λ n type typed. absurd (no_variable n type (sym (fold-Gen (Option ℕ) (type_step S (one_of e)) n) ∙ typed)))
        (λ c type typed.
        moved (term.Const c) (term.Const c) (substituted t (term.Const c)) (substituted u (term.Const c)) (fold-Const TypeTerm (substituted_step t) c) (fold-Const TypeTerm (substituted_step u) c)
        (let value = fold-Const Value (value_step M A) c ∙ sym (fold-Const Value (value_step M B) c) in (value, alone (term.Const c) (term.Const c) (subterms-Const c) (subterms-Const c) value)))
        (λ a w type typed.
        moved (term.Att a (extended t w.path)) (term.Att a (extended u w.path)) (substituted t (term.Att a w)) (substituted u (term.Att a w)) (fold-Att TypeTerm (substituted_step t) a w)
        (fold-Att TypeTerm (substituted_step u) a w)
        (let value = fold-Att Value (value_step M A) a (extended t w.path) ∙ ap (cell_at M a) (path_same w.path) ∙ sym (fold-Att Value (value_step M B) a (extended u w.path)) in
        (value, alone (term.Att a (extended t w.path)) (term.Att a (extended u w.path)) (subterms-Att a (extended t w.path)) (subterms-Att a (extended u w.path)) value)))
        (λ f xs each type typed.
        let parts = applied_type_some (slice_get S.typeside.functions f) (map (type_of S (one_of e)) xs) type (sym (fold-Fun (Option ℕ) (type_step S (one_of e)) f xs) ∙ typed) in
        let all = all_same xs parts.0.args each parts.2 in
        let left = term.Fun f (map (substituted t) xs) in
        let right = term.Fun f (map (substituted u) xs) in
        let value = fold-Fun Value (value_step M A) f (map (substituted t) xs) ∙ ap (applied M f) all.values ∙ sym (fold-Fun Value (value_step M B) f (map (substituted u) xs)) in
        moved (term.Fun f (map (substituted t) xs)) (term.Fun f (map (substituted u) xs)) (substituted t (term.Fun f xs)) (substituted u (term.Fun f xs)) (fold-Fun TypeTerm (substituted_step t) f xs)
        (fold-Fun TypeTerm (substituted_step u) f xs) (
          value,
          subst (λ l. Alike l (subterms (term.Fun f (map (substituted u) xs)))) (sym (subterms-Fun f (map (substituted t) xs)))
              (subst (Alike (flat_map subterms (map (substituted t) xs) ++ left ∷ [])) (sym (subterms-Fun f (map (substituted u) xs)))
              (alike-append (flat_map subterms (map (substituted t) xs)) (flat_map subterms (map (substituted u) xs)) (left ∷ []) (right ∷ []) all.nodes (value, tt))),
        ))

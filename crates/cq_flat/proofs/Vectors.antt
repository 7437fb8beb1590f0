-- Lists of vectors, seen as lists of lists.
use Rattle.std.proofs.Common.{◌≡◌, ℕ, ◌<◌, ◌≤◌, List, [], ◌∷◌, ◌++◌, length, get_or, sym, ◌∙◌, ap, refl, arith, map, inl, inr}
use Rattle.std.proofs.Math.ListN.{set}
use Rattle.std.proofs.lemmas.Bool.{cases_eq, cases_lt, eq-eqb, ne_eqb}
use Rattle.std.proofs.lemmas.List.{map-set, map-append, get_or-map, length-map, length_push, get_or-set_same, get_or-set_other, get_or_past, get_or_push, get_or_append_left}
use Rattle.std.specs.Prelude.{if◌then◌else◌, ◌==◌}
use Rattle.smallvec.specs.SmallVec.{SmallVec}

abbrev pub Vector : Type 0
Vector = SmallVec ℕ

abbrev pub lists : List Vector → List (List ℕ)
lists vs = map (λ v. v.items) vs

pub lists_at : (vs : List Vector) (i : ℕ) (v : Vector) → i < length (lists vs) → v ≡ get_or vs i v → get_or (lists vs) i [] ≡ v.items
lists_at vs i v h q = get_or-map (λ (x : Vector). x.items) vs i v [] (rw length-map at h) ∙ ap (λ (x : Vector). x.items) (sym q)

-- a list that is written again
pub lists_written : (vs : List Vector) (i : ℕ) (w : Vector) (xs : List ℕ) → w.items ≡ xs → lists (set vs i w) ≡ set (lists vs) i xs
lists_written vs i w xs e = map-set (λ (x : Vector). x.items) vs i w ∙ ap (set (lists vs) i) e

-- a number is put at the end of one list
pub lists_pushed : (vs : List Vector) (old : List (List ℕ)) (i number : ℕ) (v w : Vector) → i < length (lists vs) → v ≡ get_or vs i v → w.items ≡ v.items ++ number ∷ []
    → ((k : ℕ) → get_or (lists vs) k [] ≡ get_or old k [])
    → (k : ℕ) → get_or (lists (set vs i w)) k [] ≡ (if k == i then get_or old i [] ++ number ∷ [] else get_or old k [])
lists_pushed vs old i number v w l is wrote same k =
    let written : lists (set vs i w) ≡ set (lists vs) i w.items = lists_written vs i w w.items refl in
    let here : w.items ≡ get_or old i [] ++ number ∷ [] = wrote ∙ ap (λ xs. xs ++ number ∷ []) (sym (lists_at vs i v l is) ∙ same i) in
    elim (cases_eq k i) as (λ _. get_or (lists (set vs i w)) k [] ≡ (if k == i then get_or old i [] ++ number ∷ [] else get_or old k [])) [
      | inl e ↦ rw (written, e, eq-eqb i i refl) (get_or-set_same (lists vs) i w.items [] l ∙ here)
      | inr n ↦ rw (written, ne_eqb k i n) (get_or-set_other (lists vs) i k w.items [] n ∙ same k)
    ]

-- one more list that is empty
pub lists_more : (vs : List Vector) (w : Vector) → w.items ≡ [] → (k : ℕ) → get_or (lists (vs ++ w ∷ [])) k [] ≡ get_or (lists vs) k []
lists_more vs w e k = ap (λ xs. get_or xs k []) (map-append (λ (x : Vector). x.items) vs (w ∷ []) ∙ ap (λ xs. lists vs ++ xs ∷ []) e) ∙ by where
  by : get_or (lists vs ++ [] ∷ []) k [] ≡ get_or (lists vs) k []
  by = elim (cases_lt k (length (lists vs))) as (λ _. get_or (lists vs ++ [] ∷ []) k [] ≡ get_or (lists vs) k []) [
    | inl l ↦ get_or_append_left (lists vs) ([] ∷ []) [] k l
    | inr g ↦ last g
  ] where
    last : length (lists vs) ≤ k → get_or (lists vs ++ [] ∷ []) k [] ≡ get_or (lists vs) k []
    last g = elim (cases_eq (length (lists vs)) k) as (λ _. get_or (lists vs ++ [] ∷ []) k [] ≡ get_or (lists vs) k []) [
      | inl e ↦ get_or_push (lists vs) [] [] k e ∙ sym (get_or_past (lists vs) k [] g)
      | inr n ↦ get_or_past (lists vs ++ [] ∷ []) k [] (omega (arith, g, n, length_push (lists vs) [])) ∙ sym (get_or_past (lists vs) k [] g)
    ]

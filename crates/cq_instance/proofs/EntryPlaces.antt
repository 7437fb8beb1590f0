-- The entry for a function at arguments is the first of those with its number.
use Rattle.std.proofs.Common.{ℕ, suc, Bool, true, false, cond, List, [], ◌∷◌, Option, Some, None, ◌≡◌, ◌<◌, ◌+◌, ◌%◌, ◌==◌, map, length, refl, sym, ap, ◌∙◌, arith, eq-eqb}
use Rattle.std.specs.Prelude.{slice_get, slice_index_or, find, All}
use Rattle.std.proofs.lemmas.List.FromFn.{get_or-map-range_with_len, length-map-range_with_len}
use Rattle.cq_base.specs.declared.hashing.Hashing.{Hashing}
use Rattle.cq_theory.specs.declared.value.Value.{Value}
use Rattle.cq_theory.specs.declared.value.Entry.{Entry}
use Rattle.cq_theory.specs.Canonical.{below}
use Rattle.cq_theory.specs.Resolve.{or_else}
use Rattle.cq_theory.specs.Tables.{is_for}
use Rattle.cq_theory.proofs.Faults.{made_of}
use Rattle.cq_theory.proofs.OnValues.{entry_for}
use Rattle.cq_theory.specs.Groups.{positions, positions_from}
use Rattle.cq_instance.specs.Digests.{digest_of_application}
use Rattle.cq_instance.specs.EntryLists.{AreEntryLists, entry_number, passing, first_among, list_for}
use Rattle.cq_instance.proofs.Lists.{All_from}

module _ (test : Entry → Bool) (number : Entry → ℕ) (k : ℕ) (numbered : (e : Entry) → test e ≡ true → number e ≡ k) (entries : List Entry) where
  one : (s : ℕ) (e : Entry) (o : Option Entry) (ns : List ℕ) (b c : Bool) → slice_get entries s ≡ Some e → (number e == k) ≡ b → test e ≡ c → o ≡ first_among test entries ns
      → cond c (Some e) o ≡ first_among test entries (cond b (s ∷ ns) ns)
  one s e o ns true true at num passes rest = sym (ap (λ x. or_else (passing test x) (first_among test entries ns)) at ∙ ap (λ c. or_else (cond c (Some e) None) (first_among test entries ns)) passes)
  one s e o ns true false at num fails rest = rest ∙ sym (ap (λ x. or_else (passing test x) (first_among test entries ns)) at ∙ ap (λ c. or_else (cond c (Some e) None) (first_among test entries ns)) fails)
  one s e o ns false true at num passes rest = let both : false ≡ true = sym num ∙ eq-eqb (number e) k (numbered e passes) in cc
  one s e o ns false false at num fails rest = rest

  from : (s : ℕ) (rest : List Entry) → ((n : ℕ) → slice_get rest n ≡ slice_get entries (s + n)) → find test rest ≡ first_among test entries (positions_from s (map number rest) k)
  from s [] same = refl
  from s (e ∷ rest) same =
      let start : s + 0 ≡ s = omega arith in
      one s e (find test rest) (positions_from (s + 1) (map number rest) k) (number e == k) (test e) (sym (same 0 ∙ ap (slice_get entries) start)) refl refl
      (from (s + 1) rest (λ n. let next : s + suc n ≡ s + 1 + n = omega arith in same (suc n) ∙ ap (slice_get entries) next))

  pub found_among : find test entries ≡ first_among test entries (positions (map number entries) k)
  found_among = from 0 entries (λ n. let start : n ≡ 0 + n = omega arith in ap (slice_get entries) start)

-- the lists find what a walk over all entries finds
pub found_by_lists : (h : Hashing) (entries : List Entry) (lists : List (List ℕ)) (f : ℕ) (args : List Value) → AreEntryLists h entries lists → 0 < length lists
    → first_among (is_for f args) entries (list_for h lists f args) ≡ find (is_for f args) entries
found_by_lists h entries lists f args are some =
    let count : ℕ = length lists in
    let place : ℕ = digest_of_application h f args % count in
    let inside : place < count = omega (arith, some) in
    let start : 0 + place ≡ place = omega arith in
    let list : list_for h lists f args ≡ positions (map (entry_number h count) entries) place =
    ap (λ (l : List (List ℕ)). slice_index_or l place []) are ∙ get_or-map-range_with_len (positions (map (entry_number h count) entries)) 0 count place place [] inside start in
    ap (first_among (is_for f args) entries) list
    ∙ sym (found_among (is_for f args) (entry_number h count) place (λ e passes. let same = entry_for f args e passes in λ i. digest_of_application h (same.0 i) (sym same.1 i) % count) entries)

pub entry_numbers_within : (h : Hashing) (count : ℕ) (entries : List Entry) (numbers : List ℕ) → 0 < count → numbers ≡ map (entry_number h count) entries → All (λ n. n < count) numbers
entry_numbers_within h count entries numbers some are = All_from (λ n. n < count) numbers (λ k n at.
    let entry = made_of (entry_number h count) entries k n (ap (λ l. slice_get l k) (sym are) ∙ at) in
    omega (arith, some, entry.2))

-- lists for as many numbers as there are entries
pub are_entry_lists : (h : Hashing) (entries : List Entry) (numbers : List ℕ) (lists : List (List ℕ)) → numbers ≡ map (entry_number h (length entries)) entries → lists ≡ map (positions numbers) (below (length entries)) → AreEntryLists h entries lists
are_entry_lists h entries numbers lists are made =
    let many : length lists ≡ length entries = ap length made ∙ length-map-range_with_len (positions numbers) 0 (length entries) in
    made ∙ (λ i. map (positions (are i)) (below (length entries))) ∙ ap (λ k. map (positions (map (entry_number h k) entries)) (below k)) (sym many)

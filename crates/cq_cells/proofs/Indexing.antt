-- Tables of ids to which one more id is added.
use Rattle.std.proofs.Common.{ℕ, suc, Bool, true, false, List, [], ◌∷◌, ◌++◌, ◌≡◌, ◌⊎◌, inl, inr, Option, Some, None, Result, Ok, Err, cond, length, refl, sym, ap, subst, ◌∙◌}
use Rattle.std.specs.Prelude.{IfOk, OnOk, is_some, option_map, position}
use Rattle.std.specs.Cmp.Lexicographic.{bytes_decides}
use Rattle.std.specs.Map.{lookup}
use Rattle.std.proofs.lemmas.Bool.{cases_Bool}
use Rattle.cq_base.specs.Names.{number_of, same_name}
use Rattle.cq_base.proofs.Numbers.{position-cons}
use Rattle.cq_cells.specs.Index.{IsIndexOf}

or_last : Option ℕ → Bool → ℕ → Option ℕ
or_last (Some n) here count = Some n
or_last None here count = cond here (Some count) None

moved : (b : Bool) (o : Option ℕ) (here : Bool) (count : ℕ) → cond b (Some 0) (option_map suc (or_last o here count)) ≡ or_last (cond b (Some 0) (option_map suc o)) here (suc count)
unfolding or_last
moved true o here count = refl
moved false (Some n) here count = refl
moved false None true count = refl
moved false None false count = refl

alone : (b : Bool) → cond b (Some 0) (option_map suc None) ≡ or_last None b 0
unfolding or_last
alone true = refl
alone false = refl

-- the number of an id among ids with one more
position_more : (p : List ℕ → Bool) (ids : List (List ℕ)) (id : List ℕ) → position p (ids ++ id ∷ []) ≡ or_last (position p ids) (p id) (length ids)
position_more p [] id = position-cons p id [] ∙ alone (p id)
position_more p (x ∷ ids) id =
    position-cons p x (ids ++ id ∷ [])
    ∙ ap (λ o. cond (p x) (Some 0) (option_map suc o)) (position_more p ids id)
    ∙ moved (p x) (position p ids) (p id) (length ids)
    ∙ ap (λ o. or_last o (p id) (suc (length ids))) (sym (position-cons p x ids))

same_itself : (a : List ℕ) → same_name a a ≡ true
same_itself a = (bytes_decides a a).1 refl

same_is : (a b : List ℕ) → same_name a b ≡ true → a ≡ b
same_is a b same = (bytes_decides a b).0 same

found_or_not : (o : Option ℕ) → (o ≡ None) ⊎ ((n : ℕ) × (o ≡ Some n))
found_or_not None = inl refl
found_or_not (Some n) = inr (n, refl)

last_none : (o : Option ℕ) (here : Bool) (count : ℕ) → here ≡ false → or_last o here count ≡ o
unfolding or_last
last_none (Some n) here count other = refl
last_none None here count other = ap (λ b. cond b (Some count) None) other

last_some : (o : Option ℕ) (here : Bool) (count n : ℕ) → o ≡ Some n → or_last o here count ≡ o
unfolding or_last
last_some (Some m) here count n is = refl
last_some None here count n is = cc is

last_here : (o : Option ℕ) (here : Bool) (count : ℕ) → o ≡ None → here ≡ true → or_last o here count ≡ Some count
unfolding or_last
last_here None here count is same = ap (λ b. cond b (Some count) None) same
last_here (Some n) here count is same = cc is

-- an id that stands already
pub index_kept : (ids : List (List ℕ)) (id : List ℕ) (old new : List (List ℕ × ℕ)) → IsIndexOf ids old → is_some (lookup (same_name id) old) ≡ true → new ≡ old → IsIndexOf (ids ++ id ∷ []) new
index_kept ids id old new index known kept = record {
  finds = λ other.
      let place = number_of ids other in
      let more = position_more (same_name other) ids id in
      ap (lookup (same_name other)) kept ∙ index.finds other
      ∙ sym (more ∙ elim (cases_Bool (same_name other id)) as (λ _. or_last place (same_name other id) (length ids) ≡ place) [
        | inl same ↦ elim (found_or_not place) as (λ _. or_last place (same_name other id) (length ids) ≡ place) [
          | inl none ↦ absurd (cc (sym known ∙ ap is_some (ap (λ x. lookup (same_name x) old) (sym (same_is other id same)) ∙ index.finds other ∙ none)))
          | inr some ↦ last_some place (same_name other id) (length ids) some.0 some.1
        ]
        | inr differs ↦ last_none place (same_name other id) (length ids) differs
      ]);
}

-- a new id
pub index_noted : (ids : List (List ℕ)) (id : List ℕ) (number : ℕ) (old new : List (List ℕ × ℕ)) → IsIndexOf ids old → lookup (same_name id) old ≡ None → length ids ≡ number
    → ((other : List ℕ) → lookup (same_name other) new ≡ cond (same_name id other) (Some number) (lookup (same_name other) old)) → IsIndexOf (ids ++ id ∷ []) new
index_noted ids id number old new index absent many noted = record {
  finds = λ other.
      let place = number_of ids other in
      noted other ∙ sym (position_more (same_name other) ids id ∙ elim (cases_Bool (same_name other id)) as (λ _. or_last place (same_name other id) (length ids) ≡ cond (same_name id other) (Some number) (lookup (same_name other) old)) [
        | inl same ↦
            let is = same_is other id same in
            let none : place ≡ None = sym (index.finds other) ∙ ap (λ x. lookup (same_name x) old) is ∙ absent in
            last_here place (same_name other id) (length ids) none same ∙ ap Some many
            ∙ sym (ap (λ b. cond b (Some number) (lookup (same_name other) old)) (ap (λ x. same_name x other) (sym is) ∙ same_itself other))
        | inr differs ↦
            last_none place (same_name other id) (length ids) differs ∙ sym (index.finds other)
            ∙ sym (ap (λ b. cond b (Some number) (lookup (same_name other) old)) (unlike id other (λ is. cc (sym differs ∙ ap (λ x. same_name x id) (sym is) ∙ same_itself id))))
      ]);
}
  where
    unlike : (a b : List ℕ) → (a ≡ b → ⊥) → same_name a b ≡ false
    unlike a b never = elim (cases_Bool (same_name a b)) [
      | inl same ↦ absurd (never (same_is a b same))
      | inr other ↦ other
    ]

pub index_empty : (places : List (List ℕ × ℕ)) → places ≡ [] → IsIndexOf [] places
index_empty places none = record { finds = λ id. ap (lookup (same_name id)) none }

-- what a table tells is the number, whether it was there or not
pub index_more : (ids : List (List ℕ)) (id : List ℕ) (number : ℕ) (old new : List (List ℕ × ℕ)) (before : Option ℕ) → IsIndexOf ids old → length ids ≡ number → before ≡ lookup (same_name id) old
    → (is_some before ≡ true → new ≡ old)
    → (before ≡ None → (other : List ℕ) → lookup (same_name other) new ≡ cond (same_name id other) (Some number) (lookup (same_name other) old)) → IsIndexOf (ids ++ id ∷ []) new
index_more ids id number old new before index many is kept noted = elim (found_or_not before) [
  | inl none ↦ index_noted ids id number old new index (sym is ∙ none) many (noted none)
  | inr some ↦ index_kept ids id old new index (ap is_some (sym is) ∙ ap is_some some.1) (kept (ap is_some some.1))
]

-- the same of a note that may want memory
pub index_on_ok : {E : Type 0} (result : Result (Option ℕ) E) (ids : List (List ℕ)) (id same : List ℕ) (number : ℕ) (old new : List (List ℕ × ℕ)) → IsIndexOf ids old → length ids ≡ number → same ≡ id
    → IfOk result (λ before. before ≡ lookup (same_name same) old)
    → IfOk result (λ before. is_some before ≡ true → new ≡ old)
    → IfOk result (λ before. before ≡ None → (other : List ℕ) → lookup (same_name other) new ≡ cond (same_name same other) (Some number) (lookup (same_name other) old))
    → OnOk result (IsIndexOf (ids ++ id ∷ []) new)
index_on_ok (Ok before) ids id same number old new index many is known kept noted =
    subst (λ i. IsIndexOf (ids ++ i ∷ []) new) is (index_more ids same number old new before index many known kept noted)
index_on_ok (Err e) ids id same number old new index many is known kept noted = tt

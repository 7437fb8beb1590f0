-- The numbers of keys among those of their entities, as they are counted.
use Rattle.std.proofs.Common.{◌≡◌, ℕ, ◌+◌, ◌<◌, Bool, true, false, List, [], ◌∷◌, ◌++◌, length, get_or, Some, None, IsSome, All, replicate, cond, eqb, refl, sym, ◌∙◌, ap, arith, inl, inr, length-append}
use Rattle.std.proofs.Math.ListN.{set}
use Rattle.std.proofs.lemmas.Bool.{cases_lt, cases_eq, eq-eqb, ne_eqb, eqb-true}
use Rattle.std.proofs.lemmas.List.{append-nil, get_or_push, get_or_append_left, get_or-replicate, length-replicate, length-set, get_or-set_same, get_or-set_other}
use Rattle.std.proofs.lemmas.List.Elements.{All-get_or}
use Rattle.std.proofs.lemmas.Option.{slice_get-get_or}
use Rattle.std.specs.Option.{is_some}
use Rattle.cq_tables.specs.Content.{step_of}
use Rattle.cq_tables.specs.Places.{rank_of, keys_below, keys_from}
use Rattle.cq_tables.proofs.Placing.{goes_below}
use Rattle.cq_tables.proofs.Starting.{keys_below_suc, keys_below_none, length-keys_below}

-- what is counted after the first n keys
pub record IsCounted (keys : List (ℕ × ℕ)) (entities : ℕ) (slots : List ℕ) (lists : List (List ℕ)) (n : ℕ) : Type 0 where
  pub one_slot : length slots ≡ n
  pub one_list : length lists ≡ entities
  pub slot : (e k : ℕ) → k < n → IsSome (step_of keys e k) → get_or slots k 0 ≡ rank_of keys e k
  pub list : (e : ℕ) → e < entities → get_or lists e [] ≡ keys_below keys e n

tested : (b : Bool) (d : ℕ) → is_some (cond b (Some d) None) ≡ b
tested true d = refl
tested false d = refl

-- whether a key goes from an entity
goes_from : (keys : List (ℕ × ℕ)) (e n : ℕ) → n < length keys → is_some (step_of keys e n) ≡ eqb (get_or keys n (0, 0)).0 e
unfolding step_of
goes_from keys e n h = rw (slice_get-get_or keys n (0, 0) h) (tested (eqb (get_or keys n (0, 0)).0 e) (get_or keys n (0, 0)).1)

pub IsCounted-start : (keys : List (ℕ × ℕ)) (entities : ℕ) (slots : List ℕ) (lists : List (List ℕ)) → slots ≡ [] → lists ≡ replicate entities [] → IsCounted keys entities slots lists 0
IsCounted-start keys entities slots lists p q = rw (p, q) (record {
  one_slot = refl;
  one_list = length-replicate entities [];
  slot = λ e k h. absurd (omega arith);
  list = λ e h. get_or-replicate entities e [] [] h ∙ sym (keys_below_none keys e);
})

pub IsCounted-more : (keys : List (ℕ × ℕ)) (entities : ℕ) (slots : List ℕ) (lists : List (List ℕ)) (n : ℕ) → IsCounted keys entities slots lists n → n < length keys → (list : List ℕ) → (get_or keys n (0, 0)).0 < entities
    → list ≡ get_or lists (get_or keys n (0, 0)).0 [] → IsCounted keys entities (slots ++ length list ∷ []) (set lists (get_or keys n (0, 0)).0 (list ++ n ∷ [])) (n + 1)
IsCounted-more keys entities slots lists n counted h list below is = record {
  one_slot = omega (arith, length-append slots (length list ∷ []), counted.one_slot);
  one_list = length-set lists (get_or keys n (0, 0)).0 (list ++ n ∷ []) ∙ counted.one_list;
  slot = λ e k l goes. elim (cases_lt k n) as (λ _. get_or (slots ++ length list ∷ []) k 0 ≡ rank_of keys e k) [
    | inl less ↦ get_or_append_left slots (length list ∷ []) 0 k (omega (arith, counted.one_slot)) ∙ counted.slot e k less goes
    | inr g ↦
        let last : k ≡ n = omega arith in
        get_or_push slots (length list) 0 k (counted.one_slot ∙ sym last) ∙ ap length here ∙ length-keys_below keys (get_or keys n (0, 0)).0 n
        ∙ ap (λ x. rank_of keys x n) (eqb-true (get_or keys n (0, 0)).0 e (sym (goes_from keys e n h) ∙ (rw last at goes))) ∙ ap (rank_of keys e) (sym last)
  ];
  list = λ e l. elim (cases_eq e (get_or keys n (0, 0)).0) as (λ _. get_or (set lists (get_or keys n (0, 0)).0 (list ++ n ∷ [])) e [] ≡ keys_below keys e (n + 1)) [
    | inl same ↦ rw (keys_below_suc keys e n, goes_from keys e n h, eq-eqb (get_or keys n (0, 0)).0 e (sym same), same)
        (get_or-set_same lists (get_or keys n (0, 0)).0 (list ++ n ∷ []) [] (omega (arith, counted.one_list)) ∙ ap (λ x. x ++ n ∷ []) here)
    | inr other ↦ rw (keys_below_suc keys e n, goes_from keys e n h, ne_eqb (get_or keys n (0, 0)).0 e (λ q. other (sym q)))
        (get_or-set_other lists (get_or keys n (0, 0)).0 e (list ++ n ∷ []) [] other ∙ counted.list e l ∙ sym (append-nil (keys_below keys e n)))
  ];
}
  where
    here : list ≡ keys_below keys (get_or keys n (0, 0)).0 n
    here = is ∙ counted.list (get_or keys n (0, 0)).0 below

pub key_in : (keys : List (ℕ × ℕ)) (entities n : ℕ) → All (λ (k : ℕ × ℕ). (k.0 < entities) × (k.1 < entities)) keys → n < length keys → (get_or keys n (0, 0)).0 < entities
key_in keys entities n all h = (All-get_or (λ (k : ℕ × ℕ). (k.0 < entities) × (k.1 < entities)) keys n (0, 0) h all).0

-- all keys are counted
pub slots_counted : (keys last : List (ℕ × ℕ)) (entities : ℕ) (slots : List ℕ) (lists : List (List ℕ)) → last ≡ keys → IsCounted keys entities slots lists (length keys)
    → (e k : ℕ) → IsSome (step_of last e k) → get_or slots k 0 ≡ rank_of last e k
slots_counted keys last entities slots lists same counted = rw same (λ e k goes. counted.slot e k (goes_below keys e k goes) goes)

pub lists_counted : (keys last : List (ℕ × ℕ)) (entities : ℕ) (slots : List ℕ) (lists : List (List ℕ)) → last ≡ keys → IsCounted keys entities slots lists (length keys)
    → (e : ℕ) → e < entities → get_or lists e [] ≡ keys_from last e
unfolding keys_from
lists_counted keys last entities slots lists same counted = rw same (λ e h. counted.list e h)

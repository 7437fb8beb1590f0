-- The lists of places stay the inverse of the cells.
use Rattle.std.proofs.Common.{◌≡◌, ◌≢◌, ℕ, ◌+◌, ◌-◌, ◌<◌, List, [], ◌∷◌, ◌++◌, length, get_or, Option, Some, None, replicate, refl, sym, ◌∙◌, ap, arith, ⊎_elim, inl, inr, length-append}
use Rattle.std.proofs.Math.ListN.{set}
use Rattle.std.proofs.lemmas.Bool.{cases_lt, cases_eq}
use Rattle.std.proofs.lemmas.List.{length-set, get_or-set_same, get_or-set_other, get_or_past, get_or_append_left, get_or_push, get_or-append_right, get_or-replicate, length-replicate}
use Rattle.std.proofs.lemmas.Option.{none-some, same_Some}
use Rattle.cq_tables.specs.Inverse.{IsInverse, IsListed, IsMention, CountsPlaces}

pub some_below : (cells : List (Option ℕ)) (i s : ℕ) → get_or cells i None ≡ Some s → i < length cells
some_below cells i s h = ⊎_elim (λ l. l) (λ g. absurd (none-some s (sym (get_or_past cells i None g) ∙ h))) (cases_lt i (length cells))

pub list_below : (lists : List (List ℕ)) (s p : ℕ) → p < length (get_or lists s []) → s < length lists
list_below lists s p h = ⊎_elim (λ l. l) (λ g. absurd (omega (arith, rw (get_or_past lists s [] g) at h))) (cases_lt s (length lists))

module _ (cells : List (Option ℕ)) (spots : List ℕ) (lists : List (List ℕ)) (v : IsInverse cells spots lists) where
  -- a cell is filled
  module _ (i s : ℕ) (within : i < length cells) (empty : get_or cells i None ≡ None) (row : s < length lists) where
    abbrev more : List ℕ
    more = get_or lists s [] ++ i ∷ []

    same_cell : get_or (set cells i (Some s)) i None ≡ Some s
    same_cell = get_or-set_same cells i (Some s) None within

    same_spot : get_or (set spots i (length (get_or lists s []))) i 0 ≡ length (get_or lists s [])
    same_spot = get_or-set_same spots i (length (get_or lists s [])) 0 (omega (arith, v.count))

    same_list : get_or (set lists s more) s [] ≡ more
    same_list = get_or-set_same lists s more [] row

    other_cell : (k : ℕ) → k ≢ i → get_or (set cells i (Some s)) k None ≡ get_or cells k None
    other_cell k n = get_or-set_other cells i k (Some s) None n

    other_spot : (k : ℕ) → k ≢ i → get_or (set spots i (length (get_or lists s []))) k 0 ≡ get_or spots k 0
    other_spot k n = get_or-set_other spots i k (length (get_or lists s [])) 0 n

    other_list : (t : ℕ) → t ≢ s → get_or (set lists s more) t [] ≡ get_or lists t []
    other_list t n = get_or-set_other lists s t more [] n

    listed_here : (k t : ℕ) → k ≡ i → get_or (set cells i (Some s)) k None ≡ Some t → IsListed (set lists s more) (set spots i (length (get_or lists s []))) k t
    listed_here k t e h =
        let q : s ≡ t = same_Some s t (sym same_cell ∙ (rw e at h)) in
        rw (e, ← q) (record {
          below = rw (same_spot, same_list, length-append (get_or lists s []) (i ∷ [])) (omega arith);
          place = rw (same_spot, same_list) (get_or_push (get_or lists s []) i 0 (length (get_or lists s [])) refl);
        })

    longer : (t p : ℕ) → p < length (get_or lists t []) → (p < length (get_or (set lists s more) t [])) × (get_or (get_or (set lists s more) t []) p 0 ≡ get_or (get_or lists t []) p 0)
    longer t p h = elim (cases_eq t s) as (λ _. (p < length (get_or (set lists s more) t [])) × (get_or (get_or (set lists s more) t []) p 0 ≡ get_or (get_or lists t []) p 0)) [
      | inl e ↦ rw (e, same_list) (rw (length-append (get_or lists s []) (i ∷ [])) (omega (arith, rw e at h)), get_or_append_left (get_or lists s []) (i ∷ []) 0 p (rw e at h))
      | inr n ↦ rw (other_list t n) (h, refl)
    ]

    listed_other : (k t : ℕ) → k ≢ i → get_or (set cells i (Some s)) k None ≡ Some t → IsListed (set lists s more) (set spots i (length (get_or lists s []))) k t
    listed_other k t n h =
        let o = v.listed k t (sym (other_cell k n) ∙ h) in
        let l = longer t (get_or spots k 0) o.below in
        record { below = rw (other_spot k n) l.0; place = rw (other_spot k n) (l.1 ∙ o.place) }

    kept_mention : (t p k : ℕ) → IsMention cells spots t p k → IsMention (set cells i (Some s)) (set spots i (length (get_or lists s []))) t p k
    kept_mention t p k o =
        let n : k ≢ i = λ e. none-some t (sym empty ∙ (rw e at o.cell)) in
        record { cell = other_cell k n ∙ o.cell; spot = other_spot k n ∙ o.spot }

    mention_row : (p : ℕ) → p < length more → IsMention (set cells i (Some s)) (set spots i (length (get_or lists s []))) s p (get_or more p 0)
    mention_row p h = elim (cases_lt p (length (get_or lists s []))) as (λ _. IsMention (set cells i (Some s)) (set spots i (length (get_or lists s []))) s p (get_or more p 0)) [
      | inl l ↦ rw (get_or_append_left (get_or lists s []) (i ∷ []) 0 p l) (kept_mention s p (get_or (get_or lists s []) p 0) (v.mention s p l))
      | inr g ↦
          let e : p ≡ length (get_or lists s []) = omega (arith, h, length-append (get_or lists s []) (i ∷ [])) in
          rw (get_or_push (get_or lists s []) i 0 p (sym e)) (record { cell = same_cell; spot = same_spot ∙ sym e })
    ]

    pub IsInverse-point : IsInverse (set cells i (Some s)) (set spots i (length (get_or lists s []))) (set lists s more)
    IsInverse-point = record {
      count = length-set spots i (length (get_or lists s [])) ∙ v.count ∙ sym (length-set cells i (Some s));
      listed = λ k t h. ⊎_elim (λ e. listed_here k t e h) (λ n. listed_other k t n h) (cases_eq k i);
      mention = λ t p h. elim (cases_eq t s) as (λ _. IsMention (set cells i (Some s)) (set spots i (length (get_or lists s []))) t p (get_or (get_or (set lists s more) t []) p 0)) [
        | inl e ↦ rw (e, same_list) (mention_row p (rw (e, same_list) at h))
        | inr n ↦ rw (other_list t n) (kept_mention t p (get_or (get_or lists t []) p 0) (v.mention t p (rw (other_list t n) at h)))
      ];
    }

  -- a cell is emptied: the last place of the list takes its spot
  module _ (i s : ℕ) (holds : get_or cells i None ≡ Some s) (list : List ℕ) (len : length list + 1 ≡ length (get_or lists s []))
      (moved : get_or spots i 0 + 1 < length (get_or lists s []) → get_or list (get_or spots i 0) 0 ≡ get_or (get_or lists s []) (length (get_or lists s []) - 1) 0)
      (others : (k : ℕ) → k ≢ get_or spots i 0 → k + 1 < length (get_or lists s []) → get_or list k 0 ≡ get_or (get_or lists s []) k 0) where
    abbrev here : ℕ
    here = get_or spots i 0

    abbrev old : List ℕ
    old = get_or lists s []

    abbrev last : ℕ
    last = get_or old (length old - 1) 0

    here_in : here < length old
    here_in = (v.listed i s holds).below

    last_mention : IsMention cells spots s (length old - 1) last
    last_mention = v.mention s (length old - 1) (omega (arith, here_in))

    pub last_in : last < length spots
    last_in = omega (arith, some_below cells last s last_mention.cell, v.count)

    abbrev cells' : List (Option ℕ)
    cells' = set cells i None

    abbrev spots' : List ℕ
    spots' = set spots last here

    abbrev lists' : List (List ℕ)
    lists' = set lists s list

    same_list' : get_or lists' s [] ≡ list
    same_list' = get_or-set_same lists s list [] (list_below lists s here here_in)

    other_list' : (t : ℕ) → t ≢ s → get_or lists' t [] ≡ get_or lists t []
    other_list' t n = get_or-set_other lists s t list [] n

    gone : get_or cells' i None ≡ None
    gone = get_or-set_same cells i None None (some_below cells i s holds)

    other_cell' : (k : ℕ) → k ≢ i → get_or cells' k None ≡ get_or cells k None
    other_cell' k n = get_or-set_other cells i k None None n

    spot_last : get_or spots' last 0 ≡ here
    spot_last = get_or-set_same spots last here 0 last_in

    spot_other : (k : ℕ) → k ≢ last → get_or spots' k 0 ≡ get_or spots k 0
    spot_other k n = get_or-set_other spots last k here 0 n

    -- a cell that holds this row, and is not the one that is emptied
    listed_row : (k : ℕ) → k ≢ i → get_or cells k None ≡ Some s → IsListed lists' spots' k s
    listed_row k n h =
        let o = v.listed k s h in
        let apart : get_or spots k 0 ≢ here = λ e. n (sym o.place ∙ ap (λ x. get_or old x 0) e ∙ (v.listed i s holds).place) in
        elim (cases_eq k last) as (λ _. IsListed lists' spots' k s) [
          | inl e ↦
              let q : get_or spots k 0 ≡ length old - 1 = ap (λ x. get_or spots x 0) e ∙ last_mention.spot in
              let b : here + 1 < length old = omega (arith, here_in, o.below) in
              record {
                below = rw (e, spot_last, same_list') (omega (arith, len, b));
                place = rw (e, spot_last, same_list') (moved b);
              }
          | inr ne ↦
              let q : get_or spots k 0 ≢ length old - 1 = λ e. ne (sym o.place ∙ ap (λ x. get_or old x 0) e) in
              let b : get_or spots k 0 + 1 < length old = omega (arith, o.below) in
              record {
                below = rw (spot_other k ne, same_list') (omega (arith, len, b));
                place = rw (spot_other k ne, same_list') (others (get_or spots k 0) apart b ∙ o.place);
              }
        ]

    not_last : (k t : ℕ) → t ≢ s → get_or cells k None ≡ Some t → k ≢ last
    not_last k t n h e = n (same_Some t s (sym h ∙ ap (λ x. get_or cells x None) e ∙ last_mention.cell))

    listed_other' : (k t : ℕ) → t ≢ s → get_or cells k None ≡ Some t → IsListed lists' spots' k t
    listed_other' k t n h =
        let o = v.listed k t h in
        at_old o
      where
        at_old : IsListed lists spots k t → IsListed lists' spots' k t
        at_old o = record { below = rw (spot_other k (not_last k t n h), other_list' t n) o.below; place = rw (spot_other k (not_last k t n h), other_list' t n) o.place }

    kept_mention' : (t p k : ℕ) → k ≢ i → k ≢ last → IsMention cells spots t p k → IsMention cells' spots' t p k
    kept_mention' t p k ni nl o = record { cell = other_cell' k ni ∙ o.cell; spot = spot_other k nl ∙ o.spot }

    mention_row' : (p : ℕ) → p < length list → IsMention cells' spots' s p (get_or list p 0)
    mention_row' p h = elim (cases_eq p here) as (λ _. IsMention cells' spots' s p (get_or list p 0)) [
      | inl e ↦
          let b : here + 1 < length old = omega (arith, len, e) in
          let ni : last ≢ i = λ q. omega (arith, last_mention.spot, ap (λ x. get_or spots x 0) q, b) in
          rw (e, moved b) (record { cell = other_cell' last ni ∙ last_mention.cell; spot = spot_last })
      | inr n ↦
          let b : p + 1 < length old = omega (arith, len) in
          let o = v.mention s p (omega (arith, b)) in
          let x = get_or old p 0 in
          let ni : x ≢ i = λ q. n (sym o.spot ∙ ap (λ z. get_or spots z 0) q) in
          let nl : x ≢ last = λ q. omega (arith, o.spot, ap (λ z. get_or spots z 0) q, last_mention.spot, b) in
          rw (others p n b) (kept_mention' s p x ni nl o)
    ]

    pub IsInverse-unpoint : IsInverse cells' spots' lists'
    IsInverse-unpoint = record {
      count = length-set spots last here ∙ v.count ∙ sym (length-set cells i None);
      listed = λ k t h. elim (cases_eq k i) as (λ _. IsListed lists' spots' k t) [
        | inl e ↦ absurd (none-some t (sym gone ∙ (rw e at h)))
        | inr n ↦ elim (cases_eq t s) as (λ _. IsListed lists' spots' k t) [
          | inl e ↦ rw e (listed_row k n (sym (other_cell' k n) ∙ (rw e at h)))
          | inr ne ↦ listed_other' k t ne (sym (other_cell' k n) ∙ h)
        ]
      ];
      mention = λ t p h. elim (cases_eq t s) as (λ _. IsMention cells' spots' t p (get_or (get_or lists' t []) p 0)) [
        | inl e ↦ rw (e, same_list') (mention_row' p (rw (e, same_list') at h))
        | inr n ↦
            let o = v.mention t p (rw (other_list' t n) at h) in
            let x = get_or (get_or lists t []) p 0 in
            rw (other_list' t n) (kept_mention' t p x
            (λ q. n (same_Some t s (sym o.cell ∙ ap (λ z. get_or cells z None) q ∙ holds)))
            (not_last x t n o.cell) o)
      ];
    }

  -- cells that are empty are added, and a row
  module _ (n : ℕ) where
    added_some : (k t : ℕ) → get_or (cells ++ replicate n None) k None ≡ Some t → (k < length cells) × (get_or cells k None ≡ Some t)
    added_some k t h = ⊎_elim
        (λ l. (l, sym (get_or_append_left cells (replicate n None) None k l) ∙ h))
        (λ g. absurd (none-some t (sym (get_or-append_right cells (replicate n None) (length cells) k None refl g ∙ empty_at (k - length cells)) ∙ h)))
        (cases_lt k (length cells))
      where
        empty_at : (i : ℕ) → get_or (replicate {A = Option ℕ} n None) i None ≡ None
        empty_at i = ⊎_elim (λ l. get_or-replicate n i None None l) (λ g. get_or_past (replicate n None) i None (omega (arith, length-replicate {A = Option ℕ} n None))) (cases_lt i n)

    added_list : (t : ℕ) → get_or (lists ++ [] ∷ []) t [] ≡ get_or lists t []
    added_list t = ⊎_elim
        (λ l. get_or_append_left lists ([] ∷ []) [] t l)
        (λ g. ⊎_elim (λ e. get_or_push lists [] [] t (sym e) ∙ sym (get_or_past lists t [] g)) (λ ne. get_or_past (lists ++ [] ∷ []) t [] (omega (arith, length-append lists ([] ∷ []))) ∙ sym (get_or_past lists t [] g)) (cases_eq t (length lists)))
        (cases_lt t (length lists))

    pub IsInverse-add : IsInverse (cells ++ replicate n None) (spots ++ replicate n 0) (lists ++ [] ∷ [])
    IsInverse-add = record {
      count = length-append spots (replicate n 0) ∙ rw (length-append cells (replicate n None), length-replicate {A = ℕ} n 0, length-replicate {A = Option ℕ} n None, v.count) refl;
      listed = λ k t h.
          let o = added_some k t h in
          let w = v.listed k t o.1 in
          let at = get_or_append_left spots (replicate n 0) 0 k (omega (arith, v.count, o.0)) in
          record { below = rw (at, added_list t) w.below; place = rw (at, added_list t) w.place };
      mention = λ t p h.
          let o = v.mention t p (rw (added_list t) at h) in
          let x = get_or (get_or lists t []) p 0 in
          let b = some_below cells x t o.cell in
          rw (added_list t) (record {
            cell = get_or_append_left cells (replicate n None) None x b ∙ o.cell;
            spot = get_or_append_left spots (replicate n 0) 0 x (omega (arith, v.count, b)) ∙ o.spot;
          });
    }

-- the list of a row has each place that holds it
pub CountsPlaces-list : (cells : List (Option ℕ)) (spots : List ℕ) (lists : List (List ℕ)) → IsInverse cells spots lists → (s n : ℕ) → length (get_or lists s []) ≡ n → CountsPlaces cells s n
CountsPlaces-list cells spots lists v s n h = (
  get_or lists s [],
  record {
    holds = λ i l. (v.mention s i l).cell;
    all = λ p f. let o = v.listed p s f in (get_or spots p 0, o.below, o.place);
    once = λ i j li lj e. sym (v.mention s i li).spot ∙ ap (λ x. get_or spots x 0) e ∙ (v.mention s j lj).spot;
  },
  h,
)

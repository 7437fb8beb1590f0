-- One row more is counted.
use Rattle.std.proofs.Common.{ℕ, zero, suc, Bool, true, false, List, ◌≡◌, ◌<◌, ◌≤◌, ◌+◌, ◌&&◌, ◌==◌, if◌then◌else◌, map, get_or, replicate, length, sym, ap, ◌∙◌, arith, eq-eqb, add-one}
use Rattle.std.specs.Prelude.{slice_set}
use Rattle.std.proofs.lemmas.Bool.{ne_eqb}
use Rattle.std.proofs.lemmas.List.{length-replicate, get_or-replicate}
use Rattle.std.proofs.lemmas.List.FromFn.{fill_by_all, get_or-map-range_with_len, length-map-range_with_len}
use Rattle.cq_tables.specs.Content.{Content, live_of}
use Rattle.cq_tables.specs.Content.{entity_of as row_entity}
use Rattle.cq_theory.proofs.Grouped.{set-map_below}
use Rattle.cq_theory.specs.Canonical.{below}
use Rattle.cq_growth.specs.Counts.{is_of, rows_below, rows_of, IsMost}
use Rattle.cq_growth.specs.GreatestOf.{IsGreatest}

module _ (m : Content) where
  one_at_most : (b : Bool) (k n : ℕ) → k ≤ n → k + (if b then 1 else 0) ≤ suc n
  one_at_most true k n h = omega (arith, h)
  one_at_most false k n h = omega (arith, h)

  pub rows_below-within : (e n : ℕ) → rows_below m e n ≤ n
  rows_below-within e zero = omega arith
  rows_below-within e (suc n) = one_at_most (is_of m e n) (rows_below m e n) n (rows_below-within e n)

  -- how many there are of the entity with one row more
  next : (e row : ℕ) → rows_below m e row + (if is_of m e row then 1 else 0) ≡ rows_below m e (row + 1)
  next e row = ap (rows_below m e) (sym (add-one row))

  -- a row that is renamed counts for no entity
  pub counted_none : (counts : List ℕ) (count row : ℕ) → live_of m row ≡ false → counts ≡ map (λ e. rows_below m e row) (below count) → counts ≡ map (λ e. rows_below m e (row + 1)) (below count)
  counted_none counts count row dead are = are ∙ ap (λ (f : ℕ → ℕ). map f (below count)) (λ i e. same e i)
    where
      same : (e : ℕ) → rows_below m e row ≡ rows_below m e (row + 1)
      same e =
          let none : is_of m e row ≡ false = ap (λ b. b && (row_entity m row == e)) dead in
          let here : rows_below m e row ≡ rows_below m e row + 0 = omega arith in
          here ∙ ap (λ b. rows_below m e row + (if b then 1 else 0)) (sym none) ∙ next e row

  -- what is counted for an entity
  pub counted_at : (counts : List ℕ) (count row entity : ℕ) → entity < count → counts ≡ map (λ e. rows_below m e row) (below count) → get_or counts entity 0 ≡ rows_below m entity row
  counted_at counts count row entity within are = ap (λ l. get_or l entity 0) are ∙ get_or-map-range_with_len (λ e. rows_below m e row) 0 count entity entity 0 within (omega arith)

  -- a row that stands counts for its entity
  pub counted_one : (counts : List ℕ) (count row entity : ℕ) → live_of m row ≡ true → entity ≡ row_entity m row → entity < count → counts ≡ map (λ e. rows_below m e row) (below count)
      → slice_set counts entity (get_or counts entity 0 + 1) ≡ map (λ e. rows_below m e (row + 1)) (below count)
  counted_one counts count row entity live is within are =
      let here = counted_at counts count row entity within are in
      ap (λ l. slice_set l entity (get_or counts entity 0 + 1)) are
      ∙ set-map_below (λ e. rows_below m e row) (λ e. rows_below m e (row + 1)) count entity (get_or counts entity 0 + 1) within
      (ap (λ n. n + 1) here ∙ ap (λ b. rows_below m entity row + (if b then 1 else 0)) (sym yes) ∙ next entity row)
      (λ e other.
      let more : rows_below m e row ≡ rows_below m e row + 0 = omega arith in
      more ∙ ap (λ b. rows_below m e row + (if b then 1 else 0)) (sym (no e other)) ∙ next e row)
    where
      yes : is_of m entity row ≡ true
      yes = ap (λ b. b && (row_entity m row == entity)) live ∙ eq-eqb (row_entity m row) entity (sym is)

      no : (e : ℕ) → (e ≡ entity → ⊥) → is_of m e row ≡ false
      no e other = ap (λ b. b && (row_entity m row == e)) live ∙ ne_eqb (row_entity m row) e (λ same. other (sym same ∙ sym is))

-- where no row is counted
pub counted_nothing : (m : Content) (n : ℕ) → replicate n 0 ≡ map (λ e. rows_below m e 0) (below n)
counted_nothing m n = fill_by_all (λ e. rows_below m e 0) (replicate n 0) n 0 (length-replicate n 0) (λ k h. get_or-replicate n k 0 0 h)

-- the place of the greatest number is an entity that has most rows
pub most_of : (m : Content) (entities : ℕ) (counts : List ℕ) (place : ℕ) → counts ≡ map (rows_of m) (below entities) → IsGreatest counts place
    → IsMost m entities (record { entity = place; count = get_or counts place 0 })
most_of m entities counts place are h =
    let size : length counts ≡ entities = ap length are ∙ length-map-range_with_len (rows_of m) 0 entities in
    let at : (e : ℕ) → e < entities → get_or counts e 0 ≡ rows_of m e = λ e less. ap (λ l. get_or l e 0) are ∙ get_or-map-range_with_len (rows_of m) 0 entities e e 0 less (omega arith) in
    let within : place < entities = omega (arith, h.within, size) in
    record {
      within = within;
      counted = at place within;
      none_has_more = λ e less. (let one = at e less in let two = h.greatest e (omega (arith, size, less)) in omega (arith, one, two));
    }

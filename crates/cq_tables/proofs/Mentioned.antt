-- The places that hold a row are those of the cells that hold it.
use Rattle.std.proofs.Common.{◌≡◌, ℕ, ◌<◌, Bool, List, length, get_or, Option, Some, None, IsSome, map, refl, sym, ◌∙◌, ap, arith, ⊎_elim, ◌⊎◌, inl, inr, ◌≤◌}
use Rattle.std.proofs.lemmas.Bool.{cases_lt}
use Rattle.std.proofs.lemmas.List.{length-map}
use Rattle.std.proofs.lemmas.Option.{slice_get-map, slice_get-get_or, slice_get_past, get_or_from_slice_get, none-some, same_Some}
use Rattle.std.specs.List.{slice_get}
use Rattle.std.specs.Option.{option_map}
use Rattle.cq_tables.specs.Content.{cell_of, step_of}
use Rattle.cq_tables.specs.Mentions.{CountsMentions}
use Rattle.cq_tables.specs.Places.{place_of}
use Rattle.cq_tables.specs.Inverse.{ListsPlaces, CountsPlaces}
use Rattle.cq_tables.specs.Tables.{content, IsLaid}
use Rattle.cq_tables.proofs.Inverses.{some_below}
use Rattle.cq_tables.proofs.Placing.{Owner, owner, place_same}
use Rattle.cq_tables.proofs.Stored.{cell_at, filled}

-- what an index of a list gives is there
get_inside : {X : Type 0} (xs : List X) (i : ℕ) (x : X) → slice_get xs i ≡ Some x → i < length xs
get_inside xs i x h = ⊎_elim (λ l. l) (λ g. absurd (none-some x (sym (slice_get_past xs i g) ∙ h))) (cases_lt i (length xs))

map_some : {X Y : Type 0} (f : X → Y) (o : Option X) (y : Y) → option_map f o ≡ Some y → (x : X) × (o ≡ Some x) × (f x ≡ y)
map_some f None y h = absurd (none-some y h)
map_some f (Some x) y h = (x, refl, same_Some (f x) y h)

module _ (e : ℕ) (keys : List (ℕ × ℕ)) (kinds : List ℕ) (alive : List Bool) (starts : List ℕ) (cells : List (Option ℕ)) (counts : List ℕ)
    (laid : IsLaid keys kinds alive starts cells counts) (row : ℕ) (places : List ℕ) (lists : ListsPlaces cells row places) where
  -- a cell, by its row and key, has a place
  record IsAt (p : ℕ × ℕ) (i : ℕ) : Type 0 where
    below : p.0 < length kinds
    goes : IsSome (step_of keys (get_or kinds p.0 0) p.1)
    place : place_of keys kinds p.0 p.1 ≡ i

  pick : (i : ℕ) → (i < length cells) ⊎ (length cells ≤ i) → ℕ × ℕ
  pick i (inl l) = let o : Owner keys kinds (length kinds) i = owner keys kinds (length kinds) i (rw laid.all at l) in (o.row, o.key)
  pick i (inr g) = (0, 0)

  picked : (i : ℕ) (c : (i < length cells) ⊎ (length cells ≤ i)) → i < length cells → IsAt (pick i c) i
  unfolding pick
  picked i (inl l) h = let o : Owner keys kinds (length kinds) i = owner keys kinds (length kinds) i (rw laid.all at l) in record { below = o.below; goes = o.goes; place = o.place }
  picked i (inr g) h = absurd (omega arith)

  -- the cell of a place
  cell_there : ℕ → ℕ × ℕ
  cell_there i = pick i (cases_lt i (length cells))

  there : (i : ℕ) → get_or cells i None ≡ Some row → IsAt (cell_there i) i
  unfolding cell_there
  there i h = picked i (cases_lt i (length cells)) (some_below cells i row h)

  pair_same : (p : ℕ × ℕ) (r k : ℕ) → p.0 ≡ r → p.1 ≡ k → p ≡ (r, k)
  pair_same (a, b) r k x y = rw (x, y) refl

  -- what the list of cells has at an index
  record Listed (i : ℕ) (p : ℕ × ℕ) : Type 0 where
    place : ℕ
    inside : i < length places
    is : get_or places i 0 ≡ place
    cell : get_or cells place None ≡ Some row
    at : IsAt p place

  listed : (i : ℕ) (p : ℕ × ℕ) → slice_get (map cell_there places) i ≡ Some p → Listed i p
  listed i p h =
      let x = map_some cell_there (slice_get places i) p (sym (slice_get-map cell_there places i) ∙ h) in
      let inside = get_inside places i x.0 x.1 in
      let is = get_or_from_slice_get places i x.0 0 x.1 in
      let cell = rw is at (lists.holds i inside) in
      record { place = x.0; inside = inside; is = is; cell = cell; at = rw x.2 at (there x.0 cell) }

  holds : (i r k : ℕ) → slice_get (map cell_there places) i ≡ Some (r, k) → cell_of (content e keys kinds alive cells) r k ≡ Some row
  holds i r k h =
      let l = listed i (r, k) h in
      cell_at e keys kinds alive cells r k l.at.below l.at.goes ∙ ap (λ x. get_or cells x None) l.at.place ∙ l.cell

  all : (r k : ℕ) → cell_of (content e keys kinds alive cells) r k ≡ Some row → (i : ℕ) × (slice_get (map cell_there places) i ≡ Some (r, k))
  all r k h =
      let f = filled e keys kinds alive cells r k row h in
      let i = lists.all (place_of keys kinds r k) f.there in
      let t = there (place_of keys kinds r k) f.there in
      let same = place_same keys kinds (cell_there (place_of keys kinds r k)).0 (cell_there (place_of keys kinds r k)).1 r k t.goes f.goes t.place in (
        i.0,
        slice_get-map cell_there places i.0 ∙ ap (option_map cell_there) (slice_get-get_or places i.0 0 i.1)
            ∙ ap (λ p. Some (cell_there p)) i.2 ∙ ap Some (pair_same (cell_there (place_of keys kinds r k)) r k same.0 same.1),
      )

  once : (i j : ℕ) (p : ℕ × ℕ) → slice_get (map cell_there places) i ≡ Some p → slice_get (map cell_there places) j ≡ Some p → i ≡ j
  once i j p h g =
      let l = listed i p h in
      let m = listed j p g in
      lists.once i j l.inside m.inside (l.is ∙ sym l.at.place ∙ m.at.place ∙ sym m.is)

  counted : (n : ℕ) → length places ≡ n → CountsMentions (content e keys kinds alive cells) row n
  counted n h = (map cell_there places, record { holds = holds; all = all; once = once }, length-map places cell_there ∙ h)

pub counted_as : (e : ℕ) (keys : List (ℕ × ℕ)) (kinds : List ℕ) (alive : List Bool) (starts : List ℕ) (cells : List (Option ℕ)) (counts : List ℕ) (row n : ℕ)
    → IsLaid keys kinds alive starts cells counts → CountsPlaces cells row n → CountsMentions (content e keys kinds alive cells) row n
counted_as e keys kinds alive starts cells counts row n laid h = counted e keys kinds alive starts cells counts laid row h.0 h.1 n h.2

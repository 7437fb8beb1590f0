-- What the rows of a term model say of terms.
use Rattle.std.specs.Prelude.{◌≡◌, ◌≢◌, ℕ, zero, suc, ◌+◌, ◌-◌, ◌^◌, ◌<◌, ◌≤◌, Bool, true, false, List, [], ◌∷◌, length, Option, Some, None}
use Rattle.std.specs.Prelude.{IsSome, slice_get, slice_index, if◌then◌else◌, ◌==◌, ◌⊎◌}
use Rattle.cq_tables.specs.Content.{Content, made_of, live_of, entity_of, cell_of, step_of, trace_of, IsWhole, keys_of, entities_of}
use Rattle.cq_tables.specs.Changes.{moved}
use Rattle.cq_rows.specs.Theory.{Term, Rule, Theory, along, generator_term, sort_of, Derives, Within, Closes, IsWide}
use Rattle.cq_rows.specs.declared.entries.Entries.{Entries}
use Rattle.cq_rows.specs.Entries.{rows_of, IsCurrent}

-- the row of a term, from the rows of the generators, if it can be traced
abbrev pub row_of_term : Content → List ℕ → Term → Option ℕ
row_of_term m rows t = trace_of m (slice_index rows t.generator) t.path

-- the entry of a generator of a type, which has no row
abbrev pub no_row : ℕ
no_row = 2 ^ 64 - 1

-- a generator's row is live and of its entity, and equal to the term of that row
pub record HasRow (s : Theory) (m : Content) (rows : List ℕ) (terms : ℕ → Term) (g e : ℕ) : Type 0 where
  pub live : live_of m (slice_index rows g) ≡ true
  pub kind : entity_of m (slice_index rows g) ≡ e
  pub equal : Derives s (generator_term g) (terms (slice_index rows g))

-- each live row has a term; a filled cell holds a row whose term is derivably equal; so is a generator to the term of its row
pub record IsSound (s : Theory) (m : Content) (rows : List ℕ) (terms : ℕ → Term) : Type 0 where
  pub keys : (keys_of m) ≡ s.keys
  pub entities : (entities_of m) ≡ s.entities
  pub sorts : (r : ℕ) → live_of m r ≡ true → sort_of s (terms r) ≡ Some (entity_of m r)
  pub cells : (r k q : ℕ) → live_of m r ≡ true → cell_of m r k ≡ Some q → Derives s (along (terms r) (k ∷ [])) (terms q)
  pub generators : (g e : ℕ) → slice_get s.generators g ≡ Some (Some e) → HasRow s m rows terms g e

-- a cell of the row to which r was renamed holds the row to which q was renamed
pub record HasImage (new : Content) (rep : ℕ → ℕ) (same : ℕ → ℕ → Type 0) (r k q : ℕ) : Type 0 where
  pub row : ℕ
  pub cell : cell_of new (rep r) k ≡ Some row
  pub joined : same row (rep q)

-- rows are renamed: r to rep r
pub record IsImage (old new : Content) (rows_old rows_new : List ℕ) (rep : ℕ → ℕ) (same : ℕ → ℕ → Type 0) : Type 0 where
  pub keys : (keys_of new) ≡ (keys_of old)
  pub entities : (entities_of new) ≡ (entities_of old)
  pub made : made_of new ≡ made_of old
  pub live : (r : ℕ) → live_of old r ≡ true → live_of new (rep r) ≡ true
  pub kind : (r : ℕ) → live_of old r ≡ true → entity_of new (rep r) ≡ entity_of old r
  pub cell : (r k q : ℕ) → live_of old r ≡ true → cell_of old r k ≡ Some q → HasImage new rep same r k q
  pub onto : (r : ℕ) → live_of new r ≡ true → (live_of old r ≡ true) × (rep r ≡ r)
  pub unmade : (r : ℕ) → made_of old ≤ r → rep r ≡ r
  pub rows : (g : ℕ) → g < length rows_old → slice_index rows_new g ≡ rep (slice_index rows_old g)
  pub count : length rows_new ≡ length rows_old

abbrev pub IsSame : ℕ → ℕ → Type 0
IsSame a b = a ≡ b

-- how many of the first n rows are live
abbrev pub live_below : Content → ℕ → ℕ
live_below m zero = 0
live_below m (suc n) = live_below m n + (if live_of m n then 1 else 0)

abbrev pub live_count : Content → ℕ
live_count m = live_below m (made_of m)

-- two paths lead from two rows to two rows that differ
pub record IsApart (m : Content) (row : ℕ) (left : List ℕ) (other : ℕ) (right : List ℕ) (a b : ℕ) : Type 0 where
  pub left_end : trace_of m row left ≡ Some a
  pub right_end : trace_of m other right ≡ Some b
  pub differ : a ≢ b
  pub left_live : live_of m a ≡ true
  pub right_live : live_of m b ≡ true
  pub kinds : entity_of m a ≡ entity_of m b

-- where two paths lead from two rows, they lead to one row
abbrev pub Agree : Content → ℕ → List ℕ → ℕ → List ℕ → Type 0
Agree m row left other right = (a b : ℕ) → trace_of m row left ≡ Some a → trace_of m other right ≡ Some b → a ≡ b

-- some path equation, at a live row, or some equation of the presentation joins two rows
pub record RuleJoins (s : Theory) (m : Content) (a b : ℕ) : Type 0 where
  pub row : ℕ
  pub place : ℕ
  pub rule : Rule
  pub live : live_of m row ≡ true
  pub found : slice_get s.rules place ≡ Some rule
  pub kind : entity_of m row ≡ rule.entity
  pub apart : IsApart m row rule.left row rule.right a b

pub record GivenJoins (s : Theory) (m : Content) (rows : List ℕ) (a b : ℕ) : Type 0 where
  pub place : ℕ
  pub left : Term
  pub right : Term
  pub found : slice_get s.given place ≡ Some (Some (left, right))
  pub apart : IsApart m (slice_index rows left.generator) left.path (slice_index rows right.generator) right.path a b

-- no path equation joins two rows, and no equation of the presentation
abbrev pub RulesHold : Theory → Content → Type 0
RulesHold s m = (r i : ℕ) (u : Rule) → live_of m r ≡ true → slice_get s.rules i ≡ Some u → entity_of m r ≡ u.entity
    → Agree m r u.left r u.right

abbrev pub GivenHold : Theory → Content → List ℕ → Type 0
GivenHold s m rows = (i : ℕ) (t u : Term) → slice_get s.given i ≡ Some (Some (t, u))
    → Agree m (slice_index rows t.generator) t.path (slice_index rows u.generator) u.path

-- every cell of a live row is filled
abbrev pub AllFilled : Content → Type 0
AllFilled m = (r k d : ℕ) → live_of m r ≡ true → step_of (keys_of m) (entity_of m r) k ≡ Some d → IsSome (cell_of m r k)

-- each generator has a live row of its entity
abbrev pub HaveRows : Theory → Content → List ℕ → Type 0
HaveRows s m rows = (g e : ℕ) → slice_get s.generators g ≡ Some (Some e) → (live_of m (slice_index rows g) ≡ true)
    × (entity_of m (slice_index rows g) ≡ e)

-- a pair of rows after a renaming
abbrev pub moved_pair : ℕ → ℕ → ℕ × ℕ → ℕ × ℕ
moved_pair from to p = (moved from to p.0, moved from to p.1)

-- no path equation joins two rows at a row
abbrev pub RulesHoldAt : Theory → Content → ℕ → Type 0
RulesHoldAt s m r = (i : ℕ) (u : Rule) → slice_get s.rules i ≡ Some u → entity_of m r ≡ u.entity → Agree m r u.left r u.right

-- the cells of a row are filled
abbrev pub RowFilled : Content → ℕ → Type 0
RowFilled m r = (k d : ℕ) → step_of (keys_of m) (entity_of m r) k ≡ Some d → IsSome (cell_of m r k)

-- a row stands in a cell of another
pub record IsCellOf (m : Content) (q r : ℕ) : Type 0 where
  pub key : ℕ
  pub cell : cell_of m q key ≡ Some r

-- rows and cells are added, and nothing is lost
pub record Extends (old new : Content) : Type 0 where
  pub keys : (keys_of new) ≡ (keys_of old)
  pub entities : (entities_of new) ≡ (entities_of old)
  pub made : made_of old ≤ made_of new
  pub live : (r : ℕ) → live_of old r ≡ true → live_of new r ≡ true
  pub kind : (r : ℕ) → live_of old r ≡ true → entity_of new r ≡ entity_of old r
  pub cell : (r k q : ℕ) → live_of old r ≡ true → cell_of old r k ≡ Some q → cell_of new r k ≡ Some q
  pub fresh : (r : ℕ) → r < made_of old → live_of new r ≡ true → live_of old r ≡ true

-- it stays true that rows have terms, whatever the rows of the generators are
abbrev pub KeepsSound : Content → Content → Type 0
KeepsSound old new = (s : Theory) (rows : List ℕ) (terms : ℕ → Term) → IsSound s old rows terms → (after : ℕ → Term)
    × IsSound s new rows after

-- a cell is filled with a new row
pub record FillsCell (old new : Content) (row key to : ℕ) : Type 0 where
  pub keys : (keys_of new) ≡ (keys_of old)
  pub entities : (entities_of new) ≡ (entities_of old)
  pub made : made_of new ≡ made_of old + 1
  pub live : (r : ℕ) → live_of new r ≡ (if r == made_of old then true else live_of old r)
  pub kind : (r : ℕ) → entity_of new r ≡ (if r == made_of old then to else entity_of old r)
  pub there : cell_of new row key ≡ Some (made_of old)
  pub others : (r k : ℕ) → (r ≡ row → k ≡ key → ⊥) → cell_of new r k ≡ (if r == made_of old then None else cell_of old r k)

-- the empty cells of a row are filled with new rows
pub record FillsRow (old new : Content) (row : ℕ) : Type 0 where
  pub extends : Extends old new
  pub origin : (r : ℕ) → live_of new r ≡ true → (live_of old r ≡ true) ⊎ IsCellOf new row r
  pub filled : RowFilled new row
  pub sound : KeepsSound old new

-- the empty cells of all rows are filled with new rows
pub record FillsAll (old new : Content) : Type 0 where
  pub extends : Extends old new
  pub origin : (r : ℕ) → live_of new r ≡ true → (live_of old r ≡ true) ⊎ ((q : ℕ) × (live_of old q ≡ true) × IsCellOf new q r)
  pub filled : (r : ℕ) → live_of old r ≡ true → RowFilled new r
  pub sound : KeepsSound old new

-- two terms of one row are derivably equal
abbrev pub OneRowIsEqual : Theory → Content → List ℕ → Type 0
OneRowIsEqual s m rows = (t u : Term) (d e a : ℕ) → sort_of s t ≡ Some d → sort_of s u ≡ Some e → row_of_term m rows t ≡ Some a
    → row_of_term m rows u ≡ Some a → Derives s t u

-- each term of depth at most k can be traced
abbrev pub AllTraced : Theory → Content → List ℕ → ℕ → Type 0
AllTraced s m rows k = (t : Term) (e : ℕ) → sort_of s t ≡ Some e → length t.path ≤ k → IsSome (row_of_term m rows t)

-- terms that are equal within depth k lead to one row
abbrev pub WithinIsOneRow : Theory → Content → List ℕ → ℕ → Type 0
WithinIsOneRow s m rows k = (t u : Term) → Within s k t u → row_of_term m rows t ≡ row_of_term m rows u

-- a term of depth at most k that names a row
pub record IsName (s : Theory) (m : Content) (rows : List ℕ) (k r : ℕ) (t : Term) : Type 0 where
  pub sort : sort_of s t ≡ Some (entity_of m r)
  pub depth : length t.path ≤ k
  pub row : row_of_term m rows t ≡ Some r

-- each live row is named by a term of depth at most k
abbrev pub AllNamed : Theory → Content → List ℕ → ℕ → Type 0
AllNamed s m rows k = (r : ℕ) → live_of m r ≡ true → (t : Term) × IsName s m rows k r t

-- no depth up to k closes
abbrev pub NoneCloses : Theory → ℕ → Type 0
NoneCloses s k = (j : ℕ) → j ≤ k → Closes s j → ⊥

-- at some depth up to k there are more than n terms of which no two are equal
abbrev pub SomeWide : Theory → ℕ → ℕ → Type 0
SomeWide s k n = (j : ℕ) × (j ≤ k) × IsWide s j n

-- the rows of the first n generators: each of an entity has a row of its own, each row is that of its owner, and no cell
-- is filled
pub record IsOwner (s : Theory) (m : Content) (rows : List ℕ) (n : ℕ) (owner : ℕ → ℕ) : Type 0 where
  pub below : (r : ℕ) → live_of m r ≡ true → owner r < n
  pub kind : (r : ℕ) → live_of m r ≡ true → slice_get s.generators (owner r) ≡ Some (Some (entity_of m r))
  pub row : (r : ℕ) → live_of m r ≡ true → slice_index rows (owner r) ≡ r
  pub live : (g e : ℕ) → g < n → slice_get s.generators g ≡ Some (Some e) → live_of m (slice_index rows g) ≡ true
  pub entity : (g e : ℕ) → g < n → slice_get s.generators g ≡ Some (Some e) → entity_of m (slice_index rows g) ≡ e
  pub own : (g e : ℕ) → g < n → slice_get s.generators g ≡ Some (Some e) → owner (slice_index rows g) ≡ g

pub record HasRows (s : Theory) (m : Content) (rows : List ℕ) (n : ℕ) : Type 0 where
  pub whole : IsWhole m
  pub keys : keys_of m ≡ s.keys
  pub entities : entities_of m ≡ s.entities
  pub count : length rows ≡ n
  pub cell : (r k : ℕ) → live_of m r ≡ true → cell_of m r k ≡ None
  pub rowless : (g : ℕ) → g < n → slice_get s.generators g ≡ Some None → slice_index rows g ≡ no_row
  pub owned : (owner : ℕ → ℕ) × IsOwner s m rows n owner

abbrev pub HasBegun : Theory → Content → List ℕ → Type 0
HasBegun s m rows = HasRows s m rows (length s.generators)

-- what merging leaves
pub record IsSettling (s : Theory) (old m : Content) (e_old e : Entries) : Type 0 where
  pub whole : IsWhole m
  pub current : IsCurrent m e
  pub image : (rep : ℕ → ℕ) × IsImage old m (rows_of e_old) (rows_of e) rep IsSame
  pub sound : (terms : ℕ → Term) → IsSound s old (rows_of e_old) terms → IsSound s m (rows_of e) terms

-- what a pass leaves, which says whether it merged: if not, all is as before, and `hold` stands
pub record Passes (s : Theory) (old m : Content) (e_old e : Entries) (merged : Bool) (hold : Type 0) : Type 0 where
  pub settling : IsSettling s old m e_old e
  pub still : merged ≡ false → (m ≡ old) × (e ≡ e_old) × hold
  pub fewer : merged ≡ true → live_count m < live_count old

abbrev pub HoldIfLive : Theory → Content → ℕ → Type 0
HoldIfLive s m row = live_of m row ≡ true → RulesHoldAt s m row

-- what further merging leaves
pub record Continues (s : Theory) (old m : Content) (e_old e : Entries) : Type 0 where
  pub settling : IsSettling s old m e_old e
  pub no_more : live_count m ≤ live_count old

-- one path equation at one row, and one equation of the presentation
abbrev pub RuleHolds : Theory → Content → ℕ → ℕ → Type 0
RuleHolds s m row i = live_of m row ≡ true → (u : Rule) → slice_get s.rules i ≡ Some u → entity_of m row ≡ u.entity
    → Agree m row u.left row u.right

abbrev pub GivenHolds : Theory → Content → List ℕ → ℕ → Type 0
GivenHolds s m rows i = (t u : Term) → slice_get s.given i ≡ Some (Some (t, u))
    → Agree m (slice_index rows t.generator) t.path (slice_index rows u.generator) u.path

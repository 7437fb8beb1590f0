-- The keys of a member's row are followed.
use Rattle.std.proofs.Common.{ℕ, Bool, true, List, Option, Some, None, ◌≡◌, ◌<◌, ◌≤◌, ◌+◌, inl, inr, length, refl, sym, ap, subst, ◌∙◌, arith}
use Rattle.cq_tables.specs.Content.{Content, keys_of, live_of, cell_of, step_of, IsWhole}
use Rattle.cq_tables.specs.Content.{entity_of as row_entity}
use Rattle.cq_tables.specs.Places.{keys_from}
use Rattle.cq_tables.proofs.Starting.{next_key, at_first, at_next, at_end}
use Rattle.cq_rows.proofs.Cells.{below_or_at}
use Rattle.cq_growth.specs.declared.levels.Member.{Member}
use Rattle.cq_growth.specs.Levels.{IsReached, Reaches, ExpandsTo, Expands, one_further}
use Rattle.cq_growth.proofs.Reaching.{reached_now}

-- a row has no cell at a key that goes not from its entity
no_cell_at : (m : Content) (row entity k : ℕ) → IsWhole m → live_of m row ≡ true → entity ≡ row_entity m row → ((d : ℕ) → step_of (keys_of m) entity k ≡ Some d → ⊥) → cell_of m row k ≡ None
no_cell_at m row entity k whole live is none = found (cell_of m row k) refl
  where
    found : (o : Option ℕ) → cell_of m row k ≡ o → cell_of m row k ≡ None
    found None h = h
    found (Some s) h = absurd (none (row_entity m s) (subst (λ x. step_of (keys_of m) x k ≡ Some (row_entity m s)) (sym is) (whole.held row k s live h).step))

-- no key is followed yet
pub expands_none : (m : Content) (from : Member) (old : List Member) (marks : List Bool) → ExpandsTo m from 0 old marks old marks
expands_none m from old marks = record {
  marked = refl;
  kept = λ r h. h;
  members = λ r h. h;
  steps = λ n x h. inl (n, h);
  listed = λ r h. inl h;
  cells = λ key s less h. absurd (omega arith);
}

module _ (m : Content) (from : Member) (old : List Member) (marks : List Bool) where
  -- at an empty cell
  pub expands_skip : (k : ℕ) (new : List Member) (marks' : List Bool) → cell_of m from.row k ≡ None → ExpandsTo m from k old marks new marks' → ExpandsTo m from (k + 1) old marks new marks'
  expands_skip k new marks' empty h = record {
    marked = h.marked;
    kept = h.kept;
    members = h.members;
    steps = h.steps;
    listed = h.listed;
    cells = λ key s less cell. elim (below_or_at key k less) [
      | inl a ↦ h.cells key s a cell
      | inr e ↦ absurd (let clash : None ≡ Some s = sym empty ∙ ap (cell_of m from.row) (sym e) ∙ cell in cc)
    ];
  }

  -- along a key to a row
  pub expands_step : (k s : ℕ) (new after : List Member) (marks' marks'' : List Bool) → s < length marks' → cell_of m from.row k ≡ Some s
      → Reaches new marks' after marks'' s (one_further from.name k) → ExpandsTo m from k old marks new marks' → ExpandsTo m from (k + 1) old marks after marks''
  expands_step k s new after marks' marks'' within cell reaches h =
      let now = reached_now new marks' s (one_further from.name k) within after marks'' reaches in
      record {
        marked = now.marked ∙ h.marked;
        kept = λ r i. now.kept r (h.kept r i);
        members = λ r i. now.members r (h.members r i);
        steps = λ n x i. elim (now.origin n x i) [
          | inl a ↦ h.steps a.0 x a.1
          | inr e ↦ inr (record { key = k; cell = cell ∙ ap (λ (y : Member). Some y.row) (sym e); named = ap (λ (y : Member). y.name) e })
        ];
        listed = λ r i. elim (now.listed r i) [
          | inl a ↦ elim (h.listed r a) [ inl b ↦ inl b | inr b ↦ inr (now.members r b) ]
          | inr a ↦ inr a
        ];
        cells = λ key t less there. elim (below_or_at key k less) [
          | inl a ↦ now.kept t (h.cells key t a there)
          | inr e ↦
              let same : Some s ≡ Some t = sym cell ∙ ap (cell_of m from.row) (sym e) ∙ there in
              let one : s ≡ t = cc in
              subst (IsReached marks'') one now.here
        ];
      }

  -- over the keys of an entity, in order
  module _ (whole : IsWhole m) (entity : ℕ) (live : live_of m from.row ≡ true) (is : entity ≡ row_entity m from.row) where
    skip : (new : List Member) (marks' : List Bool) (k : ℕ) → ((d : ℕ) → step_of (keys_of m) entity k ≡ Some d → ⊥) → ExpandsTo m from k old marks new marks' → ExpandsTo m from (k + 1) old marks new marks'
    skip new marks' k none h = expands_skip k new marks' (no_cell_at m from.row entity k whole live is none) h

    pub expands_first : (new : List Member) (marks' : List Bool) → ExpandsTo m from 0 old marks new marks' → ExpandsTo m from (next_key (keys_of m) entity 0) old marks new marks'
    expands_first new marks' = at_first (keys_of m) entity (λ k. ExpandsTo m from k old marks new marks') (skip new marks')

    pub expands_next : (i key : ℕ) (new : List Member) (marks' : List Bool) → i < length (keys_from (keys_of m) entity) → key ≡ next_key (keys_of m) entity i
        → ExpandsTo m from (key + 1) old marks new marks' → ExpandsTo m from (next_key (keys_of m) entity (i + 1)) old marks new marks'
    expands_next i key new marks' = at_next (keys_of m) entity (λ k. ExpandsTo m from k old marks new marks') (skip new marks') i key

    pub expands_all : (i : ℕ) (new : List Member) (marks' : List Bool) → length (keys_from (keys_of m) entity) ≤ i
        → ExpandsTo m from (next_key (keys_of m) entity i) old marks new marks' → Expands m from old marks new marks'
    expands_all i new marks' past = at_end (keys_of m) entity (λ k. ExpandsTo m from k old marks new marks') i past

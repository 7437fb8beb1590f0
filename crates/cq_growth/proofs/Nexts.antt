-- A level after one, member by member.
use Rattle.std.proofs.Common.{ℕ, Bool, List, [], Some, ◌≡◌, ◌≤◌, ◌+◌, inl, inr, length, refl, sym, ap, ◌∙◌, arith}
use Rattle.std.specs.Prelude.{slice_get}
use Rattle.std.proofs.lemmas.Option.{same_Some}
use Rattle.cq_tables.specs.Content.{Content, cell_of, IsWhole}
use Rattle.cq_rows.proofs.Cells.{below_or_at, filled_below}
use Rattle.cq_growth.specs.declared.levels.Member.{Member}
use Rattle.cq_growth.specs.Levels.{Expands, IsNext, IsNextOf}

pub next_none : (m : Content) (old : List Member) (marks : List Bool) → IsNextOf m 0 old marks [] marks
next_none m old marks = record {
  marked = refl;
  kept = λ r h. h;
  steps = λ i x h. cc;
  listed = λ r h. inl h;
  cells = λ j key s from less a b. absurd (omega arith);
}

module _ (m : Content) (whole : IsWhole m) (old : List Member) (marks : List Bool) where
  pub next_more : (n : ℕ) (from : Member) (new after : List Member) (marks' marks'' : List Bool) → slice_get old n ≡ Some from → Expands m from new marks' after marks''
      → IsNextOf m n old marks new marks' → IsNextOf m (n + 1) old marks after marks''
  next_more n from new after marks' marks'' there expands h = record {
    marked = expands.marked ∙ h.marked;
    kept = λ r i. expands.kept r (h.kept r i);
    steps = λ i x at. elim (expands.steps i x at) [
      | inl a ↦ h.steps a.0 x a.1
      | inr step ↦ (n, from, there, step)
    ];
    listed = λ r i. elim (expands.listed r i) [
      | inl a ↦ elim (h.listed r a) [ inl b ↦ inl b | inr b ↦ inr (expands.members r b) ]
      | inr a ↦ inr a
    ];
    cells = λ j key s x less at cell. elim (below_or_at j n less) [
      | inl a ↦ expands.kept s (h.cells j key s x a at cell)
      | inr e ↦
          let same : x ≡ from = same_Some x from (sym at ∙ ap (slice_get old) e ∙ there) in
          let here : cell_of m from.row key ≡ Some s = ap (λ (y : Member). cell_of m y.row key) (sym same) ∙ cell in
          expands.cells key s (filled_below m from.row key s whole here) here
    ];
  }

  pub next_all : (n : ℕ) (new : List Member) (marks' : List Bool) → length old ≤ n → IsNextOf m n old marks new marks' → IsNext m old marks new marks'
  next_all n new marks' past h = record {
    marked = h.marked;
    kept = h.kept;
    steps = h.steps;
    listed = h.listed;
    cells = λ j key s from less at cell. h.cells j key s from (omega (arith, past, less)) at cell;
  }

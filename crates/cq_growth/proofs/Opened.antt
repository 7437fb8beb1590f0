-- What the rows up to a depth say of terms of that depth.
use Rattle.std.proofs.Common.{ℕ, Bool, true, false, List, [], ◌∷◌, Option, Some, None, ◌≡◌, ◌<◌, ◌+◌, inl, inr, map, refl, sym, ap, subst, ◌∙◌, arith, length-append}
use Rattle.std.specs.Prelude.{IsSome, slice_get, slice_index, option_and_then}
use Rattle.cq_tables.specs.Content.{Content, keys_of, cell_of, step_of}
use Rattle.cq_tables.specs.Content.{entity_of as row_entity}
use Rattle.cq_rows.specs.Plain.{ends_of}
use Rattle.cq_rows.specs.Rows.{row_of_term, AllFilled}
use Rattle.cq_rows.specs.Saturated.{IsSaturated}
use Rattle.cq_rows.specs.declared.grow.Partial.{Partial}
use Rattle.cq_rows.proofs.Bridge.{step_same, has_key}
use Rattle.cq_rows.proofs.Tracing.{trace_append}
use Rattle.cq_theory.specs.declared.presentation.Presentation.{Presentation}
use Rattle.cq_theory.specs.declared.term.EntTerm.{EntTerm}
use Rattle.cq_theory.specs.EntTerm.{depth_of}
use Rattle.cq_theory.specs.SchemaData.{SchemaData as Schema}
use Rattle.cq_theory.specs.Sorts.{entity_of}
use Rattle.cq_growth.specs.declared.levels.Member.{Member}
use Rattle.cq_growth.specs.Levels.{IsLevel, one_further}
use Rattle.cq_growth.specs.News.{IsNew, IsOpen, AreFilled}
use Rattle.cq_growth.proofs.Leading.{row_sort, further_sort}

-- one key leads on exactly where the cell is filled
one_step : (o : Option ℕ) → IsSome (option_and_then (λ s. Some s) o) → IsSome o
one_step None h = h
one_step (Some s) h = refl

none_some : (o : Option ℕ) → o ≡ None → IsSome o → ⊥
none_some None e h = let bad : false ≡ true = h in cc
none_some (Some s) e h = cc

module _ (S : Schema) (P : Presentation) (k : ℕ) (p : Partial) (rows : IsSaturated S P k p) where
  abbrev m : Content
  m = p.tables

  abbrev entries : List ℕ
  entries = p.generator_rows

  -- a term of lesser depth that leads to a row has filled cells there
  filled_below_depth : (u : EntTerm) (r key d : ℕ) → entity_of S P.generators u ≡ Some (row_entity m r) → depth_of u < k → row_of_term m entries u ≡ Some r
      → step_of (keys_of m) (row_entity m r) key ≡ Some d → IsSome (cell_of m r key)
  filled_below_depth u r key d sort less leads goes =
      let next = further_sort S P m entries rows.whole rows.keys rows.entries u r d key sort goes in
      let size : depth_of (one_further u key) ≡ depth_of u + 1 = length-append u.path (key ∷ []) in
      let traced = rows.traced (one_further u key) d next (omega (arith, size, less)) in
      let on = trace_append m (slice_index entries u.generator) r u.path (key ∷ []) leads in
      one_step (cell_of m r key) (subst (λ (o : Option ℕ). IsSome o) on traced)

  module _ (members : List Member) (reached : List Bool) (level : IsLevel S P m entries k members reached) where
    -- the term of a member whose row has an empty cell is new
    pub open_is_new : (x : Member) → IsOpen m members x → IsNew S P k x.name
    open_is_new x opened =
        let lead = level.member opened.place x opened.there in
        let at = opened.open_at in
        let entity = row_entity m x.row in
        let step = step_same S P entity opened.key in
        let by_keys : step_of (map ends_of S.keys) entity opened.key ≡ Some at.entity = ap (λ (l : List (ℕ × ℕ)). step_of l entity opened.key) (sym rows.keys) ∙ at.goes in
        let edge = has_key (slice_get S.keys opened.key) entity at.entity (sym step ∙ by_keys) in
        record {
          entity = entity;
          sorted = lead.entity;
          goes_on = (opened.key, edge.0, edge.1, edge.2);
          depth = lead.depth;
          new = λ u e sort less within.
              let one : row_of_term m entries u ≡ Some x.row = sym (rows.within x.name u within) ∙ lead.leads in
              let kind = (row_sort S P m entries rows.whole rows.keys rows.entries u e x.row sort one).1 in
              let sort_here : entity_of S P.generators u ≡ Some entity = sort ∙ ap (λ n. Some n) (sym kind) in
              none_some (cell_of m x.row opened.key) at.empty (filled_below_depth u x.row opened.key at.entity sort_here less one at.goes);
        }

    -- where the members' rows have no empty cell, no row has
    pub all_filled : AreFilled m members → AllFilled m
    all_filled filled r key d live goes =
        let name = rows.named r live in
        let there = level.all name.0 (row_entity m r) r name.1.entity name.1.depth name.1.row in
        elim (level.listed r there) [
          | inl y ↦ subst (λ n. step_of (keys_of m) (row_entity m n) key ≡ Some d → IsSome (cell_of m n key)) y.3 (filled y.0 y.1 y.2 key d) goes
          | inr l ↦ filled_below_depth l.0 r key d l.3.entity (omega (arith, l.2, l.3.depth)) l.3.leads goes
        ]

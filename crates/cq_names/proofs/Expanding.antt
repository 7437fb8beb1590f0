-- The keys of a row are followed, one after the other.
use Rattle.std.proofs.Common.{ℕ, zero, suc, Bool, true, false, List, [], ◌∷◌, ◌++◌, Option, Some, None, ◌≡◌, ◌<◌, ◌≤◌, ◌+◌, inl, inr, cond, map, length, get_or, replicate, refl, sym, ap, subst, ◌∙◌, arith, length-append}
use Rattle.std.specs.Prelude.{slice_get, slice_set, slice_index, slice_index_or}
use Rattle.std.proofs.lemmas.Option.{slice_get-get_or, get_or_from_slice_get, slice_get_within}
use Rattle.std.proofs.lemmas.List.{length-set, length-replicate}
use Rattle.cq_tables.specs.Content.{Content, made_of, live_of, cell_of, step_of, keys_of, IsWhole}
use Rattle.cq_tables.specs.Content.{entity_of as row_entity}
use Rattle.cq_rows.specs.Plain.{ends_of}
use Rattle.cq_tables.specs.Places.{keys_from}
use Rattle.cq_tables.proofs.Starting.{next_key, at_first, at_next, at_end}
use Rattle.cq_base.specs.declared.name.Name.{Name}
use Rattle.cq_theory.specs.declared.presentation.Presentation.{Presentation}
use Rattle.cq_theory.specs.declared.presentation.Sort.{Sort}
use Rattle.cq_theory.specs.declared.presentation.Sort.TheVariants.{Plain, Entity}
use Rattle.cq_theory.specs.Sorts.{Generators, entity_at}
use Rattle.cq_theory.specs.SchemaData.{SchemaData as Schema}
use Rattle.cq_theory.specs.declared.term.EntTerm.{EntTerm}
use Rattle.cq_instance.proofs.Lists.{get-append_front}
use Rattle.cq_instance.specs.TermOrder.{one_further}
use Rattle.cq_names.specs.Walking.{Listing, Meets, IsWalked, IsExpanding}
use Rattle.cq_names.proofs.Walked.{IsWalked-none, IsWalked-step, IsWalked-skip, IsWalked-row}

-- a row has no cell at a key that goes not from its entity
no_cell : (m : Content) (row entity k : ℕ) → IsWhole m → live_of m row ≡ true → entity ≡ row_entity m row → ((d : ℕ) → step_of (keys_of m) entity k ≡ Some d → ⊥) → cell_of m row k ≡ None
no_cell m row entity k whole live is none = found (cell_of m row k) refl
  where
    found : (o : Option ℕ) → cell_of m row k ≡ o → cell_of m row k ≡ None
    found None h = h
    found (Some s) h = absurd (none (row_entity m s) (subst (λ x. step_of (keys_of m) x k ≡ Some (row_entity m s)) (sym is) (whole.held row k s live h).step))

name_at : (xs : List EntTerm) (i : ℕ) → i < length xs → (u : EntTerm) × (slice_get xs i ≡ Some u)
name_at [] i h = absurd (omega arith)
name_at (x ∷ xs) zero h = (x, refl)
name_at (x ∷ xs) (suc i) h = name_at xs i (omega arith)

module _ (S : Schema) (m : Content) (whole : IsWhole m) (keys : keys_of m ≡ map ends_of S.keys) where
  pub expanding_skip : (initial w : Listing) (at row key : ℕ) → IsExpanding S m initial w at row key → cell_of m row key ≡ None → IsExpanding S m initial w at row (key + 1)
  expanding_skip initial w at row key h empty = record {
    marks = h.marks;
    at_row = h.at_row;
    named = h.named;
    walked = λ P entries g start. IsWalked-skip S P m entries whole keys w g at key row (h.walked P entries g start) h.at_row empty;
  }

  pub expanding_step : (initial w w' : Listing) (at row key s : ℕ) → IsExpanding S m initial w at row key → cell_of m row key ≡ Some s
      → ((name : EntTerm) → slice_get w.names at ≡ Some name → Meets w w' s (one_further name key)) → IsExpanding S m initial w' at row (key + 1)
  expanding_step initial w w' at row key s h cell meets =
      let name = name_at w.names at h.named in
      let step : Meets w w' s (one_further name.0 key) = meets name.0 name.1 in
      record {
        marks = marks (slice_index_or w.met s false) (step.met) ∙ h.marks;
        at_row = rows (slice_index_or w.met s false) step.rows;
        named = names (slice_index_or w.met s false) (one_further name.0 key) step.names;
        walked = λ P entries g start. IsWalked-step S P m entries whole keys w w' g at key row s name.0 (h.walked P entries g start) h.at_row name.1 cell step;
      }
    where
      marks : (b : Bool) → w'.met ≡ cond b w.met (slice_set w.met s true) → length w'.met ≡ length w.met
      marks true e = ap length e
      marks false e = ap length e ∙ length-set w.met s true

      rows : (b : Bool) → w'.rows ≡ cond b w.rows (w.rows ++ s ∷ []) → slice_get w'.rows at ≡ Some row
      rows true e = ap (λ (l : List ℕ). slice_get l at) e ∙ h.at_row
      rows false e = ap (λ (l : List ℕ). slice_get l at) e ∙ get-append_front w.rows (s ∷ []) at row h.at_row

      names : (b : Bool) (t : EntTerm) → w'.names ≡ cond b w.names (w.names ++ t ∷ []) → at < length w'.names
      names true t e = omega (arith, h.named, ap length e)
      names false t e = omega (arith, h.named, ap length e, length-append w.names (t ∷ []))

  module _ (initial w : Listing) (at row entity : ℕ) (live : live_of m row ≡ true) (is : entity ≡ row_entity m row) where
    skip : (k : ℕ) → ((d : ℕ) → step_of (keys_of m) entity k ≡ Some d → ⊥) → IsExpanding S m initial w at row k → IsExpanding S m initial w at row (k + 1)
    skip k none h = expanding_skip initial w at row k h (no_cell m row entity k whole live is none)

    pub expanding_first : IsExpanding S m initial w at row 0 → IsExpanding S m initial w at row (next_key (keys_of m) entity 0)
    expanding_first = at_first (keys_of m) entity (IsExpanding S m initial w at row) skip

    pub expanding_next : (i key : ℕ) → i < length (keys_from (keys_of m) entity) → key ≡ next_key (keys_of m) entity i → IsExpanding S m initial w at row (key + 1)
        → IsExpanding S m initial w at row (next_key (keys_of m) entity (i + 1))
    expanding_next = at_next (keys_of m) entity (IsExpanding S m initial w at row) skip

  pub expanding_all : (initial w : Listing) (at row entity i : ℕ) → length (keys_from (keys_of m) entity) ≤ i → IsExpanding S m initial w at row (next_key (keys_of m) entity i)
      → (P : Presentation) (entries : List ℕ) (g : ℕ) → IsWalked S P m entries initial g at 0 → IsWalked S P m entries w g (at + 1) 0
  expanding_all initial w at row entity i past h P entries g start =
      let all = at_end (keys_of m) entity (IsExpanding S m initial w at row) i past h in
      IsWalked-row S P m entries whole keys w g at (all.walked P entries g start)

-- the row at the place where the walk stands
pub read_row : (m : Content) (xs ys : List ℕ) (at row : ℕ) → ys ≡ xs → at < length xs → row ≡ get_or ys at row → slice_get xs at ≡ Some row
read_row m xs ys at row same within read = slice_get-get_or xs at row within ∙ ap (λ x. Some x) (sym (read ∙ ap (λ (l : List ℕ). get_or l at row) same))

pub live_row : (m : Content) (xs ys : List ℕ) (at row : ℕ) → ys ≡ xs → at < length xs → row ≡ get_or ys at row → live_of m (slice_index xs at) ≡ true → live_of m row ≡ true
live_row m xs ys at row same within read live = ap (live_of m) (sym (get_or_from_slice_get xs at row 0 (read_row m xs ys at row same within read))) ∙ live

pub expanding_init : (S : Schema) (m : Content) (w : Listing) (ys : List ℕ) (at row : ℕ) → length w.met ≡ made_of m → at < length w.rows → length w.names ≡ length w.rows → ys ≡ w.rows → row ≡ get_or ys at row
    → IsExpanding S m w w at row 0
expanding_init S m w ys at row marks within names same read = record {
  marks = marks;
  at_row = read_row m w.rows ys at row same within read;
  named = omega arith;
  walked = λ P entries g h. h;
}

pub meets_marks : (w w' : Listing) (row : ℕ) (name : EntTerm) → Meets w w' row name → length w'.met ≡ length w.met
meets_marks w w' row name h = marks (slice_index_or w.met row false) h.met
  where
    marks : (b : Bool) → w'.met ≡ cond b w.met (slice_set w.met row true) → length w'.met ≡ length w.met
    marks true e = ap length e
    marks false e = ap length e ∙ length-set w.met row true

-- nothing is named yet
pub begun : (S : Schema) (P : Presentation) (m : Content) (entries : List ℕ) (w : Listing) (n : ℕ) → w ≡ record { rows = []; names = []; met = replicate n false } → n ≡ made_of m → IsWalked S P m entries w 0 0 0
begun S P m entries w n is count = subst (λ (x : Listing). IsWalked S P m entries x 0 0 0) (sym is) (IsWalked-none S P m entries (replicate n false) (ap (λ k. replicate k false) count))

pub begun_marks : (w : Listing) (n k : ℕ) → w ≡ record { rows = []; names = []; met = replicate n false } → n ≡ k → length w.met ≡ k
begun_marks w n k is count = ap (λ (x : Listing). length x.met) is ∙ length-replicate n false ∙ count

-- what is read of the generators
pub generator_is : (xs G : Generators) (i e : ℕ) (x : Name × Sort) → xs ≡ G → i < length xs → x ≡ get_or xs i x → x.1 ≡ Entity e → entity_at (slice_get G i) ≡ Some e
generator_is xs G i e x same within read sort =
    ap (λ (l : Generators). entity_at (slice_get l i)) (sym same) ∙ ap entity_at (slice_get-get_or xs i x within ∙ ap (λ (y : Name × Sort). Some y) (sym read)) ∙ ap (λ (s : Sort). entity_at (Some (x.0, s))) sort

no_entity : (x : Name × Sort) → ((e : ℕ) → x.1 ≡ Entity e → ⊥) → entity_at (Some x) ≡ None
no_entity (name, Plain n) h = refl
no_entity (name, Entity n) h = absurd (h n refl)

pub generator_not : (xs G : Generators) (i : ℕ) (x : Name × Sort) → xs ≡ G → i < length xs → x ≡ get_or xs i x → ((e : ℕ) → x.1 ≡ Entity e → ⊥) → entity_at (slice_get G i) ≡ None
generator_not xs G i x same within read other =
    ap (λ (l : Generators). entity_at (slice_get l i)) (sym same) ∙ ap entity_at (slice_get-get_or xs i x within ∙ ap (λ (y : Name × Sort). Some y) (sym read)) ∙ no_entity x other

-- where all rows are done, the walk stands at the end of its list
pub IsWalked-end : (S : Schema) (P : Presentation) (m : Content) (entries : List ℕ) (w : Listing) (g n : ℕ) → IsWalked S P m entries w g n 0 → length w.rows ≤ n → IsWalked S P m entries w g (length w.rows) 0
IsWalked-end S P m entries w g n walked past = record {
  listing = walked.listing;
  origin = λ j u h. elim (walked.origin j u h) [
    | inl o ↦ inl o
    | inr o ↦ inr (record { at = o.at; key = o.key; name = o.name; is_name = o.is_name; past = inl (omega (arith, slice_get_within w.names o.at o.name o.is_name, walked.listing.same_length)); is = o.is })
  ];
  generators = walked.generators;
  steps = λ i key r s t p a b c. walked.steps i key r s t (inl (omega (arith, slice_get_within w.rows i r a, past))) a b c;
}

-- The rows of the generators are reached.
use Rattle.std.proofs.Common.{ℕ, Bool, true, false, List, [], Some, None, ◌≡◌, ◌<◌, ◌+◌, inl, inr, length, get_or, replicate, refl, sym, ap, subst, ◌∙◌, arith, zero, suc}
use Rattle.std.specs.Prelude.{slice_get, slice_index}
use Rattle.std.proofs.lemmas.List.{length-replicate}
use Rattle.std.proofs.lemmas.Option.{slice_get-get_or}
use Rattle.cq_base.specs.declared.name.Name.{Name}
use Rattle.cq_tables.specs.Content.{Content, made_of}
use Rattle.cq_rows.proofs.Cells.{below_or_at}
use Rattle.cq_theory.specs.declared.presentation.Presentation.{Presentation}
use Rattle.cq_theory.specs.declared.presentation.Sort.{Sort}
use Rattle.cq_theory.specs.declared.presentation.Sort.TheVariants.{Plain, Entity}
use Rattle.cq_theory.specs.EntTerm.{alone}
use Rattle.cq_theory.specs.Sorts.{Generators, entity_at}
use Rattle.cq_growth.specs.declared.levels.Member.{Member}
use Rattle.cq_growth.specs.Levels.{IsReached, Reaches, HasBegun}
use Rattle.cq_growth.proofs.Reaching.{reached_now}

none_reached : (n r : ℕ) → get_or (replicate n false) r false ≡ false
none_reached zero r = refl
none_reached (suc n) zero = refl
none_reached (suc n) (suc r) = none_reached n r

module _ (P : Presentation) (m : Content) (entries : List ℕ) where
  pub begun_none : (reached : List Bool) → reached ≡ replicate (made_of m) false → HasBegun P m entries 0 [] reached
  begun_none reached is = record {
    marks = ap length is ∙ length-replicate (made_of m) false;
    member = λ n x h. cc;
    listed = λ r h. (let bad : true ≡ false = sym h ∙ ap (λ (l : List Bool). get_or l r false) is ∙ none_reached (made_of m) r in cc);
    generators = λ i e less h. absurd (omega arith);
  }

  -- a generator of a type
  pub begun_other : (g : ℕ) (members : List Member) (reached : List Bool) → entity_at (slice_get P.generators g) ≡ None → HasBegun P m entries g members reached → HasBegun P m entries (g + 1) members reached
  begun_other g members reached none h = record {
    marks = h.marks;
    member = h.member;
    listed = h.listed;
    generators = λ i e less at. elim (below_or_at i g less) [
      | inl a ↦ h.generators i e a at
      | inr b ↦ (let bad : None ≡ Some e = sym none ∙ ap (λ n. entity_at (slice_get P.generators n)) (sym b) ∙ at in cc)
    ];
  }

  -- a generator of an entity
  pub begun_more : (g entity : ℕ) (members new : List Member) (reached marks : List Bool) → entity_at (slice_get P.generators g) ≡ Some entity → slice_index entries g < length reached
      → Reaches members reached new marks (slice_index entries g) (alone g) → HasBegun P m entries g members reached → HasBegun P m entries (g + 1) new marks
  begun_more g entity members new reached marks sort within reaches h =
      let now = reached_now members reached (slice_index entries g) (alone g) within new marks reaches in
      record {
        marks = now.marked ∙ h.marks;
        member = λ n x there. elim (now.origin n x there) [
          | inl a ↦ h.member a.0 x a.1
          | inr e ↦ (g, entity, sort, ap (λ (y : Member). y.row) e, ap (λ (y : Member). y.name) e)
        ];
        listed = λ r i. elim (now.listed r i) [ inl a ↦ now.members r (h.listed r a) | inr a ↦ a ];
        generators = λ i e less at. elim (below_or_at i g less) [
          | inl a ↦ now.kept (slice_index entries i) (h.generators i e a at)
          | inr b ↦ subst (λ n. IsReached marks (slice_index entries n)) (sym b) now.here
        ];
      }

-- what is read of the generators
pub sort_is : (xs G : Generators) (i e : ℕ) (x : Name × Sort) → xs ≡ G → i < length xs → x ≡ get_or xs i x → x.1 ≡ Entity e → entity_at (slice_get G i) ≡ Some e
sort_is xs G i e x same within read sort =
    ap (λ (l : Generators). entity_at (slice_get l i)) (sym same) ∙ ap entity_at (slice_get-get_or xs i x within ∙ ap (λ (y : Name × Sort). Some y) (sym read)) ∙ ap (λ (s : Sort). entity_at (Some (x.0, s))) sort

no_entity : (x : Name × Sort) → ((e : ℕ) → x.1 ≡ Entity e → ⊥) → entity_at (Some x) ≡ None
no_entity (name, Plain n) h = refl
no_entity (name, Entity n) h = absurd (h n refl)

pub sort_not : (xs G : Generators) (i : ℕ) (x : Name × Sort) → xs ≡ G → i < length xs → x ≡ get_or xs i x → ((e : ℕ) → x.1 ≡ Entity e → ⊥) → entity_at (slice_get G i) ≡ None
sort_not xs G i x same within read other =
    ap (λ (l : Generators). entity_at (slice_get l i)) (sym same) ∙ ap entity_at (slice_get-get_or xs i x within ∙ ap (λ (y : Name × Sort). Some y) (sym read)) ∙ no_entity x other

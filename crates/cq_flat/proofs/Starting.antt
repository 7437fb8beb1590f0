-- The state in which each node is alone, and what becomes of it when constants are looked up.
use Rattle.std.proofs.Common.{◌≡◌, ℕ, ◌<◌, List, [], length, Some, ◌≤◌, ◌+◌, Option, None, sym, refl, ◌⊎◌, ⊎_elim, ◌∙◌, ap, arith, inl, inr, zero-add}
use Rattle.std.proofs.lemmas.Bool.{cases_lt}
use Rattle.std.proofs.lemmas.List.FromFn.{length-range_with_len, get_or-range_with_len}
use Rattle.std.proofs.lemmas.Option.{slice_get_within, slice_get-get_or, same_Some}
use Rattle.std.specs.Prelude.{Contains, slice_get, slice_index}
use Rattle.std.specs.List.{range_with_len}
use Rattle.cq_theory.specs.declared.constant.Con.{Con}
use Rattle.cq_flat.specs.declared.node.Node.{Node}
use Rattle.cq_flat.specs.declared.node.Node.TheVariants.{Leaf, Const, Fun}
use Rattle.cq_flat.specs.declared.closing.Closing.{Closing}
use Rattle.cq_flat.specs.Partition.{Has}
use Rattle.cq_flat.specs.Congruence.{Congruent, reflexive, given}
use Rattle.cq_flat.specs.Closing.{waiting, IsSound, IsTabled, AreUses, AddsFunctions}
use Rattle.cq_flat.specs.State.{class_in, AnyNode, IsEarlyConstant, IsAlone, EntersOne, IsShaped, IsClosing}
use Rattle.cq_flat.proofs.Members.{has_none}
use Rattle.cq_flat.proofs.Waiting.{Joined-more}

pub below_has : (n a : ℕ) → Has (range_with_len 0 n) a → a < n
below_has n a h =
    let l : h.0 < n = omega (arith, h.1, length-range_with_len 0 n) in
    omega (arith, l, get_or-range_with_len 0 n h.0 0 l, h.2)

-- an equation that is given
pub given_equal : (nodes : List Node) (equations : List (ℕ × ℕ)) (a b : ℕ) → Contains {X = ℕ × ℕ} equations (a, b) → Congruent nodes equations a b
given_equal nodes equations a b c = given c.0 (slice_get-get_or equations c.0 (a, b) c.1 ∙ ap Some c.2)

module _ (nodes : List Node) (equations : List (ℕ × ℕ)) (s : Closing) (alone : IsAlone (length nodes) equations s) where
  at : (a : ℕ) → a < length nodes → class_in s a ≡ a
  at a l = ap (λ xs. slice_index xs a) alone.classes ∙ get_or-range_with_len 0 (length nodes) a 0 l ∙ zero-add a

  shape_start : IsShaped nodes (IsEarlyConstant nodes 0) s
  shape_start = record {
    count = ap length alone.classes ∙ length-range_with_len 0 (length nodes);
    within = λ a l. omega (arith, at a l);
    root = λ a l. ap (class_in s) (at a l);
    rings = alone.rings;
    uses = λ a f x args k is h. absurd (omega (arith, k.0));
    users = λ k a h. absurd (has_none a (rw alone.uses at h));
  }

  sound_start : IsSound nodes equations (class_in s) s.table s.pending.items
  sound_start = rw (alone.table, alone.pending) (record {
    classes = λ a l. rw (at a l) (reflexive a l);
    entries = λ key a f. absurd (cc);
    pairs = given_equal nodes equations;
  })

  pub closing_alone : IsClosing nodes equations (IsEarlyConstant nodes 0) s
  closing_alone = record {
    shape = shape_start;
    sound = sound_start;
    given = λ a b c. waiting (rw alone.pending c);
    within = λ a h. absurd (has_none a (rw alone.stale at h));
    tabled = λ a k. absurd (omega (arith, k.0));
  }

-- fewer nodes are known
pub closing_fewer : (nodes : List Node) (equations : List (ℕ × ℕ)) (known some : ℕ → Type 0) (s : Closing) → ((a : ℕ) → some a → known a) → IsClosing nodes equations known s
    → IsClosing nodes equations some s
closing_fewer nodes equations known some s of c = record {
  shape = record {
    count = c.shape.count;
    within = c.shape.within;
    root = c.shape.root;
    rings = c.shape.rings;
    uses = λ a f x args k is h. c.shape.uses a f x args (of a k) is h;
    users = c.shape.users;
  };
  sound = c.sound;
  given = c.given;
  within = c.within;
  tabled = λ a k. c.tabled a (of a k);
}

module _ (nodes : List Node) (equations : List (ℕ × ℕ)) (n : ℕ) where
  -- a node that is no constant
  pub closing_plain : (s : Closing) → ((c : Con) → slice_get nodes n ≡ Some (Const c) → ⊥) → IsClosing nodes equations (IsEarlyConstant nodes n) s
      → IsClosing nodes equations (IsEarlyConstant nodes (n + 1)) s
  closing_plain s plain c = closing_fewer nodes equations (IsEarlyConstant nodes n) (IsEarlyConstant nodes (n + 1)) s earlier c where
    earlier : (a : ℕ) → IsEarlyConstant nodes (n + 1) a → IsEarlyConstant nodes n a
    earlier a k = elim (cases_lt a n) as (λ _. IsEarlyConstant nodes n a) [
      | inl l ↦ (l, k.1)
      | inr g ↦ let e : a ≡ n = omega (arith, g, k.0) in absurd (plain k.1.0 (rw e at k.1.1))
    ]

  -- a node that is a constant is looked up
  pub closing_entered : (old new : Closing) → EntersOne nodes n old new → IsClosing nodes equations (IsEarlyConstant nodes n) old
      → IsClosing nodes equations (IsEarlyConstant nodes (n + 1)) new
  closing_entered old new m c = record {
    shape = record {
      count = rw m.classes c.shape.count;
      within = rw m.classes c.shape.within;
      root = rw m.classes c.shape.root;
      rings = rw (m.classes, m.following) c.shape.rings;
      uses = λ a f x args k is h. absurd (no_function a f args k.1.0 k.1.1 is);
      users = rw m.uses c.shape.users;
    };
    sound = rw m.classes (m.entered.sound equations c.sound);
    given = λ a b h. rw m.classes (Joined-more (length nodes) (class_in old) old.pending.items new.pending.items m.entered.kept a b (c.given a b h));
    within = rw m.stale c.within;
    tabled = λ a k. rw (m.classes, m.stale) (tabled_more a k);
  } where
    no_function : (a f : ℕ) (args : List ℕ) (d : Con) → slice_get nodes a ≡ Some (Const d) → slice_get nodes a ≡ Some (Fun f args) → ⊥
    no_function a f args d is other = let i : Some (Const d) ≡ Some (Fun f args) = sym is ∙ other in absurd (cc)

    tabled_more : (a : ℕ) → IsEarlyConstant nodes (n + 1) a → Has old.stale.items a ⊎ IsTabled nodes (class_in old) new.table new.pending.items a
    tabled_more a k = elim (cases_lt a n) as (λ _. Has old.stale.items a ⊎ IsTabled nodes (class_in old) new.table new.pending.items a) [
      | inl l ↦ ⊎_elim inl (λ t. inr (m.entered.tabled a (inr t))) (c.tabled a (l, k.1))
      | inr g ↦ inr (m.entered.tabled a (inl (omega (arith, g, k.0))))
    ]

  -- all constants were looked up, and all functions are to be
  module _ (old : Closing) (c : IsClosing nodes equations (IsEarlyConstant nodes n) old) (all : length nodes ≤ n) (new : Closing) (classes : new.classes ≡ old.classes)
      (following : new.following ≡ old.following) (table : new.table ≡ old.table) (pending : new.pending ≡ old.pending) (u : AreUses nodes new.uses)
      (m : AddsFunctions nodes (length nodes) old.stale.items new.stale.items) where
    tabled_all : (a : ℕ) → Has new.stale.items a ⊎ IsTabled nodes (class_in old) old.table old.pending.items a
    tabled_all a = by (slice_get nodes a) refl where
      by : (o : Option Node) → slice_get nodes a ≡ o → Has new.stale.items a ⊎ IsTabled nodes (class_in old) old.table old.pending.items a
      by None e = inr (λ node key is keyed. let i : None ≡ Some node = sym e ∙ is in absurd (cc))
      by (Some Leaf) e = inr (λ node key is keyed. let i : Leaf ≡ node = same_Some Leaf node (sym e ∙ is) in let k : None ≡ Some key = rw (← i) at keyed in absurd (cc))
      by (Some (Const d)) e =
          let l = slice_get_within nodes a (Const d) e in
          ⊎_elim (λ o. inl (m.kept a o)) inr (c.tabled a (omega (arith, l, all), (d, e)))
      by (Some (Fun f args)) e = inl (m.added a f args (slice_get_within nodes a (Fun f args) e) e)

    pub closing_start : IsClosing nodes equations AnyNode new
    closing_start = record {
      shape = record {
        count = rw classes c.shape.count;
        within = rw classes c.shape.within;
        root = rw classes c.shape.root;
        rings = rw (classes, following) c.shape.rings;
        uses = λ a f x args k is h. u.listed a f x args is h;
        users = u.within;
      };
      sound = rw (classes, table, pending) c.sound;
      given = rw (classes, pending) c.given;
      within = λ a h. ⊎_elim (c.within a) (λ l. l) (m.fewer a h);
      tabled = λ a k. rw (classes, table, pending) (tabled_all a);
    }

-- The state where no pair of two classes waits, and after stale functions are looked up anew.
use Rattle.std.proofs.Common.{◌≡◌, ℕ, List, length, None, ◌∙◌, ap, refl, arith, ◌⊎◌, inl, inr, ⊎_elim}
use Rattle.std.specs.Prelude.{Contains}
use Rattle.cq_flat.specs.declared.node.Node.{Node}
use Rattle.cq_flat.specs.declared.closing.Closing.{Closing}
use Rattle.cq_flat.specs.Nodes.{AreSides}
use Rattle.cq_flat.specs.Partition.{Has}
use Rattle.cq_flat.specs.Closing.{Joined, same, IsTabled, IsSound, Skips}
use Rattle.cq_flat.specs.State.{class_in, AnyNode, IsShaped, IsClosing, Refreshes}
use Rattle.cq_flat.proofs.Merged.{Pairs, congruent_within}
use Rattle.cq_flat.proofs.Waiting.{Joined-map, Joined-more}
use Rattle.cq_flat.proofs.Members.{has_none}

module _ (nodes : List Node) (equations : List (ℕ × ℕ)) (sides : AreSides nodes equations) (known : ℕ → Type 0) (old : Closing) (c : IsClosing nodes equations known old) (v : Pairs)
    (k : Skips (class_in old) old.pending.items v.items None) where
  one : (a b : ℕ) → Contains {X = ℕ × ℕ} old.pending.items (a, b) → class_in old a ≡ class_in old b
  one a b h = ⊎_elim (λ o. absurd (omega (arith, (rw (k.none refl) at o).1))) (λ o. ⊎_elim (λ e. e) (λ e. absurd (cc)) o) (k.skipped a b h)

  -- what was joined is joined though no pair waits
  settled : {a b : ℕ} → Joined (length nodes) (class_in old) old.pending.items a b → Joined (length nodes) (class_in old) v.items a b
  settled = Joined-map (length nodes) (class_in old) (class_in old) old.pending.items v.items (λ a b la lb e. same la lb e)
      (λ a b h. let w = congruent_within nodes equations sides (c.sound.pairs a b h) in same w.0 w.1 (one a b h))

  pub closing_settled : IsClosing nodes equations known (record old { pending = v })
  closing_settled = record {
    shape = record {
      count = c.shape.count;
      within = c.shape.within;
      root = c.shape.root;
      rings = c.shape.rings;
      uses = c.shape.uses;
      users = c.shape.users;
    };
    sound = record { classes = c.sound.classes; entries = c.sound.entries; pairs = λ a b h. c.sound.pairs a b (k.fewer a b h) };
    given = λ a b h. settled (c.given a b h);
    within = c.within;
    tabled = λ a h. ⊎_elim inl (λ t. inr (λ node key is keyed. let o = t node key is keyed in (o.0, o.1, settled o.2))) (c.tabled a h);
  }

module _ (nodes : List Node) (equations : List (ℕ × ℕ)) (old : Closing) (c : IsClosing nodes equations AnyNode old) (new : Closing) (m : Refreshes nodes old new) where
  shape_refreshed : IsShaped nodes AnyNode new
  shape_refreshed = record {
    count = ap length m.classes ∙ c.shape.count;
    within = λ a l. rw m.classes (c.shape.within a l);
    root = λ a l. rw m.classes (c.shape.root a l);
    rings = rw (m.classes, m.following) c.shape.rings;
    uses = rw m.uses c.shape.uses;
    users = rw m.uses c.shape.users;
  }

  sound_refreshed : IsSound nodes equations (class_in new) new.table new.pending.items
  sound_refreshed = rw m.classes (m.entered.sound equations c.sound)

  given_refreshed : (a b : ℕ) → Contains {X = ℕ × ℕ} equations (a, b) → Joined (length nodes) (class_in new) new.pending.items a b
  given_refreshed a b h = rw m.classes (Joined-more (length nodes) (class_in old) old.pending.items new.pending.items m.entered.kept a b (c.given a b h))

  tabled_refreshed : (a : ℕ) → IsTabled nodes (class_in new) new.table new.pending.items a
  tabled_refreshed a = rw m.classes (m.entered.tabled a (c.tabled a tt))

  pub closing_refreshed : IsClosing nodes equations AnyNode new
  closing_refreshed = record {
    shape = shape_refreshed;
    sound = sound_refreshed;
    given = given_refreshed;
    within = λ a h. absurd (has_none a (rw m.stale at h));
    tabled = λ a h. inr (tabled_refreshed a);
  }

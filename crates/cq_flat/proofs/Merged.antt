-- The state after two classes are joined, and at the end.
use Rattle.std.proofs.Common.{◌≡◌, ◌≢◌, ℕ, zero, suc, ◌<◌, ◌≤◌, cond, eqb, List, [], ◌∷◌, length, Option, Some, None, sym, ◌∙◌, ap, refl, arith, map, ◌⊎◌, inl, inr, ⊎_elim}
use Rattle.std.proofs.lemmas.Bool.{cases_eq, eq-eqb, ne_eqb}
use Rattle.std.proofs.lemmas.List.{length-map, get_or-map}
use Rattle.std.proofs.lemmas.List.Elements.{All-head, All-tail}
use Rattle.std.proofs.lemmas.Option.{slice_get_within, get_or_from_slice_get, some_pair_parts}
use Rattle.std.specs.Prelude.{Contains, slice_get, slice_index, Vec, All}
use Rattle.std.specs.declared.alloc.Global.{Global}
use Rattle.cq_flat.specs.declared.node.Node.{Node}
use Rattle.cq_flat.specs.declared.node.Node.TheVariants.{Leaf, Const, Fun}
use Rattle.cq_flat.specs.declared.closing.Closing.{Closing}
use Rattle.cq_flat.specs.Nodes.{HasEarlierArguments, AreSides}
use Rattle.cq_flat.specs.Keys.{key_of, con_key, found}
use Rattle.cq_flat.specs.Partition.{Has, joined}
use Rattle.cq_flat.specs.Congruence as congruent
use Rattle.cq_flat.specs.Congruence.{Congruent, AllCongruent}
use Rattle.cq_flat.specs.Closing.{AreExact, Joined, same, waiting, IsSound, IsTabled, AreSound, Skips, roots_below}
use Rattle.cq_flat.specs.State.{class_in, AnyNode, IsShaped, IsClosing, Merges}
use Rattle.cq_flat.proofs.Arguments.{args_within, argument_within}
use Rattle.cq_flat.proofs.Waiting.{Joined-map, Joined-done}
use Rattle.cq_flat.proofs.Members.{has_none, has_head, has_tail}
use Rattle.cq_flat.proofs.Relabelling.{joined_from, joined_other}

abbrev pub Pairs : Type 0
Pairs = Vec (ℕ × ℕ) Global

-- congruent numbers are nodes
pub congruent_within : (nodes : List Node) (equations : List (ℕ × ℕ)) → AreSides nodes equations → {a b : ℕ} → Congruent nodes equations a b → (a < length nodes) × (b < length nodes)
congruent_within nodes equations sides (congruent.reflexive a l) = (l, l)
congruent_within nodes equations sides (congruent.symmetric c) = let o = congruent_within nodes equations sides c in (o.1, o.0)
congruent_within nodes equations sides (congruent.transitive c d) = ((congruent_within nodes equations sides c).0, (congruent_within nodes equations sides d).1)
congruent_within nodes equations sides (congruent.given {a} {b} i e) =
    rw (get_or_from_slice_get equations i (a, b) (a, b) e) at (sides i (a, b) (slice_get_within equations i (a, b) e))
congruent_within nodes equations sides (congruent.constants {a} {b} c e f) = (slice_get_within nodes a (Const c) e, slice_get_within nodes b (Const c) f)
congruent_within nodes equations sides (congruent.functions {a} {b} {xs} {ys} f d e h) = (slice_get_within nodes a (Fun f xs) d, slice_get_within nodes b (Fun f ys) e)

module _ (nodes : List Node) (early : HasEarlierArguments nodes) (equations : List (ℕ × ℕ)) (sides : AreSides nodes equations) (known : ℕ → Type 0) (old : Closing)
    (c : IsClosing nodes equations known old) (v : Pairs)
    (x y : ℕ) (k : Skips (class_in old) old.pending.items v.items (Some (x, y))) where
  -- what holds of the pair that is taken out
  pub taken_differ : x ≢ y
  taken_differ = (k.next x y refl).0

  pub taken_within : (x < length nodes) × (y < length nodes)
  taken_within =
      let o = (k.next x y refl).1 in
      let w = congruent_within nodes equations sides (c.sound.pairs o.0 o.1 o.2) in
      (rw o.3 at (c.shape.within o.0 w.0), rw o.4 at (c.shape.within o.1 w.1))

  taken_equal : Congruent nodes equations x y
  taken_equal =
      let o = (k.next x y refl).1 in
      let w = congruent_within nodes equations sides (c.sound.pairs o.0 o.1 o.2) in
      let l : Congruent nodes equations o.0 x = rw o.3 at (c.sound.classes o.0 w.0) in
      let r : Congruent nodes equations o.1 y = rw o.4 at (c.sound.classes o.1 w.1) in
      congruent.transitive (congruent.symmetric l) (congruent.transitive (c.sound.pairs o.0 o.1 o.2) r)

  pub taken_roots : (class_in old x ≡ x) × (class_in old y ≡ y)
  taken_roots =
      let o = (k.next x y refl).1 in
      let w = congruent_within nodes equations sides (c.sound.pairs o.0 o.1 o.2) in
      (rw o.3 at (c.shape.root o.0 w.0), rw o.4 at (c.shape.root o.1 w.1))

  module _ (from to : ℕ) (which : ((from ≡ x) × (to ≡ y)) ⊎ ((from ≡ y) × (to ≡ x))) (new : Closing) (m : Merges (record old { pending = v }) new from to) where
    differ : from ≢ to
    differ e = ⊎_elim (λ o. taken_differ (sym o.0 ∙ e ∙ o.1)) (λ o. taken_differ (sym o.1 ∙ sym e ∙ o.0)) which

    from_within : from < length nodes
    from_within = ⊎_elim (λ o. rw o.0 taken_within.0) (λ o. rw o.0 taken_within.1) which

    to_within : to < length nodes
    to_within = ⊎_elim (λ o. rw o.1 taken_within.1) (λ o. rw o.1 taken_within.0) which

    from_root : class_in old from ≡ from
    from_root = ⊎_elim (λ o. rw o.0 taken_roots.0) (λ o. rw o.0 taken_roots.1) which

    to_root : class_in old to ≡ to
    to_root = ⊎_elim (λ o. rw o.1 taken_roots.1) (λ o. rw o.1 taken_roots.0) which

    both_equal : Congruent nodes equations from to
    both_equal = ⊎_elim (λ o. rw (o.0, o.1) taken_equal) (λ o. rw (o.0, o.1) (congruent.symmetric taken_equal)) which

    at : (a : ℕ) → a < length nodes → class_in new a ≡ joined from to (class_in old a)
    at a l = ap (λ z. slice_index z a) m.classes ∙ get_or-map (joined from to) old.classes.items a 0 0 (omega (arith, l, c.shape.count))

    at_from : (a : ℕ) → a < length nodes → class_in old a ≡ from → class_in new a ≡ to
    at_from a l e = at a l ∙ ap (joined from to) e ∙ joined_from from to

    at_other : (a : ℕ) → a < length nodes → class_in old a ≢ from → class_in new a ≡ class_in old a
    at_other a l n = at a l ∙ joined_other from to (class_in old a) n

    sound_new : AreSound nodes equations (class_in new)
    sound_new a l = elim (cases_eq (class_in old a) from) as (λ _. Congruent nodes equations a (class_in new a)) [
      | inl e ↦ rw (at_from a l e) (congruent.transitive (rw e at (c.sound.classes a l)) both_equal)
      | inr n ↦ rw (at_other a l n) (c.sound.classes a l)
    ]

    sound_between : IsSound nodes equations (class_in new) new.table new.pending.items
    sound_between = rw (m.table, m.pending) (record { classes = sound_new; entries = c.sound.entries; pairs = λ a b h. c.sound.pairs a b (k.fewer a b h) })

    stay : (a b : ℕ) → a < length nodes → b < length nodes → class_in old a ≡ class_in old b → class_in new a ≡ class_in new b
    stay a b la lb e = at a la ∙ ap (joined from to) e ∙ sym (at b lb)

    meet : (a b : ℕ) → a < length nodes → b < length nodes → x ≡ class_in old a → y ≡ class_in old b → class_in new a ≡ class_in new b
    meet a b la lb e f = ⊎_elim
        (λ o. at_from a la (sym e ∙ sym o.0) ∙ o.1 ∙ f ∙ sym (at_other b lb (λ q. differ (sym q ∙ sym f ∙ sym o.1))))
        (λ o. at_other a la (λ q. differ (sym q ∙ sym e ∙ sym o.1)) ∙ sym e ∙ sym o.1 ∙ sym (at_from b lb (sym f ∙ sym o.0)))
        which

    between : {a b : ℕ} → Joined (length nodes) (class_in old) old.pending.items a b → Joined (length nodes) (class_in new) v.items a b
    between j = Joined-map (length nodes) (class_in old) (class_in new) old.pending.items v.items
        (λ a b la lb e. same la lb (stay a b la lb e))
        (λ a b h.
        let w = congruent_within nodes equations sides (c.sound.pairs a b h) in
        ⊎_elim waiting (λ o. ⊎_elim (λ e. same w.0 w.1 (stay a b w.0 w.1 e))
        (λ e. let p = some_pair_parts x (class_in old a) y (class_in old b) e in same w.0 w.1 (meet a b w.0 w.1 p.0 p.1)) o)
        (k.skipped a b h))
        j

    after : {a b : ℕ} → Joined (length nodes) (class_in old) old.pending.items a b → Joined (length nodes) (class_in new) new.pending.items a b
    after j = rw m.pending (between j)

    -- some argument is in the class that is joined to the other, or the key stays
    arguments : (args : List ℕ) → All (λ z. z < length nodes) args → ((z : ℕ) × Has args z × (class_in old z ≡ from)) ⊎ (map (class_in new) args ≡ map (class_in old) args)
    arguments [] h = inr refl
    arguments (z ∷ zs) h = elim (cases_eq (class_in old z) from) as (λ _. ((w : ℕ) × Has (z ∷ zs) w × (class_in old w ≡ from)) ⊎ (map (class_in new) (z ∷ zs) ≡ map (class_in old) (z ∷ zs))) [
      | inl e ↦ inl (z, has_head z zs, e)
      | inr n ↦ ⊎_elim (λ o. inl (o.0, has_tail z o.0 zs o.1, o.2))
          (λ o. inr (ap (λ w. w ∷ map (class_in new) zs) (at_other z (All-head (λ z. z < length nodes) z zs h) n) ∙ ap (λ ws. class_in old z ∷ ws) o))
          (arguments zs (All-tail (λ z. z < length nodes) z zs h))
    ]

    abbrev WasTabled : ℕ → Type 0
    WasTabled a = IsTabled nodes (class_in old) old.table old.pending.items a

    abbrev Tabled : ℕ → Type 0
    Tabled a = IsTabled nodes (class_in new) new.table new.pending.items a

    tabled_same : (a : ℕ) (node : Node) → slice_get nodes a ≡ Some node → key_of (class_in new) node ≡ key_of (class_in old) node → WasTabled a → Tabled a
    tabled_same a node is e was other key ia ka =
        let i : Some other ≡ Some node = sym ia ∙ is in
        let j : other ≡ node = cc in
        let o = was other key ia (ap (key_of (class_in old)) j ∙ sym e ∙ sym (ap (key_of (class_in new)) j) ∙ ka) in
        (o.0, ap (λ z. found z key) m.table ∙ o.1, after o.2)

    tabled_node : (a : ℕ) (node : Node) → known a → slice_get nodes a ≡ Some node → WasTabled a → Has new.stale.items a ⊎ Tabled a
    tabled_node a Leaf h is was = inr (tabled_same a Leaf is refl was)
    tabled_node a (Const d) h is was = inr (tabled_same a (Const d) is refl was)
    tabled_node a (Fun f args) h is was = ⊎_elim
        (λ o. inl (m.stale.added o.0 a (omega (arith, argument_within nodes early a f o.0 args is o.1, c.shape.count), o.2) (c.shape.uses a f o.0 args h is o.1)))
        (λ o. inr (tabled_same a (Fun f args) is (ap (λ zs. Some (0 ∷ 1 ∷ f ∷ zs)) o) was))
        (arguments args (args_within nodes early a f args is))

    tabled_between : (a : ℕ) → known a → WasTabled a → Has new.stale.items a ⊎ Tabled a
    tabled_between a h was = by (slice_get nodes a) refl where
      by : (o : Option Node) → slice_get nodes a ≡ o → Has new.stale.items a ⊎ Tabled a
      by None e = inr (λ node key is keyed. let i : None ≡ Some node = sym e ∙ is in absurd (cc))
      by (Some node) e = tabled_node a node h e was

    tabled_new : (a : ℕ) → known a → Has new.stale.items a ⊎ Tabled a
    tabled_new a h = ⊎_elim (λ o. inl (m.stale.kept a o)) (tabled_between a h) (c.tabled a h)

    stale_within : (a : ℕ) → Has new.stale.items a → a < length nodes
    stale_within a h = ⊎_elim (c.within a) (λ o. c.shape.users o.0 a o.1) (m.stale.fewer a h)

    root_new : (a : ℕ) → a < length nodes → class_in new (class_in new a) ≡ class_in new a
    root_new a l = elim (cases_eq (class_in old a) from) as (λ _. class_in new (class_in new a) ≡ class_in new a) [
      | inl e ↦ rw (at_from a l e) (at_other to to_within (λ q. differ (sym q ∙ to_root)) ∙ to_root)
      | inr n ↦ rw (at_other a l n) (at_other (class_in old a) (c.shape.within a l) (λ q. n (sym (c.shape.root a l) ∙ q)) ∙ c.shape.root a l)
    ]

    within_joined : (a : ℕ) → a < length nodes → class_in new a < length nodes
    within_joined a l = elim (cases_eq (class_in old a) from) as (λ _. class_in new a < length nodes) [
      | inl e ↦ rw (at_from a l e) to_within
      | inr n ↦ rw (at_other a l n) (c.shape.within a l)
    ]

    shape_new : IsShaped nodes known new
    shape_new = record {
      count = ap length m.classes ∙ length-map old.classes.items (joined from to) ∙ c.shape.count;
      within = within_joined;
      root = root_new;
      rings = m.rings;
      uses = rw m.uses c.shape.uses;
      users = rw m.uses c.shape.users;
    }

    pub closing_merged : IsClosing nodes equations known new
    closing_merged = record {
      shape = shape_new;
      sound = sound_between;
      given = λ a b h. after (c.given a b h);
      within = stale_within;
      tabled = tabled_new;
    }

    -- a node that is now the number of its class was that before
    root_was : (a : ℕ) → a < length nodes → class_in new a ≡ a → class_in old a ≡ a
    root_was a l e = elim (cases_eq (class_in old a) from) as (λ _. class_in old a ≡ a) [
      | inl f ↦ absurd (differ (sym f ∙ ap (class_in old) (sym e ∙ at_from a l f) ∙ to_root))
      | inr n ↦ sym (at_other a l n) ∙ e
    ]

    root_falls : class_in new from ≢ from
    root_falls e = differ (sym e ∙ at_from from from_within from_root)

    fewer_at : (a : ℕ) → a < length nodes → cond (eqb (class_in new a) a) 1 0 ≤ cond (eqb (class_in old a) a) 1 0
    fewer_at a l = elim (cases_eq (class_in new a) a) as (λ _. cond (eqb (class_in new a) a) 1 0 ≤ cond (eqb (class_in old a) a) 1 0) [
      | inl e ↦ rw (eq-eqb (class_in new a) a e, eq-eqb (class_in old a) a (root_was a l e)) (omega arith)
      | inr n ↦ rw (ne_eqb (class_in new a) a n) (omega arith)
    ]

    roots_fewer : (n : ℕ) → n ≤ length nodes → (roots_below (class_in new) n ≤ roots_below (class_in old) n) × (from < n → roots_below (class_in new) n < roots_below (class_in old) n)
    roots_fewer zero h = (omega arith, λ l. absurd (omega (arith, l)))
    roots_fewer (suc n) h =
        let o = roots_fewer n (omega (arith, h)) in
        let f = fewer_at n (omega (arith, h)) in (
          omega (arith, o.0, f),
          λ l. elim (cases_eq from n) as (λ _. roots_below (class_in new) (suc n) < roots_below (class_in old) (suc n)) [
            | inl e ↦ rw (ne_eqb (class_in new n) n (rw e at root_falls), eq-eqb (class_in old n) n (rw e at from_root)) (omega (arith, o.0))
            | inr q ↦ let s : from < n = omega (arith, l, q) in omega (arith, o.1 s, f)
          ],
        )

    pub roots_fall : roots_below (class_in new) (length nodes) < roots_below (class_in old) (length nodes)
    roots_fall = (roots_fewer (length nodes) (omega arith)).1 from_within

-- when no pair waits and no function is stale, one class is what equal nodes have
module _ (nodes : List Node) (equations : List (ℕ × ℕ)) (s : Closing) (c : IsClosing nodes equations AnyNode s) (p : s.pending.items ≡ []) (fresh : s.stale.items ≡ []) where
  done : (a b : ℕ) → Contains {X = ℕ × ℕ} s.pending.items (a, b) → class_in s a ≡ class_in s b
  done a b h = absurd (omega (arith, (rw p at h).1))

  tabled : (a : ℕ) → IsTabled nodes (class_in s) s.table s.pending.items a
  tabled a = ⊎_elim (λ o. absurd (has_none a (rw fresh at o))) (λ t. t) (c.tabled a tt)

  now : {a b : ℕ} → Joined (length nodes) (class_in s) s.pending.items a b → class_in s a ≡ class_in s b
  now j = Joined-done (length nodes) (class_in s) s.pending.items done j

  one_key : (a b : ℕ) (x y : Node) (key : List ℕ) → slice_get nodes a ≡ Some x → slice_get nodes b ≡ Some y → key_of (class_in s) x ≡ Some key → key_of (class_in s) y ≡ Some key → class_in s a ≡ class_in s b
  one_key a b x y key ia ib ka kb =
      let o = tabled a x key ia ka in
      let p = tabled b y key ib kb in
      let i : Some o.0 ≡ Some p.0 = sym o.1 ∙ p.1 in
      let j : o.0 ≡ p.0 = cc in
      now o.2 ∙ ap (class_in s) j ∙ sym (now p.2)

  mutual
    one_class : {a b : ℕ} → Congruent nodes equations a b → class_in s a ≡ class_in s b
    one_class (congruent.reflexive a l) = refl
    one_class (congruent.symmetric d) = sym (one_class d)
    one_class (congruent.transitive d f) = one_class d ∙ one_class f
    one_class (congruent.given {a} {b} i h) = now (c.given a b (i, slice_get_within equations i (a, b) h, get_or_from_slice_get equations i (a, b) (a, b) h))
    one_class (congruent.constants {a} {b} d ia ib) = one_key a b (Const d) (Const d) (con_key d) ia ib refl refl
    one_class (congruent.functions {a} {b} {xs} {ys} f ia ib h) =
        one_key a b (Fun f xs) (Fun f ys) (0 ∷ 1 ∷ f ∷ map (class_in s) xs) ia ib refl (ap (λ zs. Some (0 ∷ 1 ∷ f ∷ zs)) (sym (one_list h)))

    one_list : {xs ys : List ℕ} → AllCongruent nodes equations xs ys → map (class_in s) xs ≡ map (class_in s) ys
    one_list congruent.none = refl
    one_list (congruent.more d ds) = rw (one_class d, one_list ds) refl

  one_back : (a b : ℕ) → a < length nodes → b < length nodes → class_in s a ≡ class_in s b → Congruent nodes equations a b
  one_back a b la lb h = congruent.transitive (c.sound.classes a la) (rw h (congruent.symmetric (c.sound.classes b lb)))

  pub closing_end : AreExact nodes equations s.classes.items
  closing_end = record {
    count = c.shape.count;
    within = c.shape.within;
    exact = λ a b la lb. (one_back a b la lb, one_class);
  }

-- Nodes are put into the table at their keys.
use Rattle.std.proofs.Common.{◌≡◌, ℕ, ◌+◌, ◌<◌, Bool, true, false, cond, List, [], ◌∷◌, ◌++◌, length, get_or, take, Some, None, sym, ◌∙◌, ap, refl, ◌⊎◌, inl, inr, ⊎_elim}
use Rattle.std.proofs.lemmas.Bool.{false≢true}
use Rattle.std.proofs.lemmas.Option.{slice_get_within}
use Rattle.std.proofs.lemmas.List.Elements.{Contains-append_left, Contains-push, Contains-push_cases}
use Rattle.std.specs.Cmp.Lexicographic.{same_text, nat_list_eq_equiv}
use Rattle.std.specs.Prelude.{Contains, slice_get}
use Rattle.cq_flat.specs.declared.node.Node.{Node}
use Rattle.cq_flat.specs.Nodes.{HasEarlierArguments}
use Rattle.cq_flat.specs.Keys.{key_of, found, same_key}
use Rattle.cq_flat.specs.Partition.{Has}
use Rattle.cq_flat.specs.Congruence.{Congruent}
use Rattle.cq_flat.specs.Closing.{Joined, same, waiting, symmetric, transitive, IsTabled, IsSound, IsEntry, Enters}
use Rattle.cq_flat.proofs.Arguments.{equal_keys}
use Rattle.cq_flat.proofs.Waiting.{Joined-more}
use Rattle.cq_flat.proofs.Members.{has_none, has_more}

-- two keys are equal or not
pub key_cases : (k q : List ℕ) → ((same_key k q ≡ true) × (k ≡ q)) ⊎ (same_key k q ≡ false)
key_cases k q = by (same_key k q) refl where
  by : (b : Bool) → same_key k q ≡ b → ((same_key k q ≡ true) × (k ≡ q)) ⊎ (same_key k q ≡ false)
  by true e = inl (e, same_text k q (sym e))
  by false e = inr e

pub same_itself : (k : List ℕ) → same_key k k ≡ true
same_itself k = nat_list_eq_equiv.refl k

module _ (nodes : List Node) (early : HasEarlierArguments nodes) (class : ℕ → ℕ) (table table' : List (List ℕ × ℕ)) (pending pending' : List (ℕ × ℕ)) (u : ℕ) (x : Node) (key : List ℕ)
    (is : slice_get nodes u ≡ Some x) (keyed : key_of class x ≡ Some key)
    (put : (q : List ℕ) → found table' q ≡ cond (same_key key q) (Some u) (found table q))
    (kept : (a b : ℕ) → Contains {X = ℕ × ℕ} pending (a, b) → Contains {X = ℕ × ℕ} pending' (a, b))
    (fresh : (a b : ℕ) → Contains {X = ℕ × ℕ} pending' (a, b) → Contains {X = ℕ × ℕ} pending (a, b) ⊎ ((a ≡ u) × (found table key ≡ Some b)))
    (waits : (b : ℕ) → found table key ≡ Some b → Contains {X = ℕ × ℕ} pending' (u, b)) where
  at_key : (q : List ℕ) → same_key key q ≡ true → found table' q ≡ Some u
  at_key q e = put q ∙ rw e refl

  at_other : (q : List ℕ) → same_key key q ≡ false → found table' q ≡ found table q
  at_other q e = put q ∙ rw e refl

  module _ (equations : List (ℕ × ℕ)) (s : IsSound nodes equations class table pending) where
    entry_at : (q : List ℕ) (a : ℕ) → key ≡ q → a ≡ u → IsEntry nodes equations q a
    entry_at q a e f = record { class = class; sound = s.classes; node = x; is = rw f is; keyed = keyed ∙ ap Some e }

    entries_put : (q : List ℕ) (a : ℕ) → found table' q ≡ Some a → IsEntry nodes equations q a
    entries_put q a f = elim (key_cases key q) as (λ _. IsEntry nodes equations q a) [
      | inl e ↦
          let i : Some u ≡ Some a = sym (at_key q e.0) ∙ f in
          let j : a ≡ u = cc in
          entry_at q a e.1 j
      | inr e ↦ s.entries q a (sym (at_other q e) ∙ f)
    ]

    pair_put : (b : ℕ) → found table key ≡ Some b → Congruent nodes equations u b
    pair_put b f =
        let o = s.entries key b f in
        equal_keys nodes early equations class o.class s.classes o.sound u b x o.node key is o.is keyed o.keyed

    sound_put : IsSound nodes equations class table' pending'
    sound_put = record {
      classes = s.classes;
      entries = entries_put;
      pairs = λ a b c. ⊎_elim (λ o. s.pairs a b o) (λ o. rw o.0 (pair_put b o.1)) (fresh a b c);
    }

  within : u < length nodes
  within = slice_get_within nodes u x is

  tabled_put : (a : ℕ) → (a ≡ u) ⊎ IsTabled nodes class table pending a → IsTabled nodes class table' pending' a
  tabled_put a h node k ia ka = elim (key_cases key k) as (λ _. (b : ℕ) × (found table' k ≡ Some b) × Joined (length nodes) class pending' a b) [
    | inl e ↦ (
      u,
      at_key k e.0,
      ⊎_elim (λ i. rw i (same within within refl))
          (λ t.
          let o = t node k ia ka in
          transitive (Joined-more (length nodes) class pending pending' kept a o.0 o.2) (symmetric (waiting (waits o.0 (rw e.1 o.1)))))
          h,
    )
    | inr e ↦
        ⊎_elim (λ i. absurd (false≢true (sym e ∙ ap (same_key key) (own a node k ia ka i) ∙ same_itself key)))
        (λ t.
        let o = t node k ia ka in
        (o.0, at_other k e ∙ o.1, Joined-more (length nodes) class pending pending' kept a o.0 o.2))
        h
  ] where
    own : (a : ℕ) (node : Node) (k : List ℕ) → slice_get nodes a ≡ Some node → key_of class node ≡ Some k → a ≡ u → k ≡ key
    own a node k ia ka i =
        let j : Some node ≡ Some x = sym ia ∙ ap (slice_get nodes) i ∙ is in
        let m : node ≡ x = cc in
        let o : Some k ≡ Some key = sym ka ∙ ap (key_of class) m ∙ keyed in
        cc

  pub enters_put : Enters nodes class (λ a. a ≡ u) table table' pending pending'
  enters_put = record { sound = sound_put; kept = kept; tabled = tabled_put }

module _ (nodes : List Node) (early : HasEarlierArguments nodes) (class : ℕ → ℕ) (table table' : List (List ℕ × ℕ)) (pending : List (ℕ × ℕ)) (u : ℕ) (x : Node) (key : List ℕ)
    (is : slice_get nodes u ≡ Some x) (keyed : key_of class x ≡ Some key)
    (put : (q : List ℕ) → found table' q ≡ cond (same_key key q) (Some u) (found table q)) where
  -- the first node with its key
  pub enters_first : found table key ≡ None → Enters nodes class (λ a. a ≡ u) table table' pending pending
  enters_first e = enters_put nodes early class table table' pending pending u x key is keyed put (λ a b c. c) (λ a b c. inl c)
      (λ b f. let n : None ≡ Some b = sym e ∙ f in absurd (cc))

  -- there is a node with its key
  pub enters_again : (pending' : List (ℕ × ℕ)) (earlier : ℕ) → found table key ≡ Some earlier → pending' ≡ pending ++ (u, earlier) ∷ [] → Enters nodes class (λ a. a ≡ u) table table' pending pending'
  enters_again pending' earlier e p =
      enters_put nodes early class table table' pending pending' u x key is keyed put
      (λ a b c. rw p (Contains-append_left pending ((u, earlier) ∷ []) (a, b) c))
      (λ a b c. ⊎_elim inl (λ (i : ◌≡◌ {A = ℕ × ℕ} (u, earlier) (a, b)). inr (sym (ap (λ (z : ℕ × ℕ). z.0) i), e ∙ ap (λ (z : ℕ × ℕ). Some z.1) i))
      (Contains-push_cases pending (u, earlier) (a, b) (rw p at c)))
      (λ b f. let n : Some earlier ≡ Some b = sym e ∙ f in let m : earlier ≡ b = cc in rw (p, ← m) (Contains-push pending (u, earlier)))

module _ (nodes : List Node) (class : ℕ → ℕ) where
  pub enters_none : (table : List (List ℕ × ℕ)) (pending : List (ℕ × ℕ)) → Enters nodes class (Has []) table table pending pending
  enters_none table pending = record { sound = λ equations s. s; kept = λ a b c. c; tabled = λ a h. ⊎_elim (λ n. absurd (has_none a n)) (λ t. t) h }

  pub enters_more : (table one two : List (List ℕ × ℕ)) (pending first second : List (ℕ × ℕ)) (entered : List ℕ) (i : ℕ) → i < length entered
      → Enters nodes class (Has (take i entered)) table one pending first → Enters nodes class (λ a. a ≡ get_or entered i 0) one two first second
      → Enters nodes class (Has (take (i + 1) entered)) table two pending second
  enters_more table one two pending first second entered i l e f = record {
    sound = λ equations s. f.sound equations (e.sound equations s);
    kept = λ a b c. f.kept a b (e.kept a b c);
    tabled = λ a h. f.tabled a (⊎_elim (λ m. ⊎_elim (λ n. inr (e.tabled a (inl n))) (λ n. inl (sym n)) (has_more entered i a l m)) (λ t. inr (e.tabled a (inr t))) h);
  }

  -- of nodes that were put into the table, some are named
  pub enters_some : (table table' : List (List ℕ × ℕ)) (pending pending' : List (ℕ × ℕ)) (entered some : ℕ → Type 0) → ((a : ℕ) → some a → entered a)
      → Enters nodes class entered table table' pending pending' → Enters nodes class some table table' pending pending'
  enters_some table table' pending pending' entered some fewer e = record {
    sound = e.sound;
    kept = e.kept;
    tabled = λ a h. e.tabled a (⊎_elim (λ o. inl (fewer a o)) inr h);
  }

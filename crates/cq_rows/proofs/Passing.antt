-- Passes over the equations, which go on after a merge.
use Rattle.std.proofs.Common.{◌≡◌, ℕ, ◌+◌, ◌<◌, ◌≤◌, Bool, true, false, List, length, get_or, Some, refl, sym, ◌∙◌, ap, subst, arith, ⊎_elim, ◌⊎◌, inl, inr}
use Rattle.std.proofs.lemmas.Bool.{cases_Bool, false≢true}
use Rattle.std.specs.Prelude.{slice_get, IsSome}
use Rattle.cq_tables.specs.Content.{Content, live_of, entity_of, end_of, IsWhole, keys_of}
use Rattle.cq_rows.specs.Theory.{Term, Rule, Theory, IsTheory, Derives}
use Rattle.cq_rows.specs.declared.entries.Entries.{Entries}
use Rattle.cq_rows.specs.Entries.{rows_of, IsCurrent}
use Rattle.cq_rows.specs.Rows.{IsSound, IsImage, IsSame, Passes, Continues, RuleHolds, GivenHolds, RulesHold, GivenHold, RuleJoins, GivenJoins, Agree, HoldIfLive, live_count}
use Rattle.cq_rows.proofs.Cells.{found_here, below_or_at}
use Rattle.cq_rows.proofs.Equations.{HoldUnder}
use Rattle.cq_rows.proofs.Settling.{IsSettling-start, IsSettling-merged, settling_then}

pub Passes-start : (s : Theory) (m : Content) (e : Entries) (hold : Type 0) → IsWhole m → IsCurrent m e → hold → Passes s m m e e false hold
Passes-start s m e hold w c h = record { settling = IsSettling-start s m e w c; still = λ f. (refl, refl, h); fewer = λ f. absurd (false≢true f) }

pub not_more : (s : Theory) (old m : Content) (e_old e : Entries) (merged : Bool) (hold : Type 0) → Passes s old m e_old e merged hold → live_count m ≤ live_count old
not_more s old m e_old e merged hold p = elim (cases_Bool merged) as (λ _. live_count m ≤ live_count old) [
  | inl t ↦ omega (arith, p.fewer t)
  | inr f ↦ omega (arith, ap live_count (p.still f).0)
]

-- nothing was merged in this turn
pub Passes-keep : (s : Theory) (old m : Content) (e_old e : Entries) (merged : Bool) (hold next : Type 0) → Passes s old m e_old e merged hold → (m ≡ old → e ≡ e_old → hold → next) → Passes s old m e_old e merged next
Passes-keep s old m e_old e merged hold next p f = record {
  settling = p.settling;
  still = λ g. let o = p.still g in (o.0, o.1, f o.0 o.1 o.2);
  fewer = p.fewer;
}

-- two rows were merged in this turn
pub Passes-merged : (s : Theory) (old m m' : Content) (e_old e e' : Entries) (merged : Bool) (hold next : Type 0) (a b : ℕ) → IsTheory s → length (rows_of e_old) ≡ length s.generators
    → Passes s old m e_old e merged hold → RuleJoins s m a b ⊎ GivenJoins s m (rows_of e) a b → IsWhole m' → IsCurrent m' e' → (rep : ℕ → ℕ) × IsImage m m' (rows_of e) (rows_of e') rep IsSame
    → ((t : Theory) (terms : ℕ → Term) → IsSound t m (rows_of e) terms → length t.generators ≡ length (rows_of e) → Derives t (terms a) (terms b) → IsSound t m' (rows_of e') terms)
    → live_count m' < live_count m → Passes s old m' e_old e' true next
Passes-merged s old m m' e_old e e' merged hold next a b th n p j w c i snd less = record {
  settling = IsSettling-merged s old m m' e_old e e' a b th n p.settling j w c i snd;
  still = λ f. absurd (false≢true (sym f));
  fewer = λ _. omega (arith, less, not_more s old m e_old e merged hold p);
}

-- a pass that merged, within another
pub Passes-inner : (s : Theory) (old m m' : Content) (e_old e e' : Entries) (merged inner : Bool) (hold part next : Type 0) → inner ≡ true
    → Passes s old m e_old e merged hold → Passes s m m' e e' inner part → Passes s old m' e_old e' true next
Passes-inner s old m m' e_old e e' merged inner hold part next is p q = record {
  settling = settling_then s old m m' e_old e e' p.settling q.settling;
  still = λ f. absurd (false≢true (sym f));
  fewer = λ _. omega (arith, q.fewer is, not_more s old m e_old e merged hold p);
}

-- a pass that didn't, within another
pub Passes-outer : (s : Theory) (old m m' : Content) (e_old e e' : Entries) (merged inner : Bool) (hold next : Type 0) (part : Type 0) → inner ≡ false
    → Passes s old m e_old e merged hold → Passes s m m' e e' inner part → (m ≡ old → hold → part → next) → Passes s old m' e_old e' merged next
Passes-outer s old m m' e_old e e' merged inner hold next part is p q f =
    let o = q.still is in
    rw (o.0, o.1) (Passes-keep s old m e_old e merged hold next p (λ x _ h. f x h o.2))

-- a pass over the path equations, and one over the equations of the presentation that merged nothing
pub Passes-both : (s : Theory) (old m m' : Content) (e_old e e' : Entries) (before now : Bool) → now ≡ false
    → Passes s old m e_old e before (RulesHold s old) → Passes s m m' e e' now (GivenHold s m (rows_of e)) → Passes s old m' e_old e' before (RulesHold s old × GivenHold s old (rows_of e_old))
Passes-both s old m m' e_old e e' before now is p q =
    let o = q.still is in
    rw (o.0, o.1) (Passes-keep s old m e_old e before (RulesHold s old) _ p (λ x y h. (h, subst (λ (c : Content). GivenHold s c (rows_of e_old)) x (subst (λ (d : Entries). GivenHold s m (rows_of d)) y o.2))))

-- what a pass leaves, whether it merged or not
pub Passes-continues : (s : Theory) (old m : Content) (e_old e : Entries) (merged : Bool) (hold : Type 0) → Passes s old m e_old e merged hold → Continues s old m e_old e
Passes-continues s old m e_old e merged hold p = record { settling = p.settling; no_more = not_more s old m e_old e merged hold p }

pub Continues-start : (s : Theory) (m : Content) (e : Entries) → IsWhole m → IsCurrent m e → Continues s m m e e
Continues-start s m e w c = record { settling = IsSettling-start s m e w c; no_more = omega arith }

pub Continues-then : (s : Theory) (a b c : Content) (e_a e_b e_c : Entries) → Continues s a b e_a e_b → Continues s b c e_b e_c → Continues s a c e_a e_c
Continues-then s a b c e_a e_b e_c x y = record {
  settling = settling_then s a b c e_a e_b e_c x.settling y.settling;
  no_more = omega (arith, x.no_more, y.no_more);
}

-- further merging after a pass that merged
pub Passes-further : (s : Theory) (old m m' : Content) (e_old e e' : Entries) (hold next : Type 0) → Passes s old m e_old e true hold → Continues s m m' e e' → Passes s old m' e_old e' true next
Passes-further s old m m' e_old e e' hold next p c = record {
  settling = settling_then s old m m' e_old e e' p.settling c.settling;
  still = λ f. absurd (false≢true (sym f));
  fewer = λ t. omega (arith, p.fewer t, c.no_more);
}

-- two rows that an equation joins were merged
pub Passes-joined : (s : Theory) (m m' : Content) (e e' : Entries) (next : Type 0) (a b : ℕ) → IsTheory s → length (rows_of e) ≡ length s.generators → IsWhole m → IsCurrent m e
    → RuleJoins s m a b ⊎ GivenJoins s m (rows_of e) a b → IsWhole m' → IsCurrent m' e' → (rep : ℕ → ℕ) × IsImage m m' (rows_of e) (rows_of e') rep IsSame
    → ((t : Theory) (terms : ℕ → Term) → IsSound t m (rows_of e) terms → length t.generators ≡ length (rows_of e) → Derives t (terms a) (terms b) → IsSound t m' (rows_of e') terms)
    → live_count m' < live_count m → Passes s m m' e e' true next
Passes-joined s m m' e e' next a b th n w c j w' c' i snd less =
    Passes-merged s m m m' e e e' false (Unit {0}) next a b th n (Passes-start s m e (Unit {0}) w c tt) j w' c' i snd less

-- both sides of a path equation can be followed from a row of its entity
pub rule_sides : (s : Theory) (m : Content) (row i : ℕ) (u : Rule) → IsTheory s → (keys_of m) ≡ s.keys → slice_get s.rules i ≡ Some u → u.entity ≡ entity_of m row
    → IsSome (end_of (keys_of m) (entity_of m row) u.left) × (end_of (keys_of m) (entity_of m row) u.right ≡ end_of (keys_of m) (entity_of m row) u.left)
rule_sides s m row i u th k f e =
    let r = th.rules i u f in
    sides (keys_of m) s.keys (entity_of m row) u.entity u.left u.right r.target k (sym e) r.left r.right
  where
    sides : (a b : List (ℕ × ℕ)) (c d : ℕ) (p q : List ℕ) (t : ℕ) → a ≡ b → c ≡ d → end_of b d p ≡ Some t → end_of b d q ≡ Some t → IsSome (end_of a c p) × (end_of a c q ≡ end_of a c p)
    sides a b c d p q t ea ec l r = rw (ea, ec, l, r) (refl, refl)

-- a path equation that was read holds at a row
pub rule_holds : (s : Theory) (m : Content) (row i : ℕ) (x : Rule) → i < length s.rules → x ≡ get_or s.rules i x → (live_of m row ≡ true → entity_of m row ≡ x.entity → Agree m row x.left row x.right) → RuleHolds s m row i
rule_holds s m row i x within is here l u f e a c ta tc =
    let o = found_here s.rules i i x u within is refl f in
    here l (e ∙ ap (λ (z : Rule). z.entity) o) a c (rw o at ta) (rw o at tc)

-- one more equation of the presentation holds
pub one_more_given : (s : Theory) (m old : Content) (e e_old : Entries) (i : ℕ) → m ≡ old → e ≡ e_old → GivenHolds s m (rows_of e) i → HoldUnder s old (rows_of e_old) i → HoldUnder s old (rows_of e_old) (i + 1)
one_more_given s m old e e_old i is same here before j t u b f =
    let h : GivenHolds s old (rows_of e_old) i = rw (← is, ← same) here in
    ⊎_elim (λ p. before j t u p f) (λ q. h t u (rw q at f)) (below_or_at j i b)

-- one more row at which the path equations hold
pub one_more_row : (s : Theory) (old m : Content) (row : ℕ) → m ≡ old → ((r : ℕ) → r < row → HoldIfLive s old r) → HoldIfLive s m row → (r : ℕ) → r < row + 1 → HoldIfLive s old r
one_more_row s old m row e before here r b = ⊎_elim (λ l. before r l) (λ q. rw q (rw e at here)) (below_or_at r row b)

-- A reader before which words that are left out are refused as such.
use Rattle.std.proofs.Common.{◌≡◌, ℕ, zero, suc, ◌≤◌, ◌<◌, List, [], ◌∷◌, ◌++◌, length, true, false, ◌⊎◌, inl, inr, refl, sym, ap, arith, subst}
use Rattle.cq_lex.specs.declared.token.Token.{Token}
use Rattle.cq_rules.specs.declared.why.Why.{Why}
use Rattle.cq_rules.specs.declared.why.Why.TheVariants.{Wanted, LeftOut, Deep, BadOption}
use Rattle.cq_rules.specs.Outcome.{Out, Took, Stop, Tokens, Outs, IsNamed, out_or, read_or}
use Rattle.cq_rules.specs.Relations.{InOr, NotOut, Viable}
use Rattle.cq_rules.proofs.Laws.{Taken, Halted, AtHead, Begins, Clear, Meets, Leading, HaltsBy, left, Agree, stop, Laws}
use Rattle.cq_rules.proofs.Seq.{give_left_out}

module _ {A : Type 0} (R : List Token → A → Type 0) (F : A → Type 0) (D : List Token → Token → Why → Type 0) (p : List Token → Out A) (s m : Tokens) (out : Outs) (one : Laws R F D p s false m) (apart : (t : Token) → s t ≡ true → out t ≡ 0) where
  sound_at : (k : ℕ) (t : Token) (ts : List Token) (a : A) (rest : List Token) → out_or k (p (t ∷ ts)) (t ∷ ts) ≡ Took a rest → Taken R F (t ∷ ts) a rest
  sound_at zero t ts a rest e = one.sound (t ∷ ts) a rest e
  sound_at (suc k) t ts a rest e = absurd (cc e)

  sound : (ts : List Token) (a : A) (rest : List Token) → read_or out p ts ≡ Took a rest → Taken R F ts a rest
  sound [] a rest e = one.sound [] a rest e
  sound (t ∷ ts) a rest e = sound_at (out t) t ts a rest e

  halts_one : (front at : List Token) (t : Token) (ts : List Token) (w : Why) → t ∷ ts ≡ front ++ at → out t ≡ 0 → AtHead (λ u. D front u w) at → AtHead (λ u. InOr out D front u w) at
  halts_one front [] t ts w e z h = tt
  halts_one [] (u ∷ us) t ts w e z h = let same : t ≡ u = cc e in inl (h, give_left_out (out u ≡ 0) w (subst (λ x. out x ≡ 0) same z))
  halts_one (v ∷ vs) (u ∷ us) t ts w e z h = inl (h, tt)

  halted_one : (t : Token) (ts : List Token) (w : Why) (at : List Token) → out t ≡ 0 → p (t ∷ ts) ≡ Stop w at → Halted R (InOr out D) (t ∷ ts) w at
  halted_one t ts w at z e =
      let h = one.halted (t ∷ ts) w at e in
      record {
        front = h.front;
        split = h.split;
        tail = h.tail;
        value = h.value;
        spells = h.spells;
        begins = h.begins;
        halts = halts_one h.front at t ts w h.split z h.halts;
      }

  halted_here : (k : ℕ) (t : Token) (ts : List Token) → out t ≡ suc k → Halted R (InOr out D) (t ∷ ts) (LeftOut (suc k)) (t ∷ ts)
  halted_here k t ts e =
      let some = one.short in
      record {
        front = [];
        split = refl;
        tail = some.0;
        value = some.1;
        spells = some.2;
        begins = λ l. absurd l;
        halts = inr (refl, omega (arith, e), ap (λ z. LeftOut z) (sym e));
      }

  halted_at : (k : ℕ) (t : Token) (ts : List Token) (w : Why) (at : List Token) → out t ≡ k → out_or k (p (t ∷ ts)) (t ∷ ts) ≡ Stop w at → Halted R (InOr out D) (t ∷ ts) w at
  halted_at zero t ts w at z e = halted_one t ts w at z e
  halted_at (suc k) t ts w at z e =
      let here : t ∷ ts ≡ at = cc e in
      let why : LeftOut (suc k) ≡ w = cc e in
      subst (λ y. Halted R (InOr out D) (t ∷ ts) w y) here (subst (λ y. Halted R (InOr out D) (t ∷ ts) y (t ∷ ts)) why (halted_here k t ts z))

  no_head : (front at : List Token) (w : Why) → [] ≡ front ++ at → AtHead (λ u. InOr out D front u w) at
  no_head front [] w e = tt
  no_head [] (u ∷ us) w e = absurd (cc e)
  no_head (v ∷ vs) (u ∷ us) w e = absurd (cc e)

  halted : (ts : List Token) (w : Why) (at : List Token) → read_or out p ts ≡ Stop w at → Halted R (InOr out D) ts w at
  halted [] w at e =
      let h = one.halted [] w at e in
      record {
        front = h.front;
        split = h.split;
        tail = h.tail;
        value = h.value;
        spells = h.spells;
        begins = h.begins;
        halts = no_head h.front at w h.split;
      }
  halted (t ∷ ts) w at e = halted_at (out t) t ts w at refl e

  -- where a text begins, nothing is left out
  reads : (ts rest : List Token) → Begins s false ts → read_or out p (ts ++ rest) ≡ p (ts ++ rest)
  reads [] rest b = absurd (cc b)
  reads (t ∷ ts) rest b = rw (apart t b) refl

  complete : (ts : List Token) (a : A) (rest : List Token) → R ts a → Clear m rest → Meets F a rest (read_or out p (ts ++ rest))
  complete ts a rest r c = subst (Meets F a rest) (sym (reads ts rest (one.starts ts a r))) (one.complete ts a rest r c)

  onward : (ts : List Token) (a : A) (t : Token) (rest : List Token) → R ts a → Meets F a (t ∷ rest) (read_or out p (ts ++ t ∷ rest)) ⊎ Viable R (ts ++ t ∷ [])
  onward ts a t rest r =
      subst (λ o. Meets F a (t ∷ rest) o ⊎ Viable R (ts ++ t ∷ [])) (sym (reads ts (t ∷ rest) (one.starts ts a r))) (one.onward ts a t rest r)

  local_here : (k : ℕ) (t : Token) (rest rest' : List Token) → Agree t rest rest' [] (out_or k (p (t ∷ rest)) (t ∷ rest)) (out_or k (p (t ∷ rest')) (t ∷ rest'))
  local_here zero t rest rest' = one.local [] t rest rest'
  local_here (suc k) t rest rest' = stop (LeftOut (suc k)) [] refl refl

  local_at : (k : ℕ) (u : Token) (pre : List Token) (t : Token) (rest rest' : List Token) → Agree t rest rest' (u ∷ pre) (out_or k (p (u ∷ (pre ++ t ∷ rest))) (u ∷ (pre ++ t ∷ rest))) (out_or k (p (u ∷ (pre ++ t ∷ rest'))) (u ∷ (pre ++ t ∷ rest')))
  local_at zero u pre t rest rest' = one.local (u ∷ pre) t rest rest'
  local_at (suc k) u pre t rest rest' = stop (LeftOut (suc k)) (u ∷ pre) refl refl

  local : (pre : List Token) (t : Token) (rest rest' : List Token) → Agree t rest rest' pre (read_or out p (pre ++ t ∷ rest)) (read_or out p (pre ++ t ∷ rest'))
  local [] t rest rest' = local_here (out t) t rest rest'
  local (u ∷ pre) t rest rest' = local_at (out u) u pre t rest rest'

  back_at : (k : ℕ) (t : Token) (ts : List Token) → length (left (out_or k (p (t ∷ ts)) (t ∷ ts))) ≤ length (t ∷ ts)
  back_at zero t ts = one.back (t ∷ ts)
  back_at (suc k) t ts = omega arith

  back : (ts : List Token) → length (left (read_or out p ts)) ≤ length ts
  back [] = one.back []
  back (t ∷ ts) = back_at (out t) t ts

  -- a token that the reader itself refuses isn't left out before it
  passes : (pre : List Token) (t : Token) (w : Why) (rest : List Token) → IsNamed w → NotOut out pre t w → Leading s pre t w → read_or out p (pre ++ t ∷ rest) ≡ p (pre ++ t ∷ rest)
  passes (u ∷ us) t w rest l x b = rw (apart u b) refl
  passes [] t Wanted rest l x b = absurd l
  passes [] t (LeftOut n) rest l x b = rw x refl
  passes [] t Deep rest l x b = rw (apart t b) refl
  passes [] t (BadOption o) rest l x b = rw (apart t b) refl

  refused : (k : ℕ) (t : Token) (rest : List Token) → out t ≡ k → 0 < k → read_or out p (t ∷ rest) ≡ Stop (LeftOut (out t)) (t ∷ rest)
  refused zero t rest e h = absurd (omega arith)
  refused (suc k) t rest e h = rw e refl

  limited : (pre : List Token) (t : Token) (w : Why) (rest : List Token) → InOr out D pre t w → IsNamed w → HaltsBy w (t ∷ rest) (read_or out p (pre ++ t ∷ rest))
  limited pre t w rest (inl d) l =
      subst (HaltsBy w (t ∷ rest)) (sym (passes pre t w rest l d.1 (one.limits pre t w d.0 l))) (one.limited pre t w rest d.0 l)
  limited pre t w rest (inr d) l =
      subst (λ y. HaltsBy w (t ∷ rest) (read_or out p (y ++ t ∷ rest))) (sym d.0) (LeftOut (out t), [], refused (out t) t rest refl d.1, λ z. sym d.2)

  leading_out : (t : Token) (w : Why) (k : ℕ) → w ≡ LeftOut k → Leading s [] t w
  leading_out t w k e = subst (Leading s [] t) (sym e) tt

  limits : (pre : List Token) (t : Token) (w : Why) → InOr out D pre t w → IsNamed w → Leading s pre t w
  limits pre t w (inl d) l = one.limits pre t w d.0 l
  limits pre t w (inr d) l = subst (λ y. Leading s y t w) (sym d.0) (leading_out t w (out t) d.2)

  pub or_laws : Laws R F (InOr out D) (read_or out p) s false m
  or_laws = record {
    sound = sound;
    halted = halted;
    starts = one.starts;
    complete = complete;
    onward = onward;
    local = local;
    back = back;
    short = one.short;
    tight = one.tight;
    nil = one.nil;
    limited = limited;
    limits = limits;
  }

-- One token of a set, whose value has to pass a test.
use Rattle.std.proofs.Common.{◌≡◌, ◌≤◌, List, [], ◌∷◌, ◌++◌, length, Bool, true, false, inl, inr, refl, sym, ap, arith, subst}
use Rattle.cq_lex.specs.declared.token.Token.{Token}
use Rattle.cq_rules.specs.declared.why.Why.{Why}
use Rattle.cq_rules.specs.declared.why.Why.TheVariants.{Wanted}
use Rattle.cq_rules.specs.Outcome.{Out, Took, Stop, Tokens, IsLimit, IsNamed, pick, read_guard}
use Rattle.cq_rules.specs.Relations.{One, AtGuard}
use Rattle.cq_rules.proofs.Laws.{Taken, Halted, Begins, Clear, Meets, Leading, of_limit, HaltsBy, left, Agree, took, stop, past, Laws}
use Rattle.cq_rules.proofs.Keep.{nothing}

module _ {A : Type 0} (f : Token → A) (s : Tokens) (ok : A → Bool) (v : Why) (v_limit : IsLimit v) (x : Token) (x_in : s x ≡ true) where
  abbrev F : A → Type 0
  F a = ok a ≡ true

  abbrev D : List Token → Token → Why → Type 0
  D = AtGuard f s ok v

  abbrev guarded : Bool → Bool → Token → List Token → Out A
  guarded b c t ts = pick b (pick c (Took (f t) ts) (Stop v (t ∷ ts))) (Stop Wanted (t ∷ ts))

  sound_at : (b c : Bool) (t : Token) (ts : List Token) (a : A) (rest : List Token) → s t ≡ b → ok (f t) ≡ c → guarded b c t ts ≡ Took a rest → Taken (One f s) F (t ∷ ts) a rest
  sound_at true true t ts a rest h k e =
      let is : f t ≡ a = cc e in
      record { front = t ∷ []; split = let same : ts ≡ rest = cc e in ap (λ z. t ∷ z) same; spells = (t, refl, h, sym is); fits = subst F is k }
  sound_at true false t ts a rest h k e = absurd (cc e)
  sound_at false c t ts a rest h k e = absurd (cc e)

  sound : (ts : List Token) (a : A) (rest : List Token) → read_guard f s ok v ts ≡ Took a rest → Taken (One f s) F ts a rest
  sound [] a rest e = absurd (cc e)
  sound (t ∷ ts) a rest e = sound_at (s t) (ok (f t)) t ts a rest refl refl e

  halted_wanted : (ts : List Token) → Halted (One f s) D ts Wanted ts
  halted_wanted [] = record { front = []; split = refl; tail = x ∷ []; value = f x; spells = (x, refl, x_in, refl); begins = λ k. absurd k; halts = tt }
  halted_wanted (t ∷ ts) = record { front = []; split = refl; tail = x ∷ []; value = f x; spells = (x, refl, x_in, refl); begins = λ k. absurd k; halts = (refl, inl refl) }

  halted_here : (t : Token) (ts : List Token) → s t ≡ true → ok (f t) ≡ false → Halted (One f s) D (t ∷ ts) v (t ∷ ts)
  halted_here t ts h k =
      record { front = []; split = refl; tail = t ∷ []; value = f t; spells = (t, refl, h, refl); begins = λ z. (t, ts, [], refl, refl); halts = (refl, inr (refl, h, k)) }

  move : (ts : List Token) (w w' : Why) (at at' : List Token) → w ≡ w' → at ≡ at' → Halted (One f s) D ts w at → Halted (One f s) D ts w' at'
  move ts w w' at at' e g h = subst (λ z. Halted (One f s) D ts w' z) g (subst (λ z. Halted (One f s) D ts z at) e h)

  halted_at : (b c : Bool) (t : Token) (ts : List Token) (w : Why) (at : List Token) → s t ≡ b → ok (f t) ≡ c → guarded b c t ts ≡ Stop w at → Halted (One f s) D (t ∷ ts) w at
  halted_at true true t ts w at h k e = absurd (cc e)
  halted_at true false t ts w at h k e = move (t ∷ ts) v w (t ∷ ts) at (cc e) (cc e) (halted_here t ts h k)
  halted_at false c t ts w at h k e = move (t ∷ ts) Wanted w (t ∷ ts) at (cc e) (cc e) (halted_wanted (t ∷ ts))

  halted : (ts : List Token) (w : Why) (at : List Token) → read_guard f s ok v ts ≡ Stop w at → Halted (One f s) D ts w at
  halted [] w at e = move [] Wanted w [] at (cc e) (cc e) (halted_wanted [])
  halted (t ∷ ts) w at e = halted_at (s t) (ok (f t)) t ts w at refl refl e

  starts : (ts : List Token) (a : A) → One f s ts a → Begins s false ts
  starts ts a h = subst (Begins s false) (sym h.1) h.2

  complete_at : (c : Bool) (t : Token) (rest : List Token) → ok (f t) ≡ c → Meets F (f t) rest (pick c (Took (f t) rest) (Stop v (t ∷ rest)))
  complete_at true t rest k = inl refl
  complete_at false t rest k = inr (v, t ∷ [], refl, v_limit, (λ z. cc (z, k)), omega arith)

  complete : (ts : List Token) (a : A) (rest : List Token) → One f s ts a → Clear nothing rest → Meets F a rest (read_guard f s ok v (ts ++ rest))
  complete ts a rest h c = rw (h.1, h.2, h.3) (complete_at (ok (f h.0)) h.0 rest refl)

  local_here : (b c : Bool) (t : Token) (rest rest' : List Token) → Agree t rest rest' [] (guarded b c t rest) (guarded b c t rest')
  local_here true true t rest rest' = past (omega arith)
  local_here true false t rest rest' = stop v [] refl refl
  local_here false c t rest rest' = stop Wanted [] refl refl

  local_at : (b c : Bool) (u : Token) (pre : List Token) (t : Token) (rest rest' : List Token) → Agree t rest rest' (u ∷ pre) (guarded b c u (pre ++ t ∷ rest)) (guarded b c u (pre ++ t ∷ rest'))
  local_at true true u pre t rest rest' = took (f u) pre (omega arith) refl refl
  local_at true false u pre t rest rest' = stop v (u ∷ pre) refl refl
  local_at false c u pre t rest rest' = stop Wanted (u ∷ pre) refl refl

  local : (pre : List Token) (t : Token) (rest rest' : List Token) → Agree t rest rest' pre (read_guard f s ok v (pre ++ t ∷ rest)) (read_guard f s ok v (pre ++ t ∷ rest'))
  local [] t rest rest' = local_here (s t) (ok (f t)) t rest rest'
  local (u ∷ pre) t rest rest' = local_at (s u) (ok (f u)) u pre t rest rest'

  back_at : (b c : Bool) (t : Token) (ts : List Token) → length (left (guarded b c t ts)) ≤ length (t ∷ ts)
  back_at true true t ts = omega arith
  back_at true false t ts = omega arith
  back_at false c t ts = omega arith

  back : (ts : List Token) → length (left (read_guard f s ok v ts)) ≤ length ts
  back [] = omega arith
  back (t ∷ ts) = back_at (s t) (ok (f t)) t ts

  limited_at : (t : Token) (w : Why) (rest : List Token) → w ≡ v → s t ≡ true → ok (f t) ≡ false → HaltsBy w (t ∷ rest) (read_guard f s ok v (t ∷ rest))
  limited_at t w rest e h k = (v, [], rw (h, k) refl, λ z. sym e)

  limited : (pre : List Token) (t : Token) (w : Why) (rest : List Token) → D pre t w → IsNamed w → HaltsBy w (t ∷ rest) (read_guard f s ok v (pre ++ t ∷ rest))
  limited pre t w rest d k =
      elim d.1 [
        | inl e ↦ absurd (subst IsNamed e k)
        | inr h ↦ subst (λ y. HaltsBy w (t ∷ rest) (read_guard f s ok v (y ++ t ∷ rest))) (sym d.0) (limited_at t w rest h.0 h.1 h.2)
      ]

  limits : (pre : List Token) (t : Token) (w : Why) → D pre t w → IsNamed w → Leading s pre t w
  limits pre t w d k =
      elim d.1 [
        | inl e ↦ absurd (subst IsNamed e k)
        | inr h ↦ subst (λ y. Leading s y t w) (sym d.0) (of_limit (s t ≡ true) w h.1)
      ]

  pub guard_laws : Laws (One f s) F D (read_guard f s ok v) s false nothing
  guard_laws = record {
    sound = sound;
    halted = halted;
    starts = starts;
    complete = complete;
    onward = λ ts a t rest r. inl (complete ts a (t ∷ rest) r refl);
    local = local;
    back = back;
    short = (x ∷ [], f x, (x, refl, x_in, refl));
    tight = λ t h. ([], f t, (t, refl, h, refl));
    nil = λ e. absurd (cc e);
    limited = limited;
    limits = limits;
  }

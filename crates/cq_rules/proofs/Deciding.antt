-- What the outcome of reading all tokens says of them.
use Rattle.std.proofs.Common.{◌≡◌, ℕ, List, [], ◌∷◌, ◌++◌, length, Bool, ◌⊎◌, inl, inr, refl, sym, ap, ◌∙◌, arith, subst, append_assoc, length-append}
use Rattle.cq_lex.specs.declared.token.Token.{Token}
use Rattle.cq_rules.specs.declared.why.Why.{Why}
use Rattle.cq_rules.specs.declared.why.Why.TheVariants.{Wanted, LeftOut, Deep, BadOption}
use Rattle.cq_rules.specs.Outcome.{Out, Took, Stop, Tokens, IsLimit, IsNamed}
use Rattle.cq_rules.specs.Relations.{Viable}
use Rattle.cq_rules.specs.Refused.{Refused, RefusedAt, NoneBefore}
use Rattle.cq_rules.proofs.Laws.{Halted, AtHead, Meets, left, took, stop, past, Laws}
use Rattle.cq_rules.proofs.Seq.{append_empty, same_rest, viable_more, of_viable, left_over}

-- how two splits of one list lie
pub data Lies (front : List Token) (t : Token) (after us rest : List Token) : Type 0 where
  longer : (vs : List Token) → us ≡ front ++ t ∷ vs → Lies front t after us rest
  same : us ≡ front → rest ≡ t ∷ after → Lies front t after us rest
  shorter : (u : Token) (vs : List Token) → front ≡ us ++ u ∷ vs → rest ≡ u ∷ (vs ++ t ∷ after) → Lies front t after us rest

lies_more : (f x : Token) (front : List Token) (t : Token) (after us rest : List Token) → f ≡ x → Lies front t after us rest → Lies (f ∷ front) t after (x ∷ us) rest
lies_more f x front t after us rest e (longer vs h) = longer vs (ap (λ z. z ∷ us) (sym e) ∙ ap (λ z. f ∷ z) h)
lies_more f x front t after us rest e (same h k) = same (ap (λ z. z ∷ us) (sym e) ∙ ap (λ z. f ∷ z) h) k
lies_more f x front t after us rest e (shorter u vs h k) = shorter u vs (ap (λ z. z ∷ front) e ∙ ap (λ z. x ∷ z) h) k

lies : (front : List Token) (t : Token) (after us rest : List Token) → front ++ t ∷ after ≡ us ++ rest → Lies front t after us rest
lies [] t after [] rest e = same refl (sym e)
lies [] t after (x ∷ us) rest e = longer us (let is : x ≡ t = cc e in ap (λ z. z ∷ us) is)
lies (f ∷ front) t after [] rest e = shorter f front refl (sym e)
lies (f ∷ front) t after (x ∷ us) rest e =
    let head : f ≡ x = cc e in
    let tail : front ++ t ∷ after ≡ us ++ rest = cc e in
    lies_more f x front t after us rest head (lies front t after us rest tail)

module _ {A : Type 0} (R : List Token → A → Type 0) (F : A → Type 0) (D : List Token → Token → Why → Type 0) (run : List Token → Out A) (s : Tokens) (n : Bool) (m : Tokens) (l : Laws R F D run s n m) where
  -- a whole text of the relation is read, or is refused for a limit that it breaks
  whole : (ts : List Token) (a : A) → R ts a → Meets F a [] (run ts)
  whole ts a r = subst (λ z. Meets F a [] (run z)) (append_empty ts) (l.complete ts a [] r tt)

  pub read_whole : (ts : List Token) (a : A) → R ts a → F a → run ts ≡ Took a []
  read_whole ts a r f = elim (whole ts a r) [ inl e ↦ e | inr h ↦ absurd (h.4 f) ]

  pub is_read : (ts : List Token) (a : A) → run ts ≡ Took a [] → R ts a × F a
  is_read ts a e =
      let h = l.sound ts a [] e in
      let front : h.front ≡ ts = sym (h.split ∙ append_empty h.front) in
      (subst (λ z. R z a) front h.spells, h.fits)

  -- a halt for want of another token is one whatever follows
  stays : (pre : List Token) (t : Token) (rest rest' : List Token) → run (pre ++ t ∷ rest) ≡ Stop Wanted (t ∷ rest) → run (pre ++ t ∷ rest') ≡ Stop Wanted (t ∷ rest')
  stays pre t rest rest' e =
      elim (l.local pre t rest rest') [
        | took a q le f g ↦ absurd (cc (e, f))
        | stop w q f g ↦
            let same : q ++ t ∷ rest ≡ t ∷ rest = cc (e, f) in
            let why : w ≡ Wanted = cc (e, f) in
            g ∙ ap (λ z. Stop w (z ++ t ∷ rest')) (same_rest q t rest same) ∙ ap (λ z. Stop z (t ∷ rest')) why
        | past le ↦ absurd (omega (arith, ap (λ z. length (left z)) e))
      ]

  not_viable : (pre : List Token) (t : Token) (rest : List Token) → run (pre ++ t ∷ rest) ≡ Stop Wanted (t ∷ rest) → Viable R (pre ++ t ∷ []) → ⊥
  not_viable pre t rest e h =
      let again = stays pre t rest h.0 e in
      elim (whole (pre ++ t ∷ h.0) h.1 (of_viable R pre t h)) [
        | inl f ↦ cc (again, f)
        | inr g ↦ let same : g.0 ≡ Wanted = cc (again, g.2) in subst IsLimit same g.3
      ]

  -- where a limit halts, the token is of some text too
  viable_too : (ts : List Token) (w : Why) (t : Token) (rest : List Token) → (h : Halted R D ts w (t ∷ rest)) → IsLimit w → Viable R (h.front ++ t ∷ [])
  viable_too ts w t rest h lim =
      let b = h.begins lim in
      let same : t ≡ b.0 = let e = b.3 in cc e in
      viable_more R h.front t b.2 h.value (subst (λ z. R (h.front ++ z) h.value) (b.4 ∙ ap (λ z. z ∷ b.2) (sym same)) h.spells)

  -- a front of a front of a text is one
  viable_front : (us : List Token) (u : Token) (vs pre : List Token) → pre ≡ us ++ u ∷ vs → Viable R pre → Viable R (us ++ u ∷ [])
  viable_front us u vs pre e h =
      let whole : R (us ++ u ∷ (vs ++ h.0)) h.1 = subst (λ z. R z h.1) (ap (λ z. z ++ h.0) e ∙ append_assoc us (u ∷ vs) h.0) h.2 in
      viable_more R us u (vs ++ h.0) h.1 whole

  viable_before : (pre : List Token) (t : Token) → Viable R (pre ++ t ∷ []) → Viable R pre
  viable_before pre t h = (t ∷ h.0, h.1, of_viable R pre t h)

  -- no token before the halt is refused by name
  none_before : (ts : List Token) (w : Why) (front at : List Token) → run ts ≡ Stop w at → ts ≡ front ++ at → NoneBefore D ts front
  none_before ts w front at e split us u vs v cut lt lim d =
      let h = l.limited us u v vs d lim in
      let there : run ts ≡ Stop h.0 (h.1 ++ u ∷ vs) = ap run cut ∙ h.2 in
      let same : h.1 ++ u ∷ vs ≡ at = cc (there, e) in
      omega (arith, ap length same, length-append h.1 (u ∷ vs), ap length split, length-append front at, ap length cut, length-append us (u ∷ vs))

  -- nor where all is read
  none_in_read : (ts : List Token) (a : A) (rest : List Token) → run ts ≡ Took a rest → (us : List Token) (u : Token) (vs : List Token) (v : Why) → ts ≡ us ++ u ∷ vs → IsNamed v → D us u v → ⊥
  none_in_read ts a rest e us u vs v cut lim d =
      let h = l.limited us u v vs d lim in
      let there : run ts ≡ Stop h.0 (h.1 ++ u ∷ vs) = ap run cut ∙ h.2 in
      cc (there, e)

  not_left_out : (front : List Token) (t : Token) (rest : List Token) → run (front ++ t ∷ rest) ≡ Stop Wanted (t ∷ rest) → (k : ℕ) → D front t (LeftOut k) → ⊥
  not_left_out front t rest e k d =
      let h = l.limited front t (LeftOut k) rest d tt in
      let same : h.1 ++ t ∷ rest ≡ t ∷ rest = cc (h.2, e) in
      let why = h.3 (ap length (same_rest h.1 t rest same)) in
      cc (why, h.2, e)

  -- the token at which the reading halts is refused, for the reason for which it halts
  why_halted : (ts : List Token) (w : Why) (t : Token) (rest : List Token) → run ts ≡ Stop w (t ∷ rest) → (h : Halted R D ts w (t ∷ rest)) → RefusedAt R D h.front t w
  why_halted ts Wanted t rest e h =
      let here : run (h.front ++ t ∷ rest) ≡ Stop Wanted (t ∷ rest) = ap run (sym h.split) ∙ e in
      ((h.tail, h.value, h.spells), not_viable h.front t rest here, not_left_out h.front t rest here)
  why_halted ts (LeftOut k) t rest e h = ((h.tail, h.value, h.spells), h.halts)
  why_halted ts Deep t rest e h = (viable_too ts Deep t rest h tt, h.halts)
  why_halted ts (BadOption p) t rest e h = (viable_too ts (BadOption p) t rest h tt, h.halts)

  pub refused : (ts : List Token) (w : Why) (t : Token) (rest : List Token) → run ts ≡ Stop w (t ∷ rest) → Refused R D ts t w
  refused ts w t rest e =
      let h = l.halted ts w (t ∷ rest) e in
      record {
        front = h.front;
        after = rest;
        split = h.split;
        none_before = none_before ts w h.front (t ∷ rest) e h.split;
        why = why_halted ts w t rest e h;
      }

  -- and so is the first token that is left where a text is read
  pub refused_over : (ts : List Token) (a : A) (t : Token) (rest : List Token) → run ts ≡ Took a (t ∷ rest) → Refused R D ts t Wanted
  refused_over ts a t rest e =
      let h = l.sound ts a (t ∷ rest) e in
      let here : run (h.front ++ t ∷ rest) ≡ Took a (t ∷ rest) = ap run (sym h.split) ∙ e in
      record {
        front = h.front;
        after = rest;
        split = h.split;
        none_before = λ us u vs v cut lt lim d. none_in_read ts a (t ∷ rest) e us u vs v cut lim d;
        why = (([], a, subst (λ z. R z a) (sym (append_empty h.front)) h.spells), left_over R F D run s n m l h.front a t rest here, λ k d. none_in_read ts a (t ∷ rest) e h.front t rest (LeftOut k) h.split tt d);
      }

  -- the reading halts at no token before one that is refused
  no_halt : (front : List Token) (t : Token) (after : List Token) (v : Why) (us : List Token) (u : Token) (vs : List Token) → Viable R front → NoneBefore D (front ++ t ∷ after) front → front ≡ us ++ u ∷ vs → run (front ++ t ∷ after) ≡ Stop v (u ∷ (vs ++ t ∷ after)) → D us u v → ⊥
  no_halt front t after Wanted us u vs viable none e f d =
      let cut : front ++ t ∷ after ≡ us ++ u ∷ (vs ++ t ∷ after) = ap (λ z. z ++ t ∷ after) e ∙ append_assoc us (u ∷ vs) (t ∷ after) in
      let here : run (us ++ u ∷ (vs ++ t ∷ after)) ≡ Stop Wanted (u ∷ (vs ++ t ∷ after)) = ap run (sym cut) ∙ f in
      not_viable us u (vs ++ t ∷ after) here (viable_front us u vs front e viable)
  no_halt front t after (LeftOut k) us u vs viable none e f d =
      none us u (vs ++ t ∷ after) (LeftOut k) (ap (λ z. z ++ t ∷ after) e ∙ append_assoc us (u ∷ vs) (t ∷ after)) (omega (arith, ap length e, length-append us (u ∷ vs))) tt d
  no_halt front t after Deep us u vs viable none e f d =
      none us u (vs ++ t ∷ after) Deep (ap (λ z. z ++ t ∷ after) e ∙ append_assoc us (u ∷ vs) (t ∷ after)) (omega (arith, ap length e, length-append us (u ∷ vs))) tt d
  no_halt front t after (BadOption p) us u vs viable none e f d =
      none us u (vs ++ t ∷ after) (BadOption p) (ap (λ z. z ++ t ∷ after) e ∙ append_assoc us (u ∷ vs) (t ∷ after)) (omega (arith, ap length e, length-append us (u ∷ vs))) tt d

  -- what the reading does where a token is refused: it halts there for that reason, or leaves it
  abbrev pub Decided : List Token → Token → Why → Type 0
  Decided ts t w = ((after : List Token) × (run ts ≡ Stop w (t ∷ after))) ⊎ ((w ≡ Wanted) × (a : A) × (after : List Token) × (run ts ≡ Took a (t ∷ after)))

  same_front : (front : List Token) (t : Token) (after us : List Token) → front ++ t ∷ after ≡ us ++ t ∷ after → us ≡ front
  same_front front t after us e =
      elim (lies front t after us (t ∷ after) e) [
        | longer vs k ↦ absurd (omega (arith, ap length e, ap length k, length-append front (t ∷ after), length-append us (t ∷ after), length-append front (t ∷ vs)))
        | same k i ↦ k
        | shorter u vs k i ↦ absurd (omega (arith, ap length e, ap length k, length-append front (t ∷ after), length-append us (t ∷ after), length-append us (u ∷ vs)))
      ]

  decided_there : (front : List Token) (t : Token) (after : List Token) (v : Why) → RefusedAt R D front t Wanted → run (front ++ t ∷ after) ≡ Stop v (t ∷ after) → (h : Halted R D (front ++ t ∷ after) v (t ∷ after)) → h.front ≡ front → Decided (front ++ t ∷ after) t Wanted
  decided_there front t after Wanted why e h k = inl (after, e)
  decided_there front t after (LeftOut n) why e h k = absurd (why.2 n (subst (λ z. D z t (LeftOut n)) k h.halts))
  decided_there front t after Deep why e h k =
      absurd (why.1 (subst (λ z. Viable R (z ++ t ∷ [])) k (viable_too (front ++ t ∷ after) Deep t after h tt)))
  decided_there front t after (BadOption p) why e h k =
      absurd (why.1 (subst (λ z. Viable R (z ++ t ∷ [])) k (viable_too (front ++ t ∷ after) (BadOption p) t after h tt)))

  decided_same : (front : List Token) (t : Token) (after : List Token) (v : Why) → RefusedAt R D front t Wanted → run (front ++ t ∷ after) ≡ Stop v (t ∷ after) → Decided (front ++ t ∷ after) t Wanted
  decided_same front t after v why e =
      let h = l.halted (front ++ t ∷ after) v (t ∷ after) e in
      decided_there front t after v why e h (same_front front t after h.front h.split)

  at_first : (Q : Token → Type 0) (xs : List Token) (u : Token) (us : List Token) → xs ≡ u ∷ us → AtHead Q xs → Q u
  at_first Q xs u us e h = rw e at h

  decided_halt : (front : List Token) (t : Token) (after : List Token) (v : Why) (at : List Token) → RefusedAt R D front t Wanted → NoneBefore D (front ++ t ∷ after) front → run (front ++ t ∷ after) ≡ Stop v at → Decided (front ++ t ∷ after) t Wanted
  decided_halt front t after v at why none e =
      let h = l.halted (front ++ t ∷ after) v at e in
      elim (lies front t after h.front at h.split) [
        | longer vs k ↦
            let text : R (front ++ t ∷ (vs ++ h.tail)) h.value = subst (λ z. R z h.value) (ap (λ z. z ++ h.tail) k ∙ append_assoc front (t ∷ vs) h.tail) h.spells in
            absurd (why.1 (viable_more R front t (vs ++ h.tail) h.value text))
        | same k i ↦ decided_same front t after v why (e ∙ ap (λ z. Stop v z) i)
        | shorter u vs k i ↦
            absurd (no_halt front t after v h.front u vs why.0 none k (e ∙ ap (λ z. Stop v z) i) (at_first (λ x. D h.front x v) at u (vs ++ t ∷ after) i h.halts))
      ]

  decided_took : (front : List Token) (t : Token) (after : List Token) (a : A) (rest : List Token) → RefusedAt R D front t Wanted → run (front ++ t ∷ after) ≡ Took a rest → Decided (front ++ t ∷ after) t Wanted
  decided_took front t after a rest why e =
      let h = l.sound (front ++ t ∷ after) a rest e in
      elim (lies front t after h.front rest h.split) [
        | longer vs k ↦ absurd (why.1 (viable_more R front t vs a (subst (λ z. R z a) k h.spells)))
        | same k i ↦ inr (refl, a, after, e ∙ ap (λ z. Took a z) i)
        | shorter u vs k i ↦
            let cut : front ++ t ∷ after ≡ h.front ++ u ∷ (vs ++ t ∷ after) = h.split ∙ ap (λ z. h.front ++ z) i in
            let here : run (h.front ++ u ∷ (vs ++ t ∷ after)) ≡ Took a (u ∷ (vs ++ t ∷ after)) = ap run (sym cut) ∙ e ∙ ap (λ z. Took a z) i in
            absurd (left_over R F D run s n m l h.front a u (vs ++ t ∷ after) here (viable_front h.front u vs front k why.0))
      ]

  decided_wanted : (o : Out A) (front : List Token) (t : Token) (after : List Token) → run (front ++ t ∷ after) ≡ o → RefusedAt R D front t Wanted → NoneBefore D (front ++ t ∷ after) front → Decided (front ++ t ∷ after) t Wanted
  decided_wanted (Took a rest) front t after e why none = decided_took front t after a rest why e
  decided_wanted (Stop v at) front t after e why none = decided_halt front t after v at why none e

  decided_by : (front : List Token) (t : Token) (after : List Token) (w v : Why) (z : List Token) → Viable R front → NoneBefore D (front ++ t ∷ after) front → run (front ++ t ∷ after) ≡ Stop v (z ++ t ∷ after) → (length z ≡ 0 → v ≡ w) → Decided (front ++ t ∷ after) t w
  decided_by front t after w v [] viable none e why = inl (after, e ∙ ap (λ y. Stop y (t ∷ after)) (why refl))
  decided_by front t after w v (u ∷ vs) viable none e why =
      let h = l.halted (front ++ t ∷ after) v (u ∷ (vs ++ t ∷ after)) e in
      elim (lies front t after h.front (u ∷ (vs ++ t ∷ after)) h.split) [
        | longer xs k ↦ absurd (omega (arith, ap length h.split, ap length k, length-append front (t ∷ after), length-append h.front (u ∷ (vs ++ t ∷ after)), length-append vs (t ∷ after), length-append front (t ∷ xs)))
        | same k i ↦ absurd (omega (arith, ap length i, length-append vs (t ∷ after)))
        | shorter x xs k i ↦
            let head : u ≡ x = cc i in
            absurd (no_halt front t after v h.front x xs viable none k (e ∙ ap (λ y. Stop v y) i) (subst (λ y. D h.front y v) head h.halts))
      ]

  decided_named : (front : List Token) (t : Token) (after : List Token) (w : Why) → IsNamed w → Viable R front → D front t w → NoneBefore D (front ++ t ∷ after) front → Decided (front ++ t ∷ after) t w
  decided_named front t after w named viable d none =
      let h = l.limited front t w after d named in
      decided_by front t after w h.0 h.1 viable none h.2 h.3

  decided_at : (front : List Token) (t : Token) (after : List Token) (w : Why) → RefusedAt R D front t w → NoneBefore D (front ++ t ∷ after) front → Decided (front ++ t ∷ after) t w
  decided_at front t after Wanted why none = decided_wanted (run (front ++ t ∷ after)) front t after refl why none
  decided_at front t after (LeftOut k) why none = decided_named front t after (LeftOut k) tt why.0 why.1 none
  decided_at front t after Deep why none = decided_named front t after Deep tt (viable_before front t why.0) why.1 none
  decided_at front t after (BadOption p) why none = decided_named front t after (BadOption p) tt (viable_before front t why.0) why.1 none

  pub decided : (ts : List Token) (t : Token) (w : Why) → Refused R D ts t w → Decided ts t w
  decided ts t w h =
      let none : NoneBefore D (h.front ++ t ∷ h.after) h.front = subst (λ z. NoneBefore D z h.front) h.split h.none_before in
      subst (λ z. Decided z t w) (sym h.split) (decided_at h.front t h.after w h.why none)

  -- tokens that run out are no whole text
  pub runs_out : (ts : List Token) (w : Why) (a : A) → run ts ≡ Stop w [] → R ts a → ⊥
  runs_out ts w a e r =
      let h = l.halted ts w [] e in
      elim (whole ts a r) [
        | inl f ↦ cc (e, f)
        | inr g ↦
            let none : g.1 ++ [] ≡ [] = cc (g.2, e) in
            omega (arith, ap length none, length-append g.1 [], g.5)
      ]

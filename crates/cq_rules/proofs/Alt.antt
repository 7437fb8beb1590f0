-- One reader or the other, by the next token.
use Rattle.std.proofs.Common.{◌≡◌, ◌≤◌, List, [], ◌∷◌, ◌++◌, length, Bool, true, false, ◌⊎◌, inl, inr, refl, ap, ◌∙◌, subst}
use Rattle.cq_lex.specs.declared.token.Token.{Token}
use Rattle.cq_rules.specs.declared.why.Why.{Why}
use Rattle.cq_rules.specs.declared.why.Why.TheVariants.{Wanted, LeftOut, Deep, BadOption}
use Rattle.cq_rules.specs.Outcome.{Out, Took, Stop, Tokens, IsNamed, pick, either, when, leads, read_alt, as_left, as_right}
use Rattle.cq_rules.specs.Relations.{Either, InEither, Viable, Enters, NotOnward}
use Rattle.cq_rules.specs.Rule.{FitEither}
use Rattle.cq_rules.proofs.Laws.{Taken, Halted, AtHead, Begins, Clear, Meets, of_limits, Leading, HaltsBy, left, Agree, took, stop, past, Laws, then_took, then_stop}
use Rattle.cq_rules.proofs.Seq.{either_left, either_right, either_true, when_true, give_left_out}

abbrev pub alt_first : Tokens → Tokens → Tokens
alt_first s s' t = either (s t) (s' t)

abbrev pub alt_more : Tokens → Tokens → Bool → Tokens → Tokens
alt_more s m n' m' t = either (when n' (s t)) (either (m t) (m' t))

module _ {A B : Type 0} (R : List Token → A → Type 0) (F : A → Type 0) (D : List Token → Token → Why → Type 0) (p : List Token → Out A) (s : Tokens) (m : Tokens) (S : List Token → B → Type 0) (G : B → Type 0) (E : List Token → Token → Why → Type 0) (q : List Token → Out B) (s' : Tokens) (n' : Bool) (m' : Tokens) (one : Laws R F D p s false m) (two : Laws S G E q s' n' m') (apart : (t : Token) → s' t ≡ true → s t ≡ false) where
  abbrev Rel : List Token → A ⊎ B → Type 0
  Rel = Either R S

  abbrev Fit : A ⊎ B → Type 0
  Fit = FitEither F G

  sound_left : (ts : List Token) (x : A ⊎ B) (rest : List Token) → as_left (p ts) ≡ Took x rest → Taken Rel Fit ts x rest
  sound_left ts x rest e =
      let h = then_took (p ts) _ x rest e in
      let after : h.1 ≡ rest = cc h.3 in
      let is : inl h.0 ≡ x = cc h.3 in
      let k = one.sound ts h.0 rest (h.2 ∙ ap (λ z. Took h.0 z) after) in
      subst (λ z. Taken Rel Fit ts z rest) is (record { front = k.front; split = k.split; spells = k.spells; fits = k.fits })

  sound_right : (ts : List Token) (x : A ⊎ B) (rest : List Token) → as_right (q ts) ≡ Took x rest → Taken Rel Fit ts x rest
  sound_right ts x rest e =
      let h = then_took (q ts) _ x rest e in
      let after : h.1 ≡ rest = cc h.3 in
      let is : inr h.0 ≡ x = cc h.3 in
      let k = two.sound ts h.0 rest (h.2 ∙ ap (λ z. Took h.0 z) after) in
      subst (λ z. Taken Rel Fit ts z rest) is (record { front = k.front; split = k.split; spells = k.spells; fits = k.fits })

  sound_at : (b : Bool) (ts : List Token) (x : A ⊎ B) (rest : List Token) → pick b (as_left (p ts)) (as_right (q ts)) ≡ Took x rest → Taken Rel Fit ts x rest
  sound_at true ts x rest e = sound_left ts x rest e
  sound_at false ts x rest e = sound_right ts x rest e

  enters : (front : List Token) (t : Token) (w : Why) (rest : List Token) → leads s (front ++ t ∷ rest) ≡ true → Enters s front t w
  enters [] t w rest l = give_left_out (s t ≡ true) w l
  enters (u ∷ us) t w rest l = tt

  halts_left : (front at : List Token) (w : Why) → leads s (front ++ at) ≡ true → AtHead (λ t. D front t w) at → AtHead (λ t. InEither s R D E front t w) at
  halts_left front [] w l h = tt
  halts_left front (t ∷ rest) w l h = inl (h, enters front t w rest l)

  halted_left : (ts : List Token) (w : Why) (at : List Token) → leads s ts ≡ true → as_left {B = B} (p ts) ≡ Stop w at → Halted Rel (InEither s R D E) ts w at
  halted_left ts w at l e =
      elim (then_stop (p ts) _ w at e) [
        | inl k ↦ let h = one.halted ts w at k in record {
          front = h.front;
          split = h.split;
          tail = h.tail;
          value = inl h.value;
          spells = h.spells;
          begins = h.begins;
          halts = halts_left h.front at w (subst (λ z. leads s z ≡ true) h.split l) h.halts;
        }
        | inr k ↦ absurd (cc k.3)
      ]

  never : (t : Token) → s t ≡ false → Viable R (t ∷ []) → ⊥
  never t l v = let b : s t ≡ true = one.starts (t ∷ v.0) v.1 v.2 in cc (b, l)

  not_onward : (front : List Token) (t : Token) (w : Why) (rest : List Token) → leads s (front ++ t ∷ rest) ≡ false → NotOnward R [] front t w
  not_onward [] t w rest l = give_left_out (Viable R (t ∷ []) → ⊥) w (never t l)
  not_onward (u ∷ us) t w rest l = tt

  halts_right : (front at : List Token) (w : Why) → leads s (front ++ at) ≡ false → AtHead (λ t. E front t w) at → AtHead (λ t. InEither s R D E front t w) at
  halts_right front [] w l h = tt
  halts_right front (t ∷ rest) w l h = inr (h, not_onward front t w rest l)

  halted_right : (ts : List Token) (w : Why) (at : List Token) → leads s ts ≡ false → as_right {A = A} (q ts) ≡ Stop w at → Halted Rel (InEither s R D E) ts w at
  halted_right ts w at l e =
      elim (then_stop (q ts) _ w at e) [
        | inl k ↦ let h = two.halted ts w at k in record {
          front = h.front;
          split = h.split;
          tail = h.tail;
          value = inr h.value;
          spells = h.spells;
          begins = h.begins;
          halts = halts_right h.front at w (subst (λ z. leads s z ≡ false) h.split l) h.halts;
        }
        | inr k ↦ absurd (cc k.3)
      ]

  halted_at : (b : Bool) (ts : List Token) (w : Why) (at : List Token) → leads s ts ≡ b → pick b (as_left (p ts)) (as_right (q ts)) ≡ Stop w at → Halted Rel (InEither s R D E) ts w at
  halted_at true ts w at l e = halted_left ts w at l e
  halted_at false ts w at l e = halted_right ts w at l e

  begins_left : (ts : List Token) → Begins s false ts → Begins (alt_first s s') n' ts
  begins_left [] b = absurd (cc b)
  begins_left (t ∷ ts) b = rw b refl

  begins_right : (n : Bool) (ts : List Token) → Begins s' n ts → Begins (alt_first s s') n ts
  begins_right n [] b = b
  begins_right n (t ∷ ts) b = rw b (either_true (s t))

  starts : (ts : List Token) (x : A ⊎ B) → Rel ts x → Begins (alt_first s s') n' ts
  starts ts (inl a) r = begins_left ts (one.starts ts a r)
  starts ts (inr b) r = begins_right n' ts (two.starts ts b r)

  -- which of the two is read
  leads_left : (ts rest : List Token) → Begins s false ts → leads s (ts ++ rest) ≡ true
  leads_left [] rest b = absurd (cc b)
  leads_left (t ∷ ts) rest b = b

  leads_right : (ts rest : List Token) → Begins s' n' ts → Clear (alt_more s m n' m') rest → leads s (ts ++ rest) ≡ false
  leads_right [] [] b c = refl
  leads_right [] (t ∷ rest) b c = when_true n' (s t) b (either_left (when n' (s t)) _ c)
  leads_right (t ∷ ts) rest b c = apart t b

  clear_left : (rest : List Token) → Clear (alt_more s m n' m') rest → Clear m rest
  clear_left [] c = tt
  clear_left (t ∷ rest) c = either_left (m t) (m' t) (either_right (when n' (s t)) _ c)

  clear_right : (rest : List Token) → Clear (alt_more s m n' m') rest → Clear m' rest
  clear_right [] c = tt
  clear_right (t ∷ rest) c = either_right (m t) (m' t) (either_right (when n' (s t)) _ c)

  meets_left : (o : Out A) (a : A) (rest : List Token) → Meets F a rest o → Meets Fit (inl a) rest (as_left o)
  meets_left o a rest (inl e) = inl (rw e refl)
  meets_left o a rest (inr h) = inr (h.0, h.1, rw h.2 refl, h.3, h.4, h.5)

  meets_right : (o : Out B) (b : B) (rest : List Token) → Meets G b rest o → Meets Fit (inr b) rest (as_right o)
  meets_right o b rest (inl e) = inl (rw e refl)
  meets_right o b rest (inr h) = inr (h.0, h.1, rw h.2 refl, h.3, h.4, h.5)

  complete : (ts : List Token) (x : A ⊎ B) (rest : List Token) → Rel ts x → Clear (alt_more s m n' m') rest → Meets Fit x rest (read_alt s p q (ts ++ rest))
  complete ts (inl a) rest r c =
      rw (leads_left ts rest (one.starts ts a r)) (meets_left (p (ts ++ rest)) a rest (one.complete ts a rest r (clear_left rest c)))
  complete ts (inr b) rest r c =
      rw (leads_right ts rest (two.starts ts b r) c) (meets_right (q (ts ++ rest)) b rest (two.complete ts b rest r (clear_right rest c)))

  left_as_left : (o : Out A) → left (as_left {B = B} o) ≡ left o
  left_as_left (Took a rest) = refl
  left_as_left (Stop w at) = refl

  left_as_right : (o : Out B) → left (as_right {A = A} o) ≡ left o
  left_as_right (Took b rest) = refl
  left_as_right (Stop w at) = refl

  agree_left : (pre : List Token) (t : Token) (rest rest' : List Token) (o o' : Out A) → Agree t rest rest' pre o o' → Agree t rest rest' pre (as_left {B = B} o) (as_left {B = B} o')
  agree_left pre t rest rest' o o' (took a v le e f) = took (inl a) v le (rw e refl) (rw f refl)
  agree_left pre t rest rest' o o' (stop w v e f) = stop w v (rw e refl) (rw f refl)
  agree_left pre t rest rest' o o' (past le) = past (rw left_as_left le)

  agree_right : (pre : List Token) (t : Token) (rest rest' : List Token) (o o' : Out B) → Agree t rest rest' pre o o' → Agree t rest rest' pre (as_right {A = A} o) (as_right {A = A} o')
  agree_right pre t rest rest' o o' (took a v le e f) = took (inr a) v le (rw e refl) (rw f refl)
  agree_right pre t rest rest' o o' (stop w v e f) = stop w v (rw e refl) (rw f refl)
  agree_right pre t rest rest' o o' (past le) = past (rw left_as_right le)

  agree_at : (b : Bool) (pre : List Token) (t : Token) (rest rest' : List Token) → Agree t rest rest' pre (pick b (as_left {B = B} (p (pre ++ t ∷ rest))) (as_right {A = A} (q (pre ++ t ∷ rest)))) (pick b (as_left {B = B} (p (pre ++ t ∷ rest'))) (as_right {A = A} (q (pre ++ t ∷ rest'))))
  agree_at true pre t rest rest' = agree_left pre t rest rest' _ _ (one.local pre t rest rest')
  agree_at false pre t rest rest' = agree_right pre t rest rest' _ _ (two.local pre t rest rest')

  local : (pre : List Token) (t : Token) (rest rest' : List Token) → Agree t rest rest' pre (read_alt s p q (pre ++ t ∷ rest)) (read_alt s p q (pre ++ t ∷ rest'))
  local [] t rest rest' = agree_at (s t) [] t rest rest'
  local (u ∷ pre) t rest rest' = agree_at (s u) (u ∷ pre) t rest rest'

  back_at : (b : Bool) (ts : List Token) → length (left (pick b (as_left {B = B} (p ts)) (as_right {A = A} (q ts)))) ≤ length ts
  back_at true ts = rw left_as_left (one.back ts)
  back_at false ts = rw left_as_right (two.back ts)

  -- which is read where a token is refused
  leads_first : (pre : List Token) (t : Token) (w : Why) (rest : List Token) → IsNamed w → Enters s pre t w → Leading s pre t w → leads s (pre ++ t ∷ rest) ≡ true
  leads_first (u ∷ us) t w rest l x b = b
  leads_first [] t Wanted rest l x b = absurd l
  leads_first [] t (LeftOut n) rest l x b = x
  leads_first [] t Deep rest l x b = b
  leads_first [] t (BadOption o) rest l x b = b

  false_or : (b : Bool) → (b ≡ true → ⊥) → b ≡ false
  false_or true h = absurd (h refl)
  false_or false h = refl

  leads_second : (pre : List Token) (t : Token) (w : Why) (rest : List Token) → IsNamed w → NotOnward R [] pre t w → Leading s' pre t w → leads s (pre ++ t ∷ rest) ≡ false
  leads_second (u ∷ us) t w rest l x b = apart u b
  leads_second [] t Wanted rest l x b = absurd l
  leads_second [] t (LeftOut n) rest l x b = false_or (s t) (λ h. x (one.tight t h))
  leads_second [] t Deep rest l x b = apart t b
  leads_second [] t (BadOption o) rest l x b = apart t b

  limited : (pre : List Token) (t : Token) (w : Why) (rest : List Token) → InEither s R D E pre t w → IsNamed w → HaltsBy w (t ∷ rest) (read_alt s p q (pre ++ t ∷ rest))
  limited pre t w rest (inl d) l =
      let h = one.limited pre t w rest d.0 l in
      (h.0, h.1, rw (leads_first pre t w rest l d.1 (one.limits pre t w d.0 l), h.2) refl, h.3)
  limited pre t w rest (inr d) l =
      let h = two.limited pre t w rest d.0 l in
      (h.0, h.1, rw (leads_second pre t w rest l d.1 (two.limits pre t w d.0 l), h.2) refl, h.3)

  leading_left : (pre : List Token) (t : Token) (w : Why) → Leading s pre t w → Leading (alt_first s s') pre t w
  leading_left [] t w b = of_limits (s t ≡ true) (alt_first s s' t ≡ true) w (λ h. rw h refl) b
  leading_left (u ∷ us) t w b = rw b refl

  leading_right : (pre : List Token) (t : Token) (w : Why) → Leading s' pre t w → Leading (alt_first s s') pre t w
  leading_right [] t w b = of_limits (s' t ≡ true) (alt_first s s' t ≡ true) w (λ h. rw h (either_true (s t))) b
  leading_right (u ∷ us) t w b = rw b (either_true (s u))

  limits : (pre : List Token) (t : Token) (w : Why) → InEither s R D E pre t w → IsNamed w → Leading (alt_first s s') pre t w
  limits pre t w (inl d) l = leading_left pre t w (one.limits pre t w d.0 l)
  limits pre t w (inr d) l = leading_right pre t w (two.limits pre t w d.0 l)

  viable_left : (us : List Token) → Viable R us → Viable Rel us
  viable_left us v = (v.0, inl v.1, v.2)

  viable_right : (us : List Token) → Viable S us → Viable Rel us
  viable_right us v = (v.0, inr v.1, v.2)

  tight_at : (b : Bool) (t : Token) → s t ≡ b → alt_first s s' t ≡ true → Viable Rel (t ∷ [])
  tight_at true t h e = viable_left (t ∷ []) (one.tight t h)
  tight_at false t h e = viable_right (t ∷ []) (two.tight t (let is : s' t ≡ true = subst (λ z. either z (s' t) ≡ true) h e in is))

  onward_left : (ts : List Token) (a : A) (t : Token) (rest : List Token) → leads s (ts ++ t ∷ rest) ≡ true → R ts a → Meets Fit (inl a) (t ∷ rest) (read_alt s p q (ts ++ t ∷ rest)) ⊎ Viable Rel (ts ++ t ∷ [])
  onward_left ts a t rest l r =
      elim (one.onward ts a t rest r) [
        | inl h ↦ inl (rw l (meets_left (p (ts ++ t ∷ rest)) a (t ∷ rest) h))
        | inr h ↦ inr (viable_left (ts ++ t ∷ []) h)
      ]

  onward_right : (ts : List Token) (b : B) (t : Token) (rest : List Token) → leads s (ts ++ t ∷ rest) ≡ false → S ts b → Meets Fit (inr b) (t ∷ rest) (read_alt s p q (ts ++ t ∷ rest)) ⊎ Viable Rel (ts ++ t ∷ [])
  onward_right ts b t rest l r =
      elim (two.onward ts b t rest r) [
        | inl h ↦ inl (rw l (meets_right (q (ts ++ t ∷ rest)) b (t ∷ rest) h))
        | inr h ↦ inr (viable_right (ts ++ t ∷ []) h)
      ]

  onward_none : (b : B) (t : Token) (rest : List Token) (c : Bool) → s t ≡ c → S [] b → Meets Fit (inr b) (t ∷ rest) (read_alt s p q (t ∷ rest)) ⊎ Viable Rel (t ∷ [])
  onward_none b t rest true h r = inr (viable_left (t ∷ []) (one.tight t h))
  onward_none b t rest false h r = onward_right [] b t rest h r

  onward : (ts : List Token) (x : A ⊎ B) (t : Token) (rest : List Token) → Rel ts x → Meets Fit x (t ∷ rest) (read_alt s p q (ts ++ t ∷ rest)) ⊎ Viable Rel (ts ++ t ∷ [])
  onward ts (inl a) t rest r = onward_left ts a t rest (leads_left ts (t ∷ rest) (one.starts ts a r)) r
  onward [] (inr b) t rest r = onward_none b t rest (s t) refl r
  onward (u ∷ us) (inr b) t rest r = onward_right (u ∷ us) b t rest (apart u (two.starts (u ∷ us) b r)) r

  pub alt_laws : Laws Rel Fit (InEither s R D E) (read_alt s p q) (alt_first s s') n' (alt_more s m n' m')
  alt_laws = record {
    sound = λ ts. sound_at (leads s ts) ts;
    halted = λ ts w at. halted_at (leads s ts) ts w at refl;
    starts = starts;
    complete = complete;
    onward = onward;
    local = local;
    back = λ ts. back_at (leads s ts) ts;
    short = let h = one.short in (h.0, inl h.1, h.2);
    tight = λ t. tight_at (s t) t refl;
    nil = λ e. let h = two.nil e in (inr h.0, h.1);
    limited = limited;
    limits = limits;
  }

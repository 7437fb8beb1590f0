-- A reader of no token, and a reader whose value is made from what another reads.
use Rattle.std.proofs.Common.{◌≡◌, List, [], ◌∷◌, ◌++◌, Bool, true, ◌⊎◌, inl, inr, refl, sym, ap, ◌∙◌, arith, subst}
use Rattle.cq_lex.specs.declared.token.Token.{Token}
use Rattle.cq_rules.specs.declared.why.Why.{Why}
use Rattle.cq_rules.specs.Outcome.{Out, Took, Stop, Tokens, IsNamed, read_none, mapped}
use Rattle.cq_rules.specs.Relations.{None, Made, Nowhere, Viable}
use Rattle.cq_rules.proofs.Laws.{Taken, Halted, AtHead, Begins, Meets, HaltsBy, left, Agree, took, stop, past, Laws, then_took, then_stop}
use Rattle.cq_rules.proofs.Keep.{nothing}

module _ {A : Type 0} (d : A) (F : A → Type 0) (fits : F d) where
  none_sound : (ts : List Token) (a : A) (rest : List Token) → Took d ts ≡ Took a rest → Taken (None d) F ts a rest
  none_sound ts a rest e =
      let is : d ≡ a = cc e in
      record { front = []; split = cc e; spells = (refl, sym is); fits = subst F is fits }

  pub none_laws : Laws (None d) F Nowhere (read_none d) nothing true nothing
  none_laws = record {
    sound = none_sound;
    halted = λ ts w at e. absurd (cc e);
    starts = λ ts a h. subst (Begins nothing true) (sym h.0) refl;
    complete = λ ts a rest h c. rw (h.0, h.1) (inl refl);
    onward = λ ts a t rest h. rw (h.0, h.1) (inl (inl refl));
    local = λ pre t rest rest'. took d pre (omega arith) refl refl;
    back = λ ts. omega arith;
    short = ([], d, (refl, refl));
    tight = λ t h. absurd (cc h);
    nil = λ e. (d, (refl, refl));
    limited = λ pre t w rest h l. absurd h;
    limits = λ pre t w h l. absurd h;
  }

module _ {A B : Type 0} (f : A → B) (R : List Token → A → Type 0) (F : A → Type 0) (G : B → Type 0) (D E : List Token → Token → Why → Type 0) (p : List Token → Out A) (s : Tokens) (n : Bool) (m : Tokens) (one : Laws R F D p s n m) (to : (a : A) → F a → G (f a)) (from : (a : A) → G (f a) → F a) (halt : (pre : List Token) (t : Token) (w : Why) → D pre t w → E pre t w) (named : (pre : List Token) (t : Token) (w : Why) → IsNamed w → E pre t w → D pre t w) where
  sound : (ts : List Token) (b : B) (rest : List Token) → mapped f (p ts) ≡ Took b rest → Taken (Made f R) G ts b rest
  sound ts b rest e =
      let h = then_took (p ts) _ b rest e in
      let after : h.1 ≡ rest = cc h.3 in
      let is : f h.0 ≡ b = cc h.3 in
      let k = one.sound ts h.0 rest (h.2 ∙ ap (λ z. Took h.0 z) after) in
      subst (λ z. Taken (Made f R) G ts z rest) is (record { front = k.front; split = k.split; spells = (h.0, k.spells, refl); fits = to h.0 k.fits })

  at_head : (P Q : Token → Type 0) → ((t : Token) → P t → Q t) → (ts : List Token) → AtHead P ts → AtHead Q ts
  at_head P Q g [] h = tt
  at_head P Q g (t ∷ ts) h = g t h

  halted : (ts : List Token) (w : Why) (at : List Token) → mapped f (p ts) ≡ Stop w at → Halted (Made f R) E ts w at
  halted ts w at e =
      elim (then_stop (p ts) _ w at e) [
        | inl k ↦ let h = one.halted ts w at k in record {
          front = h.front;
          split = h.split;
          tail = h.tail;
          value = f h.value;
          spells = (h.value, h.spells, refl);
          begins = h.begins;
          halts = at_head (λ t. D h.front t w) (λ t. E h.front t w) (λ t d. halt h.front t w d) at h.halts;
        }
        | inr k ↦ absurd (cc k.3)
      ]

  meets : (o : Out A) (a : A) (rest : List Token) → Meets F a rest o → Meets G (f a) rest (mapped f o)
  meets o a rest (inl e) = inl (rw e refl)
  meets o a rest (inr h) = inr (h.0, h.1, rw h.2 refl, h.3, λ g. h.4 (from a g), h.5)

  left_mapped : (o : Out A) → left (mapped f o) ≡ left o
  left_mapped (Took a rest) = refl
  left_mapped (Stop w at) = refl

  agree : (pre : List Token) (t : Token) (rest rest' : List Token) (o o' : Out A) → Agree t rest rest' pre o o' → Agree t rest rest' pre (mapped f o) (mapped f o')
  agree pre t rest rest' o o' (took a v le e g) = took (f a) v le (rw e refl) (rw g refl)
  agree pre t rest rest' o o' (stop w v e g) = stop w v (rw e refl) (rw g refl)
  agree pre t rest rest' o o' (past le) = past (rw left_mapped le)

  limited : (pre : List Token) (t : Token) (w : Why) (rest : List Token) → E pre t w → IsNamed w → HaltsBy w (t ∷ rest) (mapped f (p (pre ++ t ∷ rest)))
  limited pre t w rest d l = let h = one.limited pre t w rest (named pre t w l d) l in (h.0, h.1, rw h.2 refl, h.3)

  viable : (us : List Token) → Viable R us → Viable (Made f R) us
  viable us v = (v.0, f v.1, (v.1, v.2, refl))

  onward : (ts : List Token) (b : B) (t : Token) (rest : List Token) → Made f R ts b → Meets G b (t ∷ rest) (mapped f (p (ts ++ t ∷ rest))) ⊎ Viable (Made f R) (ts ++ t ∷ [])
  onward ts b t rest h =
      elim (one.onward ts h.0 t rest h.1) [
        | inl k ↦ inl (subst (λ z. Meets G z (t ∷ rest) (mapped f (p (ts ++ t ∷ rest)))) (sym h.2) (meets (p (ts ++ t ∷ rest)) h.0 (t ∷ rest) k))
        | inr k ↦ inr (viable (ts ++ t ∷ []) k)
      ]

  pub made_laws : Laws (Made f R) G E (λ ts. mapped f (p ts)) s n m
  made_laws = record {
    sound = sound;
    halted = halted;
    starts = λ ts b h. one.starts ts h.0 h.1;
    complete = λ ts b rest h c. subst (λ z. Meets G z rest (mapped f (p (ts ++ rest)))) (sym h.2) (meets (p (ts ++ rest)) h.0 rest (one.complete ts h.0 rest h.1 c));
    onward = onward;
    local = λ pre t rest rest'. agree pre t rest rest' _ _ (one.local pre t rest rest');
    back = λ ts. rw left_mapped (one.back ts);
    short = let h = one.short in (h.0, f h.1, (h.1, h.2, refl));
    tight = λ t h. viable (t ∷ []) (one.tight t h);
    nil = λ e. let h = one.nil e in (f h.0, (h.0, h.1, refl));
    limited = limited;
    limits = λ pre t w d l. one.limits pre t w (named pre t w l d) l;
  }

-- A value with the place of its first token.
use Rattle.std.proofs.Common.{◌≡◌, List, [], ◌∷◌, ◌++◌, false, ◌⊎◌, inl, inr, refl, sym, ap, ◌∙◌, subst}
use Rattle.cq_lex.specs.declared.token.Token.{Token}
use Rattle.cq_base.specs.declared.place.Place.{Place}
use Rattle.cq_rules.specs.declared.why.Why.{Why}
use Rattle.cq_rules.specs.Outcome.{Out, Took, Stop, Tokens, IsNamed, mapped, first_place, at_place, read_placed}
use Rattle.cq_rules.specs.Relations.{Placed, Viable}
use Rattle.cq_rules.proofs.Laws.{Taken, Halted, Begins, Clear, Meets, HaltsBy, left, Agree, took, stop, past, Laws, then_took, then_stop}

module _ {A : Type 0} (R : List Token → A → Type 0) (F : A → Type 0) (D : List Token → Token → Why → Type 0) (p : List Token → Out A) (s : Tokens) (m : Tokens) (one : Laws R F D p s false m) where
  abbrev Fit : Place × A → Type 0
  Fit x = F x.1

  -- the first token of a text stays first, whatever follows
  stays_first : (ts rest : List Token) → Begins s false ts → first_place (ts ++ rest) ≡ first_place ts
  stays_first [] rest b = absurd (cc b)
  stays_first (t ∷ ts) rest b = refl

  sound : (ts : List Token) (x : Place × A) (rest : List Token) → read_placed p ts ≡ Took x rest → Taken (Placed R) Fit ts x rest
  sound ts x rest e =
      let h = then_took (p ts) _ x rest e in
      let after : h.1 ≡ rest = cc h.3 in
      let is : at_place (first_place ts) h.0 ≡ x = cc h.3 in
      let k = one.sound ts h.0 rest (h.2 ∙ ap (λ z. Took h.0 z) after) in
      let place : first_place ts ≡ first_place k.front = ap first_place k.split ∙ stays_first k.front rest (one.starts k.front h.0 k.spells) in
      subst (λ z. Taken (Placed R) Fit ts z rest) is (record { front = k.front; split = k.split; spells = (k.spells, place); fits = k.fits })

  halted : (ts : List Token) (w : Why) (at : List Token) → read_placed p ts ≡ Stop w at → Halted (Placed R) D ts w at
  halted ts w at e =
      elim (then_stop (p ts) _ w at e) [
        | inl k ↦ let h = one.halted ts w at k in record {
          front = h.front;
          split = h.split;
          tail = h.tail;
          value = (first_place (h.front ++ h.tail), h.value);
          spells = (h.spells, refl);
          begins = h.begins;
          halts = h.halts;
        }
        | inr k ↦ absurd (cc k.3)
      ]

  meets : (o : Out A) (q : Place) (a : A) (rest : List Token) → Meets F a rest o → Meets Fit (q, a) rest (mapped (at_place q) o)
  meets o q a rest (inl e) = inl (rw e refl)
  meets o q a rest (inr h) = inr (h.0, h.1, rw h.2 refl, h.3, h.4, h.5)

  complete : (ts : List Token) (x : Place × A) (rest : List Token) → Placed R ts x → Clear m rest → Meets Fit x rest (read_placed p (ts ++ rest))
  complete ts x rest h c =
      let place : first_place (ts ++ rest) ≡ x.0 = stays_first ts rest (one.starts ts x.1 h.0) ∙ sym h.1 in
      subst (λ z. Meets Fit x rest (mapped (at_place z) (p (ts ++ rest)))) (sym place) (meets (p (ts ++ rest)) x.0 x.1 rest (one.complete ts x.1 rest h.0 c))

  left_mapped : (q : Place) (o : Out A) → left (mapped (at_place q) o) ≡ left o
  left_mapped q (Took a rest) = refl
  left_mapped q (Stop w at) = refl

  agree : (q : Place) (pre : List Token) (t : Token) (rest rest' : List Token) (o o' : Out A) → Agree t rest rest' pre o o' → Agree t rest rest' pre (mapped (at_place q) o) (mapped (at_place q) o')
  agree q pre t rest rest' o o' (took a v le e g) = took (q, a) v le (rw e refl) (rw g refl)
  agree q pre t rest rest' o o' (stop w v e g) = stop w v (rw e refl) (rw g refl)
  agree q pre t rest rest' o o' (past le) = past (rw (left_mapped q o) le)

  local : (pre : List Token) (t : Token) (rest rest' : List Token) → Agree t rest rest' pre (read_placed p (pre ++ t ∷ rest)) (read_placed p (pre ++ t ∷ rest'))
  local [] t rest rest' = agree t.place [] t rest rest' _ _ (one.local [] t rest rest')
  local (u ∷ us) t rest rest' = agree u.place (u ∷ us) t rest rest' _ _ (one.local (u ∷ us) t rest rest')

  limited : (pre : List Token) (t : Token) (w : Why) (rest : List Token) → D pre t w → IsNamed w → HaltsBy w (t ∷ rest) (read_placed p (pre ++ t ∷ rest))
  limited pre t w rest d l = let h = one.limited pre t w rest d l in (h.0, h.1, rw h.2 refl, h.3)

  viable : (us : List Token) → Viable R us → Viable (Placed R) us
  viable us v = (v.0, (first_place (us ++ v.0), v.1), (v.2, refl))

  onward : (ts : List Token) (x : Place × A) (t : Token) (rest : List Token) → Placed R ts x → Meets Fit x (t ∷ rest) (read_placed p (ts ++ t ∷ rest)) ⊎ Viable (Placed R) (ts ++ t ∷ [])
  onward ts x t rest h =
      let place : first_place (ts ++ t ∷ rest) ≡ x.0 = stays_first ts (t ∷ rest) (one.starts ts x.1 h.0) ∙ sym h.1 in
      elim (one.onward ts x.1 t rest h.0) [
        | inl k ↦ inl (subst (λ z. Meets Fit x (t ∷ rest) (mapped (at_place z) (p (ts ++ t ∷ rest)))) (sym place) (meets (p (ts ++ t ∷ rest)) x.0 x.1 (t ∷ rest) k))
        | inr k ↦ inr (viable (ts ++ t ∷ []) k)
      ]

  pub placed_laws : Laws (Placed R) Fit D (read_placed p) s false m
  placed_laws = record {
    sound = sound;
    halted = halted;
    starts = λ ts x h. one.starts ts x.1 h.0;
    complete = complete;
    onward = onward;
    local = local;
    back = λ ts. rw (left_mapped (first_place ts) (p ts)) (one.back ts);
    short = let h = one.short in (h.0, (first_place h.0, h.1), (h.2, refl));
    tight = λ t h. viable (t ∷ []) (one.tight t h);
    nil = λ e. absurd (cc e);
    limited = limited;
    limits = one.limits;
  }

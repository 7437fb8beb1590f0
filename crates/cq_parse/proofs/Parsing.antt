-- A whole text of a rule: what each answer of the parser says.
use Rattle.std.proofs.Common.{◌≡◌, ◌<◌, List, [], ◌∷◌, ◌++◌, length, true, inl, inr, refl, sym, ap, ◌∙◌, arith, subst, append_assoc}
use Rattle.cq_lex.specs.declared.token.Token.{Token}
use Rattle.cq_lex.specs.Spans.{EndsOnce}
use Rattle.cq_rules.specs.declared.why.Why.{Why}
use Rattle.cq_rules.specs.declared.why.Why.TheVariants.{Wanted, LeftOut, Deep, BadOption}
use Rattle.cq_rules.specs.Outcome.{Took, Stop}
use Rattle.cq_rules.specs.Refused.{Refused}
use Rattle.cq_rules.specs.Rule.{Rule, Spells, Fits, Refuses, read, decides}
use Rattle.cq_rules.proofs.Rules.{RuleLaws, laws}
use Rattle.cq_rules.proofs.Deciding.{read_whole, is_read, refused, refused_over, decided, runs_out}
use Rattle.cq_parse.specs.declared.refusal.ParseRefusal.{ParseRefusal}
use Rattle.cq_parse.specs.Parsed.{EndsAtEnd, IsRefusedBy, RefusedBy, refusal_for}

append_empty : (us : List Token) → us ++ [] ≡ us
append_empty [] = refl
append_empty (u ∷ us) = ap (λ z. u ∷ z) (append_empty us)

-- a refusal at the first of these tokens
abbrev pub ForFirst : Why → List Token → ParseRefusal → Type 0
ForFirst w at r = (t : Token) (rest : List Token) → at ≡ t ∷ rest → r ≡ refusal_for w t

module _ {A : Type 0} (rule : Rule A) (decides_it : decides rule ≡ true) where
  rule_laws : RuleLaws rule
  rule_laws = laws rule decides_it

  pub accepted : (ts : List Token) (tree : A) → read rule ts ≡ Took tree [] → Spells rule ts tree × Fits rule tree
  accepted ts tree e = is_read _ _ _ _ _ _ _ rule_laws ts tree e

  pub accepts : (ts : List Token) (tree : A) → Spells rule ts tree → Fits rule tree → read rule ts ≡ Took tree []
  accepts ts tree r f = read_whole _ _ _ _ _ _ _ rule_laws ts tree r f

  never_runs_out : (ts : List Token) (w : Why) → EndsAtEnd rule → EndsOnce ts → read rule ts ≡ Stop w [] → ⊥
  never_runs_out ts w closed once e =
      let h = rule_laws.halted ts w [] e in
      let front : h.front ≡ ts = sym (h.split ∙ append_empty h.front) in
      let whole : h.front ++ h.tail ≡ once.front ++ once.last ∷ h.tail = ap (λ z. z ++ h.tail) (front ∙ once.split) ∙ append_assoc once.front (once.last ∷ []) h.tail in
      let none : h.tail ≡ [] = closed once.front once.last h.tail h.value once.is_end (subst (λ z. Spells rule z h.value) whole h.spells) in
      let text : Spells rule ts h.value = subst (λ z. Spells rule z h.value) (ap (λ z. h.front ++ z) none ∙ append_empty h.front ∙ front) h.spells in
      runs_out _ _ _ _ _ _ _ rule_laws ts w h.value e text

  -- a refusal for a reason is told with its cause
  told : (ts : List Token) (t : Token) (w : Why) → Refused (Spells rule) (Refuses rule) ts t w → IsRefusedBy rule ts (refusal_for w t)
  told ts t Wanted h = record { token = t; why = Wanted; refused = h; refusal_is = refl }
  told ts t (LeftOut n) h = record { token = t; why = LeftOut n; refused = h; refusal_is = refl }
  told ts t Deep h = record { token = t; why = Deep; refused = h; refusal_is = refl }
  told ts t (BadOption p) h = record { token = t; why = BadOption p; refused = h; refusal_is = refl }

  pub stopped : (ts : List Token) (w : Why) (at : List Token) (r : ParseRefusal) → 0 < length at → read rule ts ≡ Stop w at → ForFirst w at r → IsRefusedBy rule ts r
  stopped ts w [] r some e f = absurd (omega arith)
  stopped ts w (t ∷ rest) r some e f = subst (IsRefusedBy rule ts) (sym (f t rest refl)) (told ts t w (refused _ _ _ _ _ _ _ rule_laws ts w t rest e))

  pub left_over : (ts : List Token) (tree : A) (at : List Token) (r : ParseRefusal) → 0 < length at → read rule ts ≡ Took tree at → ForFirst Wanted at r → IsRefusedBy rule ts r
  left_over ts tree [] r some e f = absurd (omega arith)
  left_over ts tree (t ∷ rest) r some e f = subst (IsRefusedBy rule ts) (sym (f t rest refl)) (told ts t Wanted (refused_over _ _ _ _ _ _ _ rule_laws ts tree t rest e))

  pub some_left : (ts : List Token) (w : Why) (at : List Token) → EndsAtEnd rule → EndsOnce ts → read rule ts ≡ Stop w at → 0 < length at
  some_left ts w [] closed once e = absurd (never_runs_out ts w closed once e)
  some_left ts w (t ∷ rest) closed once e = omega arith

  pub none_left : (ts : List Token) (tree : A) (rest : List Token) → length rest ≡ 0 → read rule ts ≡ Took tree rest → read rule ts ≡ Took tree []
  none_left ts tree [] e f = f
  none_left ts tree (t ∷ rest) e f = absurd (omega arith)

  -- what is accepted is not refused
  pub not_refused : (ts : List Token) (tree : A) (r : ParseRefusal) → read rule ts ≡ Took tree [] → RefusedBy rule ts r → ⊥
  not_refused ts tree r e h =
      elim (decided _ _ _ _ _ _ _ rule_laws ts h.token h.why h.refused) [
        | inl d ↦ absurd (cc (e, d.1))
        | inr d ↦ absurd (cc (e, d.3))
      ]

  -- and a list of tokens has one refusal
  pub one_stopped : (ts : List Token) (w : Why) (at : List Token) (told refusal : ParseRefusal) → read rule ts ≡ Stop w at → ForFirst w at told → RefusedBy rule ts refusal → told ≡ refusal
  one_stopped ts w at told refusal e f h =
      elim (decided _ _ _ _ _ _ _ rule_laws ts h.token h.why h.refused) [
        | inl d ↦
            let split : at ≡ h.token ∷ d.0 = cc (e, d.1) in
            let why : w ≡ h.why = cc (e, d.1) in
            f h.token d.0 split ∙ ap (λ z. refusal_for z h.token) why ∙ sym h.refusal_is
        | inr d ↦ absurd (cc (e, d.3))
      ]

  pub one_left_over : (ts : List Token) (tree : A) (at : List Token) (told refusal : ParseRefusal) → read rule ts ≡ Took tree at → ForFirst Wanted at told → RefusedBy rule ts refusal → told ≡ refusal
  one_left_over ts tree at told refusal e f h =
      elim (decided _ _ _ _ _ _ _ rule_laws ts h.token h.why h.refused) [
        | inl d ↦ absurd (cc (e, d.1))
        | inr d ↦
            let split : at ≡ h.token ∷ d.2 = cc (e, d.3) in
            f h.token d.2 split ∙ ap (λ z. refusal_for z h.token) (sym d.0) ∙ sym h.refusal_is
      ]

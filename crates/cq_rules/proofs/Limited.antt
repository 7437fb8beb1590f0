-- Where a text of the relation doesn't fit, its reading halts.
use Rattle.std.proofs.Common.{◌≡◌, ◌≤◌, List, [], ◌∷◌, ◌++◌, length, inl, inr, ap, ◌∙◌, arith, subst, append_assoc, length-append}
use Rattle.cq_lex.specs.declared.token.Token.{Token}
use Rattle.cq_rules.specs.declared.why.Why.{Why}
use Rattle.cq_rules.specs.declared.why.Why.TheVariants.{Deep}
use Rattle.cq_rules.specs.Outcome.{Out, Took, Stop, IsLimit}
use Rattle.cq_rules.proofs.Laws.{Taken, Halted, AtHead, Meets, HaltsBy, left, Agree, took, stop, past}
use Rattle.cq_rules.proofs.Seq.{append_empty}

abbrev pub AllNot : (Token → Type 0) → List Token → Type 0
AllNot P [] = Unit {0}
AllNot P (t ∷ ts) = (P t → ⊥) × AllNot P ts

not_in : (P : Token → Type 0) (front : List Token) (u : Token) (us cs : List Token) → cs ≡ front ++ u ∷ us → AllNot P cs → P u → ⊥
not_in P [] u us [] e h k = cc e
not_in P (f ∷ fs) u us [] e h k = cc e
not_in P [] u us (c ∷ cs) e h k = let same : u ≡ c = cc e in h.0 (subst P same k)
not_in P (f ∷ fs) u us (c ∷ cs) e h k = let after : cs ≡ fs ++ u ∷ us = cc e in not_in P fs u us cs after h.1 k

not_after : (P : Token → Type 0) (xs cs front : List Token) (u : Token) (us : List Token) → xs ++ cs ≡ front ++ u ∷ us → length (u ∷ us) ≤ length cs → AllNot P cs → P u → ⊥
not_after P [] cs front u us e le h k = not_in P front u us cs e h k
not_after P (x ∷ xs) cs [] u us e le h k =
    let after : xs ++ cs ≡ us = cc e in
    omega (arith, ap length after, length-append xs cs)
not_after P (x ∷ xs) cs (f ∷ fs) u us e le h k = let after : xs ++ cs ≡ fs ++ u ∷ us = cc e in not_after P xs cs fs u us after le h k

module _ {A : Type 0} (R : List Token → A → Type 0) (F : A → Type 0) (D : List Token → Token → Why → Type 0) (run : List Token → Out A) (sound : (ts : List Token) (a : A) (rest : List Token) → run ts ≡ Took a rest → Taken R F ts a rest) (halted : (ts : List Token) (w : Why) (at : List Token) → run ts ≡ Stop w at → Halted R D ts w at) (complete : (ts : List Token) (a : A) → R ts a → Meets F a [] (run (ts ++ []))) (local : (pre : List Token) (t : Token) (rest rest' : List Token) → Agree t rest rest' pre (run (pre ++ t ∷ rest)) (run (pre ++ t ∷ rest'))) (P : Token → Type 0) (at_limit : (front : List Token) (t : Token) (w : Why) → D front t w → IsLimit w → P t) (only : (front : List Token) (t : Token) (w : Why) → D front t w → IsLimit w → w ≡ Deep) where
  at_head : (Q : Token → Type 0) (at : List Token) (u : Token) (us : List Token) → at ≡ u ∷ us → AtHead Q at → Q u
  at_head Q at u us e h = rw e at h

  inside : (pre : List Token) (t : Token) (cs : List Token) (w : Why) (at : List Token) → run (pre ++ t ∷ cs) ≡ Stop w at → IsLimit w → length at ≤ length cs → AllNot P cs → ⊥
  inside pre t cs w at e lim le none =
      let h = halted (pre ++ t ∷ cs) w at e in
      let b = h.begins lim in
      let here = at_limit h.front b.0 w (at_head (λ t. D h.front t w) at b.0 b.1 b.3 h.halts) lim in
      let split : (pre ++ t ∷ []) ++ cs ≡ h.front ++ b.0 ∷ b.1 = append_assoc pre (t ∷ []) cs ∙ h.split ∙ ap (λ z. h.front ++ z) b.3 in
      not_after P (pre ++ t ∷ []) cs h.front b.0 b.1 split (omega (arith, ap length b.3)) none here

  deep : (ts : List Token) (w : Why) (at : List Token) → run ts ≡ Stop w at → IsLimit w → w ≡ Deep
  deep ts w at e lim =
      let h = halted ts w at e in
      let b = h.begins lim in
      only h.front b.0 w (at_head (λ t. D h.front t w) at b.0 b.1 b.3 h.halts) lim

  pub limited_by : (pre : List Token) (t : Token) (cs rest : List Token) (a : A) → R (pre ++ t ∷ cs) a → (F a → ⊥) → AllNot P cs → HaltsBy Deep (t ∷ rest) (run (pre ++ t ∷ rest))
  limited_by pre t cs rest a r f none =
      let met : Meets F a [] (run (pre ++ t ∷ cs)) = subst (λ z. Meets F a [] (run z)) (append_empty (pre ++ t ∷ cs)) (complete (pre ++ t ∷ cs) a r) in
      elim met [
        | inl e ↦ absurd (f (sound (pre ++ t ∷ cs) a [] e).fits)
        | inr h ↦ elim (local pre t cs rest) [
          | took b v le e1 e2 ↦ absurd (cc (h.2, e1))
          | stop w v e1 e2 ↦
              let same : h.0 ≡ w = cc (h.2, e1) in
              (w, v, e2, λ z. deep (pre ++ t ∷ cs) w (v ++ t ∷ cs) e1 (subst IsLimit same h.3))
          | past le ↦ absurd (inside pre t cs h.0 (h.1 ++ []) h.2 h.3 (omega (arith, ap (λ z. length (left z)) h.2)) none)
        ]
      ]

-- What is seen in cited steps.
use Rattle.std.proofs.Common.{ℕ, List, [], ◌∷◌, ◌++◌, ◌+◌, ◌≡◌, Some, length, reverse, refl, sym, ap, subst, ◌∙◌, arith}
use Rattle.std.specs.Prelude.{slice_get}
use Rattle.std.proofs.lemmas.List.{reverse-append}
use Rattle.cq_import.proofs.Places.{get-append, get-append_front}
use Rattle.cq_steps.specs.declared.step.Rule.TheVariants.{Transitivity}
use Rattle.cq_steps.specs.declared.step.Step.{Step}
use Rattle.cq_conflict.specs.Told.{AreSeen, Extends, IsBy, IsSeen, Leads, itself, joined, one_of, turned}

pub get_last : {X : Type 0} (xs : List X) (x : X) → slice_get (xs ++ x ∷ []) (length xs) ≡ Some x
get_last xs x = let here : length xs ≡ length xs + 0 = omega arith in ap (slice_get (xs ++ x ∷ [])) here ∙ get-append xs (x ∷ []) 0 x refl

module _ (steps : List Step) where
  -- what is seen stays so where more is cited
  pub seen_more : (cited more : List ℕ) (n : ℕ) → IsSeen steps cited n → IsSeen steps (cited ++ more) n
  seen_more cited more n (one_of k at) = one_of k (get-append_front cited more k n at)
  seen_more cited more n (itself by) = itself by
  seen_more cited more n (turned p by seen) = turned p by (seen_more cited more p seen)
  seen_more cited more n (joined p q by first second) = joined p q by (seen_more cited more p first) (seen_more cited more q second)

  pub seen_last : (cited : List ℕ) (n : ℕ) → IsSeen steps (cited ++ n ∷ []) n
  seen_last cited n = one_of (length cited) (get_last cited n)

  -- lists of what is seen
  pub seen_append : (cited xs ys : List ℕ) → AreSeen steps cited xs → AreSeen steps cited ys → AreSeen steps cited (xs ++ ys)
  seen_append cited [] ys h k = k
  seen_append cited (x ∷ xs) ys h k = (h.0, seen_append cited xs ys h.1 k)

  pub seen_parts : (cited xs ys : List ℕ) → AreSeen steps cited (xs ++ ys) → AreSeen steps cited xs × AreSeen steps cited ys
  seen_parts cited [] ys h = (tt, h)
  seen_parts cited (x ∷ xs) ys h = let rest = seen_parts cited xs ys h.1 in ((h.0, rest.0), rest.1)

  pub seen_reversed : (cited xs : List ℕ) → AreSeen steps cited (reverse xs) → AreSeen steps cited xs
  seen_reversed cited [] h = tt
  seen_reversed cited (x ∷ xs) h =
      let parts = seen_parts cited (reverse xs) (x ∷ []) (subst (AreSeen steps cited) (reverse-append (x ∷ []) xs) h) in
      (parts.1.0, seen_reversed cited xs parts.0)

  -- One step down a chain: its second premise is put behind the others, and its first one comes next.
  pub chain_more : (waiting whole : List ℕ) (here left right : ℕ) → IsBy steps here Transitivity (left ∷ right ∷ []) → Leads steps (waiting ++ here ∷ []) whole
      → Leads steps ((waiting ++ right ∷ []) ++ left ∷ []) whole
  chain_more waiting whole here left right by leads cited seen =
      let parts = seen_parts cited (waiting ++ right ∷ []) (left ∷ []) seen in
      let first = seen_parts cited waiting (right ∷ []) parts.0 in
      leads cited (seen_append cited waiting (here ∷ []) first.0 (joined left right by parts.1.0 first.1.0, tt))

  -- Two premises of which the second waits first.
  pub pair_leads : (waiting : List ℕ) (first second : ℕ) → Leads steps waiting ((second ∷ []) ++ first ∷ []) → Leads steps waiting (first ∷ second ∷ [])
  pair_leads waiting first second leads cited seen = let both = leads cited seen in (both.1.0, (both.0, tt))

  -- What is cited so far, and what waits: where all that waits is seen in what is cited at the end, so is the whole.
  abbrev pub AreWaiting : List ℕ → List ℕ → List ℕ → Type 0
  AreWaiting cited waiting whole = (later : List ℕ) → Extends steps cited later → AreSeen steps later waiting → AreSeen steps later whole

  pub waiting_more : (old new waiting rest whole : List ℕ) (n : ℕ) → waiting ≡ rest ++ n ∷ [] → IsSeen steps new n → Extends steps old new → AreWaiting old waiting whole → AreWaiting new rest whole
  waiting_more old new waiting rest whole n are one extends before later further seen =
      before later (λ m s. further m (extends m s)) (subst (AreSeen steps later) (sym are) (seen_append later rest (n ∷ []) seen (further n one, tt)))

  pub waiting_end : (cited waiting whole : List ℕ) → waiting ≡ [] → AreWaiting cited waiting whole → AreSeen steps cited whole
  waiting_end cited waiting whole none before = before cited (λ m s. s) (subst (AreSeen steps cited) (sym none) tt)

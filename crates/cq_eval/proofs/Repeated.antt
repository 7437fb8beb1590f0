-- Answers that are put behind others, with other rows in front.
use Rattle.std.proofs.Common.{ℕ, List, [], ◌∷◌, ◌++◌, ◌≡◌, ◌<◌, ◌≤◌, ◌+◌, ◌-◌, map, take, drop, length, get_or, sym, ap, ◌∙◌, arith, append_assoc}
use Rattle.std.proofs.lemmas.List.{length-append, length-map, length-drop, length-take-le, take_more, drop-append-le, map-append, get_or_append_left}
use Rattle.cq_eval.specs.Known.{between}
use Rattle.cq_eval.specs.Refused.{TellsOver}
use Rattle.cq_eval.specs.declared.known.Stretch.{Stretch}
use Rattle.cq_eval.specs.declared.refusal.EvalRefusal.{EvalRefusal}
use Rattle.cq_eval.proofs.Extended.{tells_more}

module _ (f : List ℕ → List ℕ) (lists : List (List ℕ)) (stretch : Stretch) (within : stretch.end ≤ length lists) where
  -- those that stand before a place
  abbrev pub before : ℕ → List (List ℕ)
  before place = map f (drop stretch.start (take place lists))

  amount : (place : ℕ) → stretch.start ≤ place → place ≤ stretch.end → length (before place) ≡ place - stretch.start
  amount place past less =
      length-map (drop stretch.start (take place lists)) f ∙ length-drop stretch.start (take place lists)
      ∙ ap (λ n. n - stretch.start) (length-take-le place lists (omega (arith, less, within)))

  pub one_more : (place : ℕ) (found found' : List (List ℕ)) → stretch.start ≤ place → place < stretch.end → found ≡ lists ++ before place → found' ≡ found ++ f (get_or found place []) ∷ []
      → found' ≡ lists ++ before (place + 1)
  one_more place found found' past less is put =
      let inside : place < length lists = omega (arith, less, within) in
      let read : get_or found place [] ≡ get_or lists place [] = ap (λ l. get_or l place []) is ∙ get_or_append_left lists (before place) [] place inside in
      let size : length (take place lists) ≡ place = length-take-le place lists (omega (arith, inside)) in
      let next : before (place + 1) ≡ before place ++ f (get_or lists place []) ∷ [] =
      ap (λ l. map f (drop stretch.start l)) (take_more lists place [] inside)
      ∙ ap (map f) (drop-append-le stretch.start (take place lists) (get_or lists place [] ∷ []) (omega (arith, size, past)))
      ∙ map-append f (drop stretch.start (take place lists)) (get_or lists place [] ∷ []) in
      put ∙ (λ i. is i ++ f (read i) ∷ []) ∙ append_assoc lists (before place) (f (get_or lists place []) ∷ []) ∙ ap (λ l. lists ++ l) (sym next)

  pub told_more : (entity place : ℕ) (found : List (List ℕ)) (refusal : EvalRefusal) → stretch.start ≤ place → place < stretch.end → found ≡ lists ++ before place
      → TellsOver entity (length found + 1) refusal → TellsOver entity (length lists + length (between stretch lists)) refusal
  told_more entity place found refusal past less is tells =
      let so_many : length found ≡ length lists + length (before place) = ap length is ∙ length-append lists (before place) in
      let here = amount place past (omega (arith, less)) in
      let all = amount stretch.end (omega (arith, past, less)) (omega arith) in
      let whole = length-map (between stretch lists) f in
      tells_more entity (length found + 1) (length lists + length (between stretch lists)) refusal (omega (arith, so_many, here, all, whole, past, less)) tells

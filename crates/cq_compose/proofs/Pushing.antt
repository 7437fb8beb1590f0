-- A component's keys are pushed from the path's end, and counted so.
use Rattle.std.proofs.Common.{ℕ, List, [], ◌∷◌, ◌++◌, Option, Some, None, ◌≡◌, ◌<◌, ◌+◌, length, refl, sym, ap, subst, ◌∙◌, append_assoc, arith, slice_index_or}
use Rattle.std.specs.Prelude.{slice_get, MatchOption}
use Rattle.std.proofs.lemmas.List.{append-nil}
use Rattle.cq_theory.specs.declared.term.EntTerm.{EntTerm}
use Rattle.cq_theory.specs.EntTerm.{alone, extended}
use Rattle.cq_query.specs.Translation.{assigned}
use Rattle.cq_compose.specs.declared.frame.Frame.{Frame}
use Rattle.cq_compose.specs.Composite.{components}
use Rattle.cq_compose.specs.Frame.{components_along, component_along}
use Rattle.cq_compose.proofs.Following.{last_component, no_component, no_keys}
use Rattle.cq_compose.proofs.Measuring.{room_shared, same_room, keys_at_last, no_keys_at_last, no_keys_here}

empty : (xs : List ℕ) → length xs ≡ 0 → xs ≡ []
empty [] h = refl
empty (x ∷ xs) h = absurd (omega arith)

module _ (frame : Frame) (y place : ℕ) where
  abbrev comp : List ℕ → EntTerm
  comp path = component_along frame y path place

  module _ (made : List ℕ) where
    pub push_here : (path : List ℕ) (g : ℕ) → length path ≡ 0 → g ≡ (slice_index_or (components frame.first.now frame.second.now frame.entity y) place (alone 0)).generator
        → (g ≡ (component_along frame y path place).generator) × (made ≡ made ++ (component_along frame y path place).path)
    push_here path g none is =
        let here = empty path none in (
          is ∙ ap (λ p. (comp p).generator) (sym here),
          sym (append-nil made) ∙ ap (λ l. made ++ l) (sym (ap (λ p. (comp p).path) here ∙ no_keys frame.first.now frame.second.now frame.entity y place)),
        )

    pub push_none : (path before : List ℕ) (key : ℕ) → path ≡ before ++ key ∷ [] → slice_get (assigned frame.first.now key) place ≡ None
        → (0 ≡ (component_along frame y path place).generator) × (made ≡ made ++ (component_along frame y path place).path)
    push_none path before key ends none =
        let is : comp path ≡ alone 0 = ap comp ends ∙ no_component frame.first.now (components_along frame y []) before key place none in
        (ap (λ (s : EntTerm). s.generator) (sym is), sym (append-nil made) ∙ ap (λ (s : EntTerm). made ++ s.path) (sym is))

    pub push_last : (path before : List ℕ) (key : ℕ) → path ≡ before ++ key ∷ [] → (t : EntTerm) → slice_get (assigned frame.first.now key) place ≡ Some t → (g : ℕ) (more all last : List ℕ)
        → (g ≡ (component_along frame y before t.generator).generator) × (more ≡ made ++ (component_along frame y before t.generator).path) → all ≡ more ++ last → last ≡ t.path
        → (g ≡ (component_along frame y path place).generator) × (all ≡ made ++ (component_along frame y path place).path)
    push_last path before key ends t at g more all last so_far are is_last =
        let is : comp path ≡ extended (component_along frame y before t.generator) t.path = ap comp ends ∙ last_component frame.first.now (components_along frame y []) before key place t at in (
          so_far.0 ∙ ap (λ (s : EntTerm). s.generator) (sym is),
          are ∙ (λ i. so_far.1 i ++ is_last i) ∙ append_assoc made (component_along frame y before t.generator).path t.path ∙ ap (λ (s : EntTerm). made ++ s.path) (sym is),
        )

  pub room_here : (path : List ℕ) (room : ℕ) → length path ≡ 0 → length (component_along frame y path place).path + room ≡ room
  room_here path room none =
      let here = empty path none in
      let zero_keys : 0 ≡ length (component_along frame y path place).path = no_keys_here frame y place ∙ ap (λ p. length (comp p).path) (sym here) in
      omega (arith, zero_keys)

  pub room_none : (path before : List ℕ) (key room : ℕ) → path ≡ before ++ key ∷ [] → slice_get (assigned frame.first.now key) place ≡ None → length (component_along frame y path place).path + room ≡ room
  room_none path before key room ends none =
      let zero_keys : 0 ≡ length (component_along frame y path place).path = no_keys_at_last frame y before key place none ∙ ap (λ p. length (comp p).path) (sym ends) in
      omega (arith, zero_keys)

  pub keys_last : (path before : List ℕ) (key : ℕ) → path ≡ before ++ key ∷ [] → (t : EntTerm) → slice_get (assigned frame.first.now key) place ≡ Some t
      → length (component_along frame y before t.generator).path + length t.path ≡ length (component_along frame y path place).path
  keys_last path before key ends t at = keys_at_last frame y before key place t at ∙ ap (λ p. length (comp p).path) (sym ends)

  pub room_last : (path before : List ℕ) (key : ℕ) → path ≡ before ++ key ∷ [] → (t : EntTerm) → slice_get (assigned frame.first.now key) place ≡ Some t → (r : Option ℕ) (room left : ℕ) → length t.path + left ≡ room
      → MatchOption r (left < length (component_along frame y before t.generator).path) (λ l. length (component_along frame y before t.generator).path + l ≡ left)
      → MatchOption r (room < length (component_along frame y path place).path) (λ l. length (component_along frame y path place).path + l ≡ room)
  room_last path before key ends t at r room left both h =
      same_room r _ _ room (keys_last path before key ends t at) (room_shared r (length (component_along frame y before t.generator).path) (length t.path) room left both h)

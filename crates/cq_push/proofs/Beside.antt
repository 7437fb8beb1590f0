-- Presentations that are put beside one another, one at a time.
use Rattle.std.proofs.Common.{ℕ, zero, suc, List, [], ◌∷◌, ◌++◌, ◌≡◌, ◌<◌, ◌≤◌, ◌+◌, map, take, length, get_or, sym, ap, subst, ◌∙◌, append_assoc, length-append, arith}
use Rattle.std.specs.Prelude.{All}
use Rattle.std.proofs.lemmas.List.Elements.{All-append}
use Rattle.std.proofs.lemmas.List.{append-nil, take_more, map-append, length-map}
use Rattle.std.proofs.lemmas.Grind.{flat_map-append}
use Rattle.cq_base.specs.declared.name.Name.{Name}
use Rattle.cq_theory.specs.declared.presentation.Sort.{Sort}
use Rattle.cq_theory.specs.declared.presentation.Equation.{Equation}
use Rattle.cq_theory.specs.declared.presentation.Presentation.{Presentation}
use Rattle.cq_theory.specs.SchemaData.{SchemaData as Schema}
use Rattle.cq_theory.specs.Presentation.{IsPresentation}
use Rattle.cq_instance.specs.InstanceData.{InstanceData, IsInstance}
use Rattle.cq_transform.specs.Shifted.{shifted_equation}
use Rattle.cq_transform.specs.Gluing.{sorts_of, equations_from}

abbrev pub own_sorts : Presentation → List Sort
own_sorts P = map (λ g. g.1) P.generators

pub own_count : (P : Presentation) → length (own_sorts P) ≡ length P.generators
own_count P = length-map P.generators (λ (g : Name × Sort). g.1)

-- the equations of more presentations behind those of some
equations-append : (first : ℕ) (parts more : List Presentation) → equations_from first (parts ++ more) ≡ equations_from first parts ++ equations_from (first + length (sorts_of parts)) more
equations-append first [] more = let here : first ≡ first + 0 = omega arith in ap (λ n. equations_from n more) here
equations-append first (P ∷ parts) more =
    let count : length (sorts_of (P ∷ parts)) ≡ length (own_sorts P) + length (sorts_of parts) = length-append (own_sorts P) (sorts_of parts) in
    let there : first + length P.generators + length (sorts_of parts) ≡ first + length (sorts_of (P ∷ parts)) = omega (arith, count, own_count P) in
    ap (λ l. map (shifted_equation first) P.equations ++ l)
    (equations-append (first + length P.generators) parts more ∙ ap (λ n. equations_from (first + length P.generators) parts ++ equations_from n more) there)
    ∙ sym (append_assoc (map (shifted_equation first) P.equations) (equations_from (first + length P.generators) parts) (equations_from (first + length (sorts_of (P ∷ parts))) more))

one : {X : Type 0} (P : X → Type 0) (x : X) → P x → All P (x ∷ [])
one P x h zero d within = h
one P x h (suc k) d within = absurd (omega arith)

-- what a loop over some presentations has put beside one another, one more
module _ {X : Type 0} (f : X → Presentation) (xs : List X) (i : ℕ) (d : X) (within : i < length xs) where
  next : map f (take (i + 1) xs) ≡ map f (take i xs) ++ f (get_or xs i d) ∷ []
  next = ap (map f) (take_more xs i d within) ∙ map-append f (take i xs) (get_or xs i d ∷ [])

  pub sorts_more : (old new : List Sort) → old ≡ sorts_of (map f (take i xs)) → new ≡ old ++ own_sorts (f (get_or xs i d)) → new ≡ sorts_of (map f (take (i + 1) xs))
  sorts_more old new are is =
      is ∙ (λ j. are j ++ sym (append-nil (own_sorts (f (get_or xs i d)))) j)
      ∙ sym (flat_map-append own_sorts (map f (take i xs)) (f (get_or xs i d) ∷ [])) ∙ ap sorts_of (sym next)

  pub equations_more : (sorts : List Sort) (old new : List Equation) → sorts ≡ sorts_of (map f (take i xs)) → old ≡ equations_from 0 (map f (take i xs))
      → new ≡ old ++ map (shifted_equation (length sorts)) (f (get_or xs i d)).equations → new ≡ equations_from 0 (map f (take (i + 1) xs))
  equations_more sorts old new known are is =
      let first : length sorts ≡ 0 + length (sorts_of (map f (take i xs))) = omega (arith, ap length known) in
      let last : List Equation = map (shifted_equation (0 + length (sorts_of (map f (take i xs))))) (f (get_or xs i d)).equations in
      is ∙ (λ j. are j ++ map (shifted_equation (first j)) (f (get_or xs i d)).equations) ∙ ap (λ l. equations_from 0 (map f (take i xs)) ++ l) (sym (append-nil last))
      ∙ sym (equations-append 0 (map f (take i xs)) (f (get_or xs i d) ∷ [])) ∙ ap (equations_from 0) (sym next)

  pub presented_more : (S : Schema) → All (IsPresentation S) (map f (take i xs)) → IsPresentation S (f (get_or xs i d)) → All (IsPresentation S) (map f (take (i + 1) xs))
  presented_more S so_far here =
      subst (All (IsPresentation S)) (sym next) (All-append (IsPresentation S) (map f (take i xs)) (f (get_or xs i d) ∷ []) so_far (one (IsPresentation S) (f (get_or xs i d)) here))

-- there are no more generators so far than at the end
pub count_within : {X : Type 0} (f : X → Presentation) (xs : List X) (i : ℕ) (d : X) → i < length xs
    → length (sorts_of (map f (take i xs))) + length (f (get_or xs i d)).generators ≤ length (sorts_of (map f xs))
count_within f [] i d h = absurd (omega arith)
count_within f (x ∷ xs) zero d h = omega (arith, length-append (own_sorts (f x)) (sorts_of (map f xs)), own_count (f x))
count_within f (x ∷ xs) (suc i) d h =
    omega (arith, count_within f xs i d (omega arith), length-append (own_sorts (f x)) (sorts_of (map f xs)), length-append (own_sorts (f x)) (sorts_of (map f (take i xs))))

pub few_more : (old new : List Sort) (P : Presentation) → new ≡ old ++ own_sorts P → length old + length P.generators ≤ 16000000 → length new ≤ 16000000
few_more old new P is h = omega (arith, ap length is, length-append old (own_sorts P), own_count P, h)

-- the presentation of an instance over a schema
pub presented_in : (S : Schema) (i : InstanceData) → IsInstance i → i.schema ≡ S → IsPresentation S i.presentation
presented_in S i is over = subst (λ (T : Schema). IsPresentation T i.presentation) over is.presented

-- two of them
module _ (left right : Presentation) (s t u : List Sort) (es fs gs : List Equation) where
  abbrev two : List Presentation
  two = left ∷ right ∷ []

  pub two_sorts : s ≡ [] → t ≡ s ++ own_sorts left → u ≡ t ++ own_sorts right → u ≡ sorts_of two
  two_sorts none first second =
      sorts_more (λ (P : Presentation). P) two 1 left (omega arith) t u (sorts_more (λ (P : Presentation). P) two 0 left (omega arith) s t none first) second

  pub two_equations : s ≡ [] → t ≡ s ++ own_sorts left → es ≡ [] → fs ≡ es ++ map (shifted_equation (length s)) left.equations
      → gs ≡ fs ++ map (shifted_equation (length t)) right.equations → gs ≡ equations_from 0 two
  two_equations none more nothing first second =
      equations_more (λ (P : Presentation). P) two 1 left (omega arith) t fs gs (sorts_more (λ (P : Presentation). P) two 0 left (omega arith) s t none more)
      (equations_more (λ (P : Presentation). P) two 0 left (omega arith) s es fs none nothing first) second

pub two_presented : (S : Schema) (left right : Presentation) → IsPresentation S left → IsPresentation S right → All (IsPresentation S) (left ∷ right ∷ [])
two_presented S left right l r = All-append (IsPresentation S) (left ∷ []) (right ∷ []) (one (IsPresentation S) left l) (one (IsPresentation S) right r)

pub two_count : (left right : Presentation) → length (sorts_of (left ∷ right ∷ [])) ≡ length left.generators + length right.generators
two_count left right =
    omega (arith, length-append (own_sorts left) (own_sorts right ++ []), ap length (append-nil (own_sorts right)), own_count left, own_count right)

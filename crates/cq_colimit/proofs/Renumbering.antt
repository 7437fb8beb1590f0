-- Refusals of the added equations by their numbers in the call.
use Rattle.std.proofs.Common.{ℕ, suc, List, [], ◌∷◌, Option, Some, None, ◌≡◌, ◌<◌, ◌+◌, ◌^◌, ◌⊎◌, inl, inr, length, refl, sym, ap, subst, ◌∙◌, arith}
use Rattle.std.specs.Prelude.{option_map}
use Rattle.cq_base.specs.declared.name.Name.{Name}
use Rattle.cq_theory.specs.declared.refusal.TermRefusal.{TermRefusal}
use Rattle.cq_theory.specs.declared.refusal.TermRefusal.TheVariants as rule
use Rattle.cq_theory.specs.declared.refusal.TheoryRefusal.{TheoryRefusal}
use Rattle.cq_theory.specs.declared.refusal.TheoryRefusal.TheVariants as theory
use Rattle.cq_theory.specs.SchemaData.{SchemaData as Schema}
use Rattle.cq_theory.specs.TypesideData.{TypesideData as Typeside}
use Rattle.cq_theory.specs.Resolve.{or_else, in_part, first_fault}
use Rattle.cq_theory.specs.SchemaParts.{entities_fault, keys_fault, path_eqs_fault, attributes_fault, observations_fault, with_path_eqs, extended, schema_fault}
use Rattle.cq_theory.proofs.DeclaredParts.{or_else_none}
use Rattle.cq_colimit.specs.declared.refusal.ColimitRefusal.{ColimitRefusal}
use Rattle.cq_colimit.specs.declared.refusal.ColimitRefusal.TheVariants.{Memory}
use Rattle.cq_theory.specs.declared.parts.ColimitParts.{ColimitParts}
use Rattle.cq_colimit.specs.PlacedData.{PlacedData as Placed}
use Rattle.cq_colimit.specs.Faults.{of_colimit, added_fault}
use Rattle.cq_colimit.specs.Joined.{entities_of, keys_of, attributes_of, keyed}
use Rattle.cq_colimit.specs.Frame.{HasSymbols}
use Rattle.cq_colimit.specs.Renumbered.{number_in, with_part}
use Rattle.cq_colimit.proofs.Framing.{plain}

-- a rule that is broken by part m, told of part `place`
pub told_at : (m place there : ℕ) (refusal : TheoryRefusal) (r : TermRefusal) → refusal ≡ in_part m r → (number_in refusal ≡ m → place ≡ there)
    → of_colimit (with_part place refusal) ≡ of_colimit (in_part there r)
told_at m place there refusal rule.Unknown is same = ap (λ (x : TheoryRefusal). of_colimit (with_part place x)) is ∙ ap (λ n. of_colimit (theory.Unknown n)) (same (ap number_in is))
told_at m place there refusal rule.WrongCount is same = ap (λ (x : TheoryRefusal). of_colimit (with_part place x)) is ∙ ap (λ n. of_colimit (theory.WrongCount n)) (same (ap number_in is))
told_at m place there refusal rule.WrongSort is same = ap (λ (x : TheoryRefusal). of_colimit (with_part place x)) is ∙ ap (λ n. of_colimit (theory.WrongSort n)) (same (ap number_in is))
told_at m place there refusal rule.Reserved is same = ap (λ (x : TheoryRefusal). of_colimit (with_part place x)) is ∙ ap (λ n. of_colimit (theory.Reserved n)) (same (ap number_in is))
told_at m place there refusal rule.TooLarge is same = ap (λ (x : TheoryRefusal). of_colimit (with_part place x)) is ∙ ap (λ n. of_colimit (theory.TooLarge n)) (same (ap number_in is))
told_at m place there refusal rule.Memory is same = ap (λ (x : TheoryRefusal). of_colimit (with_part place x)) is

module _ {X : Type 0} (fault : X → Option TermRefusal) where
  -- where parts have no fault, they have none by other numbers; a fault has its place among the parts
  abbrev IsFault : ℕ → List X → TheoryRefusal → Type 0
  IsFault n xs refusal = (k : ℕ) × (r : TermRefusal) × (k < length xs) × (refusal ≡ in_part (n + k) r) × ((m : ℕ) → first_fault fault m xs ≡ Some (in_part (m + k) r))

  pub fault_found : (n : ℕ) (xs : List X) (refusal : TheoryRefusal) → first_fault fault n xs ≡ Some refusal → IsFault n xs refusal
  fault_found n [] refusal h = cc
  fault_found n (x ∷ xs) refusal h = at (fault x) refl (λ e. fault_found (n + 1) xs refusal e)
    where
      at : (o : Option TermRefusal) → fault x ≡ o → (first_fault fault (n + 1) xs ≡ Some refusal → IsFault (n + 1) xs refusal) → IsFault n (x ∷ xs) refusal
      at (Some r) is later =
          let head : (m : ℕ) → first_fault fault m (x ∷ xs) ≡ Some (in_part m r) = λ m. ap (λ o. or_else (option_map (in_part m) o) (first_fault fault (m + 1) xs)) is in
          let both : Some (in_part n r) ≡ Some refusal = sym (head n) ∙ h in
          let same : in_part n r ≡ refusal = cc in
          let here : (m : ℕ) → m ≡ m + 0 = λ m. omega arith in
          (0, r, omega arith, sym same ∙ ap (λ m. in_part m r) (here n), λ m. head m ∙ ap (λ z. Some (in_part z r)) (here m))
      at None is later =
          let tail : (m : ℕ) → first_fault fault m (x ∷ xs) ≡ first_fault fault (m + 1) xs = λ m. ap (λ o. or_else (option_map (in_part m) o) (first_fault fault (m + 1) xs)) is in
          let rest = later (sym (tail n) ∙ h) in
          let there : (m : ℕ) → m + 1 + rest.0 ≡ m + suc rest.0 = λ m. omega arith in
          (suc rest.0, rest.1, omega (arith, rest.2), rest.3 ∙ ap (λ m. in_part m rest.1) (there n), λ m. tail m ∙ rest.4 (m + 1) ∙ ap (λ z. Some (in_part z rest.1)) (there m))

  pub no_fault : (n m : ℕ) (xs : List X) → first_fault fault n xs ≡ None → first_fault fault m xs ≡ None
  no_fault n m [] h = refl
  no_fault n m (x ∷ xs) h = at (fault x) refl (λ e. no_fault (n + 1) (m + 1) xs e)
    where
      at : (o : Option TermRefusal) → fault x ≡ o → (first_fault fault (n + 1) xs ≡ None → first_fault fault (m + 1) xs ≡ None) → first_fault fault m (x ∷ xs) ≡ None
      at (Some r) is later = let head : first_fault fault n (x ∷ xs) ≡ Some (in_part n r) = ap (λ o. or_else (option_map (in_part n) o) (first_fault fault (n + 1) xs)) is in cc
      at None is later =
          let tail : (z : ℕ) → first_fault fault z (x ∷ xs) ≡ first_fault fault (z + 1) xs = λ z. ap (λ o. or_else (option_map (in_part z) o) (first_fault fault (z + 1) xs)) is in
          tail m ∙ later (sym (tail n) ∙ h)

module _ (links : List (ℕ × ℕ)) (T : Typeside) (parts : List Placed) (first : ℕ) (joins : ColimitParts) where
  abbrev S : Schema
  S = keyed links T parts

  abbrev A : List (Name × Name × Name)
  A = attributes_of links (entities_of links parts) parts

  abbrev before : ℕ
  before = length (entities_of links parts) + length (keys_of links (entities_of links parts) parts)

  abbrev more : Schema
  more = extended S joins.path_eqs A []

  pub accepted : schema_fault T (plain links T parts joins.path_eqs joins.obs_eqs) ≡ None → added_fault S A first joins ≡ None
  unfolding added_fault keyed
  accepted h =
      let rest = (or_else_none (keys_fault T (entities_of links parts) (length (entities_of links parts)) (keys_of links (entities_of links parts) parts)) _
      (or_else_none (entities_fault T (entities_of links parts)) _ h).1).1 in
      let paths = or_else_none (path_eqs_fault S A before joins.path_eqs) _ rest in
      let last = or_else_none (attributes_fault (with_path_eqs S joins.path_eqs) (before + length joins.path_eqs) A) _ paths.1 in
      ap (λ o. or_else o (observations_fault more (first + length joins.path_eqs) joins.obs_eqs)) (no_fault _ before first joins.path_eqs paths.0)
      ∙ no_fault _ (before + length joins.path_eqs + length A) (first + length joins.path_eqs) joins.obs_eqs last.1

  module _ (has : HasSymbols links T parts) (told : ColimitRefusal) (refusal : TheoryRefusal) (few : first + length joins.path_eqs + length joins.obs_eqs < 2 ^ 32)
      (of_paths : (k : ℕ) (r : TermRefusal) → refusal ≡ in_part (before + k) r → k < length joins.path_eqs → first + k < 2 ^ 32 → told ≡ of_colimit (in_part (first + k) r))
      (of_observations : (k : ℕ) (r : TermRefusal) → refusal ≡ in_part (before + length joins.path_eqs + length A + k) r → first + length joins.path_eqs + k < 2 ^ 32 → told ≡ of_colimit (in_part (first + length joins.path_eqs + k) r)) where
    rest_refused : (o : Option TheoryRefusal) → path_eqs_fault S A before joins.path_eqs ≡ o
        → or_else o (observations_fault more (before + length joins.path_eqs + length A) joins.obs_eqs) ≡ Some refusal → option_map of_colimit (added_fault S A first joins) ≡ Some told
    unfolding added_fault
    rest_refused (Some r) is h =
        let same : r ≡ refusal = cc in
        let found = fault_found _ before joins.path_eqs refusal (is ∙ ap (λ (x : TheoryRefusal). Some x) same) in
        ap (λ o. option_map of_colimit (or_else o (observations_fault more (first + length joins.path_eqs) joins.obs_eqs))) (found.4 first)
        ∙ ap (λ (x : ColimitRefusal). Some x) (sym (of_paths found.0 found.1 found.3 found.2 (omega (arith, found.2, few))))
    rest_refused None is h =
        let found = fault_found _ (before + length joins.path_eqs + length A) joins.obs_eqs refusal h in
        ap (λ o. option_map of_colimit (or_else o (observations_fault more (first + length joins.path_eqs) joins.obs_eqs))) (no_fault _ before first joins.path_eqs is)
        ∙ ap (option_map of_colimit) (found.4 (first + length joins.path_eqs))
        ∙ ap (λ (x : ColimitRefusal). Some x) (sym (of_observations found.0 found.1 found.3 (omega (arith, found.2, few))))

    pub refused : schema_fault T (plain links T parts joins.path_eqs joins.obs_eqs) ≡ Some refusal → option_map of_colimit (added_fault S A first joins) ≡ Some told
    unfolding keyed
    refused h =
        let K : List (Name × Name × Name) = keys_of links (entities_of links parts) parts in
        let E : List Name = entities_of links parts in
        let last : Option TheoryRefusal = observations_fault more (before + length joins.path_eqs + length A) joins.obs_eqs in
        let rest : Option TheoryRefusal = or_else (path_eqs_fault S A before joins.path_eqs) (or_else (attributes_fault (with_path_eqs S joins.path_eqs) (before + length joins.path_eqs) A) last) in
        rest_refused (path_eqs_fault S A before joins.path_eqs) refl
        (sym (ap (λ o. or_else o (or_else (keys_fault T E (length E) K) rest)) has.entities ∙ ap (λ o. or_else o rest) has.keys
        ∙ ap (λ o. or_else (path_eqs_fault S A before joins.path_eqs) (or_else o last)) (has.attributes (before + length joins.path_eqs))) ∙ h)

  -- the same, by numbers that are equal to these
  pub told_refused : (has : HasSymbols links T parts) (told : ColimitRefusal) (refusal : TheoryRefusal) (ahead paths attributes : ℕ) → ahead ≡ before → paths ≡ length joins.path_eqs → attributes ≡ length A
      → first + length joins.path_eqs + length joins.obs_eqs < 2 ^ 32
      → ((k : ℕ) (r : TermRefusal) → refusal ≡ in_part (ahead + k) r → k < paths → first + k < 2 ^ 32 → told ≡ of_colimit (in_part (first + k) r))
      → ((k : ℕ) (r : TermRefusal) → refusal ≡ in_part (ahead + paths + attributes + k) r → first + paths + k < 2 ^ 32 → told ≡ of_colimit (in_part (first + paths + k) r))
      → (refusal ≡ theory.Memory) ⊎ (schema_fault T (plain links T parts joins.path_eqs joins.obs_eqs) ≡ Some refusal) → (told ≡ Memory) ⊎ (option_map of_colimit (added_fault S A first joins) ≡ Some told)
  told_refused has told refusal ahead paths attributes a p t few of_paths of_observations (inl e) = inl (of_observations 0 rule.Memory e (omega (arith, p, few)))
  told_refused has told refusal ahead paths attributes a p t few of_paths of_observations (inr h) =
      inr (refused has told refusal few
      (λ k r is below fits. of_paths k r (is ∙ ap (λ m. in_part (m + k) r) (sym a)) (subst (λ m. k < m) (sym p) below) fits)
      (λ k r is fits. of_observations k r (is ∙ (λ i. in_part (sym a i + sym p i + sym t i + k) r)) (subst (λ m. first + m + k < 2 ^ 32) (sym p) fits) ∙ ap (λ m. of_colimit (in_part (first + m + k) r)) p)
      h)

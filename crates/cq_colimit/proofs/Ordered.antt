-- The faults of a colimit in their order, from those of its steps.
use Rattle.std.proofs.Common.{ℕ, suc, Bool, true, false, List, [], ◌∷◌, Some, None, ◌≡◌, ◌≤◌, ◌+◌, ◌⊎◌, inl, inr, length, map, cond, refl, sym, ap, subst, ◌∙◌, arith}
use Rattle.std.specs.Prelude.{All, option_map, nat_lt}
use Rattle.std.proofs.lemmas.List.{length-map}
use Rattle.std.proofs.lemmas.List.Elements.{All-map}
use Rattle.cq_base.specs.declared.name.Name.{Name}
use Rattle.cq_theory.specs.declared.refusal.TheoryRefusal.{TheoryRefusal}
use Rattle.cq_theory.specs.declared.refusal.TheoryRefusal.TheVariants as theory
use Rattle.cq_theory.specs.Canonical.{below}
use Rattle.cq_theory.specs.Resolve.{or_else}
use Rattle.cq_theory.specs.SchemaData.{SchemaData as Schema}
use Rattle.cq_theory.specs.TypesideData.{TypesideData as Typeside}
use Rattle.cq_theory.proofs.Faults.{at_most}
use Rattle.cq_colimit.specs.declared.refusal.ColimitRefusal.{ColimitRefusal}
use Rattle.cq_colimit.specs.declared.refusal.ColimitRefusal.TheVariants.{TooMany, Memory}
use Rattle.cq_theory.specs.declared.parts.ColimitParts.{ColimitParts}
use Rattle.cq_colimit.specs.declared.placed.Start.{Start}
use Rattle.cq_colimit.specs.PlacedData.{PlacedData as Placed}
use Rattle.cq_colimit.specs.Placing.{Part, part_names, past, placed_from, placed, entities_in}
use Rattle.cq_colimit.specs.Classes.{first_of, class_of}
use Rattle.cq_colimit.specs.Ends.{pairs_fault, links_of}
use Rattle.cq_colimit.specs.Faults.{of_colimit, names_fault, sizes_of, joined_size, size_fault, joining_fault, colimit_fault}
use Rattle.cq_colimit.specs.Joined.{links_in, framed, inclusion, with_images, joined, inclusions}
use Rattle.cq_colimit.specs.Frame.{ArePlaced, AreJoined, given_or_added_fault}

-- the classes that were made of the links that were found
pub joined_from : (T : Typeside) (given : List Part) (P : List Placed) (L links slice : List (ℕ × ℕ)) (entities : ℕ) (firsts numbers : List ℕ) → ArePlaced T given P → entities ≡ entities_in given
    → slice ≡ links → links ≡ L → firsts ≡ map (first_of slice) (below entities) → numbers ≡ map (class_of slice) (below entities) → AreJoined L T given P firsts numbers
joined_from T given P L links slice entities firsts numbers places count a b f n = record {
  places = places;
  firsts_are = f ∙ (λ i. map (first_of ((a ∙ b) i)) (below (count i)));
  classes = n ∙ (λ i. map (class_of ((a ∙ b) i)) (below (count i)));
}

module _ (T : Typeside) (P slice : List Placed) (joins : ColimitParts) (first next : ℕ) (pairs : List ((Name × Name) × (Name × Name))) (same : slice ≡ P) (here : first ≡ length P) (is_pairs : pairs ≡ joins.pairs) where
  abbrev L : List (ℕ × ℕ)
  L = links_of P joins.pairs

  pairs_same : pairs_fault slice first pairs ≡ pairs_fault P (length P) joins.pairs
  pairs_same = λ i. pairs_fault (same i) (here i) (is_pairs i)

  pub links_same : links_of slice pairs ≡ links_of P joins.pairs
  links_same = λ i. links_of (same i) (is_pairs i)

  pub pair_refused : (refusal : TheoryRefusal) (told : ColimitRefusal) → told ≡ of_colimit refusal → (refusal ≡ theory.Memory) ⊎ (pairs_fault slice first pairs ≡ Some refusal)
      → (told ≡ Memory) ⊎ (joining_fault T P L (length P) joins ≡ Some told)
  pair_refused refusal told is (inl e) = inl (is ∙ ap of_colimit e)
  pair_refused refusal told is (inr e) =
      inr (ap (λ o. or_else (option_map of_colimit o) (given_or_added_fault L T P (length P + length joins.pairs) joins)) (sym pairs_same ∙ e) ∙ ap (λ (x : ColimitRefusal). Some x) (sym is))

  module _ (none : pairs_fault slice first pairs ≡ None) (behind : next ≡ length P + length joins.pairs) where
    pub rest_same : joining_fault T P L (length P) joins ≡ given_or_added_fault L T P next joins
    rest_same =
        ap (λ o. or_else (option_map of_colimit o) (given_or_added_fault L T P (length P + length joins.pairs) joins)) (sym pairs_same ∙ none)
        ∙ ap (λ n. given_or_added_fault L T P n joins) (sym behind)

    pub rest_refused : (refusal : ColimitRefusal) → (refusal ≡ Memory) ⊎ (given_or_added_fault L T P next joins ≡ Some refusal) → (refusal ≡ Memory) ⊎ (joining_fault T P L (length P) joins ≡ Some refusal)
    rest_refused refusal (inl e) = inl e
    rest_refused refusal (inr e) = inr (rest_same ∙ e)

-- the names and how many there are, in their places
names_from : (start : Start) (parts : List Part) → map (λ (p : Placed). p.name) (placed_from start parts) ≡ part_names parts
names_from start [] = refl
names_from start (part ∷ parts) = ap (λ (l : List Name). part.0 ∷ l) (names_from (past start part.1) parts)

count_from : (start : Start) (parts : List Part) → length (placed_from start parts) ≡ length parts
count_from start [] = refl
count_from start (part ∷ parts) = ap suc (count_from (past start part.1) parts)

pub placed_names : (parts : List Part) → map (λ (p : Placed). p.name) (placed parts) ≡ part_names parts
placed_names parts = names_from (record { part = 0; entity = 0; key = 0; attribute = 0 }) parts

pub placed_count : (parts : List Part) → length (placed parts) ≡ length parts
placed_count parts = count_from (record { part = 0; entity = 0; key = 0; attribute = 0 }) parts

module _ (T : Typeside) (parts : List Part) (joins : ColimitParts) where
  pub name_refused : (refusal : TheoryRefusal) (told : ColimitRefusal) → told ≡ of_colimit refusal → (refusal ≡ theory.Memory) ⊎ (names_fault parts ≡ Some refusal)
      → (told ≡ Memory) ⊎ (colimit_fault T parts joins ≡ Some told)
  unfolding colimit_fault
  name_refused refusal told is (inl e) = inl (is ∙ ap of_colimit e)
  name_refused refusal told is (inr e) =
      inr (ap (λ o. or_else (option_map of_colimit o) (or_else (size_fault parts joins) (joining_fault T (placed parts) (links_in parts joins) (length parts) joins))) e ∙ ap (λ (x : ColimitRefusal). Some x) (sym is))

  module _ (none : names_fault parts ≡ None) where
    after_names : colimit_fault T parts joins ≡ or_else (size_fault parts joins) (joining_fault T (placed parts) (links_in parts joins) (length parts) joins)
    unfolding colimit_fault
    after_names = ap (λ o. or_else (option_map of_colimit o) (or_else (size_fault parts joins) (joining_fault T (placed parts) (links_in parts joins) (length parts) joins))) none

    pub size_refused : nat_lt 1000000 (joined_size parts joins) ≡ true → colimit_fault T parts joins ≡ Some TooMany
    size_refused over =
        after_names ∙ ap (λ (b : Bool). or_else (cond b (Some TooMany) None) (joining_fault T (placed parts) (links_in parts joins) (length parts) joins)) over

    module _ (fits : nat_lt 1000000 (joined_size parts joins) ≡ false) (P : List Placed) (places : P ≡ placed parts) where
      pub after_size : colimit_fault T parts joins ≡ joining_fault T P (links_of P joins.pairs) (length P) joins
      after_size =
          after_names ∙ ap (λ (b : Bool). or_else (cond b (Some TooMany) None) (joining_fault T (placed parts) (links_in parts joins) (length parts) joins)) fits
          ∙ (λ i. joining_fault T (sym places i) (links_of (sym places i) joins.pairs) ((sym (placed_count parts) ∙ ap (λ (l : List Placed). length l) (sym places)) i) joins)

      pub join_refused : (refusal : ColimitRefusal) → (refusal ≡ Memory) ⊎ (joining_fault T P (links_of P joins.pairs) (length P) joins ≡ Some refusal)
          → (refusal ≡ Memory) ⊎ (colimit_fault T parts joins ≡ Some refusal)
      join_refused refusal (inl e) = inl e
      join_refused refusal (inr e) = inr (after_size ∙ e)

  module _ (P : List Placed) (places : P ≡ placed parts) where
    pub is_joined : with_images (links_of P joins.pairs) (framed (links_of P joins.pairs) T P joins) P ≡ joined T parts joins
    unfolding joined
    is_joined = λ i. with_images (links_of (places i) joins.pairs) (framed (links_of (places i) joins.pairs) T (places i) joins) (places i)

    pub are_inclusions : (J : Schema) → J ≡ with_images (links_of P joins.pairs) (framed (links_of P joins.pairs) T P joins) P
        → map (inclusion (links_of P joins.pairs) J) P ≡ inclusions T parts joins
    unfolding inclusions
    are_inclusions J made = (λ i. map (inclusion (links_of (places i) joins.pairs) ((made ∙ is_joined) i)) (places i))

-- the parts by their schemas' values
pub sizes_same : {X : Type 0} (name : X → Name) (schema : X → Schema) (xs : List X) → map (λ (p : Part). p.1) (map (λ x. (name x, schema x)) xs) ≡ map schema xs
sizes_same name schema [] = refl
sizes_same name schema (x ∷ xs) = ap (λ (l : List Schema). schema x ∷ l) (sizes_same name schema xs)

module _ {X : Type 0} (name : X → Name) (schema : X → Schema) (xs : List X) (joins : ColimitParts) (many : Bool) (paths observations : ℕ)
    (is_paths : paths ≡ length joins.path_eqs) (is_observations : observations ≡ length joins.obs_eqs) (is : many ≡ nat_lt 1000000 (sizes_of (map schema xs) + paths + observations)) where
  pub many_is : nat_lt 1000000 (joined_size (map (λ x. (name x, schema x)) xs) joins) ≡ many
  many_is = (λ i. nat_lt 1000000 (sizes_of (sizes_same name schema xs i) + sym is_paths i + sym is_observations i)) ∙ sym is

  pub few_are : many ≡ false → (sizes_of (map schema xs) ≤ 1000000) × (length joins.path_eqs + length joins.obs_eqs ≤ 1000000)
  few_are none =
      let le : sizes_of (map schema xs) + paths + observations ≤ 1000000 = at_most 1000000 (sizes_of (map schema xs) + paths + observations) (sym is ∙ none) in
      (omega (arith, le), omega (arith, le, is_paths, is_observations))

  -- the given parts in their places
  pub are_placed : (T : Typeside) (P : List Placed) → many ≡ false → P ≡ placed (map (λ x. (name x, schema x)) xs) → All (λ x. (schema x).typeside ≡ T) xs
      → ArePlaced T (map (λ x. (name x, schema x)) xs) P
  are_placed T P none places over = record {
    places = places;
    small = subst (λ (l : List Schema). sizes_of l ≤ 1000000) (sym (sizes_same name schema xs)) (few_are none).0;
    over = All-map (λ (part : Part). part.1.typeside ≡ T) (λ x. (name x, schema x)) xs over;
  }

  pub count_is : (P : List Placed) → P ≡ placed (map (λ x. (name x, schema x)) xs) → length P ≡ length xs
  count_is P places = ap (λ (l : List Placed). length l) places ∙ placed_count (map (λ x. (name x, schema x)) xs) ∙ length-map xs (λ x. (name x, schema x))

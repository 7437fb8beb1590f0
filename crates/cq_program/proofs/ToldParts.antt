-- The parts that a refusal of a colimit tells are parts of it.
use Rattle.std.proofs.Common.{◌≡◌, ◌⊎◌, inl, inr, ◌<◌, ◌≤◌, ◌+◌, ◌-◌, ◌++◌, ℕ, Bool, true, false, List, [], ◌∷◌, Option, Some, None, length, min, max, sym, subst, arith}
use Rattle.std.specs.Prelude.{All, if◌then◌else◌, nat_lt, option_map}
use Rattle.std.specs.List.{flat_map}
use Rattle.std.proofs.lemmas.List.Elements.{All-nil, All-cons, All-head, All-tail, All-append, All-push}
use Rattle.cq_base.specs.declared.name.Name.{Name}
use Rattle.cq_base.specs.Names.{same_name}
use Rattle.cq_theory.specs.Resolve.{or_else}
use Rattle.cq_theory.specs.Schema.{edge_names}
use Rattle.cq_theory.specs.declared.refusal.TheoryRefusal.{TheoryRefusal}
use Rattle.cq_theory.specs.declared.refusal.TheoryRefusal.TheVariants as theory
use Rattle.cq_theory.specs.TypesideData.{TypesideData as Typeside}
use Rattle.cq_theory.specs.Typeside.{function_names}
use Rattle.cq_theory.specs.Paths.{is_among}
use Rattle.cq_colimit.specs.declared.refusal.ColimitRefusal.{ColimitRefusal}
use Rattle.cq_colimit.specs.declared.refusal.ColimitRefusal.TheVariants as joining
use Rattle.cq_theory.specs.declared.parts.ColimitParts.{ColimitParts}
use Rattle.cq_colimit.specs.declared.placed.Start.{Start}
use Rattle.cq_colimit.specs.PlacedData.{PlacedData as Placed}
use Rattle.cq_colimit.specs.Placing.{Part, past, placed, placed_from}
use Rattle.cq_colimit.specs.Ends.{pairs_fault}
use Rattle.cq_colimit.specs.Clashes.{first_entities, given_arrows, given_by, given_entities, is_before, joined_name, least_clash, least_giver, least_with, lesser, lesser_pair, ordered}
use Rattle.cq_colimit.specs.Joined.{attributes_of, entities_of, keyed, links_in}
use Rattle.cq_colimit.specs.Faults.{added_fault, clash_fault, colimit_fault, double_name, given_fault, is_long, joined_size, joining_fault, long_fault, names_fault, of_colimit, size_fault, typeside_name}

module _ (N : ℕ) where
  -- what is told, if it is, is below N
  abbrev IsBelow : Option ℕ → Type 0
  IsBelow None = Unit {0}
  IsBelow (Some n) = n < N

  abbrev IsPairBelow : Option (ℕ × ℕ) → Type 0
  IsPairBelow None = Unit {0}
  IsPairBelow (Some p) = (p.0 < N) × (p.1 < N)

  abbrev IsGiven : Name × ℕ → Type 0
  IsGiven given = given.1 < N

  abbrev pub AreTold : ColimitRefusal → Type 0
  AreTold (joining.NameClash m n) = (m < N) × (n < N)
  AreTold (joining.LongName n) = n < N
  AreTold _ = Unit {0}

  abbrev AreTold-if : Option ColimitRefusal → Type 0
  AreTold-if None = Unit {0}
  AreTold-if (Some r) = AreTold r

  lesser_below : (o : Option ℕ) (n : ℕ) → IsBelow o → n < N → lesser o n < N
  lesser_below None n is below = below
  lesser_below (Some m) n is below = omega arith

  least_below : (b : Bool) (o : Option ℕ) (n : ℕ) → IsBelow o → n < N → IsBelow (if b then Some (lesser o n) else o)
  least_below true o n is below = lesser_below o n is below
  least_below false o n is below = is

  giver_below : (test : Name × ℕ → Bool) (o : Option ℕ) (all : List (Name × ℕ)) → IsBelow o → All IsGiven all → IsBelow (least_giver test o all)
  giver_below test o [] is each = is
  giver_below test o (given ∷ rest) is each =
      giver_below test (if test given then Some (lesser o given.1) else o) rest (least_below (test given) o given.1 is (All-head IsGiven given rest each))
      (All-tail IsGiven given rest each)

  ordered_below : (a b : ℕ) → a < N → b < N → (min a b < N) × (max a b < N)
  ordered_below a b first second = (omega arith, omega arith)

  chosen_below : (b : Bool) (p q : ℕ × ℕ) → IsPairBelow (Some p) → IsPairBelow (Some q) → IsPairBelow (Some (if b then p else q))
  chosen_below true p q first second = first
  chosen_below false p q first second = second

  pair_below : (o : Option (ℕ × ℕ)) (p : ℕ × ℕ) → IsPairBelow o → IsPairBelow (Some p) → IsPairBelow (Some (lesser_pair o p))
  pair_below None p is below = below
  pair_below (Some q) p is below = chosen_below (is_before p q) p q below is

  one_pair : (b : Bool) (o : Option (ℕ × ℕ)) (p : ℕ × ℕ) → IsPairBelow o → IsPairBelow (Some p) → IsPairBelow (if b then Some (lesser_pair o p) else o)
  one_pair true o p is below = pair_below o p is below
  one_pair false o p is below = is

  with_below : (o : Option (ℕ × ℕ)) (given : Name × ℕ) (earlier : List (Name × ℕ)) → IsPairBelow o → IsGiven given → All IsGiven earlier → IsPairBelow (least_with o given earlier)
  with_below o given [] is below each = is
  with_below o given (other ∷ earlier) is below each =
      with_below (if same_name other.0 given.0 then Some (lesser_pair o (ordered other.1 given.1)) else o) given earlier
      (one_pair (same_name other.0 given.0) o (ordered other.1 given.1) is (ordered_below other.1 given.1 (All-head IsGiven other earlier each) below)) below
      (All-tail IsGiven other earlier each)

  clash_below : (o : Option (ℕ × ℕ)) (earlier all : List (Name × ℕ)) → IsPairBelow o → All IsGiven earlier → All IsGiven all → IsPairBelow (least_clash o earlier all)
  clash_below o earlier [] is before each = is
  clash_below o earlier (given ∷ rest) is before each =
      let here : IsGiven given = All-head IsGiven given rest each in
      clash_below (least_with o given earlier) (earlier ++ given ∷ []) rest (with_below o given earlier is here before) (All-push IsGiven earlier given before here)
      (All-tail IsGiven given rest each)

  -- the names of parts below N
  abbrev IsPlaced : Placed → Type 0
  IsPlaced part = part.start.part < N

  given_by_below : (part : Placed) (names : List Name) → IsPlaced part → All IsGiven (given_by part names)
  given_by_below part [] is = All-nil IsGiven
  given_by_below part (name ∷ names) is = All-cons IsGiven (joined_name part.name name, part.start.part) (given_by part names) is (given_by_below part names is)

  names_below : (names : Placed → List Name) (parts : List Placed) → All IsPlaced parts → All IsGiven (flat_map (λ part. given_by part (names part)) parts)
  names_below names [] each = All-nil IsGiven
  names_below names (part ∷ parts) each =
      All-append IsGiven (given_by part (names part)) (flat_map (λ part. given_by part (names part)) parts) (given_by_below part (names part) (All-head IsPlaced part parts each))
      (names_below names parts (All-tail IsPlaced part parts each))

  placed_below : (start : Start) (parts : List Part) → start.part + length parts ≤ N → All IsPlaced (placed_from start parts)
  placed_below start [] fits = All-nil IsPlaced
  placed_below start (part ∷ parts) fits =
      All-cons IsPlaced (record { name = part.0; schema = part.1; start = start }) (placed_from (past start part.1) parts) (omega arith)
      (placed_below (past start part.1) parts (omega arith))

  entities_below : (links : List (ℕ × ℕ)) (parts : List Placed) → All IsPlaced parts → All IsGiven (given_entities links parts)
  entities_below links parts each = names_below (first_entities links) parts each

  arrows_below : (parts : List Placed) → All IsPlaced parts → All IsGiven (given_arrows parts)
  arrows_below parts each =
      All-append IsGiven (flat_map (λ part. given_by part (edge_names part.schema.keys)) parts) (flat_map (λ part. given_by part (edge_names part.schema.attributes)) parts)
      (names_below (λ part. edge_names part.schema.keys) parts each) (names_below (λ part. edge_names part.schema.attributes) parts each)

  -- the faults, one after another
  or_told : (o p : Option ColimitRefusal) → AreTold-if o → AreTold-if p → AreTold-if (or_else o p)
  or_told None p first second = second
  or_told (Some r) p first second = first

  no_parts : (o : Option TheoryRefusal) → AreTold-if (option_map of_colimit o)
  no_parts None = tt
  no_parts (Some (theory.Duplicate n)) = tt
  no_parts (Some (theory.Unknown n)) = tt
  no_parts (Some (theory.WrongCount n)) = tt
  no_parts (Some (theory.WrongSort n)) = tt
  no_parts (Some (theory.Reserved n)) = tt
  no_parts (Some (theory.TooLarge n)) = tt
  no_parts (Some theory.Memory) = tt

  size_told : (b : Bool) → AreTold-if (if b then Some joining.TooMany else None)
  size_told true = tt
  size_told false = tt

  pair_told : (o : Option (ℕ × ℕ)) → IsPairBelow o → AreTold-if (option_map (λ p. joining.NameClash p.0 p.1) o)
  pair_told None is = tt
  pair_told (Some p) is = is

  twice_told : (o : Option ℕ) → IsBelow o → AreTold-if (option_map (λ p. joining.NameClash p p) o)
  twice_told None is = tt
  twice_told (Some p) is = (is, is)

  long_told : (o : Option ℕ) → IsBelow o → AreTold-if (option_map joining.LongName o)
  long_told None is = tt
  long_told (Some p) is = is

  given_told : (T : Typeside) (entities arrows : List (Name × ℕ)) → All IsGiven entities → All IsGiven arrows → AreTold-if (given_fault T entities arrows)
  unfolding given_fault
  given_told T entities arrows first second =
      let a_type = λ (given : Name × ℕ). is_among T.types given.0 in
      let a_function = λ (given : Name × ℕ). is_among (function_names T) given.0 in
      or_told (clash_fault T entities arrows) (long_fault entities arrows)
      (or_told (option_map (λ p. joining.NameClash p.0 p.1) (double_name entities arrows)) (option_map (λ p. joining.NameClash p p) (typeside_name T entities arrows))
      (pair_told (double_name entities arrows)
      (clash_below (least_clash None [] entities) [] arrows (clash_below None [] entities tt (All-nil IsGiven) first) (All-nil IsGiven) second))
      (twice_told (typeside_name T entities arrows) (giver_below a_function (least_giver a_type None entities) arrows (giver_below a_type None entities tt first) second)))
      (long_told (least_giver is_long (least_giver is_long None entities) arrows) (giver_below is_long (least_giver is_long None entities) arrows (giver_below is_long None entities tt first) second))

  joining_told : (T : Typeside) (parts : List Placed) (links : List (ℕ × ℕ)) (n : ℕ) (joins : ColimitParts) → All IsPlaced parts → AreTold-if (joining_fault T parts links n joins)
  joining_told T parts links n joins each =
      let added = added_fault (keyed links T parts) (attributes_of links (entities_of links parts) parts) (n + length joins.pairs) joins in
      or_told (option_map of_colimit (pairs_fault parts n joins.pairs)) (or_else (given_fault T (given_entities links parts) (given_arrows parts)) (option_map of_colimit added))
      (no_parts (pairs_fault parts n joins.pairs))
      (or_told (given_fault T (given_entities links parts) (given_arrows parts)) (option_map of_colimit added)
      (given_told T (given_entities links parts) (given_arrows parts) (entities_below links parts each) (arrows_below parts each)) (no_parts added))

  fault_told : (T : Typeside) (parts : List Part) (joins : ColimitParts) → length parts ≤ N → AreTold-if (colimit_fault T parts joins)
  unfolding colimit_fault
  fault_told T parts joins fits =
      let start : Start = record { part = 0; entity = 0; key = 0; attribute = 0 } in
      let rest = joining_fault T (placed parts) (links_in parts joins) (length parts) joins in
      or_told (option_map of_colimit (names_fault parts)) (or_else (size_fault parts joins) rest) (no_parts (names_fault parts))
      (or_told (size_fault parts joins) rest (size_told (nat_lt 1000000 (joined_size parts joins)))
      (joining_told T (placed parts) (links_in parts joins) (length parts) joins (placed_below start parts (omega arith))))

  -- a refusal tells parts of the colimit
  pub refusal_told : (T : Typeside) (parts : List Part) (joins : ColimitParts) (refusal : ColimitRefusal) → length parts ≤ N
      → (refusal ≡ joining.Memory) ⊎ (colimit_fault T parts joins ≡ Some refusal) → AreTold refusal
  refusal_told T parts joins refusal fits (inl is) = subst AreTold (sym is) tt
  refusal_told T parts joins refusal fits (inr is) = subst AreTold-if is (fault_told T parts joins fits)

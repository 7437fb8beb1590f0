-- The steps of a join, over plain variables.
use Rattle.std.proofs.Common.{ℕ, List, Some, None, ◌≡◌, ◌≤◌, ◌+◌, ◌⊎◌, inl, inr, length, map, sym, ap, subst, ◌∙◌}
use Rattle.std.specs.Prelude.{All, option_map}
use Rattle.std.specs.List.{flat_map}
use Rattle.cq_base.specs.declared.name.Name.{Name}
use Rattle.cq_theory.specs.declared.schema.PathEq.{PathEq}
use Rattle.cq_theory.specs.declared.schema.ObsEq.{ObsEq}
use Rattle.cq_theory.specs.Canonical.{below}
use Rattle.cq_theory.specs.Resolve.{or_else}
use Rattle.cq_theory.specs.SchemaData.{SchemaData as Schema}
use Rattle.cq_theory.specs.TypesideData.{TypesideData as Typeside}
use Rattle.cq_theory.specs.Schema.{IsSchema}
use Rattle.cq_colimit.specs.declared.refusal.ColimitRefusal.{ColimitRefusal}
use Rattle.cq_colimit.specs.declared.refusal.ColimitRefusal.TheVariants.{Memory}
use Rattle.cq_theory.specs.declared.parts.ColimitParts.{ColimitParts}
use Rattle.cq_colimit.specs.PlacedData.{PlacedData as Placed}
use Rattle.cq_colimit.specs.Placing.{Part, entities_in}
use Rattle.cq_colimit.specs.Classes.{first_of, class_of}
use Rattle.cq_colimit.specs.Clashes.{given_entities, given_arrows}
use Rattle.cq_colimit.specs.Faults.{of_colimit, given_fault, added_fault}
use Rattle.cq_colimit.specs.Joined.{entities_of, attributes_of, keyed, framed, inclusion, path_eq_images, obs_eq_images, with_images}
use Rattle.cq_colimit.specs.Appended.{ArePathEqs, AreObsEqs, with_first}
use Rattle.cq_colimit.specs.Frame.{HasShortNumbers, GoesInto, IsFrame, HasImages, ArePlaced, AreJoined, AreSymbols, given_or_added_fault, bare}
use Rattle.cq_colimit.proofs.Places.{entities_fit, short_numbers, all_go, count_values, values_by_length}
use Rattle.cq_colimit.proofs.Framing.{bare_over, framed_over, framed_path_eqs, framed_obs_eqs, joined_is, with_first-images, has_images}

module _ (links : List (ℕ × ℕ)) (T : Typeside) (given : List Part) (P : List Placed) (firsts numbers : List ℕ) (are : AreJoined links T given P firsts numbers)
    (slice : List Placed) (same : slice ≡ P) where
  places : ArePlaced T given slice
  places = subst (ArePlaced T given) (sym same) are.places

  pub firsts_fit : (first_slice : List ℕ) → first_slice ≡ firsts → All (λ part. part.start.entity + length part.schema.entities ≤ length first_slice) slice
  firsts_fit first_slice is = entities_fit T given slice places (length first_slice) (count_values (first_of links) (entities_in given) first_slice (is ∙ are.firsts_are))

  pub numbers_fit : (number_slice : List ℕ) → number_slice ≡ numbers → All (λ part. part.start.entity + length part.schema.entities ≤ length number_slice) slice
  numbers_fit number_slice is = entities_fit T given slice places (length number_slice) (count_values (class_of links) (entities_in given) number_slice (is ∙ are.classes))

  pub shorts : All HasShortNumbers slice
  shorts = short_numbers T given slice places

  pub by_first : (first_slice : List ℕ) → first_slice ≡ firsts → first_slice ≡ map (first_of links) (below (length first_slice))
  by_first first_slice is = values_by_length (first_of links) (entities_in given) first_slice (is ∙ are.firsts_are)

  pub by_number : (number_slice : List ℕ) → number_slice ≡ numbers → number_slice ≡ map (class_of links) (below (length number_slice))
  by_number number_slice is = values_by_length (class_of links) (entities_in given) number_slice (is ∙ are.classes)

  pub symbols_are : (names : List Name) → names ≡ entities_of links slice → AreSymbols links T given P numbers names
  symbols_are names is = record { places = are.places; classes = are.classes; names_are = is ∙ ap (λ (l : List Placed). entities_of links l) same }

  pub go_into : (Tc : Typeside) (frame : Schema) → Tc ≡ T → frame ≡ bare links Tc P → IsFrame links P frame → All (GoesInto links frame) slice
  go_into Tc frame is made frame_is =
      all_go T given slice places links frame (subst (λ (l : List Placed). IsFrame links l frame) (sym same) frame_is) (ap (λ (J : Schema). J.typeside) made ∙ bare_over links Tc P ∙ is)

-- the same symbols, of a copy of the typeside
pub symbols_over : (links : List (ℕ × ℕ)) (T Tc : Typeside) (given : List Part) (P : List Placed) (numbers : List ℕ) (names : List Name) → Tc ≡ T
    → AreSymbols links T given P numbers names → AreSymbols links Tc given P numbers names
symbols_over links T Tc given P numbers names same are = subst (λ (X : Typeside). AreSymbols links X given P numbers names) (sym same) are

module _ (links : List (ℕ × ℕ)) (T Tc : Typeside) (P : List Placed) (joins : ColimitParts) (frame base : Schema) (same : Tc ≡ T)
    (frame_made : frame ≡ bare links Tc P) (base_made : base ≡ framed links T P joins) where
  frame_is : frame ≡ bare links T P
  frame_is = frame_made ∙ ap (λ (X : Typeside). bare links X P) same

  pub base_path_eqs : (path_eqs : List PathEq) → ArePathEqs frame path_eqs → ArePathEqs base path_eqs
  base_path_eqs path_eqs are = subst (λ (X : Schema). ArePathEqs X path_eqs) (sym base_made)
      (framed_path_eqs links T P joins path_eqs (subst (λ (X : Schema). ArePathEqs X path_eqs) frame_is are))

  pub base_obs_eqs : (obs_eqs : List ObsEq) → AreObsEqs frame obs_eqs → AreObsEqs base obs_eqs
  base_obs_eqs obs_eqs are = subst (λ (X : Schema). AreObsEqs X obs_eqs) (sym base_made)
      (framed_obs_eqs links T P joins obs_eqs (subst (λ (X : Schema). AreObsEqs X obs_eqs) frame_is are))

  module _ (slice : List Placed) (is : slice ≡ P) (path_eqs : List PathEq) (obs_eqs : List ObsEq)
      (paths : path_eqs ≡ flat_map (λ part. path_eq_images (inclusion links frame part)) slice) (observations : obs_eqs ≡ flat_map (λ part. obs_eq_images (inclusion links frame part)) slice)
      (schema : Schema) (made : schema ≡ with_first base path_eqs obs_eqs) where
    pub schema_made : schema ≡ with_images links (framed links T P joins) P
    schema_made =
        made ∙ ap (λ (X : Schema). with_first X path_eqs obs_eqs) base_made
        ∙ with_first-images links P (framed links T P joins) frame path_eqs obs_eqs
        (paths ∙ ap (λ (l : List Placed). flat_map (λ part. path_eq_images (inclusion links frame part)) l) is)
        (observations ∙ ap (λ (l : List Placed). flat_map (λ part. obs_eq_images (inclusion links frame part)) l) is)

    pub schema_over : schema.typeside ≡ T
    schema_over = ap (λ (X : Schema). X.typeside) schema_made ∙ framed_over links T P joins

    pub schema_frame : IsSchema schema → IsFrame links P schema
    schema_frame = joined_is links T P joins schema schema_made

    pub schema_images : HasImages links P schema
    schema_images = has_images links P (framed links T P joins) frame schema schema_made

-- the faults in their order
module _ (links : List (ℕ × ℕ)) (T Td : Typeside) (P slice : List Placed) (first : ℕ) (joins : ColimitParts) (same : slice ≡ P) (over : Td ≡ T) where
  given_same : given_fault Td (given_entities links slice) (given_arrows slice) ≡ given_fault T (given_entities links P) (given_arrows P)
  given_same = λ i. given_fault (over i) (given_entities links (same i)) (given_arrows (same i))

  pub none_given : given_fault Td (given_entities links slice) (given_arrows slice) ≡ None
      → given_or_added_fault links T P first joins ≡ option_map of_colimit (added_fault (keyed links T P) (attributes_of links (entities_of links P) P) first joins)
  none_given h = ap (λ o. or_else o (option_map of_colimit (added_fault (keyed links T P) (attributes_of links (entities_of links P) P) first joins))) (sym given_same ∙ h)

  pub given_refused : (refusal : ColimitRefusal) → (refusal ≡ Memory) ⊎ (given_fault Td (given_entities links slice) (given_arrows slice) ≡ Some refusal)
      → (refusal ≡ Memory) ⊎ (given_or_added_fault links T P first joins ≡ Some refusal)
  given_refused refusal (inl e) = inl e
  given_refused refusal (inr e) = inr (ap (λ o. or_else o (option_map of_colimit (added_fault (keyed links T P) (attributes_of links (entities_of links P) P) first joins))) (sym given_same ∙ e))

  pub added_refused : (refusal : ColimitRefusal) → given_fault Td (given_entities links slice) (given_arrows slice) ≡ None
      → (refusal ≡ Memory) ⊎ (option_map of_colimit (added_fault (keyed links T P) (attributes_of links (entities_of links P) P) first joins) ≡ Some refusal)
      → (refusal ≡ Memory) ⊎ (given_or_added_fault links T P first joins ≡ Some refusal)
  added_refused refusal none (inl e) = inl e
  added_refused refusal none (inr e) = inr (none_given none ∙ e)

  pub none_added : given_fault Td (given_entities links slice) (given_arrows slice) ≡ None → added_fault (keyed links T P) (attributes_of links (entities_of links P) P) first joins ≡ None
      → given_or_added_fault links T P first joins ≡ None
  none_added none added = none_given none ∙ ap (option_map of_colimit) added

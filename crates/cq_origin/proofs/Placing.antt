-- Places of equations behind those of generators.
use Rattle.std.proofs.Common.{ℕ, zero, suc, List, [], ◌∷◌, ◌++◌, ◌+◌, ◌≡◌, Option, Some, None, map, length, refl, sym, ap, ◌∙◌, arith}
use Rattle.std.specs.Prelude.{slice_get}
use Rattle.std.specs.List.{flat_map}
use Rattle.std.specs.Option.{option_map}
use Rattle.std.proofs.lemmas.Option.{slice_get-map}
use Rattle.cq_base.specs.declared.place.Place.{Place}
use Rattle.cq_syntax.specs.declared.literal.InstanceLit.{InstanceLit}
use Rattle.cq_syntax.specs.declared.part.EqSyn.{EqSyn}
use Rattle.cq_parts.specs.Parts.{equation_place, group_places, instance_places}

behind : {X : Type 0} (xs ys : List X) (n : ℕ) → slice_get (xs ++ ys) (length xs + n) ≡ slice_get ys n
behind [] ys n = let here : 0 + n ≡ n = omega arith in ap (slice_get ys) here
behind (x ∷ xs) ys n = let there : suc (length xs) + n ≡ suc (length xs + n) = omega arith in ap (slice_get (x ∷ (xs ++ ys))) there ∙ behind xs ys n

module _ (literal : InstanceLit) (n : ℕ) (o : Option EqSyn) (is : o ≡ slice_get literal.equations n) where
  pub place_is : option_map equation_place o ≡ slice_get (map equation_place literal.equations) n
  place_is = ap (option_map equation_place) is ∙ sym (slice_get-map equation_place literal.equations n)

  pub among : option_map equation_place o ≡ slice_get (instance_places literal) (length (flat_map group_places literal.generators) + n)
  unfolding instance_places
  among = place_is ∙ sym (behind (flat_map group_places literal.generators) (map equation_place literal.equations) n)

use Rattle.std.proofs.Common.{ℕ, true, List, Option, Some, None, ◌≡◌, ◌<◌, ◌≤◌, ◌+◌, ◌||◌, inr, length, drop, get_or, refl, sym, ap, ◌∙◌, arith}
use Rattle.std.specs.Prelude.{is_none}
use Rattle.std.proofs.lemmas.List.{at_drop_more, at_drop_all}
use Rattle.cq_base.specs.declared.name.Name.{Name}
use Rattle.cq_base.specs.Names.{number_of}
use Rattle.cq_theory.specs.Declaring.{number_or_zero}
use Rattle.cq_theory.specs.TypesideParts.{has_unknown_type, type_number}
use Rattle.cq_theory.proofs.PartLoops.{map_more, map_whole}
use Rattle.cq_theory.proofs.lookup.typeside_parts.find_types.Goals as goal

-- a name more of those whose types are looked up
unknown_step : (types names : List Name) (i : ℕ) (x : Name) → i < length names → x ≡ get_or names i x
    → has_unknown_type types (drop i names) ≡ (is_none (number_of types x) || has_unknown_type types (drop (i + 1) names))
unknown_step types names i x within is =
    at_drop_more (has_unknown_type types) names i x within
    ∙ ap (λ (p : Name). is_none (number_of types p) || has_unknown_type types (drop (i + 1) names)) (sym is)

unknown_found : (types names : List Name) (i : ℕ) (x : Name) (found : Option ℕ) → found ≡ number_of types x → found ≡ None → i < length names → x ≡ get_or names i x
    → has_unknown_type types (drop i names) ≡ has_unknown_type types names → has_unknown_type types names ≡ true
unknown_found types names i x found looked none within is so_far =
    sym so_far ∙ unknown_step types names i x within is
    ∙ ap (λ o. is_none o || has_unknown_type types (drop (i + 1) names)) (sym looked ∙ none)

known_found : (types names : List Name) (i : ℕ) (x : Name) (found : Option ℕ) (n : ℕ) → found ≡ number_of types x → found ≡ Some n → i < length names → x ≡ get_or names i x
    → has_unknown_type types (drop i names) ≡ has_unknown_type types names
    → (n ≡ type_number types x) × (has_unknown_type types (drop (i + 1) names) ≡ has_unknown_type types names)
known_found types names i x found n looked some within is so_far = (
  sym (ap number_or_zero (sym looked ∙ some)),
  sym (unknown_step types names i x within is ∙ ap (λ o. is_none o || has_unknown_type types (drop (i + 1) names)) (sym looked ∙ some)) ∙ so_far,
)

pub loop-name-init : goal.loop-name-init
loop-name-init c = (c.new-found.ensures.items, refl)

pub returns-in_default-clause-refused : goal.returns-in_default-clause-refused
returns-in_default-clause-refused c =
    let within : c.loop-name.name-index < length c.args.names.now = omega arith in
    inr (refl, unknown_found c.args.types.now c.args.names.now c.loop-name.name-index c.name-item.result c.find.result c.find.ensures c.in_default.is within c.name-item.is c.loop-name.invariant.1)

pub loop-name-preserved : goal.loop-name-preserved
loop-name-preserved c =
    let within : c.loop-name.name-index < length c.args.names.now = omega arith in
    let one = known_found c.args.types.now c.args.names.now c.loop-name.name-index c.name-item.result c.find.result c.in-Some.number c.find.ensures c.in-Some.is within c.name-item.is c.loop-name.invariant.1 in
    (map_more (type_number c.args.types.now) c.args.names.now c.loop-name.name-index c.name-item.result c.loop-name.found.items c.push.new.self.items c.in-Some.number within c.name-item.is c.loop-name.invariant.0 one.0 c.in_ok-push.ensures.items, one.1)

pub returns-clause-ok : goal.returns-clause-ok
returns-clause-ok c =
    let end : length c.args.names.now ≤ c.loop-name.name-index = omega arith in (
      sym c.loop-name.invariant.1 ∙ at_drop_all (has_unknown_type c.args.types.now) c.args.names.now c.loop-name.name-index end,
      map_whole (type_number c.args.types.now) c.args.names.now c.loop-name.name-index _ end c.loop-name.invariant.0,
    )

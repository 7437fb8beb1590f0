-- Path equations that break no rule are well sorted.
use Rattle.std.proofs.Common.{ℕ, Bool, true, false, List, [], ◌∷◌, Option, Some, None, ◌≡◌, ◌<◌, ◌-◌, not, ◌==◌, ◌||◌, map, length, refl, sym, ap, subst, ◌∙◌, arith}
use Rattle.std.specs.Prelude.{cond, slice_get, nat_lt, option_map, option_and_then}
use Rattle.std.specs.List.{cons_option}
use Rattle.std.proofs.lemmas.List.{length-map}
use Rattle.std.proofs.lemmas.List.Elements.{All-get_or}
use Rattle.std.proofs.lemmas.Option.{option_and_then_some, cond_some, slice_get-get_or, get_or_from_slice_get, slice_get_within}
use Rattle.std.proofs.lemmas.Bool.{eqb-true}
use Rattle.cq_base.specs.declared.name.Name.{Name}
use Rattle.cq_base.specs.Names.{number_of}
use Rattle.cq_base.proofs.Numbers.{number_of-within}
use Rattle.cq_theory.specs.declared.refusal.TermRefusal.TheVariants.{Unknown, WrongSort, TooLarge}
use Rattle.cq_theory.specs.declared.schema.Edge.{Edge}
use Rattle.cq_theory.specs.declared.schema.PathEq.{PathEq}
use Rattle.cq_theory.specs.SchemaData.{SchemaData as Schema}
use Rattle.cq_theory.specs.Sorts.{followed, target_of}
use Rattle.cq_theory.specs.Schema.{IsSchema, IsPathEq, edge_names}
use Rattle.cq_theory.specs.Declaring.{number_or_zero}
use Rattle.cq_theory.specs.Resolve.{or_else, first_fault}
use Rattle.cq_theory.specs.Paths.{key_named, path_step, stepped, path_end, path_start, path_keys, key_path_symbols, is_attribute_last, key_path_ends, are_same_ends, has_unknown_name, path_eq_fault, made_path_eq}
use Rattle.cq_theory.proofs.Faults.{of_three, not_false, neither, at_most, first_fault-each, made_of}
use Rattle.cq_theory.proofs.Sound.{both}

-- an edge with a name's number
pub edge_at : (edges : List Edge) (name : Name) (k : ℕ) → number_of (edge_names edges) name ≡ Some k → (edge : Edge) × (slice_get edges k ≡ Some edge)
edge_at edges name k is =
    let within : k < length edges = subst (λ (n : ℕ). k < n) (length-map edges (λ edge. edge.name)) (number_of-within (edge_names edges) name k is) in
    let none : Edge = record { name = []; from = 0; to = 0 } in
    (_, slice_get-get_or edges k none within)

stays : (o : Option ℕ) (e next : ℕ) → stepped (option_map (λ entity. (entity, entity)) o) e ≡ Some next → e ≡ next
stays None e next h = cc
stays (Some f) e next h =
    let parts : ((f == e) ≡ true) × (f ≡ next) = cond_some _ _ _ h in
    sym (eqb-true f e parts.0) ∙ parts.1

pub map_pair : (start : ℕ) (o : Option ℕ) (ends : ℕ × ℕ) → option_map (λ target. (start, target)) o ≡ Some ends → (start ≡ ends.0) × (o ≡ Some ends.1)
map_pair start None ends h = cc
map_pair start (Some t) ends h = let same : (start, t) ≡ ends = cc in (ap (λ p. p.0) same, ap (λ p. Some p.1) same)

module _ (S : Schema) where
  abbrev LeadsAlong : List Name → Type 0
  LeadsAlong names = (e t : ℕ) → path_end S names e ≡ Some t → target_of S.keys (path_keys S names) e ≡ Some t

  one_more : (name : Name) (names : List Name) (o : Option ℕ) → number_of (edge_names S.keys) name ≡ o → LeadsAlong names → LeadsAlong (name ∷ names)
  one_more name names None is rest e t h =
      let step : path_step S name ≡ option_map (λ entity. (entity, entity)) (number_of S.entities name)
      = ap (λ o. or_else (option_map (λ key. (key.from, key.to)) (option_and_then (slice_get S.keys) o)) (option_map (λ entity. (entity, entity)) (number_of S.entities name))) is in
      option_and_then_some (path_end S names) (stepped (path_step S name) e) t h (λ next first after.
      let here : e ≡ next = stays (number_of S.entities name) e next (ap (λ o. stepped o e) (sym step) ∙ first) in
      ap (λ o. target_of S.keys (cons_option o (path_keys S names)) e) is ∙ ap (target_of S.keys (path_keys S names)) here ∙ rest next t after)
  one_more name names (Some k) is rest e t h =
      let edge = edge_at S.keys name k is in
      let named : key_named S name ≡ Some edge.0 = ap (option_and_then (slice_get S.keys)) is ∙ edge.1 in
      let step : path_step S name ≡ Some (edge.0.from, edge.0.to)
      = ap (λ o. or_else (option_map (λ key. (key.from, key.to)) o) (option_map (λ entity. (entity, entity)) (number_of S.entities name))) named in
      option_and_then_some (path_end S names) (stepped (path_step S name) e) t h (λ next first after.
      let led : followed (slice_get S.keys k) e ≡ Some next = ap (λ o. followed o e) edge.1 ∙ ap (λ o. stepped o e) (sym step) ∙ first in
      ap (λ o. target_of S.keys (cons_option o (path_keys S names)) e) is ∙ ap (option_and_then (target_of S.keys (path_keys S names))) led ∙ rest next t after)

  -- the foreign keys of a path lead where the path leads
  pub path_keys-target : (names : List Name) → LeadsAlong names
  path_keys-target [] e t h = h
  path_keys-target (name ∷ names) e t h = one_more name names (number_of (edge_names S.keys) name) refl (path_keys-target names) e t h

  module _ (schema : IsSchema S) where
    pub key_within : (k : ℕ) (edge : Edge) → slice_get S.keys k ≡ Some edge → (edge.from < length S.entities) × (edge.to < length S.entities)
    key_within k edge is =
        subst (λ (e : Edge). (e.from < length S.entities) × (e.to < length S.entities)) (get_or_from_slice_get S.keys k edge edge is)
        (All-get_or (λ e. (e.from < length S.entities) × (e.to < length S.entities)) S.keys k edge (slice_get_within S.keys k edge is) schema.keys)

    step_within : (name : Name) (o p : Option ℕ) (start : ℕ) → number_of (edge_names S.keys) name ≡ o → number_of S.entities name ≡ p
        → option_map (λ (step : ℕ × ℕ). step.0) (or_else (option_map (λ key. (key.from, key.to)) (option_and_then (slice_get S.keys) o)) (option_map (λ entity. (entity, entity)) p)) ≡ Some start → start < length S.entities
    step_within name None None start is is' h = cc
    step_within name None (Some e) start is is' h = let same : e ≡ start = cc in subst (λ (n : ℕ). n < length S.entities) same (number_of-within S.entities name e is')
    step_within name (Some k) p start is is' h =
        let edge = edge_at S.keys name k is in
        let begins : option_map (λ (step : ℕ × ℕ). step.0) (or_else (option_map (λ key. (key.from, key.to)) (Some edge.0)) (option_map (λ entity. (entity, entity)) p)) ≡ Some start
        = ap (λ o. option_map (λ (step : ℕ × ℕ). step.0) (or_else (option_map (λ key. (key.from, key.to)) o) (option_map (λ entity. (entity, entity)) p))) (sym edge.1) ∙ h in
        let same : edge.0.from ≡ start = cc in
        subst (λ (n : ℕ). n < length S.entities) same (key_within k edge.0 edge.1).0

    start_within : (names : List Name) (start : ℕ) → path_start S names ≡ Some start → start < length S.entities
    start_within [] start h = cc
    start_within (name ∷ names) start h = step_within name (number_of (edge_names S.keys) name) (number_of S.entities name) start refl refl h

  ends_parts : (p : Name → Bool) (names : List Name) (ends : ℕ × ℕ) → key_path_ends S p names ≡ Some ends → (path_start S names ≡ Some ends.0) × (path_end S names ends.0 ≡ Some ends.1)
  ends_parts p names ends h = at_last (is_attribute_last S p (slice_get names (length names - 1))) h
    where
      at_last : (b : Bool) → cond b None (option_and_then (λ start. option_map (λ target. (start, target)) (path_end S names start)) (path_start S names)) ≡ Some ends
          → (path_start S names ≡ Some ends.0) × (path_end S names ends.0 ≡ Some ends.1)
      at_last true e = cc
      at_last false e = option_and_then_some (λ start. option_map (λ target. (start, target)) (path_end S names start)) (path_start S names) ends e (λ start first rest.
          let found = map_pair start (path_end S names start) ends rest in
          (first ∙ ap (λ n. Some n) found.0, ap (path_end S names) (sym found.0) ∙ found.1))

  same_parts : (p q : Option (ℕ × ℕ)) → are_same_ends p q ≡ true → (ends : ℕ × ℕ) × (p ≡ Some ends) × (q ≡ Some ends)
  same_parts None q h = cc
  same_parts (Some a) None h = cc
  same_parts (Some a) (Some b) h =
      let parts = both (a.0 == b.0) (a.1 == b.1) h in
      (a, refl, λ i. Some (sym (eqb-true a.0 b.0 parts.0) i, sym (eqb-true a.1 b.1 parts.1) i))

  pub made_path_eq-is : IsSchema S → (p : Name → Bool) (e : List Name × List Name) → path_eq_fault S p e ≡ None → IsPathEq S (made_path_eq S e)
  made_path_eq-is schema p e h =
      let rules = of_three (has_unknown_name S p e.0 || has_unknown_name S p e.1) (not (are_same_ends (key_path_ends S p e.0) (key_path_ends S p e.1)))
      (nat_lt 1024 (key_path_symbols S e.0) || nat_lt 1024 (key_path_symbols S e.1)) Unknown WrongSort TooLarge h in
      let same = same_parts (key_path_ends S p e.0) (key_path_ends S p e.1) (not_false _ rules.1) in
      let left = ends_parts p e.0 same.0 same.1 in
      let right = ends_parts p e.1 same.0 same.2 in
      let short = neither (nat_lt 1024 (key_path_symbols S e.0)) (nat_lt 1024 (key_path_symbols S e.1)) rules.2 in
      let begins : number_or_zero (path_start S e.0) ≡ same.0.0 = ap number_or_zero left.0 in
      record {
        target = same.0.1;
        left = ap (target_of S.keys (path_keys S e.0)) begins ∙ path_keys-target e.0 same.0.0 same.0.1 left.1;
        right = ap (target_of S.keys (path_keys S e.1)) begins ∙ path_keys-target e.1 same.0.0 same.0.1 right.1;
        entity = subst (λ (n : ℕ). n < length S.entities) (sym begins) (start_within schema e.0 same.0.0 left.0);
        left_fits = omega (arith, at_most 1024 (key_path_symbols S e.0) short.0);
        right_fits = omega (arith, at_most 1024 (key_path_symbols S e.1) short.1);
      }

  pub made_path_eqs-are : IsSchema S → (p : Name → Bool) (n : ℕ) (parts : List (List Name × List Name)) (made : List PathEq) → first_fault (path_eq_fault S p) n parts ≡ None
      → made ≡ map (made_path_eq S) parts → (k : ℕ) (e : PathEq) → slice_get made k ≡ Some e → IsPathEq S e
  made_path_eqs-are schema p n parts made h is k e at =
      let part = made_of (made_path_eq S) parts k e (ap (λ l. slice_get l k) (sym is) ∙ at) in
      subst (IsPathEq S) (sym part.2) (made_path_eq-is schema p part.0 (first_fault-each (path_eq_fault S p) n parts h k part.0 part.1))

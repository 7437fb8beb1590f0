-- The typeside that parts without faults give is well sorted.
use Rattle.std.proofs.Common.{ℕ, Bool, true, false, List, [], ◌∷◌, Option, Some, None, ◌≡◌, ◌<◌, ◌+◌, ◌^◌, ◌||◌, ◌⊎◌, inl, inr, map, length, refl, sym, ap, subst, ◌∙◌, arith}
use Rattle.std.specs.Prelude.{is_none, All, IfSome, cond}
use Rattle.std.specs.List.{IsDistinct}
use Rattle.std.proofs.lemmas.List.{length-map}
use Rattle.std.proofs.lemmas.List.Elements.{All-nil, All-cons, All-map}
use Rattle.cq_base.specs.declared.name.Name.{Name}
use Rattle.cq_base.specs.Names.{number_of, AreDistinct}
use Rattle.cq_base.proofs.Numbers.{number_of-within}
use Rattle.cq_theory.specs.declared.refusal.TheoryRefusal.{TheoryRefusal}
use Rattle.cq_theory.specs.declared.refusal.TheoryRefusal.TheVariants.{Unknown, Reserved, Memory}
use Rattle.cq_theory.specs.declared.parts.TypesideParts.{TypesideParts}
use Rattle.cq_theory.specs.declared.typeside.Fun.{Fun}
use Rattle.cq_theory.specs.TypesideData.{TypesideData as Typeside}
use Rattle.cq_theory.specs.Typeside.{IsTypeside, is_reserved, constant_names, function_names}
use Rattle.cq_theory.specs.Resolve.{or_else}
use Rattle.cq_theory.specs.Declaring.{number_or_zero}
use Rattle.cq_theory.specs.TypesideParts.{literals_fault, literals_count, first_constant, open_number, type_fault, constant_fault, function_fault, has_unknown_type, type_number, made_constant, made_function, types_fault, constants_fault, functions_fault, typeside_fault, typeside_made}
use Rattle.cq_theory.proofs.DeclaredParts.{or_else_none, new_name, first_part_fault-distinct, first_part_fault-each}

pub known_number : (names : List Name) (name : Name) → is_none (number_of names name) ≡ false → number_or_zero (number_of names name) < length names
known_number names name h = at_number (number_of names name) refl h
  where
    at_number : (o : Option ℕ) → number_of names name ≡ o → is_none o ≡ false → number_or_zero o < length names
    at_number None e f = cc
    at_number (Some n) e f = number_of-within names name n e

open_within : (types : List Name) (literals : Option Name) → IfSome (open_number types literals) (λ type. type < length types)
open_within types None = tt
open_within types (Some name) = at_number (number_of types name) refl
  where
    at_number : (o : Option ℕ) → number_of types name ≡ o → IfSome o (λ type. type < length types)
    at_number None e = tt
    at_number (Some n) e = number_of-within types name n e

neither : {X : Type 0} (a b : Bool) (x y : X) → cond a (Some x) (cond b (Some y) None) ≡ None → (a ≡ false) × (b ≡ false)
neither true b x y h = cc
neither false true x y h = cc
neither false false x y h = (refl, refl)

not_either : {X : Type 0} (a b : Bool) (x : X) → cond (a || b) (Some x) None ≡ None → (a ≡ false) × (b ≡ false)
not_either true b x h = cc
not_either false true x h = cc
not_either false false x h = (refl, refl)

either_false : (a b : Bool) → (a || b) ≡ false → (a ≡ false) × (b ≡ false)
either_false true b h = cc
either_false false b h = (refl, h)

known_types : (types names : List Name) → has_unknown_type types names ≡ false → All (λ type. type < length types) (map (type_number types) names)
known_types types [] h = All-nil _
known_types types (name ∷ names) h =
    let parts = either_false (is_none (number_of types name)) (has_unknown_type types names) h in
    All-cons (λ type. type < length types) (type_number types name) (map (type_number types) names) (known_number types name parts.0) (known_types types names parts.1)

-- the names of constants and functions stay
names_of_constants : (types : List Name) (parts : List (Name × Name)) → map (λ constant. constant.0) (map (made_constant types) parts) ≡ map (λ part. part.0) parts
names_of_constants types [] = refl
names_of_constants types (part ∷ parts) = ap (λ names. part.0 ∷ names) (names_of_constants types parts)

names_of_functions : (types : List Name) (parts : List (Name × List Name × Name)) → map (λ f. f.name) (map (made_function types) parts) ≡ map (λ part. part.0) parts
names_of_functions types [] = refl
names_of_functions types (part ∷ parts) = ap (λ names. part.0 ∷ names) (names_of_functions types parts)

map_itself : (names : List Name) → map (λ name. name) names ≡ names
map_itself [] = refl
map_itself (name ∷ names) = ap (λ rest. name ∷ rest) (map_itself names)

or_else_after : {X : Type 0} (o p q : Option X) → o ≡ None → p ≡ q → or_else o p ≡ q
or_else_after o p q e f = ap (λ x. or_else x p) e ∙ f

-- the fault of the whole from those of its lists
module _ (parts : TypesideParts) (types ts : List Name) (cs : List (Name × Name)) (fs : List (Name × List Name × Name)) (n k : ℕ)
    (is_types : ts ≡ parts.types) (is_constants : cs ≡ parts.constants) (is_functions : fs ≡ parts.functions)
    (first : types_fault ts ≡ None) (same : types ≡ ts) (m : ℕ) (count : m ≡ length parts.types) (literal : literals_fault types m parts.literals ≡ None)
    (here : n ≡ m + literals_count parts.literals) (second : constants_fault types n cs ≡ None) (there : k ≡ length parts.constants) where
  pub typeside_fault-after : typeside_fault parts ≡ functions_fault types (n + k) fs
  typeside_fault-after =
      let known : parts.types ≡ types = sym (same ∙ is_types) in
      let at : first_constant parts ≡ n = sym (here ∙ ap (λ (l : ℕ). l + literals_count parts.literals) count) in
      or_else_after (types_fault parts.types) _ _ (ap types_fault (sym is_types) ∙ first)
      (or_else_after (literals_fault parts.types (length parts.types) parts.literals) _ _
      ((λ i. literals_fault (known i) (sym count i) parts.literals) ∙ literal)
      (or_else_after (constants_fault parts.types (first_constant parts) parts.constants) _ _
      ((λ i. constants_fault (known i) (at i) (sym is_constants i)) ∙ second)
      (λ i. functions_fault (known i) (at i + sym there i) (sym is_functions i))))

  pub typeside_fault-refused : (r : TheoryRefusal) → (r ≡ Memory) ⊎ (functions_fault types (n + k) fs ≡ Some r) → (r ≡ Memory) ⊎ (typeside_fault parts ≡ Some r)
  typeside_fault-refused r (inl e) = inl e
  typeside_fault-refused r (inr e) = inr (typeside_fault-after ∙ e)

module _ (parts : TypesideParts) (h : typeside_fault parts ≡ None) where
  types_right : types_fault parts.types ≡ None
  types_right = (or_else_none (types_fault parts.types) _ h).0

  lists_right : (constants_fault parts.types (first_constant parts) parts.constants ≡ None) × (functions_fault parts.types (first_constant parts + length parts.constants) parts.functions ≡ None)
  lists_right =
      or_else_none (constants_fault parts.types (first_constant parts) parts.constants) _
      (or_else_none (literals_fault parts.types (length parts.types) parts.literals) _ (or_else_none (types_fault parts.types) _ h).1).1

  constants_right : constants_fault parts.types (first_constant parts) parts.constants ≡ None
  constants_right = lists_right.0

  functions_right : functions_fault parts.types (first_constant parts + length parts.constants) parts.functions ≡ None
  functions_right = lists_right.1

  empty_distinct : AreDistinct []
  unfolding IsDistinct
  empty_distinct = tt

  constant_rules : (earlier : List Name) (n : ℕ) (part : Name × Name) → constant_fault parts.types earlier n part ≡ None
      → (is_none (number_of parts.types part.1) ≡ false) × (is_reserved part.0 ≡ false)
  constant_rules earlier n part e = neither _ _ (Unknown n) (Reserved n) (new_name earlier n part.0 _ e).1

  function_rules : (earlier : List Name) (n : ℕ) (part : Name × List Name × Name) → function_fault parts.types earlier n part ≡ None
      → (has_unknown_type parts.types part.1 ≡ false) × (is_none (number_of parts.types part.2) ≡ false)
  function_rules earlier n part e = not_either _ _ (Unknown n) (new_name earlier n part.0 _ e).1

  pub typeside_made-is : length parts.types + literals_count parts.literals + length parts.constants + length parts.functions < 2 ^ 32 → IsTypeside (typeside_made parts)
  typeside_made-is few = record {
    type_numbers = omega arith;
    constant_numbers = simp length-map (omega arith);
    function_numbers = simp length-map (omega arith);
    distinct_types = subst AreDistinct (map_itself parts.types)
        (first_part_fault-distinct (λ name. name) type_fault (λ earlier n name e. (new_name earlier n name None e).0) [] 0 parts.types empty_distinct types_right);
    distinct_constants = subst AreDistinct (sym (names_of_constants parts.types parts.constants))
        (first_part_fault-distinct (λ part. part.0) (constant_fault parts.types) (λ earlier n part e. (new_name earlier n part.0 _ e).0) [] _ parts.constants empty_distinct constants_right);
    distinct_functions = subst AreDistinct (sym (names_of_functions parts.types parts.functions))
        (first_part_fault-distinct (λ part. part.0) (function_fault parts.types) (λ earlier n part e. (new_name earlier n part.0 _ e).0) [] _ parts.functions empty_distinct functions_right);
    unreserved = All-map (λ constant. is_reserved constant.0 ≡ false) (made_constant parts.types) parts.constants
        (first_part_fault-each (λ part. part.0) (constant_fault parts.types) _ (λ earlier n part e. (constant_rules earlier n part e).1) [] _ parts.constants constants_right);
    constants = All-map (λ constant. constant.1 < length parts.types) (made_constant parts.types) parts.constants
        (first_part_fault-each (λ part. part.0) (constant_fault parts.types) _ (λ earlier n part e. known_number parts.types part.1 (constant_rules earlier n part e).0) [] _ parts.constants constants_right);
    functions = All-map (λ f. All (λ type. type < length parts.types) f.args × (f.result < length parts.types)) (made_function parts.types) parts.functions
        (first_part_fault-each (λ part. part.0) (function_fault parts.types) (λ part. All (λ type. type < length parts.types) (map (type_number parts.types) part.1) × (type_number parts.types part.2 < length parts.types))
        (λ earlier n part e. let rules = function_rules earlier n part e in (known_types parts.types part.1 rules.0, known_number parts.types part.2 rules.1)) [] _ parts.functions functions_right);
    open_type = open_within parts.types parts.literals;
  }

-- the typeside that is made of the lists, with its tables
module _ (parts : TypesideParts) (types ts : List Name) (cs : List (Name × Name)) (fs : List (Name × List Name × Name)) (n k : ℕ)
    (is_types : ts ≡ parts.types) (is_constants : cs ≡ parts.constants) (is_functions : fs ≡ parts.functions)
    (first : types_fault ts ≡ None) (same : types ≡ ts) (m : ℕ) (count : m ≡ length parts.types) (literal : literals_fault types m parts.literals ≡ None)
    (here : n ≡ m + literals_count parts.literals) (second : constants_fault types n cs ≡ None) (there : k ≡ length parts.constants)
    (third : functions_fault types (n + k) fs ≡ None) (few : length parts.types + literals_count parts.literals + length parts.constants + length parts.functions < 2 ^ 32)
    (constant_table function_table : List Name) (constants : List (Name × ℕ)) (functions : List Fun) (open_type : Option ℕ)
    (is_constant_table : constant_table ≡ map (λ part. part.0) cs) (are_constants : constants ≡ map (made_constant types) cs)
    (is_function_table : function_table ≡ map (λ part. part.0) fs) (are_functions : functions ≡ map (made_function types) fs)
    (is_open : open_type ≡ open_number types parts.literals) where
  abbrev made : Typeside
  made = record { types = parts.types; constants = constants; functions = functions; open_type = open_type }

  pub typeside_whole : IsTypeside made × (types ≡ parts.types) × (constant_table ≡ constant_names made) × (function_table ≡ function_names made)
  typeside_whole =
      let h : typeside_fault parts ≡ None = typeside_fault-after parts types ts cs fs n k is_types is_constants is_functions first same m count literal here second there ∙ third in
      let known : types ≡ parts.types = same ∙ is_types in
      let constants_made : constants ≡ map (made_constant parts.types) parts.constants = are_constants ∙ ap (λ l. map (made_constant l) cs) known ∙ ap (map (made_constant parts.types)) is_constants in
      let functions_made : functions ≡ map (made_function parts.types) parts.functions = are_functions ∙ ap (λ l. map (made_function l) fs) known ∙ ap (map (made_function parts.types)) is_functions in
      let open_made : open_type ≡ open_number parts.types parts.literals = is_open ∙ ap (λ l. open_number l parts.literals) known in
      let whole : made ≡ typeside_made parts = λ i. record { types = parts.types; constants = constants_made i; functions = functions_made i; open_type = open_made i } in (
        subst IsTypeside (sym whole) (typeside_made-is parts h few),
        known,
        is_constant_table ∙ sym (names_of_constants types cs) ∙ ap (map (λ constant. constant.0)) (sym are_constants),
        is_function_table ∙ sym (names_of_functions types fs) ∙ ap (map (λ f. f.name)) (sym are_functions),
      )

-- Looking up the names of a term as it is written.
use Rattle.std.specs.Prelude.{ℕ, Bool, true, false, not, List, [], ◌∷◌, ◌+◌, ◌<◌, ◌==◌, ◌&&◌, ◌||◌, if◌then◌else◌, length, sum, Option}
use Rattle.std.specs.Prelude.{Some, None, is_none, is_some, nat_lt, slice_get, option_map, option_and_then}
use Rattle.std.specs.List.{list_any}
use Rattle.cq_base.specs.declared.name.Name.{Name}
use Rattle.cq_base.specs.declared.raw.Raw.{Raw}
use Rattle.cq_base.specs.declared.raw.Raw.TheOpen.{Raw-F, Word, Text, App}
use Rattle.cq_base.specs.declared.raw.Raw.TheFolds.{fold-Raw}
use Rattle.cq_base.specs.Names.{number_of}
use Rattle.cq_theory.specs.declared.constant.Con.{Con}
use Rattle.cq_theory.specs.declared.constant.Con.TheVariants.{Named, Open}
use Rattle.cq_theory.specs.declared.presentation.Sort.{Sort}
use Rattle.cq_theory.specs.declared.presentation.Sort.TheVariants.{Plain, Entity}
use Rattle.cq_theory.specs.declared.lookup.Symbol.{Symbol}
use Rattle.cq_theory.specs.declared.lookup.Symbol.TheVariants.{Function, Key, Attribute}
use Rattle.cq_theory.specs.declared.refusal.TermRefusal.{TermRefusal}
use Rattle.cq_theory.specs.declared.refusal.TermRefusal.TheVariants.{Unknown, WrongCount, WrongSort, Reserved, TooLarge, Memory}
use Rattle.cq_theory.specs.declared.refusal.TheoryRefusal.{TheoryRefusal}
use Rattle.cq_theory.specs.declared.refusal.TheoryRefusal.TheVariants.{Unknown as UnknownIn, WrongCount as WrongCountIn}
use Rattle.cq_theory.specs.declared.refusal.TheoryRefusal.TheVariants.{WrongSort as WrongSortIn, Reserved as ReservedIn}
use Rattle.cq_theory.specs.declared.refusal.TheoryRefusal.TheVariants.{TooLarge as TooLargeIn, Memory as OutOfMemory}
use Rattle.cq_theory.specs.SchemaData.{SchemaData as Schema}
use Rattle.cq_theory.specs.TypesideData.{TypesideData as Typeside}
use Rattle.cq_theory.specs.declared.typeside.Fun.{Fun}
use Rattle.cq_theory.specs.Sorts.{followed}
use Rattle.cq_theory.specs.Typeside.{constant_names, function_names, is_reserved}
use Rattle.cq_theory.specs.Schema.{edge_names}

-- the number of a declared constant
abbrev pub constant_of : Schema → Name → Option ℕ
constant_of S name = number_of (constant_names S.typeside) name

abbrev pub or_else : {X : Type 0} → Option X → Option X → Option X
or_else None p = p
or_else (Some x) p = Some x

-- the constant of a word, which is a declared one
abbrev pub word_constant : Schema → Name → Option Con
word_constant S word = option_map Named (constant_of S word)

-- the constant of a text: the declared one with this content, else the open one, where the typeside has an open type
abbrev pub text_constant : Schema → Name → Option Con
text_constant S text = or_else (word_constant S text) (option_map (λ type. Open text) S.typeside.open_type)

-- the type or entity of a name, over a typeside with entities
abbrev pub sort_in : Typeside → List Name → Name → Option Sort
sort_in T entities name = or_else (option_map Plain (number_of T.types name)) (option_map Entity (number_of entities name))

abbrev pub sort_named : Schema → Name → Option Sort
sort_named S name = sort_in S.typeside S.entities name

-- the function, foreign key or attribute of a name
abbrev pub symbol_of : Schema → Name → Option Symbol
symbol_of S name =
    or_else (option_map Function (number_of (function_names S.typeside) name))
    (or_else (option_map Key (number_of (edge_names S.keys) name))
    (option_map Attribute (number_of (edge_names S.attributes) name)))

abbrev pub function_arguments : Option Fun → ℕ
function_arguments None = 0
function_arguments (Some f) = length f.args

-- how many arguments a symbol has
abbrev pub argument_count : Schema → Symbol → ℕ
argument_count S (Function f) = function_arguments (slice_get S.typeside.functions f)
argument_count S (Key k) = 1
argument_count S (Attribute a) = 1

abbrev pub takes_another_count : Schema → Option Symbol → ℕ → Bool
takes_another_count S None count = false
takes_another_count S (Some symbol) count = not (argument_count S symbol == count)

-- the sort of a constant, of a generator, and of a symbol at arguments of these sorts
abbrev pub constant_sort : Schema → Option ℕ → Option Sort
constant_sort S None = None
constant_sort S (Some c) = option_map (λ constant. Plain constant.1) (slice_get S.typeside.constants c)

-- the sort of a text: that of the declared constant, else the open type
abbrev pub text_sort : Schema → Option ℕ → Option Sort
text_sort S None = option_map Plain S.typeside.open_type
text_sort S (Some c) = constant_sort S (Some c)

abbrev pub word_sort : Schema → List Sort → Option ℕ → Option ℕ → Option Sort
word_sort S sorts (Some n) constant = slice_get sorts n
word_sort S sorts None constant = constant_sort S constant

abbrev pub is_plain_of : Option Sort → ℕ → Bool
is_plain_of None type = false
is_plain_of (Some (Plain t)) type = t == type
is_plain_of (Some (Entity e)) type = false

abbrev pub are_plain_of : List (Option Sort) → List ℕ → Bool
are_plain_of [] [] = true
are_plain_of (sort ∷ sorts) (type ∷ types) = is_plain_of sort type && are_plain_of sorts types
are_plain_of _ _ = false

abbrev pub function_sort : Option Fun → List (Option Sort) → Option Sort
function_sort None sorts = None
function_sort (Some f) sorts = if are_plain_of sorts f.args then Some (Plain f.result) else None

abbrev pub entity_in : Option Sort → Option ℕ
entity_in None = None
entity_in (Some (Plain t)) = None
entity_in (Some (Entity e)) = Some e

abbrev pub type_in : Option Sort → Option ℕ
type_in None = None
type_in (Some (Plain t)) = Some t
type_in (Some (Entity e)) = None

abbrev pub only : List (Option Sort) → Option Sort
only [] = None
only (sort ∷ []) = sort
only (sort ∷ other ∷ sorts) = None

abbrev pub symbol_sort : Schema → Option Symbol → List (Option Sort) → Option Sort
symbol_sort S None sorts = None
symbol_sort S (Some (Function f)) sorts = function_sort (slice_get S.typeside.functions f) sorts
symbol_sort S (Some (Key k)) sorts = option_map Entity (option_and_then (followed (slice_get S.keys k)) (entity_in (only sorts)))
symbol_sort S (Some (Attribute a)) sorts = option_map Plain (option_and_then (followed (slice_get S.attributes a)) (entity_in (only sorts)))

-- the number of the symbol is in range
abbrev pub IsSymbol : Schema → Symbol → Type 0
IsSymbol S (Function f) = f < length S.typeside.functions
IsSymbol S (Key k) = k < length S.keys
IsSymbol S (Attribute a) = a < length S.attributes

-- Each rule is a function of the whole term, given by one step.
module _ (S : Schema) where
  -- a symbol of the term is applied to another number of arguments than it has
  abbrev pub wrong_count_step : Raw-F Bool → Bool
  wrong_count_step (Word name) = false
  wrong_count_step (Text name) = false
  wrong_count_step (App name args) = takes_another_count S (symbol_of S name) (length args) || list_any (λ b. b) args

  abbrev pub has_wrong_count : Raw → Bool
  has_wrong_count = fold-Raw Bool wrong_count_step

  -- under a typeside with an open type, a text of the term is one that no constant can have
  abbrev pub reserved_step : Raw-F Bool → Bool
  reserved_step (Word name) = false
  reserved_step (Text name) = is_some S.typeside.open_type && is_reserved name
  reserved_step (App name args) = list_any (λ b. b) args

  abbrev pub has_reserved : Raw → Bool
  has_reserved = fold-Raw Bool reserved_step

module _ (S : Schema) (names : List Name) where
  -- a name of the term isn't declared
  abbrev pub unknown_step : Raw-F Bool → Bool
  unknown_step (Word name) = is_none (number_of names name) && is_none (constant_of S name)
  unknown_step (Text name) = is_none (text_constant S name)
  unknown_step (App name args) = is_none (symbol_of S name) || list_any (λ b. b) args

  abbrev pub has_unknown : Raw → Bool
  has_unknown = fold-Raw Bool unknown_step

  -- the sort of the term, if its names, counts and sorts are right
  abbrev pub raw_sort_step : List Sort → Raw-F (Option Sort) → Option Sort
  raw_sort_step sorts (Word name) = word_sort S sorts (number_of names name) (constant_of S name)
  raw_sort_step sorts (Text name) = text_sort S (constant_of S name)
  raw_sort_step sorts (App name args) = symbol_sort S (symbol_of S name) args

  abbrev pub raw_sort : List Sort → Raw → Option Sort
  raw_sort sorts = fold-Raw (Option Sort) (raw_sort_step sorts)

-- the symbols of a term as it is written
abbrev pub raw_symbols_step : Raw-F ℕ → ℕ
raw_symbols_step (Word name) = 1
raw_symbols_step (Text name) = 1
raw_symbols_step (App name counts) = sum counts + 1

abbrev pub raw_symbols : Raw → ℕ
raw_symbols = fold-Raw ℕ raw_symbols_step

abbrev pub is_too_large : Raw → Bool
is_too_large raw = nat_lt 1024 (raw_symbols raw)

abbrev pub same_sort : Sort → Sort → Bool
same_sort (Plain t) (Plain u) = t == u
same_sort (Entity e) (Entity f) = e == f
same_sort _ _ = false

abbrev pub are_of_one_sort : Option Sort → Option Sort → Bool
are_of_one_sort (Some s) (Some t) = same_sort s t
are_of_one_sort _ _ = false

module _ (S : Schema) (names : List Name) (sorts : List Sort) where
  -- the least rule that the term breaks
  abbrev pub term_fault : Raw → Option TermRefusal
  term_fault raw =
      if has_unknown S names raw then Some Unknown
      else (if has_wrong_count S raw then Some WrongCount
      else (if is_none (raw_sort S names sorts raw) then Some WrongSort
      else (if has_reserved S raw then Some Reserved
      else (if is_too_large raw then Some TooLarge
      else None))))

  -- the least rule that the equation breaks
  abbrev pub equation_fault : Raw × Raw → Option TermRefusal
  equation_fault e =
      if has_unknown S names e.0 || has_unknown S names e.1 then Some Unknown
      else (if has_wrong_count S e.0 || has_wrong_count S e.1 then Some WrongCount
      else (if not (are_of_one_sort (raw_sort S names sorts e.0) (raw_sort S names sorts e.1)) then Some WrongSort
      else (if has_reserved S e.0 || has_reserved S e.1 then Some Reserved
      else (if is_too_large e.0 || is_too_large e.1 then Some TooLarge
      else None))))

-- a rule, broken by part n of the call
abbrev pub in_part : ℕ → TermRefusal → TheoryRefusal
in_part n Unknown = UnknownIn n
in_part n WrongCount = WrongCountIn n
in_part n WrongSort = WrongSortIn n
in_part n Reserved = ReservedIn n
in_part n TooLarge = TooLargeIn n
in_part n Memory = OutOfMemory

-- the first part, counted from n, that breaks a rule, with the least rule that it breaks
abbrev pub first_fault : {X : Type 0} → (X → Option TermRefusal) → ℕ → List X → Option TheoryRefusal
first_fault fault n [] = None
first_fault fault n (x ∷ xs) = or_else (option_map (in_part n) (fault x)) (first_fault fault (n + 1) xs)

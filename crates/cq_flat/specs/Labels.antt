-- Values of nodes by their classes, and the labels of nulls.
use Rattle.std.specs.Prelude.{◌≡◌, ◌≢◌, ℕ, ◌<◌, ◌↔◌, List, [], ◌∷◌, ◌++◌, length, map, Option, Some, None, nat_eq, nat_lt, slice_get}
use Rattle.std.specs.Prelude.{slice_index, slice_index_or}
use Rattle.std.specs.List.{filter_map, range_with_len, list_any}
use Rattle.cq_theory.specs.declared.constant.Con.{Con}
use Rattle.cq_theory.specs.declared.value.Value.{Value}
use Rattle.cq_theory.specs.declared.value.Value.TheVariants as value
use Rattle.cq_theory.specs.Tables.{IsPlain}
use Rattle.cq_theory.specs.Listed.{firsts, null_label}

-- two classes have different least constants
abbrev pub AreApart : List (Option Con) → Type 0
AreApart least = (j k : ℕ) (c : Con) → slice_index_or least j None ≡ Some c → slice_index_or least k None ≡ Some c → j ≡ k

-- one value for the nodes of one class alone: the least constant of the class, or a null
pub record AreClassValues (classes : List ℕ) (least : List (Option Con)) (values : List Value) : Type 0 where
  pub count : length values ≡ length classes
  pub equal : (a b : ℕ) → a < length classes → b < length classes
      → (slice_get values a ≡ slice_get values b) ↔ (slice_index classes a ≡ slice_index classes b)
  pub constant : (a : ℕ) (c : Con) → a < length classes → (slice_get values a ≡ Some (value.Const c)) ↔
      (slice_index_or least (slice_index classes a) None ≡ Some c)
  pub plain : (a : ℕ) (v : Value) → slice_get values a ≡ Some v → IsPlain v

-- the values of the first nodes, the labels of classes and the first node of each label
pub record AreLabelled (classes : List ℕ) (least : List (Option Con)) (n : ℕ) (labels : List (Option ℕ)) (nulls : List ℕ)
    (values : List Value) : Type 0 where
  pub count : length labels ≡ length classes
  pub made : length values ≡ n
  pub constant : (a : ℕ) (c : Con) → a < n → slice_index_or least (slice_index classes a) None ≡ Some c
      → slice_get values a ≡ Some (value.Const c)
  pub null : (a : ℕ) → a < n → slice_index_or least (slice_index classes a) None ≡ None
      → (label : ℕ) × (slice_index_or labels (slice_index classes a) None ≡ Some label) × (slice_get values a ≡ Some (value.Null label))
  pub owner : (label : ℕ) → label < length nulls → (slice_index nulls label < n)
      × (slice_index_or labels (slice_index classes (slice_index nulls label)) None ≡ Some label)
  pub label : (class label : ℕ) → slice_index_or labels class None ≡ Some label
      → (label < length nulls) × (slice_index classes (slice_index nulls label) ≡ class) × (slice_index_or least class None ≡ None)
  pub first : (label a : ℕ) → label < length nulls → a < slice_index nulls label
      → slice_index classes a ≢ slice_index classes (slice_index nulls label)
  pub known : (label : ℕ) → list_any (λ x. nat_eq x label) (filter_map null_label values) ≡ nat_lt label (length nulls)
  pub order : firsts nat_eq (filter_map null_label values) ≡ range_with_len 0 (length nulls)

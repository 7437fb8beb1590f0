-- The first fault of the images that are given to generators, and the images that they give.
use Rattle.std.specs.Prelude.{ℕ, Bool, not, List, [], ◌∷◌, ◌++◌, ◌||◌, ◌&&◌, if◌then◌else◌, map, slice_get}
use Rattle.std.specs.Prelude.{Option, Some, None, is_none, option_map, option_and_then}
use Rattle.cq_base.specs.declared.name.Name.{Name}
use Rattle.cq_base.specs.declared.raw.Raw.{Raw}
use Rattle.cq_base.specs.Names.{number_of}
use Rattle.cq_theory.specs.declared.refusal.TermRefusal.{TermRefusal}
use Rattle.cq_theory.specs.declared.refusal.TermRefusal.TheVariants as term_refusal
use Rattle.cq_theory.specs.declared.refusal.TheoryRefusal.{TheoryRefusal}
use Rattle.cq_theory.specs.declared.refusal.TheoryRefusal.TheVariants as theory_refusal
use Rattle.cq_theory.specs.declared.presentation.Sort.{Sort}
use Rattle.cq_theory.specs.declared.term.Term.{Term}
use Rattle.cq_theory.specs.declared.term.Term.TheVariants.{Ent, Typ}
pub use Rattle.cq_terms.specs.Generators.{names_of, sorts_of}
use Rattle.cq_theory.specs.SchemaData.{SchemaData as Schema}
use Rattle.cq_theory.specs.Sorts.{Generators}
use Rattle.cq_theory.specs.Resolve.{or_else, has_unknown, has_wrong_count, has_reserved, raw_sort, are_of_one_sort, is_too_large, in_part}
use Rattle.cq_theory.specs.Resolved.{resolved}
use Rattle.cq_theory.specs.Declaring.{first_part_fault, duplicate_or}
use Rattle.cq_theory.specs.Paths.{is_among}
use Rattle.cq_instance.specs.InstanceData.{InstanceData}
use Rattle.cq_instance.specs.declared.transform.Image.{Image}
use Rattle.cq_instance.specs.declared.transform.Image.TheVariants.{Row, Value}
use Rattle.cq_transform.specs.declared.refusal.TransformRefusal.{TransformRefusal}
use Rattle.cq_transform.specs.declared.refusal.TransformRefusal.TheVariants.{Duplicate, Unknown, WrongCount, WrongSort, Reserved, TooLarge}
use Rattle.cq_transform.specs.declared.refusal.TransformRefusal.TheVariants.{Missing, Memory}
use Rattle.cq_scope.specs.declared.names.Scope.{Scope}

-- the same refusal, of a transform
abbrev pub of_transform : TheoryRefusal → TransformRefusal
of_transform (theory_refusal.Duplicate n) = Duplicate n
of_transform (theory_refusal.Unknown n) = Unknown n
of_transform (theory_refusal.WrongCount n) = WrongCount n
of_transform (theory_refusal.WrongSort n) = WrongSort n
of_transform (theory_refusal.Reserved n) = Reserved n
of_transform (theory_refusal.TooLarge n) = TooLarge n
of_transform theory_refusal.Memory = Memory

-- the names and the sorts of generators
abbrev pub scope_of : Generators → Scope
scope_of G = record { names = names_of G; sorts = sorts_of G }

-- the sort of the generator with a name
abbrev pub sort_in : Scope → Name → Option Sort
sort_in scope name = option_and_then (slice_get scope.sorts) (number_of scope.names name)

-- the least rule that an image of the right sort breaks
abbrev pub late_rule : Schema → Raw → Option TermRefusal
late_rule S raw =
    if has_reserved S raw then Some term_refusal.Reserved
    else (if is_too_large raw then Some term_refusal.TooLarge
    else None)

-- An image is given with the name of its generator. The generators of the source are in `from`, those of the target in `to`.
module _ (S : Schema) (from to : Scope) where
  -- the least rule that an image breaks, but that no generator is given two
  unfoldable pub image_rule : Name × Raw → Option TermRefusal
  image_rule part =
      if is_none (sort_in from part.0) || has_unknown S to.names part.1 then Some term_refusal.Unknown
      else (if has_wrong_count S part.1 then Some term_refusal.WrongCount
      else (if not (are_of_one_sort (raw_sort S to.names to.sorts part.1) (sort_in from part.0)) then Some term_refusal.WrongSort
      else late_rule S part.1))

  -- image n: its generator has one already, or the image breaks another rule
  abbrev pub image_fault : List Name → ℕ → Name × Raw → Option TheoryRefusal
  image_fault earlier n part = duplicate_or earlier n part.0 (option_map (in_part n) (image_rule part))

  abbrev pub parts_fault : List (Name × Raw) → Option TheoryRefusal
  parts_fault parts = first_part_fault (λ part. part.0) image_fault [] 0 parts

-- the generators that have an image
abbrev pub given : List (Name × Raw) → List Name
given parts = map (λ part. part.0) parts

-- a generator with this name after earlier ones has an image: its name is given, and stands for no earlier one
abbrev pub has_image : List Name → List Name → Name → Bool
has_image given earlier name = is_among given name && not (is_among earlier name)

-- the first generator without an image, of those with these names after earlier ones
abbrev pub first_missing : List Name → List Name → List Name → Option TransformRefusal
first_missing given earlier [] = None
first_missing given earlier (name ∷ names) =
    if has_image given earlier name then first_missing given (earlier ++ name ∷ []) names else Some (Missing name)

abbrev pub image_of : Term → Image
image_of (Ent t) = Row t
image_of (Typ t) = Value t

module _ (S : Schema) (to : Scope) where
  -- the image that a part gives; one of no part stands only in what parts with faults would give
  abbrev pub image_in : Option (Name × Raw) → Image
  image_in None = Row (record { generator = 0; path = [] })
  image_in (Some part) = image_of (resolved S to.names to.sorts part.1)

  -- the image of the generator with a name, in parts for these generators
  abbrev pub image_named : List Name → List (Name × Raw) → Name → Image
  image_named names parts name = image_in (option_and_then (slice_get parts) (number_of names name))

module _ (S : Schema) (G H : Generators) (parts : List (Name × Raw)) where
  -- the first image that breaks a rule, with the least rule that it breaks, and then the first generator without an image
  abbrev pub fault_over : Option TransformRefusal
  fault_over =
      or_else (option_map of_transform (parts_fault S (scope_of G) (scope_of H) parts)) (first_missing (given parts) [] (names_of G))

  -- the image of each generator
  abbrev pub made_over : List Image
  made_over = map (image_named S (scope_of H) (given parts) parts) (names_of G)

-- the first fault of the images that the parts give to generators of i over j
abbrev pub images_fault : InstanceData → InstanceData → List (Name × Raw) → Option TransformRefusal
images_fault i j parts = fault_over i.schema i.presentation.generators j.presentation.generators parts

-- the image of each generator, where the parts break no rule
abbrev pub images_made : InstanceData → InstanceData → List (Name × Raw) → List Image
images_made i j parts = made_over i.schema i.presentation.generators j.presentation.generators parts

-- Names of generators, of which each stands for the first generator that has it.
use Rattle.std.specs.Prelude.{ℕ, List, Some, ◌≡◌, ◌≤◌, ◌<◌, length, slice_get, slice_index, option_and_then}
use Rattle.cq_base.specs.declared.name.Name.{Name}
use Rattle.cq_base.specs.Names.{number_of}
use Rattle.cq_theory.specs.declared.presentation.Sort.{Sort}
use Rattle.cq_theory.specs.Sorts.{Generators}
use Rattle.cq_terms.specs.Generators.{names_of, sorts_of}
use Rattle.cq_scope.specs.declared.names.Firsts.{Firsts}

-- The names of the generators, and beside each name the number and the sort of the first generator that has it.
pub record AreFirsts (G : Generators) (names : List Name) (sorts : List Sort) (numbers : List ℕ) : Type 0 where
  pub numbers_count : length numbers ≡ length names
  pub sorts_count : length sorts ≡ length names
  pub finds : (name : Name) → option_and_then (slice_get numbers) (number_of names name) ≡ number_of (names_of G) name
  pub sorted : (k n : ℕ) → slice_get numbers k ≡ Some n → slice_get sorts k ≡ slice_get (sorts_of G) n
  pub few : length names ≤ length G
  pub some : 0 < length G → 0 < length names
  pub from_first : slice_index numbers 0 ≡ 0

abbrev pub AreFirstsOf : Generators → Firsts → Type 0
AreFirstsOf G firsts = AreFirsts G firsts.scope.names firsts.scope.sorts firsts.numbers

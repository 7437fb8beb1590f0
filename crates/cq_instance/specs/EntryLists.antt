-- Lists of the places of entries by the numbers of what they are for.
use Rattle.std.specs.Prelude.{ℕ, Bool, List, [], ◌∷◌, Option, Some, None, ◌≡◌, ◌%◌, cond, map, length, slice_get, slice_index_or}
use Rattle.cq_base.specs.declared.hashing.Hashing.{Hashing}
use Rattle.cq_theory.specs.declared.value.Value.{Value}
use Rattle.cq_theory.specs.declared.value.Entry.{Entry}
use Rattle.cq_theory.specs.Resolve.{or_else}
use Rattle.cq_theory.specs.Canonical.{below}
use Rattle.cq_theory.specs.Groups.{positions}
use Rattle.cq_instance.specs.Digests.{digest_of_application}

-- the number of an entry's function at its arguments, below a count
abbrev pub entry_number : Hashing → ℕ → Entry → ℕ
entry_number hashing count entry = digest_of_application hashing entry.function entry.args % count

-- for each number the places of the entries that have it
abbrev pub AreEntryLists : Hashing → List Entry → List (List ℕ) → Type 0
AreEntryLists hashing entries lists = lists ≡ map (positions (map (entry_number hashing (length lists)) entries)) (below (length lists))

abbrev pub passing : (Entry → Bool) → Option Entry → Option Entry
passing test None = None
passing test (Some entry) = cond (test entry) (Some entry) None

-- the first entry that passes a test among those at some places
abbrev pub first_among : (Entry → Bool) → List Entry → List ℕ → Option Entry
first_among test entries [] = None
first_among test entries (n ∷ ns) = or_else (passing test (slice_get entries n)) (first_among test entries ns)

-- the list in which the entry for a function at arguments stands
abbrev pub list_for : Hashing → List (List ℕ) → ℕ → List Value → List ℕ
list_for hashing lists f args = slice_index_or lists (digest_of_application hashing f args % length lists) []

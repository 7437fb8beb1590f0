-- The answers of a query and the tables of eval, as they are made.
use Rattle.std.specs.Prelude.{ℕ, List, Some, IsSorted, ◌≡◌, map, filter, length, position, nat_eq, slice_get}
use Rattle.std.specs.List.{list_all, enumerate_from}
use Rattle.std.specs.Option.{unwrap_or}
use Rattle.std.specs.Cmp.Lexicographic.{pointwise, slice_cmp}
use Rattle.std.specs.Ordering.{nat_cmp}
use Rattle.cq_theory.specs.declared.presentation.Equation.{Equation}
use Rattle.cq_theory.specs.declared.schema.Edge.{Edge}
use Rattle.cq_theory.specs.declared.value.Value.{Value}
use Rattle.cq_theory.specs.Canonical.{below}
use Rattle.cq_theory.specs.Tables.{Tables, AtRow, value_of}
use Rattle.cq_query.specs.QueryData.{QueryData as Query}
use Rattle.cq_query.specs.Translation.{tests_at, attribute_term}
use Rattle.cq_query.specs.Answers.{tuples, variable_counts}
use Rattle.cq_query.specs.Leading.{led}
use Rattle.cq_eval.specs.Testing.{holds_at}

-- the choices of a row below each count at which each test holds
abbrev pub answers_with : Tables → List Equation → List ℕ → List (List ℕ)
answers_with M tests counts = filter (λ rows. list_all (holds_at M rows) tests) (tuples counts)

-- no list stands twice
abbrev pub StandOnce : List (List ℕ) → Type 0
StandOnce lists = (p q : ℕ) (rows : List ℕ) → slice_get lists p ≡ Some rows → slice_get lists q ≡ Some rows → p ≡ q

-- no list stands behind one that comes after it in lexicographic order
abbrev pub AreAscending : List (List ℕ) → Type 0
AreAscending lists = IsSorted (slice_cmp nat_cmp) lists

-- the place at which a list of rows stands among others, or 0 where it doesn't
abbrev pub place_in : List (List ℕ) → List ℕ → ℕ
place_in lists rows = unwrap_or (position (pointwise nat_eq rows) lists) 0

module _ (Q : Query) (M : Tables) where
  abbrev pub answers_of : ℕ → List (List ℕ)
  answers_of entity = answers_with M (tests_at Q entity) (variable_counts Q M entity)

  -- at each answer for the key's source, the place of the answer to which the key leads
  abbrev pub made_keys : ℕ × Edge → List ℕ
  made_keys k = map (λ rows. place_in (answers_of k.1.to) (led Q M k.0 rows)) (answers_of k.1.from)

  -- at each answer for the attribute's entity, the value of the attribute's term
  abbrev pub made_cells : ℕ × Edge → List Value
  made_cells a = map (λ rows. value_of M (map AtRow rows) (attribute_term Q a.0)) (answers_of a.1.from)

  abbrev pub made_tables : Tables
  made_tables = record {
    sheet = record {
      counts = map (λ entity. length (answers_of entity)) (below (length Q.target.entities));
      keys = map made_keys (enumerate_from 0 Q.target.keys);
      cells = map made_cells (enumerate_from 0 Q.target.attributes);
    };
    algebra = M.algebra;
  }

-- The presentation of coeval: a generator for each row and variable, and the equations that the query makes of the tables.
use Rattle.std.specs.Prelude.{ℕ, List, [], ◌++◌, ◌+◌, ◌*◌, if◌then◌else◌, map, length, sum, Option, Some, None, nat_lt}
use Rattle.std.specs.Prelude.{slice_get, slice_index, slice_index_or}
use Rattle.std.specs.List.{flat_map}
use Rattle.cq_theory.specs.declared.constant.Con.TheVariants.{Named}
use Rattle.cq_theory.specs.declared.presentation.Equation.{Equation}
use Rattle.cq_theory.specs.declared.presentation.Equation.TheVariants.{Typ as TypEquation}
use Rattle.cq_theory.specs.declared.presentation.Presentation.{Presentation}
use Rattle.cq_theory.specs.declared.presentation.Sort.{Sort}
use Rattle.cq_theory.specs.declared.presentation.Sort.TheVariants.{Plain, Entity}
use Rattle.cq_theory.specs.declared.schema.Edge.{Edge}
use Rattle.cq_theory.specs.declared.term.EntTerm.{EntTerm}
use Rattle.cq_theory.specs.declared.term.TypeTerm.{TypeTerm}
use Rattle.cq_theory.specs.declared.term.TypeTerm.TheVariants as term
use Rattle.cq_theory.specs.declared.value.Value.TheVariants as value
use Rattle.cq_theory.specs.declared.value.Sheet.{Sheet}
use Rattle.cq_theory.specs.Tables.{Tables}
use Rattle.cq_theory.specs.Canonical.{below, named}
use Rattle.cq_query.specs.QueryData.{QueryData as Query}
use Rattle.cq_theory.specs.Groups.{positions}
use Rattle.cq_terms.specs.ValueTerms.{value_term, entry_equation}
use Rattle.cq_query.specs.Puts.{generators_from, put, put_type, put_equation}
use Rattle.cq_query.specs.Translation.{key_sources, attribute_sources, variables_at, tests_at, assigned, attribute_term}
use Rattle.cq_query.specs.Duties.{equal_terms}

module _ (Q : Query) (counts : List ℕ) where
  -- how many generators the rows of an entity have: one for each row and variable
  abbrev pub size_of : ℕ → ℕ
  size_of entity = slice_index counts entity * length (variables_at Q entity)

  -- the first of them, where an entity's generators come after those of the entities before it
  abbrev pub start_of : ℕ → ℕ
  start_of entity = sum (map size_of (below entity))

  abbrev pub starts : List ℕ
  starts = map start_of (below (length Q.target.entities))

  -- the first generator of a null
  abbrev pub null_start : ℕ
  null_start = start_of (length Q.target.entities)

  -- the sorts of the generators of an entity's rows
  abbrev pub row_sorts : ℕ → List Sort
  row_sorts entity = flat_map (λ row. map (λ v. Entity v.1) (variables_at Q entity)) (below (slice_index counts entity))

  abbrev pub terms_from : ℕ → ℕ → Option ℕ → List EntTerm
  terms_from entity row None = []
  terms_from entity row (Some start) =
      if nat_lt row (slice_index counts entity) then generators_from (start + row * length (variables_at Q entity))
      (length (variables_at Q entity)) else []

  -- the generators of a row, one for each variable; a row that doesn't exist has none
  abbrev pub row_terms : ℕ → ℕ → List EntTerm
  row_terms entity row = terms_from entity row (slice_get starts entity)

module _ (Q : Query) (sheet : Sheet) where
  -- for each variable of the key's target: its generator at the row to which the key leads, and the assigned term on this row's generators
  abbrev pub key_equations_at : ℕ → ℕ → ℕ → Option Edge → List Equation
  key_equations_at entity row k None = []
  key_equations_at entity row k (Some edge) =
      equal_terms (row_terms Q sheet.counts edge.to (slice_index (slice_index_or sheet.keys k []) row))
      (map (put (row_terms Q sheet.counts entity row)) (assigned Q k))

  abbrev pub key_equations : ℕ → ℕ → ℕ → List Equation
  key_equations entity row k = key_equations_at entity row k (slice_get Q.target.keys k)

module _ (Q : Query) (sheet : Sheet) (nulls : ℕ) where
  -- the query's term on this row's generators, and the value in the cell
  abbrev pub cell_equation : ℕ → ℕ → ℕ → Equation
  cell_equation entity row a =
      TypEquation (put_type (row_terms Q sheet.counts entity row) (attribute_term Q a))
      (value_term (null_start Q sheet.counts) nulls (slice_index_or (slice_index_or sheet.cells a []) row (value.Const (Named 0))))

  -- the where equations on the row's generators, then the keys from the entity, then its attributes
  abbrev pub row_equations : ℕ → ℕ → List Equation
  row_equations entity row =
      map (put_equation (row_terms Q sheet.counts entity row)) (tests_at Q entity)
      ++ flat_map (key_equations Q sheet entity row) (positions (key_sources Q) entity)
      ++ map (cell_equation entity row) (positions (attribute_sources Q) entity)

  abbrev pub entity_equations : ℕ → List Equation
  entity_equations entity = flat_map (row_equations entity) (below (slice_index sheet.counts entity))

module _ (Q : Query) (M : Tables) where
  -- Generators: one for each row of each entity of the target and each variable of its block, and then one for each null.
  -- Equations: those of the rows, entity by entity, and then the entries.
  abbrev pub coeval_of : Presentation
  coeval_of = record {
    generators = named (flat_map (row_sorts Q M.sheet.counts) (below (length Q.target.entities)) ++ map Plain M.algebra.nulls);
    equations =
        flat_map (entity_equations Q M.sheet (length M.algebra.nulls)) (below (length Q.target.entities))
        ++ map (entry_equation (null_start Q M.sheet.counts) (length M.algebra.nulls)) M.algebra.entries;
  }

-- What is built of closed rows and closed nodes.
use Rattle.std.specs.Prelude.{ℕ, List, Option, Some, None, ◌≡◌, ◌<◌, ◌++◌, map, length, slice_index}
use Rattle.std.specs.List.{enumerate_from, flat_map}
use Rattle.cq_base.specs.declared.name.Name.{Name}
use Rattle.cq_tables.specs.Content.{Content, cell_of}
use Rattle.cq_flat.specs.declared.node.Node.{Node}
use Rattle.cq_flat.specs.Values.{Closure, AreValues, AreLabels, entries_of, IsClash, value_at}
use Rattle.cq_model.specs.declared.places.Places.{Places}
use Rattle.cq_names.specs.LeastNames.{rows_at, AreNumbered}
use Rattle.cq_model.specs.NodeTerms.{given_sides, leaf_terms, side_terms, cell_place, IsConstantTerm, AreNodes, AreSidesOf}
use Rattle.cq_model.specs.NodeTerms.{ArePlaces, AreTypes}
use Rattle.cq_model.specs.Thins.{Thins}
use Rattle.cq_theory.specs.declared.presentation.Presentation.{Presentation}
use Rattle.cq_theory.specs.declared.presentation.Sort.{Sort}
use Rattle.cq_theory.specs.declared.presentation.Sort.TheVariants.{Plain, Entity}
use Rattle.cq_theory.specs.declared.schema.Edge.{Edge}
use Rattle.cq_theory.specs.SchemaData.{SchemaData as Schema}
use Rattle.cq_theory.specs.declared.term.EntTerm.{EntTerm}
use Rattle.cq_theory.specs.declared.term.TypeTerm.{TypeTerm}
use Rattle.cq_theory.specs.declared.value.Value.{Value}
use Rattle.cq_theory.specs.declared.value.Sheet.{Sheet}
use Rattle.cq_theory.specs.Tables.{Tables, Meaning, AtRow, AtValue, Assignment}

-- what the closing of nodes gives
pub record IsClosureOf (nodes : List Node) (equations : List (ℕ × ℕ)) (flat : Closure) : Type 0 where
  pub values : AreValues nodes equations flat.values
  pub labels : AreLabels flat.values flat.nulls
  pub entries : flat.entries ≡ entries_of nodes flat.values
  pub clash : IsClash nodes equations flat.clash

-- a generator of a type has a place among the closed terms
abbrev pub HasPlace : Places → List Value → ℕ → Sort → Type 0
HasPlace places values n (Plain type) = slice_index places.generators n < length values
HasPlace places values n (Entity entity) = Unit {0}

-- the number of a row that a cell holds
abbrev pub number_in : List ℕ → Option ℕ → ℕ
number_in numbers None = 0
number_in numbers (Some r) = slice_index numbers r

module _ (S : Schema) (P : Presentation) (m : Content) (rows : List ℕ) where
  -- the rows in order with their names, and the nodes with their equations, types and places: the leaves, and then what the given
  -- equations are made of, but for constants that have taken the nodes of leaves
  pub record IsBuilt (order : List (List ℕ)) (names : List (List EntTerm)) (numbers : List ℕ) (places : Places) (nodes : List Node)
      (equations : List (ℕ × ℕ)) (types : List ℕ) : Type 0 where
    pub numbered : AreNumbered S P m rows order names numbers
    pub made : List TypeTerm
    pub thinned : Thins IsConstantTerm (flat_map side_terms (given_sides S P names)) made
    pub places_are : ArePlaces m rows places (leaf_terms S P names ++ made) S P
    pub nodes_are : AreNodes m rows places (leaf_terms S P names ++ made) nodes
    pub sides : AreSidesOf m rows places (leaf_terms S P names ++ made) (given_sides S P names) nodes equations
    pub types_are : AreTypes m rows places (leaf_terms S P names ++ made) S P types

  module _ (order : List (List ℕ)) (numbers : List ℕ) where
    -- a foreign key's column: the numbers of the rows that its cells hold
    abbrev pub key_column : ℕ × Edge → List ℕ
    key_column k = map (λ r. number_in numbers (cell_of m r k.0)) (rows_at order k.1.from)

    module _ (places : Places) (values : List Value) where
      -- an attribute's column: the values of its cells
      abbrev pub cell_column : ℕ × Edge → List Value
      cell_column a = map (λ r. value_at values (cell_place places r a.0)) (rows_at order a.1.from)

      abbrev pub sheet_of : Sheet
      sheet_of = record {
        counts = map length order;
        keys = map key_column (enumerate_from 0 S.keys);
        cells = map cell_column (enumerate_from 0 S.attributes);
      }

      -- what a generator stands for
      abbrev pub standing : ℕ → Sort → Meaning
      standing n (Plain type) = AtValue (value_at values (slice_index places.generators n))
      standing n (Entity entity) = AtRow (slice_index numbers (slice_index rows n))

      abbrev pub assignment_of : Assignment
      assignment_of = map (λ (g : ℕ × (Name × Sort)). standing g.0 g.1.1) (enumerate_from 0 P.generators)

  -- the tables: numbered rows, and the values, nulls and entries of the closure
  abbrev pub tables_of : List (List ℕ) → List ℕ → Places → List ℕ → Closure → Tables
  tables_of order numbers places types flat = record {
    sheet = sheet_of order numbers places flat.values;
    algebra = record { nulls = map (slice_index types) flat.nulls; entries = flat.entries };
  }

-- The cell that an equation of an import stands for.
use Rattle.std.specs.Prelude.{ℕ, Bool, false, List, [], ◌∷◌, ◌++◌, Option, Some, None, ◌≡◌, ◌+◌, ◌-◌, nat_lt}
use Rattle.std.specs.Prelude.{if◌then◌else◌, length, slice_get}
use Rattle.cq_base.specs.declared.name.Name.{Name}
use Rattle.cq_theory.specs.declared.presentation.Equation.{Equation}
use Rattle.cq_theory.specs.declared.presentation.Equation.TheVariants.{Ent, Typ}
use Rattle.cq_theory.specs.declared.presentation.Presentation.{Presentation}
use Rattle.cq_theory.specs.declared.presentation.Sort.{Sort}
use Rattle.cq_theory.specs.declared.presentation.Sort.TheVariants.{Plain, Entity}
use Rattle.cq_theory.specs.declared.schema.Edge.{Edge}
use Rattle.cq_theory.specs.declared.term.EntTerm.{EntTerm}
use Rattle.cq_theory.specs.declared.term.TypeTerm.{TypeTerm}
use Rattle.cq_theory.specs.declared.term.TypeTerm.TheVariants.{Att}
use Rattle.cq_theory.specs.Canonical.{named}
use Rattle.cq_theory.specs.SchemaData.{SchemaData as Schema}
use Rattle.cq_import.specs.declared.columns.Column.TheVariants.{Attribute, Key}
use Rattle.cq_import.specs.Cells.{Cell, Sheet, all_cells, cell_equations, equations_from, file_in}
use Rattle.cq_import.specs.Imports.{row_sorts}
use Rattle.cq_import.specs.Labels.{Labels}
use Rattle.cq_origin.specs.declared.cells.CellPlace.{CellPlace}
use Rattle.cq_origin.specs.declared.cells.Said.{Said}

-- the sort is an entity before this one
abbrev pub before_entity : ℕ → Sort → Bool
before_entity entity (Plain type) = false
before_entity entity (Entity other) = nat_lt other entity

abbrev pub is_before : ℕ → Name × Sort → Bool
is_before entity g = before_entity entity g.1

-- What the left side of an equation names: an attribute or a foreign key at a generator.
abbrev pub attribute_said : ℕ → EntTerm → Option Edge → Option Said
attribute_said a t None = None
attribute_said a t (Some edge) = Some (record { generator = t.generator; entity = edge.from; column = Attribute a edge.to })

abbrev pub key_said : ℕ → ℕ → Option Edge → Option Said
key_said k g None = None
key_said k g (Some edge) = Some (record { generator = g; entity = edge.from; column = Key k edge.to })

abbrev pub term_said : Schema → TypeTerm → Option Said
term_said S (Att a t) = attribute_said a t (slice_get S.attributes a)
term_said S _ = None

abbrev pub path_said : Schema → ℕ → List ℕ → Option Said
path_said S g [] = None
path_said S g (k ∷ path) = key_said k g (slice_get S.keys k)

abbrev pub said_of : Schema → Equation → Option Said
said_of S (Ent t u) = path_said S t.generator t.path
said_of S (Typ t u) = term_said S t

-- the record of a generator is counted from the first generator of its entity
abbrev pub place_from : Said → ℕ → Option CellPlace
place_from said first =
    if nat_lt said.generator first then None
    else Some (record { entity = said.entity; record_number = said.generator - first + 1; column = said.column })

-- each is a type
abbrev pub ArePlain : List Sort → Type 0
ArePlain [] = Unit {0}
ArePlain (Plain type ∷ sorts) = ArePlain sorts
ArePlain (Entity e ∷ sorts) = ⊥

-- The presentation has the generators of the records of these sheets, and the equation is one that their cells say: so it is in what an
-- import presents, and in what one of the second format does, whose other equations are those of entries.
pub record PresentsCells (S : Schema) (sheets : List Sheet) (P : Presentation) (e : Equation) : Type 0 where
  pub as_many : length sheets ≡ length S.entities
  pub plain : List Sort
  pub are_plain : ArePlain plain
  pub generators : P.generators ≡ named (row_sorts S sheets ++ plain)
  pub first : ℕ
  pub labels : Labels
  pub place : ℕ
  pub said : slice_get (equations_from sheets S.typeside first labels (all_cells S sheets)) place ≡ Some e

-- it is told of the cell that says the equation: its file, its record and its column
pub record TellsCell (S : Schema) (sheets : List Sheet) (e : Equation) (told : CellPlace) : Type 0 where
  pub cell : Cell
  pub number : ℕ
  pub stands : slice_get (all_cells S sheets) number ≡ Some cell
  pub first : ℕ
  pub labels : Labels
  pub place : ℕ
  pub says : slice_get (cell_equations sheets S.typeside first labels cell) place ≡ Some e
  pub file : cell.file ≡ file_in (slice_get sheets told.entity)
  pub row : cell.row_number ≡ told.record_number
  pub column : cell.column ≡ told.column

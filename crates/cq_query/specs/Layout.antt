-- Where the generators of the coeval presentation stand.
use Rattle.std.specs.Prelude.{◌≡◌, ◌+◌, ◌≤◌, ◌<◌, length}
use Rattle.cq_query.specs.declared.rows.Layout.{Layout}
use Rattle.cq_query.specs.declared.rows.Row.{Row}
use Rattle.cq_query.specs.Coeval.{starts as starts_of, null_start, row_terms}

-- the starts are those of the tables, the nulls come after the rows, and there are at most 16,000,000 generators
pub record IsLayout (layout : Layout) : Type 0 where
  pub starts : layout.starts.now ≡ starts_of layout.query.now layout.sheet.now.counts
  pub first : layout.first ≡ null_start layout.query.now layout.sheet.now.counts
  pub small : layout.first + layout.nulls ≤ 16000000

-- a row of an entity of the target, with its generators
pub record IsRow (layout : Layout) (row : Row) : Type 0 where
  pub terms : row.terms.now ≡ row_terms layout.query.now layout.sheet.now.counts row.entity row.number
  pub entity : row.entity < length layout.query.now.target.entities

-- The view of `Tables`.
use Rattle.std.specs.Prelude.{◌≡◌, ◌<◌, ◌^◌, ℕ, List, Bool, Option, length, slice_index_or}
use Rattle.cq_tables.specs.Content.{Content, IsWhole}
use Rattle.cq_tables.specs.Places.{start_of, cells_by_row}
use Rattle.cq_tables.specs.declared.tables.Tables.TheInside.{Inside}

-- rows whose cells stand in one list
abbrev pub content : ℕ → List (ℕ × ℕ) → List ℕ → List Bool → List (Option ℕ) → Content
content entities keys kinds alive cells =
    record { entities = entities; keys = keys; kinds = kinds; alive = alive; cells = cells_by_row keys kinds cells }

abbrev pub content_of : Inside → Content
content_of t = content t.plan.value.entities t.plan.value.keys t.kinds.items t.alive.items t.cells.cells

-- there is one flag, one start and one count of mentions a row, the cells of each row begin at its start, and all cells are
-- those of the rows
pub record IsLaid (keys : List (ℕ × ℕ)) (kinds : List ℕ) (alive : List Bool) (starts : List ℕ) (cells : List (Option ℕ))
    (counts : List ℕ) : Type 0 where
  pub one_flag : length alive ≡ length kinds
  pub one_start : length starts ≡ length kinds
  pub one_count : length counts ≡ length kinds
  pub all : length cells ≡ start_of keys kinds (length kinds)
  pub begins : (r : ℕ) → r < length kinds → slice_index_or starts r 0 ≡ start_of keys kinds r
  pub fits : length cells < 2 ^ 64

pub record IsKept (t : Inside) : Type 0 where
  pub whole : IsWhole (content_of t)
  pub laid : IsLaid t.plan.value.keys t.kinds.items t.alive.items t.starts.items t.cells.cells t.cells.counts

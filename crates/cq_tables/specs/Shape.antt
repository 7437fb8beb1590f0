-- What `Tables` sees of its plan.
use Rattle.std.specs.Prelude.{ℕ, List}

-- how many entities there are, and between which of them each key goes
pub record Shape : Type 0 where
  pub entities : ℕ
  pub keys : List (ℕ × ℕ)

-- What an exporter tells of itself.
use Rattle.std.specs.Prelude.{ℕ, Bool, List}
use Rattle.cq_io.specs.Content.{File}
use Rattle.cq_io.specs.declared.format.Format.{Format}

pub record Account : Type 0 where
  pub format : Format
  -- the files that it took, in order
  pub held : List File
  -- it never fails
  pub steady : Bool
  -- how many calls failed
  pub faults : ℕ

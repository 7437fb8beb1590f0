-- The symbols of a term in which something stands in the place of its variable.
use Rattle.std.specs.Prelude.{ℕ, ◌+◌, length, sum}
use Rattle.cq_theory.specs.declared.term.TypeTerm.{TypeTerm}
use Rattle.cq_theory.specs.declared.term.TypeTerm.TheOpen.{TypeTerm-F, Gen, Const, Att, Fun}
use Rattle.cq_theory.specs.declared.term.TypeTerm.TheFolds.{fold-TypeTerm}

abbrev pub symbols_at_step : ℕ → TypeTerm-F ℕ → ℕ
symbols_at_step base (Gen n) = 1
symbols_at_step base (Const n) = 1
symbols_at_step base (Att a t) = base + length t.path + 1
symbols_at_step base (Fun f counts) = sum counts + 1

-- the symbols of a term with an entity term of `base` symbols in the variable's place
abbrev pub symbols_at : ℕ → TypeTerm → ℕ
symbols_at base = fold-TypeTerm ℕ (symbols_at_step base)

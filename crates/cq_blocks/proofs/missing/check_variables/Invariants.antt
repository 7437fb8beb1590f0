use Rattle.std.proofs.Common.{◌≡◌, drop}
use Rattle.cq_blocks.specs.Blocks.{missing_variable, first_of}
use Rattle.cq_blocks.proofs.missing.check_variables.Given as goal

abbrev pub invariant-loop-var : goal.invariant-loop-var
invariant-loop-var l = first_of (missing_variable l.target l.clauses l.key) (drop l.var-index l.vars) ≡ first_of (missing_variable l.target l.clauses l.key) l.vars

use Rattle.std.proofs.Common.{◌≡◌, drop}
use Rattle.cq_query.specs.Translation.{along, variable_terms}
use Rattle.cq_query.proofs.translation.terms_along.Given as goal

abbrev pub invariant-loop-key : goal.invariant-loop-key
invariant-loop-key l = along l.query l.here.items (drop l.key-index l.path) ≡ along l.query (variable_terms l.query l.entity) l.path

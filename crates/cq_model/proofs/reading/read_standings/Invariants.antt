use Rattle.std.proofs.Common.{◌≡◌, map, take}
use Rattle.std.specs.List.{enumerate_from}
use Rattle.cq_tables.specs.Content.{Content}
use Rattle.cq_theory.specs.SchemaData.{SchemaData}
use Rattle.cq_model.specs.Built.{standing}
use Rattle.cq_instance.specs.Standing.{meaning}
use Rattle.cq_model.proofs.reading.read_standings.Given as goal

abbrev pub invariant-loop-number : goal.invariant-loop-number
invariant-loop-number l = (S : SchemaData) (m : Content) (order : _) → map meaning l.made.items ≡ map (λ g. standing S l.presentation m l.rows order l.numbers l.closed.places.now l.closed.flat.now.values g.0 g.1.1) (enumerate_from 0 (take l.number l.generators))

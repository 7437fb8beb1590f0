use Rattle.std.proofs.Common.{ℕ, List, ◌≡◌, map}
use Rattle.std.specs.Prelude.{string_bytes}
use Rattle.cq_theory.specs.Canonical.{below}
use Rattle.cq_csv.specs.Files.{entity_file}
use Rattle.cq_csv.proofs.export.entity_files.Given as goal

abbrev pub invariant-loop-entity : goal.invariant-loop-entity
invariant-loop-entity l = map {B = List ℕ × List ℕ} (λ file. (string_bytes file.0, file.1.items)) l.files.items ≡ map (entity_file l.name l.instance) (below l.entity)

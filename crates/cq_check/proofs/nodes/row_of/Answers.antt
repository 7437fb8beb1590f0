use Rattle.std.proofs.Common.{ℕ, List, sym, subst}
use Rattle.std.specs.Prelude.{IsSome, slice_index}
use Rattle.cq_tables.specs.Content.{end_of, keys_of, entity_of}
use Rattle.cq_check.proofs.Readable.{readable_start}
use Rattle.cq_check.proofs.nodes.row_of.Goals as goal

pub trace-requires-clause-path : goal.trace-requires-clause-path
trace-requires-clause-path c =
    let start = readable_start c.args.tables.now c.args.rows.now c.requires.0 c.args.term.now c.requires.1 in
    subst (λ (path : List ℕ). IsSome (end_of (keys_of c.args.tables.now) (entity_of c.args.tables.now (slice_index c.args.rows.now c.args.term.now.generator)) path)) (sym c.as_slice.ensures) start.path

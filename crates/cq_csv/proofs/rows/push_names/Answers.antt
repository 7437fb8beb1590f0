use Rattle.std.specs.Prelude.{slice_get}
use Rattle.cq_text.specs.Transcript.{edge_name}
use Rattle.cq_csv.proofs.Adds.{adds_more, adds_nothing}
use Rattle.cq_csv.proofs.rows.push_names.Goals as goal

pub loop-number-init : goal.loop-number-init
loop-number-init c = adds_nothing c.args.fields.now c.requires.whole

pub loop-number-preserved : goal.loop-number-preserved
loop-number-preserved c =
    adds_more (λ n. edge_name (slice_get c.args.edges.now n)) c.args.numbers.now c.loop-number.number-index 0 c.args.fields.now c.loop-number.fields c.push_edge_name.new.fields
    c.loop-number-test.true c.loop-number.invariant c.in_ok-push_edge_name.ensures

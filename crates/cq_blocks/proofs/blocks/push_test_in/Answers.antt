use Rattle.std.proofs.Common.{◌++◌, ◌≡◌, sym, ap, ◌∙◌}
use Rattle.std.specs.Prelude.{slice_get}
use Rattle.std.proofs.lemmas.Option.{slice_get-get_or}
use Rattle.std.proofs.lemmas.Result.{IfOk-weaker}
use Rattle.cq_blocks.specs.Blocks.{scope_or_none, test_made}
use Rattle.cq_blocks.proofs.blocks.push_test_in.Goals as goal

pub returns : goal.returns
returns c =
    let here : c.index-scopes-entity.result ≡ scope_or_none (slice_get c.args.scopes.now c.args.entity) =
    c.index-scopes-entity.is ∙ sym (ap scope_or_none (slice_get-get_or c.args.scopes.now c.args.entity c.index-scopes-entity.result c.requires)) in
    IfOk-weaker c.push_test.result _ _ (λ _ h. h ∙ ap (λ variables. c.args.made.now.items ++ test_made c.args.source.now variables c.args.part.now) here) c.push_test.ensures

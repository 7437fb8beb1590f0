use Rattle.std.proofs.Common.{arith, ◌<◌, ◌++◌, ◌∷◌, [], ◌∙◌, sym, ap, length}
use Rattle.cq_theory.specs.Paths.{path_keys}
use Rattle.cq_theory.proofs.PathKeys.{path_keys_more}
use Rattle.cq_theory.proofs.lookup.paths.path_keys.Goals as goal

pub loop-name-preserved : goal.loop-name-preserved
loop-name-preserved c =
    let within : c.loop-name.name-index < length c.args.names.now = omega arith in
    c.in_ok-push_key.ensures ∙ ap (λ l. l ++ path_keys c.args.schema.now (c.name-item.result ∷ [])) c.loop-name.invariant ∙ sym (path_keys_more c.args.schema.now c.args.names.now c.loop-name.name-index c.name-item.result within c.name-item.is)

use Rattle.std.proofs.Common.{List, ◌∷◌, ◌++◌, [], ap, ◌∙◌, append_assoc}
use Rattle.std.specs.Prelude.{replicate}
use Rattle.std.proofs.lemmas.List.{replicate_more}
use Rattle.cq_theory.specs.declared.presentation.Sort.{Sort}
use Rattle.cq_import.proofs.generators.push_copies.Goals as goal

pub loop-copy-preserved : goal.loop-copy-preserved
loop-copy-preserved c =
    let before : List Sort = c.args.made.now.items in
    c.in_ok-push.ensures.items ∙ ap (λ (l : List Sort). l ++ c.args.sort ∷ []) c.loop-copy.invariant ∙ append_assoc before (replicate c.loop-copy._copy c.args.sort) (c.args.sort ∷ [])
    ∙ ap (λ (l : List Sort). before ++ l) (replicate_more c.loop-copy._copy c.args.sort)

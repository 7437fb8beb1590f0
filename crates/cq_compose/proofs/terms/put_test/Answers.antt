use Rattle.std.proofs.Common.{List, sym, ap, ◌∙◌}
use Rattle.cq_theory.specs.declared.presentation.Equation.TheVariants.{Ent}
use Rattle.cq_theory.specs.declared.term.EntTerm.{EntTerm}
use Rattle.cq_theory.specs.EntTerm.{extended}
use Rattle.cq_query.specs.Puts.{put, put_equation}
use Rattle.cq_compose.specs.Frame.{terms_of}
use Rattle.cq_compose.proofs.Following.{first_or_index}
use Rattle.cq_compose.proofs.terms.put_test.Goals as goal

pub returns-in_ok-other-in-Ent : goal.returns-in_ok-other-in-Ent
returns-in_ok-other-in-Ent c =
    let comps : List EntTerm = terms_of c.args.frame.now c.args.at.now in
    let left = c.in_ok-made-in-Ent.ensures ∙ λ i. extended (sym (first_or_index comps c.in-Ent.left.generator) i) (c.as_slice.ensures i) in
    let right = c.in_ok-other-in-Ent.ensures ∙ λ i. extended (sym (first_or_index comps c.in-Ent.right.generator) i) (c.as_slice-in-Ent.ensures i) in
    (λ i. Ent (left i) (right i)) ∙ sym (ap (put_equation comps) c.in-Ent.is)

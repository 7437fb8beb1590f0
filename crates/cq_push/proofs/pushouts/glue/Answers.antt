use Rattle.std.proofs.Common.{List, [], ◌∷◌, ◌++◌, ◌≡◌, ◌<◌, ◌+◌, length, ap, ◌∙◌, arith}
use Rattle.cq_theory.specs.declared.presentation.Sort.{Sort}
use Rattle.cq_transform.specs.Gluing.{equations_from, glued_images}
use Rattle.cq_push.proofs.Beside.{few_more, two_sorts, two_equations, two_count, own_sorts, own_count}
use Rattle.cq_push.proofs.Limits.{still_many}
use Rattle.cq_push.proofs.pushouts.glue.Goals as goal

pub add-requires-2 : goal.add-requires-2
add-requires-2 c = few_more c.new-gluing.result.sorts.items c.add.new.self.sorts.items c.args.left.now c.in_default.ensures.sorts c.in_default.ensures.few

pub returns-in-Err-clause-refused : goal.returns-in-Err-clause-refused
returns-in-Err-clause-refused c =
    still_many c.in-Err.refusal
    (λ (h : 16000000 < length c.new-gluing.result.sorts.items + length c.args.left.now.generators).
    omega (arith, h, ap (λ (l : List Sort). length l) c.new-gluing.ensures.sorts, two_count c.args.left.now c.args.right.now))
    c.in-Err.ensures.refused

pub returns-in-Err-add-clause-refused : goal.returns-in-Err-add-clause-refused
returns-in-Err-add-clause-refused c =
    let first = ap (λ (l : List Sort). length l) (c.in_default.ensures.sorts ∙ ap (λ (l : List Sort). l ++ own_sorts c.args.left.now) c.new-gluing.ensures.sorts) in
    still_many c.in-Err-add.refusal
    (λ (h : 16000000 < length c.add.new.self.sorts.items + length c.args.right.now.generators).
    omega (arith, h, first, own_count c.args.left.now, two_count c.args.left.now c.args.right.now))
    c.in-Err-add.ensures.refused

pub returns : goal.returns
returns c =
    let equations : c.add-2.new.self.equations.items ≡ equations_from 0 (c.args.left.now ∷ c.args.right.now ∷ []) =
    two_equations c.args.left.now c.args.right.now c.new-gluing.result.sorts.items c.add.new.self.sorts.items c.add-2.new.self.sorts.items
    c.new-gluing.result.equations.items c.add.new.self.equations.items c.add-2.new.self.equations.items
    c.new-gluing.ensures.sorts c.in_default.ensures.sorts c.new-gluing.ensures.equations c.in_default.ensures.equations c.in_default-add.ensures.equations in
    record {
      few = few_more c.add.new.self.sorts.items c.add-2.new.self.sorts.items c.args.right.now c.in_default-add.ensures.sorts c.in_default-add.ensures.few;
      sorts = two_sorts c.args.left.now c.args.right.now c.new-gluing.result.sorts.items c.add.new.self.sorts.items c.add-2.new.self.sorts.items
          c.new-gluing.result.equations.items c.add.new.self.equations.items c.add-2.new.self.equations.items
          c.new-gluing.ensures.sorts c.in_default.ensures.sorts c.in_default-add.ensures.sorts;
      equations = c.in_ok-push_glued.ensures ∙ (λ i. equations i ++ glued_images (c.len-first.ensures i) c.args.lefts.now c.args.rights.now);
      refused = tt;
    }

use Rattle.std.proofs.Common.{suc, Bool, false, true, List, [], ◌∷◌, ◌≡◌, ◌&&◌, ◌≢◌, length, refl, sym, ap, ◌∙◌}
use Rattle.cq_theory.specs.declared.value.Value.{Value}
use Rattle.cq_theory.specs.Tables.{same_plain, all_same_plain}
use Rattle.cq_instance.proofs.application.all_same_plain.Goals as goal

no_more : (b : Bool) → (b && false) ≡ false
no_more true = refl
no_more false = refl

unlike : (xs ys : List Value) → length xs ≢ length ys → all_same_plain xs ys ≡ false
unlike [] [] differ = absurd (differ refl)
unlike [] (y ∷ ys) differ = refl
unlike (x ∷ xs) [] differ = refl
unlike (x ∷ xs) (y ∷ ys) differ = ap (λ b. same_plain x y && b) (unlike xs ys (λ same. differ (ap suc same))) ∙ no_more (same_plain x y)

pub returns-then-left-right : goal.returns-then-left-right
returns-then-left-right c = sym (unlike c.args.left.now c.args.right.now c.if-left-right.true)

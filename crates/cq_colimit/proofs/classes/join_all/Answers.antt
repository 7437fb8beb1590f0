use Rattle.std.proofs.Common.{ℕ, length, refl, sym, subst}
use Rattle.cq_colimit.specs.Forest.{IsDown, IsForest}
use Rattle.cq_colimit.proofs.Forests.{alone_down, alone_forest}
use Rattle.cq_colimit.proofs.classes.join_all.Goals as goal

pub loop-link-init : goal.loop-link-init
loop-link-init c =
    let n : ℕ = length c.args.parents.now in
    (refl, subst IsDown (sym c.requires.alone) (alone_down n), (λ x. x, refl, subst (IsForest (λ x. x)) (sym c.requires.alone) (alone_forest n)))

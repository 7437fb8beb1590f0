use Rattle.std.proofs.Common.{◌≡◌, ◌∷◌, ◌++◌, [], length, sym, ◌∙◌, ap, arith}
use Rattle.std.proofs.lemmas.Grind.{common_steps}
use Rattle.cq_rows.specs.Forest.{renamed_by}
use Rattle.cq_rows.proofs.Renamed.{length-renamed_by, renamed_more, classes_more}
use Rattle.cq_rows.proofs.renamings.Renamings.push.Goals as goal

pub invariant_of-self-2 : goal.invariant_of-self-2
invariant_of-self-2 c =
    let ps : c.push.new.self.items ≡ c.self.inside.parent.items ++ length c.self.inside.parent.items ∷ [] = grind (arith, common_steps) in
    let at : c.push-2.new.self.items ≡ c.self.inside.at.items ++ length c.self.inside.parent.items ∷ [] = grind (arith, common_steps) in
    rw (ps, at) (classes_more c.self.inside.parent.items c.self.inside.at.items c.self.invariant)

pub returns-clause-ok : goal.returns-clause-ok
returns-clause-ok c =
    let ps : c.push.new.self.items ≡ c.self.inside.parent.items ++ length c.self.inside.parent.items ∷ [] = grind (arith, common_steps) in
    let at : c.push-2.new.self.items ≡ c.self.inside.at.items ++ length c.self.inside.parent.items ∷ [] = grind (arith, common_steps) in
    rw (← c.self.view_is, ps, at) (renamed_more c.self.inside.parent.items c.self.inside.at.items c.self.invariant ∙ ap (λ x. renamed_by c.self.inside.parent.items c.self.inside.at.items ++ x ∷ []) (sym (length-renamed_by c.self.inside.parent.items c.self.inside.at.items)))

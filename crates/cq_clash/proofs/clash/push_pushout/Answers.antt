use Rattle.std.proofs.Common.{ap, length, sym, ◌∙◌}
use Rattle.cq_instance.specs.declared.transform.Transform.{Transform}
use Rattle.cq_clash.proofs.clash.push_pushout.Goals as goal

pub pushout_presentation-requires : goal.pushout_presentation-requires
pushout_presentation-requires g c =
    ap (λ (t : Transform). length t.images) c.deref-first.ensures ∙ c.requires.0.count
    ∙ sym (ap (λ (t : Transform). length t.images) c.deref-second.ensures ∙ c.requires.1.count)

use Rattle.std.proofs.Common.{ap, ◌∙◌}
use Rattle.std.specs.Prelude.{slice_get}
use Rattle.cq_theory.specs.declared.presentation.Sort.TheVariants.{Plain}
use Rattle.cq_import.specs.Labels.{Use}
use Rattle.cq_import.proofs.Named.{mapped_one}
use Rattle.cq_import.proofs.labels.Labels.push_sorts.Goals as goal

pub loop-place-preserved : goal.loop-place-preserved
loop-place-preserved c =
    mapped_one (λ (u : Use). Plain u.1) c.args.self.now c.loop-place.place (c.in-Some.field-0-0.now, c.in-Some.sort.now) c.args.made.now.items c.loop-place.made.items c.push.new.self.items
    (c.in-Some.ensures.entry ∙ ap (λ l. slice_get l c.loop-place.place) c.self.view_is) c.loop-place.invariant c.in_ok-push.ensures.items

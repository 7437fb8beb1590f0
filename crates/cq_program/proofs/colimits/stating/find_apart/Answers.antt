use Rattle.std.proofs.Common.{◌∙◌, sym}
use Rattle.cq_syntax.specs.declared.part.Spot.{Spot}
use Rattle.cq_program.specs.Views.{used_meant}
use Rattle.cq_environment.specs.Meanings.{SchemaMeant}
use Rattle.cq_program.proofs.Uses.{no_other, other_at, same_at}
use Rattle.cq_program.proofs.colimits.stating.find_apart.Goals as goal

pub returns-then-ne : goal.returns-then-ne
returns-then-ne c =
    sym (other_at (λ (s : Spot). s.place) (λ (S : SchemaMeant). S.typeside) c.args.name.now used_meant c.args.parts.now c.loop-part.part-index c.part-item.result c.loop-part-test.true
    c.part-item.is c.loop-part.invariant (sym c.if-ne.true ∙ c.ne.ensures))

pub loop-part-preserved : goal.loop-part-preserved
loop-part-preserved c =
    same_at (λ (s : Spot). s.place) (λ (S : SchemaMeant). S.typeside) c.args.name.now used_meant c.args.parts.now c.loop-part.part-index c.part-item.result c.loop-part-test.true
    c.part-item.is c.loop-part.invariant c.if-ne.ensures

pub returns : goal.returns
returns c =
    sym (no_other (λ (s : Spot). s.place) (λ (S : SchemaMeant). S.typeside) c.args.name.now used_meant c.args.parts.now c.loop-part.part-index c.loop-part-test.false c.loop-part.invariant)

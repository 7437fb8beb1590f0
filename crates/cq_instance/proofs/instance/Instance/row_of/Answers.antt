use Rattle.std.proofs.Common.{sym, ap, subst, ◌∙◌}
use Rattle.cq_theory.specs.Tables.{Assignment, row_of}
use Rattle.cq_instance.specs.InstanceData.{InstanceData}
use Rattle.cq_instance.specs.Terms.{IsEntTermOf}
use Rattle.cq_instance.proofs.OnWay.{ground_entity, ent_term_of}
use Rattle.cq_instance.proofs.instance.Instance.row_of.Goals as goal

pub row_over-requires : goal.row_over-requires
row_over-requires c =
    let i : InstanceData = c.args.self.now in
    let e = ground_entity i.schema i.presentation c.args.term.now c.requires in
    (e.0, subst (λ (A : Assignment). IsEntTermOf i.schema i.tables A c.args.term.now e.0) (sym c.standings.ensures.standings) (ent_term_of i c.standings.ensures.instance c.args.term.now e.0 e.1))

pub returns : goal.returns
returns c =
    let i : InstanceData = c.args.self.now in
    record {
      row = c.row_over.ensures.row ∙ ap (λ (A : Assignment). row_of i.tables A c.args.term.now) c.standings.ensures.standings;
      within = λ entity h. c.row_over.ensures.within entity
          (subst (λ (A : Assignment). IsEntTermOf i.schema i.tables A c.args.term.now entity) (sym c.standings.ensures.standings) (ent_term_of i c.standings.ensures.instance c.args.term.now entity h));
    }

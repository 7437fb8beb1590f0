use Rattle.std.proofs.Common.{◌∙◌}
use Rattle.cq_rows.proofs.settle.settle.Goals as goal

pub returns-clause-sound : goal.returns-clause-sound
returns-clause-sound c = λ terms h. c.in_ok-merge_all.ensures.settling.sound terms (rw c.in_ok-cover.ensures.rows h)

pub merge_all-requires : goal.merge_all-requires
merge_all-requires c = record {
  ready = record {
    theory = c.requires.theory;
    groups = c.requires.groups;
    keys = c.requires.keys;
    entities = c.requires.entities;
    whole = c.requires.whole;
    current = record {
      count = c.in_ok-cover.ensures.count ∙ c.made-made.ensures;
      live = λ r l. c.in_ok-cover.ensures.same r ∙ c.requires.behind.live r l;
    };
    count = rw c.in_ok-cover.ensures.rows c.requires.count;
    rows = rw c.in_ok-cover.ensures.rows c.requires.rows;
  };
}

use Rattle.std.proofs.Common.{refl}
use Rattle.cq_example.specs.Text.{text_of}
use Rattle.cq_example.proofs.Counted.{short_text}
use Rattle.cq_example.proofs.text.example_text.Goals as goal

pub returns-clause-text : goal.returns-clause-text
unfolding text_of
returns-clause-text c =
    rw (
      c.in_ok-extend_from_slice-3.ensures.items,
      c.in_ok-push_equations.ensures,
      c.in_ok-extend_from_slice-2.ensures.items,
      c.in_ok-push_generators.ensures,
      c.in_ok-extend_from_slice.ensures.items,
      c.as_bytes.ensures.value,
      c.in_ok-text.ensures.items,
    ) refl

pub returns-clause-short : goal.returns-clause-short
returns-clause-short c = rw (returns-clause-text c) (short_text c.args.size c.requires.most)

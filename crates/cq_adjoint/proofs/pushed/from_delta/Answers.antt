use Rattle.std.proofs.Common.{List, ◌≡◌, false, IfOk, IfErr, sym, subst, ◌∙◌}
use Rattle.cq_theory.specs.declared.term.TypeTerm.{TypeTerm}
use Rattle.cq_instance.specs.Spelling.{AreNullsSpelled, null_terms_of, term_among}
use Rattle.cq_move.specs.Pulling.{TellsSize}
use Rattle.cq_transform.specs.Composing.{has_long}
use Rattle.cq_adjoint.specs.Moves.{from_delta_images}
use Rattle.cq_adjoint.proofs.pushed.from_delta.Goals as goal

pub from_delta_by-requires : goal.from_delta_by-requires
from_delta_by-requires c =
    let names : c.as_slice-named.result.now ≡ null_terms_of c.args.j.now = c.as_slice-named.ensures.value ∙ c.in-Ok.ensures in
    record {
      initial = c.requires.initial;
      least = c.requires.least;
      pushed = c.requires.pushed;
      pulled = c.requires.pulled;
      spelled = subst (λ (l : List TypeTerm). AreNullsSpelled c.args.j.now (term_among l)) (sym names) c.requires.spelled;
      goes = c.requires.goes;
    }

pub returns : goal.returns
returns c =
    let names : c.as_slice-named.result.now ≡ null_terms_of c.args.j.now = c.as_slice-named.ensures.value ∙ c.in-Ok.ensures in
    let result = c.from_delta_by.result in
    record {
      images = subst (λ (l : List TypeTerm). IfOk result (λ made. made.images ≡ from_delta_images c.args.mapping.now c.args.k.now (term_among l) c.args.i.now c.args.j.now c.args.d.now)) names c.from_delta_by.ensures.images;
      fits = subst (λ (l : List TypeTerm). IfOk result (λ _. has_long (from_delta_images c.args.mapping.now c.args.k.now (term_among l) c.args.i.now c.args.j.now c.args.d.now) ≡ false)) names c.from_delta_by.ensures.fits;
      goes = c.from_delta_by.ensures.goes;
      transposed = c.from_delta_by.ensures.transposed;
      only = c.from_delta_by.ensures.only;
      refused = subst (λ (l : List TypeTerm). IfErr result (TellsSize (has_long (from_delta_images c.args.mapping.now c.args.k.now (term_among l) c.args.i.now c.args.j.now c.args.d.now)))) names c.from_delta_by.ensures.refused;
    }

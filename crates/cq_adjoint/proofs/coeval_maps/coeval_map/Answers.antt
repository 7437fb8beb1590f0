use Rattle.std.proofs.Common.{ℕ, List, ◌≡◌, ◌≤◌, ◌+◌, length, sym, ap, subst, ◌∙◌, arith}
use Rattle.cq_theory.specs.declared.value.Sheet.{Sheet}
use Rattle.cq_query.specs.QueryData.{QueryData as Query}
use Rattle.cq_query.specs.Coeval.{starts, null_start}
use Rattle.cq_adjoint.proofs.CoevalTerms.{few_generators}
use Rattle.cq_adjoint.proofs.coeval_maps.coeval_map.Goals as goal

pub find_layout-requires : goal.find_layout-requires
find_layout-requires c =
    let Q : Query = c.args.query.now in
    let fits = few_generators Q c.is_well_sorted.ensures c.args.target.now c.args.there.now c.requires.copied_there c.sheet-sheet.ensures.instance c.is_instance.ensures in
    let bound : null_start Q c.args.target.now.tables.sheet.counts ≤ 16000000 = omega (arith, fits) in
    subst (λ (l : List ℕ). null_start Q l ≤ 16000000) (sym (c.as_slice.ensures ∙ ap (λ (s : Sheet). s.counts) c.sheet-sheet.ensures.sheet)) bound

pub mapped-requires : goal.mapped-requires
mapped-requires c =
    let Q : Query = c.args.query.now in
    let counts : c.as_slice.result.now ≡ c.args.target.now.tables.sheet.counts = c.as_slice.ensures ∙ ap (λ (s : Sheet). s.counts) c.sheet-sheet.ensures.sheet in
    record {
      goes = c.requires.goes;
      copied = c.requires.copied;
      copied_there = c.requires.copied_there;
      starts = c.as_slice-starts.ensures.value ∙ c.in_ok-layout.ensures.starts ∙ ap (starts Q) counts;
      first = c.in_ok-layout.ensures.first ∙ ap (null_start Q) counts;
    }

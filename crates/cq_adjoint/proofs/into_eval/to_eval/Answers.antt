use Rattle.std.proofs.Common.{ℕ, List, true, ◌≡◌, ◌≤◌, ◌+◌, ◌⊎◌, Vec, Global, map, length, IfOk, IfErr, sym, ap, subst, ◌∙◌, arith}
use Rattle.cq_theory.specs.declared.refusal.SizeRefusal.TheVariants.{TooLarge, Memory}
use Rattle.cq_theory.specs.declared.value.Sheet.{Sheet}
use Rattle.std.proofs.lemmas.Option.{slice_get-get_or}
use Rattle.cq_instance.specs.InstanceData.{InstanceData}
use Rattle.cq_instance.specs.declared.transform.Transform.{Transform}
use Rattle.cq_query.specs.QueryData.{QueryData as Query}
use Rattle.cq_query.specs.Coeval.{starts, null_start}
use Rattle.cq_transform.specs.Composing.{has_long}
use Rattle.cq_adjoint.specs.QueryMoves.{AreAcross, to_eval_images}
use Rattle.cq_adjoint.proofs.AllAnswers.{in_order}
use Rattle.cq_adjoint.proofs.CoevalTerms.{few_generators}
use Rattle.cq_adjoint.proofs.ToEval.{all_transposed, all_one}
use Rattle.cq_adjoint.proofs.into_eval.to_eval.Goals as goal

pub find_layout-requires : goal.find_layout-requires
find_layout-requires c =
    let Q : Query = c.args.query.now in
    let fits = few_generators Q c.is_well_sorted.ensures c.args.source.now c.args.copies.now c.requires.across.coeval c.sheet-sheet.ensures.instance c.is_instance.ensures in
    let bound : null_start Q c.args.source.now.tables.sheet.counts ≤ 16000000 = omega (arith, fits) in
    subst (λ (l : List ℕ). null_start Q l ≤ 16000000) (sym (c.as_slice-counts.ensures ∙ ap (λ (s : Sheet). s.counts) c.sheet-sheet.ensures.sheet)) bound

pub all_places-requires : goal.all_places-requires
all_places-requires c = λ n d within.
    in_order c.args.query.now c.args.target.now.tables (λ (list : Vec (Vec ℕ Global) Global). map (λ (rows : Vec ℕ Global). rows.items) list.items) c.args.answers.now c.requires.across.answered n _
    (slice_get-get_or c.args.answers.now n d within)

pub crossed-requires : goal.crossed-requires
crossed-requires c =
    let Q : Query = c.args.query.now in
    let counts : c.as_slice-counts.result.now ≡ c.args.source.now.tables.sheet.counts = c.as_slice-counts.ensures ∙ ap (λ (s : Sheet). s.counts) c.sheet-sheet.ensures.sheet in
    record {
      goes = c.requires.goes;
      across = subst (AreAcross Q c.args.source.now c.args.copies.now c.args.target.now c.args.evaluated.now) (sym (c.as_slice-places.ensures.value ∙ c.in_ok-found.ensures)) c.requires.across;
      starts = c.as_slice-starts.ensures.value ∙ c.in_ok-layout.ensures.starts ∙ ap (starts Q) counts;
      first = c.in_ok-layout.ensures.first ∙ ap (null_start Q) counts;
    }

pub returns : goal.returns
returns c =
    let Q : Query = c.args.query.now in
    let h : Transform = c.args.moved.now in
    let i : InstanceData = c.args.source.now in
    let a : InstanceData = c.args.copies.now in
    let j : InstanceData = c.args.target.now in
    let d : InstanceData = c.args.evaluated.now in
    let answers : List (List (List ℕ)) = map (λ (list : Vec (Vec ℕ Global) Global). map (λ (rows : Vec ℕ Global). rows.items) list.items) c.args.answers.now in
    let places = c.as_slice-places.ensures.value ∙ c.in_ok-found.ensures in
    let images = subst (λ (l : List (List (List ℕ))). IfOk c.crossed.result (λ made. made.images ≡ to_eval_images Q h i a j d l)) places c.crossed.ensures.images in
    record {
      images = images;
      goes = c.crossed.ensures.goes;
      fits = c.crossed.ensures.fits;
      refused = subst (λ (l : List (List (List ℕ))). IfErr c.crossed.result (λ refusal. (refusal ≡ Memory) ⊎ ((refusal ≡ TooLarge) × (has_long (to_eval_images Q h i a j d l) ≡ true)))) places c.crossed.ensures.refused;
      transposed = all_transposed Q c.is_well_sorted.ensures h i a j d answers c.requires.across c.requires.goes c.sheet-sheet.ensures.instance c.is_instance-2.ensures c.crossed.result images c.crossed.ensures.goes;
      one = all_one Q c.is_well_sorted.ensures h i a j d answers c.requires.across c.requires.goes c.sheet-sheet.ensures.instance c.is_instance-2.ensures c.crossed.result images c.crossed.ensures.goes;
    }

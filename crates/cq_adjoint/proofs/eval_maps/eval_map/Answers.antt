use Rattle.std.proofs.Common.{ℕ, List, true, ◌≡◌, ◌⊎◌, Vec, Global, map, IfOk, IfErr, sym, ap, subst, ◌∙◌}
use Rattle.std.proofs.lemmas.Option.{slice_get-get_or}
use Rattle.cq_theory.specs.declared.refusal.SizeRefusal.TheVariants.{TooLarge, Memory}
use Rattle.cq_instance.specs.InstanceData.{InstanceData}
use Rattle.cq_instance.specs.declared.transform.Transform.{Transform}
use Rattle.cq_query.specs.QueryData.{QueryData as Query}
use Rattle.cq_transform.specs.Composing.{has_long}
use Rattle.cq_adjoint.specs.QueryMoves.{AreEvaluated, eval_images}
use Rattle.cq_adjoint.proofs.AllAnswers.{in_order}
use Rattle.cq_adjoint.proofs.eval_maps.eval_map.Goals as goal

pub all_places-requires : goal.all_places-requires
all_places-requires c = λ n d within.
    in_order c.args.query.now c.args.source.now.tables (λ (list : Vec (Vec ℕ Global) Global). map (λ (rows : Vec ℕ Global). rows.items) list.items) c.args.from.now c.requires.evaluated.answered n _
    (slice_get-get_or c.args.from.now n d within)

pub all_places-requires-2 : goal.all_places-requires-2
all_places-requires-2 c = λ n d within.
    in_order c.args.query.now c.args.target.now.tables (λ (list : Vec (Vec ℕ Global) Global). map (λ (rows : Vec ℕ Global). rows.items) list.items) c.args.to.now c.requires.evaluated.answered_there n _
    (slice_get-get_or c.args.to.now n d within)

pub mapped-requires : goal.mapped-requires
mapped-requires c =
    let from = c.as_slice-listed.ensures.value ∙ c.in_ok-before.ensures in
    let to = c.as_slice-places.ensures.value ∙ c.in_ok-after.ensures in
    record {
      goes = c.requires.goes;
      are = subst (λ (x : List (List (List ℕ)) × List (List (List ℕ))). AreEvaluated c.args.query.now c.args.source.now c.args.target.now c.args.evaluated.now c.args.there.now x.0 x.1)
          (λ k. (sym from k, sym to k)) c.requires.evaluated;
    }

pub returns : goal.returns
returns c =
    let Q : Query = c.args.query.now in
    let h : Transform = c.args.moved.now in
    let i : InstanceData = c.args.source.now in
    let j : InstanceData = c.args.target.now in
    let a : InstanceData = c.args.evaluated.now in
    let b : InstanceData = c.args.there.now in
    let from = c.as_slice-listed.ensures.value ∙ c.in_ok-before.ensures in
    let to = c.as_slice-places.ensures.value ∙ c.in_ok-after.ensures in
    record {
      images = subst (λ (x : List (List (List ℕ)) × List (List (List ℕ))). IfOk c.mapped.result (λ made. made.images ≡ eval_images Q h i j a b x.0 x.1)) (λ k. (from k, to k)) c.mapped.ensures.images;
      goes = c.mapped.ensures.goes;
      fits = c.mapped.ensures.fits;
      refused = subst (λ (x : List (List (List ℕ)) × List (List (List ℕ))). IfErr c.mapped.result (λ refusal. (refusal ≡ Memory) ⊎ ((refusal ≡ TooLarge) × (has_long (eval_images Q h i j a b x.0 x.1) ≡ true))))
          (λ k. (from k, to k)) c.mapped.ensures.refused;
    }

use Rattle.std.proofs.Common.{ℕ, List, true, ◌≡◌, ◌⊎◌, Vec, Global, map, IfOk, IfErr, sym, subst, ◌∙◌}
use Rattle.cq_theory.specs.declared.refusal.SizeRefusal.TheVariants.{TooLarge, Memory}
use Rattle.cq_theory.specs.declared.term.TypeTerm.{TypeTerm}
use Rattle.cq_instance.specs.InstanceData.{InstanceData}
use Rattle.cq_instance.specs.Spelling.{AreNullsSpelled, null_term_of, null_terms_of, term_among}
use Rattle.cq_instance.specs.declared.transform.Transform.{Transform}
use Rattle.cq_query.specs.QueryData.{QueryData as Query}
use Rattle.cq_transform.specs.Composing.{has_long}
use Rattle.cq_adjoint.specs.AnswerNames.{from_eval_images}
use Rattle.cq_adjoint.proofs.OutOfEval.{all_transposed, all_one}
use Rattle.cq_adjoint.proofs.out_of_coeval.from_eval.Goals as goal

pub answered-requires : goal.answered-requires
answered-requires c =
    let names : c.as_slice-terms.result.now ≡ null_terms_of c.args.target.now = c.as_slice-terms.ensures.value ∙ c.in_ok-null_terms.ensures in
    record {
      goes = c.requires.goes;
      across = c.requires.across;
      least = c.requires.least;
      spelled = subst (λ (l : List TypeTerm). AreNullsSpelled c.args.target.now (term_among l)) (sym names) c.requires.spelled;
    }

pub returns : goal.returns
returns c =
    let Q : Query = c.args.query.now in
    let h : Transform = c.args.moved.now in
    let i : InstanceData = c.args.source.now in
    let a : InstanceData = c.args.copies.now in
    let j : InstanceData = c.args.target.now in
    let d : InstanceData = c.args.evaluated.now in
    let answers : List (List (List ℕ)) = map (λ (list : Vec (Vec ℕ Global) Global). map (λ (rows : Vec ℕ Global). rows.items) list.items) c.args.answers.now in
    let names : c.as_slice-terms.result.now ≡ null_terms_of j = c.as_slice-terms.ensures.value ∙ c.in_ok-null_terms.ensures in
    let images = subst (λ (l : List TypeTerm). IfOk c.answered.result (λ made. made.images ≡ from_eval_images Q h i j d answers (term_among l))) names c.answered.ensures.images in
    record {
      images = images;
      goes = c.answered.ensures.goes;
      fits = c.answered.ensures.fits;
      refused = subst (λ (l : List TypeTerm). IfErr c.answered.result (λ refusal. (refusal ≡ Memory) ⊎ ((refusal ≡ TooLarge) × (has_long (from_eval_images Q h i j d answers (term_among l)) ≡ true)))) names
          c.answered.ensures.refused;
      transposed = all_transposed Q c.is_well_sorted.ensures h i a j d answers c.requires.across c.requires.goes c.is_instance.ensures c.is_instance-3.ensures c.requires.least.1 (null_term_of j) c.requires.spelled
          c.is_instance-2.ensures c.answered.result images c.answered.ensures.goes;
      one = all_one Q c.is_well_sorted.ensures h i a j d answers c.requires.across c.requires.goes c.is_instance.ensures c.is_instance-3.ensures c.requires.least.1 (null_term_of j) c.requires.spelled
          c.is_instance-2.ensures c.answered.result images c.answered.ensures.goes;
    }

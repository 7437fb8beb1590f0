-- The images of a movement are one list.
use Rattle.std.proofs.Common.{List, [], ◌≡◌, ◌<◌, length, get_or, sym, ◌∙◌, arith}
use Rattle.std.proofs.lemmas.List.{same_lists}
use Rattle.std.proofs.lemmas.Option.{get_or_from_slice_get, slice_get-get_or}
use Rattle.cq_theory.specs.Tables.{Tables}
use Rattle.cq_instance.specs.InstanceData.{InstanceData}
use Rattle.cq_instance.specs.Spelling.{null_term_of}
use Rattle.cq_instance.specs.declared.transform.Image.{Image}
use Rattle.cq_query.specs.QueryData.{QueryData}
use Rattle.cq_query.proofs.Once.{one_answers}
use Rattle.cq_adjoint.specs.AnswerNames.{from_eval_images}
use Rattle.cq_adjoint.specs.Copies.{AreAllAnswers, answers_at}
use Rattle.cq_adjoint.specs.QueryMoves.{eval_images, to_eval_images}
use Rattle.cq_adjoint.specs.Units.{identity_of}
use Rattle.cq_environment.specs.Meanings.{Ends}
use Rattle.cq_program.specs.Movements.{Movement, moved_along, there_and_back}
use Rattle.cq_program.specs.Posing.{Carried, carried}
use Rattle.cq_environment.specs.Routes.{Route, by_sigma, by_delta, by_eval, by_coeval}
use Rattle.cq_program.specs.MovedImages.{Answered, AreAround, AreImages, AreMoved}

-- the answers of a query to tables are one list
pub one_answered : (Q : QueryData) (M : Tables) (one other : Answered) → AreAllAnswers Q M one → AreAllAnswers Q M other → one ≡ other
one_answered Q M one other are are' =
    same_lists one other (are.count ∙ sym are'.count) (λ k d inside.
    let within : k < length Q.target.entities = omega (arith, are.count, inside) in
    let inside' : k < length other = omega (arith, are'.count, within) in
    let here : get_or one k d ≡ get_or one k [] = get_or_from_slice_get one k (get_or one k []) d (slice_get-get_or one k [] inside) in
    let there : get_or other k [] ≡ get_or other k d = sym (get_or_from_slice_get other k (get_or other k []) d (slice_get-get_or other k [] inside')) in
    here ∙ one_answers Q M k (answers_at one k) (answers_at other k) (are.each k within) (are'.each k within) ∙ there)

one_moved : (r : Route) (k : Carried) (images others : List Image) → AreMoved r k images → AreMoved r k others → images ≡ others
one_moved (by_sigma F) k images others are are' = are ∙ sym are'
one_moved (by_delta F) k images others are are' = are ∙ sym are'
one_moved (by_eval Q) k images others are are' =
    let from : are.0 ≡ are'.0 = one_answered Q k.source.tables are.0 are'.0 are.2 are'.2 in
    let to : are.1 ≡ are'.1 = one_answered Q k.target.tables are.1 are'.1 are.3 are'.3 in
    are.4 ∙ (λ i. eval_images Q k.moved k.source k.target k.start k.finish (from i) (to i)) ∙ sym are'.4
one_moved (by_coeval Q) k images others are are' = are ∙ sym are'

one_around : (r : Route) (start finish there : InstanceData) (images others : List Image) → AreAround r start finish there images → AreAround r start finish there others → images ≡ others
one_around (by_sigma F) start finish there images others are are' = are ∙ sym are'
one_around (by_delta F) start finish there images others are are' = are ∙ sym are'
one_around (by_eval Q) start finish there images others are are' =
    let answers : are.0 ≡ are'.0 = one_answered Q finish.tables are.0 are'.0 are.1 are'.1 in
    are.2 ∙ (λ i. from_eval_images Q (identity_of there) there finish there (answers i) (null_term_of finish)) ∙ sym are'.2
one_around (by_coeval Q) start finish there images others are are' =
    let answers : are.0 ≡ are'.0 = one_answered Q there.tables are.0 are'.0 are.1 are'.1 in
    are.2 ∙ (λ i. to_eval_images Q (identity_of there) start there there finish (answers i)) ∙ sym are'.2

pub one_images : (v : Movement) (e : Ends) (images others : List Image) → AreImages v e images → AreImages v e others → images ≡ others
one_images (moved_along r h) e images others are are' = one_moved r (carried h e) images others are are'
one_images (there_and_back r x) e images others are are' = one_around r e.start.instance e.finish.instance x images others are are'

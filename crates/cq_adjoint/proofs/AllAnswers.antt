-- Answers that are given for each entity stand in order, each once.
use Rattle.std.proofs.Common.{ℕ, List, [], Some, ◌≡◌, ◌<◌, ◌≤◌, map, length, sym, ap, subst, ◌∙◌, arith}
use Rattle.std.specs.Prelude.{slice_get, slice_index_or}
use Rattle.std.proofs.lemmas.List.{length-map}
use Rattle.std.proofs.lemmas.Option.{slice_get_within, get_or_from_slice_get}
use Rattle.cq_theory.specs.Tables.{Tables}
use Rattle.cq_instance.proofs.Lists.{get-map}
use Rattle.cq_query.specs.QueryData.{QueryData as Query}
use Rattle.cq_query.proofs.Once.{one_place, answers_once}
use Rattle.cq_adjoint.specs.Copies.{answers_at, StandOnce, DoRise, AreInOrder, AreAllAnswers}
use Rattle.cq_adjoint.proofs.Rising.{answers_rise}

stand_once : {X : Type 0} (Q : Query) (N : Tables) (f : X → List (List ℕ)) (answers : List X) → AreAllAnswers Q N (map f answers) → (n : ℕ) (x : X) → slice_get answers n ≡ Some x → StandOnce (f x)
stand_once Q N f answers all n x at p q rows left right =
    let within : n < length Q.target.entities = omega (arith, slice_get_within answers n x at, length-map answers f, all.count) in
    let is : answers_at (map f answers) n ≡ f x = get_or_from_slice_get (map f answers) n (f x) [] (get-map f answers n x at) in
    one_place (answers_at (map f answers) n) (answers_once Q N n (answers_at (map f answers) n) (all.each n within)) p q rows
    (ap (λ (l : List (List ℕ)). slice_get l p) is ∙ left) (ap (λ (l : List (List ℕ)). slice_get l q) is ∙ right)

pub in_order : {X : Type 0} (Q : Query) (N : Tables) (f : X → List (List ℕ)) (answers : List X) → AreAllAnswers Q N (map f answers) → (n : ℕ) (x : X) → slice_get answers n ≡ Some x → AreInOrder (f x)
in_order Q N f answers all n x at =
    let within : n < length Q.target.entities = omega (arith, slice_get_within answers n x at, length-map answers f, all.count) in
    let is : answers_at (map f answers) n ≡ f x = get_or_from_slice_get (map f answers) n (f x) [] (get-map f answers n x at) in
    (subst DoRise is (answers_rise Q N n (answers_at (map f answers) n) (all.each n within)), stand_once Q N f answers all n x at)

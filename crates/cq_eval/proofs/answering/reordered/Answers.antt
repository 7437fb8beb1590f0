use Rattle.std.proofs.Common.{ℕ, List, ◌≡◌, map, length, ap, subst, ◌∙◌}
use Rattle.std.specs.Prelude.{IsPermutation}
use Rattle.std.proofs.lemmas.List.{length-map}
use Rattle.cq_base.specs.declared.name.Name.{Name}
use Rattle.cq_theory.specs.Tables.{Tables, count_of}
use Rattle.cq_eval.specs.Order.{picked, renamed}
use Rattle.cq_eval.proofs.Reordered.{typed_as, sorted_as, few_as, refused_as}
use Rattle.cq_eval.proofs.answering.reordered.Goals as goal

pub searched-requires-clause-typed : goal.searched-requires-clause-typed
searched-requires-clause-typed c =
    let M : Tables = c.args.instance.now.tables in
    let f : Name × ℕ → ℕ = λ v. count_of M v.1 in
    let counts : List ℕ = map f c.args.block.now.vars in
    let read : c.as_slice-3.result.now ≡ counts = c.as_slice-3.ensures ∙ c.in_ok-counts.ensures ∙ ap (map f) c.as_slice.ensures in
    let counts_are : c.from_vec-moved.result ≡ picked c.args.order.now.order counts = c.from_vec-moved.ensures ∙ c.in_ok-picked.ensures ∙ (λ j. picked (c.as_slice-2.ensures j) (read j)) in
    let tests_are : c.as_slice-6.result.now ≡ map (renamed c.args.order.now.places) c.args.block.now.tests =
    c.as_slice-6.ensures.value ∙ c.in_ok-tests.ensures ∙ (λ j. map (renamed (c.as_slice-4.ensures j)) (c.as_slice-5.ensures j)) in
    typed_as (length c.args.block.now.vars) c.args.order.now.order c.args.order.now.places c.requires.order M c.args.block.now.tests counts (length-map c.args.block.now.vars f)
    c.as_slice-6.result.now c.from_vec-moved.result tests_are counts_are
    c.args.instance.now.schema c.requires.tested

pub returns-in-Ok-sorted_back-clause-answers : goal.returns-in-Ok-sorted_back-clause-answers
returns-in-Ok-sorted_back-clause-answers c =
    let M : Tables = c.args.instance.now.tables in
    let f : Name × ℕ → ℕ = λ v. count_of M v.1 in
    let counts : List ℕ = map f c.args.block.now.vars in
    let read : c.as_slice-3.result.now ≡ counts = c.as_slice-3.ensures ∙ c.in_ok-counts.ensures ∙ ap (map f) c.as_slice.ensures in
    let counts_are : c.from_vec-moved.result ≡ picked c.args.order.now.order counts = c.from_vec-moved.ensures ∙ c.in_ok-picked.ensures ∙ (λ j. picked (c.as_slice-2.ensures j) (read j)) in
    let tests_are : c.as_slice-6.result.now ≡ map (renamed c.args.order.now.places) c.args.block.now.tests =
    c.as_slice-6.ensures.value ∙ c.in_ok-tests.ensures ∙ (λ j. map (renamed (c.as_slice-4.ensures j)) (c.as_slice-5.ensures j)) in
    sorted_as (length c.args.block.now.vars) c.args.order.now.order c.args.order.now.places c.requires.order M c.args.block.now.tests counts (length-map c.args.block.now.vars f)
    c.as_slice-6.result.now c.from_vec-moved.result tests_are counts_are
    c.in-Ok.found.items c.in-Ok-sorted_back.sorted.items c.in-Ok.ensures.answers
    (subst (λ (p : List ℕ). IsPermutation (map (picked p) c.in-Ok.found.items) c.in-Ok-sorted_back.sorted.items) c.as_slice-in-Ok.ensures c.in-Ok-sorted_back.ensures.shuffled)
    c.in-Ok-sorted_back.ensures.rises

pub returns-in-Ok-sorted_back-clause-few : goal.returns-in-Ok-sorted_back-clause-few
returns-in-Ok-sorted_back-clause-few c =
    few_as c.args.order.now.places c.in-Ok.found.items c.in-Ok-sorted_back.sorted.items c.in-Ok.ensures.few
    (subst (λ (p : List ℕ). IsPermutation (map (picked p) c.in-Ok.found.items) c.in-Ok-sorted_back.sorted.items) c.as_slice-in-Ok.ensures c.in-Ok-sorted_back.ensures.shuffled)

pub returns-clause-refused : goal.returns-clause-refused
returns-clause-refused c =
    let M : Tables = c.args.instance.now.tables in
    let f : Name × ℕ → ℕ = λ v. count_of M v.1 in
    let counts : List ℕ = map f c.args.block.now.vars in
    let read : c.as_slice-3.result.now ≡ counts = c.as_slice-3.ensures ∙ c.in_ok-counts.ensures ∙ ap (map f) c.as_slice.ensures in
    let counts_are : c.from_vec-moved.result ≡ picked c.args.order.now.order counts = c.from_vec-moved.ensures ∙ c.in_ok-picked.ensures ∙ (λ j. picked (c.as_slice-2.ensures j) (read j)) in
    let tests_are : c.as_slice-6.result.now ≡ map (renamed c.args.order.now.places) c.args.block.now.tests =
    c.as_slice-6.ensures.value ∙ c.in_ok-tests.ensures ∙ (λ j. map (renamed (c.as_slice-4.ensures j)) (c.as_slice-5.ensures j)) in
    refused_as (length c.args.block.now.vars) c.args.order.now.order c.args.order.now.places c.requires.order M c.args.block.now.tests counts (length-map c.args.block.now.vars f)
    c.as_slice-6.result.now c.from_vec-moved.result tests_are counts_are
    c.args.entity c.in-Err.refusal c.in-Err.ensures.refused

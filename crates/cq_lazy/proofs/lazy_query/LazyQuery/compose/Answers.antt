use Rattle.std.proofs.Common.{true, false, nat_lt, ◌≡◌, sym, ap, subst, ◌∙◌}
use Rattle.std.specs.List.{list_any}
use Rattle.cq_query.specs.QueryData.{QueryData as Query}
use Rattle.cq_query.specs.IsQuery.{IsQuery}
use Rattle.cq_query.specs.Duties.{Sound}
use Rattle.cq_compose.specs.Composite.{composite}
use Rattle.cq_compose.proofs.MadeBlocks.{if_ok}
use Rattle.cq_compose.proofs.SoundComposites.{composite_sound}
use Rattle.cq_lazy.specs.Plan.{query_of}
use Rattle.cq_lazy.specs.Widths.{weighed, widths_of}
use Rattle.cq_lazy.proofs.Counts.{many_large, widths_composed}
use Rattle.cq_lazy.proofs.Short.{none_large}
use Rattle.cq_lazy.proofs.lazy_query.LazyQuery.compose.Goals as goal

pub returns-then-has_many-clause-refused : goal.returns-then-has_many-clause-refused
returns-then-has_many-clause-refused c =
    let Q : Query = c.args.first.now in
    let W : Query = c.args.second.now in
    let second : query_of c.deref.result.now ≡ W = ap query_of c.deref.ensures ∙ c.second.view_is in
    let weights : c.as_slice.result.now ≡ widths_of Q = c.as_slice.ensures ∙ c.first.invariant.counted ∙ ap widths_of c.first.view_is in
    let widths : c.in_ok-widths.widths.items ≡ widths_of (composite Q W) = c.in_ok-widths.ensures ∙ (λ i. weighed (second i) (weights i)) ∙ widths_composed Q W in
    many_large (composite Q W) (ap (list_any (nat_lt 16000000)) (sym (c.as_slice-2.ensures.value ∙ widths)) ∙ sym c.has_many.ensures ∙ c.if-has_many.true)

pub keep-requires-clause-small : goal.keep-requires-clause-small
keep-requires-clause-small c =
    let Q : Query = c.args.first.now in
    let W : Query = c.args.second.now in
    let second : query_of c.deref.result.now ≡ W = ap query_of c.deref.ensures ∙ c.second.view_is in
    let weights : c.as_slice.result.now ≡ widths_of Q = c.as_slice.ensures ∙ c.first.invariant.counted ∙ ap widths_of c.first.view_is in
    let widths : c.in_ok-widths.widths.items ≡ widths_of (composite Q W) = c.in_ok-widths.ensures ∙ (λ i. weighed (second i) (weights i)) ∙ widths_composed Q W in
    none_large (composite Q W) c.in-Some.lengths c.in-Some.ensures.0 c.in-Some.ensures.1
    (ap (list_any (nat_lt 16000000)) (sym (c.as_slice-2.ensures.value ∙ widths)) ∙ sym c.has_many.ensures ∙ c.if-has_many.false)

pub keep-requires-clause-widths : goal.keep-requires-clause-widths
keep-requires-clause-widths c =
    let Q : Query = c.args.first.now in
    let W : Query = c.args.second.now in
    let second : query_of c.deref.result.now ≡ W = ap query_of c.deref.ensures ∙ c.second.view_is in
    let weights : c.as_slice.result.now ≡ widths_of Q = c.as_slice.ensures ∙ c.first.invariant.counted ∙ ap widths_of c.first.view_is in
    let widths : c.in_ok-widths.widths.items ≡ widths_of (composite Q W) = c.in_ok-widths.ensures ∙ (λ i. weighed (second i) (weights i)) ∙ widths_composed Q W in
    widths

pub returns-in_ok-keep-in-Some-clause-fits : goal.returns-in_ok-keep-in-Some-clause-fits
returns-in_ok-keep-in-Some-clause-fits c =
    let Q : Query = c.args.first.now in
    let W : Query = c.args.second.now in
    let second : query_of c.deref.result.now ≡ W = ap query_of c.deref.ensures ∙ c.second.view_is in
    let weights : c.as_slice.result.now ≡ widths_of Q = c.as_slice.ensures ∙ c.first.invariant.counted ∙ ap widths_of c.first.view_is in
    let widths : c.in_ok-widths.widths.items ≡ widths_of (composite Q W) = c.in_ok-widths.ensures ∙ (λ i. weighed (second i) (weights i)) ∙ widths_composed Q W in
    none_large (composite Q W) c.in-Some.lengths c.in-Some.ensures.0 c.in-Some.ensures.1
    (ap (list_any (nat_lt 16000000)) (sym (c.as_slice-2.ensures.value ∙ widths)) ∙ sym c.has_many.ensures ∙ c.if-has_many.false)

pub returns-in_ok-keep-in-Some-clause-sound : goal.returns-in_ok-keep-in-Some-clause-sound
returns-in_ok-keep-in-Some-clause-sound c =
    let Q : Query = c.args.first.now in
    let W : Query = c.args.second.now in
    λ first second. subst Sound (sym c.in_ok-keep-in-Some.ensures) (composite_sound Q W (subst IsQuery c.first.view_is c.first.invariant.sorted) (subst IsQuery c.second.view_is c.second.invariant.sorted) (sym c.requires) first second)

pub returns-in-None-clause-sound : goal.returns-in-None-clause-sound
returns-in-None-clause-sound c =
    let Q : Query = c.args.first.now in
    let W : Query = c.args.second.now in
    if_ok c.compose_made.result (λ lazy. lazy ≡ composite Q W) (λ lazy. Sound Q → Sound W → Sound lazy)
    (λ lazy is first second. subst Sound (sym is) (composite_sound Q W (subst IsQuery c.first.view_is c.first.invariant.sorted) (subst IsQuery c.second.view_is c.second.invariant.sorted) (sym c.requires) first second)) c.compose_made.ensures.composite

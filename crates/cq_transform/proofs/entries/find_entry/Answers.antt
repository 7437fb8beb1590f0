use Rattle.std.proofs.Common.{false, None, ◌≡◌, ◌<◌, length, map, refl, sym, subst, ◌∙◌}
use Rattle.std.specs.List.{list_any}
use Rattle.std.proofs.lemmas.Option.{slice_get_within}
use Rattle.cq_transform.specs.Nulls.{Found, is_open, plain_image}
use Rattle.cq_transform.proofs.Spelled.{put_keeps, put_fewer, put_entry}
use Rattle.cq_transform.proofs.Steps.{known_not}
use Rattle.cq_transform.proofs.entries.find_entry.Goals as goal

pub returns-then-has_open-clause-closed : goal.returns-then-has_open-clause-closed
returns-then-has_open-clause-closed c = λ e. (
  refl,
  λ known label within is.
      absurd (known_not c.has_open.result (list_any (is_open c.args.found.now.items) c.args.entry.now.args) c.if-has_open.true
      (c.has_open.ensures ∙ (λ k. list_any (is_open (c.as_slice-2.ensures.value k)) (c.as_slice-args.ensures k))) known),
)

pub put-requires : goal.put-requires
put-requires c =
    subst (λ (found : Found). c.in-Some.label < length found) c.as_slice.ensures.value (slice_get_within c.as_slice.result.now c.in-Some.label None c.in-Some.ensures.open.1)

pub returns-clause-keeps : goal.returns-clause-keeps
returns-clause-keeps c =
    put_keeps c.args.found.now.items c.as_slice.result.now c.put.new.found.items c.args.entry.now.value c.in_ok-applied.field-0 c.in-Some.label
    c.as_slice.ensures.value c.in-Some.ensures.open c.put.ensures

pub returns-clause-spelled : goal.returns-clause-spelled
returns-clause-spelled c =
    let known : list_any (is_open c.args.found.now.items) c.args.entry.now.args ≡ false =
    sym (c.has_open.ensures ∙ (λ k. list_any (is_open (c.as_slice-2.ensures.value k)) (c.as_slice-args.ensures k))) ∙ c.if-has_open.false in
    let images : c.in_ok-images.images.items ≡ map (plain_image c.args.found.now.items) c.args.entry.now.args =
    c.in_ok-images.ensures ∙ (λ k. map (plain_image (c.as_slice-3.ensures.value k)) (c.as_slice-args.ensures k)) in
    λ i B initial stands all.
    put_entry c.args.found.now.items c.as_slice.result.now c.put.new.found.items c.args.entry.now.value c.in_ok-applied.field-0 c.in-Some.label
    c.as_slice.ensures.value c.in-Some.ensures.open c.put.ensures i c.args.target.now B c.args.target.now.tables.algebra.entries c.args.entry.now c.in_ok-images.images.items refl images
    c.in_ok-applied.ensures known initial stands refl all

pub returns-clause-more : goal.returns-clause-more
returns-clause-more c = λ e.
    put_fewer c.args.found.now.items c.as_slice.result.now c.put.new.found.items c.args.entry.now.value c.in_ok-applied.field-0 c.in-Some.label
    c.as_slice.ensures.value c.in-Some.ensures.open c.put.ensures

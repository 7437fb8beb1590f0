use Rattle.std.proofs.Common.{◌≡◌, length, map, sym, ap, subst, ◌∙◌}
use Rattle.cq_theory.specs.Tables.{Assignment}
use Rattle.cq_theory.specs.declared.value.Algebra.{Algebra}
use Rattle.cq_instance.specs.InstanceData.{InstanceData}
use Rattle.cq_instance.specs.Standing.{meaning}
use Rattle.cq_transform.specs.Nulls.{Found, AreEntriesClosed, value_or_first}
use Rattle.cq_transform.proofs.Everywhere.{nulls_found}
use Rattle.cq_transform.proofs.Spelled.{keeps-then}
use Rattle.cq_transform.proofs.Steps.{nothing_count, nothing_spelled, generators_kept, attributes_kept}
use Rattle.cq_transform.proofs.nulls.nulls.Goals as goal

pub returns : goal.returns
returns c = λ initial.
    let i : InstanceData = c.args.source.now in
    let j : InstanceData = c.args.target.now in
    let B : Assignment = map meaning c.args.standings.now in
    let none : Found = c.in_ok-found.found.items in
    let first : Found = c.find_generators.new.found.items in
    let second : Found = c.find_cells.new.found.items in
    let third : Found = c.find_entries.new.found.items in
    let to_first = c.in_ok-find_generators.ensures.keeps in
    let to_second = c.in_ok-find_cells.ensures.keeps in
    let to_third = c.in_ok-find_entries.ensures.keeps in
    let size : c.len.result ≡ length i.tables.algebra.nulls = c.len.ensures ∙ ap (λ (a : Algebra). length a.nulls) c.algebra.ensures.algebra in
    let count : length third ≡ length i.tables.algebra.nulls =
    to_third.count ∙ to_second.count ∙ to_first.count ∙ nothing_count c.len.result none c.in_ok-found.ensures ∙ size in
    let here : i.tables.algebra.entries ≡ c.as_slice-here.result.now = sym (c.as_slice-here.ensures ∙ ap (λ (a : Algebra). a.entries) c.algebra-2.ensures.algebra) in
    let spelled = c.in_ok-find_generators.ensures.spelled j (nothing_spelled i j B none c.len.result c.in_ok-found.ensures) in
    let spelled' = c.in_ok-find_cells.ensures.spelled B initial c.requires spelled in
    let spelled'' = c.in_ok-find_entries.ensures.spelled i B initial here spelled' in
    nulls_found i j B initial third count
    (generators_kept i first third (length i.presentation.generators) (keeps-then first second third to_second to_third) c.in_ok-find_generators.ensures.closed)
    (attributes_kept i second third (length i.schema.attributes) to_third c.in_ok-find_cells.ensures.closed)
    (subst (AreEntriesClosed third) (sym here) c.in_ok-find_entries.ensures.closed)
    spelled'' c.in_ok-values.values.items (c.in_ok-values.ensures ∙ ap (map value_or_first) c.as_slice.ensures.value)

use Rattle.std.proofs.Common.{◌+◌, ◌<◌, ◌≡◌, ◌++◌, ◌∙◌, ap, sym, subst, length, arith}
use Rattle.std.specs.Prelude.{Vec}
use Rattle.std.specs.List.{flat_map}
use Rattle.std.specs.declared.alloc.Global.{Global}
use Rattle.cq_theory.specs.SchemaData.{SchemaData}
use Rattle.cq_theory.specs.Canonical.{below}
use Rattle.cq_import.specs.declared.columns.Column.{Column}
use Rattle.cq_import.specs.Columns.{header_with}
use Rattle.cq_cells.specs.Index.{IsIndexed}
use Rattle.cq_cells.specs.Readings.{file_found, reading_found, text_in}
use Rattle.cq_cells.proofs.Filing.{all_indexed, files_more, none_indexed, one_indexed}
use Rattle.cq_cells.proofs.Listing.{lists_none, lists_same, lists_then, lists_was_empty}
use Rattle.cq_cells.proofs.Sheeting.{reading_is}
use Rattle.cq_cells.proofs.folder.check_files.Goals as goal

pub loop-entity-init : goal.loop-entity-init
loop-entity-init c = (lists_none _, λ none. none_indexed _ _ c.new-made.ensures.items)

pub loop-entity-preserved : goal.loop-entity-preserved
loop-entity-preserved c =
    let S = c.args.schema.now in
    let R = c.args.readings.now in
    let e = c.loop-entity.entity in
    let size = ap (λ (s : SchemaData). length s.entities) c.schema.view_is in
    let inside : e < length S.entities = omega (arith, c.loop-entity-test.true, c.len-entity-end.ensures, size) in
    let within : e < length R = omega (arith, c.requires.readings) in
    let columned = c.as_slice-list.ensures.value ∙ ap (λ (v : Vec Column Global). v.items) c.index-columns-entity.is ∙ c.requires.columns.group e c.index-columns-entity.result inside in
    let read = sym (reading_is R e c.index-readings-entity.result within c.index-readings-entity.is) in
    let found = c.in_ok-indexed.ensures.found in (
      lists_same _ _ _ (λ name. flat_map (file_found name S R) (below (e + 1)))
          (λ name. ap (λ l. flat_map (file_found name S R) (below e) ++ l) (λ i. reading_found (name e) (header_with S (columned i)) (read i)) ∙ files_more (file_found name S R) e)
          (lists_then _ _ _ _ _ c.loop-entity.invariant.0 found),
      λ none.
          let before = c.loop-entity.invariant.1 (lists_was_empty _ _ _ found none) in
          one_indexed _ _ _ _ c.in_ok-indexed.indexed before c.in_ok-push_indexed.ensures
          (subst (λ r. IsIndexed (text_in r) c.in_ok-indexed.indexed) read (c.in_ok-indexed.ensures.indexed none)),
    )

pub returns-clause-indexed : goal.returns-clause-indexed
returns-clause-indexed c = λ none.
    let size = ap (λ (s : SchemaData). length s.entities) c.schema.view_is in
    let all : c.loop-entity.entity ≡ length c.args.readings.now = omega (arith, c.loop-entity-test.false, c.loop-entity.auto.entity-end, c.len-entity-end.ensures, size, c.requires.readings) in
    all_indexed _ _ _ (c.loop-entity.invariant.1 none) all

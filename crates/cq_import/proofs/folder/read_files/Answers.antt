use Rattle.std.proofs.Common.{ℕ, [], ◌∷◌, ◌++◌, ◌+◌, ◌<◌, ◌≡◌, ◌∙◌, inl, inr, length, sym, ap, subst, arith, refl}
use Rattle.std.proofs.lemmas.List.{length_push}
use Rattle.std.specs.Prelude.{Vec}
use Rattle.std.specs.declared.alloc.Global.{Global}
use Rattle.cq_theory.specs.SchemaData.{SchemaData}
use Rattle.cq_import.specs.declared.columns.Column.{Column}
use Rattle.cq_import.specs.Folders.{AreRead, IsRead, IsRefused}
use Rattle.cq_import.proofs.FolderReads.{AreRead-more, AreRead-none, keeps_itself, keeps_then, raises_after}
use Rattle.cq_import.proofs.folder.read_files.Goals as goal

pub loop-entity-init : goal.loop-entity-init
loop-entity-init g c = (
  keeps_itself _,
  ap length c.new-made.ensures.items,
  AreRead-none _ _ _ _ c.new-made.ensures.items,
)

pub read_entity_file-requires : goal.read_entity_file-requires
read_entity_file-requires g c =
    let size = ap (λ (s : SchemaData). length s.entities) c.schema.view_is in
    let inside : c.loop-entity.entity < length c.args.schema.now.entities = omega (arith, c.loop-entity-test.true, c.len-entity-end.ensures, size) in
    record {
      entity = inside;
      columns =
          c.as_slice-list.ensures.value ∙ ap (λ (v : Vec Column Global). v.items) c.index-columns-entity.is
          ∙ c.requires.group c.loop-entity.entity c.index-columns-entity.result inside;
    }

pub returns-in-Err-clause-keeps : goal.returns-in-Err-clause-keeps
returns-in-Err-clause-keeps g c = keeps_then _ _ _ c.loop-entity.invariant.0 c.in-Err.ensures.keeps

pub returns-in-Err-clause-raises : goal.returns-in-Err-clause-raises
returns-in-Err-clause-raises g c = raises_after _ _ _ c.in-Err.refusal c.loop-entity.invariant.0 c.in-Err.ensures.raises

pub returns-in-Err-clause-refused : goal.returns-in-Err-clause-refused
returns-in-Err-clause-refused g c =
    let size = ap (λ (s : SchemaData). length s.entities) c.schema.view_is in
    let here : length c.loop-entity.made.items < length c.args.schema.now.entities = omega (arith, c.loop-entity-test.true, c.len-entity-end.ensures, size, c.loop-entity.invariant.1) in
    let refused = subst (λ files. IsRefused c.args.dir.now c.args.schema.now files c.loop-entity.entity c.in-Err.refusal) c.loop-entity.invariant.0.files c.in-Err.ensures.refused in
    inr (record {
      made = c.loop-entity.made.items;
      within = here;
      read = c.loop-entity.invariant.2;
      refused = subst (λ n. IsRefused c.args.dir.now c.args.schema.now (g.F.Folder.state c.args.folder.now).files n c.in-Err.refusal) (sym c.loop-entity.invariant.1) refused;
    })

pub loop-entity-preserved : goal.loop-entity-preserved
loop-entity-preserved g c =
    let files = (g.F.Folder.state c.args.folder.now).files in
    let read = subst (λ f. IsRead c.args.dir.now c.args.schema.now f c.loop-entity.entity c.in-Ok.file) c.loop-entity.invariant.0.files c.in-Ok.ensures.read in
    let here = subst (λ n. IsRead c.args.dir.now c.args.schema.now files n c.in-Ok.file) (sym c.loop-entity.invariant.1) read in (
      keeps_then _ _ _ c.loop-entity.invariant.0 c.in-Ok.ensures.keeps,
      omega (arith, c.loop-entity.invariant.1, ap length c.in_ok-push_file-in-Ok.ensures, length_push c.loop-entity.made.items c.in-Ok.file),
      AreRead-more c.args.dir.now c.args.schema.now files c.loop-entity.made.items c.push_file.new.made.items c.in-Ok.file c.loop-entity.invariant.2 here c.in_ok-push_file-in-Ok.ensures,
    )

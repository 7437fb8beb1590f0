use Rattle.std.proofs.Common.{◌≡◌, ◌∙◌, List, map, ap, refl}
use Rattle.cq_export.specs.Held.{files_held}
use Rattle.cq_program.specs.Named.{listed_as}
use Rattle.cq_program.specs.declared.declarations.Named.{Named}
use Rattle.cq_run.specs.Files.{files_of}
use Rattle.cq_run.specs.Summary.{shown_in}
use Rattle.cq_run.specs.Writing.{no_room}
use Rattle.cq_run.proofs.top.export_all.Goals as goal

pub returns-in-Ok : goal.returns-in-Ok
returns-in-Ok g c =
    let files : files_held c.in-Ok.output.files ≡ files_of (map listed_as c.args.instances.items) =
    c.in-Ok.ensures.files ∙ ap (λ (l : List Named). files_of (map listed_as l)) c.as_slice.ensures.value in
    let shown : c.in-Ok.output.shown.items ≡ shown_in c.args.view (map listed_as c.args.instances.items) =
    c.in-Ok.ensures.shown ∙ ap (λ (l : List Named). shown_in c.args.view (map listed_as l)) c.as_slice.ensures.value in
    rw (← files, ← shown) c.export.ensures

pub returns-in-Err : goal.returns-in-Err
returns-in-Err g c = no_room refl refl

use Rattle.std.proofs.Common.{ℕ, List, ◌≡◌, ◌≤◌, ◌+◌, ◌*◌, length, ap, ◌∙◌, arith}
use Rattle.std.specs.Prelude.{slice_index}
use Rattle.cq_instance.specs.InstanceData.{InstanceData}
use Rattle.cq_query.specs.QueryData.{QueryData as Query}
use Rattle.cq_query.specs.Coeval.{start_of}
use Rattle.cq_query.specs.Translation.{variables_at}
use Rattle.cq_adjoint.proofs.CoevalTerms.{known, start_is, copies_fit}
use Rattle.cq_adjoint.proofs.crossing.first_copy.Goals as goal

pub copy_at-requires : goal.copy_at-requires
copy_at-requires c =
    let Q : Query = c.args.crossing.now.query.now in
    let i : InstanceData = c.args.crossing.now.source.now in
    let a : InstanceData = c.args.crossing.now.copies.now in
    let fits = copies_fit Q c.is_well_sorted.ensures i a c.requires.crossing.across.coeval c.is_instance.ensures c.is_instance-2.ensures c.args.entity c.args.row c.requires.row in
    let start : slice_index c.args.crossing.now.starts.now c.args.entity ≡ start_of Q i.tables.sheet.counts c.args.entity =
    ap (λ (l : List ℕ). slice_index l c.args.entity) c.requires.crossing.starts
    ∙ start_is Q c.is_well_sorted.ensures i a c.requires.crossing.across.coeval c.is_instance.ensures c.args.entity
    (known Q c.is_well_sorted.ensures i a c.requires.crossing.across.coeval c.is_instance.ensures c.args.entity c.args.row c.requires.row) in
    record { few = omega (arith, fits, start) }

pub returns : goal.returns
returns c =
    let Q : Query = c.args.crossing.now.query.now in
    let i : InstanceData = c.args.crossing.now.source.now in
    let a : InstanceData = c.args.crossing.now.copies.now in
    let fits = copies_fit Q c.is_well_sorted.ensures i a c.requires.crossing.across.coeval c.is_instance.ensures c.is_instance-2.ensures c.args.entity c.args.row c.requires.row in
    let start : slice_index c.args.crossing.now.starts.now c.args.entity ≡ start_of Q i.tables.sheet.counts c.args.entity =
    ap (λ (l : List ℕ). slice_index l c.args.entity) c.requires.crossing.starts
    ∙ start_is Q c.is_well_sorted.ensures i a c.requires.crossing.across.coeval c.is_instance.ensures c.args.entity
    (known Q c.is_well_sorted.ensures i a c.requires.crossing.across.coeval c.is_instance.ensures c.args.entity c.args.row c.requires.row) in
    record { first = c.copy_at.ensures ∙ ap (λ (n : ℕ). n + c.args.row * length (variables_at Q c.args.entity)) start; few = omega (arith, fits, c.copy_at.ensures, start) }

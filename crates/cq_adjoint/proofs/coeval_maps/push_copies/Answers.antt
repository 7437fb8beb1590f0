use Rattle.std.proofs.Common.{ℕ, List, ◌≡◌, ◌<◌, ◌≤◌, ◌+◌, ◌*◌, ◌++◌, ◌∷◌, [], length, sym, ap, subst, ◌∙◌, arith}
use Rattle.std.specs.Prelude.{slice_index, slice_index_or}
use Rattle.cq_theory.specs.EntTerm.{alone}
use Rattle.cq_theory.specs.Homomorphism.{row_image}
use Rattle.cq_theory.specs.Tables.{count_of}
use Rattle.cq_instance.specs.InstanceData.{InstanceData}
use Rattle.cq_instance.specs.declared.transform.Image.TheVariants.{Row}
use Rattle.cq_instance.specs.declared.transform.Transform.{Transform}
use Rattle.cq_query.specs.QueryData.{QueryData as Query}
use Rattle.cq_query.specs.Coeval.{start_of}
use Rattle.cq_query.specs.Translation.{variables_at}
use Rattle.cq_adjoint.specs.QueryMoves.{copy_sent}
use Rattle.cq_adjoint.proofs.CoevalMaps.{goes_inside}
use Rattle.cq_adjoint.proofs.CoevalTerms.{known, start_is, copies_fit}
use Rattle.cq_adjoint.proofs.Appended.{mapped_below}
use Rattle.cq_adjoint.proofs.coeval_maps.push_copies.Goals as goal

pub copy_at-first-requires : goal.copy_at-first-requires
copy_at-first-requires c =
    let m = c.args.copying.now in
    let Q : Query = m.query.now in
    let h : Transform = m.moved.now in
    let i : InstanceData = m.source.now in
    let j : InstanceData = m.target.now in
    let e : ℕ = c.args.entity in
    let to : c.row_at-row_there.result ≡ row_image i.schema i.tables j.tables h.rows h.nulls e c.args.row =
    c.row_at-row_there.ensures ∙ ap (λ (l : List (List ℕ)). slice_index (slice_index_or l e []) c.args.row) c.as_slice.ensures in
    let inside : c.row_at-row_there.result < count_of j.tables e = subst (λ (r : ℕ). r < count_of j.tables e) (sym to)
    (goes_inside Q c.is_well_sorted.ensures h i j m.copies.now m.there.now c.requires.copying.copied c.requires.copying.copied_there c.requires.copying.goes c.is_instance.ensures c.is_instance-2.ensures c.is_instance-3.ensures e c.args.row c.requires.row) in
    let fits = copies_fit Q c.is_well_sorted.ensures j m.there.now c.requires.copying.copied_there c.is_instance-2.ensures c.is_instance-3.ensures e c.row_at-row_there.result inside in
    let start : slice_index m.starts.now e ≡ start_of Q j.tables.sheet.counts e =
    ap (λ (l : List ℕ). slice_index l e) c.requires.copying.starts
    ∙ start_is Q c.is_well_sorted.ensures j m.there.now c.requires.copying.copied_there c.is_instance-2.ensures e
    (known Q c.is_well_sorted.ensures j m.there.now c.requires.copying.copied_there c.is_instance-2.ensures e c.row_at-row_there.result inside) in
    record { few = omega (arith, fits, start) }

pub loop-variable-preserved : goal.loop-variable-preserved
loop-variable-preserved c =
    let m = c.args.copying.now in
    let Q : Query = m.query.now in
    let h : Transform = m.moved.now in
    let i : InstanceData = m.source.now in
    let j : InstanceData = m.target.now in
    let e : ℕ = c.args.entity in
    let width : ℕ = length (variables_at Q e) in
    let to : c.row_at-row_there.result ≡ row_image i.schema i.tables j.tables h.rows h.nulls e c.args.row =
    c.row_at-row_there.ensures ∙ ap (λ (l : List (List ℕ)). slice_index (slice_index_or l e []) c.args.row) c.as_slice.ensures in
    let inside : c.row_at-row_there.result < count_of j.tables e = subst (λ (r : ℕ). r < count_of j.tables e) (sym to)
    (goes_inside Q c.is_well_sorted.ensures h i j m.copies.now m.there.now c.requires.copying.copied c.requires.copying.copied_there c.requires.copying.goes c.is_instance.ensures c.is_instance-2.ensures c.is_instance-3.ensures e c.args.row c.requires.row) in
    let start : slice_index m.starts.now e ≡ start_of Q j.tables.sheet.counts e =
    ap (λ (l : List ℕ). slice_index l e) c.requires.copying.starts
    ∙ start_is Q c.is_well_sorted.ensures j m.there.now c.requires.copying.copied_there c.is_instance-2.ensures e
    (known Q c.is_well_sorted.ensures j m.there.now c.requires.copying.copied_there c.is_instance-2.ensures e c.row_at-row_there.result inside) in
    let first : c.copy_at-first.result ≡ start_of Q j.tables.sheet.counts e + row_image i.schema i.tables j.tables h.rows h.nulls e c.args.row * width =
    c.copy_at-first.ensures ∙ (λ k. start k + to k * width) in
    let f : ℕ → _ = copy_sent Q h i j e c.args.row in
    mapped_below f c.args.made.now.items c.loop-variable.made.items _ c.loop-variable.variable c.loop-variable.invariant
    (c.in_ok-push.ensures.items ∙ ap (λ t. c.loop-variable.made.items ++ Row t ∷ []) (c.alone.ensures ∙ ap (λ (n : ℕ). alone (n + c.loop-variable.variable)) first))

pub overflow_add-first : goal.overflow_add-first
overflow_add-first c =
    let m = c.args.copying.now in
    let Q : Query = m.query.now in
    let h : Transform = m.moved.now in
    let i : InstanceData = m.source.now in
    let j : InstanceData = m.target.now in
    let e : ℕ = c.args.entity in
    let to : c.row_at-row_there.result ≡ row_image i.schema i.tables j.tables h.rows h.nulls e c.args.row =
    c.row_at-row_there.ensures ∙ ap (λ (l : List (List ℕ)). slice_index (slice_index_or l e []) c.args.row) c.as_slice.ensures in
    let inside : c.row_at-row_there.result < count_of j.tables e = subst (λ (r : ℕ). r < count_of j.tables e) (sym to)
    (goes_inside Q c.is_well_sorted.ensures h i j m.copies.now m.there.now c.requires.copying.copied c.requires.copying.copied_there c.requires.copying.goes c.is_instance.ensures c.is_instance-2.ensures c.is_instance-3.ensures e c.args.row c.requires.row) in
    let fits = copies_fit Q c.is_well_sorted.ensures j m.there.now c.requires.copying.copied_there c.is_instance-2.ensures c.is_instance-3.ensures e c.row_at-row_there.result inside in
    let start : slice_index m.starts.now e ≡ start_of Q j.tables.sheet.counts e =
    ap (λ (l : List ℕ). slice_index l e) c.requires.copying.starts
    ∙ start_is Q c.is_well_sorted.ensures j m.there.now c.requires.copying.copied_there c.is_instance-2.ensures e
    (known Q c.is_well_sorted.ensures j m.there.now c.requires.copying.copied_there c.is_instance-2.ensures e c.row_at-row_there.result inside) in
    omega (arith, fits, start, c.copy_at-first.ensures, c.loop-variable-test.true, c.width-variable-end.ensures)

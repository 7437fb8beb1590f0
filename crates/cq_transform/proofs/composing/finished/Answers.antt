use Rattle.std.proofs.Common.{ℕ, List, [], ◌≡◌, map, ◌∙◌}
use Rattle.std.specs.Prelude.{slice_index, slice_index_or}
use Rattle.std.specs.List.{enumerate_from}
use Rattle.cq_instance.specs.InstanceData.{InstanceData}
use Rattle.cq_instance.specs.declared.transform.Transform.{Transform}
use Rattle.cq_transform.specs.Composing.{composed_images, composed_rows, composed_nulls}
use Rattle.cq_transform.specs.Sent.{value_sent}
use Rattle.cq_transform.proofs.Placed.{all_sent}
use Rattle.cq_transform.proofs.composing.finished.Goals as goal

pub returns : goal.returns
returns c = λ j images.
    let f : Transform = c.args.first.now in
    let g : Transform = c.args.second.now in
    let last : InstanceData = c.args.last.now in
    let first : c.from_vec.result ≡ composed_images f.images g.images = c.from_vec.ensures ∙ images in
    let rows : c.from_vec-2.result ≡ composed_rows j last f g =
    c.from_vec-2.ensures ∙ c.in_ok-rows.ensures
    ∙ (λ k. map (λ (e : ℕ × List ℕ). map (slice_index (slice_index_or (c.as_slice-2.ensures k) e.0 [])) e.1) (enumerate_from 0 (c.as_slice.ensures k))) in
    let nulls : c.from_vec-3.result ≡ composed_nulls j last f g =
    c.from_vec-3.ensures ∙ c.in_ok-nulls.ensures ∙ (λ k. map (value_sent last.tables.algebra.entries g.nulls) (c.as_slice-3.ensures k))
    ∙ all_sent j.schema j.tables last.tables g.rows g.nulls f.nulls in
    λ k. record { images = first k; rows = rows k; nulls = nulls k }

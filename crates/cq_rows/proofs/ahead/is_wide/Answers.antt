use Rattle.std.proofs.Common.{ℕ, ◌≡◌, ◌∙◌, Bool, List, map, length, subst, sym, ap, arith}
use Rattle.std.specs.Prelude.{slice_index_or}
use Rattle.std.proofs.lemmas.List.{length-map}
use Rattle.cq_theory.specs.SchemaData.{SchemaData}
use Rattle.cq_rows.specs.Origin.{theory_at}
use Rattle.cq_rows.specs.Plain.{ends_of}
use Rattle.cq_rows.specs.Unread.{AreCounts}
use Rattle.cq_rows.proofs.FreeWords.{wide_from_paths}
use Rattle.cq_rows.proofs.WellSorted.{ends_in}
use Rattle.cq_rows.proofs.ahead.is_wide.Goals as goal

pub count_paths-requires : goal.count_paths-requires
count_paths-requires c =
    let schema = c.args.origin.now.schema.now in
    let keys : c.deref-2.result.now ≡ map ends_of schema.keys = c.deref-2.ensures.value ∙ c.requires.frame.keys in
    let entities : c.len.result ≡ length schema.entities = c.len.ensures ∙ ap (λ (S : SchemaData). length S.entities) c.schema.view_is in
    record {
      free = ap length c.deref.ensures.value ∙ c.in_ok-free.ensures.len ∙ sym (ap length keys ∙ length-map schema.keys ends_of);
      range = rw (keys, entities) (ends_in schema c.requires.schema);
    }

pub returns : goal.returns
returns c = λ wide.
    let schema = c.args.origin.now.schema.now in
    let depth = c.args.depth in
    let counts = c.in_ok-counts.counts.items in
    let keys : c.deref-2.result.now ≡ map ends_of schema.keys = c.deref-2.ensures.value ∙ c.requires.frame.keys in
    let many = c.some_many.ensures wide in
    let by_keys = subst (λ (ks : List (ℕ × ℕ)). AreCounts ks c.deref.result.now depth counts) keys c.in_ok-counts.ensures in
    let by_free = subst (λ (f : List Bool). AreCounts (map ends_of schema.keys) f depth counts) c.deref.ensures.value by_keys in
    let counted = subst (λ (l : List ℕ). AreCounts (map ends_of schema.keys) c.in_ok-free.free.items depth l) (sym c.deref-3.ensures.value) by_free in (
      depth,
      omega arith,
      wide_from_paths (theory_at c.args.origin.now) c.in_ok-free.free.items c.in_ok-free.ensures.unread many.generator many.entity depth
          (slice_index_or c.deref-3.result.now many.entity 0) many.found (counted many.entity) c.args.most many.many,
    )

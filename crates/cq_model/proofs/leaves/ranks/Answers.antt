use Rattle.std.proofs.Common.{ℕ, List, [], ◌∷◌, ◌++◌, ◌≡◌, ◌<◌, ◌+◌, ◌∙◌, replicate, slice_index, slice_set, refl, sym, ap, arith, rules}
use Rattle.std.proofs.lemmas.List.{length-replicate, get_or-replicate}
use Rattle.std.proofs.lemmas.List.FromFn.{map-range_with_len_more}
use Rattle.std.proofs.lemmas.Option.{slice_get-get_or}
use Rattle.cq_names.specs.Ranks.{rank}
use Rattle.cq_model.proofs.Counting.{firsts_none, firsts_more, first_read}
use Rattle.cq_names.proofs.Ranks.{rank_within, members-length}
use Rattle.cq_model.proofs.leaves.ranks.Goals as goal

pub loop-source-init : goal.loop-source-init
loop-source-init c =
    let zeros : c.in_ok-counts.counts.items ≡ replicate c.args.entities 0 = search rules in
    record {
      counts_are = zeros ∙ firsts_none (replicate c.args.entities 0) c.args.sources.now c.args.entities (length-replicate c.args.entities 0);
      ranks_are = c.new-ranks.ensures.items;
    }

pub overflow_add-count : goal.overflow_add-count
overflow_add-count c =
    let i : ℕ = c.loop-source.source-index in
    let sources : List ℕ = c.args.sources.now in
    let source : ℕ = slice_index sources i in
    let within : source < c.args.entities = c.requires.within i 0 c.loop-source-test.true in
    let is = first_read (replicate c.args.entities 0) sources c.loop-source.counts.items c.args.entities i c.index-count.result.now c.loop-source.invariant.counts_are within c.index-count.ensures in
    let zero = get_or-replicate {A = ℕ} c.args.entities source 0 0 within in
    let member = slice_get-get_or sources i 0 c.loop-source-test.true in
    omega (arith, is, zero, rank_within sources source i member, members-length sources source, c.requires.few)

pub loop-source-preserved : goal.loop-source-preserved
loop-source-preserved c =
    let i : ℕ = c.loop-source.source-index in
    let sources : List ℕ = c.args.sources.now in
    let source : ℕ = slice_index sources i in
    let within : source < c.args.entities = c.requires.within i 0 c.loop-source-test.true in
    let is = first_read (replicate c.args.entities 0) sources c.loop-source.counts.items c.args.entities i c.index-count.result.now c.loop-source.invariant.counts_are within c.index-count.ensures in
    let zero = get_or-replicate {A = ℕ} c.args.entities source 0 0 within in
    let count_is : c.index-count.result.now ≡ rank sources source i = omega (arith, is, zero) in
    record {
      counts_are =
          ap (λ l. slice_set l source (c.index-count.result.now + 1)) c.loop-source.invariant.counts_are
          ∙ firsts_more (replicate c.args.entities 0) sources c.args.entities i source c.index-count.result.now c.loop-source-test.true refl within is;
      ranks_are =
          c.in_ok-push.ensures.items ∙ (λ j. c.loop-source.invariant.ranks_are j ++ count_is j ∷ [])
          ∙ sym (map-range_with_len_more (λ a. rank sources (slice_index sources a) a) 0 i i (omega arith));
    }

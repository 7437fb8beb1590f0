use Rattle.std.proofs.Common.{◌≡◌, ℕ, ◌+◌, ◌++◌, List, Option, get_or, None, arith, rules, below_more, inl, inr, ⊎_elim, add-one, append_assoc, ◌∙◌}
use Rattle.cq_tables.specs.Changes.{pair_of}
use Rattle.cq_tables.specs.Places.{pairs_at}
use Rattle.cq_tables.proofs.tables.join_cells.Goals as goal

pairs_more : (cells : List (Option ℕ)) (into out k : ℕ) (xs ys zs : List (ℕ × ℕ)) → ys ≡ xs ++ pairs_at cells into out k
    → zs ≡ ys ++ pair_of (get_or cells (into + k) None) (get_or cells (out + k) None) → zs ≡ xs ++ pairs_at cells into out (k + 1)
pairs_more cells into out k xs ys zs e f = rw (f, e, add-one) (append_assoc xs (pairs_at cells into out k) _)

pub overflow_add-into : goal.overflow_add-into
overflow_add-into c = omega (arith, c.requires.into, c.requires.fits)

pub overflow_add-out : goal.overflow_add-out
overflow_add-out c = omega (arith, c.requires.out, c.requires.fits)

pub overflow_add-into-in-loop-k : goal.overflow_add-into-in-loop-k
overflow_add-into-in-loop-k c = omega (arith, c.requires.into, c.requires.fits)

pub overflow_add-out-in-loop-k : goal.overflow_add-out-in-loop-k
overflow_add-out-in-loop-k c = omega (arith, c.requires.out, c.requires.fits)

pub loop-k-preserved : goal.loop-k-preserved
loop-k-preserved c =
    let k = c.loop-k.k in
    let there = c.loop-k.invariant.rest (c.args.into + k) (inr (omega arith)) (⊎_elim (λ p. inl (omega arith)) (λ p. inr (omega arith)) c.requires.apart) in
    let here = c.loop-k.invariant.rest (c.args.out + k) (⊎_elim (λ p. inr (omega arith)) (λ p. inl (omega arith)) c.requires.apart) (inr (omega arith)) in
    record {
      room = search rules;
      given = pairs_more c.args.cells.now.cells c.args.into c.args.out k _ _ _ c.loop-k.invariant.given (rw (← there, ← here, ← c.get-there.ensures.value, ← c.get-here.ensures.value) c.push_pair.ensures.items);
      joined = below_more _ _
          (λ j h. c.move_cell.ensures.others (c.args.into + j) (omega arith) (⊎_elim (λ p. omega arith) (λ p. omega arith) c.requires.apart) ∙ c.loop-k.invariant.joined j h)
          (rw (← there, ← here) c.move_cell.ensures.joined);
      emptied = below_more _ _
          (λ j h. c.move_cell.ensures.others (c.args.out + j) (⊎_elim (λ p. omega arith) (λ p. omega arith) c.requires.apart) (omega arith) ∙ c.loop-k.invariant.emptied j h)
          c.move_cell.ensures.emptied;
      rest = λ i h g. c.move_cell.ensures.others i (⊎_elim (λ p. omega arith) (λ p. omega arith) h) (⊎_elim (λ p. omega arith) (λ p. omega arith) g)
          ∙ c.loop-k.invariant.rest i (⊎_elim (λ p. inl p) (λ p. inr (omega arith)) h) (⊎_elim (λ p. inl p) (λ p. inr (omega arith)) g);
      len = c.move_cell.ensures.len ∙ c.loop-k.invariant.len;
      counts = c.move_cell.ensures.counts ∙ c.loop-k.invariant.counts;
    }

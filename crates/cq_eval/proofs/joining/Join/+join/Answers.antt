use Rattle.std.proofs.Common.{ℕ, true, List, [], ◌∷◌, ◌++◌, ◌≡◌, ◌<◌, ◌+◌, map, take, drop, length, get_or, refl, sym, ap, subst, ◌∙◌, arith}
use Rattle.std.specs.Prelude.{slice_index}
use Rattle.std.proofs.lemmas.Option.{slice_get_within}
use Rattle.std.proofs.lemmas.List.{take_all, length-map, length-take-le}
use Rattle.cq_theory.specs.declared.presentation.Equation.{Equation}
use Rattle.cq_theory.specs.Tables.{Tables}
use Rattle.cq_query.proofs.Holding.{tuple_length}
use Rattle.cq_eval.specs.Join.{found_from, found_by}
use Rattle.cq_eval.specs.Refused.{TellsOver}
use Rattle.cq_eval.specs.Known.{between, AreKnown}
use Rattle.cq_eval.proofs.Bordered as behind
use Rattle.cq_eval.proofs.Extended as steps
use Rattle.cq_eval.proofs.Untested as free
use Rattle.cq_eval.proofs.joining.Join.+join.Goals as goal

pub extend-returns-then-bound-len-clause-found : goal.extend-returns-then-bound-len-clause-found
extend-returns-then-bound-len-clause-found t c =
    let M : Tables = c.args.self.now.instance.now.tables in
    let tests : List Equation = c.args.self.now.tests.now in
    let counts : List ℕ = c.args.self.now.counts in
    let choice : List ℕ = c.args.choice.now in
    let all : length counts < c.args.bound + 1 = omega (arith, c.if-bound-len.true, c.len.ensures) in
    let whole : take c.args.bound choice ≡ choice = take_all c.args.bound choice (omega (arith, tuple_length choice counts c.requires.choice, all)) in
    let is : found_from M tests counts (drop c.args.bound counts) (take c.args.bound choice) ≡ choice ∷ [] =
    steps.none_left M tests counts c.args.bound (take c.args.bound choice) (omega (arith, all)) ∙ ap (λ r. r ∷ []) whole in
    steps.on_ok c.keep.result (c.keep.new.found.items ≡ c.args.found.now.items ++ choice ∷ []) (c.keep.new.found.items ≡ c.args.found.now.items ++ found_from M tests counts (drop c.args.bound counts) (take c.args.bound choice))
    (λ h. h ∙ ap (λ l. c.args.found.now.items ++ l) (sym is)) c.keep.ensures.found

pub extend-returns-then-bound-len-clause-known : goal.extend-returns-then-bound-len-clause-known
extend-returns-then-bound-len-clause-known t c =
    let M : Tables = c.args.self.now.instance.now.tables in
    let tests : List Equation = c.args.self.now.tests.now in
    let counts : List ℕ = c.args.self.now.counts in
    steps.on_ok c.keep.result (c.keep.new.found.items ≡ c.args.found.now.items ++ c.args.choice.now ∷ []) (AreKnown M tests counts c.keep.new.found.items c.args.known.now)
    (λ h. behind.known_as M tests counts c.args.found.now.items c.keep.new.found.items (c.args.choice.now ∷ []) c.args.known.now h c.requires.known) c.keep.ensures.found

pub extend-returns-in-Err-clause-refused : goal.extend-returns-in-Err-clause-refused
extend-returns-in-Err-clause-refused t c =
    let counts : List ℕ = c.args.self.now.counts in
    let less : c.args.bound < length counts = omega (arith, c.if-bound-len.false, c.len.ensures) in
    let inside : c.loop-row.row < slice_index counts c.args.bound = subst (λ l. c.loop-row.row < slice_index l c.args.bound) c.as_slice.ensures c.loop-row-test.true in
    steps.refused_step c.args.self.now.instance.now.tables c.args.self.now.tests.now counts c.args.self.now.entity c.args.bound c.loop-row.row (take c.args.bound c.args.choice.now) (take c.args.bound c.loop-row.choice)
    c.args.found.now.items c.loop-row.found.items c.in-Err.refusal less inside c.loop-row.invariant.found c.loop-row.invariant.kept c.in-Err.ensures.refused

pub extend-loop-row-preserved : goal.extend-loop-row-preserved
extend-loop-row-preserved t c =
    let M : Tables = c.args.self.now.instance.now.tables in
    let counts : List ℕ = c.args.self.now.counts in
    record {
      found = steps.found_step M c.args.self.now.tests.now counts (drop (c.args.bound + 1) counts) (take c.args.bound c.args.choice.now) (take c.args.bound c.loop-row.choice) c.loop-row.row
          c.args.found.now.items c.loop-row.found.items c.extend_by.new.found.items c.loop-row.invariant.found c.loop-row.invariant.kept c.in_default-extend_by.ensures.found;
      few = c.in_default-extend_by.ensures.few;
      choice = c.extend_by.ensures.choice;
      kept = c.extend_by.ensures.kept ∙ c.loop-row.invariant.kept;
      known = c.in_default-extend_by.ensures.known;
    }

pub extend_by-set-requires : goal.extend_by-set-requires
extend_by-set-requires t c = omega (arith, tuple_length c.args.choice.now c.args.self.now.counts c.requires.choice, c.requires.bound)

pub extend_by-passes-requires-clause-choice : goal.extend_by-passes-requires-clause-choice
extend_by-passes-requires-clause-choice t c =
    steps.next_tuple c.args.self.now.instance.now.tables c.args.self.now.tests.now c.args.self.now.counts c.args.choice.now c.set.new.self c.args.bound c.args.row c.requires.choice c.requires.bound c.requires.row c.set.ensures

pub extend_by-returns-in_err-passes-clause-choice : goal.extend_by-returns-in_err-passes-clause-choice
extend_by-returns-in_err-passes-clause-choice t c =
    steps.next_tuple c.args.self.now.instance.now.tables c.args.self.now.tests.now c.args.self.now.counts c.args.choice.now c.set.new.self c.args.bound c.args.row c.requires.choice c.requires.bound c.requires.row c.set.ensures

pub extend_by-returns-then-not-branch-clause-found : goal.extend_by-returns-then-not-branch-clause-found
extend_by-returns-then-not-branch-clause-found t c =
    steps.none_found c.args.self.now.instance.now.tables c.args.self.now.tests.now c.args.self.now.counts c.args.choice.now c.set.new.self c.args.bound c.args.row c.requires.choice c.requires.bound c.requires.row c.set.ensures
    c.in_ok-passes.field-0 c.in_ok-passes.ensures c.if-not-branch.true c.args.found.now.items

pub extend_by-returns-then-not-branch-clause-choice : goal.extend_by-returns-then-not-branch-clause-choice
extend_by-returns-then-not-branch-clause-choice t c =
    steps.next_tuple c.args.self.now.instance.now.tables c.args.self.now.tests.now c.args.self.now.counts c.args.choice.now c.set.new.self c.args.bound c.args.row c.requires.choice c.requires.bound c.requires.row c.set.ensures

pub extend_by-extend_once-requires : goal.extend_by-extend_once-requires
extend_by-extend_once-requires t c = (
  omega arith,
  (
    c.requires.join,
    (
      c.requires.indexed,
      (
        c.requires.last,
        (
          steps.next_tuple c.args.self.now.instance.now.tables c.args.self.now.tests.now c.args.self.now.counts c.args.choice.now c.set.new.self c.args.bound c.args.row c.requires.choice c.requires.bound c.requires.row c.set.ensures,
          (omega arith, (c.requires.few, c.requires.known)),
        ),
      ),
    ),
  ),
)

pub extend_by-returns-clause-found : goal.extend_by-returns-clause-found
extend_by-returns-clause-found t c =
    let M : Tables = c.args.self.now.instance.now.tables in
    let tests : List Equation = c.args.self.now.tests.now in
    let counts : List ℕ = c.args.self.now.counts in
    let is = steps.some_found M tests counts c.args.choice.now c.set.new.self c.args.bound c.args.row c.requires.choice c.requires.bound c.requires.row c.set.ensures c.in_ok-passes.field-0 c.in_ok-passes.ensures c.if-not-branch.false in
    steps.on_ok c.extend_once.result (c.extend_once.new.found.items ≡ c.args.found.now.items ++ found_from M tests counts (drop (c.args.bound + 1) counts) (take (c.args.bound + 1) c.set.new.self))
    (c.extend_once.new.found.items ≡ c.args.found.now.items ++ found_by M tests counts (drop (c.args.bound + 1) counts) (take c.args.bound c.args.choice.now ++ c.args.row ∷ []))
    (λ h. h ∙ ap (λ l. c.args.found.now.items ++ l) is) c.extend_once.ensures.found

pub extend_by-returns-clause-kept : goal.extend_by-returns-clause-kept
extend_by-returns-clause-kept t c =
    steps.next_kept c.args.self.now.instance.now.tables c.args.self.now.tests.now c.args.self.now.counts c.args.choice.now c.set.new.self c.args.bound c.args.row c.requires.choice c.requires.bound c.requires.row c.set.ensures
    c.extend_once.new.choice c.extend_once.ensures.kept

pub extend_by-returns-clause-refused : goal.extend_by-returns-clause-refused
extend_by-returns-clause-refused t c =
    let M : Tables = c.args.self.now.instance.now.tables in
    let tests : List Equation = c.args.self.now.tests.now in
    let counts : List ℕ = c.args.self.now.counts in
    let is = steps.some_found M tests counts c.args.choice.now c.set.new.self c.args.bound c.args.row c.requires.choice c.requires.bound c.requires.row c.set.ensures c.in_ok-passes.field-0 c.in_ok-passes.ensures c.if-not-branch.false in
    steps.if_err c.extend_once.result (TellsOver c.args.self.now.entity (length c.args.found.now.items + length (found_from M tests counts (drop (c.args.bound + 1) counts) (take (c.args.bound + 1) c.set.new.self))))
    (TellsOver c.args.self.now.entity (length c.args.found.now.items + length (found_by M tests counts (drop (c.args.bound + 1) counts) (take c.args.bound c.args.choice.now ++ c.args.row ∷ []))))
    (λ e h. subst (λ (l : List (List ℕ)). TellsOver c.args.self.now.entity (length c.args.found.now.items + length l) e) is h) c.extend_once.ensures.refused

pub extend_among-extend_by-requires : goal.extend_among-extend_by-requires
extend_among-extend_by-requires t c = (
  omega arith,
  (
    c.requires.join,
    (c.requires.indexed, (c.requires.last, (c.loop-row.invariant.choice, (c.requires.bound, (c.requires.cover.within c.loop-row.row-index 0 c.loop-row-test.true, (c.loop-row.invariant.few, c.loop-row.invariant.known)))))),
  ),
)

pub extend_among-returns-in-Err-clause-refused : goal.extend_among-returns-in-Err-clause-refused
extend_among-returns-in-Err-clause-refused t c =
    steps.refused_over c.args.self.now.instance.now.tables c.args.self.now.tests.now c.args.self.now.counts c.args.bound (take c.args.bound c.args.choice.now) c.args.rows.now c.requires.bound c.requires.cover
    c.args.self.now.entity c.loop-row.row-index (get_or c.args.rows.now c.loop-row.row-index 0) (take c.args.bound c.loop-row.choice) c.args.found.now.items c.loop-row.found.items c.in-Err.refusal
    c.loop-row-test.true refl c.loop-row.invariant.found c.loop-row.invariant.kept c.in-Err.ensures.refused

pub extend_among-loop-row-preserved : goal.extend_among-loop-row-preserved
extend_among-loop-row-preserved t c = record {
  found = steps.over_step c.args.self.now.instance.now.tables c.args.self.now.tests.now c.args.self.now.counts c.args.bound (take c.args.bound c.args.choice.now) c.args.rows.now c.requires.bound c.requires.cover
      (take c.args.bound c.loop-row.choice) c.loop-row.row-index (get_or c.args.rows.now c.loop-row.row-index 0) c.args.found.now.items c.loop-row.found.items c.extend_by.new.found.items
      c.loop-row-test.true refl c.loop-row.invariant.found c.loop-row.invariant.kept c.in_default.ensures.found;
  few = c.in_default.ensures.few;
  choice = c.extend_by.ensures.choice;
  kept = c.extend_by.ensures.kept ∙ c.loop-row.invariant.kept;
  known = c.in_default.ensures.known;
}

pub extend_among-returns-clause-found : goal.extend_among-returns-clause-found
extend_among-returns-clause-found t c =
    steps.over_end c.args.self.now.instance.now.tables c.args.self.now.tests.now c.args.self.now.counts c.args.bound (take c.args.bound c.args.choice.now) c.args.rows.now c.requires.bound c.requires.cover
    c.loop-row.row-index c.args.found.now.items c.loop-row.found.items c.loop-row-test.false c.loop-row.invariant.found

pub extend-returns-then-has_many-clause-refused : goal.extend-returns-then-has_many-clause-refused
extend-returns-then-has_many-clause-refused t c =
    let M : Tables = c.args.self.now.instance.now.tables in
    let tests : List Equation = c.args.self.now.tests.now in
    let counts : List ℕ = c.args.self.now.counts in
    let many = c.has_many.ensures c.if-has_many.true in
    free.tells_free M tests counts c.args.self.now.last c.requires.last c.args.self.now.entity c.args.bound c.args.choice.now c.requires.choice c.requires.bound many.0 (length c.args.found.now.items) c.len-2.result
    (omega (arith, c.len-2.ensures, c.args.found.now.ok.0)) many.1

pub extend_by-returns-then-is_vain-clause-found : goal.extend_by-returns-then-is_vain-clause-found
extend_by-returns-then-is_vain-clause-found t c =
    let choice : List ℕ = c.args.choice.now in
    let counts : List ℕ = c.args.self.now.counts in
    let long : length (take c.args.bound choice) ≡ c.args.bound = length-take-le c.args.bound choice (omega (arith, tuple_length choice counts c.requires.choice, c.requires.bound)) in
    behind.vain_found c.args.self.now.instance.now.tables c.args.self.now.tests.now counts c.args.found.now.items c.args.known.now c.requires.known c.args.bound c.args.row (take c.args.bound choice) long (c.is_vain.ensures c.if-is_vain.true)

pub extend_once-repeat-requires : goal.extend_once-repeat-requires
extend_once-repeat-requires t c =
    let at = c.requires.known.noted c.args.bound c.in-Some.stretch c.in-Some.ensures in
    record { rises = at.rises; within = at.within; few = c.requires.few }

pub extend_once-returns-in-Some-clause-found : goal.extend_once-returns-in-Some-clause-found
extend_once-returns-in-Some-clause-found t c =
    let M : Tables = c.args.self.now.instance.now.tables in
    let tests : List Equation = c.args.self.now.tests.now in
    let counts : List ℕ = c.args.self.now.counts in
    let choice : List ℕ = c.args.choice.now in
    let found : List (List ℕ) = c.args.found.now.items in
    let before : List ℕ = take c.args.bound choice in
    let long : length before ≡ c.args.bound = length-take-le c.args.bound choice (omega (arith, tuple_length choice counts c.requires.choice, c.requires.bound)) in
    let is = behind.repeated M tests counts found c.args.known.now c.requires.known c.args.bound c.in-Some.stretch before c.in-Some.ensures long in
    steps.on_ok c.repeat.result (c.repeat.new.found.items ≡ found ++ map (λ list. before ++ drop c.args.bound list) (between c.in-Some.stretch found))
    (c.repeat.new.found.items ≡ found ++ found_from M tests counts (drop c.args.bound counts) before)
    (λ h. h ∙ ap (λ l. found ++ l) (sym is)) c.repeat.ensures.found

pub extend_once-returns-in-Some-clause-known : goal.extend_once-returns-in-Some-clause-known
extend_once-returns-in-Some-clause-known t c =
    let M : Tables = c.args.self.now.instance.now.tables in
    let tests : List Equation = c.args.self.now.tests.now in
    let counts : List ℕ = c.args.self.now.counts in
    let found : List (List ℕ) = c.args.found.now.items in
    let more : List (List ℕ) = map (λ list. take c.args.bound c.args.choice.now ++ drop c.args.bound list) (between c.in-Some.stretch found) in
    steps.on_ok c.repeat.result (c.repeat.new.found.items ≡ found ++ more) (AreKnown M tests counts c.repeat.new.found.items c.args.known.now)
    (λ h. behind.known_as M tests counts found c.repeat.new.found.items more c.args.known.now h c.requires.known) c.repeat.ensures.found

pub extend_once-returns-in-Some-clause-refused : goal.extend_once-returns-in-Some-clause-refused
extend_once-returns-in-Some-clause-refused t c =
    let M : Tables = c.args.self.now.instance.now.tables in
    let tests : List Equation = c.args.self.now.tests.now in
    let counts : List ℕ = c.args.self.now.counts in
    let choice : List ℕ = c.args.choice.now in
    let found : List (List ℕ) = c.args.found.now.items in
    let before : List ℕ = take c.args.bound choice in
    let long : length before ≡ c.args.bound = length-take-le c.args.bound choice (omega (arith, tuple_length choice counts c.requires.choice, c.requires.bound)) in
    let is = behind.repeated M tests counts found c.args.known.now c.requires.known c.args.bound c.in-Some.stretch before c.in-Some.ensures long in
    let size : length (found_from M tests counts (drop c.args.bound counts) before) ≡ length (between c.in-Some.stretch found) = ap length is ∙ length-map (between c.in-Some.stretch found) (λ list. before ++ drop c.args.bound list) in
    steps.if_err c.repeat.result (TellsOver c.args.self.now.entity (length found + length (between c.in-Some.stretch found)))
    (TellsOver c.args.self.now.entity (length found + length (found_from M tests counts (drop c.args.bound counts) before)))
    (λ e h. subst (λ n. TellsOver c.args.self.now.entity (length found + n) e) (sym size) h) c.repeat.ensures.refused

pub extend_once-note-requires : goal.extend_once-note-requires
extend_once-note-requires t c = slice_get_within c.extend.new.known.borders c.args.bound true (c.is_border.ensures c.if-not-is_border.false)

pub extend_once-returns-clause-known : goal.extend_once-returns-clause-known
extend_once-returns-clause-known t c =
    let M : Tables = c.args.self.now.instance.now.tables in
    let tests : List Equation = c.args.self.now.tests.now in
    let counts : List ℕ = c.args.self.now.counts in
    let choice : List ℕ = c.args.choice.now in
    let before : List ℕ = take c.args.bound choice in
    let long : length before ≡ c.args.bound = length-take-le c.args.bound choice (omega (arith, tuple_length choice counts c.requires.choice, c.requires.bound)) in
    let are = c.in_default-extend.ensures.known in
    let at = c.is_border.ensures c.if-not-is_border.false in
    let inside : c.args.bound < length counts = omega (arith, slice_get_within c.extend.new.known.borders c.args.bound true at, are.long) in
    behind.known_noted M tests counts c.args.bound (are.borders c.args.bound at) inside before long c.args.found.now.items c.extend.new.found.items c.in_default-extend.ensures.found
    (record { start = c.len-start.result; end = c.len-end.result }) (omega (arith, c.len-start.ensures, c.args.found.now.ok.0)) (omega (arith, c.len-end.ensures, c.extend.new.found.ok.0))
    c.extend.new.known c.note.new.self are c.note.ensures.borders c.note.ensures.noted c.note.ensures.vain

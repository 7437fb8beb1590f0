use Rattle.std.proofs.Common.{ℕ, [], ◌∷◌, ◌++◌, ◌+◌, ◌<◌, ◌≤◌, ◌≡◌, ◌∙◌, length, map, take, get_or, sym, ap, subst, arith}
use Rattle.std.specs.Prelude.{sum}
use Rattle.std.proofs.Math.Seq.{take-length}
use Rattle.std.proofs.lemmas.List.{length-map}
use Rattle.std.proofs.lemmas.List.FromFn.{map-range_with_len_more}
use Rattle.std.proofs.lemmas.List.Sums.{sum_by_more}
use Rattle.cq_import.specs.declared.entity_file.EntityFile.{EntityFile}
use Rattle.cq_theory.specs.Canonical.{below}
use Rattle.cq_import.specs.Cells.{Sheet, counts, start_of}
use Rattle.cq_import.specs.Context.{sheet_in}
use Rattle.cq_import.specs.Rows.{id_of, rows_of}
use Rattle.cq_import.proofs.Starts.{count_here, sum_take}
use Rattle.cq_import.proofs.presenting.find_starts.Goals as goal

pub returns-then-count-total : goal.returns-then-count-total
returns-then-count-total c =
    let files = c.args.files.now in
    let file = c.file-item.result in
    let i = c.loop-file.file-index in
    let cs = counts (map sheet_in files) in
    let count_is : c.len-count.result ≡ get_or cs i 0 =
    omega (arith, c.len-count.ensures, ap (λ (f : EntityFile). length f.ids) c.file-item.is, ap length file.ids_are, length-map (rows_of file.text.items) id_of, count_here files i file c.loop-file-test.true c.file-item.is) in
    let inside : i < length cs = omega (arith, c.loop-file-test.true, length-map (map sheet_in files) (λ (s : Sheet). length s.rows), length-map files sheet_in) in
    omega (arith, c.if-count-total.true, sum_take cs i inside, count_is, c.loop-file.invariant.1, c.loop-file.invariant.2)

pub loop-file-preserved : goal.loop-file-preserved
loop-file-preserved c =
    let files = c.args.files.now in
    let file = c.file-item.result in
    let i = c.loop-file.file-index in
    let sheets = map sheet_in files in
    let cs = counts sheets in
    let count_is : c.len-count.result ≡ get_or cs i 0 =
    omega (arith, c.len-count.ensures, ap (λ (f : EntityFile). length f.ids) c.file-item.is, ap length file.ids_are, length-map (rows_of file.text.items) id_of, count_here files i file c.loop-file-test.true c.file-item.is) in
    let inside : i < length cs = omega (arith, c.loop-file-test.true, length-map sheets (λ (s : Sheet). length s.rows), length-map files sheet_in) in
    let more : sum (take (i + 1) cs) ≡ sum (take i cs) + get_or cs i 0 = sum_by_more (λ (x : ℕ). x) cs i 0 inside in (
      c.in_ok-push.ensures.items ∙ (λ j. c.loop-file.invariant.0 j ++ c.loop-file.invariant.1 j ∷ []) ∙ sym (map-range_with_len_more (start_of sheets) 0 i i (omega arith)),
      omega (arith, more, count_is, c.loop-file.invariant.1),
      omega (arith, c.if-count-total.false, c.loop-file.invariant.2),
    )

pub returns : goal.returns
returns c =
    let files = c.args.files.now in
    let i = c.loop-file.file-index in
    let sheets = map sheet_in files in
    let cs = counts sheets in
    let all : i ≡ length files = omega (arith, c.loop-file-test.false, c.loop-file.auto.file-index-end) in
    let size : length cs ≡ i = omega (arith, all, length-map sheets (λ (s : Sheet). length s.rows), length-map files sheet_in) in (
      c.loop-file.invariant.0 ∙ ap (λ n. map (start_of sheets) (below n)) all,
      c.loop-file.invariant.1 ∙ ap (λ n. sum (take n cs)) (sym size) ∙ ap sum (take-length cs),
      c.loop-file.invariant.2,
    )

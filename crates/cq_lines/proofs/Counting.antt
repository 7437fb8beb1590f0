-- Lines that are counted byte by byte, and the places of records.
use Rattle.std.proofs.Common.{◌≡◌, ◌∙◌, [], ℕ, List, sym, ap, subst, get_or, drop, length, ◌+◌, ◌<◌, ◌≤◌, arith}
use Rattle.std.proofs.lemmas.List.{drop_all}
use Rattle.csv.specs.Machine.{next_record}
use Rattle.csv.specs.Reading.{default_config}
use Rattle.cq_lines.specs.declared.stand.Stand.{Stand}
use Rattle.cq_lines.specs.declared.walk.Walk.{Walk}
use Rattle.cq_lines.specs.Lines.{behind, behind_read, ends_line, from_record, line_ends, one_if, skip_ends}
use Rattle.cq_lines.specs.Stands.{state_of}
use Rattle.cq_lines.specs.Walks.{Counts, IsPlace, IsWalk}
use Rattle.cq_lines.proofs.Walking.{Goes, goes_finished, lines_cut, one_at_most, one_behind}
use Rattle.csv.specs.declared.parser.State.{State}
use Rattle.csv.specs.declared.parser.State.TheVariants as st

pub counts_more : (text : List ℕ) (at line more : ℕ) → Counts text at line → at < length text → more ≡ line + one_if (ends_line (get_or text at 0) (drop (at + 1) text))
    → Counts text (at + 1) more
counts_more text at line more counts within is =
    let here = lines_cut text at within in
    let few = one_at_most (ends_line (get_or text at 0) (drop (at + 1) text)) in
    record { within = omega arith; low = omega (arith, counts.low, few, is); counted = omega (arith, counts.counted, here, is) }

-- what is counted at the end
pub counts_end : (text : List ℕ) (at line : ℕ) → Counts text at line → length text ≤ at → Counts text (length text) line
counts_end text at line counts past = subst (λ n. Counts text n line) (let same : at ≡ length text = omega (arith, counts.within) in same) counts

pub place_is : (text : List ℕ) (walk : Walk) (at line : ℕ) → IsWalk text walk → skip_ends (drop walk.at text) ≡ drop at text → Counts text at line
    → IsPlace text walk.number (record { at = at; line = line })
place_is text walk at line is skips counts =
    let begins : drop at text ≡ from_record text walk.number = sym (ap (λ b. skip_ends b.1) is.stands ∙ skips) in
    record {
      within = counts.within;
      begins = begins;
      line = let same : line_ends (drop at text) ≡ line_ends (from_record text walk.number) = ap line_ends begins in omega (arith, counts.counted, same);
    }

-- no bytes are left
pub at_end : (text : List ℕ) (at : ℕ) → length text ≤ at → drop at text ≡ []
at_end text at past = drop_all at text past

pub skips_end : (text : List ℕ) (from at : ℕ) → skip_ends (drop from text) ≡ skip_ends (drop at text) → length text ≤ at → skip_ends (drop from text) ≡ drop (length text) text
skips_end text from at same past = same ∙ ap skip_ends (at_end text at past) ∙ sym (at_end text (length text) (omega arith))

-- the walk behind one more record
pub walk_more : (text : List ℕ) (walk : Walk) (at line : ℕ) (stand : Stand) → IsWalk text walk
    → behind_read (next_record default_config (state_of walk.stand) [] [] (drop walk.at text)) ≡ (state_of stand, drop at text) → Counts text at line
    → IsWalk text (record { number = walk.number + 1; at = at; line = line; stand = stand })
walk_more text walk at line stand is behind counts = record {
  few = is.few;
  stands = one_behind text walk.number (state_of walk.stand) (drop walk.at text) _ is.stands behind;
  counts = counts;
}

-- a record that ends with the text
pub finished_there : (text : List ℕ) (at : ℕ) (s0 s : State) (from : List ℕ) → Goes s0 from s (drop at text) → length text ≤ at
    → behind_read (next_record default_config s0 [] [] from) ≡ (st.StartRecord, drop (length text) text)
finished_there text at s0 s from goes past =
    goes_finished s0 s from (drop at text) goes (at_end text at past) ∙ ap (λ (l : List ℕ). (st.StartRecord, l)) (sym (at_end text (length text) (omega arith)))

-- A walk byte by byte.
use Rattle.std.specs.Prelude.{◌==◌, ◌||◌, if◌then◌else◌}
use Rattle.std.proofs.Common.{◌≡◌, ◌∷◌, ◌∙◌, [], ℕ, List, Bool, true, false, refl, sym, ap, get_or, drop, length, ◌+◌, ◌<◌, ◌≤◌, arith, add-one, drop-cons}
use Rattle.csv.specs.Machine.{fields_after, field_after, is_end, next_record, step}
use Rattle.csv.specs.Reading.{default_config}
use Rattle.csv.specs.declared.parser.State.{State}
use Rattle.csv.specs.declared.parser.State.TheVariants as st
use Rattle.cq_lines.specs.Lines.{behind, behind_one, behind_read, ends_line, line_ends, one_if, skip_ends}

-- the record that is read from here on is the one that was begun there
pub record Goes (s0 : State) (from : List ℕ) (s : State) (left : List ℕ) : Type 0 where
  pub fields : List (List ℕ)
  pub field : List ℕ
  pub same : next_record default_config s0 [] [] from ≡ next_record default_config s fields field left

pub begun : (s : State) (left : List ℕ) → Goes s left s left
begun s left = record { fields = []; field = []; same = refl }

further : (s t : State) (fields : List (List ℕ)) (field : List ℕ) (c : ℕ) (rest : List ℕ) → t ≡ (step default_config s c).0 → is_end (step default_config s c).1 ≡ false
    → next_record default_config s fields field (c ∷ rest)
    ≡ next_record default_config t (fields_after (step default_config s c).1 fields field) (field_after (step default_config s c).1 c field) rest
unfolding next_record
further s t fields field c rest to goes = rw (goes, to) refl

ended : (s t : State) (fields : List (List ℕ)) (field : List ℕ) (c : ℕ) (rest : List ℕ) → t ≡ (step default_config s c).0 → is_end (step default_config s c).1 ≡ true
    → behind_read (next_record default_config s fields field (c ∷ rest)) ≡ (t, rest)
unfolding next_record
ended s t fields field c rest to ends = rw (ends, to) refl

finished : (s : State) (fields : List (List ℕ)) (field : List ℕ) → behind_read (next_record default_config s fields field []) ≡ (st.StartRecord, [])
unfolding next_record
finished st.StartRecord fields field = refl
finished st.StartField fields field = refl
finished st.InField fields field = refl
finished st.InQuoted fields field = refl
finished st.AfterQuote fields field = refl
finished st.InEscape fields field = refl
finished st.InComment fields field = refl
finished st.AfterCr fields field = refl

-- the bytes from a place on
pub cut : (text : List ℕ) (at : ℕ) → at < length text → drop at text ≡ get_or text at 0 ∷ drop (at + 1) text
cut text at within = rw add-one (drop-cons text at 0 within)

module _ (text : List ℕ) (at : ℕ) (within : at < length text) (s0 s t : State) (from : List ℕ) (goes : Goes s0 from s (drop at text)) (to : t ≡ (step default_config s (get_or text at 0)).0) where
  here : next_record default_config s goes.fields goes.field (drop at text) ≡ next_record default_config s goes.fields goes.field (get_or text at 0 ∷ drop (at + 1) text)
  here = ap (next_record default_config s goes.fields goes.field) (cut text at within)

  pub goes_on : is_end (step default_config s (get_or text at 0)).1 ≡ false → Goes s0 from t (drop (at + 1) text)
  goes_on unended = record { fields = fields_after (step default_config s (get_or text at 0)).1 goes.fields goes.field; field = field_after (step default_config s (get_or text at 0)).1 (get_or text at 0) goes.field; same = goes.same ∙ here ∙ further s t goes.fields goes.field (get_or text at 0) (drop (at + 1) text) to unended }

  pub goes_behind : is_end (step default_config s (get_or text at 0)).1 ≡ true → behind_read (next_record default_config s0 [] [] from) ≡ (t, drop (at + 1) text)
  goes_behind ends = ap behind_read (goes.same ∙ here) ∙ ended s t goes.fields goes.field (get_or text at 0) (drop (at + 1) text) to ends

pub goes_finished : (s0 s : State) (from left : List ℕ) → Goes s0 from s left → left ≡ [] → behind_read (next_record default_config s0 [] [] from) ≡ (st.StartRecord, [])
goes_finished s0 s from left goes none = ap behind_read (goes.same ∙ ap (next_record default_config s goes.fields goes.field) none) ∙ finished s goes.fields goes.field

-- one more record
pub one_behind : (text : List ℕ) (n : ℕ) (s : State) (left : List ℕ) (to : State × List ℕ) → behind text n ≡ (s, left)
    → behind_read (next_record default_config s [] [] left) ≡ to → behind text (n + 1) ≡ to
one_behind text n s left to stands is = rw add-one (ap behind_one stands ∙ is)

-- the lines that end from a place on
pub lines_cut : (text : List ℕ) (at : ℕ) → at < length text
    → line_ends (drop at text) ≡ one_if (ends_line (get_or text at 0) (drop (at + 1) text)) + line_ends (drop (at + 1) text)
lines_cut text at within = ap line_ends (cut text at within)

pub one_at_most : (b : Bool) → one_if b ≤ 1
one_at_most true = omega arith
one_at_most false = omega arith

-- line ends are passed over
pub skips : (text : List ℕ) (at : ℕ) → at < length text → ((get_or text at 0 == 10) || (get_or text at 0 == 13)) ≡ true → skip_ends (drop at text) ≡ skip_ends (drop (at + 1) text)
skips text at within ends = ap skip_ends (cut text at within) ∙ ap (λ b. if b then skip_ends (drop (at + 1) text) else get_or text at 0 ∷ drop (at + 1) text) ends

pub stays : (text : List ℕ) (at : ℕ) → at < length text → ((get_or text at 0 == 10) || (get_or text at 0 == 13)) ≡ false → skip_ends (drop at text) ≡ drop at text
stays text at within other =
    ap skip_ends (cut text at within) ∙ ap (λ b. if b then skip_ends (drop (at + 1) text) else get_or text at 0 ∷ drop (at + 1) text) other ∙ sym (cut text at within)

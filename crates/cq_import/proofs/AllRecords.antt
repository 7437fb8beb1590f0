-- The records that the definition gives are all the records of a text.
use Rattle.std.specs.Prelude.{◌⊎◌, ◌<◌, ◌≤◌, ◌+◌, length, Option, None, if◌then◌else◌}
use Rattle.std.proofs.Common.{◌≡◌, ◌==◌, ◌++◌, ◌∷◌, ◌∙◌, [], ℕ, List, Bool, Some, refl, sym, ap, subst, true, false, inl, inr, suc, zero, arith}
use Rattle.std.proofs.lemmas.Bool.{cases_Bool}
use Rattle.csv.specs.Machine.{Read, next_record, step, is_end, ends_at_end, after_end, in_field, start_field, start_record, fields_after, field_after}
use Rattle.csv.specs.Reading.{AreRecords, Reached, records, records_from}
use Rattle.csv.specs.declared.parser.Config.{Config}
use Rattle.csv.specs.declared.parser.Terminator.{Terminator}
use Rattle.csv.specs.declared.parser.Terminator.TheVariants as term
use Rattle.csv.specs.declared.parser.State.{State}
use Rattle.csv.specs.declared.parser.State.TheVariants as st
use Rattle.csv.specs.declared.parser.Action.{Action}
use Rattle.csv.specs.declared.parser.Action.TheVariants as act

-- where the step ends a record, no record is at hand
record Rests (a : State × Action) : Type 0 where
  rests : is_end a.1 ≡ true → ends_at_end a.0 ≡ false

either : (b : Bool) (x y : State × Action) → Rests x → Rests y → Rests (if b then x else y)
either true x y p q = p
either false x y p q = q

state-either : (b : Bool) → ends_at_end (if b then st.AfterCr else st.StartRecord) ≡ false
state-either true = refl
state-either false = refl

end-rests : (t : Terminator) (c : ℕ) → Rests (after_end t c, act.EndRecord)
end-rests term.CRLF c = record { rests = λ e. state-either (c == 13) }
end-rests (term.Any t) c = record { rests = λ e. refl }

-- no record ends
goes-on : (s : State) (a : Action) → is_end a ≡ false → Rests (s, a)
goes-on s a n = record { rests = λ e. cc (sym e ∙ n) }

in-rests : (cfg : Config) (c : ℕ) → Rests (in_field cfg c)
in-rests cfg c = either _ _ _ (goes-on st.StartField act.EndField refl) (either _ _ _ (end-rests cfg.terminator c) (goes-on st.InField act.Copy refl))

start-rests : (cfg : Config) (c : ℕ) → Rests (start_field cfg c)
start-rests cfg c = either _ _ _ (goes-on st.InQuoted act.Skip refl) (in-rests cfg c)

record-rests : (cfg : Config) (c : ℕ) → Rests (start_record cfg c)
record-rests cfg c = either _ _ _ (goes-on st.StartRecord act.Skip refl) (either _ _ _ (goes-on st.InComment act.Skip refl) (start-rests cfg c))

step-rests : (cfg : Config) (s : State) (c : ℕ) → Rests (step cfg s c)
step-rests cfg st.StartRecord c = record-rests cfg c
step-rests cfg st.StartField c = start-rests cfg c
step-rests cfg st.InField c = in-rests cfg c
step-rests cfg st.InQuoted c = either _ _ _ (goes-on st.AfterQuote act.Skip refl) (either _ _ _ (goes-on st.InEscape act.Skip refl) (goes-on st.InQuoted act.Copy refl))
step-rests cfg st.InEscape c = goes-on st.InQuoted act.Copy refl
step-rests cfg st.AfterQuote c = either _ _ _ (goes-on st.InQuoted act.Copy refl) (in-rests cfg c)
step-rests cfg st.InComment c = either _ _ _ (goes-on st.StartRecord act.Skip refl) (goes-on st.InComment act.Skip refl)
step-rests cfg st.AfterCr c = either _ _ _ (goes-on st.StartRecord act.Skip refl) (record-rests cfg c)

some-is : (p r : Read) → Some p ≡ Some r → p ≡ r
some-is p r e = cc e

-- a record that was read leaves no record at hand, and of a text that is not empty less than the text
pub reads-on : (cfg : Config) (xs : List ℕ) (s : State) (f : List (List ℕ)) (p : List ℕ) (r : Read) → next_record cfg s f p xs ≡ Some r
    → (ends_at_end r.1 ≡ false) × (length r.2 ≤ length xs)
unfolding next_record
reads-on cfg [] s f p r e = elim (cases_Bool (ends_at_end s)) [
  | inl t ↦ let is = some-is _ _ (sym (rw t at e)) in rw is (refl, omega arith)
  | inr n ↦ absurd (cc (rw n at e))
]
reads-on cfg (c ∷ rest) s f p r e = elim (cases_Bool (is_end (step cfg s c).1)) [
  | inl t ↦ let is = some-is _ _ (sym (rw t at e)) in rw is ((step-rests cfg s c).rests t, omega arith)
  | inr n ↦ let more = reads-on cfg rest _ _ _ r (rw n at e) in (more.0, omega (more.1, arith))
]

pub shrinks : (cfg : Config) (s : State) (f : List (List ℕ)) (p : List ℕ) (c : ℕ) (rest : List ℕ) (r : Read) → next_record cfg s f p (c ∷ rest) ≡ Some r → length r.2 ≤ length rest
unfolding next_record
shrinks cfg s f p c rest r e = elim (cases_Bool (is_end (step cfg s c).1)) [
  | inl t ↦ let is = some-is _ _ (sym (rw t at e)) in rw is (omega arith)
  | inr n ↦ (reads-on cfg rest _ _ _ r (rw n at e)).1
]

nothing : (cfg : Config) (s : State) → ends_at_end s ≡ false → next_record cfg s [] [] [] ≡ None
unfolding next_record
nothing cfg s e = rw e refl

cases-read : (o : Option Read) → (o ≡ None) ⊎ ((r : Read) × (o ≡ Some r))
cases-read None = inl refl
cases-read (Some r) = inr (r, refl)

-- with fuel past the length the records are all
pub all-from : (cfg : Config) (n : ℕ) (s : State) (xs : List ℕ) → ends_at_end s ≡ false → length xs < n → AreRecords cfg s xs (records_from cfg n s xs)
unfolding Reached records_from
all-from cfg zero s xs rest few = absurd (omega (few, arith))
all-from cfg (suc n) s [] rest few = rw (nothing cfg s rest) (s, [], (refl, refl), nothing cfg s rest)
all-from cfg (suc n) s (c ∷ xs) rest few = elim (cases-read (next_record cfg s [] [] (c ∷ xs))) [
  | inl none ↦ rw none (s, c ∷ xs, (refl, refl), none)
  | inr some ↦
      let on = reads-on cfg (c ∷ xs) s [] [] some.0 some.1 in
      let less = shrinks cfg s [] [] c xs some.0 some.1 in
      let more = all-from cfg n some.0.1 some.0.2 on.0 (omega (less, few, arith)) in
      rw some.1 (more.0, more.1, (some.0, some.1, refl, more.2), more.3)
]

pub records-are : (cfg : Config) (xs : List ℕ) → AreRecords cfg st.StartRecord xs (records cfg xs)
records-are cfg xs = all-from cfg (length xs + 1) st.StartRecord xs refl (omega arith)

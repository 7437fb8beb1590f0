-- A reader that has some records left, step by step.
use Rattle.std.specs.Prelude.{Option, None, true, false, ⊤}
use Rattle.std.proofs.Common.{◌≡◌, ◌∷◌, ◌++◌, ◌∙◌, [], ℕ, List, Bool, Some, refl, sym, ap, subst}
use Rattle.std.specs.Borrow.{Bor}
use Rattle.csv.specs.Machine.{Read, next_record}
use Rattle.csv.specs.Reading.{AreRecords, NextIs, Reached, ReadRecord, ReadsNext, Ready, default_config, pending_of, reader_config, reader_state, reader_trim, source_of}
use Rattle.csv.specs.declared.parser.Config.{Config}
use Rattle.csv.specs.declared.parser.State.{State}
use Rattle.csv.specs.declared.reader.Reader.{Reader}
use Rattle.csv.specs.declared.reader.Trim.TheVariants as trim
use Rattle.cq_import.specs.Records.{Record, Remains, Takes, Steps}

abbrev Source : Type 0
Source = Bor (List ℕ)

abbrev bytes_of : Source → Option (List ℕ)
bytes_of s = Some s.now

-- the records after a record that was read
record After (cfg : Config) (s : State) (left : Option (List ℕ)) (rows : List Record) (fields : Record) : Type 0 where
  pub others : List Record
  pub first : rows ≡ fields ∷ others
  pub rest : List ℕ
  pub source : left ≡ Some rest
  pub are : AreRecords cfg s rest others

no_record : {A : Type 0} (o : Option Read) (p : Read) → o ≡ None → o ≡ Some p → A
no_record o p none some = cc (sym none ∙ some)

same_read : (o : Option Read) (p q : Read) → o ≡ Some p → o ≡ Some q → p ≡ q
same_read o p q a b = cc (sym a ∙ b)

found_one : (o : Option Read) (fields : Record) (s : State) (z : List ℕ) → NextIs o true fields s z → (p : Read) × (o ≡ Some p) × (fields ≡ p.0) × (s ≡ p.1) × (z ≡ p.2)
found_one None fields s z is = cc is
found_one (Some p) fields s z is = (p, refl, is.1, is.2, is.3)

found_none : (o : Option Read) (fields : Record) (s : State) (z : List ℕ) → NextIs o false fields s z → o ≡ None
found_none None fields s z is = refl
found_none (Some p) fields s z is = cc is.0

none_at : (cfg : Config) (s t : State) (xs ys : List ℕ) → s ≡ t → xs ≡ ys → next_record cfg t [] [] ys ≡ None → next_record cfg s [] [] xs ≡ None
none_at cfg s t xs ys same alike none = rw (same, alike) none

moved : (cfg : Config) (s t : State) (xs ys : List ℕ) (rows : List Record) → s ≡ t → xs ≡ ys → AreRecords cfg s xs rows → AreRecords cfg t ys rows
moved cfg s t xs ys rows same alike are = rw (← same, ← alike) are

one_more : (cfg : Config) (s t : State) (xs : List ℕ) (left : Option (List ℕ)) (rows : List Record) (fields : Record)
    → ReadsNext cfg s (Some xs) left true fields t → AreRecords cfg s xs rows → After cfg t left rows fields
unfolding Reached
one_more cfg s t xs None rows fields reads are = absurd reads
one_more cfg s t xs (Some z) [] fields reads (s2, ys, ends, none) =
    let one = found_one _ fields t z reads in
    no_record _ one.0 (none_at cfg s s2 xs ys ends.0 ends.1 none) one.1
one_more cfg s t xs (Some z) (r ∷ rs) fields reads (s2, ys, reached, none) =
    let one = found_one _ fields t z reads in
    let same = same_read _ one.0 reached.0 one.1 reached.1 in
    record {
      others = rs;
      first = ap (λ (f : Record). f ∷ rs) (reached.2 ∙ ap (λ (p : Read). p.0) (sym same) ∙ sym one.2);
      rest = z;
      source = refl;
      are = moved cfg _ _ _ _ rs (ap (λ (p : Read). p.1) (sym same) ∙ sym one.3) (ap (λ (p : Read). p.2) (sym same) ∙ sym one.4) (s2, ys, reached.3, none);
    }

no_more : (cfg : Config) (s t : State) (xs : List ℕ) (left : Option (List ℕ)) (rows : List Record) (fields : Record)
    → ReadsNext cfg s (Some xs) left false fields t → AreRecords cfg s xs rows → rows ≡ []
unfolding Reached
no_more cfg s t xs None rows fields reads are = absurd reads
no_more cfg s t xs (Some z) [] fields reads are = refl
no_more cfg s t xs (Some z) (r ∷ rs) fields reads (s2, ys, reached, none) = no_record _ reached.0 (found_none _ fields t z reads) reached.1

-- what a read of a record makes of the records that are left
pub steps : (found : Bool) (old new : Reader Source) (fields : Record) → ReadRecord bytes_of old new found fields → (found ≡ true → Ready new)
    → (rows : List Record) → Remains old rows → Steps new rows fields found
steps true old new fields read ready rows remains =
    let after = one_more default_config (reader_state old) (reader_state new) remains.rest _ rows fields (rw (remains.config, remains.source) at read.0) remains.left in
    record {
      others = after.others;
      first = after.first;
      remains = record {
        plain = read.3 ∙ remains.plain;
        ready = ready refl;
        config = read.2 ∙ remains.config;
        rest = after.rest;
        source = rw read.1 after.source;
        left = after.are;
      };
    }
steps false old new fields read ready rows remains =
    no_more default_config (reader_state old) (reader_state new) remains.rest _ rows fields (rw (remains.config, remains.source) at read.0) remains.left

-- What is read of a text is the readable value that has it.
use Rattle.std.proofs.Common.{ℕ, suc, List, [], ◌∷◌, ◌++◌, ◌≡◌, ◌≤◌, ◌&&◌, Option, Some, None, true, length, refl, sym, ap, subst, ◌∙◌, arith}
use Rattle.std.specs.Prelude.{Result, Ok, Err, IfOk, cond, ◌==◌, nat_le}
use Rattle.std.proofs.lemmas.Bool.Decides.{nat_tests}
use Rattle.std.proofs.lemmas.List.{append-nil}
use Rattle.std.proofs.lemmas.Option.{cond_some, some_pair_parts}
use Rattle.cq_theory.specs.declared.value.Value.{Value}
use Rattle.cq_theory.specs.TypesideData.{TypesideData as Typeside}
use Rattle.cq_theory.specs.Typeside.{IsTypeside}
use Rattle.cq_theory.specs.ValueText.{value_text}
use Rattle.cq_values.specs.Readable.{IsRead, IsReadable}
use Rattle.cq_values.specs.Reading.{Front, if_whole, value_at, value_in}
use Rattle.cq_values.proofs.Forwards.{read_back}
use Rattle.cq_values.proofs.Backwards.{sound}
use Rattle.cq_values.proofs.Runs.{both}
use Rattle.cq_theory.specs.Value.{symbols_of}

pub one_value : (T : Typeside) (sort : ℕ) (v w : Value) → IsTypeside T → IsReadable T sort v → IsReadable T sort w → value_text T v ≡ value_text T w → v ≡ w
one_value T sort v w made of_v of_w same =
    let both : Some (v, []) ≡ Some (w, []) =
    sym (read_back T made of_v.within [] tt) ∙ ap (λ text. value_at T 64 sort (text ++ [])) same ∙ read_back T made of_w.within [] tt in
    (some_pair_parts v w [] [] both).0

is_short : (n : ℕ) → nat_le n 1024 ≡ true → n ≤ 1024
is_short n h = grind (arith, nat_tests)

short_is : (n : ℕ) → n ≤ 1024 → nat_le n 1024 ≡ true
short_is n h = grind (arith, nat_tests)

none_left : (rest : List ℕ) → (length rest == 0) ≡ true → rest ≡ []
none_left [] h = refl
none_left (b ∷ bs) h = absurd (no_length (length bs) h)
  where
    no_length : (n : ℕ) → (suc n == 0) ≡ true → ⊥
    no_length n h' = grind (arith, nat_tests)

module _ (T : Typeside) (sort : ℕ) (text : List ℕ) (made : IsTypeside T) where
  whole_read : (v : Value) → IsReadable T sort v → value_text T v ≡ text → if_whole (value_at T 64 sort text) ≡ Some v
  whole_read v readable is =
      ap (λ t. if_whole (value_at T 64 sort t)) (sym is ∙ sym (append-nil (value_text T v)))
      ∙ ap if_whole (read_back T made readable.within [] tt)
      ∙ ap (λ b. cond b (Some v) None) (short_is (symbols_of v) readable.symbols)

  whole_sound : (found : Front Value) (v : Value) → value_at T 64 sort text ≡ found → if_whole found ≡ Some v → IsRead T sort text (Some v)
  whole_sound None v e h = cc
  whole_sound (Some x) v e h =
      let parts = cond_some ((length x.1 == 0) && nat_le (symbols_of x.0) 1024) x.0 v h in
      let tests = both (length x.1 == 0) (nat_le (symbols_of x.0) 1024) parts.0 in
      let front = sound T 64 sort text x.0 x.1 e in
      let whole : text ≡ value_text T x.0 = front.1 ∙ ap (λ r. value_text T x.0 ++ r) (none_left x.1 tests.0) ∙ append-nil (value_text T x.0) in
      subst (λ w. IsRead T sort text (Some w)) parts.1 (record { within = front.0; symbols = is_short (symbols_of x.0) tests.1 }, sym whole)

  at_answer : (o : Option Value) → if_whole (value_at T 64 sort text) ≡ o → IsRead T sort text o
  at_answer None e = λ v readable is. cc (whole_read v readable is, e)
  at_answer (Some v) e = whole_sound (value_at T 64 sort text) v refl e

  pub exact : IsRead T sort text (value_in T sort text)
  unfolding value_in
  exact = at_answer (if_whole (value_at T 64 sort text)) refl

  pub if_read : {E : Type 0} (r : Result (Option Value) E) → IfOk r (λ found. found ≡ value_in T sort text) → IfOk r (λ found. IsRead T sort text found)
  if_read (Ok found) h = subst (IsRead T sort text) (sym h) exact
  if_read (Err e) h = tt

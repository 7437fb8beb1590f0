-- Faults one behind the other.
use Rattle.std.proofs.Common.{List, [], ◌∷◌, ◌++◌, ◌≡◌, Option, Some, None, inl, inr, refl, sym, ap, subst, ◌∙◌}
use Rattle.cq_import.specs.declared.refusal.CsvRefusal.{CsvRefusal}
use Rattle.cq_import.specs.Faults.{Fault, Tells, or_else, first_fault}

pub after_none : (first second : Option Fault) → first ≡ None → or_else first second ≡ second
after_none first second none = ap (λ f. or_else f second) none

pub both_none : (first second : Option Fault) → first ≡ None → second ≡ None → or_else first second ≡ None
both_none first second none nothing = after_none first second none ∙ nothing

pub refuses_same : (r : CsvRefusal) (fault other : Option Fault) → fault ≡ other → Tells r fault → Tells r other
refuses_same r fault other same = subst (Tells r) same

pub refuses_first : (r : CsvRefusal) (first second : Option Fault) → Tells r first → Tells r (or_else first second)
refuses_first r first second (inl memory) = inl memory
refuses_first r first second (inr is) = inr (ap (λ f. or_else f second) is)

pub refuses_after : (r : CsvRefusal) (first second : Option Fault) → first ≡ None → Tells r second → Tells r (or_else first second)
refuses_after r first second none = refuses_same r second (or_else first second) (sym (after_none first second none))

pub or_else-assoc : (a b c : Option Fault) → or_else (or_else a b) c ≡ or_else a (or_else b c)
or_else-assoc None b c = refl
or_else-assoc (Some f) b c = refl

pub first_fault-append : (xs ys : List (Option Fault)) → first_fault (xs ++ ys) ≡ or_else (first_fault xs) (first_fault ys)
first_fault-append [] ys = refl
first_fault-append (x ∷ xs) ys = ap (or_else x) (first_fault-append xs ys) ∙ sym (or_else-assoc x (first_fault xs) (first_fault ys))

-- The test of values for equality decides it.
use Rattle.std.proofs.Common.{Bool, true, false, ◌≡◌, ◌&&◌, ◌↔◌, refl, sym, ap, ◌∙◌}
use Rattle.std.proofs.lemmas.Bool.{and_parts, eqb-true, eq-eqb}
use base.Stored.{Gv, gnil, gnum, gcons}
use Rattle.cq_theory.specs.contracts.value.Value as value
use Rattle.cq_theory.specs.declared.value.Value.{Value}
use Rattle.cq_instance.specs.SameValue.{same_code, same_value}

code_itself : (a : Gv) → same_code a a ≡ true
code_itself gnil = refl
code_itself (gnum n) = eq-eqb n n refl
code_itself (gcons a b) = λ i. code_itself a i && code_itself b i

same_from_code : (a b : Gv) → same_code a b ≡ true → a ≡ b
same_from_code gnil gnil h = refl
same_from_code gnil (gnum n) h = cc
same_from_code gnil (gcons c d) h = cc
same_from_code (gnum m) gnil h = cc
same_from_code (gnum m) (gnum n) h = ap gnum (eqb-true m n h)
same_from_code (gnum m) (gcons c d) h = cc
same_from_code (gcons a b) gnil h = cc
same_from_code (gcons a b) (gnum n) h = cc
same_from_code (gcons a b) (gcons c d) h = let both = and_parts (same_code a c) (same_code b d) h in λ i. gcons (same_from_code a c both.0 i) (same_from_code b d both.1 i)

pub same_from_value : (v w : Value) → same_value v w ≡ true → v ≡ w
unfolding same_value
same_from_value v w h = value.the_row.coded.inj v w (same_from_code (value.the_row.coded.code v) (value.the_row.coded.code w) h)

pub value_from_same : (v w : Value) → v ≡ w → same_value v w ≡ true
unfolding same_value
value_from_same v w h = ap (λ x. same_code (value.the_row.coded.code v) (value.the_row.coded.code x)) (sym h) ∙ code_itself (value.the_row.coded.code v)

pub same_is : (b : Bool) (v w : Value) → ((b ≡ true) ↔ (v ≡ w)) → b ≡ same_value v w
same_is true v w h = sym (value_from_same v w (h.0 refl))
same_is false v w h = other (same_value v w) refl
  where
    other : (c : Bool) → same_value v w ≡ c → false ≡ c
    other false e = refl
    other true e = let both : false ≡ true = h.1 (same_from_value v w e) in cc

use Rattle.std.proofs.Common.{refl, sym}
use Rattle.cq_terms.proofs.Sameness.{apart, Gen_Const, Gen_Att, Gen_Fun, Const_Att, Const_Fun, Att_Fun, same_Gen, same_Const, same_Att, other_Att, same_Fun, other_Fun, lengths_apart, members_apart, members_same, all_same}
use Rattle.cq_terms.proofs.same.+type_terms.Goals as goal

pub are_same_type_terms-returns-then-left-right : goal.are_same_type_terms-returns-then-left-right
are_same_type_terms-returns-then-left-right t c = lengths_apart c.args.left.now c.args.right.now c.if-left-right.true

pub are_same_type_terms-loop-place-init : goal.are_same_type_terms-loop-place-init
are_same_type_terms-loop-place-init t c = refl

pub are_same_type_terms-returns-then-not-is_same_type_term :
    goal.are_same_type_terms-returns-then-not-is_same_type_term
are_same_type_terms-returns-then-not-is_same_type_term t c =
    members_apart c.args.left.now c.args.right.now c.loop-place.place c.index-left-place.result c.index-right-place.result
    c.loop-place-test.true c.if-left-right.false c.index-left-place.is c.index-right-place.is c.is_same_type_term.result c.if-not-is_same_type_term.true c.is_same_type_term.ensures

pub are_same_type_terms-loop-place-preserved : goal.are_same_type_terms-loop-place-preserved
are_same_type_terms-loop-place-preserved t c =
    members_same c.args.left.now c.args.right.now c.loop-place.place c.index-left-place.result c.index-right-place.result
    c.loop-place-test.true c.if-left-right.false c.index-left-place.is c.index-right-place.is c.is_same_type_term.result c.if-not-is_same_type_term.false c.is_same_type_term.ensures
    c.loop-place.invariant

pub are_same_type_terms-returns : goal.are_same_type_terms-returns
are_same_type_terms-returns t c = all_same c.args.left.now c.args.right.now c.loop-place.place c.loop-place-test.false c.if-left-right.false c.loop-place.invariant

pub is_same_type_term-returns-in-Gen-right : goal.is_same_type_term-returns-in-Gen-right
is_same_type_term-returns-in-Gen-right t c = same_Gen c.args.left.now c.args.right.now c.in-Gen.number c.in-Gen-right.other c.in-Gen.is c.in-Gen-right.is

pub is_same_type_term-returns-in-Const-right : goal.is_same_type_term-returns-in-Const-right
is_same_type_term-returns-in-Const-right t c = apart c.args.left.now c.args.right.now (Gen_Const _ _ _ _ c.in-Gen.is c.in-Const-right.is)

pub is_same_type_term-returns-in-Att-right : goal.is_same_type_term-returns-in-Att-right
is_same_type_term-returns-in-Att-right t c = apart c.args.left.now c.args.right.now (Gen_Att _ _ _ _ _ c.in-Gen.is c.in-Att-right.is)

pub is_same_type_term-returns-in-Fun-right : goal.is_same_type_term-returns-in-Fun-right
is_same_type_term-returns-in-Fun-right t c = apart c.args.left.now c.args.right.now (Gen_Fun _ _ _ _ _ c.in-Gen.is c.in-Fun-right.is)

pub is_same_type_term-returns-in-Gen-right-2 : goal.is_same_type_term-returns-in-Gen-right-2
is_same_type_term-returns-in-Gen-right-2 t c = apart c.args.left.now c.args.right.now (λ h. Gen_Const _ _ _ _ c.in-Gen-right-2.is c.in-Const.is (sym h))

pub is_same_type_term-returns-in-Const-right-2 : goal.is_same_type_term-returns-in-Const-right-2
is_same_type_term-returns-in-Const-right-2 t c =
    same_Const c.args.left.now c.args.right.now c.in-Const.constant c.in-Const-right-2.other c.eq.result c.in-Const.is c.in-Const-right-2.is c.eq.ensures

pub is_same_type_term-returns-in-Att-right-2 : goal.is_same_type_term-returns-in-Att-right-2
is_same_type_term-returns-in-Att-right-2 t c = apart c.args.left.now c.args.right.now (Const_Att _ _ _ _ _ c.in-Const.is c.in-Att-right-2.is)

pub is_same_type_term-returns-in-Fun-right-2 : goal.is_same_type_term-returns-in-Fun-right-2
is_same_type_term-returns-in-Fun-right-2 t c = apart c.args.left.now c.args.right.now (Const_Fun _ _ _ _ _ c.in-Const.is c.in-Fun-right-2.is)

pub is_same_type_term-returns-in-Gen-right-3 : goal.is_same_type_term-returns-in-Gen-right-3
is_same_type_term-returns-in-Gen-right-3 t c = apart c.args.left.now c.args.right.now (λ h. Gen_Att _ _ _ _ _ c.in-Gen-right-3.is c.in-Att.is (sym h))

pub is_same_type_term-returns-in-Const-right-3 : goal.is_same_type_term-returns-in-Const-right-3
is_same_type_term-returns-in-Const-right-3 t c = apart c.args.left.now c.args.right.now (λ h. Const_Att _ _ _ _ _ c.in-Const-right-3.is c.in-Att.is (sym h))

pub is_same_type_term-returns-then-attribute-other :
    goal.is_same_type_term-returns-then-attribute-other
is_same_type_term-returns-then-attribute-other t c =
    same_Att c.args.left.now c.args.right.now c.in-Att.attribute c.in-Att-right-3.other c.in-Att.term c.in-Att-right-3.with c.is_same_entity_term.result
    c.in-Att.is c.in-Att-right-3.is c.if-attribute-other.true c.is_same_entity_term.ensures

pub is_same_type_term-returns-else-attribute-other :
    goal.is_same_type_term-returns-else-attribute-other
is_same_type_term-returns-else-attribute-other t c =
    other_Att c.args.left.now c.args.right.now c.in-Att.attribute c.in-Att-right-3.other c.in-Att.term c.in-Att-right-3.with
    c.in-Att.is c.in-Att-right-3.is c.if-attribute-other.false

pub is_same_type_term-returns-in-Fun-right-3 : goal.is_same_type_term-returns-in-Fun-right-3
is_same_type_term-returns-in-Fun-right-3 t c = apart c.args.left.now c.args.right.now (Att_Fun _ _ _ _ _ _ c.in-Att.is c.in-Fun-right-3.is)

pub is_same_type_term-returns-in-Gen-right-4 : goal.is_same_type_term-returns-in-Gen-right-4
is_same_type_term-returns-in-Gen-right-4 t c = apart c.args.left.now c.args.right.now (λ h. Gen_Fun _ _ _ _ _ c.in-Gen-right-4.is c.in-Fun.is (sym h))

pub is_same_type_term-returns-in-Const-right-4 : goal.is_same_type_term-returns-in-Const-right-4
is_same_type_term-returns-in-Const-right-4 t c = apart c.args.left.now c.args.right.now (λ h. Const_Fun _ _ _ _ _ c.in-Const-right-4.is c.in-Fun.is (sym h))

pub is_same_type_term-returns-in-Att-right-4 : goal.is_same_type_term-returns-in-Att-right-4
is_same_type_term-returns-in-Att-right-4 t c = apart c.args.left.now c.args.right.now (λ h. Att_Fun _ _ _ _ _ _ c.in-Att-right-4.is c.in-Fun.is (sym h))

pub is_same_type_term-returns-then-function-other :
    goal.is_same_type_term-returns-then-function-other
is_same_type_term-returns-then-function-other t c =
    same_Fun c.args.left.now c.args.right.now c.in-Fun.function c.in-Fun-right-4.other c.in-Fun.args c.in-Fun-right-4.others c.as_slice.result.now c.as_slice-then-function-other.result.now c.are_same_type_terms.result
    c.in-Fun.is c.in-Fun-right-4.is c.if-function-other.true c.as_slice.ensures c.as_slice-then-function-other.ensures c.are_same_type_terms.ensures

pub is_same_type_term-returns-else-function-other :
    goal.is_same_type_term-returns-else-function-other
is_same_type_term-returns-else-function-other t c =
    other_Fun c.args.left.now c.args.right.now c.in-Fun.function c.in-Fun-right-4.other c.in-Fun.args c.in-Fun-right-4.others
    c.in-Fun.is c.in-Fun-right-4.is c.if-function-other.false

use Rattle.std.proofs.Common.{refl, sym}
use Rattle.cq_terms.proofs.Sameness.{apart, Const_Null, Const_Fun_value, Null_Fun, same_Const_value, same_Null, same_Fun_value, other_Fun_value, lengths_apart, members_apart, members_same, all_same}
use Rattle.cq_terms.proofs.same.+values.Goals as goal

pub are_same_values-returns-then-left-right : goal.are_same_values-returns-then-left-right
are_same_values-returns-then-left-right t c = lengths_apart c.args.left.now c.args.right.now c.if-left-right.true

pub are_same_values-loop-place-init : goal.are_same_values-loop-place-init
are_same_values-loop-place-init t c = refl

pub are_same_values-returns-then-not-is_same_value :
    goal.are_same_values-returns-then-not-is_same_value
are_same_values-returns-then-not-is_same_value t c =
    members_apart c.args.left.now c.args.right.now c.loop-place.place c.index-left-place.result c.index-right-place.result
    c.loop-place-test.true c.if-left-right.false c.index-left-place.is c.index-right-place.is c.is_same_value.result c.if-not-is_same_value.true c.is_same_value.ensures

pub are_same_values-loop-place-preserved : goal.are_same_values-loop-place-preserved
are_same_values-loop-place-preserved t c =
    members_same c.args.left.now c.args.right.now c.loop-place.place c.index-left-place.result c.index-right-place.result
    c.loop-place-test.true c.if-left-right.false c.index-left-place.is c.index-right-place.is c.is_same_value.result c.if-not-is_same_value.false c.is_same_value.ensures
    c.loop-place.invariant

pub are_same_values-returns : goal.are_same_values-returns
are_same_values-returns t c = all_same c.args.left.now c.args.right.now c.loop-place.place c.loop-place-test.false c.if-left-right.false c.loop-place.invariant

pub is_same_value-returns-in-Const-right : goal.is_same_value-returns-in-Const-right
is_same_value-returns-in-Const-right t c =
    same_Const_value c.args.left.now c.args.right.now c.in-Const.constant c.in-Const-right.other c.eq.result c.in-Const.is c.in-Const-right.is c.eq.ensures

pub is_same_value-returns-in-Null-right : goal.is_same_value-returns-in-Null-right
is_same_value-returns-in-Null-right t c = apart c.args.left.now c.args.right.now (Const_Null _ _ _ _ c.in-Const.is c.in-Null-right.is)

pub is_same_value-returns-in-Fun-right : goal.is_same_value-returns-in-Fun-right
is_same_value-returns-in-Fun-right t c = apart c.args.left.now c.args.right.now (Const_Fun_value _ _ _ _ _ c.in-Const.is c.in-Fun-right.is)

pub is_same_value-returns-in-Const-right-2 : goal.is_same_value-returns-in-Const-right-2
is_same_value-returns-in-Const-right-2 t c = apart c.args.left.now c.args.right.now (λ h. Const_Null _ _ _ _ c.in-Const-right-2.is c.in-Null.is (sym h))

pub is_same_value-returns-in-Null-right-2 : goal.is_same_value-returns-in-Null-right-2
is_same_value-returns-in-Null-right-2 t c = same_Null c.args.left.now c.args.right.now c.in-Null.label c.in-Null-right-2.other c.in-Null.is c.in-Null-right-2.is

pub is_same_value-returns-in-Fun-right-2 : goal.is_same_value-returns-in-Fun-right-2
is_same_value-returns-in-Fun-right-2 t c = apart c.args.left.now c.args.right.now (Null_Fun _ _ _ _ _ c.in-Null.is c.in-Fun-right-2.is)

pub is_same_value-returns-in-Const-right-3 : goal.is_same_value-returns-in-Const-right-3
is_same_value-returns-in-Const-right-3 t c = apart c.args.left.now c.args.right.now (λ h. Const_Fun_value _ _ _ _ _ c.in-Const-right-3.is c.in-Fun.is (sym h))

pub is_same_value-returns-in-Null-right-3 : goal.is_same_value-returns-in-Null-right-3
is_same_value-returns-in-Null-right-3 t c = apart c.args.left.now c.args.right.now (λ h. Null_Fun _ _ _ _ _ c.in-Null-right-3.is c.in-Fun.is (sym h))

pub is_same_value-returns-then-function-other :
    goal.is_same_value-returns-then-function-other
is_same_value-returns-then-function-other t c =
    same_Fun_value c.args.left.now c.args.right.now c.in-Fun.function c.in-Fun-right-3.other c.in-Fun.args c.in-Fun-right-3.others c.as_slice.result.now c.as_slice-then-function-other.result.now c.are_same_values.result
    c.in-Fun.is c.in-Fun-right-3.is c.if-function-other.true c.as_slice.ensures c.as_slice-then-function-other.ensures c.are_same_values.ensures

pub is_same_value-returns-else-function-other :
    goal.is_same_value-returns-else-function-other
is_same_value-returns-else-function-other t c =
    other_Fun_value c.args.left.now c.args.right.now c.in-Fun.function c.in-Fun-right-3.other c.in-Fun.args c.in-Fun-right-3.others
    c.in-Fun.is c.in-Fun-right-3.is c.if-function-other.false

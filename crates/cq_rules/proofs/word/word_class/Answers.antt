use Rattle.std.proofs.Common.{arith}
use Rattle.cq_rules.proofs.ByLength.{class_of_length, class_of_other}
use Rattle.cq_rules.proofs.word.word_class.Goals as goal

pub returns-in-2 : goal.returns-in-2
returns-in-2 c = class_of_length 2 c.args.word.now _ c.in-2.is c.of_two.ensures

pub returns-in-3 : goal.returns-in-3
returns-in-3 c = class_of_length 3 c.args.word.now _ c.in-3.is c.of_three.ensures

pub returns-in-4 : goal.returns-in-4
returns-in-4 c = class_of_length 4 c.args.word.now _ c.in-4.is c.of_four.ensures

pub returns-in-5 : goal.returns-in-5
returns-in-5 c = class_of_length 5 c.args.word.now _ c.in-5.is c.of_five.ensures

pub returns-in-6 : goal.returns-in-6
returns-in-6 c = class_of_length 6 c.args.word.now _ c.in-6.is c.of_six.ensures

pub returns-in-7 : goal.returns-in-7
returns-in-7 c = class_of_length 7 c.args.word.now _ c.in-7.is c.of_seven.ensures

pub returns-in-8 : goal.returns-in-8
returns-in-8 c = class_of_length 8 c.args.word.now _ c.in-8.is c.of_eight.ensures

pub returns-in-9 : goal.returns-in-9
returns-in-9 c = class_of_length 9 c.args.word.now _ c.in-9.is c.of_nine.ensures

pub returns-in-10 : goal.returns-in-10
returns-in-10 c = class_of_length 10 c.args.word.now _ c.in-10.is c.of_ten.ensures

pub returns-in-11 : goal.returns-in-11
returns-in-11 c = class_of_length 11 c.args.word.now _ c.in-11.is c.of_eleven.ensures

pub returns-in-12 : goal.returns-in-12
returns-in-12 c = class_of_length 12 c.args.word.now _ c.in-12.is c.of_twelve.ensures

pub returns-in-14 : goal.returns-in-14
returns-in-14 c = class_of_length 14 c.args.word.now _ c.in-14.is c.of_fourteen.ensures

pub returns-in-16 : goal.returns-in-16
returns-in-16 c = class_of_length 16 c.args.word.now _ c.in-16.is c.of_sixteen.ensures

pub returns-in-18 : goal.returns-in-18
returns-in-18 c = class_of_length 18 c.args.word.now _ c.in-18.is c.of_eighteen.ensures

pub returns-in-21 : goal.returns-in-21
returns-in-21 c = class_of_length 21 c.args.word.now _ c.in-21.is c.of_twenty_one.ensures

pub returns-in_default : goal.returns-in_default
returns-in_default c = class_of_other c.args.word.now ((λ e. omega arith), ((λ e. omega arith), ((λ e. omega arith), ((λ e. omega arith), ((λ e. omega arith), ((λ e. omega arith), ((λ e. omega arith), ((λ e. omega arith), ((λ e. omega arith), ((λ e. omega arith), ((λ e. omega arith), ((λ e. omega arith), ((λ e. omega arith), ((λ e. omega arith), ((λ e. omega arith), tt)))))))))))))))

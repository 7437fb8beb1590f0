use Rattle.std.proofs.Common.{◌≡◌, true, subst, sym, Ok}
use Rattle.std.specs.Prelude.{IfOk}
use Rattle.cq_theory.specs.declared.constant.Con.{Con}
use Rattle.cq_theory.specs.ValueText.{is_named_con}
use Rattle.cq_environment.specs.Environment.{IsTermModel}
use Rattle.cq_program.proofs.Answered.{told_of, unmade_clash_made, unmade_deep, unmade_large, unmade_wide}
use Rattle.cq_program.proofs.made.mean_model.Goals as goal

pub tell_clash-requires-clause-least : goal.tell_clash-requires-clause-least
tell_clash-requires-clause-least c =
    subst (λ (d : Con). is_named_con c.args.typeside.now d ≡ true) (sym c.in-Err-Inconsistent.least-is)
    (c.requires.named c.in-Err-Inconsistent.least c.in-Err-Inconsistent.greater (cc)).0

pub tell_clash-requires-clause-greater : goal.tell_clash-requires-clause-greater
tell_clash-requires-clause-greater c =
    subst (λ (d : Con). is_named_con c.args.typeside.now d ≡ true) (sym c.in-Err-Inconsistent.greater-is)
    (c.requires.named c.in-Err-Inconsistent.least c.in-Err-Inconsistent.greater (cc)).1

pub returns-in-Err-Depth-clause-refused : goal.returns-in-Err-Depth-clause-refused
returns-in-Err-Depth-clause-refused c = λ S P depth typeside of. unmade_deep S P depth c.args.answer of c.args.place c.args.name (cc)

pub returns-in-Err-TooManyRows-clause-refused : goal.returns-in-Err-TooManyRows-clause-refused
returns-in-Err-TooManyRows-clause-refused c = λ S P depth typeside of. unmade_wide S P depth c.args.answer of c.args.place c.args.name (cc)

pub returns-in-Err-TooLarge-clause-refused : goal.returns-in-Err-TooLarge-clause-refused
returns-in-Err-TooLarge-clause-refused c = λ S P depth typeside of. unmade_large S P depth c.args.answer of c.args.place c.args.name (cc)

pub returns-in-Err-Inconsistent-clause-refused : goal.returns-in-Err-Inconsistent-clause-refused
returns-in-Err-Inconsistent-clause-refused c = λ S P depth typeside of.
    unmade_clash_made S P depth c.args.answer of c.args.place c.args.name c.args.typeside.now typeside c.in-Err-Inconsistent.least c.in-Err-Inconsistent.greater c.tell_clash.result (cc)
    (told_of c.args.place c.args.typeside.now _ c.in-Err-Inconsistent.least _ c.in-Err-Inconsistent.greater c.tell_clash.result c.in-Err-Inconsistent.least-is c.in-Err-Inconsistent.greater-is c.tell_clash.ensures)

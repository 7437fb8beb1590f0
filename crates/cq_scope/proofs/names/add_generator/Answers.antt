use Rattle.std.proofs.Common.{true, false, ◌≡◌, ◌∙◌, sym, ap}
use Rattle.std.specs.Prelude.{is_some}
use Rattle.cq_base.specs.Names.{number_of}
use Rattle.cq_scope.proofs.Added.{added, known, none_of}
use Rattle.cq_scope.proofs.names.add_generator.Goals as goal

pub returns-then-is_some : goal.returns-then-is_some
returns-then-is_some c = λ G is firsts.
    let there : is_some (number_of c.args.names.now c.args.generator.now.0) ≡ true = ap is_some (sym c.find.ensures) ∙ sym c.is_some.ensures ∙ c.if-is_some.true in
    known G c.args.names.now c.args.sorts.now.items c.args.numbers.now.items c.args.generator.now there firsts

pub returns : goal.returns
returns c = λ G is firsts.
    let absent : is_some (number_of c.args.names.now c.args.generator.now.0) ≡ false = ap is_some (sym c.find.ensures) ∙ sym c.is_some.ensures ∙ c.if-is_some.false in
    added G c.args.names.now c.args.sorts.now.items c.args.numbers.now.items c.args.generator.now c.args.number c.add_name.new.names c.push.new.self.items c.push-2.new.self.items
    is firsts (none_of (number_of c.args.names.now c.args.generator.now.0) absent) c.in_ok-add_name.ensures c.in_ok-push.ensures.items c.in_ok-push-2.ensures.items

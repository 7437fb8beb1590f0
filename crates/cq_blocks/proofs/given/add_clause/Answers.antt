use Rattle.std.proofs.Common.{◌∙◌, sym, ap}
use Rattle.std.specs.List.{list_any}
use Rattle.std.proofs.lemmas.Result.{IfOk-weaker}
use Rattle.cq_blocks.specs.Blocks.{gives_same, gives_symbol, gives_variable}
use Rattle.cq_blocks.proofs.Repeats.{none_taken, symbol_given, variable_given}
use Rattle.cq_blocks.proofs.given.add_clause.Goals as goal

pub returns-in-Test-clause-taken : goal.returns-in-Test-clause-taken
returns-in-Test-clause-taken c = λ earlier given. none_taken earlier ∙ sym (ap (λ p. list_any (λ d. gives_same p d.1) earlier) c.in-Test.is)

pub returns-in-Att-clause-taken : goal.returns-in-Att-clause-taken
returns-in-Att-clause-taken c = λ earlier given.
    IfOk-weaker c.add_symbol.result _ _ (λ taken h. h ∙ given.of_symbols c.in-Att.name ∙ sym (ap (λ p. list_any (λ d. gives_same p d.1) earlier) c.in-Att.is)) c.add_symbol.ensures.taken

pub returns-in-Att-clause-added : goal.returns-in-Att-clause-added
returns-in-Att-clause-added c = λ earlier block given.
    IfOk-weaker c.add_symbol.result _ _
    (λ _ h. symbol_given earlier block c.args.part.now c.args.symbols.now.keys c.args.assigned.now.keys given c.in-Att.name (λ q. ap (gives_symbol q) c.in-Att.is) (λ k v. ap (gives_variable k v) c.in-Att.is) c.add_symbol.new.symbols.keys h)
    c.add_symbol.ensures.added

pub returns-in-Key-clause-taken : goal.returns-in-Key-clause-taken
returns-in-Key-clause-taken c = λ earlier given.
    IfOk-weaker c.add_symbol-in-Key.result _ _ (λ taken h. h ∙ given.of_symbols c.in-Key.name ∙ sym (ap (λ p. list_any (λ d. gives_same p d.1) earlier) c.in-Key.is)) c.add_symbol-in-Key.ensures.taken

pub returns-in-Key-clause-added : goal.returns-in-Key-clause-added
returns-in-Key-clause-added c = λ earlier block given.
    IfOk-weaker c.add_symbol-in-Key.result _ _
    (λ _ h. symbol_given earlier block c.args.part.now c.args.symbols.now.keys c.args.assigned.now.keys given c.in-Key.name (λ q. ap (gives_symbol q) c.in-Key.is) (λ k v. ap (gives_variable k v) c.in-Key.is) c.add_symbol-in-Key.new.symbols.keys h)
    c.add_symbol-in-Key.ensures.added

pub returns-in-Assign-clause-added : goal.returns-in-Assign-clause-added
returns-in-Assign-clause-added c = λ earlier block given.
    IfOk-weaker c.add_assigned.result _ _
    (λ _ h. variable_given earlier block c.args.part.now c.args.symbols.now.keys c.args.assigned.now.keys given c.in-Assign.key c.in-Assign.variable (λ q. ap (gives_symbol q) c.in-Assign.is) (λ k v. ap (gives_variable k v) c.in-Assign.is) c.add_assigned.new.assigned.keys h)
    c.add_assigned.ensures.added

use Rattle.std.proofs.Common.{Some, None, ◌≡◌, ◌-◌, length, sym, ap, ◌∙◌, arith}
use Rattle.std.specs.Prelude.{slice_get, option_copied}
use Rattle.std.proofs.lemmas.Result.{err_from_is_err_and}
use Rattle.cq_theory.specs.Resolve.{equation_fault}
use Rattle.cq_theory.specs.Resolved.{resolved}
use Rattle.cq_theory.specs.Parts.{equation_of}
use Rattle.cq_theory.proofs.Waiting.{waiting_begins, waiting_step, waiting_refused, waiting_ends, one_fewer, some_left}
use Rattle.cq_theory.proofs.lookup.parts.resolve_equations.Goals as goal

pub waiting-init : goal.waiting-init
waiting-init c =
    let w = waiting_begins (equation_fault c.args.schema.now c.args.names.now c.args.sorts.now)
    (λ e. equation_of (resolved c.args.schema.now c.args.names.now c.args.sorts.now e.0) (resolved c.args.schema.now c.args.names.now c.args.sorts.now e.1))
    c.args.equations.items c.args.first c.reverse.new.self.items c.in_ok-made.made.items c.reverse.ensures.items c.in_ok-made.ensures.items in
    record { count = w.0; rest = w.1; made = w.2 }

pub waiting-smaller : goal.waiting-smaller
waiting-smaller c =
    let last : slice_get c.waiting.waiting.items (length c.waiting.waiting.items - 1) ≡ Some c.in-Some.written.now =
    sym (ap (λ l. slice_get l (length l - 1)) c.deref.ensures.value) ∙ sym c.in-Some.ensures.value in
    let fewer = one_fewer c.waiting.waiting.items c.give_back_last.new.waiting.items c.in-Some.written.now last c.give_back_last.ensures in
    omega (arith, fewer)

pub waiting-preserved : goal.waiting-preserved
waiting-preserved c =
    let last : slice_get c.waiting.waiting.items (length c.waiting.waiting.items - 1) ≡ Some c.in-Some.written.now =
    sym (ap (λ l. slice_get l (length l - 1)) c.deref.ensures.value) ∙ sym c.in-Some.ensures.value in
    let w = waiting_step (equation_fault c.args.schema.now c.args.names.now c.args.sorts.now)
    (λ e. equation_of (resolved c.args.schema.now c.args.names.now c.args.sorts.now e.0) (resolved c.args.schema.now c.args.names.now c.args.sorts.now e.1))
    c.args.equations.items c.args.first c.waiting.part c.waiting.waiting.items c.give_back_last.new.waiting.items c.waiting.made.items c.push.new.self.items
    c.in-Some.written.now c.in_ok-equation.equation last c.give_back_last.ensures c.in_ok-equation.ensures.accepted c.in_ok-equation.ensures.made
    c.in_ok-push.ensures.items c.waiting.invariant.count c.waiting.invariant.rest c.waiting.invariant.made in
    record { count = w.0; rest = w.1; made = w.2 }

pub overflow_add-part : goal.overflow_add-part
overflow_add-part c =
    let last : slice_get c.waiting.waiting.items (length c.waiting.waiting.items - 1) ≡ Some c.in-Some.written.now =
    sym (ap (λ l. slice_get l (length l - 1)) c.deref.ensures.value) ∙ sym c.in-Some.ensures.value in
    let some = some_left c.waiting.waiting.items c.in-Some.written.now last in
    omega (arith, some, c.requires, c.waiting.invariant.count)

pub returns-in_err-equation-clause-refused : goal.returns-in_err-equation-clause-refused
returns-in_err-equation-clause-refused c =
    let last : slice_get c.waiting.waiting.items (length c.waiting.waiting.items - 1) ≡ Some c.in-Some.written.now =
    sym (ap (λ l. slice_get l (length l - 1)) c.deref.ensures.value) ∙ sym c.in-Some.ensures.value in
    let p = err_from_is_err_and c.from_residual-in_err-equation.result c.from_residual-in_err-equation.ensures.1 in
    rw (p.1, p.2)
    (waiting_refused (equation_fault c.args.schema.now c.args.names.now c.args.sorts.now)
    (λ e. equation_of (resolved c.args.schema.now c.args.names.now c.args.sorts.now e.0) (resolved c.args.schema.now c.args.names.now c.args.sorts.now e.1))
    c.args.equations.items c.args.first c.waiting.part c.waiting.waiting.items c.in-Some.written.now _ last c.waiting.invariant.rest c.in_err-equation.ensures.refused)

pub returns-clause-accepted : goal.returns-clause-accepted
returns-clause-accepted c =
    let none : slice_get c.waiting.waiting.items (length c.waiting.waiting.items - 1) ≡ None =
    sym (ap (λ l. slice_get l (length l - 1)) c.deref.ensures.value) ∙ sym c.last.ensures.value ∙ ap option_copied c.in_default.is in
    (waiting_ends (equation_fault c.args.schema.now c.args.names.now c.args.sorts.now)
    (λ e. equation_of (resolved c.args.schema.now c.args.names.now c.args.sorts.now e.0) (resolved c.args.schema.now c.args.names.now c.args.sorts.now e.1))
    c.args.equations.items c.args.first c.waiting.part c.waiting.waiting.items c.waiting.made.items none c.waiting.invariant.rest c.waiting.invariant.made).0

pub returns-clause-made : goal.returns-clause-made
returns-clause-made c =
    let none : slice_get c.waiting.waiting.items (length c.waiting.waiting.items - 1) ≡ None =
    sym (ap (λ l. slice_get l (length l - 1)) c.deref.ensures.value) ∙ sym c.last.ensures.value ∙ ap option_copied c.in_default.is in
    (waiting_ends (equation_fault c.args.schema.now c.args.names.now c.args.sorts.now)
    (λ e. equation_of (resolved c.args.schema.now c.args.names.now c.args.sorts.now e.0) (resolved c.args.schema.now c.args.names.now c.args.sorts.now e.1))
    c.args.equations.items c.args.first c.waiting.part c.waiting.waiting.items c.waiting.made.items none c.waiting.invariant.rest c.waiting.invariant.made).1

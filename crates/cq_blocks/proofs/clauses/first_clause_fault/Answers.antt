use Rattle.std.proofs.Common.{◌≡◌, take, refl, sym, ◌∙◌, arith}
use Rattle.cq_blocks.specs.Blocks.{clause_fault}
use Rattle.cq_blocks.proofs.Repeats.{nothing_given, given_more, clause_refused, clause_passed}
use Rattle.cq_blocks.proofs.clauses.first_clause_fault.Goals as goal

pub loop-part-init : goal.loop-part-init
loop-part-init c = (omega arith, nothing_given c.with_hasher-symbols.result.keys c.with_hasher-assigned.result.keys c.with_hasher-symbols.ensures.empty c.with_hasher-assigned.ensures.empty, refl)

pub loop-part-preserved : goal.loop-part-preserved
loop-part-preserved c =
    let here : c.fault_of_clause-fault.result ≡ clause_fault c.args.making.now.source.now c.args.making.now.target.now c.args.making.now.entities.now c.args.making.now.scopes.now (take c.loop-part.part-index c.args.making.now.clauses.now) c.loop-part.number c.part-item.result
    = c.fault_of_clause-fault.ensures (take c.loop-part.part-index c.args.making.now.clauses.now) (c.in_ok-is_given.ensures.taken (take c.loop-part.part-index c.args.making.now.clauses.now) c.loop-part.invariant.1) in (
      omega (arith, c.loop-part.invariant.0),
      given_more c.loop-part.part-index c.args.making.now.clauses.now c.part-item.result c.add_clause.new.symbols.keys c.add_clause.new.assigned.keys c.part-item.is c.loop-part-test.true
          (c.in_ok-is_given.ensures.added (take c.loop-part.part-index c.args.making.now.clauses.now) c.part-item.result.0 c.loop-part.invariant.1),
      clause_passed c.args.making.now.source.now c.args.making.now.target.now c.args.making.now.entities.now c.args.making.now.scopes.now c.args.making.now.first c.loop-part.number c.loop-part.part-index c.args.making.now.clauses.now c.part-item.result
          c.part-item.is c.loop-part-test.true c.loop-part.invariant.2 c.fault_of_clause-fault.result here (sym c.is_some.ensures ∙ c.if-is_some.false),
    )

pub returns-then-is_some : goal.returns-then-is_some
returns-then-is_some c =
    let here : c.fault_of_clause-fault.result ≡ clause_fault c.args.making.now.source.now c.args.making.now.target.now c.args.making.now.entities.now c.args.making.now.scopes.now (take c.loop-part.part-index c.args.making.now.clauses.now) c.loop-part.number c.part-item.result
    = c.fault_of_clause-fault.ensures (take c.loop-part.part-index c.args.making.now.clauses.now) (c.in_ok-is_given.ensures.taken (take c.loop-part.part-index c.args.making.now.clauses.now) c.loop-part.invariant.1) in
    clause_refused c.args.making.now.source.now c.args.making.now.target.now c.args.making.now.entities.now c.args.making.now.scopes.now c.args.making.now.first c.loop-part.number c.loop-part.part-index c.args.making.now.clauses.now c.part-item.result
    c.part-item.is c.loop-part-test.true c.loop-part.invariant.2 c.fault_of_clause-fault.result here (sym c.is_some.ensures ∙ c.if-is_some.true)

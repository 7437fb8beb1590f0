use Rattle.std.proofs.Common.{List, [], ◌∷◌, ◌≡◌, ◌<◌, Vec, Global, map, length, refl, sym, subst, ap, ◌∙◌, arith, rules}
use Rattle.std.specs.Prelude.{All}
use Rattle.cq_theory.specs.declared.presentation.Equation.{Equation}
use Rattle.cq_blocks.proofs.Blocking.{IsUpTo, with_tests, one_more, all_made}
use Rattle.cq_blocks.proofs.blocks.build_blocks.Goals as goal

pub build_tests-requires-clause-entities : goal.build_tests-requires-clause-entities
build_tests-requires-clause-entities c =
    subst (λ n. All (λ entity. entity < n) c.args.making.now.entities.now) (sym c.requires.making.scopes) c.requires.making.entities

pub build_tests-requires-clause-blocks : goal.build_tests-requires-clause-blocks
build_tests-requires-clause-blocks c = c.requires.making.clauses

pub loop-tests-preserved : goal.loop-tests-preserved
loop-tests-preserved c =
    let next : c.loop-tests.tests-iterator.rest.items ≡ c.in-Some.tests ∷ c.next.new.self.rest.items = search rules in
    let size : c.len-entity.result ≡ length c.loop-tests.made.items = search rules in
    one_more c.args.making.now.source.now c.args.making.now.target.now c.args.making.now.entities.now c.args.making.now.scopes.now c.args.making.now.clauses.now c.loop-tests.made.items c.push.new.self.items c.in-Some.tests.items
    (map (λ (list : Vec Equation Global). list.items) c.next.new.self.rest.items) c.in_ok-make_block_at.field-0
    (subst (λ lists. IsUpTo c.args.making.now.source.now c.args.making.now.target.now c.args.making.now.entities.now c.args.making.now.scopes.now c.args.making.now.clauses.now c.loop-tests.made.items (map (λ (list : Vec Equation Global). list.items) lists)) next c.loop-tests.invariant)
    (c.in_ok-make_block_at.ensures ∙ ap (λ n. with_tests c.args.making.now.source.now c.args.making.now.target.now c.args.making.now.entities.now c.args.making.now.scopes.now c.args.making.now.clauses.now n c.in-Some.tests.items) size)
    c.in_ok-push.ensures.items

nothing : {X : Type 0} (xs : List X) → length xs ≡ 0 → xs ≡ []
nothing [] h = refl
nothing (x ∷ xs) h = absurd (omega arith)

pub returns : goal.returns
returns c =
    let h = c.in-None.ensures.steps in
    let size : length c.loop-tests.tests-iterator.rest.items ≡ 0 = omega (arith, h.0, c.loop-tests.tests-iterator.rest.ok) in
    let none : c.loop-tests.tests-iterator.rest.items ≡ [] = nothing c.loop-tests.tests-iterator.rest.items size in
    all_made c.args.making.now.source.now c.args.making.now.target.now c.args.making.now.entities.now c.args.making.now.scopes.now c.args.making.now.clauses.now c.loop-tests.made.items
    (subst (λ lists. IsUpTo c.args.making.now.source.now c.args.making.now.target.now c.args.making.now.entities.now c.args.making.now.scopes.now c.args.making.now.clauses.now c.loop-tests.made.items (map (λ (list : Vec Equation Global). list.items) lists)) none c.loop-tests.invariant)

use Rattle.std.proofs.Common.{ℕ, List, ◌++◌, ◌≡◌, ◌+◌, map, take, drop, length, sym, ap, ◌∙◌, arith}
use Rattle.std.proofs.lemmas.List.{length-append, append-nil, drop_all, length-take-le}
use Rattle.cq_eval.proofs.Repeated.{before, one_more, told_more}
use Rattle.cq_eval.proofs.joining.Join.repeat.Goals as goal

pub loop-place-init : goal.loop-place-init
loop-place-init c =
    let lists : List (List ℕ) = c.args.found.now.items in
    let start : ℕ = c.args.stretch.start in
    let f : List ℕ → List ℕ = λ list. take c.args.bound c.args.choice.now ++ drop c.args.bound list in
    let size = length-take-le start lists (omega (arith, c.requires.rises, c.requires.within)) in
    record { found = sym (ap (λ l. lists ++ map f l) (drop_all start (take start lists) (omega (arith, size))) ∙ append-nil lists); few = c.requires.few }

pub returns-clause-found : goal.returns-clause-found
returns-clause-found c =
    let lists : List (List ℕ) = c.args.found.now.items in
    let f : List ℕ → List ℕ = λ list. take c.args.bound c.args.choice.now ++ drop c.args.bound list in
    let end : c.loop-place.place ≡ c.args.stretch.end = omega (arith, c.loop-place-test.false, c.requires.rises) in
    c.loop-place.invariant.found ∙ ap (λ n. lists ++ map f (drop c.args.stretch.start (take n lists))) end

pub returns-clause-few : goal.returns-clause-few
returns-clause-few c = c.loop-place.invariant.few

pub repeat_one-requires : goal.repeat_one-requires
repeat_one-requires c =
    let lists : List (List ℕ) = c.args.found.now.items in
    let f : List ℕ → List ℕ = λ list. take c.args.bound c.args.choice.now ++ drop c.args.bound list in
    let put : List (List ℕ) = before f lists c.args.stretch c.requires.within c.loop-place.place in
    let size : length c.loop-place.found.items ≡ length lists + length put = ap length c.loop-place.invariant.found ∙ length-append lists put in
    omega (arith, size, c.requires.within, c.loop-place-test.true)

pub loop-place-preserved : goal.loop-place-preserved
loop-place-preserved c =
    let f : List ℕ → List ℕ = λ list. take c.args.bound c.args.choice.now ++ drop c.args.bound list in
    record {
      found = one_more f c.args.found.now.items c.args.stretch c.requires.within c.loop-place.place c.loop-place.found.items c.repeat_one.new.found.items (omega arith) c.loop-place-test.true c.loop-place.invariant.found
          c.in_default.ensures.found;
      few = c.in_default.ensures.few;
    }

pub returns-in-Err-clause-refused : goal.returns-in-Err-clause-refused
returns-in-Err-clause-refused c =
    let f : List ℕ → List ℕ = λ list. take c.args.bound c.args.choice.now ++ drop c.args.bound list in
    told_more f c.args.found.now.items c.args.stretch c.requires.within c.args.self.now.entity c.loop-place.place c.loop-place.found.items c.in-Err.refusal (omega arith) c.loop-place-test.true c.loop-place.invariant.found
    c.in-Err.ensures.refused

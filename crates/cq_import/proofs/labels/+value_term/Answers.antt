use Rattle.std.proofs.Common.{ℕ, List, ◌≡◌, ◌<◌, ◌+◌, ◌∷◌, ◌++◌, [], get_or, length, map, take, sym, ap, ◌∙◌}
use Rattle.std.proofs.lemmas.List.{map_push, take_more, take_all}
use Rattle.cq_theory.specs.declared.term.TypeTerm.{TypeTerm}
use Rattle.cq_theory.specs.declared.term.TypeTerm.TheVariants as term
use Rattle.cq_theory.proofs.Values as values
use Rattle.cq_import.specs.Labels.{value_term, value_term_step}
use Rattle.cq_import.proofs.labels.+value_term.Goals as goal

-- one more member that is pushed
mapped_more : {A B : Type 0} (f : A → B) (old new : List B) (xs : List A) (i : ℕ) (x : A) (y : B) → i < length xs → x ≡ get_or xs i x → old ≡ map f (take i xs) → y ≡ f x → new ≡ old ++ y ∷ []
    → new ≡ map f (take (i + 1) xs)
mapped_more f old new xs i x y within at are is pushed =
    pushed ∙ (λ j. are j ++ is j ∷ []) ∙ sym (map_push f (take i xs) x) ∙ ap (map f) (ap (λ z. take i xs ++ z ∷ []) at ∙ sym (take_more xs i x within))

pub returns-in_ok-clone-in-Const : goal.returns-in_ok-clone-in-Const
returns-in_ok-clone-in-Const t c =
    ap term.Const c.in_ok-clone-in-Const.ensures.cases
    ∙ sym (ap (value_term c.args.first c.args.labels.now) c.in-Const.is ∙ values.fold-Const TypeTerm (value_term_step c.args.first c.args.labels.now) _)

pub returns-in-Null : goal.returns-in-Null
returns-in-Null t c =
    ap term.Gen c.generator_of.ensures
    ∙ sym (ap (value_term c.args.first c.args.labels.now) c.in-Null.is ∙ values.fold-Null TypeTerm (value_term_step c.args.first c.args.labels.now) c.in-Null.label)

pub loop-arg-init : goal.loop-arg-init
loop-arg-init t c = c.new-made.ensures.items

pub loop-arg-preserved : goal.loop-arg-preserved
loop-arg-preserved t c =
    mapped_more (value_term c.args.first c.args.labels.now) c.loop-arg.made.items c.push.new.self.items c.as_slice-arg-items.result.now c.loop-arg.arg-index c.arg-item.result
    c.in_ok-value_term-in-Fun.field-0 c.loop-arg-test.true c.arg-item.is c.loop-arg.invariant c.in_ok-value_term-in-Fun.ensures c.in_ok-push-in-Fun.ensures.items

pub returns-after-loop-arg : goal.returns-after-loop-arg
returns-after-loop-arg t c =
    let term_of = value_term c.args.first c.args.labels.now in
    ap (term.Fun c.in-Fun.function)
    (c.from_vec.ensures ∙ c.loop-arg.invariant ∙ ap (map term_of) (take_all c.loop-arg.arg-index c.as_slice-arg-items.result.now c.loop-arg-test.false ∙ c.as_slice-arg-items.ensures))
    ∙ sym (ap term_of c.in-Fun.is ∙ values.fold-Fun TypeTerm (value_term_step c.args.first c.args.labels.now) c.in-Fun.function c.in-Fun.args)

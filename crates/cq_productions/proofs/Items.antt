-- The arguments in a bracket, a step at a time.
use Rattle.std.proofs.Common.{◌≡◌, ℕ, zero, suc, ◌-◌, List, [], ◌∷◌, ◌++◌, true, false, inl, inr, refl, sym, ap, ◌∙◌, arith, append_assoc, subst}
use Rattle.std.specs.Prelude.{map, max}
use Rattle.std.proofs.lemmas.List.{map_push}
use Rattle.cq_lex.specs.declared.token.Token.{Token}
use Rattle.cq_productions.specs.declared.halt.Halt.{Halt}
use Rattle.cq_productions.specs.declared.halt.Halt.TheVariants as halts
use Rattle.cq_base.specs.declared.raw.Raw.{Raw}
use Rattle.cq_rules.specs.Outcome.{nothing_kept, Out, Took, Stop, then, leads, mapped, with_left, with_first, and_then, read_keep, read_chain}
use Rattle.cq_rules.specs.Rule.{second, read}
use Rattle.cq_syntax.specs.Grammar.{name}
use Rattle.cq_rules.proofs.Laws.{then_took, then_stop}
use Rattle.cq_rules.specs.Tree.{Tree, Trees, Word, App, dotted_pair, after_dots, read_deep, text, opens, read_base, more, levels, deepest, trees, values, args_tree, comma, closes, read_item, read_others, read_args, read_term}
use Rattle.cq_syntax.specs.Terms.{tree_of}
use Rattle.cq_productions.specs.TermTrees.{trees_of}
use Rattle.cq_productions.specs.Gives.{Fails}
use Rattle.cq_rules.proofs.TermLaws.{items_of, items_step, items_end, items_stop}

-- these arguments, and then those of the outcome
abbrev pub after_args : List Tree → Out (List (Unit {0} × Tree) × Unit {0}) → Out Trees
after_args vs o = then o (λ x rest. Took (trees (vs ++ map second x.0)) rest)

values_are : (ps : List (Unit {0} × Tree)) → values ps ≡ trees (map second ps)
values_are [] = refl
values_are (p ∷ ps) = ap (λ z. more p.1 z) (values_are ps)

append_nil : {A : Type 0} (xs : List A) → xs ++ [] ≡ xs
append_nil [] = refl
append_nil (x ∷ xs) = ap (λ z. x ∷ z) (append_nil xs)

args_start : (v : Tree) (o : Out (List (Unit {0} × Tree) × Unit {0})) → mapped args_tree (with_left v o) ≡ after_args (v ∷ []) o
args_start v (Took x rest) = ap (λ z. Took (more v z) rest) (values_are x.0)
args_start v (Stop w at) = refl

pub args_first : (b : ℕ) (ts : List Token) (v : Tree) (mid : List Token) → read_term b ts ≡ Took v mid → mapped args_tree (read_args (read_term b) ts) ≡ after_args (v ∷ []) (read_others (read_term b) mid)
args_first b ts v mid e = rw e (args_start v (read_others (read_term b) mid))

pub args_fail_first : (b : ℕ) (ts : List Token) (e : Halt) → Fails e (read_term b ts) → Fails e (mapped args_tree (read_args (read_term b) ts))
args_fail_first b ts halts.Memory f = tt
args_fail_first b ts (halts.At w at) f = rw f refl

later : (vs : List Tree) (w : Tree) (o : Out (List (Unit {0} × Tree))) (close : List Token → Out (Unit {0})) → after_args vs (and_then (λ x. close) (with_first (tt, w) o)) ≡ after_args (vs ++ w ∷ []) (and_then (λ x. close) o)
later vs w (Stop v at) close = refl
later vs w (Took ps mid) close = later_close vs w ps (close mid)
  where
    later_close : (vs : List Tree) (w : Tree) (ps : List (Unit {0} × Tree)) (o : Out (Unit {0})) → after_args vs (with_left ((tt, w) ∷ ps) o) ≡ after_args (vs ++ w ∷ []) (with_left ps o)
    later_close vs w ps (Stop v at) = refl
    later_close vs w ps (Took u rest) = ap (λ z. Took (trees z) rest) (sym (append_assoc vs (w ∷ []) (map second ps)))

module _ (b : ℕ) (whole : Out Trees) (vs : List Tree) (ts : List Token) (same : whole ≡ after_args vs (read_others (read_term b) ts)) where
  pub args_next : (after : List Token) (w : Tree) (mid : List Token) → leads comma ts ≡ true → read_keep nothing_kept comma ts ≡ Took tt after → read_term b after ≡ Took w mid → whole ≡ after_args (vs ++ w ∷ []) (read_others (read_term b) mid)
  args_next after w mid l e f =
      let item : read_item (read_term b) ts ≡ Took (tt, w) mid = rw (e, f) refl in
      same ∙ ap (λ z. after_args vs (and_then (λ x. read_keep nothing_kept closes) z)) (items_step b ts (tt, w) mid l item) ∙ later vs w (items_of b mid) (read_keep nothing_kept closes)

  pub args_fail : (after : List Token) (e : Halt) → leads comma ts ≡ true → read_keep nothing_kept comma ts ≡ Took tt after → Fails e (read_term b after) → Fails e whole
  args_fail after halts.Memory l e f = tt
  args_fail after (halts.At w at) l e f =
      let item : read_item (read_term b) ts ≡ Stop w at.tokens.now = rw (e, f) refl in
      same ∙ ap (λ z. after_args vs (and_then (λ x. read_keep nothing_kept closes) z)) (items_stop b ts w at.tokens.now l item)

  pub args_end : (rest : List Token) → leads comma ts ≡ false → read_keep nothing_kept closes ts ≡ Took tt rest → whole ≡ Took (trees vs) rest
  args_end rest l e =
      same ∙ ap (λ z. after_args vs (and_then (λ x. read_keep nothing_kept closes) z)) (items_end b ts l) ∙ (rw e (ap (λ z. Took (trees z) rest) (append_nil vs)))

  pub args_open : (e : Halt) → leads comma ts ≡ false → Fails e (read_keep nothing_kept closes ts) → Fails e whole
  args_open halts.Memory l f = tt
  args_open (halts.At w at) l f =
      same ∙ ap (λ z. after_args vs (and_then (λ x. read_keep nothing_kept closes) z)) (items_end b ts l) ∙ (rw f refl)

deepest_push : (vs : List Tree) (w : Tree) → deepest (trees (vs ++ w ∷ [])) ≡ max (deepest (trees vs)) (levels w)
deepest_push [] w = omega arith
deepest_push (v ∷ vs) w = ap (λ z. max (levels v) z) (deepest_push vs w) ∙ omega arith

-- the deepest of the arguments so far
pub deepest_more : (items pushed : List Raw) (x : Raw) (k n : ℕ) → pushed ≡ items ++ x ∷ [] → k ≡ deepest (trees_of items) → n ≡ levels (tree_of x) → max k n ≡ deepest (trees_of pushed)
deepest_more items pushed x k n p e f =
    let one : trees_of pushed ≡ trees (map tree_of items ++ tree_of x ∷ []) = ap (λ z. trees z) (ap (λ z. map tree_of z) p ∙ map_push tree_of items x) in
    rw (one, deepest_push, e, f) refl

-- what stands at a base
module _ (p : List Token → Out Tree) (ts : List Token) (no_text : leads text ts ≡ false) where
  pub base_fails : (e : Halt) → Fails e (read name ts) → Fails e (read_base p ts)
  unfolding name
  base_fails halts.Memory f = tt
  base_fails (halts.At w at) f = rw (no_text, f) refl

  pub base_word : (n : List ℕ) (rest : List Token) → read name ts ≡ Took n rest → leads opens rest ≡ false → read_base p ts ≡ Took (Word n) rest
  unfolding name
  base_word n rest e l = rw (no_text, e, l) refl

  pub base_args_fail : (n : List ℕ) (rest after : List Token) → read name ts ≡ Took n rest → leads opens rest ≡ true → read_keep nothing_kept opens rest ≡ Took tt after → (e : Halt) → Fails e (mapped args_tree (read_args p after)) → Fails e (read_base p ts)
  unfolding name
  base_args_fail n rest after e l k halts.Memory f = tt
  base_args_fail n rest after e l k (halts.At w at) f =
      elim (then_stop (read_args p after) _ w at.tokens.now f) [ inl h ↦ rw (no_text, e, l, k, h) refl | inr h ↦ absurd (cc h.3) ]

  pub base_applied : (n : List ℕ) (rest after : List Token) (vs : Trees) (mid : List Token) → read name ts ≡ Took n rest → leads opens rest ≡ true → read_keep nothing_kept opens rest ≡ Took tt after → mapped args_tree (read_args p after) ≡ Took vs mid → read_base p ts ≡ Took (App n vs) mid
  unfolding name
  base_applied n rest after vs mid e l k f =
      let h = then_took (read_args p after) _ vs mid f in
      let values_is : args_tree h.0 ≡ vs = cc h.3 in
      let mid_is : h.1 ≡ mid = cc h.3 in
      rw (no_text, e, l, k, h.2) (ap (λ z. Took (App n z) h.1) values_is ∙ ap (λ z. Took (App n vs) z) mid_is)

dots_pair : (v : Tree) (o : Out (List (List ℕ))) → mapped dotted_pair (with_left v o) ≡ after_dots v o
dots_pair v (Took ns rest) = refl
dots_pair v (Stop w at) = refl

-- a term is a base and the names behind dots
pub term_reads : (b : ℕ) (ts : List Token) (v : Tree) (rest : List Token) (n : ℕ) → (b ≡ 0 → ⊥) → read_base (read_term (b - 1)) ts ≡ Took v rest → n ≡ levels v → read_term b ts ≡ after_dots v (read_chain (b - n) rest)
unfolding read_term
term_reads zero ts v rest n ne e f = absurd (ne refl)
term_reads (suc b) ts v rest n ne e f =
    let one : suc b - 1 ≡ b = omega arith in
    let base : read_base (read_term b) ts ≡ Took v rest = subst (λ z. read_base (read_term z) ts ≡ Took v rest) one e in
    rw (base, f) (dots_pair v (read_chain (suc b - levels v) rest))

pub term_fails : (b : ℕ) (ts : List Token) → (b ≡ 0 → ⊥) → (e : Halt) → Fails e (read_base (read_term (b - 1)) ts) → Fails e (read_term b ts)
unfolding read_term
term_fails b ts ne halts.Memory f = tt
term_fails zero ts ne (halts.At w at) f = absurd (ne refl)
term_fails (suc b) ts ne (halts.At w at) f =
    let one : suc b - 1 ≡ b = omega arith in
    let base : read_base (read_term b) ts ≡ Stop w at.tokens.now = subst (λ z. read_base (read_term z) ts ≡ Stop w at.tokens.now) one f in
    rw base refl

pub no_level_fails : (b : ℕ) (ts : List Token) → b ≡ 0 → (e : Halt) → Fails e (read_deep ts) → Fails e (read_term b ts)
unfolding read_term
no_level_fails b ts is e f = rw is f

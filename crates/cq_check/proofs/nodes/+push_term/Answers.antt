use Rattle.std.proofs.Common.{rules, ℕ, List, [], ◌∷◌, ◌++◌, ◌+◌, ◌∙◌, length, take, sym, ap, subst}
use Rattle.std.proofs.lemmas.List.{take_all}
use Rattle.cq_flat.specs.declared.node.Node.{Node}
use Rattle.cq_flat.specs.declared.node.Node.TheVariants as node
use Rattle.cq_tables.specs.Content.{Content}
use Rattle.cq_theory.specs.declared.constant.Con.{Con}
use Rattle.cq_theory.specs.declared.term.TypeTerm.{TypeTerm, the_lemmas}
use Rattle.cq_check.proofs.Lists.{item_at}
use Rattle.cq_check.proofs.Pushed.{ArePushed, no_arguments, next_argument, pushed_generator, pushed_constant, pushed_cell, pushed_function, pushed_no_function}
use Rattle.cq_check.proofs.Readable.{IsReadable-more, readable_cell, readable_argument}
use Rattle.cq_check.proofs.nodes.+push_term.Goals as goal

pub row_of-requires : goal.row_of-requires
row_of-requires t c =
    let count : ℕ = length c.args.nodes.now.items in
    (count, readable_cell c.args.tables.now c.args.rows.now count c.in-Att.attribute c.in-Att.term c.args.term.now c.in-Att.is c.requires)

pub loop-arg-init : goal.loop-arg-init
loop-arg-init t c =
    let nodes : List Node = c.args.nodes.now.items in
    subst (λ (found : List ℕ). ArePushed c.args.tables.now c.args.rows.now nodes nodes [] found) (sym c.new-found.ensures.items) (no_arguments c.args.tables.now c.args.rows.now nodes)

pub push_term-requires : goal.push_term-requires
push_term-requires t c =
    let m : Content = c.args.tables.now in
    let rows : List ℕ = c.args.rows.now in
    let old : ℕ = length c.args.nodes.now.items in
    let i : ℕ = c.loop-arg.arg-index in
    let at = item_at c.in-Fun.args c.as_slice-arg-items.result.now i c.arg-item.result c.as_slice-arg-items.ensures c.loop-arg-test.true c.arg-item.is in
    let arg = readable_argument m rows old c.in-Fun.function c.in-Fun.args c.args.term.now c.in-Fun.is c.requires i c.arg-item.result at in
    (search (rules, the_lemmas), IsReadable-more m rows old (length c.loop-arg.nodes.items) c.arg-item.result c.loop-arg.invariant.count arg)

pub returns-in_default-2 : goal.returns-in_default-2
returns-in_default-2 t c =
    let m : Content = c.args.tables.now in
    let rows : List ℕ = c.args.rows.now in
    let old : List Node = c.args.nodes.now.items in
    let mid : List Node = c.loop-arg.nodes.items in
    let i : ℕ = c.loop-arg.arg-index in
    let found : List ℕ = c.loop-arg.found.items in
    let at = item_at c.in-Fun.args c.as_slice-arg-items.result.now i c.arg-item.result c.as_slice-arg-items.ensures c.loop-arg-test.true c.arg-item.is in
    let before = subst (λ (ts : List TypeTerm). ArePushed m rows old mid (take i ts) found) c.as_slice-arg-items.ensures c.loop-arg.invariant in
    pushed_no_function m rows old mid c.push_term.new.nodes.items c.in-Fun.function i c.in-Fun.args found c.args.term.now c.arg-item.result c.in_ok-place-in-Fun.field-0 c.in-Fun.is at before
    c.in_ok-place-in-Fun.ensures c.in_default-2.is

pub loop-arg-preserved : goal.loop-arg-preserved
loop-arg-preserved t c =
    next_argument c.args.tables.now c.args.rows.now c.args.nodes.now.items c.loop-arg.nodes.items c.push_term.new.nodes.items c.as_slice-arg-items.result.now c.loop-arg.arg-index c.loop-arg.found.items c.push.new.self.items
    c.arg-item.result c.in-Some-2.place c.in_ok-place-in-Fun.field-0 c.loop-arg.invariant c.in_ok-place-in-Fun.ensures c.in-Some-2.is c.loop-arg-test.true c.arg-item.is c.in_ok-push-in-Fun.ensures.items

pub returns-in-Gen : goal.returns-in-Gen
returns-in-Gen t c =
    pushed_generator c.args.tables.now c.args.rows.now c.args.nodes.now.items c.in-Gen.generator (c.made.result + c.in-Gen.generator) c.args.term.now c.in-Gen.is
    (ap (λ n. n + c.in-Gen.generator) c.made.ensures) c.requires

pub returns-in_ok-place-in-Const : goal.returns-in_ok-place-in-Const
returns-in_ok-place-in-Const t c =
    pushed_constant c.args.tables.now c.args.rows.now c.args.nodes.now.items c.push_node.new.nodes.items c.in-Const.constant c.in_ok-place-in-Const.place c.args.term.now c.in-Const.is
    c.in_ok-place-in-Const.ensures.place
    (c.in_ok-place-in-Const.ensures.added ∙ ap (λ (k : Con). c.args.nodes.now.items ++ node.Const k ∷ []) c.in_ok-clone-in-Const.ensures.cases)

pub returns-in_ok-place-in-Att : goal.returns-in_ok-place-in-Att
returns-in_ok-place-in-Att t c =
    pushed_cell c.args.tables.now c.args.rows.now c.args.nodes.now.items c.push_node-in-Att.new.nodes.items c.in-Att.attribute c.in-Some.row c.in_ok-place-in-Att.place c.in-Att.term c.from_vec-args.result c.args.term.now
    c.in-Att.is (sym c.row_of.ensures ∙ c.in-Some.is) c.requires (c.from_vec-args.ensures ∙ c.in_ok-vec-in-Att.ensures.items) c.in_ok-place-in-Att.ensures.place c.in_ok-place-in-Att.ensures.added

pub returns-in_ok-place-in-Fun-2 : goal.returns-in_ok-place-in-Fun-2
returns-in_ok-place-in-Fun-2 t c =
    let m : Content = c.args.tables.now in
    let rows : List ℕ = c.args.rows.now in
    let old : List Node = c.args.nodes.now.items in
    let mid : List Node = c.loop-arg.nodes.items in
    let found : List ℕ = c.loop-arg.found.items in
    let all : ArePushed m rows old mid c.in-Fun.args found =
    subst (λ (us : List TypeTerm). ArePushed m rows old mid us found) (take_all c.loop-arg.arg-index c.as_slice-arg-items.result.now c.loop-arg-test.false ∙ c.as_slice-arg-items.ensures) c.loop-arg.invariant in
    pushed_function m rows old mid c.push_node-in-Fun.new.nodes.items c.in-Fun.function c.in_ok-place-in-Fun-2.place c.in-Fun.args found c.from_vec.result c.args.term.now c.in-Fun.is all c.from_vec.ensures
    c.in_ok-place-in-Fun-2.ensures.place c.in_ok-place-in-Fun-2.ensures.added

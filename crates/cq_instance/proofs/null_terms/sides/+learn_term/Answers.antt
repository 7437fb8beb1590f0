use Rattle.std.proofs.Common.{ℕ, List, [], ◌∷◌, ◌++◌, Option, ◌≡◌, ◌≤◌, length, map, take, get_or, rules, sym, ap, subst, ◌∙◌}
use Rattle.std.specs.Prelude.{option_copied}
use Rattle.std.specs.List.{flat_map}
use Rattle.std.proofs.lemmas.List.{take_more, take_all, map-append}
use Rattle.cq_theory.specs.declared.term.EntTerm.{EntTerm}
use Rattle.cq_theory.specs.declared.term.TypeTerm.{TypeTerm, the_lemmas}
use Rattle.cq_theory.specs.declared.term.TypeTerm.TheVariants.{Fun}
use Rattle.cq_theory.specs.declared.value.Value.{Value}
use Rattle.cq_theory.specs.Listed.{subterms}
use Rattle.cq_theory.specs.Tables.{Assignment, applied, value_of, value_step}
use Rattle.cq_theory.proofs.TypeTerms.{fold-Fun}
use Rattle.cq_instance.specs.InstanceData.{InstanceData}
use Rattle.cq_instance.specs.Learning.{learned, learned_from, node_at, nodes_in}
use Rattle.cq_instance.specs.Standing.{meaning}
use Rattle.cq_instance.proofs.Learnt.{learned_more, learned_then}
use Rattle.cq_instance.proofs.OnWay.{typed_at}
use Rattle.cq_instance.proofs.SidesLearnt.{subterms-Gen, subterms-Const, subterms-Att, nodes-Fun, node_means, args_readable, part_readable}
use Rattle.cq_instance.proofs.TypedTerms.{EachTyped}
use Rattle.cq_instance.proofs.null_terms.sides.+learn_term.Goals as goal

-- what holds of the term that it is holds of the term
leaf : (t u : TypeTerm) → t ≡ u → subterms u ≡ u ∷ [] → subterms t ≡ t ∷ []
leaf t u is h = subst (λ (v : TypeTerm). subterms v ≡ v ∷ []) (sym is) h

pub learn_leaf-requires-clause-leaf : goal.learn_leaf-requires-clause-leaf
learn_leaf-requires-clause-leaf t c = leaf c.args.term.now _ c.in-Gen.is (subterms-Gen c.in-Gen.field-0)

pub learn_leaf-requires-in-Const-clause-leaf : goal.learn_leaf-requires-in-Const-clause-leaf
learn_leaf-requires-in-Const-clause-leaf t c = leaf c.args.term.now _ c.in-Const.is (subterms-Const c.in-Const.field-0)

pub learn_leaf-requires-in-Att-clause-leaf : goal.learn_leaf-requires-in-Att-clause-leaf
learn_leaf-requires-in-Att-clause-leaf t c = leaf c.args.term.now _ c.in-Att.is (subterms-Att c.in-Att.field-0 c.in-Att.field-1)

pub learn_term-requires : goal.learn_term-requires
learn_term-requires t c =
    let i : InstanceData = c.args.site.now.instance.now in
    let B : Assignment = map meaning c.args.site.now.standings.now in
    let name : Option EntTerm = option_copied c.args.site.now.name in
    let items : List TypeTerm = c.as_slice-arg-items.result.now in
    let each : EachTyped i.schema c.requires.generators items =
    subst (λ (ts : List TypeTerm). EachTyped i.schema c.requires.generators ts) (sym c.as_slice-arg-items.ensures)
    (args_readable i B name c.args.term.now c.requires c.in-Fun.function c.in-Fun.args c.in-Fun.is) in
    let typed = typed_at i.schema c.requires.generators items c.loop-arg.arg-index c.arg-item.result c.loop-arg-test.true c.arg-item.is each in
    (search (rules, the_lemmas), part_readable i B name c.args.term.now c.requires c.arg-item.result typed)

pub loop-arg-preserved : goal.loop-arg-preserved
loop-arg-preserved t c =
    let i : InstanceData = c.args.site.now.instance.now in
    let name : Option EntTerm = option_copied c.args.site.now.name in
    let items : List TypeTerm = c.as_slice-arg-items.result.now in
    let n : ℕ = c.loop-arg.arg-index in
    let arg : TypeTerm = c.arg-item.result in
    let f : TypeTerm → Value = value_of i.tables (map meaning c.args.site.now.standings.now) in (
      c.in_ok-push-in-Fun.ensures.items
          ∙ (λ j. c.loop-arg.invariant.0 j ++ (c.in_ok-learn_term-in-Fun.ensures.value ∙ ap f c.arg-item.is) j ∷ [])
          ∙ sym (ap (map f) (take_more items n arg c.loop-arg-test.true) ∙ map-append f (take n items) (get_or items n arg ∷ [])),
      learned_more i (nodes_in name) items n arg c.args.known.now.items c.loop-arg.known.items _ c.loop-arg-test.true c.arg-item.is c.loop-arg.invariant.1 c.in_ok-learn_term-in-Fun.ensures.known,
    )

-- the value of an application that was made of the values of its arguments
value_is : (i : InstanceData) (B : Assignment) (t : TypeTerm) (f : ℕ) (ts items : List TypeTerm) (values : List Value) (k : ℕ) (v : Value) → t ≡ Fun f ts → items ≡ ts → length items ≤ k
    → values ≡ map (value_of i.tables B) (take k items) → v ≡ applied i.tables f values → v ≡ value_of i.tables B t
value_is i B t f ts items values k v is items_are past are made =
    made ∙ ap (applied i.tables f) (are ∙ ap (map (value_of i.tables B)) (take_all k items past ∙ items_are))
    ∙ sym (ap (value_of i.tables B) is ∙ fold-Fun Value (value_step i.tables B) f ts)

pub returns-in_ok-learn_node-in-Fun-clause-value : goal.returns-in_ok-learn_node-in-Fun-clause-value
returns-in_ok-learn_node-in-Fun-clause-value t c =
    value_is c.args.site.now.instance.now (map meaning c.args.site.now.standings.now) c.args.term.now c.in-Fun.function c.in-Fun.args c.as_slice-arg-items.result.now c.loop-arg.values.items
    c.loop-arg.arg-index c.in_ok-value-in-Fun.value c.in-Fun.is c.as_slice-arg-items.ensures c.loop-arg-test.false c.loop-arg.invariant.0 c.in_ok-value-in-Fun.ensures

pub returns-in_ok-learn_node-in-Fun-clause-known : goal.returns-in_ok-learn_node-in-Fun-clause-known
returns-in_ok-learn_node-in-Fun-clause-known t c =
    let i : InstanceData = c.args.site.now.instance.now in
    let B : Assignment = map meaning c.args.site.now.standings.now in
    let name : Option EntTerm = option_copied c.args.site.now.name in
    let term : TypeTerm = c.args.term.now in
    let v : Value = c.in_ok-value-in-Fun.value in
    let node : TypeTerm = node_at name term in
    let value : v ≡ value_of i.tables i.assignment node =
    value_is i B term c.in-Fun.function c.in-Fun.args c.as_slice-arg-items.result.now c.loop-arg.values.items c.loop-arg.arg-index v c.in-Fun.is c.as_slice-arg-items.ensures c.loop-arg-test.false
    c.loop-arg.invariant.0 c.in_ok-value-in-Fun.ensures ∙ sym (node_means i B name term c.requires) in
    let here : c.learn_node.new.known.items ≡ learned_from i c.loop-arg.known.items (node ∷ []) =
    c.in_ok-learn_node-in-Fun.ensures ∙ ap (λ (w : Value). learned w node c.loop-arg.known.items) value in
    let before : c.loop-arg.known.items ≡ learned_from i c.args.known.now.items (flat_map (nodes_in name) c.in-Fun.args) =
    c.loop-arg.invariant.1 ∙ ap (λ (l : List TypeTerm). learned_from i c.args.known.now.items (flat_map (nodes_in name) l))
    (take_all c.loop-arg.arg-index c.as_slice-arg-items.result.now c.loop-arg-test.false ∙ c.as_slice-arg-items.ensures) in
    let nodes : nodes_in name term ≡ flat_map (nodes_in name) c.in-Fun.args ++ node ∷ [] =
    ap (nodes_in name) c.in-Fun.is ∙ nodes-Fun name c.in-Fun.function c.in-Fun.args ∙ ap (λ (u : TypeTerm). flat_map (nodes_in name) c.in-Fun.args ++ node_at name u ∷ []) (sym c.in-Fun.is) in
    learned_then i c.args.known.now.items c.loop-arg.known.items c.learn_node.new.known.items (flat_map (nodes_in name) c.in-Fun.args) (node ∷ []) before here
    ∙ ap (learned_from i c.args.known.now.items) (sym nodes)

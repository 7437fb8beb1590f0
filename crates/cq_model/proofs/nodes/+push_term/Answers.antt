use Rattle.std.proofs.Common.{rules, ℕ, List, [], ◌∷◌, ◌++◌, Some, ◌≡◌, ◌≤◌, length, get_or, slice_index, sym, ap, subst, ◌∙◌, arith}
use Rattle.std.specs.Prelude.{slice_get}
use Rattle.std.proofs.lemmas.List.{take_all}
use Rattle.cq_flat.specs.declared.node.Node.TheVariants as node
use Rattle.cq_tables.specs.Content.{Content}
use Rattle.cq_theory.specs.declared.constant.Con.{Con}
use Rattle.cq_theory.specs.SchemaData.{SchemaData as Schema}
use Rattle.cq_theory.specs.TypesideData.{TypesideData}
use Rattle.cq_theory.specs.declared.typeside.Fun.{Fun as Function}
use Rattle.cq_theory.specs.declared.term.TypeTerm.{TypeTerm, the_lemmas}
use Rattle.cq_theory.specs.declared.term.TypeTerm.TheVariants.{Gen, Att, Fun}
use Rattle.cq_model.specs.declared.places.Places.{Places}
use Rattle.cq_model.specs.NodeListData.{NodeListData}
use Rattle.cq_model.specs.Pushing.{IsReadable, IsPushed}
use Rattle.cq_model.proofs.PushedTerms.{HavePlaces-wider, pushed_gen, ArePushed, pushed_next}
use Rattle.cq_instance.proofs.Columns.{read_at}
use Rattle.cq_model.proofs.ReadableTerms.{if_answered, IsReadable-wider, readable_cell, constant_known, readable_constant, function_known, argument_readable, readable_application}
use Rattle.cq_model.proofs.nodes.+push_term.Goals as goal

pub type_of-kind-requires : goal.type_of-kind-requires
type_of-kind-requires t c = constant_known c.args.ground.now.schema.now c.args.ground.now.tables.now c.args.ground.now.places.now c.args.rows.now (length c.args.list.now.nodes) c.in-Const.constant c.args.term.now c.in-Const.is c.requires.term

pub place_of_cell-requires : goal.place_of_cell-requires
place_of_cell-requires t c =
    let S : Schema = c.args.ground.now.schema.now in
    let count : ℕ = length c.args.list.now.nodes in (
      S,
      count,
      omega (arith, c.count-count.ensures, c.count-count.type_inv),
      c.requires.places,
      subst (λ (u : TypeTerm). IsReadable S c.args.ground.now.tables.now c.args.ground.now.places.now c.args.rows.now count u) c.in-Att.is c.requires.term,
    )

pub bounds-as_slice-function : goal.bounds-as_slice-function
bounds-as_slice-function t c =
    let S : Schema = c.args.ground.now.schema.now in
    let same : c.as_slice-in-Fun.result.now ≡ S.typeside.functions = c.as_slice-in-Fun.ensures ∙ ap (λ (x : TypesideData). x.functions) (c.behind-schema.view_is ∙ c.deref.ensures) ∙ ap (λ (s : Schema). s.typeside.functions) c.schema.view_is in
    function_known S c.args.ground.now.tables.now c.args.ground.now.places.now c.args.rows.now (length c.args.list.now.nodes) c.in-Fun.function c.in-Fun.args c.args.term.now c.as_slice-in-Fun.result.now c.in-Fun.is same c.requires.term

pub bounds-as_slice-function-in-Fun : goal.bounds-as_slice-function-in-Fun
bounds-as_slice-function-in-Fun t c =
    let S : Schema = c.args.ground.now.schema.now in
    let same : c.as_slice-in-Fun.result.now ≡ S.typeside.functions = c.as_slice-in-Fun.ensures ∙ ap (λ (x : TypesideData). x.functions) (c.behind-schema.view_is ∙ c.deref.ensures) ∙ ap (λ (s : Schema). s.typeside.functions) c.schema.view_is in
    function_known S c.args.ground.now.tables.now c.args.ground.now.places.now c.args.rows.now (length c.args.list.now.nodes) c.in-Fun.function c.in-Fun.args c.args.term.now c.as_slice-in-Fun.result.now c.in-Fun.is same c.requires.term

pub push_term-requires : goal.push_term-requires
push_term-requires t c =
    let S : Schema = c.args.ground.now.schema.now in
    let m : Content = c.args.ground.now.tables.now in
    let places : Places = c.args.ground.now.places.now in
    let rows : List ℕ = c.args.rows.now in
    let old : ℕ = length c.args.list.now.nodes in
    let now : ℕ = length c.loop-arg.list.nodes in
    let grows : old ≤ now = c.loop-arg.invariant.grows in
    let whole : IsReadable S m places rows old (Fun c.in-Fun.function c.in-Fun.args) = subst (λ (u : TypeTerm). IsReadable S m places rows old u) c.in-Fun.is c.requires.term in
    let at : slice_get c.in-Fun.args c.loop-arg.arg-index ≡ Some c.arg-item.result =
    read_at c.in-Fun.args c.as_slice-arg-items.result.now c.loop-arg.arg-index c.arg-item.result c.as_slice-arg-items.ensures c.loop-arg-test.true ∙ ap (λ (u : TypeTerm). Some u) (sym c.arg-item.is) in
    let arg : IsReadable S m places rows old c.arg-item.result = argument_readable S m places rows old c.in-Fun.function c.in-Fun.args whole c.loop-arg.arg-index c.arg-item.result at in
    (search (rules, the_lemmas), (HavePlaces-wider S m places old now grows c.requires.places, IsReadable-wider S m places rows old now c.arg-item.result grows arg))

pub loop-arg-preserved : goal.loop-arg-preserved
loop-arg-preserved t c =
    let S : Schema = c.args.ground.now.schema.now in
    let m : Content = c.args.ground.now.tables.now in
    let places : Places = c.args.ground.now.places.now in
    let rows : List ℕ = c.args.rows.now in
    let list : NodeListData = c.args.list.now in
    pushed_next S m places rows list c.loop-arg.list c.push_term.new.list c.as_slice-arg-items.result.now c.loop-arg.arg-index c.loop-arg.found.items c.push-in-loop-arg.new.self.items c.arg-item.result c.in_ok-place-in-Fun.place
    c.loop-arg.invariant c.in_ok-place-in-Fun.ensures c.loop-arg-test.true c.arg-item.is c.in_ok-push-in-Fun.ensures.items

pub returns-in-Gen : goal.returns-in-Gen
returns-in-Gen t c =
    let S : Schema = c.args.ground.now.schema.now in
    let m : Content = c.args.ground.now.tables.now in
    let places : Places = c.args.ground.now.places.now in
    let rows : List ℕ = c.args.rows.now in
    let n : ℕ = c.in-Gen.generator in
    let place : ℕ = slice_index c.as_slice.result.now n in
    let readable : IsReadable S m places rows (length c.args.list.now.nodes) (Gen n) = subst (λ (u : TypeTerm). IsReadable S m places rows (length c.args.list.now.nodes) u) c.in-Gen.is c.requires.term in
    subst (λ (u : TypeTerm). IsPushed S m places rows c.args.list.now c.args.list.now u place) (sym c.in-Gen.is)
    (pushed_gen S m places rows c.args.list.now n place (ap (λ (l : List ℕ). slice_index l n) c.as_slice.ensures) readable)

pub returns-in_ok-clone-in-Const : goal.returns-in_ok-clone-in-Const
returns-in_ok-clone-in-Const t c =
    let S : Schema = c.args.ground.now.schema.now in
    let m : Content = c.args.ground.now.tables.now in
    let places : Places = c.args.ground.now.places.now in
    let rows : List ℕ = c.args.rows.now in
    let old : NodeListData = c.args.list.now in
    let new : NodeListData = c.push.new.self in
    let constant : Con = c.in-Const.constant in
    let copy : Con = c.in_ok-clone-in-Const.field-0 in
    let kind : ℕ = c.type_of-kind.result in
    if_answered c.push.result (λ place. place ≡ length old.nodes) (new ≡ record { nodes = old.nodes ++ node.Const copy ∷ []; types = old.types ++ kind ∷ []; equations = old.equations })
    (λ place. IsPushed S m places rows old new c.args.term.now place)
    (λ place place_is added. subst (λ (u : TypeTerm). IsPushed S m places rows old new u place) (sym c.in-Const.is)
    (readable_constant S m places rows old new constant place kind c.type_of-kind.ensures place_is
    (added ∙ ap (λ (d : Con). record { nodes = old.nodes ++ node.Const d ∷ []; types = old.types ++ kind ∷ []; equations = old.equations }) c.in_ok-clone-in-Const.ensures.cases)))
    c.push.ensures.place c.push.ensures.added

pub returns-in-Att : goal.returns-in-Att
returns-in-Att t c =
    let S : Schema = c.args.ground.now.schema.now in
    let m : Content = c.args.ground.now.tables.now in
    let places : Places = c.args.ground.now.places.now in
    let rows : List ℕ = c.args.rows.now in
    let list : NodeListData = c.args.list.now in
    let a : ℕ = c.in-Att.attribute in
    let readable : IsReadable S m places rows (length list.nodes) (Att a c.in-Att.term) = subst (λ (u : TypeTerm). IsReadable S m places rows (length list.nodes) u) c.in-Att.is c.requires.term in
    subst (λ (u : TypeTerm). IsPushed S m places rows list list u c.place_of_cell.result) (sym c.in-Att.is)
    (readable_cell S m places rows list a c.place_of_cell.ensures.0 c.place_of_cell.result c.in-Att.term c.requires.places readable c.place_of_cell.ensures.1 c.place_of_cell.ensures.2)

pub returns-after-loop-arg : goal.returns-after-loop-arg
returns-after-loop-arg t c =
    let S : Schema = c.args.ground.now.schema.now in
    let m : Content = c.args.ground.now.tables.now in
    let places : Places = c.args.ground.now.places.now in
    let rows : List ℕ = c.args.rows.now in
    let old : NodeListData = c.args.list.now in
    let mid : NodeListData = c.loop-arg.list in
    let new : NodeListData = c.push-in-Fun.new.self in
    let f : ℕ = c.in-Fun.function in
    let ts : List TypeTerm = c.in-Fun.args in
    let found : List ℕ = c.loop-arg.found.items in
    let functions : List Function = c.as_slice-in-Fun.result.now in
    let function : Function = get_or functions f c.index-as_slice-function.result in
    let same : functions ≡ S.typeside.functions = c.as_slice-in-Fun.ensures ∙ ap (λ (x : TypesideData). x.functions) (c.behind-schema.view_is ∙ c.deref.ensures) ∙ ap (λ (s : Schema). s.typeside.functions) c.schema.view_is in
    let known : slice_get S.typeside.functions f ≡ Some function =
    read_at S.typeside.functions functions f c.index-as_slice-function.result same (function_known S m places rows (length old.nodes) f ts c.args.term.now functions c.in-Fun.is same c.requires.term) in
    let all : ArePushed S m places rows old mid ts found =
    subst (λ (us : List TypeTerm). ArePushed S m places rows old mid us found) (take_all c.loop-arg.arg-index c.as_slice-arg-items.result.now c.loop-arg-test.false ∙ c.as_slice-arg-items.ensures) c.loop-arg.invariant in
    if_answered c.push-in-Fun.result (λ place. place ≡ length mid.nodes)
    (new ≡ record { nodes = mid.nodes ++ node.Fun f c.from_vec.result ∷ []; types = mid.types ++ function.result ∷ []; equations = mid.equations })
    (λ place. IsPushed S m places rows old new c.args.term.now place)
    (λ place place_is added. subst (λ (u : TypeTerm). IsPushed S m places rows old new u place) (sym c.in-Fun.is)
    (readable_application S m places rows old mid new f place ts found function known all place_is
    (added ∙ ap (λ (l : List ℕ). record { nodes = mid.nodes ++ node.Fun f l ∷ []; types = mid.types ++ function.result ∷ []; equations = mid.equations }) c.from_vec.ensures)))
    c.push-in-Fun.ensures.place c.push-in-Fun.ensures.added

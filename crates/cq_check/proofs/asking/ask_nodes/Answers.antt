use Rattle.std.proofs.Common.{ℕ, List, ◌≤◌, ◌+◌, length, refl, sym, subst, arith}
use Rattle.cq_tables.specs.Content.{Content, made_of}
use Rattle.cq_check.specs.Asking.{Asks}
use Rattle.cq_check.specs.NodeListData.{NodeListData}
use Rattle.cq_check.specs.Sound.{AreSound}
use Rattle.cq_check.specs.declared.asking.Asked.TheVariants.{Answered, Nodes}
use Rattle.std.specs.Prelude.{false}
use Rattle.cq_check.proofs.Sides.{left_readable, right_readable, left_asked, right_asked, both_asked}
use Rattle.cq_theory.specs.declared.presentation.Equation.TheVariants.{Typ as TypEquation}
use Rattle.cq_theory.specs.declared.presentation.Presentation.{Presentation}
use Rattle.cq_theory.specs.SchemaData.{SchemaData as Schema}
use Rattle.cq_theory.specs.declared.term.TypeTerm.{TypeTerm}
use Rattle.cq_check.proofs.asking.ask_nodes.Goals as goal

pub push_term-requires : goal.push_term-requires
push_term-requires c =
    let S : Schema = c.args.rows.now.schema.now in
    let P : Presentation = c.args.rows.now.presentation.now in
    let m : Content = c.args.rows.now.tables.now in
    let entries : List ℕ = c.args.rows.now.entries.now in
    let t : TypeTerm = c.args.left.now in
    let u : TypeTerm = c.args.right.now in
    let old : NodeListData = record { nodes = c.list.inside.nodes.items; equations = c.list.inside.equations.items } in
    let begun : AreSound S P m entries old = subst (AreSound S P m entries) (sym c.list.view_is) c.requires.sound in
    left_readable S P m entries c.requires.made.1 t u c.requires.sorted (length old.nodes) begun.count

pub push_term-requires-2 : goal.push_term-requires-2
push_term-requires-2 c =
    let S : Schema = c.args.rows.now.schema.now in
    let P : Presentation = c.args.rows.now.presentation.now in
    let m : Content = c.args.rows.now.tables.now in
    let entries : List ℕ = c.args.rows.now.entries.now in
    let t : TypeTerm = c.args.left.now in
    let u : TypeTerm = c.args.right.now in
    let old : NodeListData = record { nodes = c.list.inside.nodes.items; equations = c.list.inside.equations.items } in
    let begun : AreSound S P m entries old = subst (AreSound S P m entries) (sym c.list.view_is) c.requires.sound in
    let count : ℕ = length c.push_term.new.nodes.items in
    let enough : made_of m + length P.generators ≤ count = omega (arith, begun.count, c.in_ok-first.ensures.count) in
    right_readable S P m entries c.requires.made.1 t u c.requires.sorted count enough

pub returns-in_default : goal.returns-in_default
returns-in_default c =
    let S : Schema = c.args.rows.now.schema.now in
    let P : Presentation = c.args.rows.now.presentation.now in
    let m : Content = c.args.rows.now.tables.now in
    let entries : List ℕ = c.args.rows.now.entries.now in
    let t : TypeTerm = c.args.left.now in
    let u : TypeTerm = c.args.right.now in
    let old : NodeListData = record { nodes = c.list.inside.nodes.items; equations = c.list.inside.equations.items } in
    let begun : AreSound S P m entries old = subst (AreSound S P m entries) (sym c.list.view_is) c.requires.sound in
    let one : NodeListData = record { nodes = c.push_term.new.nodes.items; equations = c.list.inside.equations.items } in
    subst (λ (l : NodeListData). Asks S P m entries l one (TypEquation t u) (Answered false)) c.list.view_is
    (left_asked S P m entries c.requires.made.1 t u c.requires.sorted c.is_well_sorted.ensures c.requires.made.0 old one c.in_ok-first.first begun c.in_ok-first.ensures c.in_default.is refl)

pub returns-in_default-second : goal.returns-in_default-second
returns-in_default-second c =
    let S : Schema = c.args.rows.now.schema.now in
    let P : Presentation = c.args.rows.now.presentation.now in
    let m : Content = c.args.rows.now.tables.now in
    let entries : List ℕ = c.args.rows.now.entries.now in
    let t : TypeTerm = c.args.left.now in
    let u : TypeTerm = c.args.right.now in
    let old : NodeListData = record { nodes = c.list.inside.nodes.items; equations = c.list.inside.equations.items } in
    let begun : AreSound S P m entries old = subst (AreSound S P m entries) (sym c.list.view_is) c.requires.sound in
    let one : NodeListData = record { nodes = c.push_term.new.nodes.items; equations = c.list.inside.equations.items } in
    let two : NodeListData = record { nodes = c.push_term-2.new.nodes.items; equations = c.list.inside.equations.items } in
    subst (λ (l : NodeListData). Asks S P m entries l two (TypEquation t u) (Answered false)) c.list.view_is
    (right_asked S P m entries c.requires.made.1 t u c.requires.sorted c.is_well_sorted.ensures c.requires.made.0 old one two c.in_ok-first.first c.in_ok-second.second begun c.in_ok-first.ensures refl c.in_ok-second.ensures refl
    c.in_default-second.is)

pub returns : goal.returns
returns c =
    let S : Schema = c.args.rows.now.schema.now in
    let P : Presentation = c.args.rows.now.presentation.now in
    let m : Content = c.args.rows.now.tables.now in
    let entries : List ℕ = c.args.rows.now.entries.now in
    let t : TypeTerm = c.args.left.now in
    let u : TypeTerm = c.args.right.now in
    let old : NodeListData = record { nodes = c.list.inside.nodes.items; equations = c.list.inside.equations.items } in
    let begun : AreSound S P m entries old = subst (AreSound S P m entries) (sym c.list.view_is) c.requires.sound in
    let one : NodeListData = record { nodes = c.push_term.new.nodes.items; equations = c.list.inside.equations.items } in
    let two : NodeListData = record { nodes = c.push_term-2.new.nodes.items; equations = c.list.inside.equations.items } in
    subst (λ (l : NodeListData). Asks S P m entries l two (TypEquation t u) (Nodes c.in-Some.first c.in-Some-second.second)) c.list.view_is
    (both_asked S P m entries c.requires.made.1 t u c.requires.sorted c.is_well_sorted.ensures c.requires.made.0 old one two c.in_ok-first.first c.in_ok-second.second begun c.in_ok-first.ensures refl c.in_ok-second.ensures refl
    c.in-Some.first c.in-Some-second.second c.in-Some.is c.in-Some-second.is)

use Rattle.std.proofs.Common.{ℕ, List, Some, ◌≡◌, ◌∙◌, Bor, map, length, sym, subst}
use Rattle.std.specs.Prelude.{MatchOption, slice_get}
use Rattle.cq_tables.specs.Content.{Content}
use Rattle.cq_check.specs.Closed.{IsAmong, AreCompared}
use Rattle.cq_check.specs.NodeListData.{NodeListData}
use Rattle.cq_check.specs.declared.asking.Asked.{Asked}
use Rattle.cq_check.specs.declared.asking.Asked.TheVariants.{Answered}
use Rattle.cq_check.proofs.OneValue.{sides_are}
use Rattle.cq_check.proofs.Questions.{judged_known, judged_all, sound_all, among_all}
use Rattle.cq_theory.specs.declared.presentation.Equation.{Equation}
use Rattle.cq_theory.specs.declared.presentation.Presentation.{Presentation}
use Rattle.cq_theory.specs.SchemaData.{SchemaData as Schema}
use Rattle.cq_check.proofs.closing.are_equal.Goals as goal

pub returns-in-Some : goal.returns-in-Some
returns-in-Some c =
    let S : Schema = c.args.rows.now.schema.now in
    let P : Presentation = c.args.rows.now.presentation.now in
    let m : Content = c.args.rows.now.tables.now in
    let entries : List ℕ = c.args.rows.now.entries.now in
    let es : List Equation = map (λ (e : Bor Equation). e.now) c.args.equations.now in
    judged_known S P m entries _ c.ask_all.new.list es c.in_ok-asked.asked.items c.in-Some.answers.items c.in_ok-asked.ensures
    (subst (λ o. MatchOption o (Unit {0}) (λ answers. map Answered answers.items ≡ c.deref.result.now)) c.in-Some.is c.in_ok-answers.ensures ∙ c.deref.ensures.value)

pub compare-requires-clause-sides : goal.compare-requires-clause-sides
compare-requires-clause-sides c =
    let S : Schema = c.args.rows.now.schema.now in
    let P : Presentation = c.args.rows.now.presentation.now in
    let m : Content = c.args.rows.now.tables.now in
    let entries : List ℕ = c.args.rows.now.entries.now in
    let es : List Equation = map (λ (e : Bor Equation). e.now) c.args.equations.now in
    let asked : List Asked = c.in_ok-asked.asked.items in
    let two : NodeListData = c.ask_all.new.list in
    let three : NodeListData = c.push_given.new.list in
    let four : NodeListData = c.push_observations.new.list in
    sides_are S P m entries c.is_well_sorted.ensures c.requires.made.0 c.requires.made.1 four
    (sound_all S P m entries c.is_well_sorted.ensures c.requires.made.0 c.requires.made.1 _ two three four es asked c.in_ok-asked.ensures c.in_ok-push_given.ensures.grows c.in_ok-push_given.ensures.sound c.in_ok-push_given.ensures.has
    c.in_ok-push_observations.ensures.grows c.in_ok-push_observations.ensures.sound c.in_ok-push_observations.ensures.has)

pub compare-requires-clause-among : goal.compare-requires-clause-among
compare-requires-clause-among c =
    let S : Schema = c.args.rows.now.schema.now in
    let P : Presentation = c.args.rows.now.presentation.now in
    let m : Content = c.args.rows.now.tables.now in
    let entries : List ℕ = c.args.rows.now.entries.now in
    let es : List Equation = map (λ (e : Bor Equation). e.now) c.args.equations.now in
    let asked : List Asked = c.in_ok-asked.asked.items in
    let two : NodeListData = c.ask_all.new.list in
    let three : NodeListData = c.push_given.new.list in
    let four : NodeListData = c.push_observations.new.list in
    subst (λ (l : List Asked). (n : ℕ) (one : Asked) → slice_get l n ≡ Some one → IsAmong (length four.nodes) one) (sym c.deref-2.ensures.value)
    (among_all S P m entries c.is_well_sorted.ensures c.requires.made.0 c.requires.made.1 _ two three four es asked c.in_ok-asked.ensures c.in_ok-push_given.ensures.grows c.in_ok-push_given.ensures.sound c.in_ok-push_given.ensures.has
    c.in_ok-push_observations.ensures.grows c.in_ok-push_observations.ensures.sound c.in_ok-push_observations.ensures.has)

pub returns : goal.returns
returns c =
    let S : Schema = c.args.rows.now.schema.now in
    let P : Presentation = c.args.rows.now.presentation.now in
    let m : Content = c.args.rows.now.tables.now in
    let entries : List ℕ = c.args.rows.now.entries.now in
    let es : List Equation = map (λ (e : Bor Equation). e.now) c.args.equations.now in
    let asked : List Asked = c.in_ok-asked.asked.items in
    let two : NodeListData = c.ask_all.new.list in
    let three : NodeListData = c.push_given.new.list in
    let four : NodeListData = c.push_observations.new.list in
    judged_all S P m entries c.is_well_sorted.ensures c.requires.made.0 c.requires.made.1 _ two three four es asked c.in_ok-asked.ensures c.in_ok-push_given.ensures.grows c.in_ok-push_given.ensures.sound c.in_ok-push_given.ensures.has
    c.in_ok-push_observations.ensures.grows c.in_ok-push_observations.ensures.sound c.in_ok-push_observations.ensures.has
    c.in_ok-answers-2.answers.items c.requires.sorted
    (subst (λ (l : List Asked). AreCompared four.nodes four.equations l c.in_ok-answers-2.answers.items) c.deref-2.ensures.value c.in_ok-answers-2.ensures)

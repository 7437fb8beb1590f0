use Rattle.std.proofs.Common.{List, [], ◌≡◌, sym, ap, subst, ◌∙◌}
use Rattle.std.specs.Prelude.{slice_index_or}
use Rattle.std.proofs.lemmas.Option.{get_or_from_slice_get}
use Rattle.cq_theory.specs.declared.term.EntTerm.{EntTerm}
use Rattle.cq_theory.specs.Listed.{IsLeastName}
use Rattle.cq_instance.specs.InstanceData.{name_at}
use Rattle.cq_transform.proofs.laws.names_of_listed.Goals as goal

pub returns : goal.returns
returns c = λ i listed entity row within.
    let t = listed.lists.named entity row within in
    let there : name_at listed.lists.names entity row ≡ t.0 =
    get_or_from_slice_get (slice_index_or listed.lists.names entity []) row t.0 (record { generator = 0; path = [] }) t.1 in
    let here : name_at i.names entity row ≡ t.0 = ap (λ (names : List (List EntTerm)). name_at names entity row) (sym listed.least) ∙ there in
    subst (IsLeastName i.schema i.presentation i.tables i.assignment entity row) (sym here) t.2

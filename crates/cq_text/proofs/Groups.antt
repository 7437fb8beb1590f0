-- Lists of the edges from each entity, as edges are added.
use Rattle.std.proofs.Common.{ℕ, List, [], ◌∷◌, ◌++◌, ◌+◌, ◌≡◌, ◌<◌, inl, inr, length, take, set, get_or, ap, sym, ◌∙◌, arith}
use Rattle.std.specs.declared.alloc.Global.{Global}
use Rattle.std.specs.declared.vec.Vec.{Vec}
use Rattle.std.proofs.lemmas.Bool.{cases_eq}
use Rattle.std.proofs.lemmas.List.{length-set, length_push, get_or-set_same, get_or-set_other, get_or_append_left, get_or_push}
use Rattle.cq_theory.specs.declared.schema.Edge.{Edge}
use Rattle.cq_text.specs.Grouped.{IsGrouped, numbers_from}
use Rattle.cq_text.proofs.Numbers.{numbers_from_more, numbers_from_same}

-- one more empty list, where there are no edges
pub IsGrouped-push : (entities : ℕ) (groups : List (Vec ℕ Global)) (group : Vec ℕ Global) → IsGrouped [] entities groups → group.items ≡ []
    → IsGrouped [] (entities + 1) (groups ++ group ∷ [])
IsGrouped-push entities groups group grouped empty = record {
  count = length_push groups group ∙ ap (λ n. n + 1) grouped.count;
  group = λ entity d below. elim (cases_eq entity entities) [
    | inl same ↦
        let whole : length groups ≡ entity = grouped.count ∙ sym same in
        ap (λ (v : Vec ℕ Global). v.items) (get_or_push groups group d entity whole) ∙ empty
    | inr other ↦
        let count : length groups ≡ entities = grouped.count in
        let inside : entity < length groups = omega arith in
        ap (λ (v : Vec ℕ Global). v.items) (get_or_append_left groups (group ∷ []) d entity inside) ∙ grouped.group entity d (omega arith)
  ];
}

-- one more edge, whose number is added to the list of its source
pub IsGrouped-more : (edges : List Edge) (entities i : ℕ) (groups : List (Vec ℕ Global)) (edge : Edge) (before group : Vec ℕ Global)
    → i < length edges → edge ≡ get_or edges i edge → edge.from < entities
    → IsGrouped (take i edges) entities groups → before ≡ get_or groups edge.from before → group.items ≡ before.items ++ i ∷ []
    → IsGrouped (take (i + 1) edges) entities (set groups edge.from group)
IsGrouped-more edges entities i groups edge before group within is source grouped read added = record {
  count = length-set groups edge.from group ∙ grouped.count;
  group = λ entity d below. elim (cases_eq entity edge.from) [
    | inl same ↦
        let count : length groups ≡ entities = grouped.count in
        let inside : edge.from < length groups = omega arith in
        ap (λ e. (get_or (set groups edge.from group) e d).items) same
        ∙ ap (λ (v : Vec ℕ Global). v.items) (get_or-set_same groups edge.from group d inside)
        ∙ added
        ∙ ap (λ l. l ++ i ∷ []) (ap (λ (v : Vec ℕ Global). v.items) read ∙ grouped.group edge.from before source)
        ∙ sym (numbers_from_more edge.from edges i edge within (ap (λ (e : Edge). e.from) (sym is)))
        ∙ ap (λ e. numbers_from e (take (i + 1) edges)) (sym same)
    | inr other ↦
        ap (λ (v : Vec ℕ Global). v.items) (get_or-set_other groups edge.from entity group d other)
        ∙ grouped.group entity d below
        ∙ sym (numbers_from_same entity edges i edge within (λ e. other (sym (ap (λ (x : Edge). x.from) is ∙ e))))
  ];
}

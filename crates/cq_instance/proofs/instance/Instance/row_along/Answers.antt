use Rattle.std.proofs.Common.{ℕ, List, [], ◌∷◌, ◌≡◌, ◌<◌, ◌+◌, drop, get_or, sym, ap, subst, ◌∙◌}
use Rattle.std.proofs.lemmas.List.{drop_more, drop_all}
use Rattle.std.proofs.lemmas.Option.{same_Some}
use Rattle.cq_theory.specs.Tables.{count_of, key_at, row_from}
use Rattle.cq_instance.specs.InstanceData.{InstanceData}
use Rattle.cq_instance.specs.Terms.{IsOnWay}
use Rattle.cq_instance.proofs.OnWay.{next}
use Rattle.cq_instance.proofs.instance.Instance.row_along.Goals as goal

pub key-reached-requires-clause-key : goal.key-reached-requires-clause-key
key-reached-requires-clause-key c =
    let i : InstanceData = c.args.self.now in
    let path : List ℕ = c.args.path.now in
    let n : ℕ = c.loop-key.key-index in
    let target : ℕ = c.requires.0 in
    let on_way : IsOnWay i.schema i.tables (get_or path n 0 ∷ drop (n + 1) path) c.loop-key.reached target =
    subst (λ (p : List ℕ). IsOnWay i.schema i.tables p c.loop-key.reached target) (drop_more path n 0 c.loop-key-test.true) (c.loop-key.invariant.on_way target c.requires.1) in
    (next i.schema i.tables c.is_instance.ensures.well_formed (get_or path n 0) c.loop-key.reached target (drop (n + 1) path) on_way).known

pub key-reached-requires-clause-row : goal.key-reached-requires-clause-row
key-reached-requires-clause-row c =
    let i : InstanceData = c.args.self.now in
    let path : List ℕ = c.args.path.now in
    let n : ℕ = c.loop-key.key-index in
    let target : ℕ = c.requires.0 in
    let on_way : IsOnWay i.schema i.tables (get_or path n 0 ∷ drop (n + 1) path) c.loop-key.reached target =
    subst (λ (p : List ℕ). IsOnWay i.schema i.tables p c.loop-key.reached target) (drop_more path n 0 c.loop-key-test.true) (c.loop-key.invariant.on_way target c.requires.1) in
    (next i.schema i.tables c.is_instance.ensures.well_formed (get_or path n 0) c.loop-key.reached target (drop (n + 1) path) on_way).of_entity

pub loop-key-preserved : goal.loop-key-preserved
loop-key-preserved c =
    let i : InstanceData = c.args.self.now in
    let path : List ℕ = c.args.path.now in
    let n : ℕ = c.loop-key.key-index in
    let key : ℕ = get_or path n 0 in
    let more : drop n path ≡ key ∷ drop (n + 1) path = drop_more path n 0 c.loop-key-test.true in
    let row_is : c.key-reached.result ≡ key_at i.tables key c.loop-key.reached = c.key-reached.ensures in
    record {
      rest = ap (λ r. row_from i.tables r (drop (n + 1) path)) row_is ∙ sym (ap (row_from i.tables c.loop-key.reached) more) ∙ c.loop-key.invariant.rest;
      on_way = λ target h.
          let on_way : IsOnWay i.schema i.tables (key ∷ drop (n + 1) path) c.loop-key.reached target =
          subst (λ (p : List ℕ). IsOnWay i.schema i.tables p c.loop-key.reached target) more (c.loop-key.invariant.on_way target h) in
          subst (λ (r : ℕ). IsOnWay i.schema i.tables (drop (n + 1) path) r target) (sym row_is)
          (next i.schema i.tables c.is_instance.ensures.well_formed key c.loop-key.reached target (drop (n + 1) path) on_way).on_way;
    }

pub returns-clause-within : goal.returns-clause-within
returns-clause-within c = λ target h.
    let i : InstanceData = c.args.self.now in
    let path : List ℕ = c.args.path.now in
    let n : ℕ = c.loop-key.key-index in
    let on_way : IsOnWay i.schema i.tables [] c.loop-key.reached target =
    subst (λ (p : List ℕ). IsOnWay i.schema i.tables p c.loop-key.reached target) (drop_all n path c.loop-key-test.false) (c.loop-key.invariant.on_way target h) in
    subst (λ d. c.loop-key.reached < count_of i.tables d) (same_Some on_way.entity target on_way.leads) on_way.within

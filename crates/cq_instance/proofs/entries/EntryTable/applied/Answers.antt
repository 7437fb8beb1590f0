use Rattle.std.proofs.Common.{ℕ, List, length, arith, ◌≡◌, ◌∙◌, IfOk, ap, subst}
use Rattle.std.specs.Prelude.{find, Option}
use Rattle.cq_theory.specs.declared.value.Value.{Value}
use Rattle.cq_theory.specs.declared.value.Entry.{Entry}
use Rattle.cq_theory.specs.declared.value.Algebra.{Algebra}
use Rattle.cq_theory.specs.Tables.{is_for, entry_or_built}
use Rattle.cq_instance.specs.EntryLists.{first_among, list_for}
use Rattle.cq_instance.proofs.EntryPlaces.{found_by_lists}
use Rattle.cq_instance.proofs.entries.EntryTable.applied.Goals as goal

pub returns : goal.returns
returns c =
    let f : ℕ = c.args.function in
    let args : List Value = c.args.args.items in
    let entries : List Entry = c.self.inside.algebra.entries in
    let lists : List (List ℕ) = c.self.inside.lists in
    let places = c.places_for-places.ensures ∙ (λ j. list_for c.self.inside.hashing (c.as_slice-lists.ensures j) f (c.as_slice.ensures.value j)) in
    let found : first_among (is_for f args) c.as_slice-entries.result.now c.places_for-places.result.now ≡ find (is_for f args) c.args.self.now.entries =
    (λ j. first_among (is_for f args) (c.as_slice-entries.ensures j) (places j))
    ∙ found_by_lists c.self.inside.hashing entries lists f args c.self.invariant (omega (arith, c.if-lists-eq0.false, ap length c.as_slice-lists.ensures))
    ∙ ap (λ (a : Algebra). find (is_for f args) a.entries) c.self.view_is in
    subst (λ (o : Option Entry). IfOk c.applied_among.result (λ (v : Value). v ≡ entry_or_built o f args)) found c.applied_among.ensures

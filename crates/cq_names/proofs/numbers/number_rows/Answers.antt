use Rattle.std.proofs.Common.{ℕ, List, ◌≡◌, ◌<◌, ◌∙◌, ap, sym, subst, map, length, slice_index, arith}
use Rattle.std.specs.Prelude.{All}
use Rattle.std.proofs.lemmas.List.{length-map}
use Rattle.cq_tables.specs.Content.{made_of}
use Rattle.cq_tables.specs.Content.{entity_of as row_entity}
use Rattle.cq_theory.specs.Canonical.{below}
use Rattle.cq_theory.specs.Groups.{positions}
use Rattle.cq_names.specs.RowNumbers.{row_entities, names_by, AreNumbers}
use Rattle.cq_instance.proofs.Lists.{map-map}
use Rattle.cq_names.proofs.RowMembers.{members_within}
use Rattle.cq_names.proofs.RowMembers.{members_in}
use Rattle.cq_names.proofs.numbers.number_rows.Goals as goal

pub row_entities-requires : goal.row_entities-requires
row_entities-requires c = subst (λ (l : List ℕ). All (λ row. row < made_of c.args.tables.now) l) (sym c.as_slice.ensures.value) c.requires.rows

pub grouped-requires : goal.grouped-requires
grouped-requires c =
    let are : c.as_slice-2.result.now ≡ row_entities c.args.tables.now c.args.rows.items = c.as_slice-2.ensures.value ∙ c.in_ok-members.ensures ∙ ap (row_entities c.args.tables.now) c.as_slice.ensures.value in
    record {
      within = subst (λ (l : List ℕ). All (λ e. e < c.args.entities) l) (sym are) (members_in c.args.tables.now c.args.rows.items c.args.entities c.requires.whole c.requires.entities c.requires.rows);
      numbers = omega (arith, ap length are, length-map c.args.rows.items (row_entity c.args.tables.now), c.len.ensures, c.if-len.false, c.as_slice.ensures.len, ap length c.as_slice.ensures.value);
    }

pub rows_in_groups-requires : goal.rows_in_groups-requires
rows_in_groups-requires c =
    let are : c.as_slice-2.result.now ≡ row_entities c.args.tables.now c.args.rows.items = c.as_slice-2.ensures.value ∙ c.in_ok-members.ensures ∙ ap (row_entities c.args.tables.now) c.as_slice.ensures.value in
    let size : length c.as_slice-2.result.now ≡ length c.as_slice-3.result.now = ap length are ∙ length-map c.args.rows.items (row_entity c.args.tables.now) ∙ ap length (sym c.as_slice-3.ensures.value) in
    subst (λ (l : List (List ℕ)). All (λ group. All (λ place. place < length c.as_slice-3.result.now) group) l) (sym (c.as_slice-4.ensures ∙ c.in_ok-groups.ensures))
    (members_within c.as_slice-2.result.now c.args.entities (length c.as_slice-3.result.now) size)

pub numbers_of-requires : goal.numbers_of-requires
numbers_of-requires c =
    let are : c.as_slice-6.result.now ≡ row_entities c.args.tables.now c.args.rows.items = c.as_slice-6.ensures.value ∙ c.in_ok-members.ensures ∙ ap (row_entities c.args.tables.now) c.as_slice.ensures.value in
    record {
      rows = subst (λ (p : ℕ × List ℕ). All (λ row. row < p.0) p.1) (λ i. (sym c.made.ensures i, sym c.as_slice-5.ensures.value i)) c.requires.rows;
      members = subst (λ (l : List ℕ). All (λ e. e < c.args.entities) l) (sym are) (members_in c.args.tables.now c.args.rows.items c.args.entities c.requires.whole c.requires.entities c.requires.rows);
      same = ap length are ∙ length-map c.args.rows.items (row_entity c.args.tables.now) ∙ ap length (sym c.as_slice-5.ensures.value);
      few = omega (arith, c.len.ensures, c.if-len.false, c.as_slice.ensures.len, ap length c.as_slice.ensures.value, ap length c.as_slice-5.ensures.value);
      once = λ i j r a b. c.requires.once i j r (rw (sym c.as_slice-5.ensures.value) a) (rw (sym c.as_slice-5.ensures.value) b);
    }

pub names_in_groups-requires : goal.names_in_groups-requires
names_in_groups-requires c =
    let are : c.as_slice-7.result.now ≡ row_entities c.args.tables.now c.args.rows.items = c.as_slice-7.ensures.value ∙ c.in_ok-members.ensures ∙ ap (row_entities c.args.tables.now) c.as_slice.ensures.value in
    record {
      members = subst (λ (l : List ℕ). All (λ e. e < c.args.entities) l) (sym are) (members_in c.args.tables.now c.args.rows.items c.args.entities c.requires.whole c.requires.entities c.requires.rows);
      same = ap length are ∙ length-map c.args.rows.items (row_entity c.args.tables.now) ∙ sym c.requires.names;
    }

pub returns : goal.returns
returns c =
    let rows : List ℕ = c.args.rows.items in
    let members : c.in_ok-members.members.items ≡ row_entities c.args.tables.now rows = c.in_ok-members.ensures ∙ ap (row_entities c.args.tables.now) c.as_slice.ensures.value in
    let first : c.as_slice-2.result.now ≡ row_entities c.args.tables.now rows = c.as_slice-2.ensures.value ∙ members in
    let second : c.as_slice-6.result.now ≡ row_entities c.args.tables.now rows = c.as_slice-6.ensures.value ∙ members in
    let third : c.as_slice-7.result.now ≡ row_entities c.args.tables.now rows = c.as_slice-7.ensures.value ∙ members in
    let groups : c.in_ok-groups.groups ≡ map (positions (row_entities c.args.tables.now rows)) (below c.args.entities) = c.in_ok-groups.ensures ∙ ap (λ (l : List ℕ). map (positions l) (below c.args.entities)) first in
    record {
      rows_are = c.from_vec.ensures;
      members_are = c.from_vec-2.ensures ∙ members;
      groups_are = groups;
      order_is = c.in_ok-order.ensures ∙ (λ i. map (map (slice_index (c.as_slice-3.ensures.value i))) ((c.as_slice-4.ensures ∙ groups) i)) ∙ map-map (map (slice_index rows)) (positions (row_entities c.args.tables.now rows)) (below c.args.entities);
      names_are = c.in_ok-names.ensures ∙ ap (λ (l : List ℕ). names_by l c.args.entities c.args.names.items) third;
      numbers_are = subst (λ (l : List ℕ). AreNumbers (row_entities c.args.tables.now rows) rows l) (sym c.from_vec-3.ensures)
          (subst (λ (p : List ℕ × List ℕ). AreNumbers p.0 p.1 c.in_ok-numbers.numbers.items) (λ i. (second i, c.as_slice-5.ensures.value i)) c.in_ok-numbers.ensures);
    }

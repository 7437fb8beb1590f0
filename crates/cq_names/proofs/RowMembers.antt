-- The entities of rows, and lists of the places of one number.
use Rattle.std.proofs.Common.{ℕ, List, ◌≡◌, ◌<◌, map, length, get_or, subst, arith}
use Rattle.std.specs.Prelude.{All}
use Rattle.std.proofs.lemmas.List.Elements.{All-map}
use Rattle.std.proofs.lemmas.Option.{slice_get_within}
use Rattle.cq_tables.specs.Content.{Content, made_of, entities_of, IsWhole}
use Rattle.cq_tables.specs.Content.{entity_of as row_entity}
use Rattle.cq_theory.specs.Canonical.{below}
use Rattle.cq_theory.specs.Groups.{positions}
use Rattle.cq_instance.proofs.Lists.{All_from, get-map_from}
use Rattle.cq_names.specs.RowNumbers.{row_entities}
use Rattle.cq_names.proofs.Ranks.{positions_at, members-length}

pub members_in : (m : Content) (rows : List ℕ) (entities : ℕ) → IsWhole m → entities ≡ entities_of m → All (λ row. row < made_of m) rows → All (λ e. e < entities) (row_entities m rows)
members_in m rows entities whole same made = All-map (λ e. e < entities) (row_entity m) rows (λ k d h. let kind = whole.kind (get_or rows k d) (made k d h) in omega (arith, kind, same))

-- lists of groups, of which each has a property
pub All_groups : (P : List ℕ → Type 0) (xs : List ℕ) (n : ℕ) → ((e : ℕ) → P (positions xs e)) → All P (map (positions xs) (below n))
All_groups P xs n h = All_from P (map (positions xs) (below n)) (λ k group is.
    let e = get-map_from (positions xs) (below n) k group is in subst P e.2 (h e.0))

pub few_members : (xs : List ℕ) (n limit : ℕ) → length xs < limit → All (λ group. length group < limit) (map (positions xs) (below n))
few_members xs n limit few = All_groups (λ group. length group < limit) xs n (λ e. omega (arith, members-length xs e))

pub members_within : (xs : List ℕ) (n limit : ℕ) → length xs ≡ limit → All (λ group. All (λ k. k < limit) group) (map (positions xs) (below n))
members_within xs n limit size = All_groups (λ group. All (λ k. k < limit) group) xs n (λ e.
    All_from (λ k. k < limit) (positions xs e) (λ r k is. omega (arith, slice_get_within xs k e (positions_at xs e r k is).0)))

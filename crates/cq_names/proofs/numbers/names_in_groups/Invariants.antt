use Rattle.std.proofs.Common.{◌≡◌, ◌++◌, map, take, length}
use Rattle.cq_theory.specs.Canonical.{below}
use Rattle.cq_theory.specs.Groups.{positions}
use Rattle.cq_names.specs.RowNumbers.{name_in}
use Rattle.cq_names.proofs.numbers.names_in_groups.Given as goal

abbrev pub invariant-loop-name : goal.invariant-loop-name
invariant-loop-name l = record {
  place_is : l.place ≡ length l.yielded;
  rest : l.yielded ++ l.name-iterator.rest.items ≡ l.fn.names.items;
  groups_are : map (λ group. group.items) l.groups.items ≡ map (λ e. map (name_in l.fn.names.items) (positions (take l.place l.members) e)) (below l.entities);
}

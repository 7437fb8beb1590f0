-- Parts are tested over first generators as over all generators.
use Rattle.std.proofs.Common.{List, [], Some, not, ◌≡◌, ◌||◌}
use Rattle.std.specs.Prelude.{is_none, option_map, if◌then◌else◌}
use Rattle.cq_base.specs.declared.name.Name.{Name}
use Rattle.cq_base.specs.declared.raw.Raw.{Raw}
use Rattle.cq_theory.specs.declared.refusal.TermRefusal.TheVariants.{Unknown, WrongCount, WrongSort}
use Rattle.cq_theory.specs.Declaring.{first_part_fault, duplicate_or}
use Rattle.cq_theory.specs.Resolve.{has_wrong_count, are_of_one_sort, in_part}
use Rattle.cq_theory.specs.SchemaData.{SchemaData as Schema}
use Rattle.cq_theory.specs.Sorts.{Generators}
use Rattle.cq_scope.specs.declared.names.Firsts.{Firsts}
use Rattle.cq_scope.specs.Firsts.{AreFirstsOf}
use Rattle.cq_scope.proofs.Over.{has_unknown_over, raw_sort_over, sort_over}
use Rattle.cq_transform.specs.Images.{scope_of, image_rule, late_rule, parts_fault}

module _ (S : Schema) (G H : Generators) (from to : Firsts) (starts : AreFirstsOf G from) (ends : AreFirstsOf H to) where
  rule_over : (part : Name × Raw) → image_rule S from.scope to.scope part ≡ image_rule S (scope_of G) (scope_of H) part
  unfolding image_rule
  rule_over part = λ i.
      let sort = sort_over S G from.scope.names from.scope.sorts from.numbers starts part.0 i in
      if is_none sort || has_unknown_over S H to.scope.names to.scope.sorts to.numbers ends i part.1 then Some Unknown
      else (if has_wrong_count S part.1 then Some WrongCount
      else (if not (are_of_one_sort (raw_sort_over S H to.scope.names to.scope.sorts to.numbers ends i part.1) sort) then Some WrongSort
      else late_rule S part.1))

  pub parts_over : (parts : List (Name × Raw)) → parts_fault S from.scope to.scope parts ≡ parts_fault S (scope_of G) (scope_of H) parts
  parts_over parts = λ i. first_part_fault (λ part. part.0) (λ earlier n part. duplicate_or earlier n part.0 (option_map (in_part n) (rule_over part i))) [] 0 parts

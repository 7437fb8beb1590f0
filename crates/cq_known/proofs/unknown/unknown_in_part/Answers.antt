use Rattle.std.proofs.Common.{List, Some, sym, ap, ◌∙◌}
use Rattle.std.specs.Prelude.{slice_get}
use Rattle.std.proofs.lemmas.Option.{slice_get-get_or}
use Rattle.cq_base.specs.declared.name.Name.{Name}
use Rattle.cq_known.proofs.unknown.unknown_in_part.Goals as goal

pub returns : goal.returns
returns c = record {
  names = c.as_slice-2.result.now;
  number = c.in-Some.number;
  first = sym c.first_spelled.ensures ∙ c.in-Some.is;
  is_name =
      ap (λ (names : List Name). slice_get names c.in-Some.number) (c.as_slice-2.ensures.value ∙ sym c.deref.ensures.value)
      ∙ slice_get-get_or c.deref.result.now c.in-Some.number c.in-Some-get.name.now c.in-Some-get.ensures.lookup.3.0
      ∙ ap Some (sym c.in-Some-get.ensures.lookup.1 ∙ sym c.in_ok-clone.ensures.cases);
}

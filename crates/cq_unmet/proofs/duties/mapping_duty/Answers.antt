use Rattle.std.proofs.Common.{List, ◌<◌, ap, refl, sym, length, ◌∙◌, arith}
use Rattle.std.proofs.lemmas.Option.{slice_get_read}
use Rattle.std.specs.Prelude.{slice_get}
use Rattle.cq_mapping.specs.declared.duties.Duty.{Duty}
use Rattle.cq_unmet.proofs.duties.mapping_duty.Goals as goal

pub returns : goal.returns
returns c =
    let items = c.in_ok-duties.duties.items in
    let less : c.args.number < length items = omega (arith, c.in_ok-duties.duties.ok.0) in
    let read = slice_get_read items (length items) c.args.number c.remove-duty.result refl less c.remove-duty.ensures.value in
    c.in_ok-asked.ensures c.args.number (ap (λ (l : List Duty). slice_get l c.args.number) (sym c.in_ok-duties.ensures) ∙ read)

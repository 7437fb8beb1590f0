use Rattle.std.proofs.Common.{◌≡◌, [], Some, List, ℕ, IfOk, sym, subst, ap, ◌∙◌}
use Rattle.std.specs.Option.{option_map}
use Rattle.csv.specs.Machine.{next_record}
use Rattle.csv.specs.Reading.{default_config, strip_bom}
use Rattle.csv.specs.Records.{fields_of}
use Rattle.csv.specs.declared.parser.State.TheVariants as st
use Rattle.cq_origin.proofs.Ids.{id_is, no_id}
use Rattle.cq_origin.proofs.records.id_at.Goals as goal

pub returns-in-Some : goal.returns-in-Some
returns-in-Some c =
    subst (λ (x : List ℕ). IfOk c.id_of.result (λ id. id ≡ x))
    (id_is (next_record default_config st.StartRecord [] [] (strip_bom c.args.text.now)) (fields_of c.in-Some.fields)
    (ap (option_map fields_of) (sym c.in-Some.is) ∙ c.in_ok-found.ensures))
    c.id_of.ensures

pub returns-in-None : goal.returns-in-None
returns-in-None c =
    c.from_vec.ensures ∙ c.new.ensures.items
    ∙ sym (no_id (next_record default_config st.StartRecord [] [] (strip_bom c.args.text.now)) c.in_ok-found.found fields_of c.in-None.is c.in_ok-found.ensures)

use Rattle.std.proofs.Common.{◌≡◌, Bor, None, option_map, length, sym, ap, subst, ◌∙◌, arith, inl, inr}
use Rattle.cq_tables.specs.Content.{Content}
use Rattle.cq_theory.specs.declared.presentation.Presentation.{Presentation}
use Rattle.cq_theory.specs.declared.constant.Con.{Con}
use Rattle.cq_theory.specs.SchemaData.{SchemaData as Schema}
use Rattle.cq_names.specs.declared.numbers.NumberedRows.{NumberedRows}
use Rattle.cq_model.specs.Built.{IsBuilt}
use Rattle.cq_model.specs.BuiltParts.{IsRefusal, instance_of}
use Rattle.cq_model.specs.declared.refusal.BuildRefusal.TheVariants.{Inconsistent}
use Rattle.cq_instance.specs.Listed.{IsListed}
use Rattle.cq_model.proofs.BuiltListed.{inconsistent}
use Rattle.cq_model.proofs.ModelMade.{earlier_arguments, sides_within, parts_instance, parts_listed, listed_consistent}
use Rattle.cq_model.proofs.building.model_parts.Goals as goal

-- two constants that are lent, as they are
abbrev seen : Bor Con × Bor Con → Con × Con
seen pair = (pair.0.now, pair.1.now)

pub close_nodes-requires : goal.close_nodes-requires
close_nodes-requires c =
    let S : Schema = c.args.schema.now in
    let P : Presentation = c.args.presentation.now in
    let m : Content = c.args.tables.now in
    let numbered : NumberedRows = c.args.numbered.now in
    record {
      arguments = earlier_arguments S P m c.args.entries.now numbered.order numbered.names numbered.numbers c.in_ok-list.places c.in_ok-list.list.nodes c.in_ok-list.list.equations c.in_ok-list.list.types c.in_ok-list.ensures;
      sides = sides_within S P m c.args.entries.now numbered.order numbered.names numbered.numbers c.in_ok-list.places c.in_ok-list.list.nodes c.in_ok-list.list.equations c.in_ok-list.list.types c.in_ok-list.ensures;
    }

pub returns-in-Some-clause-refused : goal.returns-in-Some-clause-refused
returns-in-Some-clause-refused c =
    let S : Schema = c.args.schema.now in
    let P : Presentation = c.args.presentation.now in
    let m : Content = c.args.tables.now in
    let numbered : NumberedRows = c.args.numbered.now in
    let clash : IsRefusal S P (Inconsistent c.in-Some.least.now c.in-Some.greater.now) =
    inconsistent S P m c.args.entries.now c.is_well_sorted.ensures c.requires.presentation c.requires.closed numbered.order numbered.names numbered.numbers c.in_ok-list.places c.in_ok-list.list.nodes c.in_ok-list.list.equations c.in_ok-list.list.types
    c.in_ok-list.ensures c.in_ok-flat.flat c.in_ok-flat.ensures.closure c.in-Some.least.now c.in-Some.greater.now (sym c.clash.ensures ∙ ap (option_map seen) c.in-Some.is) in
    elim c.clash_refusal.ensures [
      | inl same ↦ subst (IsRefusal S P) (sym same) clash
      | inr none ↦ subst (IsRefusal S P) (sym none) tt
    ]

pub read_parts-requires : goal.read_parts-requires
read_parts-requires c =
    let S : Schema = c.args.schema.now in
    let P : Presentation = c.args.presentation.now in
    let m : Content = c.args.tables.now in
    let numbered : NumberedRows = c.args.numbered.now in
    let types : c.in_ok-list.list.types ≡ c.as_slice.result.now = sym (c.as_slice.ensures.value ∙ c.in_ok-flat.ensures.types) in
    let built : IsBuilt S P m c.args.entries.now numbered.order numbered.names numbered.numbers c.in_ok-list.places c.in_ok-list.list.nodes c.in_ok-list.list.equations c.as_slice.result.now =
    subst (IsBuilt S P m c.args.entries.now numbered.order numbered.names numbered.numbers c.in_ok-list.places c.in_ok-list.list.nodes c.in_ok-list.list.equations) types c.in_ok-list.ensures in
    record {
      few_types = omega (arith, c.in_ok-flat.types.ok.0, c.in_ok-flat.types.ok.1, c.in_ok-flat.types.small, ap length c.as_slice.ensures.value);
      closed = c.requires.closed;
      built = (c.in_ok-list.list.nodes, c.in_ok-list.list.equations, built, c.in_ok-flat.ensures.closure);
    }

pub returns : goal.returns
returns c =
    let S : Schema = c.args.schema.now in
    let P : Presentation = c.args.presentation.now in
    let m : Content = c.args.tables.now in
    let numbered : NumberedRows = c.args.numbered.now in
    let types : c.in_ok-list.list.types ≡ c.as_slice.result.now = sym (c.as_slice.ensures.value ∙ c.in_ok-flat.ensures.types) in
    let built : IsBuilt S P m c.args.entries.now numbered.order numbered.names numbered.numbers c.in_ok-list.places c.in_ok-list.list.nodes c.in_ok-list.list.equations c.as_slice.result.now =
    subst (IsBuilt S P m c.args.entries.now numbered.order numbered.names numbered.numbers c.in_ok-list.places c.in_ok-list.list.nodes c.in_ok-list.list.equations) types c.in_ok-list.ensures in
    let consistent : c.in_ok-flat.flat.clash ≡ None = sym c.clash.ensures ∙ ap (option_map seen) c.in_default.is in
    let listed : IsListed (instance_of S P numbered.names c.in_ok-parts.parts) =
    parts_listed S P m c.args.entries.now numbered.order numbered.names numbered.numbers c.in_ok-list.places c.in_ok-list.list.nodes c.in_ok-list.list.equations c.as_slice.result.now built
    c.is_well_sorted.ensures c.requires.presentation c.requires.closed c.in_ok-flat.flat c.in_ok-flat.ensures.closure consistent c.in_ok-parts.parts c.in_ok-parts.ensures.tables c.in_ok-parts.ensures.assignment in
    record {
      instance = parts_instance S P m c.args.entries.now numbered.order numbered.names numbered.numbers c.in_ok-list.places c.in_ok-list.list.nodes c.in_ok-list.list.equations c.as_slice.result.now built
          c.is_well_sorted.ensures c.requires.presentation c.requires.closed c.in_ok-flat.flat c.in_ok-flat.ensures.closure consistent c.in_ok-parts.parts c.in_ok-parts.ensures.tables c.in_ok-parts.ensures.assignment;
      listed = listed;
      consistent = listed_consistent (instance_of S P numbered.names c.in_ok-parts.parts) c.is_well_sorted.ensures listed;
      refused = tt;
    }

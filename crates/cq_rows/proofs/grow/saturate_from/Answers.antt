use Rattle.std.proofs.lemmas.Result.{err_from_is_err_and}
use Rattle.cq_rows.specs.Entries.{rows_of}
use Rattle.cq_rows.proofs.WellSorted.{theory_is}
use Rattle.cq_rows.proofs.Answered.{has_entries, one_row, all_traced, within_row, all_named, path_equations, entity_equations, none_closes, some_wide, same_refusal}
use Rattle.cq_rows.proofs.grow.saturate_from.Goals as goal

pub grow-requires : goal.grow-requires
grow-requires c = record {
  schema = c.is_well_sorted.ensures;
  theory = theory_is c.args.origin.now.schema.now c.args.origin.now.presentation.now c.is_well_sorted.ensures c.requires.presentation;
  outline = c.requires.outline;
}

pub returns-clause-made : goal.returns-clause-made
returns-clause-made c =
    let th = theory_is c.args.origin.now.schema.now c.args.origin.now.presentation.now c.is_well_sorted.ensures c.requires.presentation in
    let stage = c.in_ok-tables.ensures.stage in
    record {
      whole = stage.grown.whole;
      keys = stage.grown.sound.1.keys;
      entities = stage.grown.sound.1.entities;
      entries = rw (c.from_vec.ensures, c.into_rows.ensures) (has_entries c.args.origin.now.schema.now c.args.origin.now.presentation.now th c.in_ok-tables.tables (rows_of c.in_ok-tables.rows) c.args.depth c.in_ok-tables.ensures.stage);
      sound = rw (c.from_vec.ensures, c.into_rows.ensures) (one_row c.args.origin.now.schema.now c.args.origin.now.presentation.now th c.in_ok-tables.tables (rows_of c.in_ok-tables.rows) c.args.depth c.in_ok-tables.ensures.stage);
      traced = rw (c.from_vec.ensures, c.into_rows.ensures) (all_traced c.args.origin.now.schema.now c.args.origin.now.presentation.now th c.in_ok-tables.tables (rows_of c.in_ok-tables.rows) c.args.depth c.in_ok-tables.ensures.stage);
      within = rw (c.from_vec.ensures, c.into_rows.ensures) (within_row c.args.origin.now.schema.now c.args.origin.now.presentation.now th c.in_ok-tables.tables (rows_of c.in_ok-tables.rows) c.args.depth c.in_ok-tables.ensures.stage);
      named = rw (c.from_vec.ensures, c.into_rows.ensures) (all_named c.args.origin.now.schema.now c.args.origin.now.presentation.now th c.in_ok-tables.tables (rows_of c.in_ok-tables.rows) c.args.depth c.in_ok-tables.ensures.stage);
      closed = c.in_ok-tables.ensures.closed;
      rules = path_equations c.args.origin.now.schema.now c.args.origin.now.presentation.now th c.in_ok-tables.tables (rows_of c.in_ok-tables.rows) c.args.depth c.in_ok-tables.ensures.stage;
      given = rw (c.from_vec.ensures, c.into_rows.ensures) (entity_equations c.args.origin.now.schema.now c.args.origin.now.presentation.now th c.in_ok-tables.tables (rows_of c.in_ok-tables.rows) c.args.depth c.in_ok-tables.ensures.stage);
      unclosed = λ e. none_closes c.args.origin.now.schema.now c.args.origin.now.presentation.now c.args.depth (c.in_ok-tables.ensures.unclosed e);
    }

pub returns-in_err-tables-clause-many : goal.returns-in_err-tables-clause-many
returns-in_err-tables-clause-many c =
    let p = err_from_is_err_and c.from_residual.result c.from_residual.ensures.1 in
    rw (p.1, p.2) (λ e. some_wide c.args.origin.now.schema.now c.args.origin.now.presentation.now c.args.depth (c.in_err-tables.ensures.many (same_refusal _ _ e)))

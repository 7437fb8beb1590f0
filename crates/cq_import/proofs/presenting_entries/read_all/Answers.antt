use Rattle.std.proofs.Common.{◌++◌, ◌∙◌, ap, arith}
use Rattle.std.proofs.lemmas.Result.{on_ok_weaker, MatchResult-weaker}
use Rattle.cq_import.specs.Context.{sheets_in}
use Rattle.cq_import.specs.Entries.{rest_equations}
use Rattle.cq_import.specs.Rows.{rows_of}
use Rattle.cq_import.proofs.Joined.{contents_passed, contents_refused, given_count, given_labels, nulls_refused}
use Rattle.cq_import.proofs.presenting_entries.read_all.Goals as goal

pub read_rest-requires-clause-room : goal.read_rest-requires-clause-room
read_rest-requires-clause-room c =
    let context = c.args.context.now in
    omega (
      arith,
      c.requires.room,
      given_count context.schema.now (sheets_in context) (rows_of c.args.text.now) c.args.over.now.typeside.now c.requires.typeside c.args.made.now.labels c.requires.labels c.read_nulls.new.labels c.in_default.ensures.added,
    )

pub returns-in-Err-clause-refused : goal.returns-in-Err-clause-refused
returns-in-Err-clause-refused c =
    let context = c.args.context.now in
    nulls_refused context.schema.now (sheets_in context) (rows_of c.args.text.now) c.args.over.now.typeside.now c.requires.typeside c.args.made.now.labels c.requires.labels c.args.over.now.file.now
    c.in-Err.refusal c.in-Err.ensures.refused

pub returns-clause-passed : goal.returns-clause-passed
returns-clause-passed c =
    let context = c.args.context.now in
    on_ok_weaker c.read_rest.result
    (contents_passed context.schema.now (sheets_in context) (rows_of c.args.text.now) c.args.over.now.typeside.now c.requires.typeside c.args.made.now.labels c.requires.labels c.read_nulls.new.labels
    c.in_default.ensures.added c.args.over.now.file.now c.in_default.ensures.passed)
    c.read_rest.ensures.passed

pub returns-clause-labels : goal.returns-clause-labels
returns-clause-labels c =
    let context = c.args.context.now in
    on_ok_weaker c.read_rest.result
    (λ e. e ∙ given_labels context.schema.now (sheets_in context) (rows_of c.args.text.now) c.args.over.now.typeside.now c.requires.typeside c.args.made.now.labels c.requires.labels c.read_nulls.new.labels c.in_default.ensures.added)
    c.read_rest.ensures.labels

pub returns-clause-equations : goal.returns-clause-equations
returns-clause-equations c =
    let context = c.args.context.now in
    on_ok_weaker c.read_rest.result
    (λ e. e
    ∙ ap (λ l. c.args.made.now.equations.items ++ rest_equations context.schema.now (sheets_in context) (rows_of c.args.text.now) context.first l)
    (given_labels context.schema.now (sheets_in context) (rows_of c.args.text.now) c.args.over.now.typeside.now c.requires.typeside c.args.made.now.labels c.requires.labels c.read_nulls.new.labels c.in_default.ensures.added))
    c.read_rest.ensures.equations

pub returns-clause-refused : goal.returns-clause-refused
returns-clause-refused c =
    let context = c.args.context.now in
    MatchResult-weaker c.read_rest.result c.read_rest.ensures.refused (λ done ok. ok)
    (λ r refuses.
    contents_refused context.schema.now (sheets_in context) (rows_of c.args.text.now) c.args.over.now.typeside.now c.requires.typeside c.args.made.now.labels c.requires.labels c.read_nulls.new.labels
    c.in_default.ensures.added c.args.over.now.file.now c.in_default.ensures.passed r refuses)

use Rattle.std.proofs.Common.{ℕ, List, sym, ap, subst, Err}
use Rattle.std.specs.Prelude.{⊤}
use Rattle.std.proofs.lemmas.Bool.{MatchBool-at_true}
use Rattle.std.proofs.lemmas.Result.{MatchResult-at_err}
use Rattle.cq_rows.specs.Rows.{AllFilled}
use Rattle.cq_rows.specs.Saturated.{NoneCloses, SomeWide}
use Rattle.cq_theory.specs.SchemaData.{SchemaData as Schema}
use Rattle.cq_theory.specs.Presentation.{IsPresentation}
use Rattle.cq_model.specs.declared.refusal.BuildRefusal.TheVariants.{Depth, TooManyRows, Inconsistent}
use Rattle.cq_model.specs.BuiltParts.{IsRefusal}
use Rattle.cq_names.specs.Closed.{AreClosed}
use Rattle.cq_model.proofs.building.build.Goals as goal

pub saturate-requires : goal.saturate-requires
saturate-requires c = record {
  presentation = subst (λ (s : Schema). IsPresentation s c.args.presentation) (sym c.deref.ensures) c.requires.presentation;
  depth = c.requires.depth;
}

pub returns-in-Err-TooManyRows-clause-many : goal.returns-in-Err-TooManyRows-clause-many
returns-in-Err-TooManyRows-clause-many c = λ _.
    subst (λ (s : Schema). SomeWide s c.args.presentation c.args.depth) c.deref.ensures (c.in-Err-TooManyRows.ensures.many (ap Err c.in-Err-TooManyRows.field-0-is))

pub returns-then-not-partial-clause-open : goal.returns-then-not-partial-clause-open
returns-then-not-partial-clause-open c = λ _.
    subst (λ (s : Schema). NoneCloses s c.args.presentation c.args.depth) c.deref.ensures (c.in-Ok.ensures.unclosed c.if-not-partial.true)

pub build_closed-requires : goal.build_closed-requires
build_closed-requires c = record {
  presentation = c.requires.presentation;
  closed = subst (λ (p : Schema × List ℕ). AreClosed p.0 c.args.presentation c.in-Ok.partial.tables p.1) (λ i. (c.deref.ensures i, sym c.as_slice.ensures i)) (record {
    whole = c.in-Ok.ensures.whole;
    keys = c.in-Ok.ensures.keys;
    entities = c.in-Ok.ensures.entities;
    entries = c.in-Ok.ensures.entries;
    filled = MatchBool-at_true (AllFilled c.in-Ok.partial.tables) (AllFilled c.in-Ok.partial.tables → ⊥) c.if-not-partial.false c.in-Ok.ensures.closed;
    sound = c.in-Ok.ensures.sound;
    named = (c.args.depth, c.in-Ok.ensures.named);
    paths = c.in-Ok.ensures.rules;
    equations = c.in-Ok.ensures.given;
  });
}

pub returns-clause-schema : goal.returns-clause-schema
returns-clause-schema c = c.build_closed.ensures.schema

pub returns-clause-presentation : goal.returns-clause-presentation
returns-clause-presentation c = c.build_closed.ensures.presentation

pub returns-clause-listed : goal.returns-clause-listed
returns-clause-listed c = c.build_closed.ensures.listed

pub returns-clause-consistent : goal.returns-clause-consistent
returns-clause-consistent c = c.build_closed.ensures.consistent

pub returns-clause-open : goal.returns-clause-open
returns-clause-open c = λ e. absurd (MatchResult-at_err (λ _. ⊤) (IsRefusal c.args.schema.value c.args.presentation) Depth e c.build_closed.ensures.refused)

pub returns-clause-many : goal.returns-clause-many
returns-clause-many c = λ e. absurd (MatchResult-at_err (λ _. ⊤) (IsRefusal c.args.schema.value c.args.presentation) TooManyRows e c.build_closed.ensures.refused)

pub returns-clause-inconsistent : goal.returns-clause-inconsistent
returns-clause-inconsistent c = λ x y e. MatchResult-at_err (λ _. ⊤) (IsRefusal c.args.schema.value c.args.presentation) (Inconsistent x y) e c.build_closed.ensures.refused

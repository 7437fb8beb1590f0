use Rattle.std.proofs.Common.{Result, Ok, Err}
use Rattle.std.specs.Prelude.{IfOk}
use Rattle.cq_rows.specs.Saturated.{IsSaturated}
use Rattle.cq_rows.proofs.grow.saturate.Goals as goal

-- what follows from what is said of the answer
if_ok : {A E : Type 0} (P Q : A → Type 0) (r : Result A E) → ((a : A) → P a → Q a) → IfOk r P → IfOk r Q
if_ok P Q (Ok a) f h = f a h
if_ok P Q (Err e) f h = h

pub returns-clause-whole : goal.returns-clause-whole
returns-clause-whole c = if_ok _ _ _ (λ p (made : IsSaturated c.args.schema.now c.args.presentation.now c.args.depth p). made.whole) c.saturate_from.ensures.made

pub returns-clause-keys : goal.returns-clause-keys
returns-clause-keys c = if_ok _ _ _ (λ p (made : IsSaturated c.args.schema.now c.args.presentation.now c.args.depth p). made.keys) c.saturate_from.ensures.made

pub returns-clause-entities : goal.returns-clause-entities
returns-clause-entities c = if_ok _ _ _ (λ p (made : IsSaturated c.args.schema.now c.args.presentation.now c.args.depth p). made.entities) c.saturate_from.ensures.made

pub returns-clause-entries : goal.returns-clause-entries
returns-clause-entries c = if_ok _ _ _ (λ p (made : IsSaturated c.args.schema.now c.args.presentation.now c.args.depth p). made.entries) c.saturate_from.ensures.made

pub returns-clause-sound : goal.returns-clause-sound
returns-clause-sound c = if_ok _ _ _ (λ p (made : IsSaturated c.args.schema.now c.args.presentation.now c.args.depth p). made.sound) c.saturate_from.ensures.made

pub returns-clause-traced : goal.returns-clause-traced
returns-clause-traced c = if_ok _ _ _ (λ p (made : IsSaturated c.args.schema.now c.args.presentation.now c.args.depth p). made.traced) c.saturate_from.ensures.made

pub returns-clause-within : goal.returns-clause-within
returns-clause-within c = if_ok _ _ _ (λ p (made : IsSaturated c.args.schema.now c.args.presentation.now c.args.depth p). made.within) c.saturate_from.ensures.made

pub returns-clause-named : goal.returns-clause-named
returns-clause-named c = if_ok _ _ _ (λ p (made : IsSaturated c.args.schema.now c.args.presentation.now c.args.depth p). made.named) c.saturate_from.ensures.made

pub returns-clause-closed : goal.returns-clause-closed
returns-clause-closed c = if_ok _ _ _ (λ p (made : IsSaturated c.args.schema.now c.args.presentation.now c.args.depth p). made.closed) c.saturate_from.ensures.made

pub returns-clause-rules : goal.returns-clause-rules
returns-clause-rules c = if_ok _ _ _ (λ p (made : IsSaturated c.args.schema.now c.args.presentation.now c.args.depth p). made.rules) c.saturate_from.ensures.made

pub returns-clause-given : goal.returns-clause-given
returns-clause-given c = if_ok _ _ _ (λ p (made : IsSaturated c.args.schema.now c.args.presentation.now c.args.depth p). made.given) c.saturate_from.ensures.made

pub returns-clause-unclosed : goal.returns-clause-unclosed
returns-clause-unclosed c = if_ok _ _ _ (λ p (made : IsSaturated c.args.schema.now c.args.presentation.now c.args.depth p). made.unclosed) c.saturate_from.ensures.made

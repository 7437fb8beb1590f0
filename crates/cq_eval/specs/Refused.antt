-- Where the limits refuse the answers of a query, and its tables.
use Rattle.std.specs.Prelude.{ℕ, Bool, true, List, ◌≡◌, ◌<◌, ◌≤◌, length}
use Rattle.cq_theory.specs.Tables.{Tables}
use Rattle.cq_instance.specs.Given.{is_oversized}
use Rattle.cq_query.specs.QueryData.{QueryData as Query}
use Rattle.cq_query.specs.Answers.{AreAnswers, IsEval}
use Rattle.cq_eval.specs.declared.refusal.EvalRefusal.{EvalRefusal}
use Rattle.cq_eval.specs.declared.refusal.EvalRefusal.TheVariants.{TooManyAnswers, TooLarge, Memory}

module _ (Q : Query) (M : Tables) where
  -- the entity has over 1,000,000 answers
  pub record HasMany (entity : ℕ) : Type 0 where
    pub answers : List (List ℕ)
    pub are_answers : AreAnswers Q M entity answers
    pub many : 1000000 < length answers

  -- no entity of the target has
  abbrev pub NoneHasMany : Type 0
  NoneHasMany = (entity : ℕ) → entity < length Q.target.entities → HasMany entity → ⊥

  -- the entity has, and none before it
  pub record IsFirstMany (entity : ℕ) : Type 0 where
    pub within : entity < length Q.target.entities
    pub many : HasMany entity
    pub first : (earlier : ℕ) → earlier < entity → HasMany earlier → ⊥

  -- no entity has, and the tables of eval have over 16,000,000 rows and nulls, or a value of over 1,024 symbols in a
  -- cell
  pub record IsTooLarge : Type 0 where
    pub none : NoneHasMany
    pub tables : Tables
    pub are_tables : IsEval Q M tables
    pub oversized : is_oversized tables ≡ true

  -- what a refusal tells where the answers of an entity are asked for
  abbrev pub TellsMany : ℕ → EvalRefusal → Type 0
  TellsMany entity (TooManyAnswers told) = (told ≡ entity) × HasMany entity
  TellsMany entity TooLarge = ⊥
  TellsMany entity Memory = Unit {0}

  -- what a refusal tells where the tables are asked for
  abbrev pub TellsEval : EvalRefusal → Type 0
  TellsEval (TooManyAnswers entity) = IsFirstMany entity
  TellsEval TooLarge = IsTooLarge
  TellsEval Memory = Unit {0}

-- a refusal tells that an entity would have more than 1,000,000 answers
abbrev pub TellsOver : ℕ → ℕ → EvalRefusal → Type 0
TellsOver entity amount (TooManyAnswers told) = (told ≡ entity) × (1000000 < amount)
TellsOver entity amount TooLarge = ⊥
TellsOver entity amount Memory = Unit {0}

-- a refusal tells the first entity, of some, that would have more than 1,000,000 answers
pub record IsFirstOver (count : ℕ) (amount : ℕ → ℕ) (entity : ℕ) : Type 0 where
  pub within : entity < count
  pub over : 1000000 < amount entity
  pub first : (earlier : ℕ) → earlier < entity → amount earlier ≤ 1000000

abbrev pub TellsFirst : ℕ → (ℕ → ℕ) → EvalRefusal → Type 0
TellsFirst count amount (TooManyAnswers entity) = IsFirstOver count amount entity
TellsFirst count amount TooLarge = ⊥
TellsFirst count amount Memory = Unit {0}

-- a refusal tells that a limit on tables is passed
abbrev pub TellsLarge : Bool → EvalRefusal → Type 0
TellsLarge passed (TooManyAnswers entity) = ⊥
TellsLarge passed TooLarge = passed ≡ true
TellsLarge passed Memory = Unit {0}

-- What a function of the parser returned is what the reading of its rule gives, unless memory ran out.
use Rattle.std.specs.Prelude.{◌≡◌, ℕ, List, ◌++◌, Result, Ok, Err}
use Rattle.cq_rules.specs.Outcome.{Out, Took, Stop, then}
use Rattle.cq_rules.specs.Tree.{Tree, Trees}
use Rattle.cq_base.specs.declared.raw.Raw.{Raw}
use Rattle.cq_syntax.specs.Terms.{tree_of}
use Rattle.cq_productions.specs.TermTrees.{trees_of}
use Rattle.cq_productions.specs.declared.cursor.Cursor.{Cursor}
use Rattle.cq_productions.specs.declared.halt.Halt.{Halt}
use Rattle.cq_productions.specs.declared.halt.Halt.TheVariants as halts

abbrev pub Fails : {A : Type 0} → Halt → Out A → Type 0
Fails halts.Memory o = Unit {0}
Fails (halts.At why at) o = o ≡ Stop why at.tokens.now

-- a value, and the cursor behind its tokens
abbrev pub Gives : {A : Type 0} → Result (A × Cursor) Halt → Out A → Type 0
Gives (Ok x) o = o ≡ Took x.0 x.1.tokens.now
Gives (Err e) o = Fails e o

-- the cursor behind a token of which nothing is kept
abbrev pub Passes : Result Cursor Halt → Out (Unit {0}) → Type 0
Passes (Ok x) o = o ≡ Took tt x.tokens.now
Passes (Err e) o = Fails e o

-- these items, and then those of the outcome
abbrev pub after_items : {A : Type 0} → List A → Out (List A) → Out (List A)
after_items xs o = then o (λ ys rest. Took (xs ++ ys) rest)

-- the tree of a term, or of a list of them, which come with a number of levels
abbrev pub GivesTerm : Result (Raw × ℕ × Cursor) Halt → Out Tree → Type 0
GivesTerm (Ok x) o = o ≡ Took (tree_of x.0) x.2.tokens.now
GivesTerm (Err e) o = Fails e o

abbrev pub GivesTerms : Result (List Raw × ℕ × Cursor) Halt → Out Trees → Type 0
GivesTerms (Ok x) o = o ≡ Took (trees_of x.0) x.2.tokens.now
GivesTerms (Err e) o = Fails e o

-- the tree of a term
abbrev pub GivesTree : Result (Raw × Cursor) Halt → Out Tree → Type 0
GivesTree (Ok x) o = o ≡ Took (tree_of x.0) x.1.tokens.now
GivesTree (Err e) o = Fails e o

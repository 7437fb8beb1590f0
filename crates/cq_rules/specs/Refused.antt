-- Where a list of tokens that is no text, or breaks a limit, is refused.
use Rattle.std.specs.Prelude.{◌≡◌, ℕ, ◌<◌, List, [], ◌∷◌, ◌++◌, length}
use Rattle.cq_lex.specs.declared.token.Token.{Token}
use Rattle.cq_rules.specs.declared.why.Why.{Why}
use Rattle.cq_rules.specs.declared.why.Why.TheVariants.{Wanted, LeftOut, Deep, BadOption}
use Rattle.cq_rules.specs.Outcome.{IsNamed}
use Rattle.cq_rules.specs.Relations.{Viable, Halts}

-- the token is refused behind these: no text goes on with it, and it is no word that is left out there;
-- or it is such a word; or some text goes on with it, but a limit is broken there
abbrev pub RefusedAt : {A : Type 0} → (List Token → A → Type 0) → Halts → List Token → Token → Why → Type 0
RefusedAt R D pre t Wanted = Viable R pre × (Viable R (pre ++ t ∷ []) → ⊥) × ((n : ℕ) → D pre t (LeftOut n) → ⊥)
RefusedAt R D pre t (LeftOut n) = Viable R pre × D pre t (LeftOut n)
RefusedAt R D pre t Deep = Viable R (pre ++ t ∷ []) × D pre t Deep
RefusedAt R D pre t (BadOption p) = Viable R (pre ++ t ∷ []) × D pre t (BadOption p)

-- no token before is a word that is left out, too deep, or the value of an option that isn't allowed
abbrev pub NoneBefore : Halts → List Token → List Token → Type 0
NoneBefore D ts pre = (us : List Token) (u : Token) (vs : List Token) (v : Why) → ts ≡ us ++ u ∷ vs → length us < length pre → IsNamed v
    → D us u v → ⊥

-- the first token that decides, and why
pub record Refused {A : Type 0} (R : List Token → A → Type 0) (D : Halts) (ts : List Token) (t : Token) (w : Why) : Type 0 where
  pub front : List Token
  pub after : List Token
  pub split : ts ≡ front ++ t ∷ after
  pub none_before : NoneBefore D ts front
  pub why : RefusedAt R D front t w

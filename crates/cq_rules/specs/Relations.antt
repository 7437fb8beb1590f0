-- How relations between tokens and values compose.
use Rattle.std.specs.Prelude.{◌≡◌, ℕ, List, [], ◌∷◌, ◌++◌, ◌<◌, length, Bool, true, false, ◌⊎◌}
use Rattle.std.proofs.Common.{inl, inr}
use Rattle.cq_lex.specs.declared.token.Token.{Token}
use Rattle.cq_rules.specs.declared.why.Why.{Why}
use Rattle.cq_rules.specs.declared.why.Why.TheVariants.{Wanted, LeftOut, Deep, BadOption}
use Rattle.cq_base.specs.declared.place.Place.{Place}
use Rattle.cq_rules.specs.Outcome.{Tokens, Outs, first_place, dot, name, name_of}

-- one token of the set
abbrev pub One : {A : Type 0} → (Token → A) → Tokens → List Token → A → Type 0
One f s ts a = (t : Token) × (ts ≡ t ∷ []) × (s t ≡ true) × (a ≡ f t)

-- the one and then the other
abbrev pub BothBy : {A B : Type 0} → (List Token → A → Type 0) → (A → List Token → B → Type 0) → List Token → A × B → Type 0
BothBy P Q ts p = (us : List Token) × (vs : List Token) × (ts ≡ us ++ vs) × P us p.0 × Q p.0 vs p.1

abbrev pub Both : {A B : Type 0} → (List Token → A → Type 0) → (List Token → B → Type 0) → List Token → A × B → Type 0
Both P Q ts p = BothBy P (λ a. Q) ts p

-- no token
abbrev pub None : {A : Type 0} → A → List Token → A → Type 0
None b ts a = (ts ≡ []) × (a ≡ b)

-- a value that is made from what stands there
abbrev pub Made : {A B : Type 0} → (A → B) → (List Token → A → Type 0) → List Token → B → Type 0
Made f P ts b = (a : _) × P ts a × (b ≡ f a)

abbrev pub Either : {A B : Type 0} → (List Token → A → Type 0) → (List Token → B → Type 0) → List Token → A ⊎ B → Type 0
Either P Q ts (inl a) = P ts a
Either P Q ts (inr b) = Q ts b

abbrev pub Each : {A : Type 0} → (List Token → A → Type 0) → List Token → List A → Type 0
Each P ts [] = ts ≡ []
Each P ts (a ∷ xs) = (us : List Token) × (vs : List Token) × (ts ≡ us ++ vs) × P us a × Each P vs xs

-- the value with the place of its first token
abbrev pub Placed : {A : Type 0} → (List Token → A → Type 0) → List Token → Place × A → Type 0
Placed P ts x = P ts x.1 × (x.0 ≡ first_place ts)

-- some text of the relation begins so
abbrev pub Viable : {A : Type 0} → (List Token → A → Type 0) → List Token → Type 0
Viable P us = (vs : List Token) × (a : _) × P (us ++ vs) a

-- where a token may be refused: behind these tokens, for a reason
abbrev pub Halts : Type 1
Halts = List Token → Token → Why → Type 0

abbrev pub AtOne : Halts
AtOne pre t w = (pre ≡ []) × (w ≡ Wanted)

-- what is asked of a word that is left out, and of nothing else
abbrev pub OfLeftOut : Type 0 → Why → Type 0
OfLeftOut X Wanted = Unit {0}
OfLeftOut X (LeftOut n) = X
OfLeftOut X Deep = Unit {0}
OfLeftOut X (BadOption p) = Unit {0}

-- a word that is left out counts as one only where it doesn't go on with the text before it
abbrev pub NotOnward : {A : Type 0} → (List Token → A → Type 0) → List Token → List Token → Token → Why → Type 0
NotOnward P us [] t w = OfLeftOut (Viable P (us ++ t ∷ []) → ⊥) w
NotOnward P us (v ∷ vs) t w = Unit {0}

-- and where a choice depends on it, it is one of these
abbrev pub Enters : Tokens → List Token → Token → Why → Type 0
Enters s [] t w = OfLeftOut (s t ≡ true) w
Enters s (v ∷ vs) t w = Unit {0}

abbrev pub InBothBy : {A : Type 0} → (List Token → A → Type 0) → Halts → (A → Halts) → Halts
InBothBy P D E pre t w = D pre t w ⊎ ((a : _) × (us : List Token) × (vs : List Token) × (pre ≡ us ++ vs) × P us a × E a vs t w
    × NotOnward P us vs t w)

abbrev pub InBoth : {A : Type 0} → (List Token → A → Type 0) → Halts → Halts → Halts
InBoth P D E pre t w = InBothBy P D (λ a. E) pre t w

abbrev pub Nowhere : Halts
Nowhere pre t w = ⊥

abbrev pub InEither : {A : Type 0} → Tokens → (List Token → A → Type 0) → Halts → Halts → Halts
InEither s P D E pre t w = (D pre t w × Enters s pre t w) ⊎ (E pre t w × NotOnward P [] pre t w)

abbrev pub InEach : {A : Type 0} → Tokens → (List Token → A → Type 0) → Halts → Halts
InEach s P D pre t w = (xs : _) × (us : List Token) × (vs : List Token) × (pre ≡ us ++ vs) × Each P us xs × D vs t w × Enters s vs t w

-- no word that is left out itself
abbrev pub NotOut : Outs → List Token → Token → Why → Type 0
NotOut out [] t w = OfLeftOut (out t ≡ 0) w
NotOut out (v ∷ vs) t w = Unit {0}

abbrev pub InOr : Outs → Halts → Halts
InOr out D pre t w = (D pre t w × NotOut out pre t w) ⊎ ((pre ≡ []) × (0 < out t) × (w ≡ LeftOut (out t)))

abbrev pub AtGuard : {A : Type 0} → (Token → A) → Tokens → (A → Bool) → Why → Halts
AtGuard f s ok v pre t w = (pre ≡ []) × ((w ≡ Wanted) ⊎ ((w ≡ v) × (s t ≡ true) × (ok (f t) ≡ false)))

-- names behind dots
abbrev pub Chain : List Token → List (List ℕ) → Type 0
Chain ts [] = ts ≡ []
Chain ts (n ∷ ns) = (d : Token) × (t : Token) × (us : List Token) × (ts ≡ d ∷ t ∷ us) × (dot d ≡ true) × (name t ≡ true) × (n ≡ name_of t)
    × Chain us ns

-- the token is a name past the k-th
abbrev pub OverChain : ℕ → Halts
OverChain k pre t Wanted = Unit {0}
OverChain k pre t (LeftOut n) = ⊥
OverChain k pre t Deep = (ns : List (List ℕ)) × Chain (pre ++ t ∷ []) ns × (k < length ns)
OverChain k pre t (BadOption p) = ⊥

-- Lists of numbers below 2 ^ 64 of one length, in turn.
use Rattle.std.specs.Prelude.{ℕ, List, [], ◌∷◌, ◌+◌, ◌-◌, ◌*◌, ◌<◌, ◌≡◌, All, length}

-- as many numbers below 2 ^ 64
abbrev pub AreDigits : ℕ → List ℕ → Type 0
AreDigits n digits = (length digits ≡ n) × All (λ d. d < 18446744073709551616) digits

-- how many lists of as many numbers come after these, where the first number changes fastest
abbrev pub behind : List ℕ → ℕ
behind [] = 0
behind (d ∷ digits) = (18446744073709551615 - d) + 18446744073709551616 * behind digits

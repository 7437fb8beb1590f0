-- What a search knows of the answers behind borders.
use Rattle.std.specs.Prelude.{ℕ, List, [], ◌++◌, ◌≡◌, ◌<◌, ◌≤◌, Some, true, map, take, drop, length, slice_get}
use Rattle.cq_theory.specs.declared.presentation.Equation.{Equation}
use Rattle.cq_theory.specs.Tables.{Tables}
use Rattle.cq_eval.specs.Border.{IsBorder}
use Rattle.cq_eval.specs.Join.{found_from}
use Rattle.cq_eval.specs.declared.known.Known.{Known}
use Rattle.cq_eval.specs.declared.known.Stretch.{Stretch}

-- these rows for the first variables, with each list's rows for the others
abbrev pub behind : List ℕ → List (List ℕ) → List (List ℕ)
behind rows lists = map (λ list. rows ++ drop (length rows) list) lists

-- the lists from the one place up to the other
abbrev pub between : Stretch → List (List ℕ) → List (List ℕ)
between stretch lists = drop stretch.start (take stretch.end lists)

module _ (M : Tables) (tests : List Equation) (counts : List ℕ) (found : List (List ℕ)) where
  -- behind any rows for so many variables the same is found, and it stands here among what is found
  pub record IsKnownAt (bound : ℕ) (stretch : Stretch) : Type 0 where
    pub rises : stretch.start ≤ stretch.end
    pub within : stretch.end ≤ length found
    pub same : (rows : List ℕ) → length rows ≡ bound
        → found_from M tests counts (drop bound counts) rows ≡ behind rows (between stretch found)

  -- what is noted is known, and where the search is in vain nothing is found
  pub record AreKnown (known : Known) : Type 0 where
    pub long : length known.borders ≡ length counts
    pub borders : (bound : ℕ) → slice_get known.borders bound ≡ Some true → IsBorder (length counts) tests bound
    pub noted : (bound : ℕ) (stretch : Stretch) → slice_get known.noted.items bound ≡ Some (Some stretch)
        → IsKnownAt bound stretch
    pub vain : (bound : ℕ) (rows : List ℕ) → bound < known.vain → length rows ≡ bound
        → found_from M tests counts (drop bound counts) rows ≡ []

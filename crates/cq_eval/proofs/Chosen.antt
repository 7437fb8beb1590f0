-- Choices of rows as what variables stand for.
use Rattle.std.proofs.Common.{ℕ, List, [], ◌∷◌, ◌≡◌, map, set, refl, sym, ap, ◌∙◌}
use Rattle.std.proofs.lemmas.List.{map-set}
use Rattle.cq_theory.specs.Tables.{AtRow, row_in}
use Rattle.cq_instance.specs.declared.standing.Standing.{Standing}
use Rattle.cq_instance.specs.declared.standing.Standing.TheVariants.{Row}
use Rattle.cq_instance.specs.Standing.{meaning}

abbrev pub chosen : List Standing → List ℕ
chosen standings = map (λ s. row_in (meaning s)) standings

pub chosen_back : (rows : List ℕ) → chosen (map Row rows) ≡ rows
chosen_back [] = refl
chosen_back (row ∷ rows) = ap (λ l. row ∷ l) (chosen_back rows)

rows_mean : (rows : List ℕ) → map meaning (map Row rows) ≡ map AtRow rows
rows_mean [] = refl
rows_mean (row ∷ rows) = ap (λ l. AtRow row ∷ l) (rows_mean rows)

-- standings that are rows stand for the rows that are chosen
pub rows_stand : (standings : List Standing) (rows : List ℕ) → standings ≡ map Row rows → map meaning standings ≡ map AtRow (chosen standings)
rows_stand standings rows is = ap (map meaning) is ∙ rows_mean rows ∙ ap (map AtRow) (sym (ap chosen is ∙ chosen_back rows))

-- the same with another row for one
pub set_stand : (standings : List Standing) (n row : ℕ) → map meaning standings ≡ map AtRow (chosen standings) → map meaning (set standings n (Row row)) ≡ map AtRow (chosen (set standings n (Row row)))
set_stand standings n row h =
    map-set meaning standings n (Row row) ∙ ap (λ l. set l n (AtRow row)) h
    ∙ sym (ap (map AtRow) (map-set (λ s. row_in (meaning s)) standings n (Row row)) ∙ map-set AtRow (chosen standings) n row)

pub set_chosen : (standings : List Standing) (n row : ℕ) → chosen (set standings n (Row row)) ≡ set (chosen standings) n row
set_chosen standings n row = map-set (λ s. row_in (meaning s)) standings n (Row row)

pub first_rows : {X : Type 0} (counts : List X) → map (λ _. Row 0) counts ≡ map Row (map (λ _. 0) counts)
first_rows [] = refl
first_rows (c ∷ counts) = ap (λ l. Row 0 ∷ l) (first_rows counts)

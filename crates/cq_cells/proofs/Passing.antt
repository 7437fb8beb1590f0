-- Cells that are tested one after the other.
use Rattle.std.proofs.Common.{ℕ, List, [], ◌∷◌, ◌++◌, ◌≤◌, ◌≡◌, Some, None, Bool, true, false, length, map, take, refl, sym, ap, ◌∙◌, append_assoc}
use Rattle.std.specs.Prelude.{if◌then◌else◌}
use Rattle.std.proofs.lemmas.List.{append-nil}
use Rattle.cq_import.specs.declared.labels.Trouble.{Trouble}
use Rattle.cq_import.specs.Cells.{Cell, cell_fault, cell_uses}
use Rattle.cq_import.specs.Labels.{uses_trouble, with_uses}
use Rattle.cq_cells.specs.declared.cells.Over.{Over}
use Rattle.cq_cells.specs.declared.cells.Pass.{Pass}
use Rattle.cq_cells.specs.Found.{Found, behind_trouble, cells_found, found_in}
use Rattle.cq_cells.specs.Passes.{Passes, TellsNoMore, sheets_over, told_with, typeside_over}
use Rattle.cq_cells.specs.Shown.{Lists, most_faults, shown}
use Rattle.cq_cells.proofs.Listing.{lists_full, take_same}

abbrev pub Cells : Type 0
Cells = (ℕ → List ℕ) → List Cell

abbrev still : Over → (ℕ → List ℕ) → Pass → List Cell → List Found
still over name pass cells =
    take most_faults (map (shown name) pass.faults ++ cells_found (sheets_over over name) (typeside_over over) (Some over.most) pass.labels cells)

abbrev stopped : (ℕ → List ℕ) → Pass → List Found
stopped name pass = take most_faults (map (shown name) pass.faults)

told_going : (over : Over) (name : ℕ → List ℕ) (pass : Pass) (cells : List Cell) → pass.going ≡ true → told_with over name pass cells ≡ still over name pass cells
told_going over name pass cells going = ap (λ b. if b then still over name pass cells else stopped name pass) going

told_stopped : (over : Over) (name : ℕ → List ℕ) (pass : Pass) (cells : List Cell) → pass.going ≡ false → told_with over name pass cells ≡ stopped name pass
told_stopped over name pass cells going = ap (λ b. if b then still over name pass cells else stopped name pass) going

-- nothing is told any more
pub pass_stopped : (over : Over) (pass : Pass) (cells : Cells) → pass.going ≡ false → Passes over pass pass cells
pass_stopped over pass cells going = λ name others. told_stopped over name pass others going ∙ sym (told_stopped over name pass (cells name ++ others) going)

pub no_more_stopped : (over : Over) (pass : Pass) → pass.going ≡ false → TellsNoMore over pass
no_more_stopped over pass going = λ name others. told_stopped over name pass others going

-- a list that is full stays as it is
pub no_more_full : (over : Over) (pass : Pass) → most_faults ≤ length pass.faults → TellsNoMore over pass
no_more_full over pass full = λ name others. either name others pass.going
  where
    either : (name : ℕ → List ℕ) (others : List Cell) (b : Bool) → (if b then still over name pass others else stopped name pass) ≡ stopped name pass
    either name others true =
        sym (lists_full pass.faults (λ q. cells_found (sheets_over over q) (typeside_over over) (Some over.most) pass.labels others) full name)
    either name others false = refl

module _ (over : Over) (old new : Pass) (cell : (ℕ → List ℕ) → Cell) (going : old.going ≡ true)
    (lists : Lists old.faults new.faults (λ name. found_in (cell_fault (sheets_over over name) (typeside_over over) (Some over.most) old.labels (cell name)) None)) where
  abbrev here : (ℕ → List ℕ) → List Found
  here name = found_in (cell_fault (sheets_over over name) (typeside_over over) (Some over.most) old.labels (cell name)) None

  abbrev behind : (ℕ → List ℕ) → List Cell → List Found
  behind name others =
      cells_found (sheets_over over name) (typeside_over over) (Some over.most) (with_uses old.labels (cell_uses (typeside_over over) (cell name))) others

  -- a cell whose labels are right
  pub pass_on : ((name : ℕ → List ℕ) → uses_trouble (Some over.most) old.labels (cell_uses (typeside_over over) (cell name)) ≡ None) → new.going ≡ true
      → ((name : ℕ → List ℕ) → new.labels ≡ with_uses old.labels (cell_uses (typeside_over over) (cell name))) → Passes over old new (λ name. cell name ∷ [])
  pass_on right goes labels = λ name others.
      told_going over name new others goes
      ∙ take_same most_faults (map (shown name) new.faults) (map (shown name) old.faults ++ here name) (cells_found (sheets_over over name) (typeside_over over) (Some over.most) new.labels others) (lists name)
      ∙ ap (take most_faults)
      (append_assoc (map (shown name) old.faults) (here name) (cells_found (sheets_over over name) (typeside_over over) (Some over.most) new.labels others)
      ∙ ap (λ l. map (shown name) old.faults ++ (here name ++ cells_found (sheets_over over name) (typeside_over over) (Some over.most) l others)) (labels name)
      ∙ ap (λ t. map (shown name) old.faults ++ (here name ++ behind_trouble t (behind name others))) (sym (right name)))
      ∙ sym (told_going over name old (cell name ∷ others) going)

  -- a cell with a label that is wrong
  pub pass_off : (trouble : Trouble) → ((name : ℕ → List ℕ) → uses_trouble (Some over.most) old.labels (cell_uses (typeside_over over) (cell name)) ≡ Some trouble) → new.going ≡ false
      → Passes over old new (λ name. cell name ∷ [])
  pass_off trouble wrong goes = λ name others.
      told_stopped over name new others goes ∙ lists name
      ∙ ap (λ l. take most_faults (map (shown name) old.faults ++ l)) (sym (append-nil (here name)))
      ∙ ap (λ t. take most_faults (map (shown name) old.faults ++ (here name ++ behind_trouble t (behind name others)))) (sym (wrong name))
      ∙ sym (told_going over name old (cell name ∷ others) going)

-- so far these cells are tested, and the others are left
abbrev pub Goes : Over → Pass → Pass → Cells → Cells → Type 0
Goes over old now whole rest = (name : ℕ → List ℕ) (others : List Cell) → told_with over name now (rest name ++ others) ≡ told_with over name old (whole name ++ others)

pub goes_start : (over : Over) (old : Pass) (whole : Cells) → Goes over old old whole whole
goes_start over old whole = λ name others. refl

pub goes_more : (over : Over) (old now new : Pass) (whole rest first behind : Cells) → Goes over old now whole rest → ((name : ℕ → List ℕ) → rest name ≡ first name ++ behind name) → Passes over now new first
    → Goes over old new whole behind
goes_more over old now new whole rest first behind goes is passes = λ name others.
    passes name (behind name ++ others)
    ∙ ap (told_with over name now) (sym (append_assoc (first name) (behind name) others) ∙ ap (λ l. l ++ others) (sym (is name)))
    ∙ goes name others

pub goes_all : (over : Over) (old now : Pass) (whole rest : Cells) → Goes over old now whole rest → ((name : ℕ → List ℕ) → rest name ≡ []) → Passes over old now whole
goes_all over old now whole rest goes none = λ name others. ap (λ l. told_with over name now (l ++ others)) (sym (none name)) ∙ goes name others

-- where nothing more is listed, what is left may be left unread
pub goes_done : (over : Over) (old now : Pass) (whole rest : Cells) → Goes over old now whole rest → TellsNoMore over now → Passes over old now whole
goes_done over old now whole rest goes done = λ name others. done name others ∙ sym (done name (rest name ++ others)) ∙ goes name others

pub passes_same : (over : Over) (old new : Pass) (cells others : Cells) → ((name : ℕ → List ℕ) → cells name ≡ others name) → Passes over old new cells → Passes over old new others
passes_same over old new cells others same passes = λ name rest. passes name rest ∙ ap (λ l. told_with over name old (l ++ rest)) (same name)

-- what is listed behind all cells
pub passes_listed : (over : Over) (old new : Pass) (cells : Cells) → old.going ≡ true → old.labels ≡ [] → Passes over old new cells
    → Lists old.faults new.faults (λ name. cells_found (sheets_over over name) (typeside_over over) (Some over.most) [] (cells name))
passes_listed over old new cells going none passes = λ name.
    sym (nothing name new.going) ∙ passes name [] ∙ told_going over name old (cells name ++ []) going
    ∙ ap (λ l. take most_faults (map (shown name) old.faults ++ cells_found (sheets_over over name) (typeside_over over) (Some over.most) l (cells name ++ []))) none
    ∙ ap (λ l. take most_faults (map (shown name) old.faults ++ cells_found (sheets_over over name) (typeside_over over) (Some over.most) [] l)) (append-nil (cells name))
  where
    nothing : (name : ℕ → List ℕ) (b : Bool) → (if b then still over name new [] else stopped name new) ≡ stopped name new
    nothing name true = ap (take most_faults) (append-nil (map (shown name) new.faults))
    nothing name false = refl

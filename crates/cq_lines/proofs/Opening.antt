-- A quote that stays open, byte by byte.
use Rattle.std.specs.Prelude.{if◌then◌else◌}
use Rattle.std.proofs.Common.{◌≡◌, ◌∙◌, ℕ, List, true, false, sym, ap, get_or, drop, length, ◌+◌, ◌<◌, ◌≤◌}
use Rattle.std.proofs.lemmas.List.{drop_all}
use Rattle.csv.specs.Machine.{is_end, step}
use Rattle.csv.specs.Reading.{default_config}
use Rattle.csv.specs.declared.parser.State.{State}
use Rattle.cq_lines.specs.Quotes.{is_open, is_quoted}
use Rattle.cq_lines.proofs.Walking.{cut}

module _ (text : List ℕ) (at : ℕ) (within : at < length text) (s : State) where
  here : is_open s (drop at text) ≡ (if is_end (step default_config s (get_or text at 0)).1 then false else is_open (step default_config s (get_or text at 0)).0 (drop (at + 1) text))
  here = ap (is_open s) (cut text at within)

  pub open_further : (t : State) → t ≡ (step default_config s (get_or text at 0)).0 → is_end (step default_config s (get_or text at 0)).1 ≡ false → is_open s (drop at text) ≡ is_open t (drop (at + 1) text)
  open_further t to goes =
      here ∙ ap (λ b. if b then false else is_open (step default_config s (get_or text at 0)).0 (drop (at + 1) text)) goes ∙ ap (λ u. is_open u (drop (at + 1) text)) (sym to)

  pub open_ended : is_end (step default_config s (get_or text at 0)).1 ≡ true → is_open s (drop at text) ≡ false
  open_ended ends = here ∙ ap (λ b. if b then false else is_open (step default_config s (get_or text at 0)).0 (drop (at + 1) text)) ends

pub open_at_end : (text : List ℕ) (at : ℕ) (s : State) → length text ≤ at → is_open s (drop at text) ≡ is_quoted s
open_at_end text at s past = ap (is_open s) (drop_all at text past)

-- Texts that are appended one after another, and what they tell.
use Rattle.std.proofs.Common.{ℕ, List, ◌++◌, ◌≡◌, ap, ◌∙◌, refl, append_assoc}
use Rattle.cq_growth.specs.Repeats.{IsShortest, IsTwice}
use Rattle.cq_theory.specs.declared.presentation.Presentation.{Presentation}
use Rattle.cq_theory.specs.declared.term.EntTerm.{EntTerm}
use Rattle.cq_theory.specs.SchemaData.{SchemaData as Schema}
use Rattle.cq_witness.specs.Depth.{IsTermTold, repeats, other, new_text, repeat_text, end_text, rule_text, other_text}

pub two : (old mid new a b : List ℕ) → mid ≡ old ++ a → new ≡ mid ++ b → new ≡ old ++ (a ++ b)
two old mid new a b h g = g ∙ ap (λ l. l ++ b) h ∙ append_assoc old a b

module _ (S : Schema) (P : Presentation) (t : EntTerm) where
  -- what is told of a term, with the text that is appended
  abbrev pub Tells : List ℕ → List ℕ → Type 0
  Tells old new = (text : List ℕ) × IsTermTold S P t text × (new ≡ old ++ text)

  pub tells_other : (old mid new : List ℕ) → ((block : List ℕ) → IsTwice t.path block → ⊥) → mid ≡ old ++ new_text S P t → new ≡ mid ++ other_text S P t → Tells old new
  tells_other old mid new none a b = (new_text S P t ++ other_text S P t, other none refl, two old mid new (new_text S P t) (other_text S P t) a b)

  pub tells_repeats : (block old first second third new : List ℕ) → IsShortest t.path block → first ≡ old ++ new_text S P t → second ≡ first ++ repeat_text S block
      → third ≡ second ++ end_text S P t → new ≡ third ++ rule_text S block → Tells old new
  tells_repeats block old first second third new shortest a b c d = (
    new_text S P t ++ repeat_text S block ++ end_text S P t ++ rule_text S block,
    repeats block shortest refl,
    two old third new (new_text S P t ++ repeat_text S block ++ end_text S P t) (rule_text S block)
        (two old second third (new_text S P t ++ repeat_text S block) (end_text S P t) (two old first second (new_text S P t) (repeat_text S block) a b) c) d,
  )

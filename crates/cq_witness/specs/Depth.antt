-- What is told of rows that don't close within a depth.
use Rattle.std.specs.Prelude.{ℕ, List, [], ◌∷◌, ◌++◌, ◌≡◌, length, decimal, Option, Some, None, slice_get}
use Rattle.cq_explain.specs.Explanation.{ent_text, equation_text}
use Rattle.cq_growth.specs.News.{IsNew}
use Rattle.cq_growth.specs.Repeats.{IsShortest, IsTwice}
use Rattle.cq_rows.specs.declared.grow.Partial.{Partial}
use Rattle.cq_rows.specs.Rows.{AllFilled}
use Rattle.cq_rows.specs.Saturated.{IsSaturated, SomeWide}
use Rattle.cq_theory.specs.declared.presentation.Presentation.{Presentation}
use Rattle.cq_theory.specs.declared.schema.Edge.{Edge}
use Rattle.cq_theory.specs.declared.term.EntTerm.{EntTerm}
use Rattle.cq_theory.specs.SchemaData.{SchemaData as Schema}
use Rattle.cq_witness.specs.Paths.{from_there, over, path_equation}
use Rattle.cq_witness.specs.Phrases.{words}
use Rattle.cq_witness.specs.declared.phrases.Phrase.TheVariants as phrase

-- the entity from which a key goes, and 0 where there is no such key
abbrev pub edge_source : Option Edge → ℕ
edge_source None = 0
edge_source (Some edge) = edge.from

-- the entity from which a path goes
abbrev pub path_source : List Edge → List ℕ → ℕ
path_source keys [] = 0
path_source keys (k ∷ path) = edge_source (slice_get keys k)

-- the first key of a path, if it has one
abbrev pub first_key : List ℕ → List ℕ
first_key [] = []
first_key (k ∷ path) = k ∷ []

-- a term's generator, and at most one key
abbrev pub first_step : EntTerm → EntTerm
first_step t = record { generator = t.generator; path = first_key t.path }

module _ (S : Schema) where
  -- how deep the term is, and the term
  abbrev pub new_text : Presentation → EntTerm → List ℕ
  new_text P t = words phrase.StillNew ++ decimal (length t.path) ++ words phrase.Keys ++ ent_text S P t ++ words phrase.LineEnd

  -- the keys that it repeats
  abbrev pub repeat_text : List ℕ → List ℕ
  repeat_text block =
      words phrase.GoesOn ++ ent_text S (over S (path_source S.keys block)) (from_there block) ++ words phrase.Again

  -- the path equation that ends this
  abbrev pub rule_text : List ℕ → List ℕ
  rule_text block =
      words phrase.Indent ++ equation_text S (over S (path_source S.keys block)) (path_equation (block ++ block) block)
      ++ words phrase.LineEnd

  -- what there is to mend where keys are repeated, and where none are
  abbrev pub end_text : Presentation → EntTerm → List ℕ
  end_text P t = words phrase.SayWhich ++ ent_text S P (first_step t) ++ words phrase.OrEnd

  abbrev pub other_text : Presentation → EntTerm → List ℕ
  other_text P t = words phrase.SayWhich ++ ent_text S P (first_step t) ++ words phrase.OrDeeper

  -- what is told of a term that is new, and of the keys that it repeats
  pub data IsTermTold (P : Presentation) (t : EntTerm) (text : List ℕ) : Type 0 where
    repeats : (block : List ℕ) → IsShortest t.path block
        → text ≡ new_text P t ++ repeat_text block ++ end_text P t ++ rule_text block → IsTermTold P t text
    other : ((block : List ℕ) → IsTwice t.path block → ⊥) → text ≡ new_text P t ++ other_text P t → IsTermTold P t text

-- A term that is new at the depth is told, where some cell of the rows up to the depth is empty; and nothing where none is, or the
-- rows are too many.
pub data TellsDepth (S : Schema) (P : Presentation) (depth : ℕ) (old new : List ℕ) : Type 0 where
  open_at : (t : EntTerm) (text : List ℕ) → IsNew S P depth t → IsTermTold S P t text → new ≡ old ++ text → TellsDepth S P depth old new
  closed : (p : Partial) → IsSaturated S P depth p → AllFilled p.tables → new ≡ old → TellsDepth S P depth old new
  wide : SomeWide S P depth → new ≡ old → TellsDepth S P depth old new

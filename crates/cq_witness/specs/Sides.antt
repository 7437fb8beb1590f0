-- What the two sides of an equation lead to in an instance.
use Rattle.std.specs.Prelude.{ℕ, List, ◌++◌, ◌≡◌, unwrap_or}
use Rattle.cq_explain.specs.Explanation.{ent_text}
use Rattle.cq_instance.specs.InstanceData.{InstanceData, name_at}
use Rattle.cq_theory.specs.declared.term.EntTerm.{EntTerm}
use Rattle.cq_theory.specs.declared.term.TypeTerm.{TypeTerm}
use Rattle.cq_theory.specs.declared.term.Term.{Term}
use Rattle.cq_theory.specs.declared.term.Term.TheVariants.{Ent, Typ}
use Rattle.cq_theory.specs.Sorts.{entity_of, IsGround}
use Rattle.cq_theory.specs.Tables.{meaning_of, row_of, value_of}
use Rattle.cq_theory.specs.ValueText.{value_text}
use Rattle.cq_theory.specs.declared.value.Value.{Value}
use Rattle.cq_witness.specs.Phrases.{words}
use Rattle.cq_witness.specs.declared.phrases.Phrase.TheVariants as phrase

module _ (i : InstanceData) where
  -- the least name of the row to which a term leads
  abbrev pub row_name : EntTerm → EntTerm
  row_name t = name_at i.names (unwrap_or (entity_of i.schema i.presentation.generators t) 0) (row_of i.tables i.assignment t)

  -- two rows by these names
  abbrev pub names_text : EntTerm → EntTerm → List ℕ
  names_text first second =
      words phrase.TwoRows ++ ent_text i.schema i.presentation first ++ words phrase.And ++ ent_text i.schema i.presentation second
      ++ words phrase.LineEnd

  -- two values by their texts
  abbrev pub two_values_text : Value → Value → List ℕ
  two_values_text first second =
      words phrase.TwoValues ++ value_text i.schema.typeside first ++ words phrase.And ++ value_text i.schema.typeside second
      ++ words phrase.LineEnd

  -- the rows to which two terms lead, and the values
  abbrev pub rows_text : EntTerm → EntTerm → List ℕ
  rows_text t u = names_text (row_name t) (row_name u)

  abbrev pub values_text : TypeTerm → TypeTerm → List ℕ
  values_text t u = two_values_text (value_of i.tables i.assignment t) (value_of i.tables i.assignment u)

  -- both are terms over the instance's presentation, and they lead to two rows or two values
  pub record Differ (a b : Term) : Type 0 where
    pub left : IsGround i.schema i.presentation a
    pub right : IsGround i.schema i.presentation b
    pub apart : meaning_of i.tables i.assignment a ≡ meaning_of i.tables i.assignment b → ⊥

  -- the two rows or values are told exactly where they differ
  pub data TellsSides (a b : Term) (old new : List ℕ) : Type 0 where
    rows : (t u : EntTerm) → a ≡ Ent t → b ≡ Ent u → Differ a b → new ≡ old ++ rows_text t u → TellsSides a b old new
    values : (t u : TypeTerm) → a ≡ Typ t → b ≡ Typ u → Differ a b → new ≡ old ++ values_text t u → TellsSides a b old new
    none : (Differ a b → ⊥) → new ≡ old → TellsSides a b old new

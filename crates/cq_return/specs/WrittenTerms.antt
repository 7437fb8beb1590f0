-- Terms and presentations as a literal writes them.
use Rattle.std.specs.Prelude.{ℕ, Bool, true, All, List, [], ◌∷◌, ◌≡◌, ◌<◌, ◌≤◌, fold, length, slice_get}
use Rattle.std.specs.List.{list_all}
use Rattle.cq_base.specs.declared.name.Name.{Name}
use Rattle.cq_base.specs.declared.raw.Raw.{Raw}
use Rattle.cq_base.specs.declared.raw.Raw.TheVariants.{Word, Text, App}
use Rattle.cq_lex.specs.Bytes.{is_word_byte}
use Rattle.cq_rules.specs.Class.{is_name, word_class}
use Rattle.cq_theory.specs.declared.presentation.Equation.{Equation}
use Rattle.cq_theory.specs.declared.presentation.Equation.TheVariants.{Ent, Typ}
use Rattle.cq_theory.specs.declared.presentation.Sort.{Sort}
use Rattle.cq_theory.specs.declared.term.EntTerm.{EntTerm}
use Rattle.cq_theory.specs.declared.term.TypeTerm.{TypeTerm}
use Rattle.cq_theory.specs.declared.term.TypeTerm.TheOpen.{TypeTerm-F, Gen, Const, Att, Fun}
use Rattle.cq_theory.specs.declared.term.TypeTerm.TheFolds.{fold-TypeTerm}
use Rattle.cq_theory.specs.SchemaData.{SchemaData as Schema}
use Rattle.cq_theory.specs.ValueText.{function_name}
use Rattle.cq_values.specs.Readable.{is_name as is_content}
use Rattle.cq_text.specs.Literal.{content_of, generator_text, sort_text}
use Rattle.cq_text.specs.Transcript.{edge_name}

-- a word of 1 to 255 bytes that isn't reserved
pub record IsPlainName (name : List ℕ) : Type 0 where
  pub word : list_all is_word_byte name ≡ true
  pub some : 0 < length name
  pub short : length name ≤ 255
  pub free : is_name (word_class name) ≡ true

-- The names of types, entities, functions, keys and attributes are plain, and each function has an argument.
pub record ArePlainNames (S : Schema) : Type 0 where
  pub types : All IsPlainName S.typeside.types
  pub entities : All IsPlainName S.entities
  pub functions : All (λ f. IsPlainName f.name × (0 < length f.args)) S.typeside.functions
  pub keys : All (λ edge. IsPlainName edge.name) S.keys
  pub attributes : All (λ edge. IsPlainName edge.name) S.attributes

module _ (S : Schema) where
  -- each constant in the term has a content of at most 255 bytes of UTF-8
  abbrev pub has_contents_step : TypeTerm-F Bool → Bool
  has_contents_step (Gen n) = true
  has_contents_step (Const c) = is_content (content_of S.typeside c)
  has_contents_step (Att a t) = true
  has_contents_step (Fun f named) = list_all (λ b. b) named

  abbrev pub has_contents : TypeTerm → Bool
  has_contents = fold-TypeTerm Bool has_contents_step

  -- a generator, and each key that is followed from it
  abbrev pub entity_raw : EntTerm → Raw
  entity_raw t = fold (λ raw k. App (edge_name (slice_get S.keys k)) (raw ∷ [])) (Word (generator_text t.generator)) t.path

  -- a constant is always a text
  abbrev pub raw_step : TypeTerm-F Raw → Raw
  raw_step (Gen n) = Word (generator_text n)
  raw_step (Const c) = Text (content_of S.typeside c)
  raw_step (Att a t) = App (edge_name (slice_get S.attributes a)) (entity_raw t ∷ [])
  raw_step (Fun f raws) = App (function_name (slice_get S.typeside.functions f)) raws

  abbrev pub type_raw : TypeTerm → Raw
  type_raw = fold-TypeTerm Raw raw_step

  abbrev pub equation_raws : Equation → Raw × Raw
  equation_raws (Ent t u) = (entity_raw t, entity_raw u)
  equation_raws (Typ t u) = (type_raw t, type_raw u)

  -- a generator with the name of its sort
  abbrev pub generator_part : Name × Sort → Name × Name
  generator_part g = (g.0, sort_text S g.1)

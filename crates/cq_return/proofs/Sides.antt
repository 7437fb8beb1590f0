-- The sides of canonical equations: their constants and their levels.
use Rattle.std.proofs.Common.{ℕ, suc, Bool, true, List, [], ◌∷◌, Option, Some, None, ◌≡◌, ◌<◌, ◌≤◌, ◌+◌, ◌&&◌, map, length, refl, sym, ap, ◌∙◌, arith}
use Rattle.std.specs.Prelude.{All, max, option_map, slice_get, slice_index_or}
use Rattle.std.specs.List.{list_all}
use Rattle.std.proofs.lemmas.Bool.{and_parts}
use Rattle.std.proofs.lemmas.List.Elements.{All-head, All-tail}
use Rattle.std.proofs.lemmas.Option.{slice_get_within}
use Rattle.cq_base.specs.declared.name.Name.{Name}
use Rattle.cq_base.specs.declared.raw.Raw.{Raw}
use Rattle.cq_base.specs.declared.raw.Raw.TheVariants as raw
use Rattle.cq_rules.specs.Tree.{Tree, deepest, levels, trees}
use Rattle.cq_syntax.specs.Terms.{tree_of, tree_step}
use Rattle.cq_theory.specs.declared.constant.Con.{Con}
use Rattle.cq_theory.specs.declared.constant.Con.TheVariants.{Named, Open}
use Rattle.cq_theory.specs.declared.presentation.Equation.{Equation}
use Rattle.cq_theory.specs.declared.schema.Edge.{Edge}
use Rattle.cq_theory.specs.declared.term.TypeTerm.{TypeTerm}
use Rattle.cq_theory.specs.declared.term.TypeTerm.TheVariants as term
use Rattle.cq_theory.specs.declared.value.Entry.{Entry}
use Rattle.cq_theory.specs.declared.value.Value.{Value}
use Rattle.cq_theory.specs.declared.value.Value.TheVariants.{Const, Null, Fun}
use Rattle.cq_theory.specs.Canonical.{canonical, cell_equation, entry_equation, key_equation, null_generator, row_term, value_term, value_term_step}
use Rattle.cq_theory.specs.SchemaData.{SchemaData as Schema}
use Rattle.cq_theory.specs.Sorts.{have_types, is_type}
use Rattle.cq_theory.specs.Tables.{IsPlain, IsSoundEntry, Tables, cell_at, count_of, key_at, value_type, value_type_step}
use Rattle.cq_theory.specs.Typeside.{constant_type}
use Rattle.cq_theory.specs.ValueText.{constant_name}
use Rattle.cq_theory.proofs.Every.{Every, Every-at}
use Rattle.cq_theory.proofs.OnValues.{All_at, Each, on_values}
use Rattle.cq_theory.proofs.Raws as raws
use Rattle.cq_theory.proofs.Sound.{applied_type_some, is_type_some}
use Rattle.cq_theory.proofs.TypeTerms as terms
use Rattle.cq_theory.proofs.Values as values
use Rattle.cq_values.specs.Readable.{is_name}
use Rattle.cq_instance.specs.InstanceData.{InstanceData, IsInstance}
use Rattle.cq_instance.proofs.CanonicalHolds.{every_equation}
use Rattle.cq_text.specs.Literal.{content_of, generator_text}
use Rattle.cq_return.specs.Return.{IsReturnableEntry, IsReturnableValue, has_name, has_names, has_names_step, levels_of, levels_step}
use Rattle.cq_theory.specs.Term.{greatest}
use Rattle.cq_return.specs.Literals.{HasContents, HasFewLevels}
use Rattle.cq_return.specs.Writable.{IsWritable}
use Rattle.cq_return.specs.WrittenTerms.{entity_raw, has_contents, has_contents_step, raw_step, type_raw}

-- Levels of terms as they are written.
word_levels : (n : Name) → levels (tree_of (raw.Word n)) ≡ 1
word_levels n = ap levels (raws.fold-Word Tree tree_step n)

text_levels : (n : Name) → levels (tree_of (raw.Text n)) ≡ 1
text_levels n = ap levels (raws.fold-Text Tree tree_step n)

app_levels : (n : Name) (args : List Raw) → levels (tree_of (raw.App n args)) ≡ suc (deepest (trees (map tree_of args)))
app_levels n args = ap levels (raws.fold-App Tree tree_step n args)

module _ (S : Schema) (M : Tables) where
  abbrev HasSameLevels : Value → Type 0
  HasSameLevels v = levels (tree_of (type_raw S (value_term S M v))) ≡ levels_of v

  deepest_is : (vs : List Value) → Each HasSameLevels vs → deepest (trees (map tree_of (map (type_raw S) (map (value_term S M) vs)))) ≡ greatest (map levels_of vs)
  deepest_is [] each = refl
  deepest_is (v ∷ vs) each = let one = each.0 in let others = deepest_is vs each.1 in λ j. max (one j) (others j)

  application_levels : (f : ℕ) (vs : List Value) → deepest (trees (map tree_of (map (type_raw S) (map (value_term S M) vs)))) ≡ greatest (map levels_of vs)
      → levels (tree_of (type_raw S (term.Fun f (map (value_term S M) vs)))) ≡ greatest (map levels_of vs) + 1
  application_levels f vs deep =
      let next : suc (greatest (map levels_of vs)) ≡ greatest (map levels_of vs) + 1 = omega arith in
      ap (λ r. levels (tree_of r)) (terms.fold-Fun Raw (raw_step S) f (map (value_term S M) vs)) ∙ app_levels _ (map (type_raw S) (map (value_term S M) vs)) ∙ ap suc deep ∙ next

  pub value_levels : (v : Value) → HasSameLevels v
  value_levels = on_values HasSameLevels
      (λ c.
      ap (λ t. levels (tree_of (type_raw S t))) (values.fold-Const TypeTerm (value_term_step S M) c) ∙ ap (λ r. levels (tree_of r)) (terms.fold-Const Raw (raw_step S) c)
      ∙ text_levels (content_of S.typeside c) ∙ sym (values.fold-Const ℕ levels_step c))
      (λ n.
      ap (λ t. levels (tree_of (type_raw S t))) (values.fold-Null TypeTerm (value_term_step S M) n) ∙ ap (λ r. levels (tree_of r)) (terms.fold-Gen Raw (raw_step S) (null_generator S M n))
      ∙ word_levels (generator_text (null_generator S M n)) ∙ sym (values.fold-Null ℕ levels_step n))
      (λ f vs each.
      ap (λ t. levels (tree_of (type_raw S t))) (values.fold-Fun TypeTerm (value_term_step S M) f vs)
      ∙ application_levels f vs (deepest_is vs each) ∙ sym (values.fold-Fun ℕ levels_step f vs))

  -- Constants.
  module _ (constants : All (λ constant. is_name constant.0 ≡ true) S.typeside.constants) where
    constant_fits : (c : Con) (type : ℕ) → constant_type S.typeside c ≡ Some type → has_name c ≡ true → is_name (content_of S.typeside c) ≡ true
    constant_fits (Named c) type typing has = at_constant (slice_get S.typeside.constants c) refl typing
      where
        at_constant : (o : Option _) → slice_get S.typeside.constants c ≡ o → option_map (λ x. x.1) o ≡ Some type → is_name (constant_name (slice_get S.typeside.constants c)) ≡ true
        at_constant None e h = cc
        at_constant (Some x) e h = ap (λ o. is_name (constant_name o)) e ∙ All_at (λ x. is_name x.0 ≡ true) S.typeside.constants c x constants e
    constant_fits (Open text) type typing has = has

    abbrev type_in : Value → Option ℕ
    type_in = value_type S M.algebra.nulls

    abbrev HasFit : Value → Type 0
    HasFit v = (type : ℕ) → type_in v ≡ Some type → has_names v ≡ true → has_contents S (value_term S M v) ≡ true

    all_fit : (vs : List Value) (types : List ℕ) → Each HasFit vs → have_types (map type_in vs) types ≡ true → list_all (λ b. b) (map has_names vs) ≡ true
        → list_all (λ b. b) (map (has_contents S) (map (value_term S M) vs)) ≡ true
    all_fit [] types each typed named = refl
    all_fit (v ∷ vs) [] each typed named = cc
    all_fit (v ∷ vs) (type ∷ types) each typed named =
        let parts = and_parts (is_type (type_in v) type) (have_types (map type_in vs) types) typed in
        let names = and_parts (has_names v) (list_all (λ b. b) (map has_names vs)) named in
        let one = each.0 type (is_type_some _ _ parts.0) names.0 in
        let others = all_fit vs types each.1 parts.1 names.1 in
        λ j. one j && others j

    pub value_fits : (v : Value) → HasFit v
    value_fits = on_values HasFit
        (λ c type typed named.
        ap (has_contents S) (values.fold-Const TypeTerm (value_term_step S M) c) ∙ terms.fold-Const Bool (has_contents_step S) c
        ∙ constant_fits c type (sym (values.fold-Const (Option ℕ) (value_type_step S M.algebra.nulls) c) ∙ typed) (sym (values.fold-Const Bool has_names_step c) ∙ named))
        (λ n type typed named.
        ap (has_contents S) (values.fold-Null TypeTerm (value_term_step S M) n) ∙ terms.fold-Gen Bool (has_contents_step S) (null_generator S M n))
        (λ f vs each type typed named.
        let parts = applied_type_some (slice_get S.typeside.functions f) (map type_in vs) type (sym (values.fold-Fun (Option ℕ) (value_type_step S M.algebra.nulls) f vs) ∙ typed) in
        ap (has_contents S) (values.fold-Fun TypeTerm (value_term_step S M) f vs) ∙ terms.fold-Fun Bool (has_contents_step S) f (map (value_term S M) vs)
        ∙ all_fit vs parts.0.args each parts.2 (sym (values.fold-Fun Bool has_names_step f vs) ∙ named))

-- Plain values have one level.
plain_levels : (v : Value) → IsPlain v → levels_of v ≡ 1
plain_levels (Const c) h = values.fold-Const ℕ levels_step c
plain_levels (Null n) h = values.fold-Null ℕ levels_step n
plain_levels _ h = absurd h

all_levels : (vs : List Value) → All IsPlain vs → greatest (map levels_of vs) ≤ 1
all_levels [] h = omega arith
all_levels (v ∷ vs) h = omega (arith, plain_levels v (All-head IsPlain v vs h), all_levels vs (All-tail IsPlain v vs h))

all_named : (vs : List Value) → All (λ v. has_names v ≡ true) vs → list_all (λ b. b) (map has_names vs) ≡ true
all_named [] h = refl
all_named (v ∷ vs) h =
    let one = All-head (λ w. has_names w ≡ true) v vs h in
    let others = all_named vs (All-tail (λ w. has_names w ≡ true) v vs h) in
    λ j. one j && others j

module _ (i : InstanceData) (is : IsInstance i) (writable : IsWritable i) where
  -- a cell's value
  record IsCellValue (a row : ℕ) (edge : Edge) : Type 0 where
    typed : value_type i.schema i.tables.algebra.nulls (cell_at i.tables a row) ≡ Some edge.to
    value : IsReturnableValue (cell_at i.tables a row)

  cell_value : (e row a : ℕ) (edge : Edge) → row < count_of i.tables e → slice_get i.schema.attributes a ≡ Some edge → edge.from ≡ e → IsCellValue a row edge
  cell_value e row a edge inside at from =
      let column = is.well_formed.cell_columns a edge at in
      let there : a < length i.tables.sheet.cells = omega (arith, slice_get_within i.schema.attributes a edge at, is.well_formed.attributes) in
      let here : row < length (slice_index_or i.tables.sheet.cells a []) = omega (arith, column.0, ap (count_of i.tables) from) in
      record { typed = (column.1 row (Const (Named 0)) here).0; value = writable.cells a [] there row (Const (Named 0)) here }

  entity_levels : (generator : ℕ) → levels (tree_of (entity_raw i.schema (record { generator = generator; path = [] }))) ≡ 1
  entity_levels generator = word_levels (generator_text generator)

  key_levels : (generator k : ℕ) → levels (tree_of (entity_raw i.schema (record { generator = generator; path = k ∷ [] }))) ≡ 2
  key_levels generator k =
      app_levels _ (raw.Word (generator_text generator) ∷ []) ∙ ap (λ n. suc (max n 0)) (word_levels (generator_text generator))

  attribute_levels : (generator a : ℕ) → levels (tree_of (type_raw i.schema (term.Att a (record { generator = generator; path = [] })))) ≡ 2
  attribute_levels generator a =
      ap (λ r. levels (tree_of r)) (terms.fold-Att Raw (raw_step i.schema) a (record { generator = generator; path = [] }))
      ∙ app_levels _ (raw.Word (generator_text generator) ∷ []) ∙ ap (λ n. suc (max n 0)) (word_levels (generator_text generator))

  abbrev Fine : Equation → Type 0
  Fine e = HasContents i.schema e × HasFewLevels i.schema e

  cell_fine : (e row a : ℕ) (edge : Edge) → e < length i.schema.entities → row < count_of i.tables e → slice_get i.schema.attributes a ≡ Some edge → edge.from ≡ e
      → Fine (cell_equation i.schema i.tables e row (a, edge))
  cell_fine e row a edge within inside at from =
      let cell = cell_value e row a edge inside at from in
      let left = attribute_levels (row_term i.schema i.tables e row).generator a in
      let right = value_levels i.schema i.tables (cell_at i.tables a row) in
      let levels_fit = cell.value.levels in (
        (
          terms.fold-Att Bool (has_contents_step i.schema) a (row_term i.schema i.tables e row),
          value_fits i.schema i.tables writable.constants (cell_at i.tables a row) edge.to cell.typed cell.value.names,
        ),
        (omega (arith, left), omega (arith, right, levels_fit)),
      )

  key_fine : (e row k : ℕ) (edge : Edge) → e < length i.schema.entities → row < count_of i.tables e → slice_get i.schema.keys k ≡ Some edge → edge.from ≡ e
      → Fine (key_equation i.schema i.tables e row (k, edge))
  key_fine e row k edge within inside at from =
      let left = key_levels (row_term i.schema i.tables e row).generator k in
      let right = entity_levels (row_term i.schema i.tables edge.to (key_at i.tables k row)).generator in
      (tt, (omega (arith, left), omega (arith, right)))

  entry_fine : (n : ℕ) (entry : Entry) → slice_get i.tables.algebra.entries n ≡ Some entry → Fine (entry_equation i.schema i.tables entry)
  entry_fine n entry at =
      let sound = All_at (IsSoundEntry i.schema i.tables) i.tables.algebra.entries n entry is.well_formed.entries at in
      let known = All_at IsReturnableEntry i.tables.algebra.entries n entry writable.entries at in
      let named = values.fold-Fun Bool has_names_step entry.function entry.args ∙ all_named entry.args known.0 in
      let whole = values.fold-Fun TypeTerm (value_term_step i.schema i.tables) entry.function entry.args in
      let left_fits = ap (has_contents i.schema) (sym whole) ∙ value_fits i.schema i.tables writable.constants (Fun entry.function entry.args) sound.function.result sound.typed named in
      let right_fits = value_fits i.schema i.tables writable.constants entry.value sound.function.result sound.same_type known.1 in
      let left = ap (λ t. levels (tree_of (type_raw i.schema t))) (sym whole) ∙ value_levels i.schema i.tables (Fun entry.function entry.args) ∙ values.fold-Fun ℕ levels_step entry.function entry.args in
      let right = value_levels i.schema i.tables entry.value ∙ plain_levels entry.value sound.plain.1 in
      let args_fit = all_levels entry.args sound.plain.0 in
      ((left_fits, right_fits), (omega (arith, left, args_fit), omega (arith, right)))

  every_fine : Every Fine (canonical i.schema i.tables).equations
  every_fine = every_equation i.schema i.tables Fine cell_fine key_fine entry_fine

  pub equation_fine : (n : ℕ) (e : Equation) → slice_get (canonical i.schema i.tables).equations n ≡ Some e → HasContents i.schema e × HasFewLevels i.schema e
  equation_fine n e at = Every-at Fine (canonical i.schema i.tables).equations n e every_fine at

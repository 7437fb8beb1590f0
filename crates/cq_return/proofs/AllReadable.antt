-- All values of an instance are readable at their places.
use Rattle.std.proofs.Common.{ℕ, zero, suc, Bool, true, List, [], ◌∷◌, Option, Some, None, ◌≡◌, ◌<◌, ◌≤◌, ◌&&◌, map, sum, length, refl, sym, ap, ◌∙◌, arith}
use Rattle.std.specs.Prelude.{All, max, slice_get, slice_index_or, option_map}
use Rattle.std.specs.List.{list_all}
use Rattle.std.proofs.lemmas.Bool.{and_parts}
use Rattle.std.proofs.lemmas.List.Elements.{All-head, All-tail}
use Rattle.std.proofs.lemmas.List.Sums.{sum_by-cons}
use Rattle.std.proofs.lemmas.Option.{slice_get_within}
use Rattle.cq_theory.specs.declared.constant.Con.{Con}
use Rattle.cq_theory.specs.declared.constant.Con.TheVariants.{Named, Open}
use Rattle.cq_theory.specs.declared.schema.Edge.{Edge}
use Rattle.cq_theory.specs.declared.typeside.Fun.{Fun as Function}
use Rattle.cq_theory.specs.declared.value.Entry.{Entry}
use Rattle.cq_theory.specs.declared.value.Value.{Value}
use Rattle.cq_theory.specs.declared.value.Value.TheVariants.{Const, Null, Fun}
use Rattle.cq_theory.specs.SchemaData.{SchemaData as Schema}
use Rattle.cq_theory.specs.Schema.{IsSchema}
use Rattle.cq_theory.specs.TypesideData.{TypesideData as Typeside}
use Rattle.cq_theory.specs.Typeside.{constant_type}
use Rattle.cq_theory.specs.Sorts.{have_types, is_type}
use Rattle.cq_theory.specs.Tables.{IsPlain, IsSoundEntry, value_type, value_type_step}
use Rattle.cq_theory.specs.Value.{symbols_of, symbols_step}
use Rattle.cq_theory.specs.ValueText.{constant_name, is_word}
use Rattle.cq_theory.proofs.OnValues.{All_at, Each, on_values}
use Rattle.cq_theory.proofs.Sound.{applied_type_some, is_type_some}
use Rattle.cq_theory.proofs.Values.{fold-Const, fold-Null, fold-Fun}
use Rattle.cq_values.specs.Readable.{AreWithin, IsReadable, IsWithin, application, constant, content_of, is_name, more, none, null}
use Rattle.cq_instance.specs.InstanceData.{InstanceData, IsInstance}
use Rattle.cq_instance.specs.Given.{size_of}
use Rattle.cq_import.specs.Imports.{most_bytes, most_generators}
use Rattle.cq_csv.specs.Files.{algebra_records, entity_records}
use Rattle.cq_csv.specs.Records.{file_text}
use Rattle.cq_theory.specs.Term.{greatest}
use Rattle.cq_return.specs.Return.{HasNames, IsReturnable, IsReturnableEntry, has_name, has_names, has_names_step, levels_of, levels_step}

-- both sides of the entry are readable at the type of its function
abbrev pub IsReadableEntry : Typeside → Entry → Type 0
IsReadableEntry T entry = (f : Function) → slice_get T.functions entry.function ≡ Some f
    → IsReadable T f.result (Fun entry.function entry.args) × IsReadable T f.result entry.value

-- what is read back
pub record AreReadable (i : InstanceData) : Type 0 where
  pub schema : IsSchema i.schema
  pub few : size_of i.tables ≤ most_generators
  pub types : All (λ name. is_name name ≡ true) i.schema.typeside.types
  pub cells : (a : ℕ) (edge : Edge) → slice_get i.schema.attributes a ≡ Some edge → All (IsReadable i.schema.typeside edge.to) (slice_index_or i.tables.sheet.cells a [])
  pub entries : All (IsReadableEntry i.schema.typeside) i.tables.algebra.entries
  pub short_entities : (entity : ℕ) → entity < length i.schema.entities → length (file_text (entity_records i entity)) ≤ most_bytes
  pub short_algebra : length (file_text (algebra_records i)) ≤ most_bytes

list_all-map : {X : Type 0} (p : X → Bool) (xs : List X) → list_all (λ b. b) (map p xs) ≡ list_all p xs
list_all-map p [] = refl
list_all-map p (x ∷ xs) = ap (λ b. p x && b) (list_all-map p xs)

first_fits : (a b n : ℕ) → max a b ≤ n → a ≤ n
first_fits a b n h = omega (arith, h)

rest_fits : (a b n : ℕ) → max a b ≤ n → b ≤ n
rest_fits a b n h = omega (arith, h)

module _ (S : Schema) (names : HasNames S.typeside) (nulls : List ℕ) (few : length nulls ≤ 16000000) where
  constant_name_is : (c : Con) (type : ℕ) → constant_type S.typeside c ≡ Some type → has_name c ≡ true → is_name (content_of S.typeside c) ≡ true
  constant_name_is (Named c) type typing has = at_constant (slice_get S.typeside.constants c) refl typing
    where
      at_constant : (o : Option _) → slice_get S.typeside.constants c ≡ o → option_map (λ x. x.1) o ≡ Some type → is_name (constant_name (slice_get S.typeside.constants c)) ≡ true
      at_constant None e h = cc
      at_constant (Some x) e h = ap (λ o. is_name (constant_name o)) e ∙ All_at (λ x. is_name x.0 ≡ true) S.typeside.constants c x names.constants e
  constant_name_is (Open text) type typing has = has

  abbrev Fits : Value → Type 0
  Fits v = (n type : ℕ) → value_type S nulls v ≡ Some type → has_names v ≡ true → levels_of v ≤ n → IsWithin S.typeside n type v

  fits_constant : (c : Con) → Fits (Const c)
  fits_constant c zero type typed has levels = let one = fold-Const ℕ levels_step c in absurd (omega (arith, one, levels))
  fits_constant c (suc n) type typed has levels =
      let typing = sym (fold-Const (Option ℕ) (value_type_step S nulls) c) ∙ typed in
      constant c refl typing (constant_name_is c type typing (sym (fold-Const Bool has_names_step c) ∙ has))

  fits_null : (label : ℕ) → Fits (Null label)
  fits_null label zero type typed has levels = let one = fold-Null ℕ levels_step label in absurd (omega (arith, one, levels))
  fits_null label (suc n) type typed has levels =
      let inside = slice_get_within nulls label type (sym (fold-Null (Option ℕ) (value_type_step S nulls) label) ∙ typed) in
      null label refl (omega arith)

  fit_all : (vs : List Value) (types : List ℕ) (n : ℕ) → Each Fits vs → have_types (map (value_type S nulls) vs) types ≡ true → list_all has_names vs ≡ true → greatest (map levels_of vs) ≤ n
      → AreWithin S.typeside n types vs
  fit_all [] [] n each typed has levels = none
  fit_all [] (type ∷ types) n each typed has levels = cc
  fit_all (v ∷ vs) [] n each typed has levels = cc
  fit_all (v ∷ vs) (type ∷ types) n each typed has levels =
      let parts = and_parts (is_type (value_type S nulls v) type) (have_types (map (value_type S nulls) vs) types) typed in
      let named = and_parts (has_names v) (list_all has_names vs) has in
      let first = first_fits (levels_of v) (greatest (map levels_of vs)) n levels in
      let rest = rest_fits (levels_of v) (greatest (map levels_of vs)) n levels in
      more (each.0 n type (is_type_some _ _ parts.0) named.0 first) (fit_all vs types n each.1 parts.1 named.1 rest)

  fits_application : (f : ℕ) (vs : List Value) → Each Fits vs → Fits (Fun f vs)
  fits_application f vs each zero type typed has levels = let deep = fold-Fun ℕ levels_step f vs in absurd (omega (arith, deep, levels))
  fits_application f vs each (suc n) type typed has levels =
      let parts = applied_type_some (slice_get S.typeside.functions f) (map (value_type S nulls) vs) type (sym (fold-Fun (Option ℕ) (value_type_step S nulls) f vs) ∙ typed) in
      let word = All_at (λ (g : Function). (is_word g.name ≡ true) × (is_name g.name ≡ true)) S.typeside.functions f parts.0 names.functions parts.1 in
      let named = sym (list_all-map has_names vs) ∙ sym (fold-Fun Bool has_names_step f vs) ∙ has in
      let deep = fold-Fun ℕ levels_step f vs in
      let inner : greatest (map levels_of vs) ≤ n = omega (arith, deep, levels) in
      application f parts.0 vs refl parts.1 parts.3 word.0 word.1 (fit_all vs parts.0.args n each parts.2 named inner)

  pub fits : (v : Value) → Fits v
  fits = on_values Fits fits_constant fits_null fits_application

-- Values without arguments.
plain_symbols : (v : Value) → IsPlain v → symbols_of v ≡ 1
plain_symbols (Const c) h = fold-Const ℕ symbols_step c
plain_symbols (Null n) h = fold-Null ℕ symbols_step n
plain_symbols _ h = absurd h

plain_levels : (v : Value) → IsPlain v → levels_of v ≡ 1
plain_levels (Const c) h = fold-Const ℕ levels_step c
plain_levels (Null n) h = fold-Null ℕ levels_step n
plain_levels _ h = absurd h

all_symbols : (vs : List Value) → All IsPlain vs → sum (map symbols_of vs) ≡ length vs
all_symbols [] h = refl
all_symbols (v ∷ vs) h =
    omega (arith, sum_by-cons (λ (m : ℕ). m) (symbols_of v) (map symbols_of vs), plain_symbols v (All-head IsPlain v vs h), all_symbols vs (All-tail IsPlain v vs h))

all_levels : (vs : List Value) → All IsPlain vs → greatest (map levels_of vs) ≤ 1
all_levels [] h = omega arith
all_levels (v ∷ vs) h = omega (arith, plain_levels v (All-head IsPlain v vs h), all_levels vs (All-tail IsPlain v vs h))

all_named : (vs : List Value) → All (λ v. has_names v ≡ true) vs → list_all has_names vs ≡ true
all_named [] h = refl
all_named (v ∷ vs) h =
    ap (λ b. b && list_all has_names vs) (All-head (λ w. has_names w ≡ true) v vs h) ∙ all_named vs (All-tail (λ w. has_names w ≡ true) v vs h)

module _ (i : InstanceData) (is : IsInstance i) (returnable : IsReturnable i) where
  few_nulls : length i.tables.algebra.nulls ≤ 16000000
  few_nulls = let few = returnable.few in omega arith

  cells_readable : (a : ℕ) (edge : Edge) → slice_get i.schema.attributes a ≡ Some edge → All (IsReadable i.schema.typeside edge.to) (slice_index_or i.tables.sheet.cells a [])
  cells_readable a edge at k d within =
      let column = is.well_formed.cell_columns a edge at in
      let there : a < length i.tables.sheet.cells = omega (arith, slice_get_within i.schema.attributes a edge at, is.well_formed.attributes) in
      let value = returnable.cells a [] there k d within in
      record {
        within = fits i.schema returnable.names i.tables.algebra.nulls few_nulls _ 64 edge.to (column.1 k d within).0 value.names value.levels;
        symbols = value.symbols;
      }

  entry_readable : (e : Entry) → IsSoundEntry i.schema i.tables e → length e.args ≤ 1023 → IsReturnableEntry e → IsReadableEntry i.schema.typeside e
  entry_readable e sound short entry f at =
      let same : sound.function ≡ f = let both = sym sound.known ∙ at in cc in
      let named : has_names (Fun e.function e.args) ≡ true = fold-Fun Bool has_names_step e.function e.args ∙ list_all-map has_names e.args ∙ all_named e.args entry.0 in
      let left_levels : levels_of (Fun e.function e.args) ≤ 64 = omega (arith, fold-Fun ℕ levels_step e.function e.args, all_levels e.args sound.plain.0) in
      let left_symbols : symbols_of (Fun e.function e.args) ≤ 1024 = omega (arith, fold-Fun ℕ symbols_step e.function e.args, all_symbols e.args sound.plain.0) in
      let right_levels : levels_of e.value ≤ 64 = omega (arith, plain_levels e.value sound.plain.1) in
      let right_symbols : symbols_of e.value ≤ 1024 = omega (arith, plain_symbols e.value sound.plain.1) in
      let all_fit = fits i.schema returnable.names i.tables.algebra.nulls few_nulls in (
        record { within = all_fit (Fun e.function e.args) 64 f.result (sound.typed ∙ ap (λ (g : Function). Some g.result) same) named left_levels; symbols = left_symbols },
        record { within = all_fit e.value 64 f.result (sound.same_type ∙ ap (λ (g : Function). Some g.result) same) entry.1 right_levels; symbols = right_symbols },
      )

  pub are_readable : AreReadable i
  are_readable = record {
    schema = returnable.schema;
    few = returnable.few;
    types = returnable.names.types;
    cells = cells_readable;
    entries = λ k d within. entry_readable _ (is.well_formed.entries k d within) (is.entries_fit k d within) (returnable.entries k d within);
    short_entities = returnable.short_entities;
    short_algebra = returnable.short_algebra;
  }

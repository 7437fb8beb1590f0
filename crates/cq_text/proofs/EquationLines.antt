-- The lines of a literal, written by rows, are those of the canonical presentation.
use Rattle.std.proofs.Common.{ℕ, zero, suc, List, [], ◌∷◌, ◌++◌, ◌+◌, ◌≡◌, ◌<◌, ◌≤◌, map, take, length, refl, sym, ap, ◌∙◌, append_assoc, arith}
use Rattle.std.specs.Prelude.{All, Some, slice_get, slice_index, replicate, sum, codes, decimal}
use Rattle.std.specs.List.{flat_map, enumerate_from, range_with_len}
use Rattle.std.proofs.lemmas.Grind.{flat_map-append}
use Rattle.std.proofs.lemmas.List.{append-nil, length-append}
use Rattle.std.proofs.lemmas.List.Folds.{flat_map-map}
use Rattle.cq_base.specs.declared.name.Name.{Name}
use Rattle.cq_theory.specs.declared.constant.Con.{Con}
use Rattle.cq_theory.specs.declared.presentation.Sort.{Sort}
use Rattle.cq_theory.specs.declared.presentation.Sort.TheVariants.{Plain, Entity}
use Rattle.cq_theory.specs.declared.schema.Edge.{Edge}
use Rattle.cq_theory.specs.SchemaData.{SchemaData as Schema}
use Rattle.cq_theory.specs.declared.term.TypeTerm.{TypeTerm}
use Rattle.cq_theory.specs.declared.term.TypeTerm.TheVariants as term
use Rattle.cq_theory.specs.declared.value.Value.{Value}
use Rattle.cq_theory.specs.declared.value.Value.TheVariants.{Const, Null, Fun}
use Rattle.cq_theory.specs.declared.value.Entry.{Entry}
use Rattle.cq_theory.specs.Tables.{Tables, count_of, key_at, cell_at}
use Rattle.cq_theory.specs.ValueText.{function_name, application_text}
use Rattle.cq_theory.specs.Canonical.{below, canonical, edges_from, named, row_generator, null_generator, row_term, row_sorts, value_term, value_term_step, cell_equation, key_equation, row_equations, entity_equations, entry_equation}
use Rattle.cq_theory.proofs.OnValues.{on_values, Each}
use Rattle.cq_theory.proofs.Values as values
use Rattle.cq_theory.proofs.TypeTerms as terms
use Rattle.cq_instance.proofs.Lists.{map_same, flat_map_same, map-map, map-append, map-range_shift, All_at}
use Rattle.cq_text.specs.Grouped.{numbers_from}
use Rattle.cq_text.specs.Transcript.{edge_name}
use Rattle.cq_text.specs.Literal.{applied_text, ent_text, equals_line, equation_line, generator_line, generator_text, term_text, term_text_step}
use Rattle.cq_text.specs.Spelling.{cell_equation_line, entry_equation_line, key_equation_line, null_generator_line, row_generator_line, spelled, spelled_step, target_of}
use Rattle.cq_text.proofs.Numbers.{IsNumbered, edges_are_numbered}

pub flat_map-flat_map : {X Y Z : Type 0} (f : Y → List Z) (g : X → List Y) (xs : List X) → flat_map f (flat_map g xs) ≡ flat_map (λ x. flat_map f (g x)) xs
flat_map-flat_map f g [] = refl
flat_map-flat_map f g (x ∷ xs) = flat_map-append f (g x) (flat_map g xs) ∙ ap (λ l. flat_map f (g x) ++ l) (flat_map-flat_map f g xs)

flat_map_all : {X Z : Type 0} (P : X → Type 0) (f g : X → List Z) (xs : List X) → All P xs → ((x : X) → P x → f x ≡ g x) → flat_map f xs ≡ flat_map g xs
flat_map_all P f g xs all same = flat_map_same f g xs (λ x i. same x (All_at P xs i.place x all i.is))

module _ (S : Schema) (M : Tables) where
  abbrev IsSpelled : Value → Type 0
  IsSpelled v = term_text S (value_term S M v) ≡ spelled S.typeside (sum M.sheet.counts) v

  spelled_const : (n : Con) → IsSpelled (Const n)
  spelled_const n =
      ap (term_text S) (values.fold-Const TypeTerm (value_term_step S M) n) ∙ terms.fold-Const (List ℕ) (term_text_step S) n
      ∙ sym (values.fold-Const (List ℕ) (spelled_step S.typeside (sum M.sheet.counts)) n)

  spelled_null : (n : ℕ) → IsSpelled (Null n)
  spelled_null n =
      ap (term_text S) (values.fold-Null TypeTerm (value_term_step S M) n) ∙ terms.fold-Gen (List ℕ) (term_text_step S) (null_generator S M n)
      ∙ sym (values.fold-Null (List ℕ) (spelled_step S.typeside (sum M.sheet.counts)) n)

  all_spelled : (vs : List Value) → Each IsSpelled vs → map (term_text S) (map (value_term S M) vs) ≡ map (spelled S.typeside (sum M.sheet.counts)) vs
  all_spelled [] each = refl
  all_spelled (v ∷ vs) each = λ i. each.0 i ∷ all_spelled vs each.1 i

  spelled_fun : (f : ℕ) (vs : List Value) → Each IsSpelled vs → IsSpelled (Fun f vs)
  spelled_fun f vs each =
      ap (term_text S) (values.fold-Fun TypeTerm (value_term_step S M) f vs) ∙ terms.fold-Fun (List ℕ) (term_text_step S) f (map (value_term S M) vs)
      ∙ ap (application_text (function_name (slice_get S.typeside.functions f))) (all_spelled vs each)
      ∙ sym (values.fold-Fun (List ℕ) (spelled_step S.typeside (sum M.sheet.counts)) f vs)

  -- a value as a term has the value's text
  spelled_is : (v : Value) → IsSpelled v
  spelled_is = on_values IsSpelled spelled_const spelled_null spelled_fun

  each_spelled : (vs : List Value) → Each IsSpelled vs
  each_spelled [] = tt
  each_spelled (v ∷ vs) = (spelled_is v, each_spelled vs)

  cell_lines : (entity row : ℕ) → flat_map (equation_line S) (map (cell_equation S M entity row) (edges_from entity S.attributes))
      ≡ flat_map (cell_equation_line S M (row_generator S M entity row) row) (numbers_from entity S.attributes)
  cell_lines entity row =
      let xs = edges_from entity S.attributes in
      flat_map-map (equation_line S) (cell_equation S M entity row) xs
      ∙ flat_map_all (IsNumbered S.attributes) _ _ xs (edges_are_numbered entity S.attributes)
      (λ a numbered. λ i. equals_line (terms.fold-Att (List ℕ) (term_text_step S) a.0 (row_term S M entity row) i) (spelled_is (cell_at M a.0 row) i))
      ∙ sym (flat_map-map (cell_equation_line S M (row_generator S M entity row) row) (λ p. p.0) xs)

  key_lines : (entity row : ℕ) → flat_map (equation_line S) (map (key_equation S M entity row) (edges_from entity S.keys))
      ≡ flat_map (key_equation_line S M (row_generator S M entity row) row) (numbers_from entity S.keys)
  key_lines entity row =
      let xs = edges_from entity S.keys in
      flat_map-map (equation_line S) (key_equation S M entity row) xs
      ∙ flat_map_all (IsNumbered S.keys) _ _ xs (edges_are_numbered entity S.keys)
      (λ k numbered. λ i.
      equals_line (applied_text (edge_name (slice_get S.keys k.0)) (generator_text (row_generator S M entity row)))
      (generator_text (row_generator S M (sym (ap target_of numbered.1) i) (key_at M k.0 row))))
      ∙ sym (flat_map-map (key_equation_line S M (row_generator S M entity row) row) (λ p. p.0) xs)

  -- the equations at a row
  pub row_lines : (entity row : ℕ) → flat_map (equation_line S) (row_equations S M entity row)
      ≡ flat_map (cell_equation_line S M (row_generator S M entity row) row) (numbers_from entity S.attributes)
      ++ flat_map (key_equation_line S M (row_generator S M entity row) row) (numbers_from entity S.keys)
  row_lines entity row =
      flat_map-append (equation_line S) (map (cell_equation S M entity row) (edges_from entity S.attributes)) (map (key_equation S M entity row) (edges_from entity S.keys))
      ∙ (λ i. cell_lines entity row i ++ key_lines entity row i)

  entry_line : (entry : Entry) → equation_line S (entry_equation S M entry) ≡ entry_equation_line S.typeside (sum M.sheet.counts) entry
  entry_line entry = λ i.
      equals_line
      ((terms.fold-Fun (List ℕ) (term_text_step S) entry.function (map (value_term S M) entry.args)
      ∙ ap (application_text (function_name (slice_get S.typeside.functions entry.function))) (all_spelled entry.args (each_spelled entry.args))) i)
      (spelled_is entry.value i)

  entry_lines : (entries : List Entry) → flat_map (equation_line S) (map (entry_equation S M) entries) ≡ flat_map (entry_equation_line S.typeside (sum M.sheet.counts)) entries
  entry_lines [] = refl
  entry_lines (entry ∷ entries) = λ i. entry_line entry i ++ entry_lines entries i

  -- all equations
  pub equations_lines : flat_map (equation_line S) (canonical S M).equations
      ≡ flat_map (λ entity. flat_map (λ row. flat_map (equation_line S) (row_equations S M entity row)) (below (count_of M entity))) (below (length S.entities))
      ++ flat_map (entry_equation_line S.typeside (sum M.sheet.counts)) M.algebra.entries
  equations_lines =
      let rows = below (length S.entities) in
      flat_map-append (equation_line S) (flat_map (entity_equations S M) rows) (map (entry_equation S M) M.algebra.entries)
      ∙ (λ i.
      (flat_map-flat_map (equation_line S) (entity_equations S M) rows
      ∙ flat_map_same _ _ rows (λ entity _. flat_map-flat_map (equation_line S) (row_equations S M entity) (below (count_of M entity)))) i
      ++ entry_lines M.algebra.entries i)

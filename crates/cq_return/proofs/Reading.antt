-- What stands in an attribute's column is read back.
use Rattle.std.proofs.Common.{ℕ, Bool, true, false, List, [], ◌∷◌, Option, Some, None, ◌≡◌, ◌||◌, cond, refl, sym, ap, ◌∙◌}
use Rattle.std.specs.Prelude.{slice_get, ◌==◌, is_some, option_map}
use Rattle.std.proofs.lemmas.Bool.{eq-eqb}
use Rattle.cq_base.specs.Names.{number_of}
use Rattle.cq_theory.specs.declared.constant.Con.{Con}
use Rattle.cq_theory.specs.declared.constant.Con.TheVariants.{Named, Open}
use Rattle.cq_theory.specs.declared.value.Value.{Value}
use Rattle.cq_theory.specs.declared.value.Value.TheVariants as value
use Rattle.cq_theory.specs.TypesideData.{TypesideData as Typeside}
use Rattle.cq_theory.specs.Sorts.{is_type}
use Rattle.cq_theory.specs.Typeside.{IsTypeside, constant_names, constant_type, is_reserved}
use Rattle.cq_theory.specs.ValueText.{constant_name, value_text}
use Rattle.cq_theory.proofs.OnValues.{All_at}
use Rattle.cq_theory.proofs.Values.{value_text-at_Null}
use Rattle.cq_values.specs.Readable.{IsRead, IsReadable, IsWithin, constant, null, application, is_name}
use Rattle.cq_values.specs.Readable as readable
use Rattle.cq_values.specs.Reading.{value_in}
use Rattle.cq_values.proofs.Exactness.{exact, one_value}
use Rattle.cq_values.proofs.Tabled.{number_of-part}
use Rattle.cq_import.specs.declared.content.Content.TheVariants.{Wrong, Means}
use Rattle.cq_import.specs.Cells.{constant_content, constant_of_name, content_of, found, named_constant, typed_constant}
use Rattle.cq_text.specs.Literal as literal
use Rattle.cq_csv.specs.Files.{cell_field}

module _ (T : Typeside) (made : IsTypeside T) where
  -- the text of a readable value is read as this value
  pub text_read : (sort : ℕ) (v : Value) → IsReadable T sort v → value_in T sort (value_text T v) ≡ Some v
  text_read sort v h = at_found (value_in T sort (value_text T v)) (exact T sort (value_text T v) made)
    where
      at_found : (o : Option Value) → IsRead T sort (value_text T v) o → o ≡ Some v
      at_found None none = absurd (none v h refl)
      at_found (Some w) read = ap (λ x. Some x) (one_value T sort w v made read.0 h read.1)

  -- the text of a constant is no reserved one
  abbrev IsFree : List ℕ → Type 0
  IsFree name = is_reserved name ≡ false

  declared : (c sort : ℕ) → constant_type T (Named c) ≡ Some sort → (x : _) × (slice_get T.constants c ≡ Some x)
  declared c sort h = at_constant (slice_get T.constants c) refl h
    where
      at_constant : (o : Option _) → slice_get T.constants c ≡ o → option_map (λ x. x.1) o ≡ Some sort → (x : _) × (slice_get T.constants c ≡ Some x)
      at_constant None e h' = cc
      at_constant (Some x) e h' = (x, e)

  undeclared : (text : List ℕ) (sort : ℕ) → constant_type T (Open text) ≡ Some sort → IsFree text × (number_of (constant_names T) text ≡ None)
  undeclared text sort h = at_tests (is_reserved text) (number_of (constant_names T) text) refl refl h
    where
      at_tests : (r : Bool) (o : Option ℕ) → is_reserved text ≡ r → number_of (constant_names T) text ≡ o → cond (r || is_some o) None T.open_type ≡ Some sort
          → IsFree text × (number_of (constant_names T) text ≡ None)
      at_tests false None e f h' = (e, f)
      at_tests true o e f h' = cc
      at_tests false (Some n) e f h' = cc

  is_free : (c : Con) (sort : ℕ) → constant_type T c ≡ Some sort → IsFree (literal.content_of T c)
  is_free (Named c) sort typing =
      let found = declared c sort typing in
      ap (λ o. is_reserved (constant_name o)) found.1 ∙ All_at (λ constant. is_reserved constant.0 ≡ false) T.constants c found.0 made.unreserved found.1
  is_free (Open text) sort typing = (undeclared text sort typing).0

  is_found : (c : Con) (sort : ℕ) → constant_type T c ≡ Some sort → named_constant (literal.content_of T c) (number_of (constant_names T) (literal.content_of T c)) ≡ c
  is_found (Named c) sort typing =
      let found = declared c sort typing in
      ap (named_constant (literal.content_of T (Named c)))
      (ap (λ o. number_of (constant_names T) (constant_name o)) found.1 ∙ number_of-part (λ x. x.0) T.constants c found.0 made.distinct_constants found.1)
  is_found (Open text) sort typing = ap (named_constant text) (undeclared text sort typing).1

  same_content : (c : Con) → readable.content_of T c ≡ literal.content_of T c
  same_content (Named c) = refl
  same_content (Open text) = refl

  is_typed : (c : Con) (sort : ℕ) → constant_type T c ≡ Some sort → typed_constant T sort c ≡ Means (value.Const c)
  is_typed c sort typing =
      ap (λ o. cond (is_type o sort) (Means (value.Const c)) Wrong) typing
      ∙ ap (λ b. cond b (Means (value.Const c)) Wrong) (eq-eqb sort sort refl)

  -- a text that is not reserved is read as a constant
  plain_read : (sort : ℕ) (name : List ℕ) → IsFree name → content_of T sort name ≡ constant_content T sort name
  plain_read sort [] free = cc
  plain_read sort (b ∷ bs) free = at_tests (b == 63) (b == 61) free
    where
      at_tests : (q e : Bool) → (q || e) ≡ false
          → cond q (found (value_in T sort (b ∷ bs))) (cond e (found (value_in T sort bs)) (constant_content T sort (b ∷ bs))) ≡ constant_content T sort (b ∷ bs)
      at_tests false false h = refl
      at_tests true e h = cc
      at_tests false true h = cc

  constant_read : (c : Con) (sort : ℕ) → constant_type T c ≡ Some sort → is_name (literal.content_of T c) ≡ true
      → content_of T sort (literal.content_of T c) ≡ Means (value.Const c)
  constant_read c sort typing name =
      plain_read sort (literal.content_of T c) (is_free c sort typing)
      ∙ ap (λ b. cond b (constant_of_name T sort (literal.content_of T c)) Wrong) name
      ∙ ap (typed_constant T sort) (is_found c sort typing) ∙ is_typed c sort typing

  content_read : {levels sort : ℕ} {v : Value} → IsWithin T levels sort v → value_in T sort (value_text T v) ≡ Some v → content_of T sort (cell_field T v) ≡ Means v
  content_read {sort = sort} {v = v} (constant c is typing name) read =
      ap (λ w. content_of T sort (cell_field T w)) is ∙ constant_read c sort typing (ap is_name (sym (same_content c)) ∙ name) ∙ ap Means (sym is)
  content_read {sort = sort} {v = v} (null label is small) read =
      ap (λ w. content_of T sort (cell_field T w)) is ∙ ap (λ t. found (value_in T sort t)) (sym (value_text-at_Null T v label is)) ∙ ap found read
  content_read {sort = sort} {v = v} (application f function args is at gives word name each) read =
      ap (λ w. content_of T sort (cell_field T w)) is ∙ ap (λ w. found (value_in T sort (value_text T w))) (sym is) ∙ ap found read

  pub cell_read : (sort : ℕ) (v : Value) → IsReadable T sort v → content_of T sort (cell_field T v) ≡ Means v
  cell_read sort v h = content_read h.within (text_read sort v h)

-- Terms and values, made from what their parts give.
use Rattle.std.proofs.Common.{ℕ, List, [], ◌∷◌, Option, ◌≡◌, map, IfOk, sym, ap, subst, ◌∙◌, refl}
use Rattle.std.specs.Prelude.{slice_get, slice_index_or, find}
use Rattle.cq_theory.specs.SchemaData.{SchemaData as Schema}
use Rattle.cq_theory.specs.declared.constant.Con.TheVariants.{Named}
use Rattle.cq_theory.specs.declared.term.TypeTerm.{TypeTerm}
use Rattle.cq_theory.specs.declared.term.TypeTerm.TheVariants as term
use Rattle.cq_theory.specs.declared.value.Value.{Value}
use Rattle.cq_theory.specs.declared.value.Value.TheVariants.{Const, Null, Fun}
use Rattle.cq_theory.specs.declared.value.Entry.{Entry}
use Rattle.cq_theory.specs.Tables.{Tables, is_for, entry_or_built, applied}
use Rattle.cq_theory.specs.Homomorphism.{value_image, value_image_step}
use Rattle.cq_theory.proofs.TypeTerms as terms
use Rattle.cq_theory.proofs.Values as values
use Rattle.cq_theory.proofs.OnValues.{Each, on_values}
use Rattle.cq_instance.specs.declared.transform.Image.{Image}
use Rattle.cq_transform.specs.Composing.{value_term, put_value, put_value_step}
use Rattle.cq_transform.specs.Sent.{value_sent, value_sent_step}

pub put_generator : (images : List Image) (t : TypeTerm) (n : ℕ) → t ≡ term.Gen n → value_term (slice_get images n) ≡ put_value images t
put_generator images t n is =
    sym (ap (put_value images) is ∙ terms.fold-Gen TypeTerm (put_value_step images) n)

pub put_function : (images : List Image) (t : TypeTerm) (f : ℕ) (args made : List TypeTerm) → t ≡ term.Fun f args → made ≡ map (put_value images) args → term.Fun f made ≡ put_value images t
put_function images t f args made is all = ap (term.Fun f) all ∙ sym (ap (put_value images) is ∙ terms.fold-Fun TypeTerm (put_value_step images) f args)

pub sent_function : (entries : List Entry) (nulls : List Value) (v : Value) (f : ℕ) (args made : List Value) → v ≡ Fun f args → made ≡ map (value_sent entries nulls) args
    → entry_or_built (find (is_for f made) entries) f made ≡ value_sent entries nulls v
sent_function entries nulls v f args made is all =
    ap (λ (vs : List Value). entry_or_built (find (is_for f vs) entries) f vs) all
    ∙ sym (ap (value_sent entries nulls) is ∙ values.fold-Fun Value (value_sent_step entries nulls) f args)

-- a value goes to its image
module _ (S : Schema) (M N : Tables) (rows : List (List ℕ)) (nulls : List Value) where
  abbrev image : Value → Value
  image = value_image S M N rows nulls

  abbrev sent : Value → Value
  sent = value_sent N.algebra.entries nulls

  abbrev IsImage : Value → Type 0
  IsImage v = sent v ≡ image v

  each_image : (vs : List Value) → Each IsImage vs → map sent vs ≡ map image vs
  each_image [] each = refl
  each_image (v ∷ vs) each = let one : sent v ≡ image v = each.0 in let rest : map sent vs ≡ map image vs = each_image vs each.1 in λ i. one i ∷ rest i

  pub sent_image : (v : Value) → IsImage v
  sent_image = on_values IsImage
      (λ c. values.fold-Const Value (value_sent_step N.algebra.entries nulls) c ∙ sym (values.fold-Const Value (value_image_step S M N rows nulls) c))
      (λ n. values.fold-Null Value (value_sent_step N.algebra.entries nulls) n ∙ sym (values.fold-Null Value (value_image_step S M N rows nulls) n))
      (λ f vs each.
      values.fold-Fun Value (value_sent_step N.algebra.entries nulls) f vs ∙ ap (applied N f) (each_image vs each)
      ∙ sym (values.fold-Fun Value (value_image_step S M N rows nulls) f vs))

  pub all_sent : (vs : List Value) → map sent vs ≡ map image vs
  all_sent [] = refl
  all_sent (v ∷ vs) = let one : sent v ≡ image v = sent_image v in let rest : map sent vs ≡ map image vs = all_sent vs in λ i. one i ∷ rest i

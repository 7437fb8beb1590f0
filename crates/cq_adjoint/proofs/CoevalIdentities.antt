-- Along coeval, an identity becomes an identity.
use Rattle.std.proofs.Common.{ℕ, List, Some, ◌≡◌, ◌<◌, ◌+◌, ◌*◌, ◌⊎◌, inl, inr, map, length, refl, sym, ap, ◌∙◌, arith}
use Rattle.std.specs.Prelude.{slice_get, slice_index}
use Rattle.std.specs.List.{range_with_len, enumerate_from}
use Rattle.std.proofs.lemmas.List.{length-map}
use Rattle.std.proofs.lemmas.List.FromFn.{length-enumerate_from, get_or-range_with_len, get_or-map-range_with_len}
use Rattle.std.proofs.lemmas.Option.{slice_get_within}
use Rattle.cq_base.specs.declared.name.Name.{Name}
use Rattle.cq_theory.specs.declared.constant.Con.TheVariants.{Named}
use Rattle.cq_theory.specs.declared.presentation.Sort.{Sort}
use Rattle.cq_theory.specs.declared.term.TypeTerm.{TypeTerm}
use Rattle.cq_theory.specs.declared.term.TypeTerm.TheVariants.{Gen}
use Rattle.cq_theory.specs.declared.value.Value.{Value}
use Rattle.cq_theory.specs.declared.value.Value.TheVariants.{Const, Null}
use Rattle.cq_theory.specs.EntTerm.{alone}
use Rattle.cq_theory.specs.Homomorphism.{value_image, value_image_step}
use Rattle.cq_theory.specs.Sorts.{Generators}
use Rattle.cq_theory.specs.Tables.{Tables, Holds}
use Rattle.cq_theory.proofs.Every.{enumerated}
use Rattle.cq_theory.proofs.Values as values
use Rattle.cq_terms.specs.ValueTerms.{value_term_step}
use Rattle.cq_instance.specs.InstanceData.{InstanceData, IsInstance}
use Rattle.cq_instance.specs.declared.transform.Image.{Image}
use Rattle.cq_instance.specs.declared.transform.Image.TheVariants.{Row, Value as ValueImage}
use Rattle.cq_instance.specs.declared.transform.Transform.{Transform}
use Rattle.cq_instance.proofs.Lists.{get-map}
use Rattle.cq_transform.specs.Identities.{itself, identity_images}
use Rattle.cq_transform.specs.Transforms.{GoesFrom}
use Rattle.cq_transform.proofs.ExactlyOne.{within_counts}
use Rattle.cq_transform.proofs.Loops.{member_at}
use Rattle.cq_query.specs.QueryData.{QueryData as Query}
use Rattle.cq_query.specs.IsQuery.{IsQuery}
use Rattle.cq_query.specs.Translation.{variables_at}
use Rattle.cq_query.specs.Coeval.{start_of, null_start, coeval_of}
use Rattle.cq_adjoint.specs.Copies.{copied_value}
use Rattle.cq_adjoint.specs.QueryMoves.{IsCoeval, copy_sent, null_sent, coeval_images}
use Rattle.cq_adjoint.specs.Units.{identity_of}
use Rattle.cq_adjoint.proofs.AnsweredRows.{same_list}
use Rattle.cq_adjoint.proofs.CoevalMaps.{image_at, null_image_at, image_count}
use Rattle.cq_adjoint.proofs.CoevalTerms.{known}
use Rattle.cq_adjoint.proofs.CopyPlaces.{IsCopy, IsOfNull, copy_or_null}
use Rattle.cq_adjoint.proofs.QueryIdentities.{identity_from, kept_row}

module _ (Q : Query) (query : IsQuery Q) (i a : InstanceData) (coeval : IsCoeval Q i a) (source : IsInstance i) (there : IsInstance a) (holds : Holds i.schema i.presentation i.tables i.assignment) where
  goes : GoesFrom (identity_of i) i i
  goes = identity_from i holds

  abbrev M : Tables
  M = i.tables

  abbrev G : Generators
  G = (coeval_of Q M).generators

  abbrev images : List Image
  images = coeval_images Q (identity_of i) i i

  copy_itself : (p : ℕ) (g : Name × Sort) → IsCopy Q M p g.1 → slice_get images p ≡ Some (itself (p, g))
  copy_itself p g copy =
      let e : ℕ = copy.entity in
      let less : copy.number < length (variables_at Q e) = slice_get_within (variables_at Q e) copy.number copy.variable copy.at in
      let row : slice_get images (start_of Q M.sheet.counts e + copy.row * length (variables_at Q e) + copy.number) ≡ Some (copy_sent Q (identity_of i) i i e copy.row copy.number) =
      image_at Q query (identity_of i) i i a a coeval coeval goes source source there e copy.row copy.number (known Q query i a coeval source e copy.row copy.within) copy.within less in
      let stays = kept_row M.sheet.counts e copy.row copy.within in
      ap (slice_get images) copy.place ∙ row
      ∙ ap (λ (r : ℕ). Some (Row (alone (start_of Q M.sheet.counts e + r * length (variables_at Q e) + copy.number)))) stays
      ∙ ap (λ (n : ℕ). Some (Row (alone n))) (sym copy.place)
      ∙ ap (λ (s : Sort). Some (itself (p, (g.0, s)))) (sym copy.of_sort)

  null_itself : (p : ℕ) (g : Name × Sort) → IsOfNull Q M p g.1 → slice_get images p ≡ Some (itself (p, g))
  null_itself p g null =
      let label : ℕ = null.label in
      let nulls : ℕ = length M.algebra.nulls in
      let start : ℕ = null_start Q M.sheet.counts in
      let less : label < nulls = slice_get_within M.algebra.nulls label null.type null.at in
      let stays : value_image i.schema M M (identity_of i).rows (identity_of i).nulls (Null label) ≡ Null label =
      values.fold-Null Value (value_image_step i.schema M M (identity_of i).rows (identity_of i).nulls) label
      ∙ get_or-map-range_with_len Null 0 nulls label label (Const (Named 0)) less (omega arith) in
      let spelled : copied_value Q M (Null label) ≡ Gen (start + label) =
      values.fold-Null TypeTerm (value_term_step start nulls) label ∙ ap Gen (get_or-range_with_len start nulls label 0 less) in
      ap (slice_get images) null.place ∙ null_image_at Q query (identity_of i) i i a a coeval coeval goes source source there label less
      ∙ ap (λ (v : Value). Some (ValueImage (copied_value Q M v))) stays ∙ ap (λ (t : TypeTerm). Some (ValueImage t)) (spelled ∙ ap Gen (sym null.place))
      ∙ ap (λ (s : Sort). Some (itself (p, (g.0, s)))) (sym null.of_sort)

  at_place : (p : ℕ) (g : Name × Sort) → IsCopy Q M p g.1 ⊎ IsOfNull Q M p g.1 → slice_get images p ≡ Some (itself (p, g))
  at_place p g (inl copy) = copy_itself p g copy
  at_place p g (inr null) = null_itself p g null

  pub coeval_of_identity : coeval_images Q (identity_of i) i i ≡ identity_images (coeval_of Q i.tables).generators
  coeval_of_identity = same_list images (identity_images G)
      (image_count Q query (identity_of i) i i a a coeval coeval goes source source there ∙ sym (length-map (enumerate_from 0 G) itself ∙ length-enumerate_from 0 G))
      (λ p x y left right.
      let g = member_at G p (omega (arith, slice_get_within images p x left, image_count Q query (identity_of i) i i a a coeval coeval goes source source there)) in
      let here : 0 + p ≡ p = omega arith in
      let one : slice_get images p ≡ Some (itself (p, g.0)) = at_place p g.0 (copy_or_null Q M p g.0 g.1) in
      let other : slice_get (identity_images G) p ≡ Some (itself (p, g.0)) =
      get-map itself (enumerate_from 0 G) p (p, g.0) (enumerated 0 G p g.0 g.1 ∙ ap (λ (n : ℕ). let q : ℕ × (Name × Sort) = (n, g.0) in Some q) here) in
      let both : Some x ≡ Some y = sym left ∙ one ∙ sym other ∙ right in
      cc)

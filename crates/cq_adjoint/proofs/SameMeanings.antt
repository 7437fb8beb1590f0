-- In the tables that a mapping pulls back a term means what its image means in the tables, where generators stand for the same.
use Rattle.std.proofs.Common.{ℕ, List, [], ◌∷◌, Some, ◌≡◌, ◌<◌, map, length, refl, sym, ap, subst, ◌∙◌, arith}
use Rattle.std.specs.Prelude.{slice_get, slice_index_or}
use Rattle.std.proofs.lemmas.List.{length-map}
use Rattle.std.proofs.lemmas.Option.{option_and_then_some}
use Rattle.cq_base.specs.declared.name.Name.{Name}
use Rattle.cq_theory.specs.TypesideData.{TypesideData as Typeside}
use Rattle.cq_theory.specs.declared.presentation.Sort.{Sort}
use Rattle.cq_theory.specs.declared.presentation.Sort.TheVariants.{Plain, Entity}
use Rattle.cq_theory.specs.declared.presentation.Equation.{Equation}
use Rattle.cq_theory.specs.declared.presentation.Equation.TheVariants as equation
use Rattle.cq_theory.specs.declared.presentation.Presentation.{Presentation}
use Rattle.cq_theory.specs.SchemaData.{SchemaData as Schema}
use Rattle.cq_theory.specs.declared.term.EntTerm.{EntTerm}
use Rattle.cq_theory.specs.declared.term.TypeTerm.{TypeTerm}
use Rattle.cq_theory.specs.declared.term.TypeTerm.TheVariants as term
use Rattle.cq_theory.specs.declared.term.Term.{Term}
use Rattle.cq_theory.specs.declared.term.Term.TheVariants.{Ent, Typ}
use Rattle.cq_theory.specs.declared.value.Value.{Value}
use Rattle.cq_theory.specs.Derivation.{left_of, right_of}
use Rattle.cq_theory.specs.Presentation.{IsSort, IsPresentation}
use Rattle.cq_theory.specs.Sorts.{Generators, target_of, entity_at, entity_of, type_of, sort_of}
use Rattle.cq_theory.specs.Tables.{Tables, Meaning, AtRow, AtValue, Assignment, row_in, count_of, cell_at, row_of, value_of, value_step, meaning_of, applied, value_type, HasSort, IsWellFormed, Satisfies, Holds}
use Rattle.cq_theory.proofs.ResolvedSorts.{map_some}
use Rattle.cq_theory.proofs.TypeTerms.{fold-Gen, fold-Const, fold-Att, fold-Fun, Each, on_terms}
use Rattle.cq_mapping.specs.MappingData.{MappingData as Mapping}
use Rattle.cq_mapping.specs.Mapping.{IsMapping}
use Rattle.cq_mapping.specs.Images.{entity_image, attribute_image, path_image, ent_image, type_image, type_image_step, term_image, sort_image, equation_image, generator_images, sigma}
use Rattle.cq_mapping.specs.Moved.{delta_tables}
use Rattle.cq_mapping.proofs.Imaged.{target_of-image, sort_of-image}
use Rattle.cq_instance.proofs.Lists.{get-map, get-map_from, All_at}
use Rattle.cq_instance.proofs.TypedTerms.{entity_at_some, EachTyped, typed_cell, args_typed}
use Rattle.cq_instance.proofs.SubstitutedTerms.{value_of-substituted}
use Rattle.cq_move.proofs.Normal.{row_from-within}
use Rattle.cq_move.proofs.Pulled.{count_is, cell_is, row_from-image}
use Rattle.cq_transform.proofs.ExactlyOne.{within_counts}
use Rattle.cq_adjoint.proofs.SentModels.{AreSided}

module _ (F : Mapping) (is : IsMapping F) (M : Tables) (well : IsWellFormed F.target M) where
  abbrev S : Schema
  S = F.source

  abbrev T : Schema
  T = F.target

  abbrev D : Tables
  D = delta_tables F M

  -- a row of an entity is one of the entity's image
  pub row_pushed : (e row : ℕ) → row < count_of D e → row < count_of M (entity_image F e)
  row_pushed e row inside =
      let known : e < length S.entities = omega (arith, within_counts D.sheet.counts e row inside, length-map F.entities (count_of M), is.entities) in
      subst (λ n. row < n) (count_is F is M well e known) inside

  pub type_moved : (v : Value) → value_type S M.algebra.nulls v ≡ value_type T M.algebra.nulls v
  type_moved v = ap (λ (y : Typeside). value_type (record { typeside = y; entities = []; keys = []; attributes = []; path_eqs = []; obs_eqs = [] }) M.algebra.nulls v) is.typeside

  -- what is of a sort is of its image
  pub sort_pushed : (sort : Sort) (m : Meaning) → HasSort S D sort m → HasSort T M (sort_image F sort) m
  sort_pushed (Entity e) (AtRow r) h = row_pushed e r h
  sort_pushed (Entity e) (AtValue v) h = absurd h
  sort_pushed (Plain type) (AtRow r) h = absurd h
  sort_pushed (Plain type) (AtValue v) h = (sym (type_moved v) ∙ h.0, h.1)

  pub sort_pulled : (sort : Sort) (m : Meaning) → IsSort S sort → HasSort T M (sort_image F sort) m → HasSort S D sort m
  sort_pulled (Entity e) (AtRow r) known h = subst (λ n. r < n) (sym (count_is F is M well e known)) h
  sort_pulled (Entity e) (AtValue v) known h = absurd h
  sort_pulled (Plain type) (AtRow r) known h = absurd h
  sort_pulled (Plain type) (AtValue v) known h = (type_moved v ∙ h.0, h.1)

  module _ (G : Generators) (C : Assignment) (sorts : (n : ℕ) (g : Name × Sort) → slice_get G n ≡ Some g → HasSort F.source (delta_tables F M) g.1 (slice_index_or C n (AtRow 0))) where
    begins_at : (m : Meaning) (e : ℕ) → HasSort S D (Entity e) m → row_in m < count_of M (entity_image F e)
    begins_at (AtRow r) e h = row_pushed e r h
    begins_at (AtValue v) e h = absurd h

    pub row_same : (t : EntTerm) (e : ℕ) → entity_of S G t ≡ Some e
        → (row_of D C t ≡ row_of M C (ent_image F t)) × (row_of M C (ent_image F t) < count_of M (entity_image F e))
    row_same t e h = option_and_then_some (target_of S.keys t.path) (entity_at (slice_get G t.generator)) e h (λ start first rest.
        let g = entity_at_some (slice_get G t.generator) start first in
        let m : Meaning = slice_index_or C t.generator (AtRow 0) in
        let inside : row_in m < count_of M (entity_image F start) = begins_at m start (subst (λ (sort : Sort). HasSort S D sort m) g.2 (sorts t.generator g.0 g.1)) in (
          row_from-image F is M well t.path start e (row_in m) rest inside,
          row_from-within T M well (path_image F t.path) (entity_image F start) (entity_image F e) (row_in m) (target_of-image F is t.path start e rest) inside,
        ))

    abbrev IsSame : TypeTerm → Type 0
    IsSame t = (type : ℕ) → type_of S G t ≡ Some type → value_of D C t ≡ value_of M C (type_image F t)

    args_same : (ts : List TypeTerm) → EachTyped S G ts → Each IsSame ts → map (value_of D C) ts ≡ map (value_of M C) (map (type_image F) ts)
    args_same [] typed each = refl
    args_same (t ∷ ts) typed each =
        let first : value_of D C t ≡ value_of M C (type_image F t) = each.0 typed.0.0 typed.0.1 in
        let rest : map (value_of D C) ts ≡ map (value_of M C) (map (type_image F) ts) = args_same ts typed.1 each.1 in
        λ i. first i ∷ rest i

    cell_same : (a : ℕ) (t : EntTerm) → IsSame (term.Att a t)
    cell_same a t type h =
        let cell = typed_cell S G a t type h in
        let row = row_same t cell.edge.from cell.of_entity in
        let image = is.attribute_images a cell.edge cell.known in
        fold-Att Value (value_step D C) a t ∙ ap (cell_at D a) row.0 ∙ cell_is F is M well a (row_of M C (ent_image F t)) cell.edge cell.known row.1
        ∙ sym (ap (value_of M C) (fold-Att TypeTerm (type_image_step F) a t)
        ∙ value_of-substituted T M C (ent_image F t) (entity_image F cell.edge.from) (row_of M C (ent_image F t)) refl (attribute_image F a) cell.edge.to image.typed)

    pub value_same : (t : TypeTerm) → IsSame t
    value_same = on_terms IsSame
        (λ n type h. fold-Gen Value (value_step D C) n ∙ sym (ap (value_of M C) (fold-Gen TypeTerm (type_image_step F) n) ∙ fold-Gen Value (value_step M C) n))
        (λ c type h. fold-Const Value (value_step D C) c ∙ sym (ap (value_of M C) (fold-Const TypeTerm (type_image_step F) c) ∙ fold-Const Value (value_step M C) c))
        cell_same
        (λ f ts each type h.
        fold-Fun Value (value_step D C) f ts ∙ ap (applied M f) (args_same ts (args_typed S G f ts type h) each)
        ∙ sym (ap (value_of M C) (fold-Fun TypeTerm (type_image_step F) f ts) ∙ fold-Fun Value (value_step M C) f (map (type_image F) ts)))

    pub meaning_same : (t : Term) (sort : Sort) → sort_of S G t ≡ Some sort → meaning_of D C t ≡ meaning_of M C (term_image F t)
    meaning_same (Ent t) sort h = let found = map_some Entity (entity_of S G t) sort h in ap AtRow (row_same t found.0 found.1).0
    meaning_same (Typ t) sort h = let found = map_some Plain (type_of S G t) sort h in ap AtValue (value_same t found.0 found.1)

  left_image : (e : Equation) → left_of (equation_image F e) ≡ term_image F (left_of e)
  left_image (equation.Ent t u) = refl
  left_image (equation.Typ t u) = refl

  right_image : (e : Equation) → right_of (equation_image F e) ≡ term_image F (right_of e)
  right_image (equation.Ent t u) = refl
  right_image (equation.Typ t u) = refl

  -- a presentation holds in the tables that are pulled back where its image holds in the tables
  module _ (P : Presentation) (presented : IsPresentation F.source P) (C : Assignment) where
    -- the sides of each of its equations have one sort
    pub image_sided : AreSided T (sigma F P)
    image_sided n e at =
        let before = get-map_from (equation_image F) P.equations n e at in
        let x : Equation = before.0 in
        let sides = presented.equations n x before.1 in
        subst (λ (y : Equation). (sort : Sort) × (sort_of T (generator_images F P.generators) (left_of y) ≡ Some sort) × (sort_of T (generator_images F P.generators) (right_of y) ≡ Some sort)) before.2 (
          sort_image F sides.sort,
          ap (sort_of T (generator_images F P.generators)) (left_image x) ∙ sort_of-image F is P.generators (left_of x) sides.sort sides.left,
          ap (sort_of T (generator_images F P.generators)) (right_image x) ∙ sort_of-image F is P.generators (right_of x) sides.sort sides.right,
        )

    pub holds_pulled : IsWellFormed S D → Satisfies S D → Holds T (sigma F P) M C → Holds S P D C
    holds_pulled formed satisfies holds =
        let sorts : (n : ℕ) (g : Name × Sort) → slice_get P.generators n ≡ Some g → HasSort S D g.1 (slice_index_or C n (AtRow 0)) =
        λ n g at. sort_pulled g.1 (slice_index_or C n (AtRow 0)) (All_at (λ (x : Name × Sort). IsSort S x.1) P.generators n g presented.generators at)
        (holds.sorts n (g.0, sort_image F g.1) (get-map (λ (x : Name × Sort). (x.0, sort_image F x.1)) P.generators n g at)) in
        record {
          well_formed = formed;
          count = holds.count ∙ length-map P.generators (λ (x : Name × Sort). (x.0, sort_image F x.1));
          sorts = sorts;
          schema = satisfies;
          equations = λ n e at.
              let sides = presented.equations n e at in
              meaning_same P.generators C sorts (left_of e) sides.sort sides.left ∙ ap (meaning_of M C) (sym (left_image e))
              ∙ holds.equations n (equation_image F e) (get-map (equation_image F) P.equations n e at)
              ∙ ap (meaning_of M C) (right_image e) ∙ sym (meaning_same P.generators C sorts (right_of e) sides.sort sides.right);
        }

    pub holds_pushed : Satisfies T M → Holds S P D C → Holds T (sigma F P) M C
    holds_pushed satisfies holds = record {
      well_formed = well;
      count = holds.count ∙ sym (length-map P.generators (λ (x : Name × Sort). (x.0, sort_image F x.1)));
      sorts = λ n g at.
          let before = get-map_from (λ (x : Name × Sort). (x.0, sort_image F x.1)) P.generators n g at in
          subst (λ (x : Name × Sort). HasSort T M x.1 (slice_index_or C n (AtRow 0))) before.2
          (sort_pushed before.0.1 (slice_index_or C n (AtRow 0)) (holds.sorts n before.0 before.1));
      schema = satisfies;
      equations = λ n e at.
          let before = get-map_from (equation_image F) P.equations n e at in
          let x : Equation = before.0 in
          let sides = presented.equations n x before.1 in
          let one : meaning_of M C (left_of (equation_image F x)) ≡ meaning_of M C (right_of (equation_image F x)) =
          ap (meaning_of M C) (left_image x) ∙ sym (meaning_same P.generators C holds.sorts (left_of x) sides.sort sides.left)
          ∙ holds.equations n x before.1
          ∙ meaning_same P.generators C holds.sorts (right_of x) sides.sort sides.right ∙ ap (meaning_of M C) (sym (right_image x)) in
          subst (λ (y : Equation). meaning_of M C (left_of y) ≡ meaning_of M C (right_of y)) before.2 one;
    }

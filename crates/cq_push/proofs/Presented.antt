-- Presentations beside one another, and glued, make a presentation over their schema.
use Rattle.std.proofs.Common.{ℕ, suc, List, [], ◌∷◌, ◌++◌, Some, ◌≡◌, ◌+◌, map, length, refl, sym, ap, subst, ◌∙◌, append_assoc, length-append, arith}
use Rattle.std.specs.Prelude.{slice_get, All}
use Rattle.cq_base.specs.declared.name.Name.{Name}
use Rattle.cq_theory.specs.declared.presentation.Sort.{Sort}
use Rattle.cq_theory.specs.declared.presentation.Sort.TheVariants.{Plain, Entity}
use Rattle.cq_theory.specs.declared.presentation.Presentation.{Presentation}
use Rattle.cq_theory.specs.declared.term.Term.TheVariants.{Ent, Typ}
use Rattle.cq_theory.specs.SchemaData.{SchemaData as Schema}
use Rattle.cq_theory.specs.Canonical.{named}
use Rattle.cq_theory.specs.Presentation.{IsSort, IsPresentation}
use Rattle.cq_theory.specs.Sorts.{Generators, entity_of, type_of, sort_of}
use Rattle.cq_theory.proofs.Every.{Every, Every-append, Every-map, Every-flat_map, Every-at, Every-from_All}
use Rattle.cq_theory.proofs.ResolvedSorts.{map_some}
use Rattle.cq_instance.specs.declared.transform.Image.{Image}
use Rattle.cq_instance.specs.declared.transform.Image.TheVariants.{Row, Value}
use Rattle.cq_instance.proofs.Lists.{get-map, get-append, get-append_front, All_at, All_from}
use Rattle.cq_transform.specs.Transforms.{term_of}
use Rattle.cq_transform.specs.Shifted.{shifted_equation}
use Rattle.cq_transform.specs.Gluing.{sorts_of, equations_from, glued, glued_images}
use Rattle.cq_push.specs.Sorted.{HasOneSort, AreSorted}
use Rattle.cq_terms.proofs.Naming.{has_sort}
use Rattle.cq_push.proofs.ShiftedSorts.{AreBehind, term_itself, term_keeps, equation_keeps}
use Rattle.cq_push.proofs.Beside.{own_sorts, own_count}

abbrev sort_in : Name × Sort → Sort
sort_in g = g.1

module _ (S : Schema) where
  pub sorts_in : (parts : List Presentation) → All (IsPresentation S) parts → All (IsSort S) (sorts_of parts)
  sorts_in parts presented = All_from (IsSort S) (sorts_of parts) (λ n sort at. Every-at (IsSort S) (sorts_of parts) n sort each at)
    where
      own : (m : ℕ) (P : Presentation) → slice_get parts m ≡ Some P → Every (IsSort S) (own_sorts P)
      own m P at =
          let P_is : IsPresentation S P = All_at (IsPresentation S) parts m P presented at in
          Every-map (IsSort S) sort_in P.generators (λ k g there. All_at (λ (h : Name × Sort). IsSort S h.1) P.generators k g P_is.generators there)

      each : Every (IsSort S) (sorts_of parts)
      each = Every-flat_map (IsSort S) own_sorts parts own

  -- a presentation whose generators stand between others
  between : (before after : List Sort) (P : Presentation) → AreBehind (length before) P.generators (named (before ++ (own_sorts P ++ after)))
  between before after P n g at =
      has_sort (before ++ (own_sorts P ++ after)) (length before + n) g.1
      (get-append before (own_sorts P ++ after) n g.1 (get-append_front (own_sorts P) after n g.1 (get-map sort_in P.generators n g at)))

  pub equations_sorted : (before : List Sort) (parts : List Presentation) → Every (IsPresentation S) parts
      → Every (HasOneSort S (named (before ++ sorts_of parts))) (equations_from (length before) parts)
  equations_sorted before [] h = tt
  equations_sorted before (P ∷ parts) h =
      let G : Generators = named (before ++ (own_sorts P ++ sorts_of parts)) in
      let own : Every (HasOneSort S G) (map (shifted_equation (length before)) P.equations) =
      Every-map (HasOneSort S G) (shifted_equation (length before)) P.equations (λ n e at.
      let is = h.0.equations n e at in
      equation_keeps S (length before) P.generators G (between before (sorts_of parts) P) e (record { sort = is.sort; left = is.left; right = is.right })) in
      let count : length (before ++ own_sorts P) ≡ length before + length P.generators = omega (arith, length-append before (own_sorts P), own_count P) in
      let same : (before ++ own_sorts P) ++ sorts_of parts ≡ before ++ (own_sorts P ++ sorts_of parts) = append_assoc before (own_sorts P) (sorts_of parts) in
      let Claim : List Sort × ℕ → Type 0 = λ x. Every (HasOneSort S (named x.0)) (equations_from x.1 parts) in
      let both : ((before ++ own_sorts P) ++ sorts_of parts, length (before ++ own_sorts P)) ≡ (before ++ (own_sorts P ++ sorts_of parts), length before + length P.generators) =
      λ i. (same i, count i) in
      Every-append (HasOneSort S G) (map (shifted_equation (length before)) P.equations) (equations_from (length before + length P.generators) parts) own
      (subst Claim both (equations_sorted (before ++ own_sorts P) parts h.1))

  pub coproduct_sorted : (parts : List Presentation) → All (IsPresentation S) parts → AreSorted S (named (sorts_of parts)) (equations_from 0 parts)
  coproduct_sorted parts presented n e at =
      Every-at (HasOneSort S (named (sorts_of parts))) (equations_from 0 parts) n e (equations_sorted [] parts (Every-from_All (IsPresentation S) parts presented)) at

  -- the two images of a generator have its sort
  pub record AreImagesOf (B C : Presentation) (left right : Image) : Type 0 where
    pub sort : Sort
    pub on_left : sort_of S B.generators (term_of left) ≡ Some sort
    pub on_right : sort_of S C.generators (term_of right) ≡ Some sort

  module _ (B C : Presentation) where
    abbrev G : Generators
    G = named (sorts_of (B ∷ C ∷ []))

    first_behind : AreBehind 0 B.generators G
    first_behind = between [] (sorts_of (C ∷ [])) B

    second_behind : AreBehind (length B.generators) C.generators G
    second_behind = subst (λ (n : ℕ). AreBehind n C.generators G) (own_count B) (between (own_sorts B) [] C)

    one_glued : (left right : Image) → AreImagesOf B C left right → HasOneSort S G (glued (length B.generators) left right)
    one_glued (Row t) (Row u) h = record {
      sort = h.sort;
      left = ap (sort_of S G) (sym (term_itself (Ent t))) ∙ term_keeps S 0 B.generators G first_behind (Ent t) h.sort h.on_left;
      right = term_keeps S (length B.generators) C.generators G second_behind (Ent u) h.sort h.on_right;
    }
    one_glued (Value t) (Value u) h = record {
      sort = h.sort;
      left = ap (sort_of S G) (sym (term_itself (Typ t))) ∙ term_keeps S 0 B.generators G first_behind (Typ t) h.sort h.on_left;
      right = term_keeps S (length B.generators) C.generators G second_behind (Typ u) h.sort h.on_right;
    }
    one_glued (Row t) (Value u) h =
        let left = map_some Entity (entity_of S B.generators t) h.sort h.on_left in
        let right = map_some Plain (type_of S C.generators u) h.sort h.on_right in
        absurd (let clash : Entity left.0 ≡ Plain right.0 = left.2 ∙ sym right.2 in cc)
    one_glued (Value t) (Row u) h =
        let left = map_some Plain (type_of S B.generators t) h.sort h.on_left in
        let right = map_some Entity (entity_of S C.generators u) h.sort h.on_right in
        absurd (let clash : Plain left.0 ≡ Entity right.0 = left.2 ∙ sym right.2 in cc)

    all_glued : (lefts rights : List Image) → ((n : ℕ) (left right : Image) → slice_get lefts n ≡ Some left → slice_get rights n ≡ Some right → AreImagesOf B C left right)
        → Every (HasOneSort S G) (glued_images (length B.generators) lefts rights)
    all_glued [] rights h = tt
    all_glued (left ∷ lefts) [] h = tt
    all_glued (left ∷ lefts) (right ∷ rights) h =
        (one_glued left right (h 0 left right refl refl), all_glued lefts rights (λ n x y at there. h (suc n) x y at there))

    pub pushout_sorted : (lefts rights : List Image) → IsPresentation S B → IsPresentation S C
        → ((n : ℕ) (left right : Image) → slice_get lefts n ≡ Some left → slice_get rights n ≡ Some right → AreImagesOf B C left right)
        → AreSorted S G (equations_from 0 (B ∷ C ∷ []) ++ glued_images (length B.generators) lefts rights)
    pushout_sorted lefts rights b c h n e at =
        Every-at (HasOneSort S G) (equations_from 0 (B ∷ C ∷ []) ++ glued_images (length B.generators) lefts rights) n e
        (Every-append (HasOneSort S G) (equations_from 0 (B ∷ C ∷ [])) (glued_images (length B.generators) lefts rights)
        (equations_sorted [] (B ∷ C ∷ []) (b, (c, tt))) (all_glued lefts rights h)) at

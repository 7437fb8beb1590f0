-- The image of a presentation is one over the target.
use Rattle.std.proofs.Common.{ℕ, Bool, true, false, List, Option, Some, None, ◌≡◌, ◌<◌, ◌≤◌, ◌||◌, map, length, get_or, refl, sym, ap, subst, ◌∙◌, arith}
use Rattle.std.specs.Prelude.{slice_get, option_map, nat_lt}
use Rattle.std.specs.List.{list_any}
use Rattle.std.proofs.lemmas.List.{length-map, get_or-map}
use Rattle.std.proofs.lemmas.List.Folds.{list_any_at}
use Rattle.std.proofs.lemmas.List.Elements.{All-map}
use Rattle.std.proofs.lemmas.Option.{slice_get-map, get_or_from_slice_get, slice_get_within}
use Rattle.std.proofs.lemmas.Bool.Decides.{nat_tests}
use Rattle.cq_base.specs.declared.name.Name.{Name}
use Rattle.cq_theory.specs.declared.presentation.Sort.{Sort}
use Rattle.cq_theory.specs.declared.presentation.Sort.TheVariants.{Plain, Entity}
use Rattle.cq_theory.specs.declared.presentation.Equation.{Equation}
use Rattle.cq_theory.specs.declared.presentation.Equation.TheVariants as equation
use Rattle.cq_theory.specs.declared.presentation.Presentation.{Presentation}
use Rattle.cq_theory.specs.declared.term.Term.{Term}
use Rattle.cq_theory.specs.Sorts.{sort_of}
use Rattle.cq_theory.specs.Derivation.{left_of, right_of}
use Rattle.cq_theory.specs.Presentation.{IsSort, IsEquation, IsPresentation, term_symbols, is_long, has_long_side}
use Rattle.cq_mapping.specs.MappingData.{MappingData as Mapping}
use Rattle.cq_mapping.specs.Images.{term_image, sort_image, equation_image, generator_images, sigma}
use Rattle.cq_mapping.specs.Mapping.{IsMapping}
use Rattle.cq_mapping.specs.Duties.{is_too_large}
use Rattle.cq_mapping.proofs.Imaged.{sort_of-image}

pub any_image : {X Y : Type 0} (p : Y → Bool) (f : X → Y) (xs : List X) (i : ℕ) (x : X) → i < length xs → x ≡ get_or xs i x → p (f x) ≡ true → true ≡ list_any p (map f xs)
any_image p f xs i x within is h =
    sym (list_any_at p (map f xs) i (f x) (omega (arith, length-map xs f)) (ap p (get_or-map f xs i x (f x) within ∙ ap f (sym is)) ∙ h))

-- no member passes a test that none passes
none_at : {X : Type 0} (p : X → Bool) (xs : List X) (i : ℕ) (x : X) → list_any p xs ≡ false → slice_get xs i ≡ Some x → p x ≡ false
none_at p xs i x none is = either (p x) refl
  where
    either : (b : Bool) → p x ≡ b → p x ≡ false
    either false e = e
    either true e =
        let found : list_any p xs ≡ true = list_any_at p xs i x (slice_get_within xs i x is) (ap p (get_or_from_slice_get xs i x x is) ∙ e) in
        cc

neither_side : (a b : Bool) → (a || b) ≡ false → (a ≡ false) × (b ≡ false)
neither_side true b h = cc
neither_side false b h = (refl, h)

fits : (t : Term) → is_long t ≡ false → term_symbols t ≤ 1024
fits t h = at_most (term_symbols t) h
  where
    at_most : (n : ℕ) → nat_lt 1024 n ≡ false → n ≤ 1024
    at_most n e = grind (arith, nat_tests)

member_before : {X Y : Type 0} (f : X → Y) (o : Option X) (y : Y) → option_map f o ≡ Some y → (x : X) × (o ≡ Some x) × (f x ≡ y)
member_before f None y h = cc
member_before f (Some x) y h = (x, refl, let same : f x ≡ y = cc in same)

module _ (F : Mapping) (is : IsMapping F) where
  abbrev generator_image : Name × Sort → Name × Sort
  generator_image g = (g.0, sort_image F g.1)

  sort-image : (sort : Sort) → IsSort F.source sort → IsSort F.target (sort_image F sort)
  sort-image (Plain type) h = subst (λ y. type < length y.types) is.typeside h
  sort-image (Entity e) h = is.entity_images e 0 (omega (arith, h, is.entities))

  left-image : (e : Equation) → left_of (equation_image F e) ≡ term_image F (left_of e)
  left-image (equation.Ent t u) = refl
  left-image (equation.Typ t u) = refl

  right-image : (e : Equation) → right_of (equation_image F e) ≡ term_image F (right_of e)
  right-image (equation.Ent t u) = refl
  right-image (equation.Typ t u) = refl

  module _ (P : Presentation) where
    equation-image : (e : Equation) → IsEquation F.source P e → has_long_side (equation_image F e) ≡ false → IsEquation F.target (sigma F P) (equation_image F e)
    equation-image e h short =
        let sides = neither_side (is_long (left_of (equation_image F e))) (is_long (right_of (equation_image F e))) short in
        record {
          sort = sort_image F h.sort;
          left = ap (sort_of F.target (generator_images F P.generators)) (left-image e) ∙ sort_of-image F is P.generators (left_of e) h.sort h.left;
          right = ap (sort_of F.target (generator_images F P.generators)) (right-image e) ∙ sort_of-image F is P.generators (right_of e) h.sort h.right;
          left_fits = fits (left_of (equation_image F e)) sides.0;
          right_fits = fits (right_of (equation_image F e)) sides.1;
        }

    pub sigma-is_presentation : IsPresentation F.source P → is_too_large F P ≡ false → IsPresentation F.target (sigma F P)
    sigma-is_presentation h short = record {
      generators = All-map (λ (g : Name × Sort). IsSort F.target g.1) generator_image P.generators (λ k d within. sort-image (get_or P.generators k d).1 (h.generators k d within));
      count = omega (arith, h.count, length-map P.generators generator_image);
      equations = λ n e at.
          let before = member_before (equation_image F) (slice_get P.equations n) e (sym (slice_get-map (equation_image F) P.equations n) ∙ at) in
          let short_here : has_long_side (equation_image F before.0) ≡ false = ap has_long_side before.2 ∙ none_at has_long_side (map (equation_image F) P.equations) n e short at in
          subst (IsEquation F.target (sigma F P)) before.2 (equation-image before.0 (h.equations n before.0 before.1) short_here);
    }

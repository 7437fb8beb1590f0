-- The list of nodes, and the terms that are made of constants and applications.
use Rattle.std.proofs.Common.{ℕ, suc, true, List, [], ◌∷◌, ◌++◌, Option, Some, ◌≡◌, ◌==◌, map, filter, length, refl, sym, ap, ◌∙◌, append_assoc}
use Rattle.std.specs.Prelude.{slice_get}
use Rattle.std.specs.List.{flat_map}
use Rattle.std.proofs.lemmas.List.Concat.{flat_map-append}
use Rattle.std.proofs.lemmas.List.Folds.{flat_map-map}
use Rattle.cq_theory.specs.declared.presentation.Equation.{Equation}
use Rattle.cq_theory.specs.declared.presentation.Equation.TheVariants.{Ent, Typ}
use Rattle.cq_theory.specs.declared.presentation.Presentation.{Presentation}
use Rattle.cq_theory.specs.declared.schema.ObsEq.{ObsEq}
use Rattle.cq_theory.specs.SchemaData.{SchemaData as Schema}
use Rattle.cq_theory.specs.declared.term.EntTerm.{EntTerm}
use Rattle.cq_theory.specs.declared.term.TypeTerm.{TypeTerm}
use Rattle.cq_theory.specs.declared.term.TypeTerm.TheVariants as term
use Rattle.cq_theory.specs.TypeTerm.{substituted}
use Rattle.cq_theory.specs.Sorts.{type_at, is_type, have_types, type_of, type_step}
use Rattle.cq_theory.specs.Canonical.{below}
use Rattle.cq_theory.specs.Listed.{subterms, subterms_step, names_of, equation_nodes, observation_nodes, nodes}
use Rattle.cq_theory.proofs.TypeTerms.{fold-Gen, fold-Fun, para-Gen, para-Const, para-Att, para-Fun, Each, on_terms}
use Rattle.cq_theory.proofs.Sound.{both, is_type_some, applied_type_some}
use Rattle.cq_model.specs.NodeTerms.{made_terms, made_step, side_terms, equation_sides, row_sides, entity_sides, given_sides, leaf_terms}
use Rattle.cq_model.specs.Thins.{Thins, ended, kept, skipped}
use Rattle.cq_model.proofs.Thinning.{Thins-append, Thins-moved}

abbrev pub pair_subterms : TypeTerm × TypeTerm → List TypeTerm
pair_subterms sides = subterms sides.0 ++ subterms sides.1

equations_flat : (S : Schema) (P : Presentation) (names : List (List EntTerm)) (es : List Equation) → flat_map (equation_nodes S P names) es ≡ flat_map pair_subterms (flat_map equation_sides es)
equations_flat S P names [] = refl
equations_flat S P names (Ent t u ∷ es) = equations_flat S P names es
equations_flat S P names (Typ t u ∷ es) = ap (λ l. subterms t ++ subterms u ++ l) (equations_flat S P names es)

module _ (S : Schema) (P : Presentation) (names : List (List EntTerm)) where
  rows_flat : (e : ℕ) (ts : List EntTerm)
      → flat_map (λ t. flat_map (λ (o : ObsEq). subterms (substituted t o.left) ++ subterms (substituted t o.right)) (filter (λ (o : ObsEq). o.entity == e) S.obs_eqs)) ts
      ≡ flat_map pair_subterms (flat_map (row_sides S P names e) ts)
  rows_flat e [] = refl
  rows_flat e (t ∷ ts) =
      let sides : ObsEq → TypeTerm × TypeTerm = λ o. (substituted t o.left, substituted t o.right) in
      let first = sym (flat_map-map pair_subterms sides (filter (λ (o : ObsEq). o.entity == e) S.obs_eqs)) in
      let rest = rows_flat e ts in
      (λ i. first i ++ rest i) ∙ sym (flat_map-append pair_subterms (row_sides S P names e t) (flat_map (row_sides S P names e) ts))

  observations_flat : (es : List ℕ) → flat_map (observation_nodes S P names) es ≡ flat_map pair_subterms (flat_map (entity_sides S P names) es)
  observations_flat [] = refl
  observations_flat (e ∷ es) =
      let first = rows_flat e (names_of S P names e) in
      let rest = observations_flat es in
      (λ i. first i ++ rest i) ∙ sym (flat_map-append pair_subterms (entity_sides S P names e) (flat_map (entity_sides S P names) es))

  -- the leaves, and then all subterms of the equations
  pub nodes_are : nodes S P names ≡ leaf_terms S P names ++ flat_map pair_subterms (given_sides S P names)
  nodes_are =
      let equations = equations_flat S P names P.equations in
      let observations = observations_flat (below (length S.entities)) in
      (λ i. (leaf_terms S P names ++ equations i) ++ observations i)
      ∙ append_assoc (leaf_terms S P names) (flat_map pair_subterms (flat_map equation_sides P.equations)) (flat_map pair_subterms (flat_map (entity_sides S P names) (below (length S.entities))))
      ∙ ap (λ l. leaf_terms S P names ++ l) (sym (flat_map-append pair_subterms (flat_map equation_sides P.equations) (flat_map (entity_sides S P names) (below (length S.entities)))))

map_first : {X Y : Type 0} (g : X → Y) (xs : List X) → map (λ (p : X × Y). p.0) (map (λ x. (x, g x)) xs) ≡ xs
map_first g [] = refl
map_first g (x ∷ xs) = ap (λ l. x ∷ l) (map_first g xs)

abbrev pub IsTyped : Schema → Presentation → TypeTerm → Type 0
IsTyped S P t = (type : ℕ) × (type_of S P.generators t ≡ Some type)

-- Of a typed term's subterms the cells and the generators may be left out.
module _ (S : Schema) (P : Presentation) (Skips : TypeTerm → Type 0)
    (on_gen : (n type : ℕ) → type_at (slice_get P.generators n) ≡ Some type → Skips (term.Gen n))
    (on_att : (a : ℕ) (t : EntTerm) (type : ℕ) → type_of S P.generators (term.Att a t) ≡ Some type → Skips (term.Att a t)) where
  abbrev IsThinned : TypeTerm → Type 0
  IsThinned t = (type : ℕ) → type_of S P.generators t ≡ Some type → Thins Skips (subterms t) (made_terms t)

  args_thinned : (ts : List TypeTerm) (types : List ℕ) → have_types (map (type_of S P.generators) ts) types ≡ true → Each IsThinned ts
      → Thins Skips (flat_map (λ (arg : TypeTerm × List TypeTerm). arg.1) (map (λ t. (t, subterms t)) ts)) (flat_map (λ (arg : TypeTerm × List TypeTerm). arg.1) (map (λ t. (t, made_terms t)) ts))
  args_thinned [] types h each = ended
  args_thinned (t ∷ ts) [] h each = cc
  args_thinned (t ∷ ts) (type ∷ types) h each =
      let parts : (is_type (type_of S P.generators t) type ≡ true) × (have_types (map (type_of S P.generators) ts) types ≡ true) = both _ _ h in
      Thins-append Skips (each.0 type (is_type_some (type_of S P.generators t) type parts.0)) (args_thinned ts types parts.1 each.1)

  thinned : (t : TypeTerm) → IsThinned t
  thinned = on_terms IsThinned
      (λ n type h. Thins-moved Skips (subterms (term.Gen n)) (term.Gen n ∷ []) (made_terms (term.Gen n)) [] (para-Gen (List TypeTerm) subterms_step n) (para-Gen (List TypeTerm) made_step n)
      (skipped (term.Gen n) (on_gen n type (sym (fold-Gen (Option ℕ) (type_step S P.generators) n) ∙ h)) ended))
      (λ c type h. Thins-moved Skips (subterms (term.Const c)) (term.Const c ∷ []) (made_terms (term.Const c)) (term.Const c ∷ []) (para-Const (List TypeTerm) subterms_step c) (para-Const (List TypeTerm) made_step c)
      (kept (term.Const c) ended))
      (λ a t type h. Thins-moved Skips (subterms (term.Att a t)) (term.Att a t ∷ []) (made_terms (term.Att a t)) [] (para-Att (List TypeTerm) subterms_step a t) (para-Att (List TypeTerm) made_step a t)
      (skipped (term.Att a t) (on_att a t type h) ended))
      (λ f ts each type h.
      let f' = applied_type_some (slice_get S.typeside.functions f) (map (type_of S P.generators) ts) type (sym (fold-Fun (Option ℕ) (type_step S P.generators) f ts) ∙ h) in
      let args = args_thinned ts f'.0.args f'.2 each in
      let last : (g : TypeTerm → List TypeTerm) → term.Fun f (map (λ (arg : TypeTerm × List TypeTerm). arg.0) (map (λ t. (t, g t)) ts)) ∷ [] ≡ term.Fun f ts ∷ [] = λ g. ap (λ us. term.Fun f us ∷ []) (map_first g ts) in
      Thins-moved Skips (subterms (term.Fun f ts)) _ (made_terms (term.Fun f ts)) _ (para-Fun (List TypeTerm) subterms_step f ts) (para-Fun (List TypeTerm) made_step f ts)
      (Thins-append Skips args (Thins-moved Skips _ (term.Fun f ts ∷ []) _ (term.Fun f ts ∷ []) (last subterms) (last made_terms) (kept (term.Fun f ts) ended))))

  pub sides_thinned : (sides : List (TypeTerm × TypeTerm)) → ((n : ℕ) (t u : TypeTerm) → slice_get sides n ≡ Some (t, u) → IsTyped S P t × IsTyped S P u)
      → Thins Skips (flat_map pair_subterms sides) (flat_map side_terms sides)
  sides_thinned [] typed = ended
  sides_thinned (p ∷ sides) typed =
      let here : IsTyped S P p.0 × IsTyped S P p.1 = typed 0 p.0 p.1 refl in
      Thins-append Skips (Thins-append Skips (thinned p.0 here.0.0 here.0.1) (thinned p.1 here.1.0 here.1.1)) (sides_thinned sides (λ n t u h. typed (suc n) t u h))

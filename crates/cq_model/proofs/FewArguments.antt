-- An entry of a listed model has at most 1,023 arguments, the most that a term of 1,024 symbols can have.
use Rattle.std.proofs.Common.{ℕ, List, [], ◌∷◌, ◌++◌, Some, None, ◌≡◌, ◌≤◌, ◌+◌, ◌==◌, map, filter, length, sum, refl, sym, ap, subst, ◌∙◌, arith}
use Rattle.std.specs.Prelude.{slice_get, All}
use Rattle.std.specs.List.{flat_map, enumerate_from, filter_map}
use Rattle.std.proofs.lemmas.List.{length-map}
use Rattle.std.proofs.lemmas.List.Sums.{sum_by-cons}
use Rattle.std.proofs.lemmas.Option.{same_Some}
use Rattle.cq_base.specs.declared.name.Name.{Name}
use Rattle.cq_theory.specs.declared.presentation.Presentation.{Presentation}
use Rattle.cq_theory.specs.declared.presentation.Equation.{Equation}
use Rattle.cq_theory.specs.declared.presentation.Equation.TheVariants as equation
use Rattle.cq_theory.specs.declared.presentation.Sort.{Sort}
use Rattle.cq_theory.specs.declared.presentation.Sort.TheVariants.{Plain, Entity}
use Rattle.cq_theory.specs.declared.schema.Edge.{Edge}
use Rattle.cq_theory.specs.declared.schema.ObsEq.{ObsEq}
use Rattle.cq_theory.specs.SchemaData.{SchemaData as Schema}
use Rattle.cq_theory.specs.declared.term.EntTerm.{EntTerm}
use Rattle.cq_theory.specs.declared.term.TypeTerm.{TypeTerm}
use Rattle.cq_theory.specs.declared.constant.Con.{Con}
use Rattle.cq_theory.specs.declared.term.TypeTerm.TheVariants.{Gen, Const, Att, Fun}
use Rattle.cq_theory.specs.declared.term.TypeTerm.TheOpen as layer
use Rattle.cq_theory.specs.declared.term.TypeTerm.TheViews.{out-TypeTerm}
use Rattle.cq_theory.specs.declared.value.Entry.{Entry}
use Rattle.cq_theory.specs.EntTerm as ent
use Rattle.cq_theory.specs.TypeTerm.{symbols_of, symbols_step, substituted, substituted_step}
use Rattle.cq_theory.specs.Schema.{IsSchema}
use Rattle.cq_theory.specs.Presentation.{IsPresentation}
use Rattle.cq_theory.specs.Canonical.{below, edges_from}
use Rattle.cq_theory.specs.Tables.{Tables, Assignment, value_of, is_for}
use Rattle.cq_theory.specs.Listed.{subterms, subterms_step, names_of, cell_nodes, generator_node, equation_nodes, observation_nodes, nodes, node_entry, Lists}
use Rattle.cq_theory.proofs.TypeTerms.{fold-Gen, fold-Const, fold-Att, fold-Fun, para-Gen, para-Const, para-Att, para-Fun, Each, on_terms}
use Rattle.cq_theory.proofs.Every.{Every, Every-append, Every-flat_map, Every-map, Every-filter_map, Every-at, from_filter}
use Rattle.cq_instance.proofs.Lists.{IsIn, All_from}
use Rattle.cq_instance.proofs.TypedTerms.{out-Gen, out-Const, out-Fun}
use Rattle.cq_model.proofs.Variants.{out-Att}
use Rattle.cq_model.proofs.BuiltEntries.{from_firsts, from_filter_map}

-- The symbols of a term bound those of its arguments, and how many they are.

has_symbols : (t : TypeTerm) → 1 ≤ symbols_of t
has_symbols = on_terms (λ t. 1 ≤ symbols_of t)
    (λ n. omega (arith, fold-Gen ℕ symbols_step n))
    (λ c. omega (arith, fold-Const ℕ symbols_step c))
    (λ a t. omega (arith, fold-Att ℕ symbols_step a t))
    (λ f ts each. omega (arith, fold-Fun ℕ symbols_step f ts))

sum_of : (t : TypeTerm) (ts : List TypeTerm) → sum (map symbols_of (t ∷ ts)) ≡ symbols_of t + sum (map symbols_of ts)
sum_of t ts = sum_by-cons (λ n. n) (symbols_of t) (map symbols_of ts)

few_args : (ts : List TypeTerm) → length ts ≤ sum (map symbols_of ts)
few_args [] = omega arith
few_args (t ∷ ts) = omega (arith, has_symbols t, few_args ts, sum_of t ts)

-- an application has at most 1,023 arguments
abbrev pub HasFewArguments : TypeTerm → Type 0
HasFewArguments t = (f : ℕ) (ts : List TypeTerm) → t ≡ Fun f ts → length ts ≤ 1023

no_gen : (n : ℕ) → HasFewArguments (Gen n)
no_gen n f ts h = let layers : layer.Gen n ≡ layer.Fun f ts = sym (out-Gen n) ∙ ap out-TypeTerm h ∙ out-Fun f ts in cc

no_const : (c : Con) → HasFewArguments (Const c)
no_const c f ts h = let layers : layer.Const c ≡ layer.Fun f ts = sym (out-Const c) ∙ ap out-TypeTerm h ∙ out-Fun f ts in cc

no_att : (a : ℕ) (t : EntTerm) → HasFewArguments (Att a t)
no_att a t f ts h = let layers : layer.Att a t ≡ layer.Fun f ts = sym (out-Att a t) ∙ ap out-TypeTerm h ∙ out-Fun f ts in cc

few : (f : ℕ) (ts : List TypeTerm) → length ts ≤ 1023 → HasFewArguments (Fun f ts)
few f ts h g us is =
    let layers : layer.Fun f ts ≡ layer.Fun g us = sym (out-Fun f ts) ∙ ap out-TypeTerm is ∙ out-Fun g us in
    let same : ts ≡ us = cc in
    subst (λ (l : List TypeTerm). length l ≤ 1023) same h

first_of_pairs : (ts : List TypeTerm) → map (λ (arg : TypeTerm × List TypeTerm). arg.0) (map (λ t. (t, subterms t)) ts) ≡ ts
first_of_pairs [] = refl
first_of_pairs (t ∷ ts) = ap (λ l. t ∷ l) (first_of_pairs ts)

second_of_pairs : (ts : List TypeTerm) → flat_map (λ (arg : TypeTerm × List TypeTerm). arg.1) (map (λ t. (t, subterms t)) ts) ≡ flat_map subterms ts
second_of_pairs [] = refl
second_of_pairs (t ∷ ts) = ap (λ l. subterms t ++ l) (second_of_pairs ts)

subterms-Fun : (f : ℕ) (ts : List TypeTerm) → subterms (Fun f ts) ≡ flat_map subterms ts ++ Fun f ts ∷ []
subterms-Fun f ts = para-Fun (List TypeTerm) subterms_step f ts ∙ λ i. second_of_pairs ts i ++ Fun f (first_of_pairs ts i) ∷ []

-- What g makes of a term of at most 1,024 symbols has subterms with few arguments, if g keeps applications.
module _ (g : TypeTerm → TypeTerm) (on_gen : (n : ℕ) → g (Gen n) ≡ Gen n) (on_const : (c : Con) → g (Const c) ≡ Const c)
    (on_att : (a : ℕ) (t : EntTerm) → (u : EntTerm) × (g (Att a t) ≡ Att a u)) (on_fun : (f : ℕ) (ts : List TypeTerm) → g (Fun f ts) ≡ Fun f (map g ts)) where
  abbrev AreFewBelow : TypeTerm → Type 0
  AreFewBelow t = symbols_of t ≤ 1024 → Every HasFewArguments (subterms (g t))

  args_below : (ts : List TypeTerm) → sum (map symbols_of ts) ≤ 1023 → Each AreFewBelow ts → Every HasFewArguments (flat_map subterms (map g ts))
  args_below [] h each = tt
  args_below (t ∷ ts) h each = Every-append HasFewArguments (subterms (g t)) (flat_map subterms (map g ts)) (each.0 (omega (arith, h, sum_of t ts))) (args_below ts (omega (arith, h, sum_of t ts)) each.1)

  few_below : (t : TypeTerm) → AreFewBelow t
  few_below = on_terms AreFewBelow
      (λ n h. subst (Every HasFewArguments) (sym (ap subterms (on_gen n) ∙ para-Gen (List TypeTerm) subterms_step n)) (no_gen n, tt))
      (λ c h. subst (Every HasFewArguments) (sym (ap subterms (on_const c) ∙ para-Const (List TypeTerm) subterms_step c)) (no_const c, tt))
      (λ a t h. subst (Every HasFewArguments) (sym (ap subterms (on_att a t).1 ∙ para-Att (List TypeTerm) subterms_step a (on_att a t).0)) (no_att a (on_att a t).0, tt))
      (λ f ts each h.
      let symbols : symbols_of (Fun f ts) ≡ sum (map symbols_of ts) + 1 = fold-Fun ℕ symbols_step f ts in
      let room : sum (map symbols_of ts) ≤ 1023 = omega (arith, symbols, h) in
      let count : length (map g ts) ≤ 1023 = omega (arith, length-map ts g, few_args ts, room) in
      subst (Every HasFewArguments) (sym (ap subterms (on_fun f ts) ∙ subterms-Fun f (map g ts)))
      (Every-append HasFewArguments (flat_map subterms (map g ts)) (Fun f (map g ts) ∷ []) (args_below ts room each) (few f (map g ts) count, tt)))

unchanged : (ts : List TypeTerm) → map (λ t. t) ts ≡ ts
unchanged [] = refl
unchanged (t ∷ ts) = ap (λ l. t ∷ l) (unchanged ts)

few_in_term : (t : TypeTerm) → symbols_of t ≤ 1024 → Every HasFewArguments (subterms t)
few_in_term = few_below (λ t. t) (λ n. refl) (λ c. refl) (λ a t. (t, refl)) (λ f ts. ap (Fun f) (sym (unchanged ts)))

few_in_substituted : (at : EntTerm) (t : TypeTerm) → symbols_of t ≤ 1024 → Every HasFewArguments (subterms (substituted at t))
few_in_substituted at = few_below (substituted at) (fold-Gen TypeTerm (substituted_step at)) (fold-Const TypeTerm (substituted_step at))
    (λ a t. (ent.extended at t.path, fold-Att TypeTerm (substituted_step at) a t)) (fold-Fun TypeTerm (substituted_step at))

module _ (S : Schema) (P : Presentation) (schema : IsSchema S) (presentation : IsPresentation S P) (names : List (List EntTerm)) where
  few_in_cells : (entity : ℕ) → Every HasFewArguments (cell_nodes S P names entity)
  few_in_cells entity = Every-flat_map HasFewArguments (λ t. map (λ (a : ℕ × Edge). Att a.0 t) (edges_from entity S.attributes)) (names_of S P names entity) (λ row t at.
      Every-map HasFewArguments (λ (a : ℕ × Edge). Att a.0 t) (edges_from entity S.attributes) (λ n a here. no_att a.0 t))

  few_in_generator : (n : ℕ) (name : Name) (sort : Sort) (t : TypeTerm) → generator_node S P names (n, (name, sort)) ≡ Some t → HasFewArguments t
  few_in_generator n name (Plain type) t h = let same : Gen n ≡ t = cc in subst HasFewArguments same (no_gen n)
  few_in_generator n name (Entity entity) t h = cc

  few_in_equation : (n : ℕ) (e : Equation) → slice_get P.equations n ≡ Some e → Every HasFewArguments (equation_nodes S P names e)
  few_in_equation n (equation.Ent t u) at = tt
  few_in_equation n (equation.Typ t u) at =
      let sides = presentation.equations n (equation.Typ t u) at in
      Every-append HasFewArguments (subterms t) (subterms u) (few_in_term t sides.left_fits) (few_in_term u sides.right_fits)

  few_in_observations : (entity : ℕ) → Every HasFewArguments (observation_nodes S P names entity)
  few_in_observations entity =
      let own : EntTerm → List TypeTerm = λ t. flat_map (λ e. subterms (substituted t e.left) ++ subterms (substituted t e.right)) (filter (λ (e : ObsEq). e.entity == entity) S.obs_eqs) in
      Every-flat_map HasFewArguments own (names_of S P names entity) (λ row t at.
      Every-flat_map HasFewArguments (λ e. subterms (substituted t e.left) ++ subterms (substituted t e.right)) (filter (λ (e : ObsEq). e.entity == entity) S.obs_eqs) (λ n e here.
      let kept = from_filter (λ (e : ObsEq). e.entity == entity) S.obs_eqs n e here in
      let sides = schema.obs_eqs kept.0 e kept.1 in
      Every-append HasFewArguments (subterms (substituted t e.left)) (subterms (substituted t e.right))
      (few_in_substituted t e.left sides.left_fits) (few_in_substituted t e.right sides.right_fits)))

  few_in_nodes : Every HasFewArguments (nodes S P names)
  few_in_nodes =
      let cells = flat_map (cell_nodes S P names) (below (length S.entities)) in
      let generators = filter_map (generator_node S P names) (enumerate_from 0 P.generators) in
      let equations = flat_map (equation_nodes S P names) P.equations in
      let observations = flat_map (observation_nodes S P names) (below (length S.entities)) in
      Every-append HasFewArguments ((cells ++ generators) ++ equations) observations
      (Every-append HasFewArguments (cells ++ generators) equations
      (Every-append HasFewArguments cells generators (Every-flat_map HasFewArguments (cell_nodes S P names) (below (length S.entities)) (λ n entity at. few_in_cells entity))
      (Every-filter_map HasFewArguments (generator_node S P names) (enumerate_from 0 P.generators) (λ n g t at h. few_in_generator g.0 g.1.0 g.1.1 t h)))
      (Every-flat_map HasFewArguments (equation_nodes S P names) P.equations few_in_equation))
      (Every-flat_map HasFewArguments (observation_nodes S P names) (below (length S.entities)) (λ n entity at. few_in_observations entity))

module _ (S : Schema) (P : Presentation) (schema : IsSchema S) (presentation : IsPresentation S P) (M : Tables) (A : Assignment) where
  no_entry : (t : TypeTerm) (e : Entry) → node_entry S P M A t ≡ None → node_entry S P M A t ≡ Some e → length e.args ≤ 1023
  no_entry t e none h = cc

  function_entry : (f : ℕ) (ts : List TypeTerm) → node_entry S P M A (Fun f ts) ≡ Some (record { function = f; args = map (value_of M A) ts; value = value_of M A (Fun f ts) })
  function_entry f ts = rw (out-Fun f ts, node_entry)

  -- the entry of a node has as many arguments as the node
  entry_few : (t : TypeTerm) → HasFewArguments t → (e : Entry) → node_entry S P M A t ≡ Some e → length e.args ≤ 1023
  entry_few = on_terms (λ t. HasFewArguments t → (e : Entry) → node_entry S P M A t ≡ Some e → length e.args ≤ 1023)
      (λ n k e h. no_entry (Gen n) e (rw (out-Gen n, node_entry)) h)
      (λ c k e h. no_entry (Const c) e (rw (out-Const c, node_entry)) h)
      (λ a t k e h. no_entry (Att a t) e (rw (out-Att a t, node_entry)) h)
      (λ f ts each k e h.
      let made : Entry = record { function = f; args = map (value_of M A) ts; value = value_of M A (Fun f ts) } in
      let same : made ≡ e = same_Some made e (sym (function_entry f ts) ∙ h) in
      let size : length made.args ≡ length ts = length-map ts (value_of M A) in
      let args : length made.args ≤ 1023 = omega (arith, size, k f ts refl) in
      subst (λ (x : Entry). length x.args ≤ 1023) same args)

  pub entries_few : Lists S P M A → All (λ e. length e.args ≤ 1023) M.algebra.entries
  entries_few lists = All_from (λ e. length e.args ≤ 1023) M.algebra.entries (λ n e at.
      let there = subst (λ (l : List Entry). IsIn e l) (sym lists.entries) (record { place = n; is = at }) in
      let kept = from_firsts (λ e. is_for e.function e.args) (filter_map (node_entry S P M A) (nodes S P lists.names)) e there in
      let node = from_filter_map (node_entry S P M A) e (nodes S P lists.names) kept in
      entry_few node.0 (Every-at HasFewArguments (nodes S P lists.names) node.1.place node.0 (few_in_nodes S P schema presentation lists.names) node.1.is) e node.2)

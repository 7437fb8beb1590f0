-- What cells and generators teach of the terms of nulls.
use Rattle.std.proofs.Common.{ℕ, zero, suc, Bool, true, false, List, [], ◌∷◌, ◌++◌, Option, Some, ◌≡◌, ◌<◌, ◌+◌, ◌==◌, map, take, length, get_or, refl, sym, ap, ◌∙◌, arith}
use Rattle.std.specs.Prelude.{slice_get, slice_index_or, if◌then◌else◌}
use Rattle.std.specs.List.{flat_map, filter_map, enumerate_from}
use Rattle.std.proofs.lemmas.Bool.{eqb-true}
use Rattle.std.proofs.lemmas.List.Elements.{filter_map-append}
use Rattle.std.proofs.lemmas.List.Folds.{flat_map-map}
use Rattle.std.proofs.lemmas.List.FromFn.{fill_by_all, length-map-range_with_len}
use Rattle.std.proofs.lemmas.Option.{slice_get-get_or}
use Rattle.cq_base.specs.declared.name.Name.{Name}
use Rattle.cq_theory.specs.declared.presentation.Sort.{Sort}
use Rattle.cq_theory.specs.declared.presentation.Sort.TheVariants.{Plain, Entity}
use Rattle.cq_theory.specs.declared.schema.Edge.{Edge}
use Rattle.cq_theory.specs.declared.term.EntTerm.{EntTerm}
use Rattle.cq_theory.specs.declared.term.TypeTerm.{TypeTerm}
use Rattle.cq_theory.specs.declared.term.TypeTerm.TheVariants.{Gen, Att}
use Rattle.cq_theory.specs.declared.value.Value.{Value}
use Rattle.cq_theory.specs.Canonical.{below, edges_from}
use Rattle.cq_theory.specs.declared.groups.Groups.{Groups}
use Rattle.cq_theory.specs.Groups.{positions_from, positions, edge_sources, AreGroups}
use Rattle.cq_theory.specs.Listed.{generator_node}
use Rattle.cq_theory.specs.Tables.{Meaning, AtRow, cell_at, count_of, row_of, value_in, value_step}
use Rattle.cq_theory.proofs.Every.{at_range}
use Rattle.cq_theory.proofs.TypeTerms.{fold-Gen, fold-Att}
use Rattle.cq_instance.specs.InstanceData.{InstanceData, IsInstance, names_at, name_at}
use Rattle.cq_instance.specs.Learning.{learned, learned_from}
use Rattle.cq_instance.proofs.EdgeNumbers.{edge_numbers}
use Rattle.cq_instance.proofs.Enumerated.{numbered_more}
use Rattle.cq_instance.proofs.Learnt.{learned_then}
use Rattle.cq_instance.proofs.Lists.{get-map, get-map_from}

-- where a number stands that is s with the places before it
record IsAt (s n e : ℕ) (xs : List ℕ) : Type 0 where
  place : ℕ
  is : n ≡ s + place
  at : slice_get xs place ≡ Some e

at_or_later : (s n e x : ℕ) (xs rest : List ℕ) (b : Bool) (j : ℕ) → (x == e) ≡ b → slice_get (if b then s ∷ rest else rest) j ≡ Some n
    → ((k : ℕ) → slice_get rest k ≡ Some n → IsAt (s + 1) n e xs) → IsAt s n e (x ∷ xs)
at_or_later s n e x xs rest true zero same h later = let first : s ≡ n = cc in record { place = 0; is = omega (arith, first); at = ap (λ y. Some y) (eqb-true x e same) }
at_or_later s n e x xs rest true (suc j) same h later = let found = later j h in record { place = suc found.place; is = omega (arith, found.is); at = found.at }
at_or_later s n e x xs rest false j same h later = let found = later j h in record { place = suc found.place; is = omega (arith, found.is); at = found.at }

at_positions_from : (s : ℕ) (xs : List ℕ) (e k n : ℕ) → slice_get (positions_from s xs e) k ≡ Some n → IsAt s n e xs
at_positions_from s [] e k n h = cc
at_positions_from s (x ∷ xs) e k n h = at_or_later s n e x xs (positions_from (s + 1) xs e) (x == e) k refl h (λ j at. at_positions_from (s + 1) xs e j n at)

-- at each of its positions a number stands
pub at_positions : (xs : List ℕ) (e k n : ℕ) → slice_get (positions xs e) k ≡ Some n → slice_get xs n ≡ Some e
at_positions xs e k n h =
    let found = at_positions_from 0 xs e k n h in
    let here : n ≡ found.place = omega (arith, found.is) in
    ap (slice_get xs) here ∙ found.at

-- a group for each owner, and in it the owner's positions
pub group_count : (owners : List ℕ) (count : ℕ) (made : Groups) → AreGroups owners count made → length made.groups ≡ count
group_count owners count made are = ap length are.each_group ∙ length-map-range_with_len (positions owners) 0 count

pub group_found : (owners : List ℕ) (count : ℕ) (made : Groups) (e : ℕ) (found : List ℕ) → AreGroups owners count made → e < count → slice_get made.groups e ≡ Some found → found ≡ positions owners e
group_found owners count made e found are within at =
    let first : 0 + e ≡ e = omega arith in
    let here : slice_get made.groups e ≡ Some (positions owners e) =
    ap (λ l. slice_get l e) are.each_group ∙ get-map (positions owners) (below count) e e (at_range 0 count e within ∙ ap (λ n. Some n) first) in
    let both : Some found ≡ Some (positions owners e) = sym at ∙ here in
    cc

-- the edge with one of the numbers of an entity's edges
pub edge_at : (edges : List Edge) (e : ℕ) (numbers : List ℕ) (k : ℕ) → numbers ≡ positions (edge_sources edges) e → k < length numbers
    → (edge : Edge) × (slice_get edges (get_or numbers k 0) ≡ Some edge) × (edge.from ≡ e)
edge_at edges e numbers k are within =
    get-map_from (λ (edge : Edge). edge.from) edges (get_or numbers k 0) e
    (at_positions (edge_sources edges) e k (get_or numbers k 0) (ap (λ l. slice_get l k) (sym are) ∙ slice_get-get_or numbers k 0 within))

module _ (i : InstanceData) where
  -- a cell of a row with this name
  pub cell_learned : (a row : ℕ) (name : EntTerm) (v : Value) (known next : List (Option TypeTerm)) → row_of i.tables i.assignment name ≡ row → v ≡ cell_at i.tables a row
      → next ≡ learned v (Att a name) known → next ≡ learned_from i known (Att a name ∷ [])
  cell_learned a row name v known next named value is =
      is ∙ ap (λ w. learned w (Att a name) known) (value ∙ ap (cell_at i.tables a) (sym named) ∙ sym (fold-Att Value (value_step i.tables i.assignment) a name))

  each_alone : {X : Type 0} (f : ℕ → TypeTerm) (g : X → ℕ) (xs : List X) → flat_map (λ n. f n ∷ []) (map g xs) ≡ map (λ x. f (g x)) xs
  each_alone f g [] = refl
  each_alone f g (x ∷ xs) = ap (λ l. f (g x) ∷ l) (each_alone f g xs)

  -- the numbers of an entity's attributes give the cells of a row
  pub row_nodes : (e : ℕ) (name : EntTerm) (numbers : List ℕ) → numbers ≡ positions (edge_sources i.schema.attributes) e
      → flat_map (λ n. Att n name ∷ []) numbers ≡ map (λ (a : ℕ × Edge). Att a.0 name) (edges_from e i.schema.attributes)
  row_nodes e name numbers are =
      ap (flat_map (λ n. Att n name ∷ [])) (are ∙ sym (edge_numbers 0 i.schema.attributes e))
      ∙ each_alone (λ n. Att n name) (λ (a : ℕ × Edge). a.0) (edges_from e i.schema.attributes)

  -- what is read of each name of an entity is read row by row
  pub row_by_row : IsInstance i → (e : ℕ) (f : EntTerm → List TypeTerm) → flat_map f (names_at i.names e) ≡ flat_map (λ row. f (name_at i.names e row)) (below (count_of i.tables e))
  row_by_row is e f =
      let names : names_at i.names e ≡ map (name_at i.names e) (below (count_of i.tables e)) =
      fill_by_all (name_at i.names e) (names_at i.names e) (count_of i.tables e) (record { generator = 0; path = [] }) (is.counted e) (λ k within. refl) in
      ap (flat_map f) names ∙ flat_map-map f (name_at i.names e) (below (count_of i.tables e))

  abbrev node : ℕ × (Name × Sort) → Option TypeTerm
  node = generator_node i.schema i.presentation i.names

  module _ (n : ℕ) (g : Name × Sort) (start now next : List (Option TypeTerm)) (within : n < length i.presentation.generators) (is : g ≡ get_or i.presentation.generators n g)
      (before : now ≡ learned_from i start (filter_map node (enumerate_from 0 (take n i.presentation.generators)))) where
    generator_more : (ts : List TypeTerm) → filter_map node ((n, g) ∷ []) ≡ ts → next ≡ learned_from i now ts → next ≡ learned_from i start (filter_map node (enumerate_from 0 (take (n + 1) i.presentation.generators)))
    generator_more ts are here =
        let last : filter_map node (enumerate_from 0 (take (n + 1) i.presentation.generators)) ≡ filter_map node (enumerate_from 0 (take n i.presentation.generators)) ++ ts =
        ap (filter_map node) (numbered_more i.presentation.generators n g within ∙ ap (λ (x : Name × Sort). enumerate_from 0 (take n i.presentation.generators) ++ (n, x) ∷ []) (sym is))
        ∙ filter_map-append node (enumerate_from 0 (take n i.presentation.generators)) ((n, g) ∷ [])
        ∙ ap (λ l. filter_map node (enumerate_from 0 (take n i.presentation.generators)) ++ l) are in
        learned_then i start now next (filter_map node (enumerate_from 0 (take n i.presentation.generators))) ts before here ∙ ap (learned_from i start) (sym last)

    -- a generator of an entity is no node
    pub entity_learned : (entity : ℕ) → g.1 ≡ Entity entity → next ≡ now → next ≡ learned_from i start (filter_map node (enumerate_from 0 (take (n + 1) i.presentation.generators)))
    entity_learned entity sort same = generator_more [] (ap (λ (s : Sort). filter_map node ((n, (g.0, s)) ∷ [])) sort) same

    -- a generator of a type means what it stands for
    pub type_learned : (type : ℕ) (m : Meaning) → g.1 ≡ Plain type → m ≡ slice_index_or i.assignment n (AtRow 0) → next ≡ learned (value_in m) (Gen n) now
        → next ≡ learned_from i start (filter_map node (enumerate_from 0 (take (n + 1) i.presentation.generators)))
    type_learned type m sort stands here = generator_more (Gen n ∷ []) (ap (λ (s : Sort). filter_map node ((n, (g.0, s)) ∷ [])) sort)
        (here ∙ ap (λ w. learned w (Gen n) now) (ap value_in stands ∙ sym (fold-Gen Value (value_step i.tables i.assignment) n)))

-- The tables are the initial model of their canonical presentation: each term is derivably equal to the term of what it means.
use Rattle.std.proofs.Common.{ℕ, true, List, [], ◌∷◌, Option, Some, None, ◌≡◌, ◌<◌, ◌+◌, ◌==◌, inl, inr, map, length, refl, sym, ap, subst, ◌∙◌, arith}
use Rattle.std.specs.Prelude.{slice_get, slice_index, slice_index_or, option_map, option_and_then, find}
use Rattle.std.specs.List.{flat_map, enumerate_from}
use Rattle.std.proofs.lemmas.Bool.{and_parts, eq-eqb, cases_lt}
use Rattle.std.proofs.lemmas.List.{get_or_past, append-nil}
use Rattle.std.proofs.lemmas.Option.{option_and_then_some, slice_get-get_or}
use Rattle.cq_theory.specs.declared.constant.Con.{Con}
use Rattle.cq_theory.specs.declared.presentation.Equation.{Equation}
use Rattle.cq_theory.specs.declared.presentation.Presentation.{Presentation}
use Rattle.cq_theory.specs.declared.presentation.Sort.{Sort}
use Rattle.cq_theory.specs.declared.presentation.Sort.TheVariants.{Plain, Entity}
use Rattle.cq_theory.specs.declared.schema.Edge.{Edge}
use Rattle.cq_theory.specs.SchemaData.{SchemaData as Schema}
use Rattle.cq_theory.specs.declared.term.EntTerm.{EntTerm}
use Rattle.cq_theory.specs.declared.term.Term.{Term}
use Rattle.cq_theory.specs.declared.term.Term.TheVariants.{Ent, Typ}
use Rattle.cq_theory.specs.declared.term.TypeTerm.{TypeTerm}
use Rattle.cq_theory.specs.declared.term.TypeTerm.TheVariants as term
use Rattle.cq_theory.specs.declared.value.Value.{Value}
use Rattle.cq_theory.specs.declared.value.Value.TheVariants as value
use Rattle.cq_theory.specs.declared.value.Entry.{Entry}
use Rattle.cq_theory.specs.EntTerm.{extended}
use Rattle.cq_theory.specs.Sorts.{Generators, followed, target_of, entity_at, entity_of, is_type, have_types, type_of, type_step, sort_of}
use Rattle.cq_theory.specs.Schema.{IsSchema}
use Rattle.cq_theory.specs.Derivation.{given, left_of, right_of, Derives, EachDerives}
use Rattle.cq_theory.specs.Tables.{Tables, AtRow, AtValue, Assignment, row_in, value_in, count_of, key_at, cell_at, row_from, row_of, value_of, value_step, meaning_of, is_for, entry_or_built, applied, IsWellFormed, Satisfies, Initial}
use Rattle.cq_theory.specs.Canonical.{below, edges_from, row_generator, null_generator, row_term, value_term, value_term_step, cell_equation, key_equation, row_equations, entity_equations, entry_equation, canonical, canonical_assignment}
use Rattle.cq_theory.proofs.Every.{Every, Every-at, Every-from, Every-parts, Every-in_flat_map, Every-unmap, Every-in_filter, enumerated, at_range}
use Rattle.cq_theory.proofs.Closings.{entity_of-extended, extended-cons}
use Rattle.cq_theory.proofs.Derivations.{Derives-reflexive, Derives-symmetric, Derives-transitive, Derives-key, Derives-attribute, Derives-function}
use Rattle.cq_theory.proofs.OnValues.{entry_for, found_passes}
use Rattle.cq_theory.proofs.Sound.{followed_some, is_type_some, applied_type_some, meaning_of-derived}
use Rattle.cq_theory.proofs.TypeTerms.{fold-Gen, fold-Const, fold-Att, fold-Fun, Each, on_terms}
use Rattle.cq_theory.proofs.Values as values
use Rattle.cq_instance.proofs.CanonicalGenerators as generators
use Rattle.cq_instance.proofs.CanonicalHolds as model

module _ (S : Schema) (M : Tables) (schema : IsSchema S) (well : IsWellFormed S M) where
  abbrev same : length M.sheet.counts ≡ length S.entities
  same = well.entities

  abbrev P : Presentation
  P = canonical S M

  abbrev G : Generators
  G = P.generators

  abbrev A : Assignment
  A = canonical_assignment S M

  abbrev IsDerived : Equation → Type 0
  IsDerived e = Derives S P (left_of e) (right_of e)

  -- an equation of the presentation is derivable
  all_derived : Every IsDerived P.equations
  all_derived = Every-from IsDerived P.equations (λ n e at. (given n, (e, at, refl, refl, tt, tt)))

  below_at : (n k : ℕ) → k < n → slice_get (below n) k ≡ Some k
  below_at n k h = let here : 0 + k ≡ k = omega arith in at_range 0 n k h ∙ ap (λ m. Some m) here

  enumerated_at : (edges : List Edge) (k : ℕ) (edge : Edge) → slice_get edges k ≡ Some edge → slice_get (enumerate_from 0 edges) k ≡ Some (k, edge)
  enumerated_at edges k edge h = let here : 0 + k ≡ k = omega arith in enumerated 0 edges k edge h ∙ ap (λ m. Some (m, edge)) here

  row_derived : (e row : ℕ) → e < length S.entities → row < count_of M e → Every IsDerived (row_equations S M e row)
  row_derived e row within inside =
      let of_rows = (Every-parts IsDerived (flat_map (entity_equations S M) (below (length S.entities))) (map (entry_equation S M) M.algebra.entries) all_derived).0 in
      let of_entity = Every-in_flat_map IsDerived (entity_equations S M) (below (length S.entities)) e e of_rows (below_at (length S.entities) e within) in
      Every-in_flat_map IsDerived (row_equations S M e) (below (count_of M e)) row row of_entity (below_at (count_of M e) row inside)

  cell_derived : (e row a : ℕ) (edge : Edge) → e < length S.entities → row < count_of M e → slice_get S.attributes a ≡ Some edge → edge.from ≡ e
      → Derives S P (Typ (term.Att a (row_term S M e row))) (Typ (value_term S M (cell_at M a row)))
  cell_derived e row a edge within inside at from =
      let cells = (Every-parts IsDerived (map (cell_equation S M e row) (edges_from e S.attributes)) (map (key_equation S M e row) (edges_from e S.keys)) (row_derived e row within inside)).0 in
      Every-in_filter (λ (p : ℕ × Edge). IsDerived (cell_equation S M e row p)) (λ (p : ℕ × Edge). p.1.from == e) (enumerate_from 0 S.attributes) a (a, edge)
      (Every-unmap IsDerived (cell_equation S M e row) (edges_from e S.attributes) cells) (enumerated_at S.attributes a edge at) (eq-eqb edge.from e from)

  key_derived : (e row k : ℕ) (edge : Edge) → e < length S.entities → row < count_of M e → slice_get S.keys k ≡ Some edge → edge.from ≡ e
      → Derives S P (Ent (record { generator = row_generator S M e row; path = k ∷ [] })) (Ent (row_term S M edge.to (key_at M k row)))
  key_derived e row k edge within inside at from =
      let keys = (Every-parts IsDerived (map (cell_equation S M e row) (edges_from e S.attributes)) (map (key_equation S M e row) (edges_from e S.keys)) (row_derived e row within inside)).1 in
      Every-in_filter (λ (p : ℕ × Edge). IsDerived (key_equation S M e row p)) (λ (p : ℕ × Edge). p.1.from == e) (enumerate_from 0 S.keys) k (k, edge)
      (Every-unmap IsDerived (key_equation S M e row) (edges_from e S.keys) keys) (enumerated_at S.keys k edge at) (eq-eqb edge.from e from)

  entry_derived : (n : ℕ) (entry : Entry) → slice_get M.algebra.entries n ≡ Some entry
      → Derives S P (Typ (term.Fun entry.function (map (value_term S M) entry.args))) (Typ (value_term S M entry.value))
  entry_derived n entry at =
      let entries = (Every-parts IsDerived (flat_map (entity_equations S M) (below (length S.entities))) (map (entry_equation S M) M.algebra.entries) all_derived).1 in
      Every-at (λ (e : Entry). IsDerived (entry_equation S M e)) M.algebra.entries n entry (Every-unmap IsDerived (entry_equation S M) M.algebra.entries entries) at

  -- Entity terms.

  -- t is derivably equal to the generator of a row
  pub record IsNamed (t : EntTerm) (e row : ℕ) : Type 0 where
    pub sorted : entity_of S G t ≡ Some e
    pub within : e < length S.entities
    pub inside : row < count_of M e
    pub derived : Derives S P (Ent t) (Ent (row_term S M e row))

  one_key : (t : EntTerm) (e row k middle : ℕ) → IsNamed t e row → followed (slice_get S.keys k) e ≡ Some middle → IsNamed (extended t (k ∷ [])) middle (key_at M k row)
  one_key t e row k middle named led =
      let edge = followed_some (slice_get S.keys k) e middle led in
      let key = model.key_is S M schema well e row k edge.0 named.inside edge.1 edge.2 in
      let sorted : entity_of S G (extended t (k ∷ [])) ≡ Some middle =
      entity_of-extended S P t (k ∷ []) ∙ ap (option_and_then (target_of S.keys (k ∷ []))) named.sorted ∙ ap (option_and_then (target_of S.keys [])) led in
      let followed : Derives S P (Ent (extended t (k ∷ []))) (Ent (record { generator = row_generator S M e row; path = k ∷ [] })) =
      Derives-key S P k t (row_term S M e row) named.derived (Entity middle, ap (option_map Entity) sorted) in
      let stepped : Derives S P (Ent (record { generator = row_generator S M e row; path = k ∷ [] })) (Ent (row_term S M middle (key_at M k row))) =
      subst (λ n. Derives S P (Ent (record { generator = row_generator S M e row; path = k ∷ [] })) (Ent (row_term S M n (key_at M k row)))) edge.3
      (key_derived e row k edge.0 named.within named.inside edge.1 edge.2) in
      record {
        sorted = sorted;
        within = subst (λ n. n < length S.entities) edge.3 key.within;
        inside = subst (λ n. key_at M k row < count_of M n) edge.3 key.inside;
        derived = Derives-transitive S P (Ent (extended t (k ∷ []))) (Ent (record { generator = row_generator S M e row; path = k ∷ [] })) (Ent (row_term S M middle (key_at M k row))) followed stepped;
      }

  extended-nil : (t : EntTerm) → extended t [] ≡ t
  extended-nil t = ap (λ p. extended (record { generator = t.generator; path = [] }) p) (append-nil t.path)

  along : (path : List ℕ) (t : EntTerm) (e target row : ℕ) → IsNamed t e row → target_of S.keys path e ≡ Some target → IsNamed (extended t path) target (row_from M row path)
  along [] t e target row named led =
      let one : e ≡ target = cc in
      subst (λ u. IsNamed u target row) (sym (extended-nil t)) (subst (λ n. IsNamed t n row) one named)
  along (k ∷ path) t e target row named led = option_and_then_some (target_of S.keys path) (followed (slice_get S.keys k) e) target led (λ middle first rest.
      subst (λ u. IsNamed u target (row_from M (key_at M k row) path)) (extended-cons S P t k path)
      (along path (extended t (k ∷ [])) middle target (key_at M k row) (one_key t e row k middle named first) rest))

  row_named : (e row : ℕ) → e < length S.entities → row < count_of M e → IsNamed (row_term S M e row) e row
  row_named e row within inside =
      let sorted = generators.row_term_entity S M same e row within inside in
      record { sorted = sorted; within = within; inside = inside; derived = Derives-reflexive S P (Ent (row_term S M e row)) (Entity e, ap (option_map Entity) sorted) }

  -- each entity term is derivably equal to the generator of its row
  pub ent_named : (t : EntTerm) (e : ℕ) → entity_of S G t ≡ Some e → IsNamed t e (row_of M A t)
  ent_named t e h = option_and_then_some (target_of S.keys t.path) (entity_at (slice_get G t.generator)) e h (λ start first rest.
      let at = generators.from_entity S M same t.generator start first in
      let begins : row_in (slice_index_or A t.generator (AtRow 0)) ≡ at.0 = ap (λ n. row_in (slice_index_or A n (AtRow 0))) at.3 ∙ ap row_in (generators.row_stands S M same start at.0 at.1 at.2) in
      let is : extended (row_term S M start at.0) t.path ≡ t = ap (λ n. extended (record { generator = n; path = [] }) t.path) (sym at.3) in
      subst (λ row. IsNamed t e (row_from M row t.path)) (sym begins)
      (subst (λ u. IsNamed u e (row_from M at.0 t.path)) is (along t.path (row_term S M start at.0) start e at.0 (row_named start at.0 at.1 at.2) rest)))

  -- Type terms.

  abbrev as_term : Value → TypeTerm
  as_term = value_term S M

  -- t is derivably equal to the term of its value
  abbrev IsValued : TypeTerm → Type 0
  IsValued t = (type : ℕ) → type_of S G t ≡ Some type → Derives S P (Typ t) (Typ (as_term (value_of M A t)))

  derives_same : (t u v : TypeTerm) → Derives S P (Typ t) (Typ u) → u ≡ v → Derives S P (Typ t) (Typ v)
  derives_same t u v d e = subst (λ w. Derives S P (Typ t) (Typ w)) e d

  reflexive : (t : TypeTerm) (type : ℕ) → type_of S G t ≡ Some type → Derives S P (Typ t) (Typ t)
  reflexive t type h = Derives-reflexive S P (Typ t) (Plain type, ap (option_map Plain) h)

  gen_valued : (n : ℕ) → IsValued (term.Gen n)
  gen_valued n type h =
      let at = generators.from_type S M same n type (sym (fold-Gen (Option ℕ) (type_step S G) n) ∙ h) in
      let means : value_of M A (term.Gen n) ≡ value.Null at.0 =
      fold-Gen Value (value_step M A) n ∙ ap (λ m. value_in (slice_index_or A m (AtRow 0))) at.2 ∙ ap value_in (generators.null_stands S M same at.0 at.1) in
      let is : term.Gen n ≡ as_term (value_of M A (term.Gen n)) = ap term.Gen at.2 ∙ sym (ap as_term means ∙ values.fold-Null TypeTerm (value_term_step S M) at.0) in
      derives_same (term.Gen n) (term.Gen n) (as_term (value_of M A (term.Gen n))) (reflexive (term.Gen n) type h) is

  const_valued : (c : Con) → IsValued (term.Const c)
  const_valued c type h =
      let is : term.Const c ≡ as_term (value_of M A (term.Const c)) = sym (ap as_term (fold-Const Value (value_step M A) c) ∙ values.fold-Const TypeTerm (value_term_step S M) c) in
      derives_same (term.Const c) (term.Const c) (as_term (value_of M A (term.Const c))) (reflexive (term.Const c) type h) is

  att_valued : (a : ℕ) (t : EntTerm) → IsValued (term.Att a t)
  att_valued a t type h = option_and_then_some (followed (slice_get S.attributes a)) (entity_of S G t) type (sym (fold-Att (Option ℕ) (type_step S G) a t) ∙ h) (λ e led last.
      let edge = followed_some (slice_get S.attributes a) e type last in
      let named = ent_named t e led in
      let row : ℕ = row_of M A t in
      let moved : Derives S P (Typ (term.Att a t)) (Typ (term.Att a (row_term S M e row))) =
      Derives-attribute S P a t (row_term S M e row) named.derived (Plain type, ap (option_map Plain) h) in
      let read = cell_derived e row a edge.0 named.within named.inside edge.1 edge.2 in
      derives_same (term.Att a t) (as_term (cell_at M a row)) (as_term (value_of M A (term.Att a t)))
      (Derives-transitive S P (Typ (term.Att a t)) (Typ (term.Att a (row_term S M e row))) (Typ (as_term (cell_at M a row))) moved read)
      (ap as_term (sym (fold-Att Value (value_step M A) a t))))

  args_valued : (ts : List TypeTerm) (types : List ℕ) → have_types (map (type_of S G) ts) types ≡ true → Each IsValued ts → EachDerives S P ts (map as_term (map (value_of M A) ts))
  args_valued [] types h each = tt
  args_valued (t ∷ ts) [] h each = cc
  args_valued (t ∷ ts) (type ∷ types) h each =
      let parts = and_parts (is_type (type_of S G t) type) (have_types (map (type_of S G) ts) types) h in
      (each.0 type (is_type_some (type_of S G t) type parts.0), args_valued ts types parts.1 each.1)

  -- a function at terms of values is derivably equal to the term of the value that it gives
  apply_derived : (f : ℕ) (vs : List Value) (t : TypeTerm) → Derives S P (Typ t) (Typ (term.Fun f (map as_term vs))) → Derives S P (Typ t) (Typ (as_term (applied M f vs)))
  apply_derived f vs t d = at_entry (find (is_for f vs) M.algebra.entries) refl
    where
      at_entry : (o : Option Entry) → find (is_for f vs) M.algebra.entries ≡ o → Derives S P (Typ t) (Typ (as_term (entry_or_built o f vs)))
      at_entry None e = derives_same t (term.Fun f (map as_term vs)) (as_term (value.Fun f vs)) d (sym (values.fold-Fun TypeTerm (value_term_step S M) f vs))
      at_entry (Some entry) e =
          let stands = found_passes (is_for f vs) M.algebra.entries entry e in
          let for_it = entry_for f vs entry stands.2 in
          let is : term.Fun f (map as_term vs) ≡ term.Fun entry.function (map as_term entry.args) = λ i. term.Fun (sym for_it.0 i) (map as_term (for_it.1 i)) in
          Derives-transitive S P (Typ t) (Typ (term.Fun entry.function (map as_term entry.args))) (Typ (as_term entry.value))
          (derives_same t (term.Fun f (map as_term vs)) (term.Fun entry.function (map as_term entry.args)) d is) (entry_derived stands.0 entry stands.1)

  fun_valued : (f : ℕ) (ts : List TypeTerm) → Each IsValued ts → IsValued (term.Fun f ts)
  fun_valued f ts each type h =
      let parts = applied_type_some (slice_get S.typeside.functions f) (map (type_of S G) ts) type (sym (fold-Fun (Option ℕ) (type_step S G) f ts) ∙ h) in
      let args = Derives-function S P f ts (map as_term (map (value_of M A) ts)) (args_valued ts parts.0.args parts.2 each) (Plain type, ap (option_map Plain) h) in
      derives_same (term.Fun f ts) (as_term (applied M f (map (value_of M A) ts))) (as_term (value_of M A (term.Fun f ts)))
      (apply_derived f (map (value_of M A) ts) (term.Fun f ts) args) (ap as_term (sym (fold-Fun Value (value_step M A) f ts)))

  -- each type term is derivably equal to the term of its value
  pub typ_valued : (t : TypeTerm) → IsValued t
  typ_valued = on_terms IsValued gen_valued const_valued att_valued fun_valued

  -- Terms of one meaning.

  same_row : (r s : ℕ) → AtRow r ≡ AtRow s → r ≡ s
  same_row r s h = cc

  same_value : (v w : Value) → AtValue v ≡ AtValue w → v ≡ w
  same_value v w h = cc

  entity_sort : (o : Option ℕ) (sort : Sort) → option_map Entity o ≡ Some sort → (e : ℕ) × (o ≡ Some e) × (sort ≡ Entity e)
  entity_sort None sort h = cc
  entity_sort (Some e) sort h = let is : sort ≡ Entity e = cc in (e, refl, is)

  plain_sort : (o : Option ℕ) (sort : Sort) → option_map Plain o ≡ Some sort → (type : ℕ) × (o ≡ Some type) × (sort ≡ Plain type)
  plain_sort None sort h = cc
  plain_sort (Some type) sort h = let is : sort ≡ Plain type = cc in (type, refl, is)

  complete : (t u : Term) (sort : Sort) → sort_of S G t ≡ Some sort → sort_of S G u ≡ Some sort → meaning_of M A t ≡ meaning_of M A u → Derives S P t u
  complete (Ent t) (Ent u) sort left right one =
      let of_left = entity_sort (entity_of S G t) sort left in
      let of_right = entity_sort (entity_of S G u) sort right in
      let both : Entity of_right.0 ≡ Entity of_left.0 = sym of_right.2 ∙ of_left.2 in
      let entity : of_right.0 ≡ of_left.0 = cc in
      let row : row_of M A u ≡ row_of M A t = sym (same_row (row_of M A t) (row_of M A u) one) in
      let there : Derives S P (Ent u) (Ent (row_term S M of_left.0 (row_of M A t))) =
      subst (λ (x : ℕ × ℕ). Derives S P (Ent u) (Ent (row_term S M x.0 x.1))) (λ i. (entity i, row i)) (ent_named u of_right.0 of_right.1).derived in
      Derives-transitive S P (Ent t) (Ent (row_term S M of_left.0 (row_of M A t))) (Ent u) (ent_named t of_left.0 of_left.1).derived
      (Derives-symmetric S P (Ent u) (Ent (row_term S M of_left.0 (row_of M A t))) there)
  complete (Typ t) (Typ u) sort left right one =
      let of_left = plain_sort (type_of S G t) sort left in
      let of_right = plain_sort (type_of S G u) sort right in
      let values_are : value_of M A u ≡ value_of M A t = sym (same_value (value_of M A t) (value_of M A u) one) in
      let there = derives_same u (as_term (value_of M A u)) (as_term (value_of M A t)) (typ_valued u of_right.0 of_right.1) (ap as_term values_are) in
      Derives-transitive S P (Typ t) (Typ (as_term (value_of M A t))) (Typ u) (typ_valued t of_left.0 of_left.1)
      (Derives-symmetric S P (Typ u) (Typ (as_term (value_of M A t))) there)
  complete (Ent t) (Typ u) sort left right one = cc
  complete (Typ t) (Ent u) sort left right one = cc

  -- Rows and nulls have names.

  pub count_within : (e row : ℕ) → row < count_of M e → e < length S.entities
  count_within e row inside = elim (cases_lt e (length S.entities)) [
    | inl within ↦ within
    | inr past ↦ let none : count_of M e ≡ 0 = get_or_past M.sheet.counts e 0 (omega (arith, past, same)) in absurd (omega (arith, none, inside))
  ]

  pub initial : Satisfies S M → Initial S P M A
  initial satisfies =
      let holds = model.holds S M schema well satisfies in
      record {
        holds = holds;
        rows = λ e row inside.
            let within = count_within e row inside in
            (row_term S M e row, generators.row_term_entity S M same e row within inside, generators.row_term_row S M same e row within inside);
        nulls = λ n within.
            let type : ℕ = slice_index M.algebra.nulls n in
            let typed : type_of S G (term.Gen (null_generator S M n)) ≡ Some type =
            fold-Gen (Option ℕ) (type_step S G) (null_generator S M n) ∙ generators.null_type S M same n ∙ slice_get-get_or M.algebra.nulls n 0 within in
            let means : value_of M A (term.Gen (null_generator S M n)) ≡ value.Null n =
            fold-Gen Value (value_step M A) (null_generator S M n) ∙ ap value_in (generators.null_stands S M same n within) in
            (term.Gen (null_generator S M n), Plain type, ap (option_map Plain) typed, means);
        equal = λ t u sort left right. (complete t u sort left right, meaning_of-derived S P M A schema holds t u);
      }

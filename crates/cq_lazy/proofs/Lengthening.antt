-- The lengths of a composite: those of the second query, with the first's for what it asks.
use Rattle.std.proofs.Common.{ℕ, zero, suc, List, [], ◌∷◌, ◌++◌, Option, Some, None, ◌≡◌, ◌<◌, ◌≤◌, ◌+◌, ◌*◌, map, sum, length, get_or, refl, sym, ap, subst, ◌∙◌, arith, length-append}
use Rattle.std.specs.Prelude.{slice_get, All, IfSome, option_and_then}
use Rattle.std.specs.List.{flat_map, enumerate_from, range_with_len}
use Rattle.std.proofs.Math.Nat.{mul-le-mul_left}
use Rattle.std.proofs.lemmas.List.Sums.{sum_by-cons}
use Rattle.std.proofs.lemmas.Option.{slice_get_read}
use Rattle.cq_base.specs.declared.name.Name.{Name}
use Rattle.cq_theory.specs.declared.presentation.Equation.{Equation}
use Rattle.cq_theory.specs.declared.presentation.Equation.TheVariants as equation
use Rattle.cq_theory.specs.declared.constant.Con.TheVariants.{Named}
use Rattle.cq_theory.specs.declared.schema.Edge.{Edge}
use Rattle.cq_theory.specs.declared.term.EntTerm.{EntTerm}
use Rattle.cq_theory.specs.declared.term.TypeTerm.{TypeTerm}
use Rattle.cq_theory.specs.declared.term.TypeTerm.TheVariants as term
use Rattle.cq_theory.specs.EntTerm.{alone}
use Rattle.cq_theory.specs.Groups.{places, edge_sources}
use Rattle.cq_theory.proofs.Every.{Every, Every-from_All, Every-at, Every-append, Every-flat_map, Every-map, Every-weaker, from_enumerated}
use Rattle.cq_theory.proofs.TypeTerms.{fold-Gen, fold-Const, fold-Att, fold-Fun, Each, on_terms}
use Rattle.cq_blocks.specs.declared.block.Block.{Block}
use Rattle.cq_query.specs.QueryData.{QueryData as Query}
use Rattle.cq_query.specs.Puts.{term_or_first, put, put_type, put_type_step, put_equation}
use Rattle.cq_query.specs.Translation.{variables_at, tests_at, tests_in, terms_or_none, term_or_constant, assigned, attribute_term, along}
use Rattle.cq_query.specs.Duties.{equal_terms}
use Rattle.cq_compose.specs.Composite.{width, first_of, components, components_of, term_components, translated, translated_step, translated_test, composite_tests, composite_block, composite}
use Rattle.cq_lazy.specs.declared.lengths.Lengths.{Lengths}
use Rattle.cq_lazy.specs.Lengths.{length_step, length_at, IsShortKey, IsShortAttribute, IsShortTest, IsShortBlock, AreLengths}

pub All-from_Every : {X : Type 0} (P : X → Type 0) (xs : List X) → Every P xs → All P xs
All-from_Every P xs h k d within = Every-at P xs k (get_or xs k d) h (slice_get_read xs (length xs) k (get_or xs k d) refl within (there xs k d within))
  where
    there : {X : Type 0} (ys : List X) (n : ℕ) (e : X) → n < length ys → get_or ys n e ≡ get_or ys n (get_or ys n e)
    there [] n e h = absurd (omega arith)
    there (y ∷ ys) zero e h = refl
    there (y ∷ ys) (suc n) e h = there ys n e (omega arith)

-- the length of a type term, by its form
module _ (m : Lengths) (x : ℕ) where
  pub length-Gen : (n : ℕ) → length_at m x (term.Gen n) ≡ 1
  length-Gen n = fold-Gen ℕ (length_step m x) n

  pub length-Const : (c : _) → length_at m x (term.Const c) ≡ 1
  length-Const c = fold-Const ℕ (length_step m x) c

  pub length-Att : (a : ℕ) (t : EntTerm) → length_at m x (term.Att a t) ≡ m.symbols + m.leaves * (m.keys * length t.path + x)
  length-Att a t = fold-Att ℕ (length_step m x) a t

  pub length-Fun : (f : ℕ) (ts : List TypeTerm) → length_at m x (term.Fun f ts) ≡ sum (map (length_at m x) ts) + 1
  length-Fun f ts = fold-Fun ℕ (length_step m x) f ts

-- sums, member by member
sums : (f : TypeTerm → TypeTerm) (g h : TypeTerm → ℕ) (ts : List TypeTerm) → Each (λ t. g (f t) ≤ h t) ts → sum (map g (map f ts)) ≤ sum (map h ts)
sums f g h [] each = omega arith
sums f g h (t ∷ ts) each =
    let first : g (f t) ≤ h t = each.0 in
    let rest = sums f g h ts each.1 in
    let left : sum (map g (map f (t ∷ ts))) ≡ g (f t) + sum (map g (map f ts)) = sum_by-cons (λ n. n) (g (f t)) (map g (map f ts)) in
    let right : sum (map h (t ∷ ts)) ≡ h t + sum (map h ts) = sum_by-cons (λ n. n) (h t) (map h ts) in
    omega (arith, first, rest, left, right)

module _ (m : Lengths) where
  -- each of the terms follows at most x keys
  abbrev pub AreWithin : ℕ → List EntTerm → Type 0
  AreWithin x ts = Every (λ t. m.keys * length t.path ≤ x) ts

  put_within : (x : ℕ) (ts : List EntTerm) → AreWithin x ts → (t : EntTerm) → m.keys * length (put ts t).path ≤ x + m.keys * length t.path
  put_within x ts each t = at (slice_get ts t.generator) refl
    where
      at : (o : Option EntTerm) → slice_get ts t.generator ≡ o → m.keys * length ((term_or_first o).path ++ t.path) ≤ x + m.keys * length t.path
      at None is = omega arith
      at (Some s) is =
          let own : m.keys * length s.path ≤ x = Every-at (λ (t : EntTerm). m.keys * length t.path ≤ x) ts t.generator s each is in
          let both : m.keys * length (s.path ++ t.path) ≡ m.keys * (length s.path + length t.path) = ap (λ n. m.keys * n) (length-append s.path t.path) in
          omega (arith, own, both)

  -- a type term with such terms in place of its generators
  put_type_within : (x : ℕ) (ts : List EntTerm) → AreWithin x ts → (y : ℕ) (t : TypeTerm) → length_at m y (put_type ts t) ≤ length_at m (x + y) t
  put_type_within x ts each y = on_terms (λ t. length_at m y (put_type ts t) ≤ length_at m (x + y) t)
      (λ n. omega (arith, ap (length_at m y) (fold-Gen TypeTerm (put_type_step ts) n), length-Gen m y n, length-Gen m (x + y) n))
      (λ c. omega (arith, ap (length_at m y) (fold-Const TypeTerm (put_type_step ts) c), length-Const m y c, length-Const m (x + y) c))
      (λ a t.
      let less : m.leaves * (m.keys * length (put ts t).path + y) ≤ m.leaves * (m.keys * length t.path + (x + y)) = mul-le-mul_left m.leaves (omega (arith, put_within x ts each t)) in
      omega (arith, ap (length_at m y) (fold-Att TypeTerm (put_type_step ts) a t), length-Att m y a (put ts t), length-Att m (x + y) a t, less))
      (λ f args under.
      let less : sum (map (length_at m y) (map (put_type ts) args)) ≤ sum (map (length_at m (x + y)) args) = sums (put_type ts) (length_at m y) (length_at m (x + y)) args under in
      omega (arith, ap (length_at m y) (fold-Fun TypeTerm (put_type_step ts) f args), length-Fun m y f (map (put_type ts) args), length-Fun m (x + y) f args, less))

  module _ (Q : Query) (n : Lengths) (lengths : AreLengths m Q n) where
    block_short : (u : ℕ) (b : Block) → slice_get Q.blocks u ≡ Some b → IsShortBlock m n b
    block_short u b at = Every-at (IsShortBlock m n) Q.blocks u b (Every-from_All (IsShortBlock m n) Q.blocks lengths.blocks) at

    -- the terms for a key
    assigned_within : (k : ℕ) → AreWithin n.keys (assigned Q k)
    assigned_within k = at_edge (slice_get Q.target.keys k)
      where
        at_place : (b : Block) → IsShortBlock m n b → (o : Option (List EntTerm)) (p : ℕ) → slice_get b.keys p ≡ o → AreWithin n.keys (terms_or_none o)
        at_place b short None p is = tt
        at_place b short (Some ts) p is =
            Every-from_All (IsShortKey m n) ts (Every-at (All (IsShortKey m n)) b.keys p ts (Every-from_All (All (IsShortKey m n)) b.keys short.keys) is)

        at_number : (b : Block) → IsShortBlock m n b → (o : Option ℕ) → AreWithin n.keys (terms_or_none (option_and_then (slice_get b.keys) o))
        at_number b short None = tt
        at_number b short (Some p) = at_place b short (slice_get b.keys p) p refl

        at_block : (u : ℕ) (o : Option Block) → slice_get Q.blocks u ≡ o
            → AreWithin n.keys (terms_or_none (option_and_then (λ (b : Block). option_and_then (slice_get b.keys) (slice_get (places (edge_sources Q.target.keys)) k)) o))
        at_block u None is = tt
        at_block u (Some b) is = at_number b (block_short u b is) (slice_get (places (edge_sources Q.target.keys)) k)

        at_edge : (o : Option Edge)
            → AreWithin n.keys (terms_or_none (option_and_then (λ (e : Edge). option_and_then (λ (b : Block). option_and_then (slice_get b.keys) (slice_get (places (edge_sources Q.target.keys)) k)) (slice_get Q.blocks e.from)) o))
        at_edge None = tt
        at_edge (Some e) = at_block e.from (slice_get Q.blocks e.from) refl

    -- the term for an attribute
    attribute_within : (a x : ℕ) → length_at m x (attribute_term Q a) ≤ n.symbols + n.leaves * x
    attribute_within a x = at_edge (slice_get Q.target.attributes a)
      where
        none : length_at m x (term.Const (Named 0)) ≤ n.symbols + n.leaves * x
        none = omega (arith, length-Const m x (Named 0), lengths.some)

        at_place : (b : Block) → IsShortBlock m n b → (o : Option TypeTerm) (p : ℕ) → slice_get b.attributes p ≡ o → length_at m x (term_or_constant o) ≤ n.symbols + n.leaves * x
        at_place b short None p is = none
        at_place b short (Some t) p is = Every-at (IsShortAttribute m n) b.attributes p t (Every-from_All (IsShortAttribute m n) b.attributes short.attributes) is x

        at_number : (b : Block) → IsShortBlock m n b → (o : Option ℕ) → length_at m x (term_or_constant (option_and_then (slice_get b.attributes) o)) ≤ n.symbols + n.leaves * x
        at_number b short None = none
        at_number b short (Some p) = at_place b short (slice_get b.attributes p) p refl

        at_block : (u : ℕ) (o : Option Block) → slice_get Q.blocks u ≡ o
            → length_at m x (term_or_constant (option_and_then (λ (b : Block). option_and_then (slice_get b.attributes) (slice_get (places (edge_sources Q.target.attributes)) a)) o)) ≤ n.symbols + n.leaves * x
        at_block u None is = none
        at_block u (Some b) is = at_number b (block_short u b is) (slice_get (places (edge_sources Q.target.attributes)) a)

        at_edge : (o : Option Edge)
            → length_at m x (term_or_constant (option_and_then (λ (e : Edge). option_and_then (λ (b : Block). option_and_then (slice_get b.attributes) (slice_get (places (edge_sources Q.target.attributes)) a)) (slice_get Q.blocks e.from)) o)) ≤ n.symbols + n.leaves * x
        at_edge None = none
        at_edge (Some e) = at_block e.from (slice_get Q.blocks e.from) refl

    -- what stands at the end of a path
    along_within : (path : List ℕ) (x : ℕ) (ts : List EntTerm) → AreWithin x ts → AreWithin (x + n.keys * length path) (along Q ts path)
    along_within [] x ts each = Every-weaker (λ (t : EntTerm). m.keys * length t.path ≤ x) (λ (t : EntTerm). m.keys * length t.path ≤ x + n.keys * 0) (λ t h. omega (arith, h)) ts each
    along_within (k ∷ path) x ts each =
        let next : AreWithin (x + n.keys) (map (put ts) (assigned Q k)) =
        Every-map (λ (t : EntTerm). m.keys * length t.path ≤ x + n.keys) (put ts) (assigned Q k) (λ p t at.
        omega (arith, put_within x ts each t, Every-at (λ (t : EntTerm). m.keys * length t.path ≤ n.keys) (assigned Q k) p t (assigned_within k) at)) in
        let rest = along_within path (x + n.keys) (map (put ts) (assigned Q k)) next in
        Every-weaker (λ (t : EntTerm). m.keys * length t.path ≤ x + n.keys + n.keys * length path) (λ (t : EntTerm). m.keys * length t.path ≤ x + n.keys * suc (length path)) (λ t h. omega (arith, h))
        (along Q (map (put ts) (assigned Q k)) path) rest

    module _ (W : Query) (u : ℕ) where
      -- a variable's components
      components_within : (y : ℕ) → AreWithin 0 (components Q W u y)
      components_within y = at (slice_get (variables_at W u) y)
        where
          all : (ns : List ℕ) → AreWithin 0 (map alone ns)
          all [] = tt
          all (k ∷ ns) = ((let none : m.keys * 0 ≤ 0 = omega arith in none), all ns)

          at : (o : Option (Name × ℕ)) → AreWithin 0 (components_of Q W u y o)
          at None = tt
          at (Some v) = all (range_with_len (first_of Q W u y) (width Q W v))

      -- the components of a term
      term_within : (t : EntTerm) → AreWithin (n.keys * length t.path) (term_components Q W u t)
      term_within t =
          Every-weaker (λ (s : EntTerm). m.keys * length s.path ≤ 0 + n.keys * length t.path) (λ (s : EntTerm). m.keys * length s.path ≤ n.keys * length t.path) (λ s h. omega (arith, h))
          (term_components Q W u t) (along_within t.path 0 (components Q W u t.generator) (components_within t.generator))

      -- a translated type term
      translated_within : (x : ℕ) (t : TypeTerm) → length_at m x (translated Q W u t) ≤ length_at n x t
      translated_within x = on_terms (λ t. length_at m x (translated Q W u t) ≤ length_at n x t)
          (λ g. omega (arith, ap (length_at m x) (fold-Gen TypeTerm (translated_step Q W u) g), length-Gen m x g, length-Gen n x g))
          (λ c. omega (arith, ap (length_at m x) (fold-Const TypeTerm (translated_step Q W u) c), length-Const m x c, length-Const n x c))
          (λ a t.
          omega (
            arith,
            ap (length_at m x) (fold-Att TypeTerm (translated_step Q W u) a t),
            length-Att n x a t,
            put_type_within (n.keys * length t.path) (term_components Q W u t) (term_within t) x (attribute_term Q a),
            attribute_within a (n.keys * length t.path + x),
          ))
          (λ f args under.
          let less : sum (map (length_at m x) (map (translated Q W u) args)) ≤ sum (map (length_at n x) args) = sums (translated Q W u) (length_at m x) (length_at n x) args under in
          omega (arith, ap (length_at m x) (fold-Fun TypeTerm (translated_step Q W u) f args), length-Fun m x f (map (translated Q W u) args), length-Fun n x f args, less))

      module _ (k : Lengths) (wider : n.most ≤ k.most) where
        -- a where equation of the first query, on a variable's components
        first_short : (y : ℕ) (e : Equation) → IsShortTest m n.most e → IsShortTest m k.most (put_equation (components Q W u y) e)
        first_short y (equation.Ent t s) h =
            let left = put_within 0 (components Q W u y) (components_within y) t in
            let right = put_within 0 (components Q W u y) (components_within y) s in
            (omega (arith, left, h.0, wider), omega (arith, right, h.1, wider))
        first_short y (equation.Typ t s) h =
            let left = put_type_within 0 (components Q W u y) (components_within y) 0 t in
            let right = put_type_within 0 (components Q W u y) (components_within y) 0 s in
            (omega (arith, left, h.0, wider), omega (arith, right, h.1, wider))

        pairs_short : (x y : ℕ) (ts us : List EntTerm) → AreWithin x ts → AreWithin y us → x + 1 ≤ k.most → y + 1 ≤ k.most → Every (IsShortTest m k.most) (equal_terms ts us)
        pairs_short x y [] us h i left right = tt
        pairs_short x y (t ∷ ts) [] h i left right = tt
        pairs_short x y (t ∷ ts) (s ∷ us) h i left right =
            ((let one : m.keys * length t.path ≤ x = h.0 in let other : m.keys * length s.path ≤ y = i.0 in (omega (arith, one, left), omega (arith, other, right))), pairs_short x y ts us h.1 i.1 left right)

        -- what a where equation of the second query gives
        second_short : (e : Equation) → IsShortTest n k.most e → Every (IsShortTest m k.most) (translated_test Q W u e)
        second_short (equation.Ent t s) h =
            pairs_short (n.keys * length t.path) (n.keys * length s.path) (term_components Q W u t) (term_components Q W u s) (term_within t) (term_within s) h.0 h.1
        second_short (equation.Typ t s) h = ((omega (arith, translated_within 0 t, h.0), omega (arith, translated_within 0 s, h.1)), tt)

        tests_short : (v : ℕ) → Every (IsShortTest m n.most) (tests_at Q v)
        tests_short v = at (slice_get Q.blocks v) refl
          where
            at : (o : Option Block) → slice_get Q.blocks v ≡ o → Every (IsShortTest m n.most) (tests_in o)
            at None is = tt
            at (Some b) is = Every-from_All (IsShortTest m n.most) b.tests (block_short v b is).tests

        pub composed_short : (b : Block) → slice_get W.blocks u ≡ Some b → IsShortBlock n k b → IsShortBlock m k (composite_block Q W (u, b))
        composed_short b there short = record {
          tests = All-from_Every (IsShortTest m k.most) (composite_tests Q W u) (
              Every-append (IsShortTest m k.most) (flat_map (λ (y : ℕ × (Name × ℕ)). map (put_equation (components Q W u y.0)) (tests_at Q y.1.1)) (enumerate_from 0 (variables_at W u)))
              (flat_map (translated_test Q W u) (tests_at W u))
              (Every-flat_map (IsShortTest m k.most) (λ (y : ℕ × (Name × ℕ)). map (put_equation (components Q W u y.0)) (tests_at Q y.1.1)) (enumerate_from 0 (variables_at W u)) (λ p y at.
              Every-map (IsShortTest m k.most) (put_equation (components Q W u y.0)) (tests_at Q y.1.1) (λ q e at'. first_short y.0 e (Every-at (IsShortTest m n.most) (tests_at Q y.1.1) q e (tests_short y.1.1) at'))))
              (subst (λ (o : Option Block). Every (IsShortTest m k.most) (flat_map (translated_test Q W u) (tests_in o))) (sym there)
              (Every-flat_map (IsShortTest m k.most) (translated_test Q W u) b.tests (λ q e at. second_short e (Every-at (IsShortTest n k.most) b.tests q e (Every-from_All (IsShortTest n k.most) b.tests short.tests) at))))
              );
          attributes = All-from_Every (IsShortAttribute m k) (map (translated Q W u) b.attributes) (
              Every-map (IsShortAttribute m k) (translated Q W u) b.attributes (λ q t at x.
              omega (arith, translated_within x t, Every-at (IsShortAttribute n k) b.attributes q t (Every-from_All (IsShortAttribute n k) b.attributes short.attributes) at x))
              );
          keys = All-from_Every (All (IsShortKey m k)) (map (flat_map (term_components Q W u)) b.keys) (
              Every-map (All (IsShortKey m k)) (flat_map (term_components Q W u)) b.keys (λ q ts at.
              All-from_Every (IsShortKey m k) (flat_map (term_components Q W u) ts)
              (Every-flat_map (IsShortKey m k) (term_components Q W u) ts (λ r t at'.
              let own : n.keys * length t.path ≤ k.keys =
              Every-at (IsShortKey n k) ts r t (Every-from_All (IsShortKey n k) ts (Every-at (All (IsShortKey n k)) b.keys q ts (Every-from_All (All (IsShortKey n k)) b.keys short.keys) at)) at' in
              Every-weaker (λ (s : EntTerm). m.keys * length s.path ≤ n.keys * length t.path) (IsShortKey m k) (λ s h. omega (arith, h, own)) (term_components Q W u t) (term_within t))))
              );
        }

-- the lengths of a composite
pub lengths_composed : (m n k : Lengths) (Q W : Query) → AreLengths m Q n → AreLengths n W k → n.most ≤ k.most → AreLengths m (composite Q W) k
lengths_composed m n k Q W first second wider = record {
  some = second.some;
  symbols = second.symbols;
  keys = second.keys;
  blocks = All-from_Every (IsShortBlock m k) (composite Q W).blocks (
      Every-map (IsShortBlock m k) (composite_block Q W) (enumerate_from 0 W.blocks) (λ p y at.
      let here = from_enumerated 0 W.blocks p y at in
      let number : y.0 ≡ p = omega (arith, here.1) in
      let there : slice_get W.blocks y.0 ≡ Some y.1 = ap (slice_get W.blocks) number ∙ here.0 in
      composed_short m Q n first W y.0 k wider y.1 there (Every-at (IsShortBlock n k) W.blocks y.0 y.1 (Every-from_All (IsShortBlock n k) W.blocks second.blocks) there))
      );
}

-- the bounds of one query, by which those of the next are found
pub bounded_twice : (r : Option Lengths) (m n : Lengths) (Q W C : Query) → composite Q W ≡ C → AreLengths m Q n → m.most ≤ n.most
    → IfSome r (λ k. AreLengths n W k × (n.most ≤ k.most) × (k.most ≤ 1024)) → IfSome r (λ k. AreLengths m C k × (m.most ≤ k.most) × (k.most ≤ 1024))
bounded_twice None m n Q W C same first wider told = tt
bounded_twice (Some k) m n Q W C same first wider told =
    (subst (λ (X : Query). AreLengths m X k) same (lengths_composed m n k Q W first told.0 told.1), omega (arith, wider, told.1), told.2)

pub bounded_next : (r : Option Lengths) (m n : Lengths) (Q W C : Query) → composite Q W ≡ C → AreLengths m Q n
    → IfSome r (λ k. AreLengths n W k × (n.most ≤ k.most) × (k.most ≤ 1024)) → IfSome r (λ k. AreLengths m C k × (k.most ≤ 1024))
bounded_next None m n Q W C same first told = tt
bounded_next (Some k) m n Q W C same first told = (subst (λ (X : Query). AreLengths m X k) same (lengths_composed m n k Q W first told.0 told.1), told.2)

pub at_some : {X : Type 0} (o : Option X) (x : X) (P : X → Type 0) → o ≡ Some x → IfSome o P → P x
at_some o x P is told = subst (λ p. IfSome p P) is told

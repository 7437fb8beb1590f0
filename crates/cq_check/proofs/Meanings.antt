-- Derivably equal terms have one value, where all the equations that can be traced are listed.
use Rattle.std.proofs.Common.{ℕ, zero, suc, Bool, true, false, List, [], ◌∷◌, Option, Some, None, ◌≡◌, ◌<◌, ◌≤◌, ◌+◌, ◌==◌, ◌&&◌, map, length, refl, sym, ap, subst, ◌∙◌, arith, eq-eqb, eqb-true, if◌then◌else◌}
use Rattle.std.specs.Prelude.{slice_get, All}
use Rattle.std.proofs.lemmas.List.Elements.{All-head, All-tail}
use Rattle.std.proofs.lemmas.Option.{slice_get_within, slice_get-get_or}
use Rattle.cq_tables.specs.Content.{Content, made_of}
use Rattle.cq_rows.specs.Rows.{row_of_term}
use Rattle.cq_flat.specs.declared.node.Node.{Node}
use Rattle.cq_flat.specs.declared.node.Node.TheVariants as node
use Rattle.cq_flat.specs.Congruence as congruent
use Rattle.cq_flat.specs.Congruence.{Congruent, AllCongruent}
use Rattle.cq_flat.specs.Values.{AreValues, value_at}
use Rattle.cq_check.specs.Frame.{IsFrame, AllTracedWithin, IsApart}
use Rattle.cq_check.specs.NodeListData.{NodeListData}
use Rattle.cq_check.specs.Standing.{Stands, generator, constant, cell, function as application, EachStands, none as no_terms, more as more_terms, all_true, traced_step, is_traced}
use Rattle.cq_check.specs.Sound.{AreSound}
use Rattle.cq_check.specs.Adding.{HasEquation, HasGiven, HasAtRows}
use Rattle.cq_check.proofs.Rows.{row_leads, traced_row, derived_row, both_within}
use Rattle.cq_check.proofs.Placed.{traced_at, stands_at}
use Rattle.cq_check.proofs.Typed.{type_sorted, EachTyped, args_typed, typed_cell}
use Rattle.cq_theory.specs.declared.constant.Con.{Con}
use Rattle.cq_theory.specs.declared.constant.Con.TheVariants.{Named}
use Rattle.cq_theory.specs.declared.presentation.Equation.{Equation}
use Rattle.cq_theory.specs.declared.presentation.Equation.TheVariants.{Ent as EntEquation, Typ as TypEquation}
use Rattle.cq_theory.specs.declared.presentation.Presentation.{Presentation}
use Rattle.cq_theory.specs.declared.schema.ObsEq.{ObsEq}
use Rattle.cq_theory.specs.SchemaData.{SchemaData as Schema}
use Rattle.cq_theory.specs.Constant.{same_con}
use Rattle.cq_theory.specs.Schema.{IsSchema}
use Rattle.cq_theory.specs.Presentation.{IsPresentation}
use Rattle.cq_theory.specs.declared.term.EntTerm.{EntTerm}
use Rattle.cq_theory.specs.declared.term.TypeTerm.{TypeTerm}
use Rattle.cq_theory.specs.declared.term.TypeTerm.TheVariants as term
use Rattle.cq_theory.specs.declared.term.TypeTerm.TheOpen as layer
use Rattle.cq_theory.specs.declared.term.TypeTerm.TheFolds.{fold-TypeTerm}
use Rattle.cq_theory.specs.declared.term.Term.{Term}
use Rattle.cq_theory.specs.declared.term.Term.TheVariants.{Ent, Typ}
use Rattle.cq_theory.specs.declared.value.Value.{Value}
use Rattle.cq_theory.specs.declared.value.Value.TheVariants as value
use Rattle.cq_theory.specs.Term.{greatest, type_depth, type_depth_step}
use Rattle.cq_theory.specs.TypeTerm.{substituted}
use Rattle.cq_theory.specs.Sorts.{entity_of, type_of}
use Rattle.cq_theory.specs.Tables.{IsPlain, same_plain, all_same_plain}
use Rattle.cq_theory.specs.Derivation.{Derivation, Derivations, reflexivity, symmetry, transitivity, key, attribute, function, given, path_equation, observation, none, more, IsWithin, Concludes, Conclude, left_of, right_of}
use Rattle.cq_theory.proofs.Constants.{same_con_true, same_con_itself}
use Rattle.cq_theory.proofs.Sorted.{type_of-substituted}
use Rattle.cq_theory.proofs.Sound.{both}
use Rattle.cq_theory.proofs.TypeTerms.{fold-Gen, fold-Const, fold-Att, fold-Fun, Each, on_terms}

-- Plain values are compared by what they are.
same_plain_equal : (v w : Value) → same_plain v w ≡ true → v ≡ w
same_plain_equal (value.Const c) (value.Const d) h = ap value.Const (same_con_true c d h)
same_plain_equal (value.Null n) (value.Null m) h = ap value.Null (eqb-true n m h)
same_plain_equal (value.Const c) (value.Null m) h = cc
same_plain_equal (value.Null n) (value.Const d) h = cc
same_plain_equal (value.Const c) _ h = cc
same_plain_equal (value.Null n) _ h = cc
same_plain_equal _ w h = cc

all_same_equal : (vs ws : List Value) → all_same_plain vs ws ≡ true → vs ≡ ws
all_same_equal [] [] h = refl
all_same_equal [] (w ∷ ws) h = cc
all_same_equal (v ∷ vs) [] h = cc
all_same_equal (v ∷ vs) (w ∷ ws) h =
    let parts : (same_plain v w ≡ true) × (all_same_plain vs ws ≡ true) = both _ _ h in
    let first : v ≡ w = same_plain_equal v w parts.0 in
    let rest : vs ≡ ws = all_same_equal vs ws parts.1 in
    λ i. first i ∷ rest i

same_itself : (v : Value) → IsPlain v → same_plain v v ≡ true
same_itself (value.Const c) p = same_con_itself c
same_itself (value.Null n) p = eq-eqb n n refl
same_itself _ p = absurd p

-- the value of the first node, from the number p on, that passes a test
abbrev first_value : (Node → Bool) → List Value → ℕ → List Node → Value → Value
first_value test values p [] default = default
first_value test values p (n ∷ ns) default = if test n then value_at values p else first_value test values (p + 1) ns default

record IsFirst (test : Node → Bool) (values : List Value) (p : ℕ) (nodes : List Node) (default : Value) : Type 0 where
  at : ℕ
  content : Node
  is : slice_get nodes at ≡ Some content
  passes : test content ≡ true
  gives : first_value test values p nodes default ≡ value_at values (p + at)

-- a node that passes isn't one that doesn't
behind_first : (test : Node → Bool) (x : Node) (xs : List Node) (q : ℕ) (n : Node) → slice_get (x ∷ xs) q ≡ Some n → test n ≡ true → test x ≡ false → (k : ℕ) × (slice_get xs k ≡ Some n)
behind_first test x xs zero n is passes e = let same : x ≡ n = cc in let wrong : true ≡ false = sym passes ∙ ap test (sym same) ∙ e in cc
behind_first test x xs (suc q) n is passes e = (q, is)

first_here : (test : Node → Bool) (values : List Value) (p : ℕ) (x : Node) (xs : List Node) (default : Value) → test x ≡ true → IsFirst test values p (x ∷ xs) default
first_here test values p x xs default e =
    let here : p ≡ p + 0 = omega arith in
    record {
      at = 0;
      content = x;
      is = refl;
      passes = e;
      gives = ap (λ (b : Bool). if b then value_at values p else first_value test values (p + 1) xs default) e ∙ ap (value_at values) here;
    }

first_later : (test : Node → Bool) (values : List Value) (p : ℕ) (x : Node) (xs : List Node) (default : Value) → test x ≡ false → IsFirst test values (p + 1) xs default → IsFirst test values p (x ∷ xs) default
first_later test values p x xs default e rest =
    let there : p + 1 + rest.at ≡ p + suc rest.at = omega arith in
    record {
      at = suc rest.at;
      content = rest.content;
      is = rest.is;
      passes = rest.passes;
      gives = ap (λ (b : Bool). if b then value_at values p else first_value test values (p + 1) xs default) e ∙ rest.gives ∙ ap (value_at values) there;
    }

first_found : (test : Node → Bool) (values : List Value) (p : ℕ) (nodes : List Node) (default : Value) (q : ℕ) (n : Node) → slice_get nodes q ≡ Some n → test n ≡ true → IsFirst test values p nodes default
first_found test values p [] default q n is passes = cc
first_found test values p (x ∷ xs) default q n is passes = go (λ k at. first_found test values (p + 1) xs default k n at passes) (test x) refl
  where
    go : ((k : ℕ) → slice_get xs k ≡ Some n → IsFirst test values (p + 1) xs default) → (b : Bool) → test x ≡ b → IsFirst test values p (x ∷ xs) default
    go before true e = first_here test values p x xs default e
    go before false e = let there = behind_first test x xs q n is passes e in first_later test values p x xs default e (before there.0 there.1)

abbrev is_constant : Con → Node → Bool
is_constant c node.Leaf = false
is_constant c (node.Const d) = same_con d c
is_constant c (node.Fun g args) = false

abbrev is_application : List Value → ℕ → List Value → Node → Bool
is_application values f vs node.Leaf = false
is_application values f vs (node.Const d) = false
is_application values f vs (node.Fun g args) = (g == f) && all_same_plain vs (map (value_at values) args)

constant_parts : (c : Con) (n : Node) → is_constant c n ≡ true → n ≡ node.Const c
constant_parts c node.Leaf h = cc
constant_parts c (node.Const d) h = ap node.Const (same_con_true d c h)
constant_parts c (node.Fun g args) h = cc

application_parts : (values : List Value) (f : ℕ) (vs : List Value) (n : Node) → is_application values f vs n ≡ true → (args : List ℕ) × (n ≡ node.Fun f args) × (vs ≡ map (value_at values) args)
application_parts values f vs node.Leaf h = cc
application_parts values f vs (node.Const d) h = cc
application_parts values f vs (node.Fun g args) h =
    let parts : ((g == f) ≡ true) × (all_same_plain vs (map (value_at values) args) ≡ true) = both _ _ h in
    (args, ap (λ x. node.Fun x args) (eqb-true g f parts.0), all_same_equal vs (map (value_at values) args) parts.1)

-- a term's parts are within a bound where the term is
cell_within : (bound : Option ℕ) (a : ℕ) (t : EntTerm) → IsWithin bound (Typ (term.Att a t)) → IsWithin bound (Ent t)
cell_within None a t h = tt
cell_within (Some k) a t h = subst (λ n. n ≤ k) (fold-Att ℕ type_depth_step a t) h

abbrev EachWithin : Option ℕ → List TypeTerm → Type 0
EachWithin bound [] = Unit {0}
EachWithin bound (t ∷ ts) = IsWithin bound (Typ t) × EachWithin bound ts

each_within : (bound : Option ℕ) (ts : List TypeTerm) → ((k : ℕ) → bound ≡ Some k → greatest (map type_depth ts) ≤ k) → EachWithin bound ts
each_within bound [] h = tt
each_within None (t ∷ ts) h = (tt, each_within None ts (λ k e. let wrong : None ≡ Some k = e in cc))
each_within (Some k) (t ∷ ts) h =
    let all : greatest (map type_depth (t ∷ ts)) ≤ k = h k refl in
    (omega (arith, all), each_within (Some k) ts (λ n e. let same : k ≡ n = cc in omega (arith, all, same)))

args_within : (bound : Option ℕ) (f : ℕ) (ts : List TypeTerm) → IsWithin bound (Typ (term.Fun f ts)) → EachWithin bound ts
args_within None f ts h = each_within None ts (λ k e. let wrong : None ≡ Some k = e in cc)
args_within (Some k) f ts h = each_within (Some k) ts (λ n e. let same : k ≡ n = cc in subst (λ x. greatest (map type_depth ts) ≤ x) same (subst (λ x. x ≤ k) (fold-Fun ℕ type_depth_step f ts) h))

module _ (S : Schema) (P : Presentation) (m : Content) (entries : List ℕ) (schema : IsSchema S) (presentation : IsPresentation S P) (frame : IsFrame S P m entries) where
  -- within a bound up to which all entity terms lead to rows, type terms can be traced
  module _ (bound : Option ℕ) (traced : AllTracedWithin S P m entries bound) where
    abbrev IsTracedWithin : TypeTerm → Type 0
    IsTracedWithin t = (type : ℕ) → type_of S P.generators t ≡ Some type → IsWithin bound (Typ t) → is_traced m entries t ≡ true

    args_traced : (ts : List TypeTerm) → EachTyped S P.generators ts → EachWithin bound ts → Each IsTracedWithin ts → all_true (map (is_traced m entries) ts) ≡ true
    args_traced [] typed within each = refl
    args_traced (t ∷ ts) typed within each =
        let first : is_traced m entries t ≡ true = each.0 typed.0.0 typed.0.1 within.0 in
        ap (λ b. b && all_true (map (is_traced m entries) ts)) first ∙ args_traced ts typed.1 within.1 each.1

    pub traced_within : (t : TypeTerm) → IsTracedWithin t
    traced_within = on_terms IsTracedWithin
        (λ n type h within. fold-Gen Bool (traced_step m entries) n)
        (λ c type h within. fold-Const Bool (traced_step m entries) c)
        (λ a t type h within.
        let typed = typed_cell S P.generators a t type h in
        fold-Att Bool (traced_step m entries) a t ∙ traced t typed.edge.from typed.of_entity (cell_within bound a t within))
        (λ f ts each type h within.
        fold-Fun Bool (traced_step m entries) f ts ∙ args_traced ts (args_typed S P.generators f ts type h) (args_within bound f ts within) each)

  module _ (list : NodeListData) (sound : AreSound S P m entries list) (values : List Value) (are : AreValues list.nodes list.equations values)
      (given_there : HasGiven P m entries list (length P.equations)) (rows_there : HasAtRows S m list (made_of m)) where
    abbrev nodes : List Node
    nodes = list.nodes

    abbrev value_here : ℕ → Value
    value_here = value_at values

    valued : (p : ℕ) → p < length nodes → slice_get values p ≡ Some (value_here p)
    valued p h = slice_get-get_or values p (value.Const (Named 0)) (omega (arith, are.count))

    plain_here : (p : ℕ) → p < length nodes → IsPlain (value_here p)
    plain_here p h = are.plain p (value_here p) (valued p h)

    pub equal_congruent : (p q : ℕ) → p < length nodes → q < length nodes → value_here p ≡ value_here q → Congruent nodes list.equations p q
    equal_congruent p q l l' e = (are.equal p q l l').0 (valued p l ∙ ap (λ v. Some v) e ∙ sym (valued q l'))

    congruent_equal : (p q : ℕ) → p < length nodes → q < length nodes → Congruent nodes list.equations p q → value_here p ≡ value_here q
    congruent_equal p q l l' c =
        let same : Some (value_here p) ≡ Some (value_here q) = sym (valued p l) ∙ (are.equal p q l l').1 c ∙ valued q l' in
        cc

    abbrev AreNodes : List ℕ → Type 0
    AreNodes = All (λ a. a < length nodes)

    same_values : (ps : List ℕ) → AreNodes ps → all_same_plain (map value_here ps) (map value_here ps) ≡ true
    same_values [] h = refl
    same_values (p ∷ ps) h =
        ap (λ b. b && all_same_plain (map value_here ps) (map value_here ps)) (same_itself (value_here p) (plain_here p (All-head (λ a. a < length nodes) p ps h)))
        ∙ same_values ps (All-tail (λ a. a < length nodes) p ps h)

    all_congruent : (xs ys : List ℕ) → AreNodes xs → AreNodes ys → map value_here xs ≡ map value_here ys → AllCongruent nodes list.equations xs ys
    all_congruent [] [] h h' e = congruent.none
    all_congruent [] (y ∷ ys) h h' e = cc
    all_congruent (x ∷ xs) [] h h' e = cc
    all_congruent (x ∷ xs) (y ∷ ys) h h' e =
        let first : value_here x ≡ value_here y = cc in
        let rest : map value_here xs ≡ map value_here ys = cc in
        congruent.more (equal_congruent x y (All-head (λ a. a < length nodes) x xs h) (All-head (λ a. a < length nodes) y ys h') first)
        (all_congruent xs ys (All-tail (λ a. a < length nodes) x xs h) (All-tail (λ a. a < length nodes) y ys h') rest)

    args_are_nodes : (p f : ℕ) (args : List ℕ) → slice_get nodes p ≡ Some (node.Fun f args) → AreNodes args
    args_are_nodes p f args is i d h = omega (arith, sound.earlier p f args is i d h, slice_get_within nodes p (node.Fun f args) is)

    -- A function at some values has the value of the first node of the function at such values, or is built of them; a constant has the value of its
    -- first node.
    abbrev applied : ℕ → List Value → Value
    applied f vs = first_value (is_application values f vs) values 0 nodes (value.Fun f vs)

    abbrev constant_value : Con → Value
    constant_value c = first_value (is_constant c) values 0 nodes (value.Const c)

    abbrev cell_value : ℕ → Option ℕ → Value
    cell_value a None = value.Const (Named 0)
    cell_value a (Some r) = applied a (value_here r ∷ [])

    abbrev meaning_step : layer.TypeTerm-F Value → Value
    meaning_step (layer.Gen n) = value_here (made_of m + n)
    meaning_step (layer.Const c) = constant_value c
    meaning_step (layer.Att a t) = cell_value a (row_of_term m entries t)
    meaning_step (layer.Fun f args) = applied f args

    abbrev meaning : TypeTerm → Value
    meaning = fold-TypeTerm Value meaning_step

    constant_is : (p : ℕ) (c : Con) → slice_get nodes p ≡ Some (node.Const c) → constant_value c ≡ value_here p
    constant_is p c is =
        let first = first_found (is_constant c) values 0 nodes (value.Const c) p (node.Const c) is (same_con_itself c) in
        let there : slice_get nodes first.at ≡ Some (node.Const c) = first.is ∙ ap (λ (n : Node). Some n) (constant_parts c first.content first.passes) in
        let here : 0 + first.at ≡ first.at = omega arith in
        first.gives ∙ ap value_here here
        ∙ congruent_equal first.at p (slice_get_within nodes first.at (node.Const c) there) (slice_get_within nodes p (node.Const c) is) (congruent.constants c there is)

    application_is : (p f : ℕ) (args : List ℕ) → slice_get nodes p ≡ Some (node.Fun f args) → applied f (map value_here args) ≡ value_here p
    application_is p f args is =
        let vs : List Value = map value_here args in
        let own : is_application values f vs (node.Fun f args) ≡ true = ap (λ b. b && all_same_plain vs vs) (eq-eqb f f refl) ∙ same_values args (args_are_nodes p f args is) in
        let first = first_found (is_application values f vs) values 0 nodes (value.Fun f vs) p (node.Fun f args) is own in
        let parts = application_parts values f vs first.content first.passes in
        let there : slice_get nodes first.at ≡ Some (node.Fun f parts.0) = first.is ∙ ap (λ (n : Node). Some n) parts.1 in
        let here : 0 + first.at ≡ first.at = omega arith in
        first.gives ∙ ap value_here here
        ∙ congruent_equal first.at p (slice_get_within nodes first.at (node.Fun f parts.0) there) (slice_get_within nodes p (node.Fun f args) is)
        (congruent.functions f there is (all_congruent parts.0 args (args_are_nodes first.at f parts.0 there) (args_are_nodes p f args is) (sym parts.2)))

    -- a term means the value of a node that stands for it
    mutual
      pub stands_value : {t : TypeTerm} {p : ℕ} → Stands m entries nodes t p → meaning t ≡ value_here p
      stands_value (generator n is at) = ap meaning is ∙ fold-Gen Value meaning_step n ∙ ap value_here (sym at)
      stands_value {t} {p} (constant c is there) = ap meaning is ∙ fold-Const Value meaning_step c ∙ constant_is p c there
      stands_value {t} {p} (cell a r u is leads there) = ap meaning is ∙ fold-Att Value meaning_step a u ∙ ap (cell_value a) leads ∙ application_is p a (r ∷ []) there
      stands_value {t} {p} (application f ts ps is there each) = ap meaning is ∙ fold-Fun Value meaning_step f ts ∙ ap (applied f) (each_value each) ∙ application_is p f ps there

      each_value : {ts : List TypeTerm} {ps : List ℕ} → EachStands m entries nodes ts ps → map meaning ts ≡ map value_here ps
      each_value no_terms = refl
      each_value (more_terms {t} {ts} {p} {ps} first rest) =
          let here : meaning t ≡ value_here p = stands_value first in
          let there : map meaning ts ≡ map value_here ps = each_value rest in
          λ i. here i ∷ there i

    listed_values : (i a b : ℕ) → slice_get list.equations i ≡ Some (a, b) → value_here a ≡ value_here b
    listed_values i a b is = let e = sound.equal i a b is in congruent_equal a b e.left_within e.right_within (congruent.given i is)

    module _ (bound : Option ℕ) (traced : AllTracedWithin S P m entries bound) where
      equation_values : (n : ℕ) (t u : TypeTerm) → slice_get P.equations n ≡ Some (TypEquation t u) → IsWithin bound (Typ t) → IsWithin bound (Typ u) → meaning t ≡ meaning u
      equation_values n t u found left right =
          let sides = presentation.equations n (TypEquation t u) found in
          let d = type_sorted (type_of S P.generators t) sides.sort sides.left in
          let e = type_sorted (type_of S P.generators u) sides.sort sides.right in
          let there : HasEquation m entries list t u =
          given_there n t u (slice_get_within P.equations n (TypEquation t u) found) found (traced_within bound traced t d.0 d.1 left) (traced_within bound traced u e.0 e.1 right) in
          stands_value there.left_stands ∙ listed_values there.place there.left there.right there.is ∙ sym (stands_value there.right_stands)

      observation_values : (n : ℕ) (at : EntTerm) (e : ObsEq) → slice_get S.obs_eqs n ≡ Some e → entity_of S P.generators at ≡ Some e.entity → IsWithin bound (Ent at)
          → IsWithin bound (Typ (substituted at e.left)) → IsWithin bound (Typ (substituted at e.right)) → meaning (substituted at e.left) ≡ meaning (substituted at e.right)
      observation_values n at e found of_entity within left right =
          let sides = schema.obs_eqs n e found in
          let row = traced_row S P m entries frame schema presentation bound traced at e.entity of_entity within in
          let led = row_leads S P m entries frame at e.entity row.0 of_entity row.1 in
          let left_traced : is_traced m (row.0 ∷ []) e.left ≡ true =
          sym (traced_at S m entries at e.entity row.0 row.1 e.left sides.type sides.left)
          ∙ traced_within bound traced (substituted at e.left) sides.type (type_of-substituted S P.generators at e.entity of_entity e.left sides.type sides.left) left in
          let right_traced : is_traced m (row.0 ∷ []) e.right ≡ true =
          sym (traced_at S m entries at e.entity row.0 row.1 e.right sides.type sides.right)
          ∙ traced_within bound traced (substituted at e.right) sides.type (type_of-substituted S P.generators at e.entity of_entity e.right sides.type sides.right) right in
          let there : HasEquation m (row.0 ∷ []) list e.left e.right =
          rows_there row.0 (frame.whole.made row.0 led.0) led.0 n e (slice_get_within S.obs_eqs n e found) found (sym led.1) left_traced right_traced in
          stands_value (stands_at S m entries at e.entity row.0 row.1 nodes sides.type sides.left there.left_stands)
          ∙ listed_values there.place there.left there.right there.is
          ∙ sym (stands_value (stands_at S m entries at e.entity row.0 row.1 nodes sides.type sides.right there.right_stands))

      abbrev means : Term → Value
      means (Ent t) = value.Const (Named 0)
      means (Typ t) = meaning t

      abbrev HaveOneMeaning : Term → Term → Type 0
      HaveOneMeaning t u = means t ≡ means u

      from_equation : (t u t' u' : Term) → t ≡ t' → u ≡ u' → HaveOneMeaning t' u' → HaveOneMeaning t u
      from_equation t u t' u' e f h = ap means e ∙ h ∙ sym (ap means f)

      given_means : (n : ℕ) (e : Equation) → slice_get P.equations n ≡ Some e → IsWithin bound (left_of e) → IsWithin bound (right_of e) → HaveOneMeaning (left_of e) (right_of e)
      given_means n (EntEquation t u) found left right = refl
      given_means n (TypEquation t u) found left right = equation_values n t u found left right

      mutual
        one_meaning : (d : Derivation) (t u : Term) → Concludes S P bound d t u → HaveOneMeaning t u
        one_meaning (reflexivity s) t u h = from_equation t u s s h.2 h.3 refl
        one_meaning (symmetry d) t u h = sym (one_meaning d u t h)
        one_meaning (transitivity d e) t u h = one_meaning d t h.0 h.1 ∙ one_meaning e h.0 u h.2
        one_meaning (key k d) t u h = from_equation t u _ _ h.3 h.4 refl
        one_meaning (attribute n d) t u h =
            let rows : row_of_term m entries h.0 ≡ row_of_term m entries h.1 = derived_row S P m entries frame schema presentation bound traced d h.0 h.1 h.2 in
            from_equation t u (Typ (term.Att n h.0)) (Typ (term.Att n h.1)) h.3 h.4 (fold-Att Value meaning_step n h.0 ∙ ap (cell_value n) rows ∙ sym (fold-Att Value meaning_step n h.1))
        one_meaning (function f ds) t u h =
            from_equation t u (Typ (term.Fun f h.0)) (Typ (term.Fun f h.1)) h.3 h.4
            (fold-Fun Value meaning_step f h.0 ∙ ap (applied f) (all_meanings ds h.0 h.1 h.2) ∙ sym (fold-Fun Value meaning_step f h.1))
        one_meaning (given n) t u h =
            from_equation t u _ _ h.2 h.3 (given_means n h.0 h.1 (subst (λ (x : Term). IsWithin bound x) h.2 h.4) (subst (λ (x : Term). IsWithin bound x) h.3 h.5))
        one_meaning (path_equation n at) t u h = from_equation t u _ _ h.4 h.5 refl
        one_meaning (observation n at) t u h =
            from_equation t u (Typ (substituted at h.0.left)) (Typ (substituted at h.0.right)) h.4 h.5
            (observation_values n at h.0 h.1 h.2 h.3 (subst (λ (x : Term). IsWithin bound x) h.4 h.6) (subst (λ (x : Term). IsWithin bound x) h.5 h.7))

        all_meanings : (ds : Derivations) (ts us : List TypeTerm) → Conclude S P bound ds ts us → map meaning ts ≡ map meaning us
        all_meanings none [] [] h = refl
        all_meanings (more d ds) (t ∷ ts) (u ∷ us) h =
            let first : meaning t ≡ meaning u = one_meaning d (Typ t) (Typ u) h.0 in
            let rest : map meaning ts ≡ map meaning us = all_meanings ds ts us h.1 in
            λ i. first i ∷ rest i
        all_meanings none [] (u ∷ us) h = absurd h
        all_meanings none (t ∷ ts) us h = absurd h
        all_meanings (more d ds) [] us h = absurd h
        all_meanings (more d ds) (t ∷ ts) [] h = absurd h

    -- terms at nodes of two values are not derivably equal within a bound up to which all terms lead to rows
    pub apart_values : (t u : TypeTerm) (a b : ℕ) → Stands m entries nodes t a → Stands m entries nodes u b → (value_here a ≡ value_here b → ⊥) → IsApart S P m entries (Typ t) (Typ u)
    apart_values t u a b left right apart bound traced d concludes =
        apart (sym (stands_value left) ∙ one_meaning bound traced d (Typ t) (Typ u) concludes ∙ stands_value right)

  -- nor are terms of which some path can't be traced
  pub apart_left : (t u : TypeTerm) (type : ℕ) → type_of S P.generators t ≡ Some type → is_traced m entries t ≡ false → IsApart S P m entries (Typ t) (Typ u)
  apart_left t u type h untraced bound traced d concludes =
      let within = both_within S P m entries frame bound d (Typ t) (Typ u) concludes in
      let wrong : false ≡ true = sym untraced ∙ traced_within bound traced t type h within.0 in
      cc

  pub apart_right : (t u : TypeTerm) (type : ℕ) → type_of S P.generators u ≡ Some type → is_traced m entries u ≡ false → IsApart S P m entries (Typ t) (Typ u)
  apart_right t u type h untraced bound traced d concludes =
      let within = both_within S P m entries frame bound d (Typ t) (Typ u) concludes in
      let wrong : false ≡ true = sym untraced ∙ traced_within bound traced u type h within.1 in
      cc

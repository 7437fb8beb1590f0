-- What the calls that make a composite answer.
use Rattle.std.proofs.Common.{ℕ, Bool, true, false, List, [], ◌∷◌, ◌++◌, Option, Some, None, ◌≡◌, ◌<◌, ◌≤◌, ◌^◌, ◌+◌, map, take, get_or, sum, length, refl, sym, ap, subst, ◌∙◌, arith}
use Rattle.std.specs.Prelude.{slice_get, MatchOption}
use Rattle.std.specs.List.{flat_map, enumerate_from}
use Rattle.std.proofs.lemmas.List.FromFn.{length-enumerate_from, get_or-enumerate_from}
use Rattle.cq_query.proofs.Lists.{pushed_more}
use Rattle.cq_base.specs.declared.name.Name.{Name}
use Rattle.cq_theory.specs.declared.presentation.Equation.{Equation}
use Rattle.cq_theory.specs.declared.term.EntTerm.{EntTerm}
use Rattle.cq_theory.specs.declared.term.TypeTerm.{TypeTerm}
use Rattle.cq_theory.specs.SchemaData.{SchemaData as Schema}
use Rattle.cq_theory.specs.Canonical.{below}
use Rattle.cq_blocks.specs.declared.block.Block.{Block}
use Rattle.cq_query.specs.QueryData.{QueryData as Query}
use Rattle.cq_query.specs.Puts.{put_equation}
use Rattle.cq_query.specs.Translation.{variables_at, variables_in, tests_at, tests_in}
use Rattle.cq_query.specs.IsQuery.{IsQuery}
use Rattle.cq_compose.specs.declared.frame.Frame.{Frame}
use Rattle.cq_compose.specs.Frame.{IsFrame}
use Rattle.cq_compose.specs.Composite.{numbered, first_of, components, term_components, translated, translated_test, component_entities, composite_block, composite, is_large_block, is_large}
use Rattle.cq_compose.specs.Counting.{widths, start_in, has_long_term}
use Rattle.cq_compose.proofs.Sizing.{many_large, few_large, few_components}
use Rattle.cq_compose.proofs.Composed.{composite_is_query}

pub at_none : {X : Type 0} (o : Option X) (A : Type 0) (P : X → Type 0) → o ≡ None → MatchOption o A P → A
at_none o A P none told = subst (λ x. MatchOption x A P) none told

pub at_some : {X : Type 0} (o : Option X) (A : Type 0) (P : X → Type 0) (x : X) → o ≡ Some x → MatchOption o A P → P x
at_some o A P x is told = subst (λ y. MatchOption y A P) is told

module _ {X : Type 0} (Q W : Query) (u : ℕ) (first : IsQuery Q) (b : Block) (there : slice_get W.blocks u ≡ Some b) (vars : List (Name × ℕ)) (same : vars ≡ b.vars)
    (found : Option X) (P : X → Type 0) (told : MatchOption found (16000000 < sum (widths Q vars)) P) where
  many : found ≡ None → 16000000 < sum (widths Q b.vars)
  many none = subst (λ vs. 16000000 < sum (widths Q vs)) same (subst (λ o. MatchOption o (16000000 < sum (widths Q vars)) P) none told)

  pub large_at_none : found ≡ None → is_large_block (composite_block Q W (u, b)) ≡ true
  large_at_none none = many_large Q W u first b there (many none)

  pub told_at : (x : X) → found ≡ Some x → P x
  told_at x is = subst (λ o. MatchOption o (16000000 < sum (widths Q vars)) P) is told

  pub large_at_some : (x : X) → found ≡ Some x → (P x → sum (widths Q vars) ≤ 16000000) → is_large_block (composite_block Q W (u, b)) ≡ has_long_term Q W u b
  large_at_some x is few = few_large Q W u first b there (subst (λ vs. sum (widths Q vs) ≤ 16000000) same (few (told_at x is)))

  pub components_few : (x : X) → found ≡ Some x → (P x → sum (widths Q vars) ≤ 16000000) → length (component_entities Q W u) ≤ 16000000
  components_few x is few = few_components Q W u first b there (subst (λ vs. sum (widths Q vs) ≤ 16000000) same (few (told_at x is)))

-- the starts of a frame
pub starts_are : (Q W : Query) (u : ℕ) (b : Block) → slice_get W.blocks u ≡ Some b → (vars : List (Name × ℕ)) → vars ≡ b.vars → (starts own : List ℕ) → own ≡ starts
    → starts ≡ map (start_in Q vars) (below (length vars)) → own ≡ map (first_of Q W u) (below (length (variables_at W u)))
starts_are Q W u b there vars same starts own is are =
    is ∙ are ∙ ap (λ vs. map (start_in Q vs) (below (length vs))) (same ∙ ap variables_in (sym there))

abbrev entities_in : Query → List (Name × ℕ) → List ℕ
entities_in Q vars = flat_map (λ y. map (λ v. v.1) (variables_at Q y.1)) vars

pub entities_few : (Q W : Query) (u : ℕ) (b : Block) → slice_get W.blocks u ≡ Some b → (items entities : List ℕ) (vars : List (Name × ℕ)) → items ≡ entities
    → entities ≡ flat_map (λ y. map (λ v. v.1) (variables_at Q y.1)) vars → vars ≡ b.vars → length (component_entities Q W u) ≤ 16000000 → length items < 2 ^ 32
entities_few Q W u b there items entities vars same are is few =
    let all : items ≡ component_entities Q W u = same ∙ are ∙ ap (entities_in Q) (is ∙ ap variables_in (sym there)) in
    omega (arith, ap length all, few)

pub vars_few : (W : Query) (u : ℕ) (b : Block) → slice_get W.blocks u ≡ Some b → IsQuery W → (vars : List (Name × ℕ)) → vars ≡ b.vars → length vars < 2 ^ 32
vars_few W u b there query vars is =
    let all : vars ≡ variables_at W u = is ∙ ap variables_in (sym there) in
    omega (arith, ap length all, query.few u)

-- the where equations of one variable more
pub tests_pushed : (Q W : Query) (u : ℕ) (vars : List (Name × ℕ)) (i variable : ℕ) (v : Name × ℕ) (before old new : List Equation) → i < length vars → variable ≡ i → v ≡ get_or vars i v
    → old ≡ before ++ flat_map (λ y. map (put_equation (components Q W u y.0)) (tests_at Q y.1.1)) (take i (enumerate_from 0 vars))
    → new ≡ old ++ map (put_equation (components Q W u variable)) (tests_at Q v.1)
    → new ≡ before ++ flat_map (λ y. map (put_equation (components Q W u y.0)) (tests_at Q y.1.1)) (take (i + 1) (enumerate_from 0 vars))
tests_pushed Q W u vars i variable v before old new within number is are added =
    let here : variable ≡ 0 + i = omega arith in
    let read : (variable, v) ≡ get_or (enumerate_from 0 vars) i (variable, v) = (λ j. let p : ℕ × (Name × ℕ) = (here j, is j) in p) ∙ sym (get_or-enumerate_from 0 vars i (variable, v) within) in
    let inside : i < length (enumerate_from 0 vars) = omega (arith, within, length-enumerate_from 0 vars) in
    pushed_more (λ (y : ℕ × (Name × ℕ)). map (put_equation (components Q W u y.0)) (tests_at Q y.1.1)) before old new (enumerate_from 0 vars) (enumerate_from 0 vars) i (variable, v) refl inside are
    (added ∙ ap (λ (y : ℕ × (Name × ℕ)). old ++ map (put_equation (components Q W u y.0)) (tests_at Q y.1.1)) read)

-- the parts of a block
pub block_composed : (Q W : Query) (u : ℕ) (b : Block) → slice_get W.blocks u ≡ Some b → (vars vars' : List (Name × ℕ)) (entities items : List ℕ) (tests some all : List Equation) (attributes attributes' : List TypeTerm) (keys keys' : List (List EntTerm))
    → vars ≡ vars' → vars' ≡ numbered items → items ≡ entities → entities ≡ flat_map (λ y. map (λ v. v.1) (variables_at Q y.1)) b.vars
    → tests ≡ all → all ≡ some ++ flat_map (translated_test Q W u) b.tests → some ≡ [] ++ flat_map (λ y. map (put_equation (components Q W u y.0)) (tests_at Q y.1.1)) (enumerate_from 0 b.vars)
    → attributes ≡ attributes' → attributes' ≡ map (translated Q W u) b.attributes → keys ≡ keys' → keys' ≡ map (flat_map (term_components Q W u)) b.keys
    → (record { vars = vars; tests = tests; attributes = attributes; keys = keys }) ≡ composite_block Q W (u, b)
block_composed Q W u b there vars vars' entities items tests some all attributes attributes' keys keys' own_vars vars_are items_are entities_are own_tests all_are some_are own_attributes attributes_are own_keys keys_are =
    let all_vars : vars ≡ numbered (component_entities Q W u) =
    own_vars ∙ vars_are ∙ ap numbered (items_are ∙ entities_are ∙ ap (λ o. flat_map (λ (y : Name × ℕ). map (λ (v : Name × ℕ). v.1) (variables_at Q y.1)) (variables_in o)) (sym there)) in
    let all_tests = own_tests ∙ all_are ∙ ap (λ l. l ++ flat_map (translated_test Q W u) b.tests) some_are
    ∙ ap (λ o. flat_map (λ (y : ℕ × (Name × ℕ)). map (put_equation (components Q W u y.0)) (tests_at Q y.1.1)) (enumerate_from 0 (variables_in o)) ++ flat_map (translated_test Q W u) (tests_in o)) (sym there) in
    let all_attributes = own_attributes ∙ attributes_are in
    let all_keys = own_keys ∙ keys_are in
    λ i. record { vars = all_vars i; tests = all_tests i; attributes = all_attributes i; keys = all_keys i }

-- the whole composite
pub composite_made : (Q W : Query) (S T : Schema) (blocks : List Block) → S ≡ Q.source → T ≡ W.target → blocks ≡ (composite Q W).blocks
    → (record { source = S; target = T; blocks = blocks }) ≡ composite Q W
composite_made Q W S T blocks source target are = λ i. record { source = source i; target = target i; blocks = are i }

pub composite_made-is : (Q W : Query) (S T : Schema) (blocks : List Block) → S ≡ Q.source → T ≡ W.target → blocks ≡ (composite Q W).blocks
    → IsQuery Q → IsQuery W → W.source ≡ Q.target → is_large (composite Q W) ≡ false → IsQuery (record { source = S; target = T; blocks = blocks })
composite_made-is Q W S T blocks source target are first second same small =
    subst IsQuery (sym (composite_made Q W S T blocks source target are)) (composite_is_query Q W first second (sym same) small)

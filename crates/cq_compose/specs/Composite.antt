-- The composite of two queries: one query that asks what the second asks of the answers of the first.
use Rattle.std.specs.Prelude.{ℕ, Bool, List, [], ◌∷◌, ◌++◌, ◌||◌, map, length, sum, take, nat_lt, codes, decimal}
use Rattle.std.specs.Prelude.{Option, Some, None, slice_get}
use Rattle.std.specs.List.{flat_map, enumerate_from, list_any}
use Rattle.cq_base.specs.declared.name.Name.{Name}
use Rattle.cq_theory.specs.declared.presentation.Equation.{Equation}
use Rattle.cq_theory.specs.declared.presentation.Equation.TheVariants.{Ent, Typ}
use Rattle.cq_theory.specs.declared.term.EntTerm.{EntTerm}
use Rattle.cq_theory.specs.declared.term.TypeTerm.{TypeTerm}
use Rattle.cq_theory.specs.declared.term.TypeTerm.TheVariants as term
use Rattle.cq_theory.specs.declared.term.TypeTerm.TheOpen.{TypeTerm-F}
use Rattle.cq_theory.specs.declared.term.TypeTerm.TheFolds.{fold-TypeTerm}
use Rattle.cq_theory.specs.Carried.{carried_step}
use Rattle.cq_theory.specs.EntTerm as ent
use Rattle.cq_theory.specs.TypeTerm as typ
use Rattle.cq_theory.specs.Presentation.{has_long_side}
use Rattle.cq_blocks.specs.declared.block.Block.{Block}
use Rattle.cq_query.specs.QueryData.{QueryData as Query}
use Rattle.cq_query.specs.Puts.{generators_from, put_type, put_equation}
use Rattle.cq_query.specs.Translation.{variables_at, tests_at, along, attribute_term}
use Rattle.cq_query.specs.Duties.{equal_terms}

-- these entities as variables, named x1, x2, ..
abbrev pub numbered : List ℕ → List (Name × ℕ)
numbered entities = map (λ p. (codes "x" ++ decimal p.0, p.1)) (enumerate_from 1 entities)

-- Q goes from S to T, and W from T to U. A variable y of W's block for an entity u of U, which is of an entity of T,
-- has components: a variable for each one of Q's block for that entity.
module _ (Q W : Query) where
  -- how many components a variable has
  abbrev pub width : Name × ℕ → ℕ
  width y = length (variables_at Q y.1)

  -- the first component of variable y
  abbrev pub first_of : ℕ → ℕ → ℕ
  first_of u y = sum (map width (take y (variables_at W u)))

  abbrev pub components_of : ℕ → ℕ → Option (Name × ℕ) → List EntTerm
  components_of u y None = []
  components_of u y (Some v) = generators_from (first_of u y) (width v)

  -- the components of variable y
  abbrev pub components : ℕ → ℕ → List EntTerm
  components u y = components_of u y (slice_get (variables_at W u) y)

  -- the components of a term over W's block, one for each variable of Q's block for the term's entity
  abbrev pub term_components : ℕ → EntTerm → List EntTerm
  term_components u t = along Q (components u t.generator) t.path

  abbrev pub translated_step : ℕ → TypeTerm-F TypeTerm → TypeTerm
  translated_step u = carried_step term.Gen (λ a t. put_type (term_components u t) (attribute_term Q a))

  -- a type term over W's block, with Q's terms for attributes on the components
  abbrev pub translated : ℕ → TypeTerm → TypeTerm
  translated u = fold-TypeTerm TypeTerm (translated_step u)

  -- an equation between entity terms gives one for each component
  abbrev pub translated_test : ℕ → Equation → List Equation
  translated_test u (Ent t v) = equal_terms (term_components u t) (term_components u v)
  translated_test u (Typ t v) = Typ (translated u t) (translated u v) ∷ []

  -- the entities of all components, variable by variable
  abbrev pub component_entities : ℕ → List ℕ
  component_entities u = flat_map (λ y. map (λ v. v.1) (variables_at Q y.1)) (variables_at W u)

  -- Q's where equations on the components of each variable, and then W's
  abbrev pub composite_tests : ℕ → List Equation
  composite_tests u =
      flat_map (λ y. map (put_equation (components u y.0)) (tests_at Q y.1.1)) (enumerate_from 0 (variables_at W u))
      ++ flat_map (translated_test u) (tests_at W u)

  -- The block of u. For each key: for each variable of the block to which it leads, the components of the key's term.
  abbrev pub composite_block : ℕ × Block → Block
  composite_block b = record {
    vars = numbered (component_entities b.0);
    tests = composite_tests b.0;
    attributes = map (translated b.0) b.1.attributes;
    keys = map (flat_map (term_components b.0)) b.1.keys;
  }

  abbrev pub composite : Query
  composite = record { source = Q.source; target = W.target; blocks = map composite_block (enumerate_from 0 W.blocks) }

-- the block has over 16,000,000 variables, or a term of over 1,024 symbols
abbrev pub is_large_block : Block → Bool
is_large_block b =
    nat_lt 16000000 (length b.vars)
    || list_any has_long_side b.tests
    || list_any (λ t. nat_lt 1024 (typ.symbols_of t)) b.attributes
    || list_any (list_any (λ t. nat_lt 1024 (ent.symbols_of t))) b.keys

abbrev pub is_large : Query → Bool
is_large Q = list_any is_large_block Q.blocks

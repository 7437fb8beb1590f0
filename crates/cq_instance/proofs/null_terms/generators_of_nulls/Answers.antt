use Rattle.std.proofs.Common.{ℕ, [], ◌∷◌, ◌++◌, ◌≡◌, ◌+◌, ◌-◌, length, sum, sym, ap, ◌∙◌, arith}
use Rattle.std.proofs.lemmas.List.FromFn.{map-range_with_len_more}
use Rattle.cq_theory.specs.declared.presentation.Presentation.{Presentation}
use Rattle.cq_theory.specs.declared.term.TypeTerm.TheVariants.{Gen}
use Rattle.cq_theory.specs.declared.value.Algebra.{Algebra}
use Rattle.cq_theory.specs.Canonical.{null_generator}
use Rattle.cq_instance.specs.InstanceData.{InstanceData}
use Rattle.cq_instance.specs.Spelling.{own_term}
use Rattle.cq_instance.proofs.CanonicalGenerators.{generator_count}
use Rattle.cq_instance.proofs.null_terms.generators_of_nulls.Goals as goal

pub overflow_sub-first : goal.overflow_sub-first
overflow_sub-first c =
    let i : InstanceData = c.args.instance.now in
    let count : length c.algebra.result.now.nulls ≡ length i.tables.algebra.nulls = ap (λ (a : Algebra). length a.nulls) c.algebra.ensures.algebra in
    let generators : length c.presentation.result.now.generators ≡ sum i.tables.sheet.counts + length i.tables.algebra.nulls =
    ap (λ (p : Presentation). length p.generators) (c.presentation.ensures.presentation ∙ c.requires.presentation)
    ∙ generator_count i.schema i.tables c.algebra.ensures.instance.well_formed.entities in
    omega (arith, count, generators, c.len-count.ensures, c.len.ensures)

pub overflow_cast-first : goal.overflow_cast-first
overflow_cast-first c =
    let i : InstanceData = c.args.instance.now in
    let count : length c.algebra.result.now.nulls ≡ length i.tables.algebra.nulls = ap (λ (a : Algebra). length a.nulls) c.algebra.ensures.algebra in
    let same : length c.presentation.result.now.generators ≡ length i.presentation.generators = ap (λ (p : Presentation). length p.generators) c.presentation.ensures.presentation in
    let generators : length i.presentation.generators ≡ sum i.tables.sheet.counts + length i.tables.algebra.nulls =
    ap (λ (p : Presentation). length p.generators) c.requires.presentation ∙ generator_count i.schema i.tables c.algebra.ensures.instance.well_formed.entities in
    omega (arith, count, same, generators, c.len-count.ensures, c.len.ensures, c.loop-label-test.true, c.presentation.ensures.instance.presented.count)

pub loop-label-preserved : goal.loop-label-preserved
loop-label-preserved c =
    let i : InstanceData = c.args.instance.now in
    let label : ℕ = c.loop-label.label in
    let count : length c.algebra.result.now.nulls ≡ length i.tables.algebra.nulls = ap (λ (a : Algebra). length a.nulls) c.algebra.ensures.algebra in
    let generators : length c.presentation.result.now.generators ≡ sum i.tables.sheet.counts + length i.tables.algebra.nulls =
    ap (λ (p : Presentation). length p.generators) (c.presentation.ensures.presentation ∙ c.requires.presentation)
    ∙ generator_count i.schema i.tables c.algebra.ensures.instance.well_formed.entities in
    let number : c.len.result - c.len-count.result + label ≡ null_generator i.schema i.tables label = omega (arith, count, generators, c.len-count.ensures, c.len.ensures) in
    c.in_ok-push.ensures.items ∙ (λ j. c.loop-label.invariant j ++ Gen (number j) ∷ []) ∙ sym (map-range_with_len_more (own_term i) 0 label label (omega arith))

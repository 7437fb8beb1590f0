use Rattle.std.proofs.Common.{ℕ, ◌≡◌, ◌+◌, ◌-◌, ◌≤◌, IfOk, length, sum, ap, subst, ◌∙◌, arith}
use Rattle.cq_theory.specs.declared.presentation.Presentation.{Presentation}
use Rattle.cq_theory.specs.declared.term.TypeTerm.{TypeTerm}
use Rattle.cq_theory.specs.declared.value.Algebra.{Algebra}
use Rattle.cq_terms.specs.ValueTerms.{value_term}
use Rattle.cq_instance.specs.InstanceData.{InstanceData, IsInstance}
use Rattle.cq_instance.specs.Given.{given}
use Rattle.cq_adjoint.proofs.SpelledTerms.{generators_are}
use Rattle.cq_adjoint.proofs.SpelledValues.{same_spelling}
use Rattle.cq_adjoint.proofs.crossing.spelled.Goals as goal

-- how many generators and nulls there are
few : (d : InstanceData) → d ≡ given d.schema d.tables → IsInstance d → sum d.tables.sheet.counts + length d.tables.algebra.nulls ≤ 16000000
few d is instance = omega (arith, generators_are d.schema d is instance.well_formed, instance.presented.count)

pub overflow_cast-nulls : goal.overflow_cast-nulls
overflow_cast-nulls c =
    omega (arith, c.len-nulls.ensures, ap (λ (g : Algebra). length g.nulls) c.algebra.ensures.algebra, few c.args.evaluated.now c.requires.given c.algebra.ensures.instance)

pub overflow_sub-generators : goal.overflow_sub-generators
overflow_sub-generators c =
    omega (
      arith,
      c.len-nulls.ensures,
      ap (λ (g : Algebra). length g.nulls) c.algebra.ensures.algebra,
      c.len-generators.ensures,
      ap (λ (P : Presentation). length P.generators) c.presentation.ensures.presentation,
      generators_are c.args.evaluated.now.schema c.args.evaluated.now c.requires.given c.algebra.ensures.instance.well_formed,
    )

pub value_term-requires : goal.value_term-requires
value_term-requires c =
    omega (
      arith,
      c.len-nulls.ensures,
      ap (λ (g : Algebra). length g.nulls) c.algebra.ensures.algebra,
      c.len-generators.ensures,
      ap (λ (P : Presentation). length P.generators) c.presentation.ensures.presentation,
      generators_are c.args.evaluated.now.schema c.args.evaluated.now c.requires.given c.algebra.ensures.instance.well_formed,
      few c.args.evaluated.now c.requires.given c.algebra.ensures.instance,
    )

pub returns : goal.returns
returns c =
    let d : InstanceData = c.args.evaluated.now in
    let nulls : c.len-nulls.result ≡ length d.tables.algebra.nulls = c.len-nulls.ensures ∙ ap (λ (g : Algebra). length g.nulls) c.algebra.ensures.algebra in
    let generators : c.len-generators.result ≡ length d.presentation.generators = c.len-generators.ensures ∙ ap (λ (P : Presentation). length P.generators) c.presentation.ensures.presentation in
    let first : c.len-generators.result - c.len-nulls.result ≡ sum d.tables.sheet.counts = omega (arith, nulls, generators, generators_are d.schema d c.requires.given c.algebra.ensures.instance.well_formed) in
    subst (λ (t : TypeTerm). IfOk c.value_term.result (λ made. made ≡ t))
    (ap (λ (n : ℕ). value_term (c.len-generators.result - c.len-nulls.result) n c.args.value.now) nulls
    ∙ same_spelling d.schema d.tables (c.len-generators.result - c.len-nulls.result) first c.args.value.now c.requires.typed.0 c.requires.typed.1)
    c.value_term.ensures

use Rattle.std.proofs.Common.{ℕ, List, ◌≡◌, ◌<◌, ◌++◌, length, map, sym, subst, arith}
use Rattle.std.specs.List.{flat_map}
use Rattle.cq_theory.specs.declared.presentation.Sort.TheVariants.{Plain}
use Rattle.cq_theory.specs.Canonical.{below}
use Rattle.cq_query.specs.Coeval.{row_sorts}
use Rattle.cq_query.proofs.Copying.{sorts_count}
use Rattle.cq_query.proofs.coeval.build_coeval.Goals as goal

pub build_generators-requires : goal.build_generators-requires
build_generators-requires c =
    let Fits : List ℕ × List ℕ → Type 0 = λ x. length (flat_map (row_sorts c.args.layout.now.query.now x.0) (below (length c.args.layout.now.query.now.target.entities)) ++ map Plain x.1) < 4294967296 in
    let both : (c.args.layout.now.sheet.now.counts, c.args.algebra.now.nulls) ≡ (c.as_slice.result.now, c.as_slice-2.result.now) = λ i. (sym c.as_slice.ensures i, sym c.as_slice-2.ensures i) in
    let count = sorts_count c.args.layout.now.query.now (record { sheet = c.args.layout.now.sheet.now; algebra = c.args.algebra.now }) in
    let fits : length (flat_map (row_sorts c.args.layout.now.query.now c.args.layout.now.sheet.now.counts) (below (length c.args.layout.now.query.now.target.entities)) ++ map Plain c.args.algebra.now.nulls) < 4294967296 =
    omega (arith, count, c.requires.layout.first, c.requires.nulls, c.requires.layout.small) in
    subst Fits both fits

-- The cells of a listed model are constants and nulls, so that none is long.
use Rattle.std.proofs.Common.{ℕ, List, [], Some, ◌≡◌, ◌<◌, ◌≤◌, length, get_or, refl, sym, subst, ◌∙◌, ap, arith}
use Rattle.std.specs.Prelude.{slice_get, slice_index_or, All}
use Rattle.std.proofs.lemmas.Option.{slice_get-get_or, get_or_from_slice_get}
use Rattle.cq_theory.specs.declared.constant.Con.TheVariants.{Named}
use Rattle.cq_theory.specs.declared.presentation.Presentation.{Presentation}
use Rattle.cq_theory.specs.declared.schema.Edge.{Edge}
use Rattle.cq_theory.specs.declared.term.TypeTerm.TheVariants as term
use Rattle.cq_theory.specs.declared.value.Value.{Value}
use Rattle.cq_theory.specs.declared.value.Value.TheVariants.{Const, Null}
use Rattle.cq_theory.specs.Canonical.{canonical_assignment, row_term}
use Rattle.cq_theory.specs.Listed.{Lists}
use Rattle.cq_theory.specs.Schema.{IsSchema}
use Rattle.cq_theory.specs.SchemaData.{SchemaData as Schema}
use Rattle.cq_theory.specs.Tables.{Assignment, IsPlain, IsWellFormed, Tables, count_of, cell_at, value_of, value_step}
use Rattle.cq_theory.specs.Value.{symbols_of, symbols_step}
use Rattle.cq_theory.proofs.TypeTerms.{fold-Att}
use Rattle.cq_theory.proofs.Values.{fold-Const, fold-Null}
use Rattle.cq_instance.proofs.CanonicalDerived as derived
use Rattle.cq_instance.proofs.CanonicalGenerators as generators
use Rattle.cq_transform.proofs.Loops.{member_at}
use Rattle.cq_return.proofs.ListedAgain.{plain_cells}
use Rattle.cq_return.proofs.ListedParts.{cell_plain}

plain_is_short : (v : Value) → IsPlain v → symbols_of v ≤ 1024
plain_is_short (Const c) h = omega (arith, fold-Const ℕ symbols_step c)
plain_is_short (Null n) h = omega (arith, fold-Null ℕ symbols_step n)
plain_is_short _ h = absurd h

module _ (S : Schema) (M : Tables) (schema : IsSchema S) (well : IsWellFormed S M) (P : Presentation) (A : Assignment) (lists : Lists S P M A) where
  cell_short : (a row : ℕ) (edge : Edge) → slice_get S.attributes a ≡ Some edge → row < count_of M edge.from → symbols_of (cell_at M a row) ≤ 1024
  cell_short a row edge at inside =
      let within = derived.count_within S M schema well edge.from row inside in
      let value : value_of M (canonical_assignment S M) (term.Att a (row_term S M edge.from row)) ≡ cell_at M a row =
      fold-Att Value (value_step M (canonical_assignment S M)) a (row_term S M edge.from row)
      ∙ ap (cell_at M a) (generators.row_term_row S M well.entities edge.from row within inside) in
      plain_is_short (cell_at M a row)
      (subst IsPlain value (cell_plain S M schema well (plain_cells S M schema well lists.initial.holds.schema P A lists) edge.from row a edge within inside at refl))

  pub cells_short : All (All (λ v. symbols_of v ≤ 1024)) M.sheet.cells
  cells_short a d among row e inside =
      let edge = member_at S.attributes a (omega (arith, among, well.attributes)) in
      let column : slice_get M.sheet.cells a ≡ Some (get_or M.sheet.cells a d) = slice_get-get_or M.sheet.cells a d among in
      let column_is : slice_index_or M.sheet.cells a [] ≡ get_or M.sheet.cells a d = get_or_from_slice_get M.sheet.cells a (get_or M.sheet.cells a d) [] column in
      let long : length (get_or M.sheet.cells a d) ≡ count_of M edge.0.from = ap length (sym column_is) ∙ (well.cell_columns a edge.0 edge.1).0 in
      let cell : slice_get (get_or M.sheet.cells a d) row ≡ Some (get_or (get_or M.sheet.cells a d) row e) = slice_get-get_or (get_or M.sheet.cells a d) row e inside in
      let cell_is : cell_at M a row ≡ get_or (get_or M.sheet.cells a d) row e =
      ap (λ (l : List Value). slice_index_or l row (Const (Named 0))) column_is ∙ get_or_from_slice_get (get_or M.sheet.cells a d) row (get_or (get_or M.sheet.cells a d) row e) (Const (Named 0)) cell in
      subst (λ (v : Value). symbols_of v ≤ 1024) cell_is (cell_short a row edge.0 edge.1 (omega (arith, inside, long)))

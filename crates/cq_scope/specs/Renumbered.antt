-- Terms whose generators get other numbers.
use Rattle.std.specs.Prelude.{ℕ, List, slice_index}
use Rattle.cq_theory.specs.declared.term.EntTerm.{EntTerm}
use Rattle.cq_theory.specs.declared.term.TypeTerm.{TypeTerm}
use Rattle.cq_theory.specs.declared.term.TypeTerm.TheVariants as term
use Rattle.cq_theory.specs.declared.term.TypeTerm.TheOpen.{TypeTerm-F}
use Rattle.cq_theory.specs.declared.term.TypeTerm.TheFolds.{fold-TypeTerm}
use Rattle.cq_theory.specs.declared.term.Term.{Term}
use Rattle.cq_theory.specs.Carried.{carried_step, carried_term}

-- generator k gets the number at place k
module _ (numbers : List ℕ) where
  abbrev pub entity_renumbered : EntTerm → EntTerm
  entity_renumbered t = record { generator = slice_index numbers t.generator; path = t.path }

  abbrev pub type_renumbered_step : TypeTerm-F TypeTerm → TypeTerm
  type_renumbered_step = carried_step (λ n. term.Gen (slice_index numbers n)) (λ a t. term.Att a (entity_renumbered t))

  abbrev pub type_renumbered : TypeTerm → TypeTerm
  type_renumbered = fold-TypeTerm TypeTerm type_renumbered_step

  abbrev pub renumbered : Term → Term
  renumbered = carried_term entity_renumbered type_renumbered

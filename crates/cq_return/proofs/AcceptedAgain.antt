-- What an instance gives is accepted again, and what is then made is the instance, one to one.
use Rattle.std.proofs.Common.{◌≡◌, ◌≤◌, sum}
use Rattle.std.specs.Prelude.{All}
use Rattle.cq_theory.specs.Canonical.{canonical}
use Rattle.cq_theory.specs.Presentation.{IsPresentation}
use Rattle.cq_theory.specs.Schema.{IsSchema}
use Rattle.cq_theory.specs.Tables.{Initial}
use Rattle.cq_theory.specs.Value.{symbols_of}
use Rattle.cq_instance.specs.Given.{size_of}
use Rattle.cq_instance.specs.InstanceData.{InstanceData, IsInstance}
use Rattle.cq_instance.specs.Listed.{IsListed}
use Rattle.cq_instance.specs.declared.transform.Transform.{Transform}
use Rattle.cq_instance.proofs.CanonicalHolds as model
use Rattle.cq_model.proofs.CanonicalCloses as canonical
use Rattle.cq_transform.specs.OneToOne.{AreOneToOne}
use Rattle.cq_transform.proofs.BothWays.{one_to_one}
use Rattle.cq_return.specs.Accepted.{IsAccepted}

module _ (i : InstanceData) (is : IsInstance i) (schema : IsSchema i.schema) (cells : All (All (λ v. symbols_of v ≤ 1024)) i.tables.sheet.cells) (few : size_of i.tables ≤ 16000000) where
  pub is_presentation : IsPresentation i.schema (canonical i.schema i.tables)
  is_presentation = model.presented i.schema i.tables schema is.well_formed cells is.entries_fit few

  pub accepted : sum i.tables.sheet.counts ≤ 200000 → IsAccepted i.schema (canonical i.schema i.tables)
  accepted rows = record {
    presentation = is_presentation;
    closes = λ depth deep. canonical.closes i.schema i.tables schema is.well_formed depth deep;
    narrow = canonical.narrow i.schema i.tables schema is.well_formed rows;
    consistent = canonical.consistent i.schema i.tables schema is.well_formed is.satisfies;
  }

  pub returned : (j : InstanceData) → Initial i.schema i.presentation i.tables i.assignment → j.schema ≡ i.schema → j.presentation ≡ canonical i.schema i.tables → IsListed j
      → (f : Transform) × (g : Transform) × AreOneToOne i j f g
  returned j initial same presents listed = one_to_one i j schema is.presented initial is_presentation same presents listed.lists.initial

-- An instance of tables is the initial model of its presentation, with least names.
use Rattle.std.proofs.Common.{◌≡◌, sym, ap, subst, ◌∙◌}
use Rattle.cq_theory.specs.SchemaData.{SchemaData as Schema}
use Rattle.cq_theory.specs.Schema.{IsSchema}
use Rattle.cq_theory.specs.Tables.{Tables, IsWellFormed, Satisfies}
use Rattle.cq_theory.specs.Canonical.{canonical, canonical_assignment}
use Rattle.cq_theory.specs.Listed.{IsLeastName}
use Rattle.cq_instance.specs.InstanceData.{InstanceData}
use Rattle.cq_instance.specs.Given.{given}
use Rattle.cq_instance.proofs.CanonicalDerived.{initial}
use Rattle.cq_instance.proofs.CanonicalNames.{least_name}
use Rattle.cq_transform.specs.Nulls.{IsInitial}
use Rattle.cq_adjoint.proofs.SpelledImages.{name_is}

pub given_initial : (S : Schema) (M : Tables) → IsSchema S → IsWellFormed S M → Satisfies S M → (d : InstanceData) → d ≡ given S M → IsInitial d
given_initial S M schema well satisfies d is = subst IsInitial (sym is) (
  initial S M schema well satisfies,
  λ e row inside. subst (IsLeastName S (canonical S M) M (canonical_assignment S M) e row) (sym (name_is S M well e row inside)) (least_name S M schema well e row inside),
)

-- what is the instance of some tables is that of its own
pub given_itself : (d : InstanceData) (S : Schema) (M : Tables) → d ≡ given S M → d ≡ given d.schema d.tables
given_itself d S M is = is ∙ (λ k. given (ap (λ (x : InstanceData). x.schema) (sym is) k) (ap (λ (x : InstanceData). x.tables) (sym is) k))

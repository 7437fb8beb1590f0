-- What stands for what is posed will be settled.
use Rattle.std.proofs.Common.{sym, subst}
use Rattle.std.specs.Prelude.{Result, Ok, Err, IfOk}
use Rattle.cq_base.specs.declared.name.Name.{Name}
use Rattle.cq_environment.specs.Meanings.{Meant, Environment}
use Rattle.cq_program.specs.Posed.{Posed, a_typeside, a_schema, a_mapping, an_identity, a_colimit, an_inclusion, a_query, a_composite, a_mapping_query, a_presentation, a_made, a_delta, an_eval, a_transform, a_move}
use Rattle.cq_environment.specs.Environment.{IsModelled, IsPrinted, WillSettle}
use Rattle.cq_program.specs.Program.{Stands}
use Rattle.cq_program.specs.Posing.{IsGrounded}

-- what stands for a grounded statement will be settled
pub stands_settled : (env : Environment) (name : Name) (posed : Posed) (m : Meant) → IsGrounded env name posed → Stands posed m → IsModelled m → WillSettle env name m
stands_settled env name (a_typeside T) m grounded stands modelled = subst (WillSettle env name) (sym stands) tt
stands_settled env name (a_schema S) m grounded stands modelled = subst (WillSettle env name) (sym stands) grounded
stands_settled env name (a_mapping n t F) m grounded stands modelled = subst (WillSettle env name) (sym stands.0) (stands.1, grounded.0, grounded.1)
stands_settled env name (an_identity n S) m grounded stands modelled = subst (WillSettle env name) (sym stands) (grounded.0, grounded.1, grounded.1)
stands_settled env name (a_colimit c) m grounded stands modelled = subst (WillSettle env name) (sym stands) grounded
stands_settled env name (an_inclusion n t F) m grounded stands modelled = subst (WillSettle env name) (sym stands) grounded
stands_settled env name (a_query n t Q) m grounded stands modelled = subst (WillSettle env name) (sym stands.0) (stands.1, grounded.0, grounded.1)
stands_settled env name (a_composite n t Q W) m grounded stands modelled =
    subst (WillSettle env name) (sym stands.0) (subst IsModelled stands.0 modelled, grounded.0, grounded.1)
stands_settled env name (a_mapping_query n t F) m grounded stands modelled =
    subst (WillSettle env name) (sym stands) (subst IsModelled stands modelled, grounded.0, grounded.1)
stands_settled env name (a_presentation n S P) m grounded stands modelled =
    subst (WillSettle env name) (sym stands.1) (subst (IsPrinted env n) (sym stands.2.over) grounded, subst IsModelled stands.1 modelled)
stands_settled env name (a_made n S P) m grounded stands modelled =
    subst (WillSettle env name) (sym stands.1) (subst (IsPrinted env n) (sym stands.2.over) grounded, subst IsModelled stands.1 modelled)
stands_settled env name (a_delta n F M) m grounded stands modelled = subst (WillSettle env name) (sym stands.0) (grounded, subst IsModelled stands.0 modelled)
stands_settled env name (an_eval n Q M) m grounded stands modelled = subst (WillSettle env name) (sym stands.1) (grounded, subst IsModelled stands.1 modelled)
stands_settled env name (a_transform e images) m grounded stands modelled = subst (WillSettle env name) (sym stands.1) (grounded, stands.2.goes)
stands_settled env name (a_move v) m grounded stands modelled = subst (WillSettle env name) (sym stands.1) (grounded, stands.2.goes)

pub settled_result : {X R : Type 0} (view : X → Meant) (env : Environment) (name : Name) (posed : Posed) (r : Result X R) → IsGrounded env name posed
    → IfOk r (λ x. Stands posed (view x)) → IfOk r (λ x. IsModelled (view x)) → IfOk r (λ x. WillSettle env name (view x))
settled_result view env name posed (Ok x) grounded stands modelled = stands_settled env name posed (view x) grounded stands modelled
settled_result view env name posed (Err refusal) grounded stands modelled = tt

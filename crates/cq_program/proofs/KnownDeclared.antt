-- What is known of a declared name: its instance is built, and is what the declaration makes of its operand.
use Rattle.std.proofs.Common.{◌≡◌, Bool, true, false, Some, None, inl, inr, refl, sym, ap, ◌∙◌, subst}
use Rattle.std.specs.Prelude.{if◌then◌else◌, not, Ok, Err}
use Rattle.cq_base.specs.declared.name.Name.{Name}
use Rattle.cq_base.specs.declared.place.Place.{Place}
use Rattle.cq_base.specs.Names.{same_name}
use Rattle.cq_syntax.specs.declared.part.Spot.{Spot}
use Rattle.cq_syntax.specs.declared.program.Decl.{Decl}
use Rattle.cq_syntax.specs.declared.program.Body.{Body}
use Rattle.cq_syntax.specs.declared.program.Body.TheVariants.{Typeside, Schema, Colimit, Instance, Mapping, Query, Transform as Transformed}
use Rattle.cq_syntax.specs.declared.program.InstanceExp.TheVariants as instance_exp
use Rattle.cq_mapping.specs.Images.{sigma}
use Rattle.cq_query.specs.Coeval.{coeval_of}
use Rattle.cq_environment.specs.declared.moved.Operation.TheVariants as operation
use Rattle.cq_environment.specs.declared.reason.Reason.{Reason}
use Rattle.cq_environment.specs.Moves.{moved_by, moved_of}
use Rattle.cq_environment.specs.Meanings.{Checked, Environment, InstanceMeant, MappingMeant, Meant, QueryMeant, and_then, binding}
use Rattle.cq_environment.specs.Meanings.{typeside, schema, colimit, mapping, query, instance, transform, instance_used, mapping_used, query_used}
use Rattle.cq_environment.specs.Routes.{by_sigma, by_delta, by_eval, by_coeval}
use Rattle.cq_program.specs.Posed.{Posed, a_typeside, a_schema, a_mapping, an_identity, a_colimit, an_inclusion, a_query, a_composite, a_mapping_query, a_presentation, a_made, a_delta, an_eval, a_transform, a_move}
use Rattle.cq_program.specs.Moves.{delta_between, delta_posed, sigma_between, sigma_posed}
use Rattle.cq_program.specs.Evals.{eval_between, eval_posed, coeval_between, coeval_posed}
use Rattle.cq_program.specs.Checks.{Stated, at_once, body_stated}
use Rattle.cq_environment.specs.Environment.{AreSettled, IsBuiltAs, IsKnown, IsMovedAs}
use Rattle.cq_program.specs.Folders.{Told, Reads}
use Rattle.cq_program.proofs.Known.{after, one_ok}
use Rattle.cq_program.proofs.Poses.{fresh, stated_on}
use Rattle.cq_program.proofs.Settled.{instance_meant_by, instance_settled, mapping_meant_by, mapping_settled, query_meant_by, query_settled, one_printed}
use Rattle.cq_program.specs.Program.{Declares, Stands}

-- what stands for something is built
built : (posed : Posed) (m : Meant) → Stands posed m → IsBuiltAs m
built (a_typeside T) m stands = subst IsBuiltAs (sym stands) tt
built (a_schema S) m stands = subst IsBuiltAs (sym stands) tt
built (a_mapping n t F) m stands = subst IsBuiltAs (sym stands.0) tt
built (an_identity n S) m stands = subst IsBuiltAs (sym stands) tt
built (a_colimit c) m stands = subst IsBuiltAs (sym stands) tt
built (an_inclusion n t F) m stands = subst IsBuiltAs (sym stands) tt
built (a_query n t Q) m stands = subst IsBuiltAs (sym stands.0) tt
built (a_composite n t Q W) m stands = subst IsBuiltAs (sym stands.0) tt
built (a_mapping_query n t F) m stands = subst IsBuiltAs (sym stands) tt
built (a_presentation n S P) m stands = subst IsBuiltAs (sym stands.1) (inl stands.2.listed)
built (a_made n S P) m stands = subst IsBuiltAs (sym stands.1) (inl stands.2.listed)
built (a_delta n F M) m stands = subst IsBuiltAs (sym stands.0) (inr refl)
built (an_eval n Q M) m stands = subst IsBuiltAs (sym stands.1) (inr refl)
built (a_transform e images) m stands = subst IsBuiltAs (sym stands.1) tt
built (a_move v) m stands = subst IsBuiltAs (sym stands.1) tt

unmoved : (env : Environment) (m : Meant) → IsMovedAs env m None
unmoved env (typeside T) = tt
unmoved env (schema S) = tt
unmoved env (colimit c) = tt
unmoved env (mapping n t F) = tt
unmoved env (query n t Q) = tt
unmoved env (instance n i) = tt
unmoved env (transform e t) = tt

fits : (b : Bool) (p q : Posed) (at : Place × Reason) → ◌≡◌ {A = Checked Posed} (if b then Ok p else Err at) (Ok q) → (false ≡ not b) × (p ≡ q)
fits true p q at is = (refl, one_ok p q is)
fits false p q at is = absurd (cc is)

-- what is posed at once and read is that
read_at_once : (told : Told) (check : Checked Posed) (stated : Stated) (posed : Posed) → and_then check (λ p. Ok (at_once p)) ≡ Ok stated → Reads told stated posed → check ≡ Ok posed
read_at_once told (Err at) stated posed is reads = absurd (cc is)
read_at_once told (Ok p) stated posed is reads =
    let one : at_once p ≡ stated = one_ok (at_once p) stated is in
    let same : posed ≡ p = subst (λ (s : Stated). Reads told s posed) (sym one) reads in
    ap (λ (q : Posed). Ok q) (sym same)

module _ (env : Environment) (along spot : Spot) (posed : Posed) (m : Meant) (settled : AreSettled env) where
  sigma_moved : sigma_posed env along spot ≡ Ok posed → Stands posed m → IsMovedAs env m (Some (moved_by operation.Sigma along.name spot.name))
  sigma_moved is stands =
      let p = after (mapping_used env along) (λ F. and_then (instance_used env spot) (λ i. sigma_between spot F i)) posed is in
      let F : MappingMeant = p.0 in
      let q = after (instance_used env spot) (λ i. sigma_between spot F i) posed p.2 in
      let i : InstanceMeant = q.0 in
      let made = fits (same_name F.source i.schema) (a_made F.target F.mapping.target (sigma F.mapping i.instance.presentation)) posed _ q.2 in
      let s : Stands (a_made F.target F.mapping.target (sigma F.mapping i.instance.presentation)) m = subst (λ (x : Posed). Stands x m) (sym made.1) stands in
      subst (λ (x : Meant). IsMovedAs env x (Some (moved_by operation.Sigma along.name spot.name))) (sym s.1) (record {
        along = mapping F.source F.target F.mapping;
        route = by_sigma F.mapping;
        schema = i.schema;
        operand = i.instance;
        along_is = mapping_meant_by env along F p.1;
        route_is = refl;
        operand_is = instance_meant_by env spot i q.1;
        moved = record {
          over = sym (one_printed env F.source i.schema F.mapping.source i.instance.schema (mapping_settled env along F settled p.1).1 (instance_settled env spot i settled q.1) made.0);
          schema = s.2.over;
          presentation = s.2.presents;
        };
      })

  delta_moved : delta_posed env along spot ≡ Ok posed → Stands posed m → IsMovedAs env m (Some (moved_by operation.Delta along.name spot.name))
  delta_moved is stands =
      let p = after (mapping_used env along) (λ F. and_then (instance_used env spot) (λ i. delta_between spot F i)) posed is in
      let F : MappingMeant = p.0 in
      let q = after (instance_used env spot) (λ i. delta_between spot F i) posed p.2 in
      let i : InstanceMeant = q.0 in
      let made = fits (same_name F.target i.schema) (a_delta F.source F.mapping i.instance.tables) posed _ q.2 in
      let s : Stands (a_delta F.source F.mapping i.instance.tables) m = subst (λ (x : Posed). Stands x m) (sym made.1) stands in
      subst (λ (x : Meant). IsMovedAs env x (Some (moved_by operation.Delta along.name spot.name))) (sym s.0) (record {
        along = mapping F.source F.target F.mapping;
        route = by_delta F.mapping;
        schema = i.schema;
        operand = i.instance;
        along_is = mapping_meant_by env along F p.1;
        route_is = refl;
        operand_is = instance_meant_by env spot i q.1;
        moved = record {
          over = sym (one_printed env F.target i.schema F.mapping.target i.instance.schema (mapping_settled env along F settled p.1).2 (instance_settled env spot i settled q.1) made.0);
          instance = refl;
        };
      })

  eval_moved : eval_posed env along spot ≡ Ok posed → Stands posed m → IsMovedAs env m (Some (moved_by operation.Eval along.name spot.name))
  eval_moved is stands =
      let p = after (query_used env along) (λ Q. and_then (instance_used env spot) (λ i. eval_between spot Q i)) posed is in
      let Q : QueryMeant = p.0 in
      let q = after (instance_used env spot) (λ i. eval_between spot Q i) posed p.2 in
      let i : InstanceMeant = q.0 in
      let made = fits (same_name Q.source i.schema) (an_eval Q.target Q.query i.instance.tables) posed _ q.2 in
      let s : Stands (an_eval Q.target Q.query i.instance.tables) m = subst (λ (x : Posed). Stands x m) (sym made.1) stands in
      subst (λ (x : Meant). IsMovedAs env x (Some (moved_by operation.Eval along.name spot.name))) (sym s.1) (record {
        along = query Q.source Q.target Q.query;
        route = by_eval Q.query;
        schema = i.schema;
        operand = i.instance;
        along_is = query_meant_by env along Q p.1;
        route_is = refl;
        operand_is = instance_meant_by env spot i q.1;
        moved = record {
          over = sym (one_printed env Q.source i.schema Q.query.source i.instance.schema (query_settled env along Q settled p.1).1 (instance_settled env spot i settled q.1) made.0);
          tables = s.2.eval;
          instance = refl;
        };
      })

  coeval_moved : coeval_posed env along spot ≡ Ok posed → Stands posed m → IsMovedAs env m (Some (moved_by operation.Coeval along.name spot.name))
  coeval_moved is stands =
      let p = after (query_used env along) (λ Q. and_then (instance_used env spot) (λ i. coeval_between spot Q i)) posed is in
      let Q : QueryMeant = p.0 in
      let q = after (instance_used env spot) (λ i. coeval_between spot Q i) posed p.2 in
      let i : InstanceMeant = q.0 in
      let made = fits (same_name Q.target i.schema) (a_made Q.source Q.query.source (coeval_of Q.query i.instance.tables)) posed _ q.2 in
      let s : Stands (a_made Q.source Q.query.source (coeval_of Q.query i.instance.tables)) m = subst (λ (x : Posed). Stands x m) (sym made.1) stands in
      subst (λ (x : Meant). IsMovedAs env x (Some (moved_by operation.Coeval along.name spot.name))) (sym s.1) (record {
        along = query Q.source Q.target Q.query;
        route = by_coeval Q.query;
        schema = i.schema;
        operand = i.instance;
        along_is = query_meant_by env along Q p.1;
        route_is = refl;
        operand_is = instance_meant_by env spot i q.1;
        moved = record {
          over = sym (one_printed env Q.target i.schema Q.query.target i.instance.schema (query_settled env along Q settled p.1).2 (instance_settled env spot i settled q.1) made.0);
          schema = s.2.over;
          presentation = s.2.presents;
        };
      })

moved_body : (told : Told) (env : Environment) (place : Place) (name : Name) (body : Body) (stated : Stated) (posed : Posed) (m : Meant) → AreSettled env
    → body_stated env place name body ≡ Ok stated → Reads told stated posed → Stands posed m → IsMovedAs env m (moved_of body)
moved_body told env place name (Instance (instance_exp.Sigma along spot)) stated posed m settled is reads stands =
    sigma_moved env along spot posed m settled (read_at_once told (sigma_posed env along spot) stated posed is reads) stands
moved_body told env place name (Instance (instance_exp.Delta along spot)) stated posed m settled is reads stands =
    delta_moved env along spot posed m settled (read_at_once told (delta_posed env along spot) stated posed is reads) stands
moved_body told env place name (Instance (instance_exp.Eval along spot)) stated posed m settled is reads stands =
    eval_moved env along spot posed m settled (read_at_once told (eval_posed env along spot) stated posed is reads) stands
moved_body told env place name (Instance (instance_exp.Coeval along spot)) stated posed m settled is reads stands =
    coeval_moved env along spot posed m settled (read_at_once told (coeval_posed env along spot) stated posed is reads) stands
moved_body told env place name (Instance (instance_exp.Literal lit)) stated posed m settled is reads stands = unmoved env m
moved_body told env place name (Instance (instance_exp.Coproduct spots spot)) stated posed m settled is reads stands = unmoved env m
moved_body told env place name (Instance (instance_exp.Pushout first second)) stated posed m settled is reads stands = unmoved env m
moved_body told env place name (Instance (instance_exp.ImportCsv dir spot options)) stated posed m settled is reads stands = unmoved env m
moved_body told env place name (Instance (instance_exp.ImportCsv2 dir spot options)) stated posed m settled is reads stands = unmoved env m
moved_body told env place name (Typeside lit) stated posed m settled is reads stands = unmoved env m
moved_body told env place name (Schema x) stated posed m settled is reads stands = unmoved env m
moved_body told env place name (Colimit lit) stated posed m settled is reads stands = unmoved env m
moved_body told env place name (Mapping x) stated posed m settled is reads stands = unmoved env m
moved_body told env place name (Query x) stated posed m settled is reads stands = unmoved env m
moved_body told env place name (Transformed x) stated posed m settled is reads stands = unmoved env m

pub declared_known : (told : Told) (env : Environment) (d : Decl) (m : Meant) → AreSettled env → Declares told env d m → IsKnown env (binding d m)
declared_known told env d m settled h = (
  built h.posed m h.stands,
  moved_body told env d.place d.name d.body h.stated h.posed m settled (sym (stated_on env d (fresh env d h.stated h.checked)) ∙ h.checked) h.reads h.stands,
)

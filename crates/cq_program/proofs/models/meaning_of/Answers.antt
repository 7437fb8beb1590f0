use Rattle.std.proofs.Common.{◌≡◌, inl, map, refl, sym, ap, subst, ◌∙◌}
use Rattle.cq_query.specs.QueryData.{QueryData}
use Rattle.cq_query.specs.Duties.{Sound}
use Rattle.cq_query.specs.Coeval.{coeval_of}
use Rattle.cq_transform.specs.Gluing.{coproduct_of}
use Rattle.std.specs.Prelude.{IfOk, IfErr}
use Rattle.cq_mapping.specs.MappingData.{MappingData}
use Rattle.cq_mapping.specs.Duties.{Preserves}
use Rattle.cq_mapping.specs.Images.{sigma}
use Rattle.cq_program.specs.declared.statement.Statement.{Statement}
use Rattle.cq_environment.specs.declared.refusal.ProgramRefusal.TheVariants as program_refusal
use Rattle.cq_environment.specs.declared.reason.Reason.TheVariants as reason
use Rattle.cq_program.specs.Posed.{Posed, a_composite, a_delta, a_made, a_mapping_query, an_eval}
use Rattle.cq_environment.specs.Environment.{meant}
use Rattle.cq_program.specs.Posing.{IsPosed, posed_as}
use Rattle.cq_program.specs.Judging.{TellsUnmade}
use Rattle.cq_program.specs.Program.{Stands}
use Rattle.cq_program.proofs.models.meaning_of.Goals as goal

pub mean_delta-requires-clause-preserves : goal.mean_delta-requires-clause-preserves
mean_delta-requires-clause-preserves c =
    let posed = subst IsPosed c.in-Delta.is c.requires.posed in
    subst (λ (F : MappingData). Preserves F) (sym c.deref.ensures) posed.0

pub returns-in-Delta-clause-stands : goal.returns-in-Delta-clause-stands
returns-in-Delta-clause-stands c =
    let posed : a_delta c.in-Delta.name c.deref.result.now c.deref-in-Delta.result.now.tables ≡ posed_as c.args.statement =
    (λ j. a_delta c.in-Delta.name (c.deref.ensures j) ((c.deref-in-Delta.ensures j).tables)) ∙ sym (ap posed_as c.in-Delta.is) in
    subst (λ (p : Posed). IfOk c.mean_delta.result (λ meaning. Stands p (meant meaning))) posed c.mean_delta.ensures.stands

pub returns-in-Delta-clause-refused : goal.returns-in-Delta-clause-refused
returns-in-Delta-clause-refused c =
    let posed : a_delta c.in-Delta.name c.deref.result.now c.deref-in-Delta.result.now.tables ≡ posed_as c.args.statement =
    (λ j. a_delta c.in-Delta.name (c.deref.ensures j) ((c.deref-in-Delta.ensures j).tables)) ∙ sym (ap posed_as c.in-Delta.is) in
    subst (λ (p : Posed). IfErr c.mean_delta.result (TellsUnmade c.args.depth c.args.place p)) posed (c.mean_delta.ensures.refused c.args.depth)

pub returns-in-Sigma-clause-stands : goal.returns-in-Sigma-clause-stands
returns-in-Sigma-clause-stands c =
    let posed : a_made c.in-Sigma.name c.deref-in-Sigma.result.now.target (sigma c.deref-in-Sigma.result.now c.deref-in-Sigma-2.result.now.presentation) ≡ posed_as c.args.statement =
    (λ j. a_made c.in-Sigma.name ((c.deref-in-Sigma.ensures j).target) (sigma (c.deref-in-Sigma.ensures j) ((c.deref-in-Sigma-2.ensures j).presentation))) ∙ sym (ap posed_as c.in-Sigma.is) in
    subst (λ (p : Posed). IfOk c.mean_sigma.result (λ meaning. Stands p (meant meaning))) posed c.mean_sigma.ensures.stands

pub returns-in-Sigma-clause-refused : goal.returns-in-Sigma-clause-refused
returns-in-Sigma-clause-refused c =
    let posed : a_made c.in-Sigma.name c.deref-in-Sigma.result.now.target (sigma c.deref-in-Sigma.result.now c.deref-in-Sigma-2.result.now.presentation) ≡ posed_as c.args.statement =
    (λ j. a_made c.in-Sigma.name ((c.deref-in-Sigma.ensures j).target) (sigma (c.deref-in-Sigma.ensures j) ((c.deref-in-Sigma-2.ensures j).presentation))) ∙ sym (ap posed_as c.in-Sigma.is) in
    subst (λ (p : Posed). IfErr c.mean_sigma.result (TellsUnmade c.args.depth c.args.place p)) posed c.mean_sigma.ensures.refused

pub mean_eval-requires-clause-sound : goal.mean_eval-requires-clause-sound
mean_eval-requires-clause-sound c =
    let posed = subst IsPosed c.in-Eval.is c.requires.posed in
    subst (λ (Q : QueryData). Sound Q) (sym c.deref-in-Eval.ensures) posed.0

pub returns-in-Eval-clause-refused : goal.returns-in-Eval-clause-refused
returns-in-Eval-clause-refused c =
    let posed : an_eval c.in-Eval.name c.deref-in-Eval.result.now c.deref-in-Eval-2.result.now.tables ≡ posed_as c.args.statement =
    (λ j. an_eval c.in-Eval.name (c.deref-in-Eval.ensures j) ((c.deref-in-Eval-2.ensures j).tables)) ∙ sym (ap posed_as c.in-Eval.is) in
    subst (λ (p : Posed). IfErr c.mean_eval.result (TellsUnmade c.args.depth c.args.place p)) posed (c.mean_eval.ensures.refused c.args.depth)

pub returns-in-Coeval-clause-stands : goal.returns-in-Coeval-clause-stands
returns-in-Coeval-clause-stands c =
    let posed : a_made c.in-Coeval.name c.deref-in-Coeval.result.now.source (coeval_of c.deref-in-Coeval.result.now c.deref-in-Coeval-2.result.now.tables) ≡ posed_as c.args.statement =
    (λ j. a_made c.in-Coeval.name ((c.deref-in-Coeval.ensures j).source) (coeval_of (c.deref-in-Coeval.ensures j) ((c.deref-in-Coeval-2.ensures j).tables))) ∙ sym (ap posed_as c.in-Coeval.is) in
    subst (λ (p : Posed). IfOk c.mean_coeval.result (λ meaning. Stands p (meant meaning))) posed c.mean_coeval.ensures.stands

pub returns-in-Coeval-clause-refused : goal.returns-in-Coeval-clause-refused
returns-in-Coeval-clause-refused c =
    let posed : a_made c.in-Coeval.name c.deref-in-Coeval.result.now.source (coeval_of c.deref-in-Coeval.result.now c.deref-in-Coeval-2.result.now.tables) ≡ posed_as c.args.statement =
    (λ j. a_made c.in-Coeval.name ((c.deref-in-Coeval.ensures j).source) (coeval_of (c.deref-in-Coeval.ensures j) ((c.deref-in-Coeval-2.ensures j).tables))) ∙ sym (ap posed_as c.in-Coeval.is) in
    subst (λ (p : Posed). IfErr c.mean_coeval.result (TellsUnmade c.args.depth c.args.place p)) posed c.mean_coeval.ensures.refused

pub mean_composite-requires-clause-first : goal.mean_composite-requires-clause-first
mean_composite-requires-clause-first c =
    let posed = subst IsPosed c.in-Composite.is c.requires.posed in
    subst (λ (Q : QueryData). Sound Q) (sym c.deref-in-Composite.ensures) posed.0

pub mean_composite-requires-clause-second : goal.mean_composite-requires-clause-second
mean_composite-requires-clause-second c =
    let posed = subst IsPosed c.in-Composite.is c.requires.posed in
    subst (λ (Q : QueryData). Sound Q) (sym c.deref-in-Composite-2.ensures) posed.1

pub mean_composite-requires-clause-over : goal.mean_composite-requires-clause-over
mean_composite-requires-clause-over c =
    let posed = subst IsPosed c.in-Composite.is c.requires.posed in
    ap (λ (Q : QueryData). Q.source) c.deref-in-Composite-2.ensures ∙ posed.2 ∙ sym (ap (λ (Q : QueryData). Q.target) c.deref-in-Composite.ensures)

pub returns-in-Composite-clause-stands : goal.returns-in-Composite-clause-stands
returns-in-Composite-clause-stands c =
    let posed : a_composite c.in-Composite.source c.in-Composite.target c.deref-in-Composite.result.now c.deref-in-Composite-2.result.now ≡ posed_as c.args.statement =
    (λ j. a_composite c.in-Composite.source c.in-Composite.target (c.deref-in-Composite.ensures j) (c.deref-in-Composite-2.ensures j)) ∙ sym (ap posed_as c.in-Composite.is) in
    subst (λ (p : Posed). IfOk c.mean_composite.result (λ meaning. Stands p (meant meaning))) posed c.mean_composite.ensures.stands

pub returns-in-Composite-clause-refused : goal.returns-in-Composite-clause-refused
returns-in-Composite-clause-refused c =
    let posed : a_composite c.in-Composite.source c.in-Composite.target c.deref-in-Composite.result.now c.deref-in-Composite-2.result.now ≡ posed_as c.args.statement =
    (λ j. a_composite c.in-Composite.source c.in-Composite.target (c.deref-in-Composite.ensures j) (c.deref-in-Composite-2.ensures j)) ∙ sym (ap posed_as c.in-Composite.is) in
    subst (λ (p : Posed). IfErr c.mean_composite.result (TellsUnmade c.args.depth c.args.place p)) posed (c.mean_composite.ensures.refused c.args.depth)

pub mean_mapping_query-requires : goal.mean_mapping_query-requires
mean_mapping_query-requires c =
    let posed = subst IsPosed c.in-MappingQuery.is c.requires.posed in
    record { preserves = subst (λ (F : MappingData). Preserves F) (sym c.deref-in-MappingQuery.ensures) posed }

pub returns-in-MappingQuery-clause-stands : goal.returns-in-MappingQuery-clause-stands
returns-in-MappingQuery-clause-stands c =
    let posed : a_mapping_query c.in-MappingQuery.source c.in-MappingQuery.target c.deref-in-MappingQuery.result.now ≡ posed_as c.args.statement =
    (λ j. a_mapping_query c.in-MappingQuery.source c.in-MappingQuery.target (c.deref-in-MappingQuery.ensures j)) ∙ sym (ap posed_as c.in-MappingQuery.is) in
    subst (λ (p : Posed). IfOk c.mean_mapping_query.result (λ meaning. Stands p (meant meaning))) posed c.mean_mapping_query.ensures.stands

pub returns-in-MappingQuery-clause-refused : goal.returns-in-MappingQuery-clause-refused
returns-in-MappingQuery-clause-refused c =
    let posed : a_mapping_query c.in-MappingQuery.source c.in-MappingQuery.target c.deref-in-MappingQuery.result.now ≡ posed_as c.args.statement =
    (λ j. a_mapping_query c.in-MappingQuery.source c.in-MappingQuery.target (c.deref-in-MappingQuery.ensures j)) ∙ sym (ap posed_as c.in-MappingQuery.is) in
    subst (λ (p : Posed). IfErr c.mean_mapping_query.result (TellsUnmade c.args.depth c.args.place p)) posed (c.mean_mapping_query.ensures.refused c.args.depth c.args.place)

pub returns-in-Coproduct-clause-stands : goal.returns-in-Coproduct-clause-stands
returns-in-Coproduct-clause-stands c =
    let posed : a_made c.in-Coproduct.name c.in-Coproduct.schema.value (coproduct_of (map (λ part. part.value.presentation) c.as_slice.result.now)) ≡ posed_as c.args.statement =
    (λ j. a_made c.in-Coproduct.name c.in-Coproduct.schema.value (coproduct_of (map (λ part. part.value.presentation) (c.as_slice.ensures j)))) ∙ sym (ap posed_as c.in-Coproduct.is) in
    subst (λ (p : Posed). IfOk c.mean_coproduct.result (λ meaning. Stands p (meant meaning))) posed c.mean_coproduct.ensures.stands

pub returns-in-Pushout-clause-stands : goal.returns-in-Pushout-clause-stands
returns-in-Pushout-clause-stands c =
    subst (λ (p : Posed). IfOk c.mean_pushout.result (λ meaning. Stands p (meant meaning))) (sym (ap posed_as c.in-Pushout.is)) c.mean_pushout.ensures.stands

pub returns-in-Pushout-clause-refused : goal.returns-in-Pushout-clause-refused
returns-in-Pushout-clause-refused c =
    subst (λ (p : Posed). IfErr c.mean_pushout.result (TellsUnmade c.args.depth c.args.place p)) (sym (ap posed_as c.in-Pushout.is)) c.mean_pushout.ensures.refused

pub returns-in-Broken-clause-refused : goal.returns-in-Broken-clause-refused
returns-in-Broken-clause-refused c =
    let number = c.in-Broken.images.number in
    subst (λ (s : Statement). TellsUnmade c.args.depth c.args.place (posed_as s) (program_refusal.Broken c.args.place (reason.Broken number))) (sym c.in-Broken.is)
    (refl, inl (number, refl, subst IsPosed c.in-Broken.is c.requires.posed))

pub mean_move-requires : goal.mean_move-requires
mean_move-requires c = subst IsPosed c.in-Move.is c.requires.posed

pub returns-in-Move-clause-stands : goal.returns-in-Move-clause-stands
returns-in-Move-clause-stands c =
    subst (λ (p : Posed). IfOk c.mean_move.result (λ meaning. Stands p (meant meaning))) (sym (ap posed_as c.in-Move.is)) c.mean_move.ensures.stands

pub returns-in-Move-clause-refused : goal.returns-in-Move-clause-refused
returns-in-Move-clause-refused c =
    subst (λ (p : Posed). IfErr c.mean_move.result (TellsUnmade c.args.depth c.args.place p)) (sym (ap posed_as c.in-Move.is)) (c.mean_move.ensures.refused c.args.depth)

-- What the checks of a movement give, step by step.
use Rattle.std.proofs.Common.{◌≡◌, Bool, true, false, refl, sym, ap, ◌∙◌, subst}
use Rattle.std.specs.Prelude.{if◌then◌else◌, not, Ok, Err}
use Rattle.cq_base.specs.declared.name.Name.{Name}
use Rattle.cq_base.specs.Names.{same_name}
use Rattle.cq_instance.specs.InstanceData.{InstanceData}
use Rattle.cq_syntax.specs.declared.part.Spot.{Spot}
use Rattle.cq_environment.specs.declared.moved.Operation.{Operation}
use Rattle.cq_environment.specs.declared.reason.Reason.TheVariants.{WrongOperand, WrongSchema}
use Rattle.cq_environment.specs.declared.refusal.ProgramRefusal.{ProgramRefusal}
use Rattle.cq_environment.specs.Meanings.{Checked, Ends, Environment, InstanceMeant, TransformMeant, and_then, instance_used, transform_used}
use Rattle.cq_environment.specs.Routes.{Route}
use Rattle.cq_program.specs.Movements.{Move, along_checked, along_fits, between_used, counit_checked, counit_fits, ends_used, is_declared, moved_along, route_used}
use Rattle.cq_program.specs.Movements.{there_and_back, unit_checked, unit_fits}
use Rattle.cq_environment.specs.Environment.{TellsChecked}
use Rattle.cq_program.proofs.Given.{refused_after, refused_then}

-- a test that is passed, and one that isn't
passed : {A : Type 0} (b : Bool) (go stop : A) → b ≡ true → (if b then go else stop) ≡ go
passed b go stop is = ap (λ (x : Bool). if x then go else stop) is

failed : {A : Type 0} (b : Bool) (go stop : A) → b ≡ false → (if b then go else stop) ≡ stop
failed b go stop is = ap (λ (x : Bool). if x then go else stop) is

-- the two of a comparison that is negated
pub same_names : (b : Bool) → false ≡ not b → b ≡ true
same_names true h = refl
same_names false h = absurd (cc h)

pub other_names : (b : Bool) → true ≡ not b → b ≡ false
other_names true h = absurd (cc h)
other_names false h = refl

-- the ends are refused, behind what is used before them
module _ (env : Environment) (op : Operation) (by moved source target : Spot) (x : Name × Route) (route_is : route_used env op by ≡ Ok x) (answer : ProgramRefusal)
    (refuses : TellsChecked answer (ends_used env source target)) where
  pub along_ends : (h : TransformMeant) → transform_used env moved ≡ Ok h → TellsChecked answer (along_checked env op by moved source target)
  along_ends h used =
      refused_after answer (route_used env op by) x (λ route. and_then (transform_used env moved) (λ t. and_then (ends_used env source target) (λ e. along_fits env op by moved source target route t e))) route_is
      (refused_after answer (transform_used env moved) h (λ t. and_then (ends_used env source target) (λ e. along_fits env op by moved source target x t e)) used
      (refused_then answer (ends_used env source target) (λ e. along_fits env op by moved source target x h e) refuses))

  pub unit_ends : (i : InstanceMeant) → instance_used env moved ≡ Ok i → TellsChecked answer (unit_checked env op by moved source target)
  unit_ends i used =
      refused_after answer (route_used env op by) x (λ route. and_then (instance_used env moved) (λ t. and_then (ends_used env source target) (λ e. unit_fits env op by moved source target route t e))) route_is
      (refused_after answer (instance_used env moved) i (λ t. and_then (ends_used env source target) (λ e. unit_fits env op by moved source target x t e)) used
      (refused_then answer (ends_used env source target) (λ e. unit_fits env op by moved source target x i e) refuses))

  pub counit_ends : (i : InstanceMeant) → instance_used env moved ≡ Ok i → TellsChecked answer (counit_checked env op by moved source target)
  counit_ends i used =
      refused_after answer (route_used env op by) x (λ route. and_then (instance_used env moved) (λ t. and_then (ends_used env source target) (λ e. counit_fits env op by moved source target route t e))) route_is
      (refused_after answer (instance_used env moved) i (λ t. and_then (ends_used env source target) (λ e. counit_fits env op by moved source target x t e)) used
      (refused_then answer (ends_used env source target) (λ e. counit_fits env op by moved source target x i e) refuses))

module _ (env : Environment) (op : Operation) (by moved source target : Spot) (x : Name × Route) (e : Ends)
    (route_is : route_used env op by ≡ Ok x) (ends : ends_used env source target ≡ Ok e) where
  module _ (h : TransformMeant) (used : transform_used env moved ≡ Ok h) where
    -- the checks come to what fits
    along_then : along_checked env op by moved source target ≡ along_fits env op by moved source target x h e
    along_then =
        ap (λ (r : Checked (Name × Route)). and_then r (λ route. and_then (transform_used env moved) (λ t. and_then (ends_used env source target) (λ f. along_fits env op by moved source target route t f)))) route_is
        ∙ ap (λ (r : Checked TransformMeant). and_then r (λ t. and_then (ends_used env source target) (λ f. along_fits env op by moved source target x t f))) used
        ∙ ap (λ (r : Checked Ends). and_then r (λ f. along_fits env op by moved source target x h f)) ends

    abbrev start_test : Bool
    start_test = is_declared env op by.name h.ends.source source.name

    abbrev finish_test : Bool
    finish_test = is_declared env op by.name h.ends.target target.name

    abbrev finish_checked : Checked Move
    finish_checked = if finish_test then Ok (record { ends = e; movement = moved_along x.1 h }) else Err (target.place, WrongOperand)

    abbrev start_checked : Checked Move
    start_checked = if start_test then finish_checked else Err (source.place, WrongOperand)

    pub along_ok : same_name x.0 h.ends.start.schema ≡ true → start_test ≡ true → finish_test ≡ true
        → along_checked env op by moved source target ≡ Ok (record { ends = e; movement = moved_along x.1 h })
    along_ok over start finish =
        along_then ∙ passed (same_name x.0 h.ends.start.schema) start_checked (Err (moved.place, WrongSchema)) over
        ∙ passed start_test finish_checked (Err (source.place, WrongOperand)) start
        ∙ passed finish_test (Ok (record { ends = e; movement = moved_along x.1 h })) (Err (target.place, WrongOperand)) finish

    pub along_other : same_name x.0 h.ends.start.schema ≡ false → along_checked env op by moved source target ≡ Err (moved.place, WrongSchema)
    along_other over = along_then ∙ failed (same_name x.0 h.ends.start.schema) start_checked (Err (moved.place, WrongSchema)) over

    pub along_start : same_name x.0 h.ends.start.schema ≡ true → start_test ≡ false → along_checked env op by moved source target ≡ Err (source.place, WrongOperand)
    along_start over start =
        along_then ∙ passed (same_name x.0 h.ends.start.schema) start_checked (Err (moved.place, WrongSchema)) over
        ∙ failed start_test finish_checked (Err (source.place, WrongOperand)) start

    pub along_finish : same_name x.0 h.ends.start.schema ≡ true → start_test ≡ true → finish_test ≡ false
        → along_checked env op by moved source target ≡ Err (target.place, WrongOperand)
    along_finish over start finish =
        along_then ∙ passed (same_name x.0 h.ends.start.schema) start_checked (Err (moved.place, WrongSchema)) over
        ∙ passed start_test finish_checked (Err (source.place, WrongOperand)) start
        ∙ failed finish_test (Ok (record { ends = e; movement = moved_along x.1 h })) (Err (target.place, WrongOperand)) finish

  module _ (i : InstanceMeant) (used : instance_used env moved ≡ Ok i) where
    unit_then : unit_checked env op by moved source target ≡ unit_fits env op by moved source target x i e
    unit_then =
        ap (λ (r : Checked (Name × Route)). and_then r (λ route. and_then (instance_used env moved) (λ t. and_then (ends_used env source target) (λ f. unit_fits env op by moved source target route t f)))) route_is
        ∙ ap (λ (r : Checked InstanceMeant). and_then r (λ t. and_then (ends_used env source target) (λ f. unit_fits env op by moved source target x t f))) used
        ∙ ap (λ (r : Checked Ends). and_then r (λ f. unit_fits env op by moved source target x i f)) ends

    counit_then : counit_checked env op by moved source target ≡ counit_fits env op by moved source target x i e
    counit_then =
        ap (λ (r : Checked (Name × Route)). and_then r (λ route. and_then (instance_used env moved) (λ t. and_then (ends_used env source target) (λ f. counit_fits env op by moved source target route t f)))) route_is
        ∙ ap (λ (r : Checked InstanceMeant). and_then r (λ t. and_then (ends_used env source target) (λ f. counit_fits env op by moved source target x t f))) used
        ∙ ap (λ (r : Checked Ends). and_then r (λ f. counit_fits env op by moved source target x i f)) ends

    abbrev made : InstanceData → Move
    made there = record { ends = e; movement = there_and_back x.1 there }

    abbrev unit_end : Checked Move
    unit_end = and_then (between_used env op by moved target) (λ there. Ok (made there))

    abbrev unit_start : Checked Move
    unit_start = if same_name moved.name source.name then unit_end else Err (source.place, WrongOperand)

    unit_at : same_name x.0 i.schema ≡ true → unit_checked env op by moved source target ≡ unit_start
    unit_at over = unit_then ∙ passed (same_name x.0 i.schema) unit_start (Err (moved.place, WrongSchema)) over

    unit_here : same_name x.0 i.schema ≡ true → same_name moved.name source.name ≡ true → unit_checked env op by moved source target ≡ unit_end
    unit_here over same = unit_at over ∙ passed (same_name moved.name source.name) unit_end (Err (source.place, WrongOperand)) same

    pub unit_ok : (there : InstanceData) → same_name x.0 i.schema ≡ true → same_name moved.name source.name ≡ true → between_used env op by moved target ≡ Ok there
        → unit_checked env op by moved source target ≡ Ok (made there)
    unit_ok there over same found = unit_here over same ∙ ap (λ (r : Checked InstanceData). and_then r (λ y. Ok (made y))) found

    pub unit_other : same_name x.0 i.schema ≡ false → unit_checked env op by moved source target ≡ Err (moved.place, WrongSchema)
    unit_other over = unit_then ∙ failed (same_name x.0 i.schema) unit_start (Err (moved.place, WrongSchema)) over

    pub unit_elsewhere : same_name x.0 i.schema ≡ true → same_name moved.name source.name ≡ false → unit_checked env op by moved source target ≡ Err (source.place, WrongOperand)
    unit_elsewhere over same = unit_at over ∙ failed (same_name moved.name source.name) unit_end (Err (source.place, WrongOperand)) same

    pub unit_refused : (answer : ProgramRefusal) → same_name x.0 i.schema ≡ true → same_name moved.name source.name ≡ true → TellsChecked answer (between_used env op by moved target)
        → TellsChecked answer (unit_checked env op by moved source target)
    unit_refused answer over same refuses =
        subst (TellsChecked answer) (sym (unit_here over same)) (refused_then answer (between_used env op by moved target) (λ there. Ok (made there)) refuses)

    abbrev counit_end : InstanceData → Checked Move
    counit_end there = if same_name moved.name target.name then Ok (made there) else Err (target.place, WrongOperand)

    abbrev counit_start : Checked Move
    counit_start = and_then (between_used env op by moved source) counit_end

    counit_at : same_name x.0 i.schema ≡ true → counit_checked env op by moved source target ≡ counit_start
    counit_at over = counit_then ∙ passed (same_name x.0 i.schema) counit_start (Err (moved.place, WrongSchema)) over

    counit_here : (there : InstanceData) → same_name x.0 i.schema ≡ true → between_used env op by moved source ≡ Ok there → counit_checked env op by moved source target ≡ counit_end there
    counit_here there over found = counit_at over ∙ ap (λ (r : Checked InstanceData). and_then r counit_end) found

    pub counit_ok : (there : InstanceData) → same_name x.0 i.schema ≡ true → between_used env op by moved source ≡ Ok there → same_name moved.name target.name ≡ true
        → counit_checked env op by moved source target ≡ Ok (made there)
    counit_ok there over found same = counit_here there over found ∙ passed (same_name moved.name target.name) (Ok (made there)) (Err (target.place, WrongOperand)) same

    pub counit_other : same_name x.0 i.schema ≡ false → counit_checked env op by moved source target ≡ Err (moved.place, WrongSchema)
    counit_other over = counit_then ∙ failed (same_name x.0 i.schema) counit_start (Err (moved.place, WrongSchema)) over

    pub counit_elsewhere : (there : InstanceData) → same_name x.0 i.schema ≡ true → between_used env op by moved source ≡ Ok there → same_name moved.name target.name ≡ false
        → counit_checked env op by moved source target ≡ Err (target.place, WrongOperand)
    counit_elsewhere there over found same = counit_here there over found ∙ failed (same_name moved.name target.name) (Ok (made there)) (Err (target.place, WrongOperand)) same

    pub counit_refused : (answer : ProgramRefusal) → same_name x.0 i.schema ≡ true → TellsChecked answer (between_used env op by moved source)
        → TellsChecked answer (counit_checked env op by moved source target)
    counit_refused answer over refuses =
        subst (TellsChecked answer) (sym (counit_at over)) (refused_then answer (between_used env op by moved source) counit_end refuses)

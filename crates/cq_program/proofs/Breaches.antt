-- A program that has a meaning breaks no rule, and a program breaks one rule first.
use Rattle.std.proofs.Common.{◌≡◌, ◌⊎◌, inl, inr, Bool, true, false, ℕ, List, [], ◌∷◌, ◌++◌, refl, sym, ap, ◌∙◌, subst}
use Rattle.std.specs.Prelude.{Some, Ok, Err}
use Rattle.cq_base.specs.declared.place.Place.{Place}
use Rattle.cq_io.specs.Content.{File}
use Rattle.cq_syntax.specs.declared.program.Decl.{Decl}
use Rattle.cq_syntax.specs.declared.program.Program.{Program}
use Rattle.cq_mapping.specs.MappingData.{MappingData}
use Rattle.cq_query.specs.QueryData.{QueryData}
use Rattle.cq_theory.specs.Presentation.{is_oversized as is_too_large}
use Rattle.cq_theory.specs.declared.presentation.Presentation.{Presentation}
use Rattle.cq_theory.specs.SchemaData.{SchemaData}
use Rattle.cq_instance.specs.InstanceData.{InstanceData}
use Rattle.cq_instance.specs.Given.{is_oversized}
use Rattle.cq_mapping.specs.Moved.{delta_tables}
use Rattle.cq_compose.specs.Composite.{composite, is_large}
use Rattle.cq_environment.specs.declared.reason.Reason.{Reason}
use Rattle.cq_environment.specs.Meanings.{Meant, Environment, Checked, binding}
use Rattle.cq_program.specs.Posed.{Posed, a_typeside, a_schema, a_mapping, an_identity, a_colimit, an_inclusion, a_query, a_composite, a_mapping_query, a_presentation, a_made, a_delta, an_eval, a_transform, a_move}
use Rattle.cq_program.specs.Checks.{Stated, stated_by}
use Rattle.cq_environment.specs.declared.refusal.ReadCause.{ReadCause}
use Rattle.cq_environment.specs.declared.refusal.ReadCause.TheVariants.{Failed}
use Rattle.cq_program.specs.Folders.{Reads, TellsFault, LacksFile}
use Rattle.cq_program.specs.Program.{IsModelOf, Stands, TellsMade, Fails, ExceedsAtDuty, ExceedsAtQueryDuty, ExceedsAtModel, Exceeds, IsLimit, IsWithinLimits, Declares, Breach, by_rule, by_fault, by_failure, by_limit, Follow, Listing, Means, Breaks, Lacks}
use Rattle.cq_program.proofs.Constants.{one_clash}
use Rattle.cq_program.proofs.Unkept.{kept, one_unkept, kept_query, one_unsound}
use Rattle.cq_instance.specs.declared.transform.Image.{Image}
use Rattle.cq_transform.specs.Composing.{has_long}
use Rattle.cq_program.proofs.OneEval.{within_answers, one_answer_told}
use Rattle.cq_program.proofs.OneMove.{one_images}
use Rattle.cq_program.proofs.OneTransform.{none_broken, one_broken}
use Rattle.cq_program.proofs.Limits.{none_exceeded}
use Rattle.cq_program.proofs.OneReading.{reads_one, tells_one, reads_unfaulted, reads_there}
use Rattle.cq_program.proofs.OneMeaning.{declares_one, follow_one}

one_stated : (a b : Stated) (check : Checked Stated) → check ≡ Ok a → check ≡ Ok b → a ≡ b
one_stated a b check is is' = cc

-- a list of declarations that is followed is followed up to each of them
pub record FollowsTo (files : List File) (env : Environment) (before : List Decl) (d : Decl) : Type 0 where
  pub mid : Environment
  pub m : Meant
  pub follow : Follow (Some files) env before mid
  pub declares : Declares (Some files) mid d m

follows_to : (files : List File) (env : Environment) (before : List Decl) (d : Decl) (rest : List Decl) (after : Environment)
    → Follow (Some files) env (before ++ d ∷ rest) after → FollowsTo files env before d
follows_to files env [] d rest after follow = record { mid = env; m = follow.0; follow = refl; declares = follow.1 }
follows_to files env (x ∷ before) d rest after follow =
    let to = follows_to files (env ++ binding x follow.0 ∷ []) before d rest after follow.2 in
    record { mid = to.mid; m = to.m; follow = (follow.0, follow.1, to.follow); declares = to.declares }

exceeds_at_duty : (depth : ℕ) (F : MappingData) (reason : Reason) (duty : ℕ) → ExceedsAtDuty depth F reason duty → IsLimit reason
exceeds_at_duty depth F reason duty exceeds = elim exceeds [
  | inl deep ↦ subst IsLimit (sym deep.0) tt
  | inr wide ↦ subst IsLimit (sym wide.0) tt
]

exceeds_at_query_duty : (depth : ℕ) (Q : QueryData) (reason : Reason) (duty : ℕ) → ExceedsAtQueryDuty depth Q reason duty → IsLimit reason
exceeds_at_query_duty depth Q reason duty exceeds = elim exceeds [
  | inl deep ↦ subst IsLimit (sym deep.0) tt
  | inr wide ↦ subst IsLimit (sym wide.0) tt
]

exceeds_at_model : (depth : ℕ) (S : SchemaData) (P : Presentation) (reason : Reason) → ExceedsAtModel depth S P reason → IsLimit reason
exceeds_at_model depth S P reason exceeds = elim exceeds [ inl deep ↦ subst IsLimit (sym deep.0) tt | inr wide ↦ subst IsLimit (sym wide.0) tt ]

exceeds_limit : (depth : ℕ) (posed : Posed) (reason : Reason) → Exceeds depth posed reason → IsLimit reason
exceeds_limit depth (a_typeside T) reason exceeds = absurd exceeds
exceeds_limit depth (a_schema S) reason exceeds = absurd exceeds
exceeds_limit depth (a_mapping n t F) reason exceeds = exceeds_at_duty depth F reason exceeds.0 exceeds.1
exceeds_limit depth (an_identity n S) reason exceeds = absurd exceeds
exceeds_limit depth (a_colimit c) reason exceeds = absurd exceeds
exceeds_limit depth (an_inclusion source target F) reason exceeds = absurd exceeds
exceeds_limit depth (a_query n t Q) reason exceeds = exceeds_at_query_duty depth Q reason exceeds.0 exceeds.1
exceeds_limit depth (a_composite n t Q W) reason exceeds = absurd exceeds
exceeds_limit depth (a_mapping_query n t F) reason exceeds = absurd exceeds
exceeds_limit depth (a_presentation n S P) reason exceeds = exceeds_at_model depth S P reason exceeds
exceeds_limit depth (a_made n S P) reason exceeds = exceeds_at_model depth S P reason exceeds.1
exceeds_limit depth (a_delta n F M) reason exceeds = absurd exceeds
exceeds_limit depth (an_eval n Q M) reason exceeds = absurd exceeds
exceeds_limit depth (a_transform e images) reason exceeds = absurd exceeds
exceeds_limit depth (a_move v) reason exceeds = absurd exceeds

-- a limit that is kept isn't passed
not_passed : (b : Bool) → b ≡ false → b ≡ true → ⊥
not_passed b kept passed = let both : false ≡ true = sym kept ∙ passed in cc

none_made : (S : SchemaData) (P : Presentation) (reason : Reason) (i : InstanceData) → is_too_large P ≡ false → IsModelOf S P i → TellsMade S P reason → ⊥
none_made S P reason i short model tells = elim tells [
  | inl large ↦ not_passed (is_too_large P) short large.1
  | inr clash ↦ model.consistent (clash.1.least, clash.1.greater, clash.1.equal)
]

one_made : (S : SchemaData) (P : Presentation) (reason other : Reason) → TellsMade S P reason → TellsMade S P other → reason ≡ other
one_made S P reason other tells tells' = elim tells [
  | inl large ↦ elim tells' [
    | inl large' ↦ large.0 ∙ sym large'.0
    | inr clash' ↦ absurd (not_passed (is_too_large P) clash'.0 large.1)
  ]
  | inr clash ↦ elim tells' [
    | inl large' ↦ absurd (not_passed (is_too_large P) clash.0 large'.1)
    | inr clash' ↦ one_clash S P reason other clash.1 clash'.1
  ]
]

-- what stands for something breaks no rule
no_failure : (posed : Posed) (m : Meant) (reason : Reason) → Stands posed m → Fails posed reason → ⊥
no_failure (a_typeside T) m reason stands fails = fails
no_failure (a_schema S) m reason stands fails = fails
no_failure (a_mapping n t F) m reason stands fails = kept F reason stands.1 fails
no_failure (an_identity n S) m reason stands fails = fails
no_failure (a_colimit c) m reason stands fails = fails
no_failure (an_inclusion source target F) m reason stands fails = fails
no_failure (a_query n t Q) m reason stands fails = kept_query Q reason stands.1 fails
no_failure (a_composite n t Q W) m reason stands fails = not_passed (is_large (composite Q W)) stands.1 fails.1
no_failure (a_mapping_query n t F) m reason stands fails = fails
no_failure (a_presentation n S P) m reason stands fails = stands.2.consistent (fails.least, fails.greater, fails.equal)
no_failure (a_made n S P) m reason stands fails = none_made S P reason stands.0 stands.3 stands.2 fails
no_failure (a_delta n F M) m reason stands fails = not_passed (is_oversized (delta_tables F M)) stands.1 fails.1
no_failure (an_eval n Q M) m reason stands fails = within_answers Q M stands.0 reason stands.2 fails
no_failure (a_transform e images) m reason stands fails = none_broken e images stands.0 reason stands.2 fails
no_failure (a_move v) m reason stands fails =
    let same : fails.1.0 ≡ stands.0.images = one_images v.movement v.ends fails.1.0 stands.0.images fails.1.1 stands.3 in
    not_passed (has_long stands.0.images) stands.4 (subst (λ (l : List Image). has_long l ≡ true) same fails.1.2)

one_failure : (posed : Posed) (reason other : Reason) → Fails posed reason → Fails posed other → reason ≡ other
one_failure (a_typeside T) reason other fails fails' = absurd fails
one_failure (a_schema S) reason other fails fails' = absurd fails
one_failure (a_mapping n t F) reason other fails fails' = one_unkept F reason other fails fails'
one_failure (an_identity n S) reason other fails fails' = absurd fails
one_failure (a_colimit c) reason other fails fails' = absurd fails
one_failure (an_inclusion source target F) reason other fails fails' = absurd fails
one_failure (a_query n t Q) reason other fails fails' = one_unsound Q reason other fails fails'
one_failure (a_composite n t Q W) reason other fails fails' = fails.0 ∙ sym fails'.0
one_failure (a_mapping_query n t F) reason other fails fails' = absurd fails
one_failure (a_presentation n S P) reason other fails fails' = one_clash S P reason other fails fails'
one_failure (a_made n S P) reason other fails fails' = one_made S P reason other fails fails'
one_failure (a_delta n F M) reason other fails fails' = fails.0 ∙ sym fails'.0
one_failure (an_eval n Q M) reason other fails fails' = one_answer_told Q M reason other fails fails'
one_failure (a_transform e images) reason other fails fails' = one_broken e images reason other fails fails'
one_failure (a_move v) reason other fails fails' = fails.0 ∙ sym fails'.0

no_rule : (check : Checked Stated) (stated : Stated) (at : Place × Reason) → check ≡ Ok stated → check ≡ Err at → ⊥
no_rule check stated at is is' = cc

-- the rule that a declaration breaks, by what its checks give
data Fault (files : List File) (d : Decl) (check : Checked Stated) (place : Place) (reason : Reason) : Type 0 where
  of_check : check ≡ Err (place, reason) → Fault files d check place reason
  of_files : (stated : Stated) → check ≡ Ok stated → place ≡ d.place → TellsFault (Some files) stated reason → Fault files d check place reason
  of_failure : (stated : Stated) (posed : Posed) → check ≡ Ok stated → Reads (Some files) stated posed → place ≡ d.place → Fails posed reason → Fault files d check place reason

-- a declaration that meets its rules over what its checks give
record Meets (files : List File) (check : Checked Stated) (m : Meant) : Type 0 where
  stated : Stated
  checked : check ≡ Ok stated
  posed : Posed
  reads : Reads (Some files) stated posed
  stands : Stands posed m

meets : (files : List File) (env : Environment) (d : Decl) (m : Meant) → Declares (Some files) env d m → Meets files (stated_by env d) m
meets files env d m h = record { stated = h.stated; checked = h.checked; posed = h.posed; reads = h.reads; stands = h.stands }

module _ (files : List File) where
  -- two readings of what the checks give are one
  one_reading : (check : Checked Stated) (stated other : Stated) (posed p : Posed) → check ≡ Ok stated → check ≡ Ok other → Reads (Some files) stated posed → Reads (Some files) other p → p ≡ posed
  one_reading check stated other posed p is is' reads reads' =
      reads_one files stated p posed (subst (λ (s : Stated). Reads (Some files) s p) (one_stated other stated check is' is) reads') reads

  not_faulty : (check : Checked Stated) (stated other : Stated) (posed : Posed) (reason : Reason) → check ≡ Ok stated → check ≡ Ok other → Reads (Some files) stated posed → TellsFault (Some files) other reason → ⊥
  not_faulty check stated other posed reason is is' reads tells =
      reads_unfaulted files stated posed reason reads (subst (λ (s : Stated). TellsFault (Some files) s reason) (one_stated other stated check is' is) tells)

  one_told : (check : Checked Stated) (stated other : Stated) (reason reason' : Reason) → check ≡ Ok stated → check ≡ Ok other → TellsFault (Some files) stated reason → TellsFault (Some files) other reason' → reason ≡ reason'
  one_told check stated other reason reason' is is' tells tells' =
      tells_one files stated reason reason' tells (subst (λ (s : Stated). TellsFault (Some files) s reason') (one_stated other stated check is' is) tells')

  no_fault : (d : Decl) (check : Checked Stated) (m : Meant) (place : Place) (reason : Reason) → Meets files check m → Fault files d check place reason → ⊥
  no_fault d check m place reason h (of_check broken) = no_rule check h.stated (place, reason) h.checked broken
  no_fault d check m place reason h (of_files other is at tells) = not_faulty check h.stated other h.posed reason h.checked is h.reads tells
  no_fault d check m place reason h (of_failure other p is reads at fails) =
      no_failure h.posed m reason h.stands (subst (λ (q : Posed). Fails q reason) (one_reading check h.stated other h.posed p h.checked is h.reads reads) fails)

  same_place : (place place' : Place) (reason reason' : Reason) (check : Checked Stated) → check ≡ Err (place, reason) → check ≡ Err (place', reason') → (place ≡ place') × (reason ≡ reason')
  same_place place place' reason reason' check is is' =
      let one : (place, reason) ≡ (place', reason') = cc in
      (ap (λ (p : Place × Reason). p.0) one, ap (λ (p : Place × Reason). p.1) one)

  one_fault : (d : Decl) (check : Checked Stated) (place place' : Place) (reason reason' : Reason)
      → Fault files d check place reason → Fault files d check place' reason' → (place ≡ place') × (reason ≡ reason')
  one_fault d check place place' reason reason' (of_check broken) (of_check broken') = same_place place place' reason reason' check broken broken'
  one_fault d check place place' reason reason' (of_check broken) (of_files s is at tells) = absurd (no_rule check s (place, reason) is broken)
  one_fault d check place place' reason reason' (of_check broken) (of_failure s p is reads at fails) = absurd (no_rule check s (place, reason) is broken)
  one_fault d check place place' reason reason' (of_files s is at tells) (of_check broken) = absurd (no_rule check s (place', reason') is broken)
  one_fault d check place place' reason reason' (of_files s is at tells) (of_files s' is' at' tells') =
      (at ∙ sym at', one_told check s s' reason reason' is is' tells tells')
  one_fault d check place place' reason reason' (of_files s is at tells) (of_failure s' p is' reads at' fails) = absurd (not_faulty check s' s p reason is' is reads tells)
  one_fault d check place place' reason reason' (of_failure s p is reads at fails) (of_check broken) = absurd (no_rule check s (place', reason') is broken)
  one_fault d check place place' reason reason' (of_failure s p is reads at fails) (of_files s' is' at' tells) = absurd (not_faulty check s s' p reason' is is' reads tells)
  one_fault d check place place' reason reason' (of_failure s p is reads at fails) (of_failure s' p' is' reads' at' fails') =
      (at ∙ sym at', one_failure p' reason reason' (subst (λ (q : Posed). Fails q reason) (one_reading check s' s p' p is' is reads' reads) fails) fails')

  -- a breach is the break of a rule, or a limit that is passed
  fault_or_limit : (depth : ℕ) (env : Environment) (d : Decl) (place : Place) (reason : Reason)
      → Breach depth (Some files) env d place reason → Fault files d (stated_by env d) place reason ⊎ IsLimit reason
  fault_or_limit depth env d place reason (by_rule broken) = inl (of_check broken)
  fault_or_limit depth env d place reason (by_fault s is at tells) = inl (of_files s is at tells)
  fault_or_limit depth env d place reason (by_failure s posed is reads at fails) = inl (of_failure s posed is reads at fails)
  fault_or_limit depth env d place reason (by_limit s posed is reads at exceeds) = inr (exceeds_limit depth posed reason exceeds)

  -- what holds of the declaration that ends a list which is followed by others
  met : (program : Program) (L : List Listing) (before : List Decl) (d : Decl) (after : List Decl) (env : Environment)
      → Means (Some files) program L → program.decls ≡ before ++ d ∷ after → Follow (Some files) [] before env → (m : Meant) × Meets files (stated_by env d) m
  met program L before d after env means split follow =
      let to = follows_to files [] before d after means.env (subst (λ (ds : List Decl). Follow (Some files) [] ds means.env) split means.follow) in
      let same : to.mid ≡ env = follow_one files before [] to.mid env to.follow follow in
      (to.m, subst (λ (e : Environment). Meets files (stated_by e d) to.m) same (meets files to.mid d to.m to.declares))

  -- a program that has a meaning breaks no rule; only a limit may keep it from being made
  no_fault_of : (depth : ℕ) (program : Program) (L : List Listing) (place : Place) (reason : Reason)
      → Means (Some files) program L → (breaks : Breaks depth (Some files) program place reason) → Fault files breaks.broken (stated_by breaks.env breaks.broken) place reason → ⊥
  no_fault_of depth program L place reason means breaks fault =
      let here = met program L breaks.before breaks.broken breaks.after breaks.env means breaks.split breaks.follow in
      no_fault breaks.broken (stated_by breaks.env breaks.broken) here.0 place reason here.1 fault

pub means_unbroken : (depth : ℕ) (files : List File) (program : Program) (L : List Listing) (place : Place) (reason : Reason)
    → Means (Some files) program L → Breaks depth (Some files) program place reason → IsLimit reason
means_unbroken depth files program L place reason means breaks =
    elim (fault_or_limit files depth breaks.env breaks.broken place reason breaks.breach) [
      | inl fault ↦ absurd (no_fault_of files depth program L place reason means breaks fault)
      | inr limit ↦ limit
    ]

-- each file that it reads is there, and isn't too long
pub means_is_there : (files : List File) (program : Program) (L : List Listing) (file : List ℕ) (cause : ReadCause)
    → Means (Some files) program L → Lacks (Some files) program file cause → cause ≡ Failed
means_is_there files program L file cause means lacks =
    let here = met files program L lacks.before lacks.reading lacks.after lacks.env means lacks.split lacks.follow in
    let one = one_stated lacks.stated here.1.stated (stated_by lacks.env lacks.reading) lacks.checked here.1.checked in
    reads_there files here.1.stated here.1.posed file cause here.1.reads (subst (λ (s : Stated). LacksFile (Some files) s file cause) one lacks.lacks)

-- and none that keeps the limits passes one
within_at : (depth : ℕ) (files : List File) (program : Program) (place : Place) (reason : Reason) (breaks : Breaks depth (Some files) program place reason)
    → IsWithinLimits depth (Some files) program → (Fault files breaks.broken (stated_by breaks.env breaks.broken) place reason → ⊥)
    → Breach depth (Some files) breaks.env breaks.broken place reason → ⊥
within_at depth files program place reason breaks within none (by_rule broken) = none (of_check broken)
within_at depth files program place reason breaks within none (by_fault s is at tells) = none (of_files s is at tells)
within_at depth files program place reason breaks within none (by_failure s posed is reads at fails) = none (of_failure s posed is reads at fails)
within_at depth files program place reason breaks within none (by_limit s posed is reads at exceeds) =
    none_exceeded depth posed reason (within breaks.before breaks.broken breaks.after breaks.env s posed breaks.split breaks.follow is reads) exceeds

pub unbroken_within_limits : (depth : ℕ) (files : List File) (program : Program) (L : List Listing) (place : Place) (reason : Reason)
    → Means (Some files) program L → IsWithinLimits depth (Some files) program → Breaks depth (Some files) program place reason → ⊥
unbroken_within_limits depth files program L place reason means within breaks =
    within_at depth files program place reason breaks within (no_fault_of files depth program L place reason means breaks) breaks.breach

-- two breaks of rules by one list of declarations are one
module _ (files : List File) (rest rest' : List Decl) (d d' : Decl) (place place' : Place) (reason reason' : Reason) where
  one_fault_from : (before before' : List Decl) (env mid mid' : Environment) → before ++ d ∷ rest ≡ before' ++ d' ∷ rest'
      → Follow (Some files) env before mid → Follow (Some files) env before' mid' → Fault files d (stated_by mid d) place reason → Fault files d' (stated_by mid' d') place' reason'
      → (place ≡ place') × (reason ≡ reason')
  one_fault_from [] [] env mid mid' split follow follow' broken broken' =
      let decl : d ≡ d' = cc in
      let here : Fault files d (stated_by env d) place reason = subst (λ (e : Environment). Fault files d (stated_by e d) place reason) follow broken in
      let there : Fault files d (stated_by env d) place' reason' =
      subst (λ (e : Environment). Fault files d (stated_by e d) place' reason') follow'
      (subst (λ (x : Decl). Fault files x (stated_by mid' x) place' reason') (sym decl) broken') in
      one_fault files d (stated_by env d) place place' reason reason' here there
  one_fault_from [] (x ∷ before') env mid mid' split follow follow' broken broken' =
      let decl : d ≡ x = cc in
      let here : Fault files d (stated_by env d) place reason = subst (λ (e : Environment). Fault files d (stated_by e d) place reason) follow broken in
      let there : Meets files (stated_by env d) follow'.0 = subst (λ (y : Decl). Meets files (stated_by env y) follow'.0) (sym decl) (meets files env x follow'.0 follow'.1) in
      absurd (no_fault files d (stated_by env d) follow'.0 place reason there here)
  one_fault_from (x ∷ before) [] env mid mid' split follow follow' broken broken' =
      let decl : x ≡ d' = cc in
      let there : Fault files d' (stated_by env d') place' reason' = subst (λ (e : Environment). Fault files d' (stated_by e d') place' reason') follow' broken' in
      let here : Meets files (stated_by env d') follow.0 = subst (λ (y : Decl). Meets files (stated_by env y) follow.0) decl (meets files env x follow.0 follow.1) in
      absurd (no_fault files d' (stated_by env d') follow.0 place' reason' here there)
  one_fault_from (x ∷ before) (x' ∷ before') env mid mid' split follow follow' broken broken' =
      let decl : x ≡ x' = cc in
      let tails : before ++ d ∷ rest ≡ before' ++ d' ∷ rest' = cc in
      let declares' : Declares (Some files) env x follow'.0 = subst (λ (y : Decl). Declares (Some files) env y follow'.0) (sym decl) follow'.1 in
      let one : follow.0 ≡ follow'.0 = declares_one files env x follow.0 follow'.0 follow.1 declares' in
      let more : env ++ binding x' follow'.0 ∷ [] ≡ env ++ binding x follow.0 ∷ [] = λ i. env ++ binding (sym decl i) (sym one i) ∷ [] in
      one_fault_from before before' (env ++ binding x follow.0 ∷ []) mid mid' tails follow.2 (subst (λ (e : Environment). Follow (Some files) e before' mid') more follow'.2) broken broken'

-- over some files a program breaks one rule first, and else only a limit is told
pub one_refusal : (depth : ℕ) (files : List File) (program : Program) (place place' : Place) (reason reason' : Reason)
    → Breaks depth (Some files) program place reason → Breaks depth (Some files) program place' reason'
    → (IsLimit reason → ⊥) → (IsLimit reason' → ⊥) → (place ≡ place') × (reason ≡ reason')
one_refusal depth files program place place' reason reason' breaks breaks' rule rule' =
    elim (fault_or_limit files depth breaks.env breaks.broken place reason breaks.breach) [
      | inr limit ↦ absurd (rule limit)
      | inl broken ↦ elim (fault_or_limit files depth breaks'.env breaks'.broken place' reason' breaks'.breach) [
        | inr limit ↦ absurd (rule' limit)
        | inl broken' ↦
            one_fault_from files breaks.after breaks'.after breaks.broken breaks'.broken place place' reason reason' breaks.before breaks'.before [] breaks.env breaks'.env
            (sym breaks.split ∙ breaks'.split) breaks.follow breaks'.follow broken broken'
      ]
    ]

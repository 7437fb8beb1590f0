-- Over some files a program means one list of instances.
use Rattle.std.proofs.Common.{◌≡◌, List, [], ◌∷◌, ◌++◌, Ok, Some, sym, ap, subst, ◌∙◌}
use Rattle.std.specs.List.{filter_map}
use Rattle.cq_io.specs.Content.{File}
use Rattle.cq_syntax.specs.declared.program.Decl.{Decl}
use Rattle.cq_syntax.specs.declared.program.Program.{Program}
use Rattle.cq_theory.specs.declared.presentation.Presentation.{Presentation}
use Rattle.cq_theory.specs.SchemaData.{SchemaData}
use Rattle.cq_theory.specs.Tables.{Tables}
use Rattle.cq_theory.specs.Listed.{Lists}
use Rattle.cq_theory.proofs.OneModel.{same_models, same_assignments, same_lists_of_names}
use Rattle.cq_instance.specs.InstanceData.{InstanceData}
use Rattle.cq_instance.specs.Given.{given}
use Rattle.cq_environment.specs.Meanings.{Meant, binding, instance, transform, Environment}
use Rattle.cq_program.specs.Posed.{Posed, a_typeside, a_schema, a_mapping, an_identity, a_colimit, an_inclusion, a_query, a_composite, a_mapping_query, a_presentation, a_made, a_delta, an_eval, a_transform, a_move}
use Rattle.cq_program.specs.Checks.{Stated}
use Rattle.cq_program.specs.Folders.{Reads}
use Rattle.cq_instance.specs.declared.transform.Image.{Image}
use Rattle.cq_program.specs.Posing.{IsTransformOf}
use Rattle.cq_program.proofs.OneEval.{one_eval}
use Rattle.cq_program.proofs.OneMove.{one_images}
use Rattle.cq_program.proofs.OneReading.{reads_one}
use Rattle.cq_program.proofs.OneTransform.{one_transform}
use Rattle.cq_program.specs.Program.{IsModelOf, Stands, Declares, Follow, Listing, listing_of, Means}

-- a model is listed for the presentation itself
abbrev HasNames : SchemaData → Presentation → InstanceData → Type 0
HasNames S P i = (lists : Lists S P i.tables i.assignment) × (lists.names ≡ i.names)

has_names : (S : SchemaData) (P : Presentation) (i : InstanceData) → IsModelOf S P i → HasNames S P i
has_names S P i h =
    subst (λ (x : SchemaData × Presentation). HasNames x.0 x.1 i) (λ k. (h.over k, h.presents k)) (h.listed.lists, h.listed.least)

-- two models of one presentation are one
pub one_model_of : (S : SchemaData) (P : Presentation) (i j : InstanceData) → IsModelOf S P i → IsModelOf S P j → i ≡ j
one_model_of S P i j h g =
    let left = has_names S P i h in
    let right = has_names S P j g in
    let schemas : i.schema ≡ j.schema = h.over ∙ sym g.over in
    let presentations : i.presentation ≡ j.presentation = h.presents ∙ sym g.presents in
    let names : i.names ≡ j.names = sym left.1 ∙ same_lists_of_names S P h.schema h.presentation i.tables j.tables i.assignment j.assignment left.0 right.0 ∙ right.1 in
    let tables : i.tables ≡ j.tables = same_models S P h.schema h.presentation i.tables j.tables i.assignment j.assignment left.0 right.0 in
    let assignments : i.assignment ≡ j.assignment = same_assignments S P h.schema h.presentation i.tables j.tables i.assignment j.assignment left.0 right.0 in
    let givens : i.given ≡ j.given = h.listed.made ∙ sym g.listed.made in
    λ k. record { schema = schemas k; presentation = presentations k; names = names k; tables = tables k; assignment = assignments k; given = givens k }

-- what is posed stands for one thing
stands_one : (posed : Posed) (m n : Meant) → Stands posed m → Stands posed n → m ≡ n
stands_one (a_typeside T) m n h g = h ∙ sym g
stands_one (a_schema S) m n h g = h ∙ sym g
stands_one (a_mapping source target F) m n h g = h.0 ∙ sym g.0
stands_one (an_identity name S) m n h g = h ∙ sym g
stands_one (a_colimit c) m n h g = h ∙ sym g
stands_one (an_inclusion source target F) m n h g = h ∙ sym g
stands_one (a_query source target Q) m n h g = h.0 ∙ sym g.0
stands_one (a_composite source target Q W) m n h g = h.0 ∙ sym g.0
stands_one (a_mapping_query source target F) m n h g = h ∙ sym g
stands_one (a_presentation name S P) m n h g = h.1 ∙ ap (instance name) (one_model_of S P h.0 g.0 h.2 g.2) ∙ sym g.1
stands_one (a_made name S P) m n h g = h.1 ∙ ap (instance name) (one_model_of S P h.0 g.0 h.2 g.2) ∙ sym g.1
stands_one (a_delta name F M) m n h g = h.0 ∙ sym g.0
stands_one (an_eval name Q M) m n h g =
    h.1 ∙ ap (λ (N : Tables). instance name (given Q.target N)) (one_eval Q M h.0 g.0 h.2.target h.2.eval g.2.eval) ∙ sym g.1
stands_one (a_transform e images) m n h g = h.1 ∙ ap (transform e) (one_transform e images h.0 g.0 h.2 g.2) ∙ sym g.1
stands_one (a_move v) m n h g =
    let same : h.0.images ≡ g.0.images = one_images v.movement v.ends h.0.images g.0.images h.3 g.3 in
    h.1 ∙ ap (transform v.ends) (one_transform v.ends g.0.images h.0 g.0 (subst (λ (l : List Image). IsTransformOf v.ends l h.0) same h.2) g.2) ∙ sym g.1

pub declares_one : (files : List File) (env : Environment) (d : Decl) (m n : Meant) → Declares (Some files) env d m → Declares (Some files) env d n → m ≡ n
declares_one files env d m n h g =
    let both : Ok h.stated ≡ Ok g.stated = sym h.checked ∙ g.checked in
    let one : h.stated ≡ g.stated = cc in
    let posed : h.posed ≡ g.posed =
    reads_one files g.stated h.posed g.posed (subst (λ (stated : Stated). Reads (Some files) stated h.posed) one h.reads) g.reads in
    stands_one g.posed m n (subst (λ (p : Posed). Stands p m) posed h.stands) g.stands

-- declarations lead to one environment
pub follow_one : (files : List File) (ds : List Decl) (env after other : Environment) → Follow (Some files) env ds after → Follow (Some files) env ds other → after ≡ other
follow_one files [] env after other h g = h ∙ sym g
follow_one files (d ∷ ds) env after other h g =
    let one : h.0 ≡ g.0 = declares_one files env d h.0 g.0 h.1 g.1 in
    follow_one files ds (env ++ binding d g.0 ∷ []) after other (subst (λ (m : Meant). Follow (Some files) (env ++ binding d m ∷ []) ds after) one h.2) g.2

pub one_meaning : (files : List File) (program : Program) (L M : List Listing) → Means (Some files) program L → Means (Some files) program M → L ≡ M
one_meaning files program L M h g = h.listed ∙ ap (filter_map listing_of) (follow_one files program.decls [] h.env g.env h.follow g.follow) ∙ sym g.listed

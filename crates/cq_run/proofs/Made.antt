-- Each instance that a text means is the model that its presentation presents.
use Rattle.std.proofs.Common.{◌≡◌, ◌∙◌, ◌++◌, ℕ, Bool, true, false, cond, List, [], ◌∷◌, Option, Some, None, refl, sym, subst, arith}
use Rattle.std.specs.Prelude.{All}
use Rattle.std.specs.Str.{bytes_eq}
use Rattle.std.specs.List.{cons_option, filter_map}
use Rattle.std.proofs.lemmas.List.Elements.{All-head, All-tail, All-push}
use Rattle.cq_base.specs.declared.name.Name.{Name}
use Rattle.cq_syntax.specs.declared.program.Decl.{Decl}
use Rattle.cq_theory.specs.Schema.{IsSchema}
use Rattle.cq_theory.specs.SchemaData.{SchemaData}
use Rattle.cq_theory.specs.Tables.{Initial, Tables}
use Rattle.cq_theory.specs.declared.presentation.Presentation.{Presentation}
use Rattle.cq_instance.proofs.CanonicalDerived as canonical
use Rattle.cq_instance.specs.Given.{given}
use Rattle.cq_instance.specs.InstanceData.{InstanceData, IsInstance}
use Rattle.cq_program.specs.Posed.{Posed, a_typeside, a_schema, a_mapping, an_identity, a_colimit, an_inclusion, a_query, a_composite, a_mapping_query, a_presentation, a_made, a_delta, an_eval, a_transform, a_move}
use Rattle.cq_program.specs.Folders.{Told}
use Rattle.cq_environment.specs.Meanings.{Binding, Environment, Meant, binding, typeside, schema, colimit, mapping, query, instance, transform}
use Rattle.cq_program.specs.Program.{Follow, IsModelOf, Listing, Stands, listing_named, listing_of}
use Rattle.cq_program.specs.Program as program
use Rattle.cq_run.specs.Asked.{IsMade, instance_named}
use Rattle.cq_run.specs.Meaning.{Means}
use Rattle.cq_run.specs.Writing.{IsMeant}

-- the instance is the model that its presentation presents
abbrev pub IsInitial : InstanceData → Type 0
IsInitial i = Initial i.schema i.presentation i.tables i.assignment

-- what a declaration stands for
abbrev IsStated : Meant → Type 0
IsStated m = (posed : Posed) × Stands posed m

abbrev AreStated : Environment → Type 0
AreStated env = All (λ entry. IsStated entry.1) env

-- declarations that meet their rules lead to what they stand for
follow_stated : (told : Told) (env : Environment) (ds : List Decl) (after : Environment) → AreStated env → Follow told env ds after → AreStated after
follow_stated told env [] after stated is = subst AreStated (sym is) stated
follow_stated told env (d ∷ ds) after stated follow =
    follow_stated told (env ++ binding d follow.0 ∷ []) ds after
    (All-push (λ (entry : Binding). IsStated entry.1) env (binding d follow.0) stated (follow.1.posed, follow.1.stands)) follow.2

-- the listing of an entry
listed_stated : (name : Name) (m : Meant) (found : Listing) → listing_named name m ≡ Some found → IsStated m → IsMade found
listed_stated name (typeside T) found is stated = absurd (cc is)
listed_stated name (schema S) found is stated = absurd (cc is)
listed_stated name (colimit c) found is stated = absurd (cc is)
listed_stated name (mapping n t F) found is stated = absurd (cc is)
listed_stated name (query n t Q) found is stated = absurd (cc is)
listed_stated name (transform e t) found is stated = absurd (cc is)
listed_stated name (instance n i) found is stated =
    let same : record { name = name; schema = n; instance = i } ≡ found = cc in
    subst IsMade same stated

-- the listing of a name, where an entry has none, or one that may have the name
listing_chosen : (entry : Binding) (name : List ℕ) (found first : Listing) (rest : Option Listing) (b : Bool) → IsStated entry.1 → (rest ≡ Some found → IsMade found)
    → listing_of entry ≡ Some first → cond b (Some first) rest ≡ Some found → IsMade found
listing_chosen entry name found first rest true stated more listed is = listed_stated entry.0 entry.1 found (listed ∙ is) stated
listing_chosen entry name found first rest false stated more listed is = more is

listing_made : (entry : Binding) (name : List ℕ) (found : Listing) (rest : List Listing) (o : Option Listing) → IsStated entry.1
    → (instance_named name rest ≡ Some found → IsMade found) → listing_of entry ≡ o → instance_named name (cons_option o rest) ≡ Some found → IsMade found
listing_made entry name found rest None stated more listed is = more is
listing_made entry name found rest (Some first) stated more listed is =
    listing_chosen entry name found first (instance_named name rest) (bytes_eq first.name name) stated more listed is

-- the listing of a name among those of entries
listings_made : (env : Environment) → AreStated env → (name : List ℕ) (found : Listing) → instance_named name (filter_map listing_of env) ≡ Some found → IsMade found
listings_made [] stated name found is = absurd (cc is)
listings_made (entry ∷ env) stated name found is =
    listing_made entry name found (filter_map listing_of env) (listing_of entry) (All-head (λ (e : Binding). IsStated e.1) entry env stated)
    (λ more. listings_made env (All-tail (λ (e : Binding). IsStated e.1) entry env stated) name found more) refl is

no_entries : AreStated []
no_entries n d within = absurd (omega (arith, within))

-- each instance that a text means is one that a declaration stands for
pub named_is_made : (name : List ℕ) (listings : List Listing) (found : Listing) → IsMeant listings → instance_named name listings ≡ Some found → IsMade found
unfolding Means
named_is_made name listings found meant named =
    let tree = meant.2.0 in
    let means : program.Means meant.0 tree listings = meant.2.2 in
    listings_made means.env (follow_stated meant.0 [] tree.decls means.env no_entries means.follow) name found
    (subst (λ (L : List Listing). instance_named name L ≡ Some found) means.listed named)

-- a model of a presentation
model_initial : (S : SchemaData) (P : Presentation) (i : InstanceData) → IsModelOf S P i → IsInitial i
model_initial S P i model = model.listed.lists.initial

-- tables with their canonical presentation
given_initial : (S : SchemaData) (M : Tables) (i : InstanceData) → i ≡ given S M → IsInstance i → IsSchema i.schema → IsInitial i
given_initial S M i is well sorted =
    let well_is : IsInstance (given S M) = subst IsInstance is well in
    let sorted_is : IsSchema S = subst (λ (j : InstanceData). IsSchema j.schema) is sorted in
    subst IsInitial (sym is) (canonical.initial S M sorted_is well_is.well_formed well_is.satisfies)

same_instance : (n m : Name) (i j : InstanceData) → instance n i ≡ instance m j → i ≡ j
same_instance n m i j is = cc

-- an instance for which a declaration stands is the model that its presentation presents
pub made_initial : (found : Listing) → IsMade found → IsInstance found.instance → IsSchema found.instance.schema → IsInitial found.instance
made_initial found (a_typeside T, stands) well sorted = absurd (cc stands)
made_initial found (a_schema S, stands) well sorted = absurd (cc stands)
made_initial found (a_mapping n t F, stands) well sorted = let is = stands.0 in absurd (cc is)
made_initial found (an_identity n S, stands) well sorted = absurd (cc stands)
made_initial found (a_colimit c, stands) well sorted = absurd (cc stands)
made_initial found (an_inclusion n t F, stands) well sorted = absurd (cc stands)
made_initial found (a_query n t Q, stands) well sorted = let is = stands.0 in absurd (cc is)
made_initial found (a_composite n t Q W, stands) well sorted = let is = stands.0 in absurd (cc is)
made_initial found (a_mapping_query n t F, stands) well sorted = absurd (cc stands)
made_initial found (a_presentation n S P, stands) well sorted =
    subst IsInitial (sym (same_instance found.schema n found.instance stands.0 stands.1)) (model_initial S P stands.0 stands.2)
made_initial found (a_made n S P, stands) well sorted =
    subst IsInitial (sym (same_instance found.schema n found.instance stands.0 stands.1)) (model_initial S P stands.0 stands.2)
made_initial found (a_delta n F M, stands) well sorted =
    given_initial F.source _ found.instance (same_instance found.schema n found.instance _ stands.0) well sorted
made_initial found (an_eval n Q M, stands) well sorted =
    given_initial Q.target stands.0 found.instance (same_instance found.schema n found.instance _ stands.1) well sorted
made_initial found (a_transform e images, stands) well sorted = let is = stands.1 in absurd (cc is)
made_initial found (a_move v, stands) well sorted = let is = stands.1 in absurd (cc is)

-- Constants that a presentation makes equal.
use Rattle.std.proofs.Common.{ℕ, true, ◌≡◌, ◌<◌, Option, Some, None, length, refl, sym, ap, ◌∙◌, subst, arith, inl}
use Rattle.std.specs.Prelude.{option_map}
use Rattle.std.proofs.lemmas.Bool.Decides.{nat_tests}
use Rattle.cq_theory.specs.declared.constant.Con.{Con}
use Rattle.cq_theory.specs.declared.constant.Con.TheVariants.{Named, Open}
use Rattle.cq_theory.specs.Constant.{IsLesser}
use Rattle.cq_theory.specs.TypesideData.{TypesideData}
use Rattle.cq_theory.specs.Typeside.{constant_type}
use Rattle.cq_theory.specs.declared.presentation.Presentation.{Presentation}
use Rattle.cq_theory.specs.declared.presentation.Sort.{Sort}
use Rattle.cq_theory.specs.declared.presentation.Sort.TheVariants.{Plain}
use Rattle.cq_theory.specs.declared.term.Term.TheVariants.{Typ}
use Rattle.cq_theory.specs.declared.term.TypeTerm.TheVariants as term
use Rattle.cq_theory.specs.declared.value.Value.{Value}
use Rattle.cq_theory.specs.declared.value.Value.TheVariants.{Const}
use Rattle.cq_theory.specs.SchemaData.{SchemaData}
use Rattle.cq_theory.specs.Schema.{IsSchema}
use Rattle.cq_theory.specs.Presentation.{IsPresentation}
use Rattle.cq_theory.specs.Closing.{AreEqual, IsInconsistent, IsInconsistentAt}
use Rattle.cq_theory.specs.Listed.{Lists}
use Rattle.cq_theory.specs.Sorts.{sort_of, type_of, type_step}
use Rattle.cq_theory.specs.Tables.{Tables, Assignment, meaning_of, value_in, value_step}
use Rattle.cq_theory.specs.ValueText.{value_text, is_named_con}
use Rattle.cq_theory.proofs.Constants.{lesser-irreflexive, at_most-both, named_within}
use Rattle.cq_theory.proofs.Sorted.{sort_of-derived}
use Rattle.cq_theory.proofs.Sound.{meaning_of-derived}
use Rattle.cq_theory.proofs.TypeTerms.{fold-Const}
use Rattle.cq_environment.specs.declared.reason.Reason.{Reason}
use Rattle.cq_environment.specs.declared.reason.Reason.TheVariants.{Inconsistent}
use Rattle.cq_program.specs.Program.{TellsClash}
use Rattle.cq_base.specs.declared.name.Name.{Name}
use Rattle.cq_base.specs.declared.place.Place.{Place}
use Rattle.cq_program.specs.Posed.{a_presentation}
use Rattle.cq_program.specs.Judging.{TellsConstants, TellsUnmade}
use Rattle.cq_environment.specs.declared.refusal.ProgramRefusal.{ProgramRefusal}
use Rattle.cq_environment.specs.declared.refusal.ProgramRefusal.TheVariants as program_refusal

-- what a map of an option gives was given
mapped : {A B : Type 0} (f : A → B) (o : Option A) (b : B) → option_map f o ≡ Some b → (a : A) × (o ≡ Some a)
mapped f None b h = absurd (cc h)
mapped f (Some a) b h = (a, cc)

in_range : (T : TypesideData) (c : Con) (type : ℕ) → constant_type T c ≡ Some type → is_named_con T c ≡ true
in_range T (Named n) type is = let within : n < length T.constants = named_within T n type is in grind (arith, nat_tests)
in_range T (Open text) type is = refl

-- a constant that has a sort is one of the typeside
constant_within : (S : SchemaData) (P : Presentation) (c : Con) (sort : Sort) → sort_of S P.generators (Typ (term.Const c)) ≡ Some sort → is_named_con S.typeside c ≡ true
constant_within S P c sort is =
    let type = mapped Plain (type_of S P.generators (term.Const c)) sort is in
    in_range S.typeside c type.0 (sym (fold-Const (Option ℕ) (type_step S P.generators) c) ∙ type.1)

pub constants_within : (S : SchemaData) (P : Presentation) → IsSchema S → IsPresentation S P → (c d : Con) → IsInconsistentAt S P c d
    → (is_named_con S.typeside c ≡ true) × (is_named_con S.typeside d ≡ true)
constants_within S P schema is c d clash =
    let sorts = sort_of-derived S P schema is (Typ (term.Const c)) (Typ (term.Const d)) clash.equal in
    (constant_within S P c sorts.0 sorts.1, constant_within S P d sorts.0 sorts.2)

-- equal constants mean one value, and so a presentation that has a listed model makes no two equal
pub consistent : (S : SchemaData) (P : Presentation) (M : Tables) (A : Assignment) → IsSchema S → Lists S P M A → IsInconsistent S P → ⊥
consistent S P M A schema lists clash =
    let means : meaning_of M A (Typ (term.Const clash.0)) ≡ meaning_of M A (Typ (term.Const clash.1)) =
    meaning_of-derived S P M A schema lists.initial.holds (Typ (term.Const clash.0)) (Typ (term.Const clash.1)) clash.2.equal in
    let values : Const clash.0 ≡ Const clash.1 =
    sym (fold-Const Value (value_step M A) clash.0) ∙ ap value_in means ∙ fold-Const Value (value_step M A) clash.1 in
    let same : clash.0 ≡ clash.1 = cc in
    absurd (lesser-irreflexive clash.1 (subst (λ c. IsLesser c clash.1) same clash.2.greater))

-- one pair is the least
module _ (S : SchemaData) (P : Presentation) (c d c' d' : Con) (one : IsInconsistentAt S P c d) (other : IsInconsistentAt S P c' d') where
  same_least : c ≡ c'
  same_least = at_most-both c c' (one.least c' d' other.greater other.equal) (other.least c d one.greater one.equal)

  same_greater : d ≡ d'
  same_greater =
      at_most-both d d'
      (one.least_greater d' (subst (λ n. IsLesser n d') (sym same_least) other.greater) (subst (λ n. AreEqual S P n d') (sym same_least) other.equal))
      (other.least_greater d (subst (λ n. IsLesser n d) same_least one.greater) (subst (λ n. AreEqual S P n d) same_least one.equal))

pub one_clash : (S : SchemaData) (P : Presentation) (reason other : Reason) → TellsClash S P reason → TellsClash S P other → reason ≡ other
one_clash S P reason other tells tells' =
    let least = same_least S P tells.least tells.greater tells'.least tells'.greater tells.equal tells'.equal in
    let greater = same_greater S P tells.least tells.greater tells'.least tells'.greater tells.equal tells'.equal in
    tells.told ∙ (λ i. Inconsistent (value_text S.typeside (Const (least i))) (value_text S.typeside (Const (greater i)))) ∙ sym tells'.told

-- the refusal with the texts of two constants that clash tells why nothing is made of a presentation
pub unmade_clash : (depth : ℕ) (at : Place) (name : Name) (S : SchemaData) (P : Presentation) (c d : Con) (refusal : ProgramRefusal) → IsInconsistentAt S P c d
    → TellsConstants at (value_text S.typeside (Const c)) (value_text S.typeside (Const d)) refusal → TellsUnmade depth at (a_presentation name S P) refusal
unmade_clash depth at name S P c d (program_refusal.Broken place reason) clash told =
    (told.0, inl (record { least = c; greater = d; equal = clash; told = told.1 }))
unmade_clash depth at name S P c d (program_refusal.Read name' cause) clash told = told
unmade_clash depth at name S P c d program_refusal.Memory clash told = tt

-- The operands of a coproduct, one by one.
use Rattle.std.proofs.Common.{◌≡◌, ◌<◌, ◌≤◌, ◌+◌, ℕ, true, false, List, [], ◌∷◌, ◌++◌, Option, Some, None, length, take, drop, get_or, refl, sym, ap, ◌∙◌}
use Rattle.std.specs.Prelude.{All, Ok, Err, map, not, option_map}
use Rattle.std.proofs.lemmas.List.Elements.{All-nil, All-cons, All-head, All-tail}
use Rattle.cq_base.specs.declared.name.Name.{Name}
use Rattle.cq_base.specs.declared.place.Place.{Place}
use Rattle.cq_base.specs.Names.{same_name}
use Rattle.cq_syntax.specs.declared.part.Spot.{Spot}
use Rattle.cq_theory.specs.SchemaData.{SchemaData}
use Rattle.cq_environment.specs.declared.refusal.ProgramRefusal.{ProgramRefusal}
use Rattle.cq_transform.specs.Gluing.{coproduct_of}
use Rattle.cq_environment.specs.declared.reason.Reason.TheVariants.{WrongSchema}
use Rattle.cq_environment.specs.Meanings.{Checked, Environment, InstanceMeant, SchemaMeant, and_then, instance_used, schema_used}
use Rattle.cq_program.specs.Posed.{Posed, a_made, broken_or}
use Rattle.cq_program.specs.Gluing.{coproduct_over, coproduct_posed, first_misfit, operands_used, presentations_of}
use Rattle.cq_program.specs.declared.gluing.stating.Operand.{Operand}
use Rattle.cq_environment.specs.Environment.{AreSettled, IsPrinted, TellsChecked}
use Rattle.cq_program.specs.Views.{operand_meant, operands_meant}
use Rattle.cq_program.proofs.Settled.{instance_settled, one_printed}
use Rattle.cq_program.proofs.Uses.{used_refused_at, used_given_at, used_hold, none_other, same_at, other_at, no_other}

-- the operand at place i is refused, or is one more
pub refused_at : (env : Environment) (spots : List Spot) (i : ℕ) (spot : Spot) (operands : List (Place × InstanceMeant)) (answer : ProgramRefusal) → i < length spots → spot ≡ get_or spots i spot
    → operands_used env (take i spots) ≡ Ok operands → TellsChecked answer (instance_used env spot) → TellsChecked answer (operands_used env spots)
refused_at env spots i spot operands answer inside is are refuses = used_refused_at (λ (s : Spot). s.place) (instance_used env) spots i spot operands answer inside is are refuses

pub given_at : (env : Environment) (spots : List Spot) (i : ℕ) (spot : Spot) (operands more : List (Place × InstanceMeant)) (part : InstanceMeant) → i < length spots → spot ≡ get_or spots i spot
    → operands_used env (take i spots) ≡ Ok operands → instance_used env spot ≡ Ok part → more ≡ operands ++ (spot.place, part) ∷ [] → operands_used env (take (i + 1) spots) ≡ Ok more
given_at env spots i spot operands more part inside is are used longer = used_given_at (λ (s : Spot). s.place) (instance_used env) spots i spot operands more part inside is are used longer

abbrev IsOverPrinted : Environment → Place × InstanceMeant → Type 0
IsOverPrinted env operand = IsPrinted env operand.1.schema operand.1.instance.schema

-- the schema of each operand stands for its printed name
pub operands_printed : (env : Environment) (spots : List Spot) (operands : List (Place × InstanceMeant)) → AreSettled env → operands_used env spots ≡ Ok operands
    → All (IsOverPrinted env) operands
operands_printed env spots operands settled are =
    used_hold (λ (s : Spot). s.place) (instance_used env) (IsOverPrinted env) (λ spot i is. instance_settled env spot i settled is) spots operands are

-- where no operand is a misfit each is over the schema
pub operands_over : (env : Environment) (n : Name) (S : SchemaData) (operands : List (Place × InstanceMeant)) → IsPrinted env n S → All (IsOverPrinted env) operands
    → first_misfit n operands ≡ None → All (λ (operand : Place × InstanceMeant). operand.1.instance.schema ≡ S) operands
operands_over env n S operands printed all none =
    none_other (λ place. place) (λ (i : InstanceMeant). i.schema) n (IsOverPrinted env) (λ (operand : Place × InstanceMeant). operand.1.instance.schema ≡ S)
    (λ operand is same. sym (one_printed env n operand.1.schema S operand.1.instance.schema printed is same)) operands all none

-- what is posed where names are found
module _ (env : Environment) (spots : List Spot) (spot : Spot) (operands : List (Place × InstanceMeant)) (over : SchemaMeant)
    (are : operands_used env spots ≡ Ok operands) (is : schema_used env spot ≡ Ok over) where
  abbrev posed_or : Option Place → Checked Posed
  posed_or misfit = broken_or (a_made over.name over.schema (coproduct_of (presentations_of operands))) (option_map (λ place. (place, WrongSchema)) misfit)

  found : coproduct_posed env spots spot ≡ posed_or (first_misfit over.name operands)
  found =
      ap (λ (o : Checked (List (Place × InstanceMeant))). and_then o (λ os. and_then (schema_used env spot) (λ s. coproduct_over os s))) are
      ∙ ap (λ (o : Checked SchemaMeant). and_then o (λ s. coproduct_over operands s)) is

  pub coproduct_given : first_misfit over.name operands ≡ None → coproduct_posed env spots spot ≡ Ok (a_made over.name over.schema (coproduct_of (presentations_of operands)))
  coproduct_given none = found ∙ ap posed_or none

  pub coproduct_misfit : (place : Place) → first_misfit over.name operands ≡ Some place → coproduct_posed env spots spot ≡ Err (place, WrongSchema)
  coproduct_misfit place some = found ∙ ap posed_or some

-- what holds of each operand holds of its instance
pub All_seen : {X Y Z : Type 0} (P : Z → Type 0) (Q : Y → Type 0) (h : X → Z) (f : X → Y) → ((x : X) → P (h x) → Q (f x)) → (xs : List X) → All P (map h xs) → All Q (map f xs)
All_seen P Q h f same [] all = All-nil Q
All_seen P Q h f same (x ∷ xs) all =
    All-cons Q (f x) (map f xs) (same x (All-head P (h x) (map h xs) all)) (All_seen P Q h f same xs (All-tail P (h x) (map h xs) all))

-- lists that are seen in two ways are one where their members are
pub seen_same : {X Y Z W : Type 0} (f : X → Y) (g : Y → W) (h : X → Z) (k : Z → W) → ((x : X) → g (f x) ≡ k (h x)) → (xs : List X) → map g (map f xs) ≡ map k (map h xs)
seen_same f g h k same [] = refl
seen_same f g h k same (x ∷ xs) = λ i. same x i ∷ seen_same f g h k same xs i

-- One operand more in the search for a misfit.
module _ (n : Name) (operands : List Operand) (i : ℕ) (operand : Operand) (inside : i < length operands) (is : operand ≡ get_or operands i operand) where
  pub fits_at : first_misfit n (operands_meant operands) ≡ first_misfit n (operands_meant (drop i operands)) → false ≡ not (same_name n operand.part.schema)
      → first_misfit n (operands_meant operands) ≡ first_misfit n (operands_meant (drop (i + 1) operands))
  fits_at so_far fits = same_at (λ place. place) (λ (i : InstanceMeant). i.schema) n operand_meant operands i operand inside is so_far fits

  pub misfit_at : first_misfit n (operands_meant operands) ≡ first_misfit n (operands_meant (drop i operands)) → true ≡ not (same_name n operand.part.schema)
      → first_misfit n (operands_meant operands) ≡ Some operand.place
  misfit_at so_far misfit = other_at (λ place. place) (λ (i : InstanceMeant). i.schema) n operand_meant operands i operand inside is so_far misfit

pub none_misfit : (n : Name) (operands : List Operand) (i : ℕ) → length operands ≤ i → first_misfit n (operands_meant operands) ≡ first_misfit n (operands_meant (drop i operands))
    → first_misfit n (operands_meant operands) ≡ None
none_misfit n operands i past so_far = no_other (λ place. place) (λ (i : InstanceMeant). i.schema) n operand_meant operands i past so_far

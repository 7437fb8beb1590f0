-- Where images make no transform.
use Rattle.std.specs.Prelude.{ℕ, List, Some, ◌≡◌, ◌<◌, ◌+◌, slice_get}
use Rattle.cq_theory.specs.declared.presentation.Equation.{Equation}
use Rattle.cq_theory.specs.declared.presentation.Equation.TheVariants.{Ent, Typ}
use Rattle.cq_theory.specs.SchemaData.{SchemaData as Schema}
use Rattle.cq_theory.specs.Derivation.{left_of, right_of}
use Rattle.cq_theory.specs.Tables.{Tables, Assignment, meaning_of}
use Rattle.cq_instance.specs.InstanceData.{InstanceData}
use Rattle.cq_instance.specs.Terms.{IsEntTermOf, IsTypeTermOf}
use Rattle.cq_instance.specs.declared.transform.Image.{Image}
use Rattle.cq_transform.specs.declared.refusal.TransformRefusal.{TransformRefusal}
use Rattle.cq_transform.specs.declared.refusal.TransformRefusal.TheVariants.{Broken, Memory}
use Rattle.cq_transform.specs.Transforms.{meanings_in}

-- the sides are terms over generators that stand for what B says
abbrev pub HasSides : Schema → Tables → Assignment → Equation → Type 0
HasSides S N B (Ent t u) = (entity : ℕ) × IsEntTermOf S N B t entity × IsEntTermOf S N B u entity
HasSides S N B (Typ t u) = (type : ℕ) × IsTypeTermOf S N B t type × IsTypeTermOf S N B u type

module _ (N : Tables) (B : Assignment) where
  -- the sides of an equation, whose generators stand for what B says, are equal
  abbrev pub IsEqual : Equation → Type 0
  IsEqual e = meaning_of N B (left_of e) ≡ meaning_of N B (right_of e)

  abbrev pub AreEqualBefore : List Equation → ℕ → Type 0
  AreEqualBefore equations n = (m : ℕ) → m < n → (e : Equation) → slice_get equations m ≡ Some e → IsEqual e

  -- equation n, counted from 1, is the first whose sides differ
  pub record IsFirstUnequal (equations : List Equation) (n : ℕ) : Type 0 where
    pub place : ℕ
    pub number : n ≡ place + 1
    pub equation : Equation
    pub there : slice_get equations place ≡ Some equation
    pub broken : IsEqual equation → ⊥
    pub first : AreEqualBefore equations place

  -- the refusal tells the first equation whose sides differ
  abbrev pub TellsUnequal : List Equation → TransformRefusal → Type 0
  TellsUnequal equations (Broken n) = IsFirstUnequal equations n
  TellsUnequal equations Memory = Unit {0}
  TellsUnequal equations _ = ⊥

-- the sides of an equation, whose generators stand for what their images mean, are equal in the instance
abbrev pub IsKept : InstanceData → List Image → Equation → Type 0
IsKept j images e = IsEqual j.tables (meanings_in j images) e

-- equation n of the first instance's presentation, counted from 1, is the first that isn't kept
abbrev pub IsBrokenAt : InstanceData → InstanceData → List Image → ℕ → Type 0
IsBrokenAt i j images n = IsFirstUnequal j.tables (meanings_in j images) i.presentation.equations n

-- The labels of nulls that stand in the cells, each of one type.
use Rattle.std.specs.Prelude.{ℕ, Bool, List, [], ◌∷◌, ◌++◌, ◌+◌, ◌==◌, Option, Some, None, if◌then◌else◌, nat_lt, nat_eq, length, map}
use Rattle.std.specs.Prelude.{position, unwrap_or, slice_get}
use Rattle.std.specs.Map.{lookup}
use Rattle.cq_theory.specs.declared.typeside.Fun.{Fun as Function}
use Rattle.cq_theory.specs.declared.term.TypeTerm.{TypeTerm}
use Rattle.cq_theory.specs.declared.value.Value.{Value}
use Rattle.cq_theory.specs.declared.value.Value.TheOpen.{Value-F, Const, Null, Fun}
use Rattle.cq_theory.specs.declared.value.Value.TheFolds.{fold-Value}
use Rattle.cq_theory.specs.ValueTerms as values
use Rattle.cq_theory.specs.TypesideData.{TypesideData as Typeside}
use Rattle.cq_import.specs.declared.labels.Trouble.{Trouble}
use Rattle.cq_import.specs.declared.labels.Trouble.TheVariants.{Wrong, Full}

-- a label and the type of the place where it stands
abbrev pub Use : Type 0
Use = ℕ × ℕ

-- the labels with their types, in order of first appearance
abbrev pub Labels : Type 0
Labels = List Use

abbrev pub type_of_label : Labels → ℕ → Option ℕ
type_of_label labels label = lookup (nat_eq label) labels

-- the place of a label among the labels
abbrev pub place_of_label : Labels → ℕ → ℕ
place_of_label labels label = unwrap_or (position (nat_eq label) (map (λ u. u.0) labels)) 0

-- Whether labels are added as they appear, and then up to how many; none are added where all labels are given.
abbrev pub Room : Type 0
Room = Option ℕ

-- a label of another type is wrong, and so is one that isn't among the given ones; one for which there is no more room is one too many
abbrev pub new_trouble : Room → Labels → Option Trouble
new_trouble None labels = Some Wrong
new_trouble (Some most) labels = if nat_lt (length labels) most then None else Some Full

abbrev pub known_trouble : ℕ → ℕ → Option Trouble
known_trouble type known = if type == known then None else Some Wrong

abbrev pub trouble_at : Room → Labels → Use → Option ℕ → Option Trouble
trouble_at room labels u None = new_trouble room labels
trouble_at room labels u (Some known) = known_trouble u.1 known

abbrev pub use_trouble : Room → Labels → Use → Option Trouble
use_trouble room labels u = trouble_at room labels u (type_of_label labels u.0)

abbrev pub with_new : Labels → Use → Option ℕ → Labels
with_new labels u None = labels ++ u ∷ []
with_new labels u (Some known) = labels

-- the labels, with this one among them
abbrev pub with_use : Labels → Use → Labels
with_use labels u = with_new labels u (type_of_label labels u.0)

abbrev pub with_uses : Labels → List Use → Labels
with_uses labels [] = labels
with_uses labels (u ∷ us) = with_uses (with_use labels u) us

abbrev pub then_trouble : Option Trouble → Option Trouble → Option Trouble
then_trouble None trouble = trouble
then_trouble (Some first) trouble = Some first

-- the first trouble of some uses in order
abbrev pub uses_trouble : Room → Labels → List Use → Option Trouble
uses_trouble room labels [] = None
uses_trouble room labels (u ∷ us) = then_trouble (use_trouble room labels u) (uses_trouble room (with_use labels u) us)

abbrev pub function_types : Option Function → List ℕ
function_types None = []
function_types (Some f) = f.args

-- each argument at the place of its type
abbrev pub uses_args : List (ℕ → List Use) → List ℕ → List Use
uses_args [] types = []
uses_args (uses ∷ others) [] = []
uses_args (uses ∷ others) (type ∷ types) = uses type ++ uses_args others types

-- the uses in a value at a place of some type, from left to right
abbrev pub uses_step : Typeside → Value-F (ℕ → List Use) → ℕ → List Use
uses_step T (Const c) type = []
uses_step T (Null label) type = (label, type) ∷ []
uses_step T (Fun f args) type = uses_args args (function_types (slice_get T.functions f))

abbrev pub uses_in : Typeside → Value → ℕ → List Use
uses_in T = fold-Value (ℕ → List Use) (uses_step T)

-- the generator of a label, where those of the labels are those from `first` on
abbrev pub generator_of_label : ℕ → Labels → ℕ → ℕ
generator_of_label first labels label = first + place_of_label labels label

-- a value as a term, in which a null stands as its generator
abbrev pub value_term_step : ℕ → Labels → Value-F TypeTerm → TypeTerm
value_term_step first labels = values.value_term_step (generator_of_label first labels)

abbrev pub value_term : ℕ → Labels → Value → TypeTerm
value_term first labels = values.value_term (generator_of_label first labels)

-- Why parts make no mapping or query.
use Rattle.std.specs.Prelude.{List, [], ◌∷◌, if◌then◌else◌, Option, Some, None}
use Rattle.cq_base.specs.declared.name.Name.{Name}
use Rattle.cq_theory.specs.declared.refusal.TheoryRefusal.{TheoryRefusal}
use Rattle.cq_theory.specs.declared.refusal.TheoryRefusal.TheVariants as theory_refusal
use Rattle.cq_theory.specs.declared.refusal.ArrowRefusal.{ArrowRefusal}
use Rattle.cq_theory.specs.declared.refusal.ArrowRefusal.TheVariants.{Duplicate, Unknown, WrongCount, WrongSort, Reserved, TooLarge, Missing}
use Rattle.cq_theory.specs.declared.refusal.ArrowRefusal.TheVariants.{Memory}
use Rattle.cq_theory.specs.Paths.{is_among}

-- the same refusal, of a mapping or a query
abbrev pub of_arrow : TheoryRefusal → ArrowRefusal
of_arrow (theory_refusal.Duplicate n) = Duplicate n
of_arrow (theory_refusal.Unknown n) = Unknown n
of_arrow (theory_refusal.WrongCount n) = WrongCount n
of_arrow (theory_refusal.WrongSort n) = WrongSort n
of_arrow (theory_refusal.Reserved n) = Reserved n
of_arrow (theory_refusal.TooLarge n) = TooLarge n
of_arrow theory_refusal.Memory = Memory

-- the first of the wanted names that isn't given
abbrev pub first_missing : List Name → List Name → Option ArrowRefusal
first_missing given [] = None
first_missing given (name ∷ names) = if is_among given name then first_missing given names else Some (Missing name)

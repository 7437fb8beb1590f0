-- Numbers by which values are placed: those of the kit's hasher after a key, so that equal values have one number.
use Rattle.std.specs.Prelude.{ℕ, List, ◌++◌, ◌+◌, ◌*◌, ◌/◌, ◌%◌, fold}
use Rattle.std.specs.List.{flat_map}
use Rattle.std.specs.Hash as fed
use Rattle.std.specs.Hash.{HashWrites}
use Rattle.std.specs.Hash.DefaultHasher as sip
use Rattle.cq_base.specs.declared.hashing.Hashing.{Hashing}
use Rattle.cq_theory.specs.declared.constant.Con.{Con}
use Rattle.cq_theory.specs.declared.constant.Con.TheVariants.{Named, Open}
use Rattle.cq_theory.specs.declared.value.Value.{Value}
use Rattle.cq_theory.specs.declared.value.Value.TheOpen.{Value-F, Const, Null, Fun}
use Rattle.cq_theory.specs.declared.value.Value.TheVariants as value
use Rattle.cq_theory.specs.declared.value.Value.TheFolds.{fold-Value}

-- what the hasher is fed of a constant
abbrev pub fed_constant : Con → HashWrites
fed_constant (Named n) = fed.u8 0 ++ fed.u32 n
fed_constant (Open text) = fed.u8 1 ++ fed.str text

-- what the hasher is fed of a value
abbrev pub fed_step : Value-F HashWrites → HashWrites
fed_step (Const c) = fed_constant c
fed_step (Null n) = fed.u8 2 ++ fed.u64 n
fed_step (Fun f args) = fed.u8 3 ++ fed.u32 f ++ flat_map (λ arg. arg) args

abbrev pub fed_value : Value → HashWrites
fed_value = fold-Value HashWrites fed_step

-- what the hasher answers
abbrev pub hash_of : Hashing → HashWrites → ℕ
hash_of hashing writes = sip.finish (fold sip.write hashing.initial writes)

-- the number of a value; those of nulls whose labels are of one block of 64 follow one another
abbrev pub digest_of : Hashing → Value → ℕ
digest_of hashing (value.Null n) = hash_of hashing (fed.u8 2 ++ fed.u64 (n / 64)) / 64 * 64 + n % 64
digest_of hashing v = hash_of hashing (fed_value v)

-- the number of a function at arguments
abbrev pub digest_of_application : Hashing → ℕ → List Value → ℕ
digest_of_application hashing f args = hash_of hashing (fed.u32 f ++ flat_map fed_value args)

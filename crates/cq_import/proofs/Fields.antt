-- Fields of records by their columns.
use Rattle.std.proofs.Common.{ℕ, zero, suc, List, [], ◌∷◌, ◌≡◌, None, get_or, refl}
use Rattle.csv.specs.Records.{field_at}

pub field_past : (fields : List (List ℕ)) (column : ℕ) → field_at fields column ≡ None → get_or fields column [] ≡ []
unfolding field_at
field_past [] column none = refl
field_past (first ∷ others) zero none = cc none
field_past (first ∷ others) (suc column) none = field_past others column none

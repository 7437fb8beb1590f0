-- A line of counts, piece by piece.
use Rattle.std.proofs.Common.{◌≡◌, ◌++◌, ℕ, List, append_assoc}
use Rattle.std.specs.Prelude.{codes, decimal}

-- nine pieces behind a text
nine_pieces : (t a b c d e f g h i : List ℕ) → t ++ a ++ b ++ c ++ d ++ e ++ f ++ g ++ h ++ i ≡ t ++ (a ++ b ++ c ++ d ++ e ++ f ++ g ++ h ++ i)
nine_pieces t a b c d e f g h i = simp append_assoc

-- the line of an instance, pushed
pub line_pushed : (t0 t1 t2 t3 t4 t5 t6 shown name : List ℕ) (r n e rows nulls entries : ℕ)
    → t1 ≡ t0 ++ codes "instance " → t2 ≡ t1 ++ shown → t3 ≡ t2 ++ codes " rows " ++ decimal r → t4 ≡ t3 ++ codes " nulls " ++ decimal n
    → t5 ≡ t4 ++ codes " entries " ++ decimal e → t6 ≡ t5 ++ codes "\n" → shown ≡ name → r ≡ rows → n ≡ nulls → e ≡ entries
    → t6 ≡ t0 ++ (codes "instance " ++ name ++ codes " rows " ++ decimal rows ++ codes " nulls " ++ decimal nulls ++ codes " entries " ++ decimal entries ++ codes "\n")
line_pushed t0 t1 t2 t3 t4 t5 t6 shown name r n e rows nulls entries e1 e2 e3 e4 e5 e6 names rs ns es =
    rw (e6, e5, e4, e3, e2, e1, names, rs, ns, es)
    (nine_pieces t0 (codes "instance ") name (codes " rows ") (decimal rows) (codes " nulls ") (decimal nulls) (codes " entries ") (decimal entries) (codes "\n"))

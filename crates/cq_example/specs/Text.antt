-- The text of the example of a size.
use Rattle.std.specs.Prelude.{ℕ, List, ◌++◌, ◌+◌, ◌-◌, codes, decimal}
use Rattle.std.specs.List.{flat_map, range_with_len}

-- the declarations before the generators: a type with a constant; E with a key that leads no further when it is followed twice, and an
-- attribute; P with an attribute; for P the pairs of rows of E of which the first is the key of the second
abbrev pub head : List ℕ
head =
    codes "typeside T = literal { types n constants one : n }\n"
    ++ codes "schema S = literal : T { entities E foreign_keys f : E -> E path_equations f.f = f attributes v : E -> n }\n"
    ++ codes "schema R = literal : T { entities P attributes w : P -> n }\n"
    ++ codes "query Q = literal : S -> R { entity P -> { from b : E a : E where f(a) = b attributes w -> v(a) } }\n"
    ++ codes "instance I = literal : S { generators\n"

-- the name of a generator
abbrev pub generator : ℕ → List ℕ
generator number = codes "x" ++ decimal number

abbrev pub generator_line : ℕ → List ℕ
generator_line number = generator number ++ codes " : E\n"

-- the keys of a generator and of the next one are equal
abbrev pub equation_line : ℕ → List ℕ
equation_line number = codes "f(" ++ generator number ++ codes ") = f(" ++ generator (number + 1) ++ codes ")\n"

-- the numbers from 1 to this one
abbrev pub up_to : ℕ → List ℕ
up_to = range_with_len 1

-- the text of the example of a size: so many generators, the equation of the first one's key, and an equation for each generator but the
-- last
unfoldable pub text_of : ℕ → List ℕ
text_of size =
    head
    ++ flat_map generator_line (up_to size)
    ++ codes "equations\nv(f(x1)) = one\n"
    ++ flat_map equation_line (up_to (size - 1))
    ++ codes "}\ninstance J = eval Q I\n"

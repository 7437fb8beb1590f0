-- Lines for each number from 1 on.
use Rattle.std.proofs.Common.{◌≡◌, ◌∙◌, ◌++◌, ◌+◌, ◌-◌, ◌*◌, ◌<◌, ◌≤◌, ℕ, suc, zero, List, [], ◌∷◌, ap, sym, length, arith, append_assoc}
use Rattle.std.specs.Prelude.{codes}
use Rattle.std.specs.List.{flat_map, range_with_len}
use Rattle.std.proofs.lemmas.List.{append-nil, length-append, map-id}
use Rattle.std.proofs.lemmas.List.Concat.{flat_map-append}
use Rattle.std.proofs.lemmas.List.FromFn.{map-range_with_len_more}
use Rattle.std.proofs.lemmas.Fmt.{length-decimal-le}
use Rattle.cq_example.specs.Text.{equation_line, generator, generator_line, head, text_of, up_to}

-- one more number
up_to_more : (n : ℕ) → up_to (n + 1) ≡ up_to n ++ (n + 1) ∷ []
up_to_more n =
    sym (map-id (up_to (n + 1))) ∙ map-range_with_len_more (λ k. k) 1 n (n + 1) (omega arith) ∙ ap (λ l. l ++ (n + 1) ∷ []) (map-id (up_to n))

-- one more number adds its line at the end
pub line_more : (line : ℕ → List ℕ) (before : List ℕ) (n : ℕ) → (before ++ flat_map line (up_to n)) ++ line (n + 1) ≡ before ++ flat_map line (up_to (n + 1))
line_more line before n =
    append_assoc before (flat_map line (up_to n)) (line (n + 1))
    ∙ ap (λ l. before ++ l) (sym (ap (flat_map line) (up_to_more n) ∙ flat_map-append line (up_to n) ((n + 1) ∷ []) ∙ ap (λ l. flat_map line (up_to n) ++ l) (append-nil (line (n + 1)))))

-- lines of a bounded length
bounded : (line : ℕ → List ℕ) (bound first count : ℕ) → ((k : ℕ) → k < first + count → length (line k) ≤ bound)
    → length (flat_map line (range_with_len first count)) ≤ bound * count
bounded line bound first zero short = omega arith
bounded line bound first (suc count) short =
    let one : length (line first) ≤ bound = short first (omega arith) in
    let rest : length (flat_map line (range_with_len (first + 1) count)) ≤ bound * count =
    bounded line bound (first + 1) count (λ k lt. short k (omega (arith, lt))) in
    let whole : length (flat_map line (range_with_len first (suc count))) ≡ length (line first) + length (flat_map line (range_with_len (first + 1) count)) =
    length-append (line first) (flat_map line (range_with_len (first + 1) count)) in
    omega (arith, one, rest, whole)

short_name : (number : ℕ) → number < 1000000 → length (generator number) ≤ 7
short_name number lt = omega (arith, length-decimal-le 6 number (omega arith) lt (omega (arith, lt)))

short_generator : (number : ℕ) → number < 1000000 → length (generator_line number) ≤ 12
short_generator number lt =
    let whole : length (generator_line number) ≡ length (generator number) + 5 = length-append (generator number) (codes " : E\n") in
    omega (arith, whole, short_name number lt)

-- the length of five texts one behind the other
length_five : (a b c d e : List ℕ) → length (a ++ b ++ c ++ d ++ e) ≡ length a + length b + length c + length d + length e
length_five a b c d e =
    let two : length (a ++ b) ≡ length a + length b = length-append a b in
    let three : length (a ++ b ++ c) ≡ length (a ++ b) + length c = length-append (a ++ b) c in
    let four : length (a ++ b ++ c ++ d) ≡ length (a ++ b ++ c) + length d = length-append (a ++ b ++ c) d in
    let five : length (a ++ b ++ c ++ d ++ e) ≡ length (a ++ b ++ c ++ d) + length e = length-append (a ++ b ++ c ++ d) e in
    omega (arith, two, three, four, five)

short_line : (a g b h c : List ℕ) → length a ≤ 2 → length g ≤ 7 → length b ≤ 6 → length h ≤ 7 → length c ≤ 2
    → length (a ++ g ++ b ++ h ++ c) ≤ 24
short_line a g b h c la lg lb lh lc = omega (arith, length_five a g b h c, la, lg, lb, lh, lc)

short_equation : (number : ℕ) → number < 999999 → length (equation_line number) ≤ 24
short_equation number lt =
    let next : number + 1 < 1000000 = omega (arith, lt) in
    short_line (codes "f(") (generator number) (codes ") = f(") (generator (number + 1)) (codes ")\n") (omega arith)
    (short_name number (omega (arith, lt))) (omega arith) (short_name (number + 1) next) (omega arith)

short_parts : (first generators between equations last : List ℕ) (size : ℕ) → length first ≤ 400 → length generators ≤ 12 * size
    → length between ≤ 25 → length equations ≤ 24 * (size - 1) → length last ≤ 24 → size ≤ 199999
    → length (first ++ generators ++ between ++ equations ++ last) ≤ 8388608
short_parts first generators between equations last size h g b e l most =
    omega (arith, length_five first generators between equations last, h, g, b, e, l, most)

short_head : length head ≤ 400
short_head = omega arith

-- the whole text is short
pub short_text : (size : ℕ) → size ≤ 199999 → length (text_of size) ≤ 8388608
unfolding text_of
short_text size most =
    let generators : List ℕ = flat_map generator_line (up_to size) in
    let equations : List ℕ = flat_map equation_line (up_to (size - 1)) in
    let few : length generators ≤ 12 * size = bounded generator_line 12 1 size (λ k lt. short_generator k (omega (arith, lt, most))) in
    let fewer : length equations ≤ 24 * (size - 1) = bounded equation_line 24 1 (size - 1) (λ k lt. short_equation k (omega (arith, lt, most))) in
    short_parts head generators (codes "equations\nv(f(x1)) = one\n") equations (codes "}\ninstance J = eval Q I\n") size short_head few (omega arith) fewer (omega arith) most

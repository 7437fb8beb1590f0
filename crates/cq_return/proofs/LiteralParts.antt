-- A presentation whose generators are numbered is what its parts, as they are written, give.
use Rattle.std.proofs.Common.{ℕ, zero, suc, Bool, true, false, not, List, [], ◌∷◌, ◌++◌, Option, Some, None, ◌≡◌, ◌<◌, ◌≤◌, ◌+◌, ◌^◌, ◌||◌, cond, drop, map, length, refl, sym, ap, subst, ◌∙◌, arith}
use Rattle.std.specs.Prelude.{codes, decimal, is_none, is_some, nat_le, nat_lt, option_map, slice_get}
use Rattle.std.specs.List.{enumerate_from, range_with_len}
use Rattle.std.specs.Cmp.Lexicographic.{nat_list_eq_equiv, same_text}
use Rattle.std.proofs.lemmas.Bool.{eq-eqb}
use Rattle.std.proofs.lemmas.Bool.Decides.{nat_tests}
use Rattle.std.proofs.lemmas.Fmt.{decimal_injective}
use Rattle.std.proofs.lemmas.List.{length-map}
use Rattle.std.proofs.lemmas.List.FromFn.{length-enumerate_from, map-range_with_len_more}
use Rattle.std.proofs.lemmas.Option.{slice_get-get_or, slice_get_within}
use Rattle.cq_base.specs.declared.name.Name.{Name}
use Rattle.cq_base.specs.declared.raw.Raw.{Raw}
use Rattle.cq_base.specs.Names.{number_of, same_name}
use Rattle.cq_base.proofs.Numbers.{position-cons}
use Rattle.cq_theory.specs.declared.refusal.TermRefusal.TheVariants as refusal
use Rattle.cq_theory.specs.declared.refusal.TheoryRefusal.TheVariants as theory_refusal
use Rattle.cq_theory.specs.declared.presentation.Equation.{Equation}
use Rattle.cq_theory.specs.declared.presentation.Equation.TheVariants as equation
use Rattle.cq_theory.specs.declared.presentation.Presentation.{Presentation}
use Rattle.cq_theory.specs.declared.presentation.Sort.{Sort}
use Rattle.cq_theory.specs.declared.presentation.Sort.TheVariants.{Plain, Entity}
use Rattle.cq_theory.specs.declared.term.Term.{Term}
use Rattle.cq_theory.specs.declared.term.Term.TheVariants.{Ent, Typ}
use Rattle.cq_theory.specs.Canonical.{below, named}
use Rattle.cq_theory.specs.Declaring.{first_part_fault}
use Rattle.cq_theory.specs.Parts.{equation_of, generator_fault, generator_names, generator_sorts, presentation_fault, presented, sort_or_first}
use Rattle.cq_theory.specs.Presentation.{IsEquation, IsPresentation, IsSort, term_symbols}
use Rattle.cq_theory.specs.Resolve.{are_of_one_sort, equation_fault, first_fault, in_part, is_too_large, or_else, raw_sort, raw_symbols, same_sort, sort_named}
use Rattle.cq_theory.specs.Resolved.{resolved}
use Rattle.cq_theory.specs.Schema.{IsSchema}
use Rattle.cq_theory.specs.SchemaData.{SchemaData as Schema}
use Rattle.cq_theory.specs.Sorts.{Generators, entity_of, type_of}
use Rattle.cq_theory.proofs.Every.{Every, Every-at, Every-from_All}
use Rattle.cq_text.specs.Literal.{generator_text, sort_text}
use Rattle.cq_text.specs.Transcript.{name_or_empty}
use Rattle.cq_return.specs.WrittenTerms.{entity_raw, equation_raws, generator_part, type_raw}
use Rattle.cq_return.proofs.Symbols.{entity_sort, type_sort}
use Rattle.cq_return.proofs.Terms.{IsWritten, entity_written, type_written}

-- Names of generators by their numbers.
other_generator : (m n : ℕ) → m < 2 ^ 63 → n < 2 ^ 63 → (m ≡ n → ⊥) → same_name (generator_text m) (generator_text n) ≡ false
other_generator m n small fits other = at_test (same_name (generator_text m) (generator_text n)) refl
  where
    at_test : (b : Bool) → same_name (generator_text m) (generator_text n) ≡ b → same_name (generator_text m) (generator_text n) ≡ false
    at_test false e = e
    at_test true e =
        let same : decimal (m + 1) ≡ decimal (n + 1) = ap (drop 1) (same_text (generator_text m) (generator_text n) (sym e)) in
        absurd (other (omega (arith, decimal_injective (m + 1) (n + 1) (omega arith) (omega arith) same)))

no_generator : (s m k : ℕ) → s + m ≤ k → k < 2 ^ 63 → number_of (map generator_text (range_with_len s m)) (generator_text k) ≡ None
no_generator s zero k h small = refl
no_generator s (suc m) k h small =
    position-cons (same_name (generator_text k)) (generator_text s) (map generator_text (range_with_len (s + 1) m))
    ∙ ap (λ b. cond b (Some 0) (option_map suc (number_of (map generator_text (range_with_len (s + 1) m)) (generator_text k)))) (other_generator k s small (omega arith) (λ e. omega arith))
    ∙ ap (option_map suc) (no_generator (s + 1) m k (omega arith) small)

generator_at : (s m n : ℕ) → n < m → s + m < 2 ^ 63 → number_of (map generator_text (range_with_len s m)) (generator_text (s + n)) ≡ Some n
generator_at s zero n h small = absurd (omega arith)
generator_at s (suc m) zero h small =
    let here : s + 0 ≡ s = omega arith in
    position-cons (same_name (generator_text (s + 0))) (generator_text s) (map generator_text (range_with_len (s + 1) m))
    ∙ ap (λ b. cond b (Some 0) (option_map suc (number_of (map generator_text (range_with_len (s + 1) m)) (generator_text (s + 0)))))
    (ap (λ k. same_name (generator_text k) (generator_text s)) here ∙ nat_list_eq_equiv.refl (generator_text s))
generator_at s (suc m) (suc n) h small =
    let there : s + suc n ≡ s + 1 + n = omega arith in
    position-cons (same_name (generator_text (s + suc n))) (generator_text s) (map generator_text (range_with_len (s + 1) m))
    ∙ ap (λ b. cond b (Some 0) (option_map suc (number_of (map generator_text (range_with_len (s + 1) m)) (generator_text (s + suc n)))))
    (other_generator (s + suc n) s (omega arith) (omega arith) (λ e. omega arith))
    ∙ ap (λ k. option_map suc (number_of (map generator_text (range_with_len (s + 1) m)) (generator_text k))) there
    ∙ ap (option_map suc) (generator_at (s + 1) m n (omega arith) (omega arith))

abbrev numbered : ℕ × Sort → Name × Sort
numbered p = (codes "g" ++ decimal p.0, p.1)

get-map : {X Y : Type 0} (f : X → Y) (xs : List X) (n : ℕ) (x : X) → slice_get xs n ≡ Some x → slice_get (map f xs) n ≡ Some (f x)
get-map f [] n x h = cc
get-map f (y ∷ ys) zero x h = let same : y ≡ x = cc in ap (λ z. Some (f z)) same
get-map f (y ∷ ys) (suc n) x h = get-map f ys n x h

not_less : (m n : ℕ) → n < m → nat_le m n ≡ false
not_less m n h = grind (arith, nat_tests)

not_longer : (m n : ℕ) → n ≤ m → nat_lt m n ≡ false
not_longer m n h = grind (arith, nat_tests)

module _ (S : Schema) (schema : IsSchema S) where
  -- the name of a sort stands for the sort
  sort_read : (sort : Sort) → IsSort S sort → sort_named S (sort_text S sort) ≡ Some sort
  sort_read (Plain type) within =
      let there = slice_get-get_or S.typeside.types type [] within in
      ap (λ o. sort_named S (name_or_empty o)) there ∙ type_sort S schema type _ there
  sort_read (Entity entity) within =
      let there = slice_get-get_or S.entities entity [] within in
      ap (λ o. sort_named S (name_or_empty o)) there ∙ entity_sort S schema entity _ there

  abbrev IsSorted : Name × Sort → Type 0
  IsSorted g = IsSort S g.1

  -- the generators break no rule
  generators_pass : (sorts : List Sort) (s : ℕ) (earlier : List Name) → earlier ≡ map generator_text (below s) → s + length sorts ≤ 16000000
      → Every IsSorted (map numbered (enumerate_from (s + 1) sorts))
      → first_part_fault (λ part. part.0) (generator_fault S) earlier s (map (generator_part S) (map numbered (enumerate_from (s + 1) sorts))) ≡ None
  generators_pass [] s earlier are few each = refl
  generators_pass (sort ∷ sorts) s earlier are few each =
      let new : number_of earlier (generator_text s) ≡ None = ap (λ l. number_of l (generator_text s)) are ∙ no_generator 0 s s (omega arith) (omega arith) in
      let longer : earlier ++ generator_text s ∷ [] ≡ map generator_text (below (s + 1)) = ap (λ l. l ++ generator_text s ∷ []) are ∙ sym (map-range_with_len_more generator_text 0 s s (omega arith)) in
      let first : generator_fault S earlier s (generator_text s, sort_text S sort) ≡ None =
      ap (λ o. cond (is_some o) (Some (theory_refusal.Duplicate s)) (cond (is_none (sort_named S (sort_text S sort))) (Some (theory_refusal.Unknown s)) (cond (nat_le 16000000 s) (Some (theory_refusal.TooLarge s)) None))) new
      ∙ ap (λ o. cond (is_none o) (Some (theory_refusal.Unknown s)) (cond (nat_le 16000000 s) (Some (theory_refusal.TooLarge s)) None)) (sort_read sort each.0)
      ∙ ap (λ b. cond b (Some (theory_refusal.TooLarge s)) None) (not_less 16000000 s (omega arith)) in
      ap (λ o. or_else o (first_part_fault (λ part. part.0) (generator_fault S) (earlier ++ generator_text s ∷ []) (s + 1) (map (generator_part S) (map numbered (enumerate_from (s + 1 + 1) sorts))))) first
      ∙ generators_pass sorts (s + 1) (earlier ++ generator_text s ∷ []) longer (omega arith) each.1

  names_are : (sorts : List Sort) (s : ℕ) → generator_names (map (generator_part S) (map numbered (enumerate_from (s + 1) sorts))) ≡ map generator_text (range_with_len s (length sorts))
  names_are [] s = refl
  names_are (sort ∷ sorts) s = ap (λ l. generator_text s ∷ l) (names_are sorts (s + 1))

  -- what the generators' parts give
  generators_give : (G : Generators) → Every IsSorted G → map (λ part. (part.0, sort_or_first (sort_named S part.1))) (map (generator_part S) G) ≡ G
  generators_give [] each = refl
  generators_give (g ∷ G) each =
      let one = ap sort_or_first (sort_read g.1 each.0) in
      let others = generators_give G each.1 in
      λ j. (g.0, one j) ∷ others j

  module _ (sorts : List Sort) (equations : List Equation) where
    abbrev P : Presentation
    P = record { generators = named sorts; equations = equations }

    abbrev parts : List (Name × Name)
    parts = map (generator_part S) (named sorts)

    module _ (is : IsPresentation S (record { generators = named sorts; equations = equations })) where
      sorted : Every IsSorted (named sorts)
      sorted = Every-from_All IsSorted (named sorts) is.generators

      few : length sorts ≤ 16000000
      few = let count = is.count in omega (arith, length-map (enumerate_from 1 sorts) numbered, length-enumerate_from 1 sorts)

      found : (n : ℕ) (g : Name × Sort) → slice_get (named sorts) n ≡ Some g
          → (number_of (generator_names (map (generator_part S) (named sorts))) (generator_text n) ≡ Some n) × (slice_get (generator_sorts S (map (generator_part S) (named sorts))) n ≡ Some g.1)
      found n g at =
          let within : n < length sorts = omega (arith, slice_get_within (named sorts) n g at, length-map (enumerate_from 1 sorts) numbered, length-enumerate_from 1 sorts) in
          let small = few in
          let here : 0 + n ≡ n = omega arith in (
            ap (λ l. number_of l (generator_text n)) (names_are sorts 0)
                ∙ ap (λ k. number_of (map generator_text (below (length sorts))) (generator_text k)) (sym here) ∙ generator_at 0 (length sorts) n within (omega arith),
            get-map (λ part. sort_or_first (sort_named S part.1)) parts n (generator_part S g) (get-map (generator_part S) (named sorts) n g at)
                ∙ ap (λ o. Some (sort_or_first o)) (sort_read g.1 (Every-at IsSorted (named sorts) n g sorted at)),
          )

      abbrev Written : Raw → Term → Sort → Type 0
      Written = IsWritten S schema (named sorts) (generator_names (map (generator_part S) (named sorts))) (generator_sorts S (map (generator_part S) (named sorts))) found

      -- both sides are written, and are of one sort
      record AreSides (raws : Raw × Raw) (t u : Term) : Type 0 where
        sort : Sort
        left : Written raws.0 t sort
        right : Written raws.1 u sort
        left_fits : term_symbols t ≤ 1024
        right_fits : term_symbols u ≤ 1024

      same_itself : (sort : Sort) → same_sort sort sort ≡ true
      same_itself (Plain type) = eq-eqb type type refl
      same_itself (Entity entity) = eq-eqb entity entity refl

      sides_pass : (raws : Raw × Raw) (t u : Term) → AreSides raws t u
          → equation_fault S (generator_names (map (generator_part S) (named sorts))) (generator_sorts S (map (generator_part S) (named sorts))) raws ≡ None
      sides_pass raws t u sides =
          let names = generator_names parts in
          let kinds = generator_sorts S parts in
          let left_short : is_too_large raws.0 ≡ false = not_longer 1024 (raw_symbols raws.0) (let fits = sides.left_fits in omega (arith, sides.left.symbols)) in
          let right_short : is_too_large raws.1 ≡ false = not_longer 1024 (raw_symbols raws.1) (let fits = sides.right_fits in omega (arith, sides.right.symbols)) in
          let one : are_of_one_sort (raw_sort S names kinds raws.0) (raw_sort S names kinds raws.1) ≡ true = (λ j. are_of_one_sort (sides.left.sorted j) (sides.right.sorted j)) ∙ same_itself sides.sort in
          (λ j. cond (sides.left.known j || sides.right.known j) (Some refusal.Unknown)
          (cond (sides.left.counted j || sides.right.counted j) (Some refusal.WrongCount)
          (cond (not (one j)) (Some refusal.WrongSort)
          (cond (sides.left.unreserved j || sides.right.unreserved j) (Some refusal.Reserved)
          (cond (left_short j || right_short j) (Some refusal.TooLarge) None)))))

      sides_give : (raws : Raw × Raw) (t u : Term) → AreSides raws t u
          → equation_of (resolved S (generator_names (map (generator_part S) (named sorts))) (generator_sorts S (map (generator_part S) (named sorts))) raws.0)
          (resolved S (generator_names (map (generator_part S) (named sorts))) (generator_sorts S (map (generator_part S) (named sorts))) raws.1) ≡ equation_of t u
      sides_give raws t u sides = λ j. equation_of (sides.left.stands j) (sides.right.stands j)

      entity_some : (o : Option ℕ) (sort : Sort) → option_map Entity o ≡ Some sort → (e : ℕ) × (o ≡ Some e) × (Entity e ≡ sort)
      entity_some None sort h = cc
      entity_some (Some e) sort h = let same : Entity e ≡ sort = cc in (e, refl, same)

      type_some : (o : Option ℕ) (sort : Sort) → option_map Plain o ≡ Some sort → (type : ℕ) × (o ≡ Some type) × (Plain type ≡ sort)
      type_some None sort h = cc
      type_some (Some type) sort h = let same : Plain type ≡ sort = cc in (type, refl, same)

      left_term : Equation → Term
      left_term (equation.Ent t u) = Ent t
      left_term (equation.Typ t u) = Typ t

      right_term : Equation → Term
      right_term (equation.Ent t u) = Ent u
      right_term (equation.Typ t u) = Typ u

      -- an equation with both sides, and that these make it
      record IsMade (e : Equation) : Type 0 where
        left : Term
        right : Term
        sides : AreSides (equation_raws S e) left right
        made : equation_of left right ≡ e

      is_made : (e : Equation) → IsEquation S (record { generators = named sorts; equations = equations }) e → IsMade e
      is_made (equation.Ent t u) h =
          let first = entity_some (entity_of S (named sorts) t) h.sort h.left in
          let second = entity_some (entity_of S (named sorts) u) h.sort h.right in
          record {
            left = Ent t;
            right = Ent u;
            sides = record {
              sort = h.sort;
              left = subst (Written (entity_raw S t) (Ent t)) first.2 (entity_written S schema (named sorts) (generator_names parts) (generator_sorts S parts) found t first.0 first.1);
              right = subst (Written (entity_raw S u) (Ent u)) second.2 (entity_written S schema (named sorts) (generator_names parts) (generator_sorts S parts) found u second.0 second.1);
              left_fits = h.left_fits;
              right_fits = h.right_fits;
            };
            made = refl;
          }
      is_made (equation.Typ t u) h =
          let first = type_some (type_of S (named sorts) t) h.sort h.left in
          let second = type_some (type_of S (named sorts) u) h.sort h.right in
          record {
            left = Typ t;
            right = Typ u;
            sides = record {
              sort = h.sort;
              left = subst (Written (type_raw S t) (Typ t)) first.2 (type_written S schema (named sorts) (generator_names parts) (generator_sorts S parts) found t first.0 first.1);
              right = subst (Written (type_raw S u) (Typ u)) second.2 (type_written S schema (named sorts) (generator_names parts) (generator_sorts S parts) found u second.0 second.1);
              left_fits = h.left_fits;
              right_fits = h.right_fits;
            };
            made = refl;
          }

      equations_pass : (es : List Equation) (n : ℕ) → ((k : ℕ) (e : Equation) → slice_get es k ≡ Some e → IsEquation S (record { generators = named sorts; equations = equations }) e)
          → first_fault (equation_fault S (generator_names (map (generator_part S) (named sorts))) (generator_sorts S (map (generator_part S) (named sorts)))) n (map (equation_raws S) es) ≡ None
      equations_pass [] n each = refl
      equations_pass (e ∷ es) n each =
          let made = is_made e (each 0 e refl) in
          let fault = equation_fault S (generator_names parts) (generator_sorts S parts) in
          ap (λ o. or_else (option_map (in_part n) o) (first_fault fault (n + 1) (map (equation_raws S) es))) (sides_pass (equation_raws S e) made.left made.right made.sides)
          ∙ equations_pass es (n + 1) (λ k e' at. each (suc k) e' at)

      equations_give : (es : List Equation) → ((k : ℕ) (e : Equation) → slice_get es k ≡ Some e → IsEquation S (record { generators = named sorts; equations = equations }) e)
          → map (λ e. equation_of (resolved S (generator_names (map (generator_part S) (named sorts))) (generator_sorts S (map (generator_part S) (named sorts))) e.0)
          (resolved S (generator_names (map (generator_part S) (named sorts))) (generator_sorts S (map (generator_part S) (named sorts))) e.1)) (map (equation_raws S) es) ≡ es
      equations_give [] each = refl
      equations_give (e ∷ es) each =
          let made = is_made e (each 0 e refl) in
          let one = sides_give (equation_raws S e) made.left made.right made.sides ∙ made.made in
          let others = equations_give es (λ k e' at. each (suc k) e' at) in
          λ j. one j ∷ others j

      pub no_fault : presentation_fault S (map (generator_part S) (named sorts)) (map (equation_raws S) equations) ≡ None
      no_fault =
          ap (λ o. or_else o (first_fault (equation_fault S (generator_names parts) (generator_sorts S parts)) (length parts) (map (equation_raws S) equations)))
          (generators_pass sorts 0 [] refl (let small = few in omega arith) sorted)
          ∙ equations_pass equations (length parts) is.equations

      pub gives : presented S (map (generator_part S) (named sorts)) (map (equation_raws S) equations) ≡ record { generators = named sorts; equations = equations }
      gives =
          let generators = generators_give (named sorts) sorted in
          let those = equations_give equations is.equations in
          λ j. record { generators = generators j; equations = those j }

-- Where equations over renumbered variables hold at rows in that order where the equations hold at the rows.
use Rattle.std.proofs.Common.{ℕ, zero, suc, Bool, true, false, List, [], ◌∷◌, Option, Some, None, ◌≡◌, ◌<◌, ◌≤◌, ◌+◌, ◌==◌, ◌&&◌, inl, inr, map, length, refl, sym, ap, subst, ◌∙◌, arith}
use Rattle.std.specs.Prelude.{slice_get, slice_index, slice_index_or, option_and_then}
use Rattle.std.specs.List.{list_all}
use Rattle.std.proofs.lemmas.Bool.{cases_order}
use Rattle.std.proofs.lemmas.List.{length-map}
use Rattle.std.proofs.lemmas.Option.{slice_get_past, slice_get_within, slice_get-get_or, get_or_from_slice_get}
use Rattle.cq_theory.specs.declared.presentation.Equation.{Equation}
use Rattle.cq_theory.specs.declared.presentation.Equation.TheVariants as equation
use Rattle.cq_theory.specs.declared.term.EntTerm.{EntTerm}
use Rattle.cq_theory.specs.declared.term.TypeTerm.{TypeTerm}
use Rattle.cq_theory.specs.declared.value.Value.{Value}
use Rattle.cq_theory.specs.SchemaData.{SchemaData as Schema}
use Rattle.cq_theory.specs.Sorts.{Generators, followed, target_of, entity_at, entity_of, type_at, applied_type, type_of, type_step}
use Rattle.cq_theory.specs.Tables.{Tables, AtRow, Assignment, row_in, value_in, cell_at, row_from, row_of, value_of, value_step, applied, HasSort}
use Rattle.cq_theory.proofs.TypeTerms.{fold-Gen, fold-Const, fold-Att, fold-Fun, Each, on_terms}
use Rattle.cq_instance.specs.SameValue.{same_value}
use Rattle.cq_instance.specs.Terms.{AreStandings, IsEntTermOf, IsTypeTermOf}
use Rattle.cq_query.specs.Answers.{IsTuple}
use Rattle.cq_query.proofs.Holding.{tuple_at, tuple_from}
use Rattle.cq_eval.specs.Testing.{holds_at, IsTestAt}
use Rattle.cq_eval.specs.Order.{IsBack, IsOrder, picked, renamed_entity, renamed_step, renamed_type, renamed}

-- one number more that stands at its own place
pub back_more : (numbers places : List ℕ) (number : ℕ) (passed : Bool) → ((n : ℕ) → n < number → IsBack numbers places n) → (passed ≡ true → IsBack numbers places number) → passed ≡ true
    → (n : ℕ) → n < number + 1 → IsBack numbers places n
back_more numbers places number passed before here is n less = elim (cases_order n number) [
  | inl same ↦ subst (IsBack numbers places) (sym same) (here is)
  | inr other ↦ elim other [ inl lower ↦ before n lower | inr upper ↦ absurd (omega (arith, upper, less)) ]
]

-- what is picked stands at its place
pub picked_at : (places numbers : List ℕ) (v : ℕ) → v < length places → slice_index (picked places numbers) v ≡ slice_index numbers (slice_index places v)
picked_at [] numbers v h = absurd (omega (arith, h))
picked_at (p ∷ places) numbers zero h = refl
picked_at (p ∷ places) numbers (suc v) h = picked_at places numbers v (omega (arith, h))

pub index_past : (numbers : List ℕ) (v : ℕ) → length numbers ≤ v → slice_index numbers v ≡ 0
index_past [] v h = refl
index_past (n ∷ numbers) zero h = absurd (omega (arith, h))
index_past (n ∷ numbers) (suc v) h = index_past numbers v (omega (arith, h))

place_past : (places : List ℕ) (v : ℕ) → length places ≤ v → slice_index_or places v v ≡ v
place_past places v h = at places v v h
  where
    at : (ps : List ℕ) (n d : ℕ) → length ps ≤ n → slice_index_or ps n d ≡ d
    at [] n d h = refl
    at (p ∷ ps) zero d h = absurd (omega (arith, h))
    at (p ∷ ps) (suc n) d h = at ps n d (omega (arith, h))

place_within : (places : List ℕ) (v : ℕ) → v < length places → slice_index_or places v v ≡ slice_index places v
place_within places v h = at places v v h
  where
    at : (ps : List ℕ) (n d : ℕ) → n < length ps → slice_index_or ps n d ≡ slice_index ps n
    at [] n d h = absurd (omega (arith, h))
    at (p ∷ ps) zero d h = refl
    at (p ∷ ps) (suc n) d h = at ps n d (omega (arith, h))

stands_at : (rows : List ℕ) (v : ℕ) → slice_index_or (map AtRow rows) v (AtRow 0) ≡ AtRow (slice_index rows v)
stands_at [] v = refl
stands_at (r ∷ rows) zero = refl
stands_at (r ∷ rows) (suc v) = stands_at rows v

-- two lists with the same members
pub same_members : (xs ys : List ℕ) → length xs ≡ length ys → ((n : ℕ) → n < length xs → slice_index xs n ≡ slice_index ys n) → xs ≡ ys
same_members [] [] same h = refl
same_members [] (y ∷ ys) same h = absurd (omega (arith, same))
same_members (x ∷ xs) [] same h = absurd (omega (arith, same))
same_members (x ∷ xs) (y ∷ ys) same h = λ i. h 0 (omega arith) i ∷ same_members xs ys (omega (arith, same)) (λ n less. h (suc n) (omega (arith, less))) i

get_at : (xs : List ℕ) (n : ℕ) → n < length xs → slice_get xs n ≡ Some (slice_index xs n)
get_at xs n less = slice_get-get_or xs n 0 less

present : {X : Type 0} (xs : List X) (n : ℕ) → n < length xs → slice_get xs n ≡ None → ⊥
present [] n less none = absurd (omega (arith, less))
present (x ∷ xs) zero less none = cc
present (x ∷ xs) (suc n) less none = present xs n (omega (arith, less)) none

-- the members of a list, whatever they are, that stand at these places
module _ {X : Type 0} (xs : List X) where
  abbrev onto : Option X → List X → List X
  onto None l = l
  onto (Some x) l = x ∷ l

  abbrev chosen : List ℕ → List X
  chosen [] = []
  chosen (n ∷ ns) = onto (slice_get xs n) (chosen ns)

  onto_long : (n : ℕ) (l : List X) (o : Option X) → slice_get xs n ≡ o → n < length xs → length (onto o l) ≡ suc (length l)
  onto_long n l (Some x) is less = refl
  onto_long n l None is less = absurd (present xs n less is)

  onto_first : (n : ℕ) (l : List X) (o : Option X) → slice_get xs n ≡ o → n < length xs → slice_get (onto o l) 0 ≡ o
  onto_first n l (Some x) is less = refl
  onto_first n l None is less = absurd (present xs n less is)

  onto_later : (n k : ℕ) (l : List X) (o : Option X) → slice_get xs n ≡ o → n < length xs → slice_get (onto o l) (suc k) ≡ slice_get l k
  onto_later n k l (Some x) is less = refl
  onto_later n k l None is less = absurd (present xs n less is)

  chosen_long : (ns : List ℕ) → ((k : ℕ) → k < length ns → slice_index ns k < length xs) → length (chosen ns) ≡ length ns
  chosen_long [] h = refl
  chosen_long (n ∷ ns) h = onto_long n (chosen ns) (slice_get xs n) refl (h 0 (omega arith)) ∙ ap suc (chosen_long ns (λ k less. h (suc k) (omega (arith, less))))

  chosen_at : (ns : List ℕ) → ((k : ℕ) → k < length ns → slice_index ns k < length xs) → (k : ℕ) → k < length ns → slice_get (chosen ns) k ≡ slice_get xs (slice_index ns k)
  chosen_at [] h k less = absurd (omega (arith, less))
  chosen_at (n ∷ ns) h zero less = onto_first n (chosen ns) (slice_get xs n) refl (h 0 (omega arith))
  chosen_at (n ∷ ns) h (suc k) less =
      onto_later n k (chosen ns) (slice_get xs n) refl (h 0 (omega arith)) ∙ chosen_at ns (λ j below_j. h (suc j) (omega (arith, below_j))) k (omega (arith, less))

module _ (width : ℕ) (order places : List ℕ) (is : IsOrder width order places) where
  -- rows in the order of the variables, and in the order in which they are bound
  abbrev pub back : List ℕ → List ℕ
  back rows = picked places rows

  abbrev pub forth : List ℕ → List ℕ
  forth rows = picked order rows

  pub back_long : (rows : List ℕ) → length (back rows) ≡ width
  back_long rows = length-map places (slice_index rows) ∙ is.places_long

  pub forth_long : (rows : List ℕ) → length (forth rows) ≡ width
  forth_long rows = length-map order (slice_index rows) ∙ is.order_long

  pub forth_back : (rows : List ℕ) → length rows ≡ width → forth (back rows) ≡ rows
  forth_back rows long = same_members (forth (back rows)) rows (forth_long (back rows) ∙ sym long) (λ n less.
      let inside : n < width = omega (arith, less, forth_long (back rows)) in
      let at = is.ordered n inside in
      picked_at order (back rows) n (omega (arith, inside, is.order_long))
      ∙ picked_at places rows (slice_index order n) (omega (arith, at.0, is.places_long)) ∙ ap (slice_index rows) at.1)

  pub back_forth : (rows : List ℕ) → length rows ≡ width → back (forth rows) ≡ rows
  back_forth rows long = same_members (back (forth rows)) rows (back_long (forth rows) ∙ sym long) (λ v less.
      let inside : v < width = omega (arith, less, back_long (forth rows)) in
      let at = is.placed v inside in
      picked_at places (forth rows) v (omega (arith, inside, is.places_long))
      ∙ picked_at order rows (slice_index places v) (omega (arith, at.0, is.order_long)) ∙ ap (slice_index rows) at.1)

  -- choices of rows in the one order and in the other
  pub tuple_forth : (rows counts : List ℕ) → length counts ≡ width → IsTuple rows counts → IsTuple (forth rows) (picked order counts)
  tuple_forth rows counts wide h = tuple_from (forth rows) (picked order counts) (forth_long rows ∙ sym (forth_long counts)) (λ n row count at there.
      let inside : n < width = omega (arith, slice_get_within (forth rows) n row at, forth_long rows) in
      let v : ℕ = slice_index order n in
      let within = (is.ordered n inside).0 in
      let found = tuple_at rows counts h v (slice_index counts v) (get_at counts v (omega (arith, within, wide, is.places_long))) in
      let row_is : slice_index rows v ≡ row = sym (picked_at order rows n (omega (arith, inside, is.order_long))) ∙ get_or_from_slice_get (forth rows) n row 0 at in
      let count_is : slice_index counts v ≡ count = sym (picked_at order counts n (omega (arith, inside, is.order_long))) ∙ get_or_from_slice_get (picked order counts) n count 0 there in
      let found_is : slice_index rows v ≡ found.0 = get_or_from_slice_get rows v found.0 0 found.1 in
      let less = found.2 in
      omega (arith, less, row_is, count_is, found_is))

  pub tuple_back : (rows counts : List ℕ) → length counts ≡ width → IsTuple rows (picked order counts) → IsTuple (back rows) counts
  tuple_back rows counts wide h = tuple_from (back rows) counts (back_long rows ∙ sym wide) (λ v row count at there.
      let inside : v < width = omega (arith, slice_get_within (back rows) v row at, back_long rows) in
      let n : ℕ = slice_index places v in
      let placed = is.placed v inside in
      let within = placed.0 in
      let found = tuple_at rows (picked order counts) h n (slice_index (picked order counts) n) (get_at (picked order counts) n (omega (arith, within, forth_long counts, is.order_long))) in
      let row_is : slice_index rows n ≡ row = sym (picked_at places rows v (omega (arith, inside, is.places_long))) ∙ get_or_from_slice_get (back rows) v row 0 at in
      let count_is : slice_index (picked order counts) n ≡ count =
      picked_at order counts n (omega (arith, within, is.order_long)) ∙ ap (slice_index counts) placed.1 ∙ get_or_from_slice_get counts v count 0 there in
      let found_is : slice_index rows n ≡ found.0 = get_or_from_slice_get rows n found.0 0 found.1 in
      let less = found.2 in
      omega (arith, less, row_is, count_is, found_is))

  -- terms
  module _ (rows : List ℕ) (long : length rows ≡ width) where
    read : (v : ℕ) → slice_index rows (slice_index_or places v v) ≡ slice_index (back rows) v
    read v = elim (cases_order v width) [
      | inl same ↦ past (omega (arith, same))
      | inr other ↦ elim other [
        | inl less ↦ ap (slice_index rows) (place_within places v (omega (arith, less, is.places_long))) ∙ sym (picked_at places rows v (omega (arith, less, is.places_long)))
        | inr over ↦ past (omega (arith, over))
      ]
    ]
      where
        past : width ≤ v → slice_index rows (slice_index_or places v v) ≡ slice_index (back rows) v
        past h =
            ap (slice_index rows) (place_past places v (omega (arith, h, is.places_long))) ∙ index_past rows v (omega (arith, h, long))
            ∙ sym (index_past (back rows) v (omega (arith, h, back_long rows)))

    stands_same : (v : ℕ) → slice_index_or (map AtRow rows) (slice_index_or places v v) (AtRow 0) ≡ slice_index_or (map AtRow (back rows)) v (AtRow 0)
    stands_same v = stands_at rows (slice_index_or places v v) ∙ ap AtRow (read v) ∙ sym (stands_at (back rows) v)

    module _ (M : Tables) where
      abbrev A : Assignment
      A = map AtRow rows

      abbrev B : Assignment
      B = map AtRow (back rows)

      row_same : (t : EntTerm) → row_of M A (renamed_entity places t) ≡ row_of M B t
      row_same t = ap (λ m. row_from M (row_in m) t.path) (stands_same t.generator)

      abbrev IsSame : TypeTerm → Type 0
      IsSame t = value_of M A (renamed_type places t) ≡ value_of M B t

      args_same : (ts : List TypeTerm) → Each IsSame ts → map (value_of M A) (map (renamed_type places) ts) ≡ map (value_of M B) ts
      args_same [] each = refl
      args_same (t ∷ ts) each = λ i. each.0 i ∷ args_same ts each.1 i

      value_same : (t : TypeTerm) → IsSame t
      value_same = on_terms IsSame
          (λ n. ap (value_of M A) (fold-Gen TypeTerm (renamed_step places) n) ∙ fold-Gen Value (value_step M A) (slice_index_or places n n)
          ∙ ap value_in (stands_same n) ∙ sym (fold-Gen Value (value_step M B) n))
          (λ c. ap (value_of M A) (fold-Const TypeTerm (renamed_step places) c) ∙ fold-Const Value (value_step M A) c ∙ sym (fold-Const Value (value_step M B) c))
          (λ a t. ap (value_of M A) (fold-Att TypeTerm (renamed_step places) a t) ∙ fold-Att Value (value_step M A) a (renamed_entity places t)
          ∙ ap (cell_at M a) (row_same t) ∙ sym (fold-Att Value (value_step M B) a t))
          (λ f ts each. ap (value_of M A) (fold-Fun TypeTerm (renamed_step places) f ts) ∙ fold-Fun Value (value_step M A) f (map (renamed_type places) ts)
          ∙ ap (applied M f) (args_same ts each) ∙ sym (fold-Fun Value (value_step M B) f ts))

      pub holds_same : (e : Equation) → holds_at M rows (renamed places e) ≡ holds_at M (back rows) e
      holds_same (equation.Ent t u) = λ i. row_same t i == row_same u i
      holds_same (equation.Typ t u) = λ i. same_value (value_same t i) (value_same u i)

      pub all_hold_same : (tests : List Equation) → list_all (holds_at M rows) (map (renamed places) tests) ≡ list_all (holds_at M (back rows)) tests
      all_hold_same [] = refl
      all_hold_same (e ∷ tests) = λ i. holds_same e i && all_hold_same tests i

      -- their sorts
      module _ (S : Schema) (G : Generators) (standings : AreStandings S M G B) where
        size : length G ≡ width
        size = sym standings.count ∙ length-map (back rows) AtRow ∙ back_long rows

        abbrev H : Generators
        H = chosen G order

        order_within : (k : ℕ) → k < length order → slice_index order k < length G
        order_within k less =
            let inside : k < width = omega (arith, less, is.order_long) in
            let within = (is.ordered k inside).0 in
            omega (arith, within, size, is.places_long)

        H_long : length H ≡ width
        H_long = chosen_long G order order_within ∙ is.order_long

        generator_same : (v : ℕ) → slice_get H (slice_index_or places v v) ≡ slice_get G v
        generator_same v = elim (cases_order v width) [
          | inl same ↦ past (omega (arith, same))
          | inr other ↦ elim other [
            | inl less ↦
                let placed = is.placed v less in
                let within = placed.0 in
                ap (slice_get H) (place_within places v (omega (arith, less, is.places_long))) ∙ chosen_at G order order_within (slice_index places v) (omega (arith, within, is.order_long)) ∙ ap (slice_get G) placed.1
            | inr over ↦ past (omega (arith, over))
          ]
        ]
          where
            past : width ≤ v → slice_get H (slice_index_or places v v) ≡ slice_get G v
            past h =
                ap (slice_get H) (place_past places v (omega (arith, h, is.places_long))) ∙ slice_get_past H v (omega (arith, h, H_long))
                ∙ sym (slice_get_past G v (omega (arith, h, size)))

        stand : AreStandings S M H (map AtRow rows)
        stand = record {
          count = length-map rows AtRow ∙ long ∙ sym H_long;
          sorts = λ n g at.
              let inside : n < width = omega (arith, slice_get_within H n g at, H_long) in
              let v : ℕ = slice_index order n in
              let ordered = is.ordered n inside in
              let within = ordered.0 in
              let there : slice_get G v ≡ Some g = sym (chosen_at G order order_within n (omega (arith, inside, is.order_long))) ∙ at in
              let place : slice_index_or places v v ≡ n = place_within places v (omega (arith, within, is.places_long)) ∙ ordered.1 in
              subst (HasSort S M g.1) (sym (stands_same v) ∙ ap (λ m. slice_index_or (map AtRow rows) m (AtRow 0)) place) (standings.sorts v g there);
        }

        entity_same : (t : EntTerm) → entity_of S H (renamed_entity places t) ≡ entity_of S G t
        entity_same t = ap (λ o. option_and_then (target_of S.keys t.path) (entity_at o)) (generator_same t.generator)

        abbrev HasType : TypeTerm → Type 0
        HasType t = type_of S H (renamed_type places t) ≡ type_of S G t

        types_same : (ts : List TypeTerm) → Each HasType ts → map (type_of S H) (map (renamed_type places) ts) ≡ map (type_of S G) ts
        types_same [] each = refl
        types_same (t ∷ ts) each = λ i. each.0 i ∷ types_same ts each.1 i

        type_same : (t : TypeTerm) → HasType t
        type_same = on_terms HasType
            (λ n. ap (type_of S H) (fold-Gen TypeTerm (renamed_step places) n) ∙ fold-Gen (Option ℕ) (type_step S H) (slice_index_or places n n)
            ∙ ap type_at (generator_same n) ∙ sym (fold-Gen (Option ℕ) (type_step S G) n))
            (λ c. ap (type_of S H) (fold-Const TypeTerm (renamed_step places) c) ∙ fold-Const (Option ℕ) (type_step S H) c ∙ sym (fold-Const (Option ℕ) (type_step S G) c))
            (λ a t. ap (type_of S H) (fold-Att TypeTerm (renamed_step places) a t) ∙ fold-Att (Option ℕ) (type_step S H) a (renamed_entity places t)
            ∙ ap (option_and_then (followed (slice_get S.attributes a))) (entity_same t) ∙ sym (fold-Att (Option ℕ) (type_step S G) a t))
            (λ f ts each. ap (type_of S H) (fold-Fun TypeTerm (renamed_step places) f ts) ∙ fold-Fun (Option ℕ) (type_step S H) f (map (renamed_type places) ts)
            ∙ ap (applied_type (slice_get S.typeside.functions f)) (types_same ts each) ∙ sym (fold-Fun (Option ℕ) (type_step S G) f ts))

      entity_term : (S : Schema) (t : EntTerm) (entity : ℕ) → IsEntTermOf S M B t entity → IsEntTermOf S M A (renamed_entity places t) entity
      entity_term S t entity h = record {
        generators = chosen h.generators order;
        standings = stand S h.generators h.standings;
        of_entity = entity_same S h.generators h.standings t ∙ h.of_entity;
      }

      type_term : (S : Schema) (t : TypeTerm) (type : ℕ) → IsTypeTermOf S M B t type → IsTypeTermOf S M A (renamed_type places t) type
      type_term S t type h = record {
        generators = chosen h.generators order;
        standings = stand S h.generators h.standings;
        typed = type_same S h.generators h.standings t ∙ h.typed;
      }

      pub tested_same : (S : Schema) (e : Equation) → IsTestAt S M (back rows) e → IsTestAt S M rows (renamed places e)
      tested_same S (equation.Ent t u) h = (h.0, entity_term S t h.0 h.1, entity_term S u h.0 h.2)
      tested_same S (equation.Typ t u) h = (h.0, type_term S t h.0 h.1, type_term S u h.0 h.2)

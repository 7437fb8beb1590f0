-- A term that has a sort breaks no rule on names or counts, so these rules are asked for only where it has none.
use Rattle.std.proofs.Common.{ℕ, Bool, true, false, not, List, [], ◌∷◌, Option, Some, None, ◌≡◌, ◌==◌, ◌||◌, if◌then◌else◌, length, map, refl, sym, ap, ◌∙◌, suc, ◌&&◌}
use Rattle.std.specs.Prelude.{slice_get, is_none, option_and_then, option_map}
use Rattle.std.specs.List.{list_any}
use Rattle.std.proofs.lemmas.List.{length-map}
use Rattle.std.proofs.lemmas.Option.{cond_some, option_and_then_some}
use Rattle.std.proofs.lemmas.Bool.{eq-eqb}
use Rattle.cq_base.specs.declared.name.Name.{Name}
use Rattle.cq_base.specs.declared.raw.Raw.{Raw}
use Rattle.cq_base.specs.Names.{number_of}
use Rattle.cq_theory.specs.declared.constant.Con.TheVariants.{Named, Open}
use Rattle.cq_theory.specs.declared.presentation.Sort.{Sort}
use Rattle.cq_theory.specs.declared.presentation.Sort.TheVariants.{Plain, Entity}
use Rattle.cq_theory.specs.declared.lookup.Symbol.{Symbol}
use Rattle.cq_theory.specs.declared.lookup.Symbol.TheVariants.{Function, Key, Attribute}
use Rattle.cq_theory.specs.declared.refusal.TermRefusal.{TermRefusal}
use Rattle.cq_theory.specs.declared.refusal.TermRefusal.TheVariants.{Unknown, WrongCount, WrongSort, Reserved, TooLarge}
use Rattle.cq_theory.specs.declared.typeside.Fun.{Fun as FunctionData}
use Rattle.cq_theory.specs.SchemaData.{SchemaData as Schema}
use Rattle.cq_theory.specs.Sorts.{followed}
use Rattle.cq_theory.specs.Resolve.{or_else, constant_of, symbol_of, text_sort, word_sort, are_plain_of, function_sort, entity_in, only, symbol_sort}
use Rattle.cq_theory.specs.Resolve.{has_unknown, unknown_step, has_wrong_count, wrong_count_step, takes_another_count, function_arguments, has_reserved, is_too_large, raw_sort, raw_sort_step}
use Rattle.cq_theory.specs.Resolve.{are_of_one_sort, term_fault, equation_fault}
use Rattle.cq_theory.proofs.Raws.{fold-Word, fold-Text, fold-App, Each, on_raws}
use Rattle.cq_theory.proofs.ResolvedSorts.{plain_of, in_entity, map_some}
use Rattle.cq_theory.proofs.Sound.{both}

right_count : (count n : ℕ) (b : Bool) → count ≡ n → b ≡ false → (not (count == n) || b) ≡ false
right_count count n b same free = ap (λ t. not t || b) (eq-eqb count n same) ∙ free

module _ (S : Schema) (names : List Name) (sorts : List Sort) where
  abbrev IsKnown : Raw → Type 0
  IsKnown raw = (sort : Sort) → raw_sort S names sorts raw ≡ Some sort → (has_unknown S names raw ≡ false) × (has_wrong_count S raw ≡ false)

  -- the arguments break no rule on names or counts, and there are so many of them
  abbrev AreKnown : List Raw → ℕ → Type 0
  AreKnown args count = (list_any (λ b. b) (map (has_unknown S names) args) ≡ false) × (list_any (λ b. b) (map (has_wrong_count S) args) ≡ false)
      × (count ≡ length args)

  word_known : (number constant : Option ℕ) (sort : Sort) → word_sort S sorts number constant ≡ Some sort → (is_none number && is_none constant) ≡ false
  word_known (Some n) constant sort h = refl
  word_known None (Some c) sort h = refl
  word_known None None sort h = cc

  text_known : (text : Name) (constant : Option ℕ) (sort : Sort) → text_sort S constant ≡ Some sort
      → is_none (or_else (option_map Named constant) (option_map (λ type. Open text) S.typeside.open_type)) ≡ false
  text_known text (Some c) sort h = refl
  text_known text None sort h = at_type S.typeside.open_type h
    where
      at_type : (p : Option ℕ) → option_map Plain p ≡ Some sort → is_none (option_map (λ type. Open text) p) ≡ false
      at_type None h' = cc
      at_type (Some type) h' = refl

  args_known : (args : List Raw) (types : List ℕ) → are_plain_of (map (raw_sort S names sorts) args) types ≡ true → Each IsKnown args → AreKnown args (length types)
  args_known [] [] h each = (refl, refl, refl)
  args_known [] (type ∷ types) h each = cc
  args_known (a ∷ args) [] h each = cc
  args_known (a ∷ args) (type ∷ types) h each =
      let parts = both _ _ h in
      let known = each.0 (Plain type) (plain_of (raw_sort S names sorts a) type parts.0) in
      let rest = args_known args types parts.1 each.1 in (
        ap (λ b. b || list_any (λ b'. b') (map (has_unknown S names) args)) known.0 ∙ rest.0,
        ap (λ b. b || list_any (λ b'. b') (map (has_wrong_count S) args)) known.1 ∙ rest.1,
        ap suc rest.2,
      )

  only_known : (args : List Raw) (e : ℕ) → entity_in (only (map (raw_sort S names sorts) args)) ≡ Some e → Each IsKnown args → AreKnown args 1
  only_known [] e h each = cc
  only_known (a ∷ []) e h each =
      let known = each.0 (Entity e) (in_entity (raw_sort S names sorts a) e h) in
      (ap (λ b. b || false) known.0, ap (λ b. b || false) known.1, refl)
  only_known (a ∷ b ∷ args) e h each = cc

  -- the symbol breaks no rule on names or counts, where its arguments don't
  abbrev IsKnownSymbol : Option Symbol → List Raw → Type 0
  IsKnownSymbol symbol args = ((is_none symbol || list_any (λ b. b) (map (has_unknown S names) args)) ≡ false)
      × ((takes_another_count S symbol (length (map (has_wrong_count S) args)) || list_any (λ b. b) (map (has_wrong_count S) args)) ≡ false)

  count_known : (count : ℕ) (args : List Raw) → AreKnown args count
      → (not (count == length (map (has_wrong_count S) args)) || list_any (λ b. b) (map (has_wrong_count S) args)) ≡ false
  count_known count args known = right_count count (length (map (has_wrong_count S) args)) (list_any (λ b. b) (map (has_wrong_count S) args))
      (known.2 ∙ sym (length-map args (has_wrong_count S))) known.1

  symbol_known : (symbol : Option Symbol) (args : List Raw) (sort : Sort) → symbol_sort S symbol (map (raw_sort S names sorts) args) ≡ Some sort
      → Each IsKnown args → IsKnownSymbol symbol args
  symbol_known None args sort h each = cc
  symbol_known (Some (Function f)) args sort h each = at_function (slice_get S.typeside.functions f) refl h
    where
      at_function : (o : Option FunctionData) → slice_get S.typeside.functions f ≡ o → function_sort o (map (raw_sort S names sorts) args) ≡ Some sort
          → IsKnownSymbol (Some (Function f)) args
      at_function None is h' = cc
      at_function (Some f') is h' =
          let parts : (are_plain_of (map (raw_sort S names sorts) args) f'.args ≡ true) × (Plain f'.result ≡ sort) = cond_some _ _ _ h' in
          let known = args_known args f'.args parts.0 each in (
            known.0,
            ap (λ o. not (function_arguments o == length (map (has_wrong_count S) args)) || list_any (λ b. b) (map (has_wrong_count S) args)) is
                ∙ count_known (length f'.args) args known,
          )
  symbol_known (Some (Key k)) args sort h each =
      let found = map_some Entity (option_and_then (followed (slice_get S.keys k)) (entity_in (only (map (raw_sort S names sorts) args)))) sort h in
      option_and_then_some (followed (slice_get S.keys k)) (entity_in (only (map (raw_sort S names sorts) args))) found.0 found.1 (λ e first rest.
      let known = only_known args e first each in (known.0, count_known 1 args known))
  symbol_known (Some (Attribute a)) args sort h each =
      let found = map_some Plain (option_and_then (followed (slice_get S.attributes a)) (entity_in (only (map (raw_sort S names sorts) args)))) sort h in
      option_and_then_some (followed (slice_get S.attributes a)) (entity_in (only (map (raw_sort S names sorts) args))) found.0 found.1 (λ e first rest.
      let known = only_known args e first each in (known.0, count_known 1 args known))

  pub sorted-known : (raw : Raw) → IsKnown raw
  sorted-known = on_raws IsKnown
      (λ n sort h. (
        fold-Word Bool (unknown_step S names) n
            ∙ word_known (number_of names n) (constant_of S n) sort (sym (fold-Word (Option Sort) (raw_sort_step S names sorts) n) ∙ h),
        fold-Word Bool (wrong_count_step S) n,
      ))
      (λ n sort h. (
        fold-Text Bool (unknown_step S names) n
            ∙ text_known n (constant_of S n) sort (sym (fold-Text (Option Sort) (raw_sort_step S names sorts) n) ∙ h),
        fold-Text Bool (wrong_count_step S) n,
      ))
      (λ n args each sort h. let known = symbol_known (symbol_of S n) args sort (sym (fold-App (Option Sort) (raw_sort_step S names sorts) n args) ∙ h) each in
      (fold-App Bool (unknown_step S names) n args ∙ known.0, fold-App Bool (wrong_count_step S) n args ∙ known.1))

  -- what a term with a sort may break
  pub term_fault-sorted : (raw : Raw) (sort : Sort) → raw_sort S names sorts raw ≡ Some sort
      → (if has_reserved S raw then Some Reserved else (if is_too_large raw then Some TooLarge else None)) ≡ term_fault S names sorts raw
  term_fault-sorted raw sort h =
      let known = sorted-known raw sort h in
      at_tests (has_unknown S names raw) (has_wrong_count S raw) (is_none (raw_sort S names sorts raw)) _ known.0 known.1 (ap is_none h)
    where
      at_tests : (u w n : Bool) (other : Option TermRefusal) → u ≡ false → w ≡ false → n ≡ false
          → other ≡ (if u then Some Unknown else (if w then Some WrongCount else (if n then Some WrongSort else other)))
      at_tests true w n other h' i j = cc
      at_tests false true n other h' i j = cc
      at_tests false false true other h' i j = cc
      at_tests false false false other h' i j = refl

  -- two sides of one sort have sorts
  of_one_sort : (s t : Option Sort) → are_of_one_sort s t ≡ true → (a : Sort) × (b : Sort) × (s ≡ Some a) × (t ≡ Some b)
  of_one_sort None t h = cc
  of_one_sort (Some a) None h = cc
  of_one_sort (Some a) (Some b) h = (a, b, refl, refl)

  pub equation_fault-unsorted : (e : Raw × Raw) → are_of_one_sort (raw_sort S names sorts e.0) (raw_sort S names sorts e.1) ≡ false
      → equation_fault S names sorts e
      ≡ Some (if has_unknown S names e.0 || has_unknown S names e.1 then Unknown else (if has_wrong_count S e.0 || has_wrong_count S e.1 then WrongCount else WrongSort))
  equation_fault-unsorted e h =
      at_tests (has_unknown S names e.0 || has_unknown S names e.1) (has_wrong_count S e.0 || has_wrong_count S e.1)
      (are_of_one_sort (raw_sort S names sorts e.0) (raw_sort S names sorts e.1)) _ h
    where
      at_tests : (u w n : Bool) (other : Option TermRefusal) → n ≡ false
          → (if u then Some Unknown else (if w then Some WrongCount else (if not n then Some WrongSort else other)))
          ≡ Some (if u then Unknown else (if w then WrongCount else WrongSort))
      at_tests true w n other h' = refl
      at_tests false true n other h' = refl
      at_tests false false n other h' = ap (λ t. if not t then Some WrongSort else other) h'

  pub equation_fault-sorted : (e : Raw × Raw) → are_of_one_sort (raw_sort S names sorts e.0) (raw_sort S names sorts e.1) ≡ true
      → (if has_reserved S e.0 || has_reserved S e.1 then Some Reserved else (if is_too_large e.0 || is_too_large e.1 then Some TooLarge else None))
      ≡ equation_fault S names sorts e
  equation_fault-sorted e h =
      let found = of_one_sort (raw_sort S names sorts e.0) (raw_sort S names sorts e.1) h in
      let left = sorted-known e.0 found.0 found.2 in
      let right = sorted-known e.1 found.1 found.3 in
      at_tests (has_unknown S names e.0) (has_unknown S names e.1) (has_wrong_count S e.0) (has_wrong_count S e.1)
      (are_of_one_sort (raw_sort S names sorts e.0) (raw_sort S names sorts e.1)) _ left.0 right.0 left.1 right.1 h
    where
      at_tests : (u v w x n : Bool) (other : Option TermRefusal) → u ≡ false → v ≡ false → w ≡ false → x ≡ false → n ≡ true
          → other ≡ (if u || v then Some Unknown else (if w || x then Some WrongCount else (if not n then Some WrongSort else other)))
      at_tests u v w x n other a b c d h' =
          sym (ap (λ t. if t || v then Some Unknown else (if w || x then Some WrongCount else (if not n then Some WrongSort else other))) a
          ∙ ap (λ t. if t then Some Unknown else (if w || x then Some WrongCount else (if not n then Some WrongSort else other))) b
          ∙ ap (λ t. if t || x then Some WrongCount else (if not n then Some WrongSort else other)) c
          ∙ ap (λ t. if t then Some WrongCount else (if not n then Some WrongSort else other)) d
          ∙ ap (λ t. if not t then Some WrongSort else other) h')

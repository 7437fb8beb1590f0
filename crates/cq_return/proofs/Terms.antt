-- Terms that are written stand for themselves, and break no rule.
use Rattle.std.proofs.Common.{ℕ, suc, Bool, true, false, not, List, [], ◌∷◌, ◌++◌, Option, Some, None, ◌≡◌, ◌+◌, ◌&&◌, ◌||◌, cond, map, sum, length, refl, sym, ap, subst, ◌∙◌, append_assoc, append-nil, arith}
use Rattle.std.specs.Prelude.{fold, is_none, is_some, option_map, slice_get, ◌==◌}
use Rattle.std.specs.List.{list_any}
use Rattle.std.proofs.lemmas.Bool.{and_parts, eq-eqb}
use Rattle.std.proofs.lemmas.List.{length-map}
use Rattle.std.proofs.lemmas.List.Sums.{sum_by-cons}
use Rattle.std.proofs.lemmas.Option.{option_and_then_some}
use Rattle.cq_base.specs.declared.name.Name.{Name}
use Rattle.cq_base.specs.declared.raw.Raw.{Raw}
use Rattle.cq_base.specs.declared.raw.Raw.TheVariants.{Word, Text, App}
use Rattle.cq_base.specs.Names.{number_of}
use Rattle.cq_theory.specs.declared.constant.Con.{Con}
use Rattle.cq_theory.specs.declared.constant.Con.TheVariants.{Named, Open}
use Rattle.cq_theory.specs.declared.lookup.Symbol.{Symbol}
use Rattle.cq_theory.specs.declared.lookup.Symbol.TheVariants as symbol
use Rattle.cq_theory.specs.declared.presentation.Sort.{Sort}
use Rattle.cq_theory.specs.declared.presentation.Sort.TheVariants.{Plain, Entity}
use Rattle.cq_theory.specs.declared.schema.Edge.{Edge}
use Rattle.cq_theory.specs.declared.term.EntTerm.{EntTerm}
use Rattle.cq_theory.specs.declared.term.TypeTerm.{TypeTerm}
use Rattle.cq_theory.specs.declared.term.TypeTerm.TheVariants as term
use Rattle.cq_theory.specs.declared.term.Term.{Term}
use Rattle.cq_theory.specs.declared.term.Term.TheVariants.{Ent, Typ}
use Rattle.cq_theory.specs.EntTerm as ent
use Rattle.cq_theory.specs.Presentation.{term_symbols}
use Rattle.cq_theory.specs.Resolve.{are_plain_of, argument_count, constant_of, function_arguments, function_sort, has_reserved, has_unknown, has_wrong_count, is_plain_of, or_else, raw_sort, raw_sort_step, raw_symbols, raw_symbols_step, reserved_step, symbol_of, symbol_sort, takes_another_count, text_constant, text_sort, unknown_step, word_constant, word_sort, wrong_count_step}
use Rattle.cq_theory.specs.Resolved.{constant_term, generator_term, resolved, resolved_step, symbol_term, type_term_in, word_term}
use Rattle.cq_theory.specs.Schema.{IsSchema}
use Rattle.cq_theory.specs.SchemaData.{SchemaData as Schema}
use Rattle.cq_theory.specs.Sorts.{Generators, entity_at, entity_of, followed, have_types, is_type, target_of, type_at, type_of, type_step}
use Rattle.cq_theory.specs.Typeside.{constant_names, constant_type, is_reserved}
use Rattle.cq_theory.specs.TypeTerm as typ
use Rattle.cq_theory.specs.ValueText.{constant_name, function_name}
use Rattle.cq_theory.proofs.OnValues.{All_at}
use Rattle.cq_theory.proofs.Raws as raws
use Rattle.cq_theory.proofs.Sound.{applied_type_some, followed_some, is_type_some}
use Rattle.cq_theory.proofs.TypeTerms.{Each, fold-Gen, fold-Const, fold-Att, fold-Fun, on_terms}
use Rattle.cq_values.proofs.Tabled.{number_of-part}
use Rattle.cq_text.specs.Literal.{content_of, generator_text}
use Rattle.cq_text.specs.Transcript.{edge_name}
use Rattle.cq_return.specs.WrittenTerms.{entity_raw, raw_step, type_raw}
use Rattle.cq_return.proofs.Symbols.{attribute_symbol, function_symbol, key_symbol}

module _ (S : Schema) (schema : IsSchema S) (G : Generators) (names : List Name) (sorts : List Sort)
    (found : (n : ℕ) (g : Name × Sort) → slice_get G n ≡ Some g → (number_of names (generator_text n) ≡ Some n) × (slice_get sorts n ≡ Some g.1)) where
  -- the term as it is written breaks no rule, and is this term, of this sort
  pub record IsWritten (raw : Raw) (t : Term) (sort : Sort) : Type 0 where
    pub known : has_unknown S names raw ≡ false
    pub counted : has_wrong_count S raw ≡ false
    pub sorted : raw_sort S names sorts raw ≡ Some sort
    pub unreserved : has_reserved S raw ≡ false
    pub symbols : raw_symbols raw ≡ term_symbols t
    pub stands : resolved S names sorts raw ≡ t

  -- a generator
  generator_written : (n : ℕ) (g : Name × Sort) (t : Term) → slice_get G n ≡ Some g → generator_term n (Some g.1) ≡ t → term_symbols t ≡ 1 → IsWritten (Word (generator_text n)) t g.1
  generator_written n g t at is one =
      let here = found n g at in
      record {
        known = raws.fold-Word Bool (unknown_step S names) (generator_text n) ∙ ap (λ o. is_none o && is_none (constant_of S (generator_text n))) here.0;
        counted = raws.fold-Word Bool (wrong_count_step S) (generator_text n);
        sorted =
            raws.fold-Word (Option Sort) (raw_sort_step S names sorts) (generator_text n)
            ∙ ap (λ o. word_sort S sorts o (constant_of S (generator_text n))) here.0 ∙ here.1;
        unreserved = raws.fold-Word Bool (reserved_step S) (generator_text n);
        symbols = raws.fold-Word ℕ raw_symbols_step (generator_text n) ∙ sym one;
        stands =
            raws.fold-Word Term (resolved_step S names sorts) (generator_text n)
            ∙ ap (λ o. word_term sorts o (word_constant S (generator_text n))) here.0 ∙ ap (generator_term n) here.1 ∙ is;
      }

  -- a symbol at its one argument
  module _ (name : Name) (s : Symbol) (is : symbol_of S name ≡ Some s) (raw : Raw) (t : Term) (sort : Sort) (written : IsWritten raw t sort) (one : argument_count S s ≡ 1) where
    single_written : (u : Term) (result : Sort) → symbol_sort S (Some s) (Some sort ∷ []) ≡ Some result → symbol_term (Some s) (t ∷ []) ≡ u → term_symbols u ≡ term_symbols t + 1
        → IsWritten (App name (raw ∷ [])) u result
    single_written u result sorted stands symbols = record {
      known =
          raws.fold-App Bool (unknown_step S names) name (raw ∷ [])
          ∙ (λ j. is_none (is j) || list_any (λ b. b) (written.known j ∷ []));
      counted =
          raws.fold-App Bool (wrong_count_step S) name (raw ∷ [])
          ∙ (λ j. takes_another_count S (is j) 1 || list_any (λ b. b) (written.counted j ∷ []))
          ∙ ap (λ n. not (n == 1) || list_any (λ b. b) (false ∷ [])) one;
      sorted =
          raws.fold-App (Option Sort) (raw_sort_step S names sorts) name (raw ∷ [])
          ∙ (λ j. symbol_sort S (is j) (written.sorted j ∷ [])) ∙ sorted;
      unreserved = raws.fold-App Bool (reserved_step S) name (raw ∷ []) ∙ (λ j. list_any (λ b. b) (written.unreserved j ∷ []));
      symbols = omega (arith, raws.fold-App ℕ raw_symbols_step name (raw ∷ []), sum_by-cons (λ (m : ℕ). m) (raw_symbols raw) [], written.symbols, symbols);
      stands = raws.fold-App Term (resolved_step S names sorts) name (raw ∷ []) ∙ (λ j. symbol_term (is j) (written.stands j ∷ [])) ∙ stands;
    }

  edge_is : (edges : List Edge) (n : ℕ) (edge : Edge) → slice_get edges n ≡ Some edge → edge.name ≡ edge_name (slice_get edges n)
  edge_is edges n edge at = sym (ap edge_name at)

  follow : (raw : Raw) (k : ℕ) → Raw
  follow raw k = App (edge_name (slice_get S.keys k)) (raw ∷ [])

  -- a key of an entity term
  key_written : (raw : Raw) (t : EntTerm) (e target k : ℕ) → IsWritten raw (Ent t) (Entity e) → followed (slice_get S.keys k) e ≡ Some target
      → IsWritten (App (edge_name (slice_get S.keys k)) (raw ∷ [])) (Ent (ent.extended t (k ∷ []))) (Entity target)
  key_written raw t e target k written leads =
      let edge = followed_some (slice_get S.keys k) e target leads in
      let known = ap (symbol_of S) (ap edge_name edge.1) ∙ key_symbol S schema k edge.0 edge.1 in
      single_written (edge_name (slice_get S.keys k)) (symbol.Key k) known raw (Ent t) (Entity e) written refl (Ent (ent.extended t (k ∷ []))) (Entity target)
      (ap (option_map Entity) leads) refl (longer t.path k)
    where
      longer : (path : List ℕ) (k : ℕ) → length (path ++ k ∷ []) + 1 ≡ length path + 1 + 1
      longer [] k = omega arith
      longer (l ∷ path) k = let more = longer path k in omega arith

  path_written : (raw : Raw) (t : EntTerm) (path : List ℕ) (e target : ℕ) → IsWritten raw (Ent t) (Entity e) → target_of S.keys path e ≡ Some target
      → IsWritten (fold (λ r k. App (edge_name (slice_get S.keys k)) (r ∷ [])) raw path) (Ent (ent.extended t path)) (Entity target)
  path_written raw t [] e target written leads =
      let same : e ≡ target = cc in
      subst (λ (n : ℕ). IsWritten raw (Ent (ent.extended t [])) (Entity n)) same
      (subst (λ (l : List ℕ). IsWritten raw (Ent (record { generator = t.generator; path = l })) (Entity e)) (sym (append-nil t.path)) written)
  path_written raw t (k ∷ path) e target written leads =
      option_and_then_some (target_of S.keys path) (followed (slice_get S.keys k) e) target leads (λ middle first rest.
      subst (λ (l : List ℕ). IsWritten (fold (λ r k. App (edge_name (slice_get S.keys k)) (r ∷ [])) raw (k ∷ path)) (Ent (record { generator = t.generator; path = l })) (Entity target))
      (append_assoc t.path (k ∷ []) path)
      (path_written (App (edge_name (slice_get S.keys k)) (raw ∷ [])) (ent.extended t (k ∷ [])) path middle target (key_written raw t e middle k written first) rest))

  entity_there : (o : Option (Name × Sort)) (e : ℕ) → entity_at o ≡ Some e → (g : Name × Sort) × (o ≡ Some g) × (g.1 ≡ Entity e)
  entity_there None e h = cc
  entity_there (Some g) e h = (g, refl, go g.1 h)
    where
      go : (sort : Sort) → entity_at (Some (g.0, sort)) ≡ Some e → sort ≡ Entity e
      go (Plain n) h = cc
      go (Entity n) h = let same : n ≡ e = cc in ap Entity same

  type_there : (o : Option (Name × Sort)) (type : ℕ) → type_at o ≡ Some type → (g : Name × Sort) × (o ≡ Some g) × (g.1 ≡ Plain type)
  type_there None type h = cc
  type_there (Some g) type h = (g, refl, go g.1 h)
    where
      go : (sort : Sort) → type_at (Some (g.0, sort)) ≡ Some type → sort ≡ Plain type
      go (Plain n) h = let same : n ≡ type = cc in ap Plain same
      go (Entity n) h = cc

  pub entity_written : (t : EntTerm) (e : ℕ) → entity_of S G t ≡ Some e → IsWritten (entity_raw S t) (Ent t) (Entity e)
  entity_written t e of_entity =
      option_and_then_some (target_of S.keys t.path) (entity_at (slice_get G t.generator)) e of_entity (λ start first rest.
      let at = entity_there (slice_get G t.generator) start first in
      path_written (Word (generator_text t.generator)) (record { generator = t.generator; path = [] }) t.path start e
      (subst (IsWritten (Word (generator_text t.generator)) (Ent (record { generator = t.generator; path = [] }))) at.2
      (generator_written t.generator at.0 (Ent (record { generator = t.generator; path = [] })) at.1 (ap (λ s. generator_term t.generator (Some s)) at.2) refl)) rest)

  -- Constants.
  constant_known : (c : Con) (type : ℕ) → constant_type S.typeside c ≡ Some type
      → (text_constant S (content_of S.typeside c) ≡ Some c) × (text_sort S (constant_of S (content_of S.typeside c)) ≡ Some (Plain type)) × (is_reserved (content_of S.typeside c) ≡ false)
  constant_known (Named c) type typing = at_constant (slice_get S.typeside.constants c) refl typing
    where
      at_constant : (o : Option _) → slice_get S.typeside.constants c ≡ o → option_map (λ x. x.1) o ≡ Some type
          → (text_constant S (constant_name (slice_get S.typeside.constants c)) ≡ Some (Named c))
          × (text_sort S (constant_of S (constant_name (slice_get S.typeside.constants c))) ≡ Some (Plain type)) × (is_reserved (constant_name (slice_get S.typeside.constants c)) ≡ false)
      at_constant None e h = cc
      at_constant (Some x) e h =
          let number : constant_of S (constant_name (slice_get S.typeside.constants c)) ≡ Some c =
          ap (λ o. constant_of S (constant_name o)) e ∙ number_of-part (λ y. y.0) S.typeside.constants c x schema.typeside.distinct_constants e in
          let same : x.1 ≡ type = cc in (
            ap (λ o. or_else (option_map Named o) (option_map (λ type. Open (constant_name (slice_get S.typeside.constants c))) S.typeside.open_type)) number,
            ap (text_sort S) number ∙ ap (option_map (λ y. Plain y.1)) e ∙ ap (λ n. Some (Plain n)) same,
            ap (λ o. is_reserved (constant_name o)) e ∙ All_at (λ y. is_reserved y.0 ≡ false) S.typeside.constants c x schema.typeside.unreserved e,
          )
  constant_known (Open text) type typing = at_tests (is_reserved text) (number_of (constant_names S.typeside) text) S.typeside.open_type refl refl refl typing
    where
      at_tests : (r : Bool) (o : Option ℕ) (opened : Option ℕ) → is_reserved text ≡ r → number_of (constant_names S.typeside) text ≡ o → S.typeside.open_type ≡ opened
          → cond (r || is_some o) None opened ≡ Some type
          → (text_constant S text ≡ Some (Open text)) × (text_sort S (constant_of S text) ≡ Some (Plain type)) × (is_reserved text ≡ false)
      at_tests false None (Some t) e f g h =
          let same : t ≡ type = cc in (
            (λ j. or_else (option_map Named (f j)) (option_map (λ type. Open text) (g j))),
            ap (text_sort S) f ∙ ap (option_map Plain) g ∙ ap (λ n. Some (Plain n)) same,
            e,
          )
      at_tests false None None e f g h = cc
      at_tests true o opened e f g h = cc
      at_tests false (Some n) opened e f g h = cc

  constant_written : (c : Con) (type : ℕ) → constant_type S.typeside c ≡ Some type → IsWritten (Text (content_of S.typeside c)) (Typ (term.Const c)) (Plain type)
  constant_written c type typing =
      let known = constant_known c type typing in
      record {
        known = raws.fold-Text Bool (unknown_step S names) (content_of S.typeside c) ∙ ap is_none known.0;
        counted = raws.fold-Text Bool (wrong_count_step S) (content_of S.typeside c);
        sorted = raws.fold-Text (Option Sort) (raw_sort_step S names sorts) (content_of S.typeside c) ∙ known.1;
        unreserved = raws.fold-Text Bool (reserved_step S) (content_of S.typeside c) ∙ ap (λ b. is_some S.typeside.open_type && b) known.2 ∙ and_false (is_some S.typeside.open_type);
        symbols = raws.fold-Text ℕ raw_symbols_step (content_of S.typeside c) ∙ sym (fold-Const ℕ typ.symbols_step c);
        stands = raws.fold-Text Term (resolved_step S names sorts) (content_of S.typeside c) ∙ ap constant_term known.0;
      }
    where
      and_false : (b : Bool) → (b && false) ≡ false
      and_false true = refl
      and_false false = refl

  -- Type terms.
  abbrev IsWell : TypeTerm → Type 0
  IsWell t = (type : ℕ) → type_of S G t ≡ Some type → IsWritten (type_raw S t) (Typ t) (Plain type)

  on_generator : (n : ℕ) → IsWell (term.Gen n)
  on_generator n type typed =
      let at = type_there (slice_get G n) type (sym (fold-Gen (Option ℕ) (type_step S G) n) ∙ typed) in
      subst (λ r. IsWritten r (Typ (term.Gen n)) (Plain type)) (sym (fold-Gen Raw (raw_step S) n))
      (subst (IsWritten (Word (generator_text n)) (Typ (term.Gen n))) at.2
      (generator_written n at.0 (Typ (term.Gen n)) at.1 (ap (λ s. generator_term n (Some s)) at.2) (fold-Gen ℕ typ.symbols_step n)))

  on_constant : (c : Con) → IsWell (term.Const c)
  on_constant c type typed =
      subst (λ r. IsWritten r (Typ (term.Const c)) (Plain type)) (sym (fold-Const Raw (raw_step S) c))
      (constant_written c type (sym (fold-Const (Option ℕ) (type_step S G) c) ∙ typed))

  on_attribute : (a : ℕ) (t : EntTerm) → IsWell (term.Att a t)
  on_attribute a t type typed =
      option_and_then_some (followed (slice_get S.attributes a)) (entity_of S G t) type (sym (fold-Att (Option ℕ) (type_step S G) a t) ∙ typed) (λ e first leads.
      let edge = followed_some (slice_get S.attributes a) e type leads in
      let known = ap (symbol_of S) (ap edge_name edge.1) ∙ attribute_symbol S schema a edge.0 edge.1 in
      subst (λ r. IsWritten r (Typ (term.Att a t)) (Plain type)) (sym (fold-Att Raw (raw_step S) a t))
      (single_written (edge_name (slice_get S.attributes a)) (symbol.Attribute a) known (entity_raw S t) (Ent t) (Entity e) (entity_written t e first) refl
      (Typ (term.Att a t)) (Plain type) (ap (option_map Plain) leads) refl (fold-Att ℕ typ.symbols_step a t)))

  -- arguments
  record AreWritten (raws' : List Raw) (ts : List TypeTerm) (types : List ℕ) : Type 0 where
    known : list_any (λ b. b) (map (has_unknown S names) raws') ≡ false
    counted : list_any (λ b. b) (map (has_wrong_count S) raws') ≡ false
    sorted : are_plain_of (map (raw_sort S names sorts) raws') types ≡ true
    unreserved : list_any (λ b. b) (map (has_reserved S) raws') ≡ false
    symbols : sum (map raw_symbols raws') ≡ sum (map typ.symbols_of ts)
    stands : map type_term_in (map (resolved S names sorts) raws') ≡ ts
    number : length types ≡ length raws'

  args_written : (ts : List TypeTerm) (types : List ℕ) → Each IsWell ts → have_types (map (type_of S G) ts) types ≡ true → AreWritten (map (type_raw S) ts) ts types
  args_written [] [] each typed = record { known = refl; counted = refl; sorted = refl; unreserved = refl; symbols = refl; stands = refl; number = refl }
  args_written [] (type ∷ types) each typed = cc
  args_written (t ∷ ts) [] each typed = cc
  args_written (t ∷ ts) (type ∷ types) each typed =
      let parts = and_parts (is_type (type_of S G t) type) (have_types (map (type_of S G) ts) types) typed in
      let one = each.0 type (is_type_some _ _ parts.0) in
      let rest = args_written ts types each.1 parts.1 in
      record {
        known = (λ j. one.known j || rest.known j);
        counted = (λ j. one.counted j || rest.counted j);
        sorted = ap (λ o. is_plain_of o type && are_plain_of (map (raw_sort S names sorts) (map (type_raw S) ts)) types) one.sorted
            ∙ ap (λ b. b && are_plain_of (map (raw_sort S names sorts) (map (type_raw S) ts)) types) (eq-eqb type type refl) ∙ rest.sorted;
        unreserved = (λ j. one.unreserved j || rest.unreserved j);
        symbols = omega (
          arith,
          sum_by-cons (λ (m : ℕ). m) (raw_symbols (type_raw S t)) (map raw_symbols (map (type_raw S) ts)),
          sum_by-cons (λ (m : ℕ). m) (typ.symbols_of t) (map typ.symbols_of ts),
          one.symbols,
          rest.symbols,
        );
        stands = (λ j. type_term_in (one.stands j) ∷ rest.stands j);
        number = ap suc rest.number;
      }

  on_function : (f : ℕ) (ts : List TypeTerm) → Each IsWell ts → IsWell (term.Fun f ts)
  on_function f ts each type typed =
      let parts = applied_type_some (slice_get S.typeside.functions f) (map (type_of S G) ts) type (sym (fold-Fun (Option ℕ) (type_step S G) f ts) ∙ typed) in
      let name = function_name (slice_get S.typeside.functions f) in
      let known : symbol_of S name ≡ Some (symbol.Function f) = ap (symbol_of S) (ap function_name parts.1) ∙ function_symbol S schema f parts.0 parts.1 in
      let args = args_written ts parts.0.args each parts.2 in
      let given = map (type_raw S) ts in
      subst (λ r. IsWritten r (Typ (term.Fun f ts)) (Plain type)) (sym (fold-Fun Raw (raw_step S) f ts))
      (record {
        known = raws.fold-App Bool (unknown_step S names) name given ∙ (λ j. is_none (known j) || args.known j);
        counted =
            raws.fold-App Bool (wrong_count_step S) name given
            ∙ (λ j. takes_another_count S (known j) (length (map (has_wrong_count S) given)) || args.counted j)
            ∙ ap (λ o. not (function_arguments o == length (map (has_wrong_count S) given)) || false) parts.1
            ∙ ap (λ b. not b || false) (eq-eqb (length parts.0.args) (length (map (has_wrong_count S) given)) (args.number ∙ sym (length-map given (has_wrong_count S))));
        sorted =
            raws.fold-App (Option Sort) (raw_sort_step S names sorts) name given
            ∙ ap (λ o. symbol_sort S o (map (raw_sort S names sorts) given)) known
            ∙ ap (λ o. function_sort o (map (raw_sort S names sorts) given)) parts.1
            ∙ ap (λ b. cond b (Some (Plain parts.0.result)) None) args.sorted ∙ ap (λ n. Some (Plain n)) parts.3;
        unreserved = raws.fold-App Bool (reserved_step S) name given ∙ args.unreserved;
        symbols = raws.fold-App ℕ raw_symbols_step name given ∙ ap (λ n. n + 1) args.symbols ∙ sym (fold-Fun ℕ typ.symbols_step f ts);
        stands = raws.fold-App Term (resolved_step S names sorts) name given
            ∙ ap (λ o. symbol_term o (map (resolved S names sorts) given)) known ∙ ap (λ l. Typ (term.Fun f l)) args.stands;
      })

  pub type_written : (t : TypeTerm) (type : ℕ) → type_of S G t ≡ Some type → IsWritten (type_raw S t) (Typ t) (Plain type)
  type_written = on_terms IsWell on_generator on_constant on_attribute on_function

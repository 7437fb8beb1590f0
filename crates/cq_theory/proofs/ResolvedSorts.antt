-- A term that is looked up has the sort that was found for it.
use Rattle.std.proofs.Common.{ℕ, Bool, true, false, List, [], ◌∷◌, Option, Some, None, ◌≡◌, ◌&&◌, if◌then◌else◌, map, refl, sym, ap, ◌∙◌}
use Rattle.std.specs.Prelude.{slice_get, is_some, option_and_then, option_map}
use Rattle.std.specs.List.{list_any}
use Rattle.std.proofs.lemmas.Option.{cond_some, option_and_then_some}
use Rattle.std.proofs.lemmas.Bool.{eqb-true, eq-eqb}
use Rattle.cq_base.specs.declared.name.Name.{Name}
use Rattle.cq_base.specs.declared.raw.Raw.{Raw}
use Rattle.cq_base.specs.Names.{number_of}
use Rattle.cq_theory.specs.declared.constant.Con.TheVariants.{Named, Open}
use Rattle.cq_theory.specs.Typeside.{is_reserved}
use Rattle.cq_theory.specs.declared.presentation.Sort.{Sort}
use Rattle.cq_theory.specs.declared.presentation.Sort.TheVariants.{Plain, Entity}
use Rattle.cq_theory.specs.declared.lookup.Symbol.{Symbol}
use Rattle.cq_theory.specs.declared.lookup.Symbol.TheVariants.{Function, Key, Attribute}
use Rattle.cq_theory.specs.declared.typeside.Fun.{Fun as FunctionData}
use Rattle.cq_theory.specs.SchemaData.{SchemaData as Schema}
use Rattle.cq_theory.specs.declared.term.TypeTerm.TheVariants.{Fun}
use Rattle.cq_theory.specs.declared.term.Term.{Term}
use Rattle.cq_theory.specs.declared.term.Term.TheVariants.{Ent, Typ}
use Rattle.cq_theory.specs.Sorts.{Generators, followed, target_of, entity_at, type_at, entity_of, is_type, have_types, applied_type, type_of, type_step, sort_of}
use Rattle.cq_theory.specs.Resolve.{or_else, constant_of, symbol_of, constant_sort, text_sort, word_sort, is_plain_of, are_plain_of, function_sort, entity_in, only, symbol_sort, has_reserved, reserved_step, raw_sort, raw_sort_step}
use Rattle.cq_theory.specs.Resolved.{resolved, resolved_step, type_term_in, entity_term_in, generator_term, constant_term, word_term, first_entity_term, symbol_term}
use Rattle.cq_theory.proofs.TypeTerms.{fold-Gen, fold-Const, fold-Att, fold-Fun}
use Rattle.cq_theory.proofs.Raws.{fold-Word, fold-Text, fold-App, Each, on_raws}
use Rattle.cq_theory.proofs.Constants.{open_typed}
use Rattle.cq_theory.proofs.Faults.{neither}
use Rattle.cq_theory.proofs.Sound.{both}
use Rattle.cq_theory.proofs.Closings.{entity_of-extended}

pub plain_of : (o : Option Sort) (type : ℕ) → is_plain_of o type ≡ true → o ≡ Some (Plain type)
plain_of None type h = cc
plain_of (Some (Plain t)) type h = ap (λ n. Some (Plain n)) (eqb-true t type h)
plain_of (Some (Entity e)) type h = cc

pub in_entity : (o : Option Sort) (e : ℕ) → entity_in o ≡ Some e → o ≡ Some (Entity e)
in_entity None e h = cc
in_entity (Some (Plain t)) e h = cc
in_entity (Some (Entity f)) e h = let same : f ≡ e = cc in ap (λ n. Some (Entity n)) same

pub map_some : {A B : Type 0} (f : A → B) (o : Option A) (y : B) → option_map f o ≡ Some y → (x : A) × (o ≡ Some x) × (f x ≡ y)
map_some f None y h = cc
map_some f (Some x) y h = (x, refl, (let same : f x ≡ y = cc in same))

module _ (S : Schema) (G : Generators) where
  pub type_of-in : (t : Term) (type : ℕ) → sort_of S G t ≡ Some (Plain type) → type_of S G (type_term_in t) ≡ Some type
  type_of-in (Typ t) type h = let found = map_some Plain (type_of S G t) (Plain type) h in found.1 ∙ (let same : found.0 ≡ type = cc in ap (λ n. Some n) same)
  type_of-in (Ent t) type h = let found = map_some Entity (entity_of S G t) (Plain type) h in absurd (let clash : Entity found.0 ≡ Plain type = found.2 in cc)

  entity_of-in : (t : Term) (entity : ℕ) → sort_of S G t ≡ Some (Entity entity) → entity_of S G (entity_term_in t) ≡ Some entity
  entity_of-in (Ent t) entity h = let found = map_some Entity (entity_of S G t) (Entity entity) h in found.1 ∙ (let same : found.0 ≡ entity = cc in ap (λ n. Some n) same)
  entity_of-in (Typ t) entity h = let found = map_some Plain (type_of S G t) (Entity entity) h in absurd (let clash : Plain found.0 ≡ Entity entity = found.2 in cc)

  module _ (names : List Name) (sorts : List Sort)
      (agree : (n : ℕ) (sort : Sort) → slice_get sorts n ≡ Some sort → (g : Name × Sort) × (slice_get G n ≡ Some g) × (g.1 ≡ sort)) where
    abbrev KeepsSort : Raw → Type 0
    KeepsSort raw = (sort : Sort) → raw_sort S names sorts raw ≡ Some sort → sort_of S G (resolved S names sorts raw) ≡ Some sort

    -- without a reserved text
    abbrev KeepsSortIfFree : Raw → Type 0
    KeepsSortIfFree raw = has_reserved S raw ≡ false → KeepsSort raw

    each_keeps : (args : List Raw) → Each KeepsSortIfFree args → list_any (λ b. b) (map (has_reserved S) args) ≡ false → Each KeepsSort args
    each_keeps [] each h = tt
    each_keeps (a ∷ args) each h =
        let parts = neither (has_reserved S a) (list_any (λ b. b) (map (has_reserved S) args)) h in
        (each.0 parts.0, each_keeps args each.1 parts.1)

    constant_keeps : (o : Option ℕ) (sort : Sort) → constant_sort S o ≡ Some sort → sort_of S G (constant_term (option_map Named o)) ≡ Some sort
    constant_keeps None sort h = cc
    constant_keeps (Some c) sort h =
        let found = map_some (λ (constant : Name × ℕ). Plain constant.1) (slice_get S.typeside.constants c) sort h in
        ap (option_map Plain) (fold-Const (Option ℕ) (type_step S G) (Named c) ∙ ap (option_map (λ (constant : Name × ℕ). constant.1)) found.1) ∙ ap (λ (s : Sort). Some s) found.2

    text_keeps : (text : Name) (o : Option ℕ) (sort : Sort) → constant_of S text ≡ o → (is_some S.typeside.open_type && is_reserved text) ≡ false → text_sort S o ≡ Some sort
        → sort_of S G (constant_term (or_else (option_map Named o) (option_map (λ type. Open text) S.typeside.open_type))) ≡ Some sort
    text_keeps text (Some c) sort undeclared free h = constant_keeps (Some c) sort h
    text_keeps text None sort undeclared free h = at_type S.typeside.open_type refl free h
      where
        at_type : (p : Option ℕ) → S.typeside.open_type ≡ p → (is_some p && is_reserved text) ≡ false → option_map Plain p ≡ Some sort
            → sort_of S G (constant_term (option_map (λ type. Open text) p)) ≡ Some sort
        at_type None is free' h' = cc
        at_type (Some type) is free' h' = ap (option_map Plain) (fold-Const (Option ℕ) (type_step S G) (Open text) ∙ open_typed S.typeside text type free' undeclared is) ∙ h'

    generator_keeps : (n : ℕ) (sort : Sort) → slice_get sorts n ≡ Some sort → sort_of S G (generator_term n (Some sort)) ≡ Some sort
    generator_keeps n (Entity e) h =
        let g = agree n (Entity e) h in
        ap (option_map Entity) (ap (λ o. option_and_then (target_of S.keys []) (entity_at o)) g.1 ∙ ap (λ (s : Sort). option_and_then (target_of S.keys []) (entity_at (Some (g.0.0, s)))) g.2)
    generator_keeps n (Plain t) h =
        let g = agree n (Plain t) h in
        ap (option_map Plain) (fold-Gen (Option ℕ) (type_step S G) n ∙ ap type_at g.1 ∙ ap (λ (s : Sort). type_at (Some (g.0.0, s))) g.2)

    word_keeps : (number other : Option ℕ) (sort : Sort) → word_sort S sorts number other ≡ Some sort → sort_of S G (word_term sorts number (option_map Named other)) ≡ Some sort
    word_keeps None other sort h = constant_keeps other sort h
    word_keeps (Some n) other sort h = ap (λ o. sort_of S G (generator_term n o)) h ∙ generator_keeps n sort h

    args_keep : (args : List Raw) (types : List ℕ) → are_plain_of (map (raw_sort S names sorts) args) types ≡ true → Each KeepsSort args
        → have_types (map (type_of S G) (map type_term_in (map (resolved S names sorts) args))) types ≡ true
    args_keep [] [] h each = refl
    args_keep [] (type ∷ types) h each = cc
    args_keep (a ∷ args) [] h each = cc
    args_keep (a ∷ args) (type ∷ types) h each =
        let parts : (is_plain_of (raw_sort S names sorts a) type ≡ true) × (are_plain_of (map (raw_sort S names sorts) args) types ≡ true) = both _ _ h in
        let found : type_of S G (type_term_in (resolved S names sorts a)) ≡ Some type
        = type_of-in (resolved S names sorts a) type (each.0 (Plain type) (plain_of (raw_sort S names sorts a) type parts.0)) in
        let rest : have_types (map (type_of S G) (map type_term_in (map (resolved S names sorts) args))) types ≡ true = args_keep args types parts.1 each.1 in
        ap (λ o. is_type o type && have_types (map (type_of S G) (map type_term_in (map (resolved S names sorts) args))) types) found
        ∙ ap (λ b. b && have_types (map (type_of S G) (map type_term_in (map (resolved S names sorts) args))) types) (eq-eqb type type refl) ∙ rest

    -- the entity of the one argument
    only_keeps : (args : List Raw) (e : ℕ) → entity_in (only (map (raw_sort S names sorts) args)) ≡ Some e → Each KeepsSort args
        → entity_of S G (first_entity_term (map (resolved S names sorts) args)) ≡ Some e
    only_keeps [] e h each = cc
    only_keeps (a ∷ []) e h each = entity_of-in (resolved S names sorts a) e (each.0 (Entity e) (in_entity (raw_sort S names sorts a) e h))
    only_keeps (a ∷ b ∷ args) e h each = cc

    symbol_keeps : (o : Option Symbol) (args : List Raw) (sort : Sort) → symbol_sort S o (map (raw_sort S names sorts) args) ≡ Some sort → Each KeepsSort args
        → sort_of S G (symbol_term o (map (resolved S names sorts) args)) ≡ Some sort
    symbol_keeps None args sort h each = cc
    symbol_keeps (Some (Function f)) args sort h each = go (slice_get S.typeside.functions f) refl h
      where
        go : (o : Option FunctionData) → slice_get S.typeside.functions f ≡ o → function_sort o (map (raw_sort S names sorts) args) ≡ Some sort
            → sort_of S G (Typ (Fun f (map type_term_in (map (resolved S names sorts) args)))) ≡ Some sort
        go None is h' = cc
        go (Some f') is h' =
            let parts : (are_plain_of (map (raw_sort S names sorts) args) f'.args ≡ true) × (Plain f'.result ≡ sort) = cond_some _ _ _ h' in
            ap (option_map Plain) (fold-Fun (Option ℕ) (type_step S G) f (map type_term_in (map (resolved S names sorts) args))
            ∙ ap (λ o. applied_type o (map (type_of S G) (map type_term_in (map (resolved S names sorts) args)))) is
            ∙ ap (λ (b : Bool). if b then Some f'.result else None) (args_keep args f'.args parts.0 each))
            ∙ ap (λ (s : Sort). Some s) parts.1
    symbol_keeps (Some (Key k)) args sort h each =
        let found = map_some Entity (option_and_then (followed (slice_get S.keys k)) (entity_in (only (map (raw_sort S names sorts) args)))) sort h in
        option_and_then_some (followed (slice_get S.keys k)) (entity_in (only (map (raw_sort S names sorts) args))) found.0 found.1 (λ e first rest.
        ap (option_map Entity) (entity_of-extended S (record { generators = G; equations = [] }) (first_entity_term (map (resolved S names sorts) args)) (k ∷ [])
        ∙ ap (option_and_then (target_of S.keys (k ∷ []))) (only_keeps args e first each)
        ∙ ap (option_and_then (target_of S.keys [])) rest)
        ∙ ap (λ (s : Sort). Some s) found.2)
    symbol_keeps (Some (Attribute a)) args sort h each =
        let found = map_some Plain (option_and_then (followed (slice_get S.attributes a)) (entity_in (only (map (raw_sort S names sorts) args)))) sort h in
        option_and_then_some (followed (slice_get S.attributes a)) (entity_in (only (map (raw_sort S names sorts) args))) found.0 found.1 (λ e first rest.
        ap (option_map Plain) (fold-Att (Option ℕ) (type_step S G) a (first_entity_term (map (resolved S names sorts) args))
        ∙ ap (option_and_then (followed (slice_get S.attributes a))) (only_keeps args e first each) ∙ rest)
        ∙ ap (λ (s : Sort). Some s) found.2)

    pub sort_of-resolved : (raw : Raw) → KeepsSortIfFree raw
    sort_of-resolved = on_raws KeepsSortIfFree
        (λ n free sort h. ap (sort_of S G) (fold-Word Term (resolved_step S names sorts) n)
        ∙ word_keeps (number_of names n) (constant_of S n) sort (sym (fold-Word (Option Sort) (raw_sort_step S names sorts) n) ∙ h))
        (λ n free sort h. ap (sort_of S G) (fold-Text Term (resolved_step S names sorts) n)
        ∙ text_keeps n (constant_of S n) sort refl (sym (fold-Text Bool (reserved_step S) n) ∙ free) (sym (fold-Text (Option Sort) (raw_sort_step S names sorts) n) ∙ h))
        (λ n args each free sort h. ap (sort_of S G) (fold-App Term (resolved_step S names sorts) n args)
        ∙ symbol_keeps (symbol_of S n) args sort (sym (fold-App (Option Sort) (raw_sort_step S names sorts) n args) ∙ h) (each_keeps args each (sym (fold-App Bool (reserved_step S) n args) ∙ free)))

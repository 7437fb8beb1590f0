-- What is derivable holds in each model of the presentation.
use Rattle.std.proofs.Common.{ℕ, zero, suc, Bool, true, false, List, [], ◌∷◌, ◌++◌, Option, Some, None, ◌≡◌, ◌<◌, ◌==◌, ◌&&◌, map, length, refl, sym, ap, subst, ◌∙◌, slice_index_or}
use Rattle.std.specs.Prelude.{slice_get}
use Rattle.std.proofs.lemmas.Option.{option_and_then_some, cond_some}
use Rattle.cq_base.specs.declared.name.Name.{Name}
use borrow.Author.Tests.{eqb-true}
use Rattle.cq_theory.specs.declared.presentation.Presentation.{Presentation}
use Rattle.cq_theory.specs.declared.presentation.Sort.{Sort}
use Rattle.cq_theory.specs.declared.presentation.Sort.TheVariants.{Plain, Entity}
use Rattle.cq_theory.specs.SchemaData.{SchemaData as Schema}
use Rattle.cq_theory.specs.declared.schema.Edge.{Edge}
use Rattle.cq_theory.specs.declared.typeside.Fun.{Fun as Function}
use Rattle.cq_theory.specs.declared.term.EntTerm.{EntTerm}
use Rattle.cq_theory.specs.declared.term.TypeTerm.{TypeTerm}
use Rattle.cq_theory.specs.declared.term.TypeTerm.TheVariants.{Att}
use Rattle.cq_theory.specs.declared.term.TypeTerm.TheOpen as layer
use Rattle.cq_theory.specs.declared.term.Term.{Term}
use Rattle.cq_theory.specs.declared.term.Term.TheVariants.{Ent, Typ}
use Rattle.cq_theory.specs.declared.value.Value.{Value}
use Rattle.cq_theory.specs.EntTerm.{extended}
use Rattle.cq_theory.specs.TypeTerm.{substituted, substituted_step}
use Rattle.cq_theory.specs.Sorts.{followed, target_of, entity_at, type_at, entity_of, is_type, have_types, applied_type, type_of, type_step}
use Rattle.cq_theory.specs.Schema.{IsSchema, one_of}
use Rattle.cq_theory.specs.Derivation.{Derivation, Derivations, reflexivity, symmetry, transitivity, key, attribute, function, given, path_equation, observation, none, more, Concludes, Conclude, Derives}
use Rattle.cq_theory.specs.Tables.{Tables, Meaning, AtRow, AtValue, Assignment, row_in, value_in, count_of, key_at, cell_at, row_from, row_of, value_of, value_step, meaning_of, applied, HasSort, IsWellFormed, Holds}
use Rattle.cq_theory.proofs.TypeTerms.{fold-Gen, fold-Const, fold-Att, fold-Fun, Each, on_terms}

-- the ways in which an edge can be followed
pub followed_some : (o : Option Edge) (e target : ℕ) → followed o e ≡ Some target → (edge : Edge) × (o ≡ Some edge) × (edge.from ≡ e) × (edge.to ≡ target)
followed_some None e target h = cc
followed_some (Some edge) e target h =
    let parts : ((edge.from == e) ≡ true) × (edge.to ≡ target) = cond_some _ _ _ h in
    (edge, refl, eqb-true _ _ parts.0, parts.1)

pub row_from-append : (M : Tables) (row : ℕ) (p q : List ℕ) → row_from M row (p ++ q) ≡ row_from M (row_from M row p) q
row_from-append M row [] q = refl
row_from-append M row (k ∷ p) q = row_from-append M (key_at M k row) p q

module _ (S : Schema) (M : Tables) (well_formed : IsWellFormed S M) where
  -- a path from a row of an entity leads to a row of its target
  row_from-within : (path : List ℕ) (e target row : ℕ) → target_of S.keys path e ≡ Some target → row < count_of M e → row_from M row path < count_of M target
  row_from-within [] e target row h within = let same : e ≡ target = cc in subst (λ n. row < count_of M n) same within
  row_from-within (k ∷ path) e target row h within =
      option_and_then_some (target_of S.keys path) (followed (slice_get S.keys k) e) target h (λ middle first rest.
      let edge : (edge : Edge) × (slice_get S.keys k ≡ Some edge) × (edge.from ≡ e) × (edge.to ≡ middle) = followed_some (slice_get S.keys k) e middle first in
      let column = well_formed.key_columns k edge.0 edge.1 in
      let inside : row < length (slice_index_or M.sheet.keys k []) = subst (λ n. row < n) (sym column.0) (subst (λ n. row < count_of M n) (sym edge.2) within) in
      let next : key_at M k row < count_of M edge.0.to = column.1 row 0 inside in
      row_from-within path middle target (key_at M k row) rest (subst (λ n. key_at M k row < count_of M n) edge.3 next))

entity_at_some : (o : Option (Name × Sort)) (e : ℕ) → entity_at o ≡ Some e → (g : Name × Sort) × (o ≡ Some g) × (g.1 ≡ Entity e)
entity_at_some None e h = cc
entity_at_some (Some g) e h = (g, refl, go g.1 h)
  where
    go : (sort : Sort) → entity_at (Some (g.0, sort)) ≡ Some e → sort ≡ Entity e
    go (Plain n) h = cc
    go (Entity n) h = let same : n ≡ e = cc in ap Entity same

pub both : (a b : Bool) → (a && b) ≡ true → (a ≡ true) × (b ≡ true)
both true b h = (refl, h)
both false b h = cc

pub is_type_some : (o : Option ℕ) (type : ℕ) → is_type o type ≡ true → o ≡ Some type
is_type_some None type h = cc
is_type_some (Some t) type h = ap (λ n. Some n) (eqb-true t type h)

pub applied_type_some : (o : Option Function) (types : List (Option ℕ)) (type : ℕ) → applied_type o types ≡ Some type
    → (f : Function) × (o ≡ Some f) × (have_types types f.args ≡ true) × (f.result ≡ type)
applied_type_some None types type h = cc
applied_type_some (Some f) types type h =
    let parts : (have_types types f.args ≡ true) × (f.result ≡ type) = cond_some _ _ _ h in
    (f, refl, parts.0, parts.1)

module _ (S : Schema) (P : Presentation) (M : Tables) (A : Assignment) (holds : Holds S P M A) where
  row_in-within : (m : Meaning) (e : ℕ) → HasSort S M (Entity e) m → row_in m < count_of M e
  row_in-within (AtRow r) e h = h
  row_in-within (AtValue v) e h = absurd h

  -- an entity term names a row of its entity
  pub row_of-within : (t : EntTerm) (e : ℕ) → entity_of S P.generators t ≡ Some e → row_of M A t < count_of M e
  row_of-within t e h = option_and_then_some (target_of S.keys t.path) (entity_at (slice_get P.generators t.generator)) e h (λ start first rest.
      let g : (g : Name × Sort) × (slice_get P.generators t.generator ≡ Some g) × (g.1 ≡ Entity start) = entity_at_some (slice_get P.generators t.generator) start first in
      let m = slice_index_or A t.generator (AtRow 0) in
      let begins : row_in m < count_of M start = row_in-within m start (subst (λ (sort : Sort). HasSort S M sort m) g.2 (holds.sorts t.generator g.0 g.1)) in
      row_from-within S M holds.well_formed t.path start e (row_in m) rest begins)

  -- a term in which at stands for the variable means what the term means at at's row
  module _ (at : EntTerm) (e : ℕ) where
    abbrev here : Assignment
    here = AtRow (row_of M A at) ∷ []

    abbrev IsSubstituted : TypeTerm → Type 0
    IsSubstituted t = (type : ℕ) → type_of S (one_of e) t ≡ Some type → value_of M A (substituted at t) ≡ value_of M here t

    no_variable : (n type : ℕ) → type_at (slice_get (one_of e) n) ≡ Some type → ⊥
    no_variable zero type h = cc
    no_variable (suc n) type h = cc

    first_variable : (n start : ℕ) → entity_at (slice_get (one_of e) n) ≡ Some start → n ≡ 0
    first_variable zero start h = refl
    first_variable (suc n) start h = cc

    args_substituted : (ts : List TypeTerm) (types : List ℕ) → have_types (map (type_of S (one_of e)) ts) types ≡ true → Each IsSubstituted ts
        → map (value_of M A) (map (substituted at) ts) ≡ map (value_of M here) ts
    args_substituted [] types h each = refl
    args_substituted (t ∷ ts) [] h each = cc
    args_substituted (t ∷ ts) (type ∷ types) h each =
        let parts : (is_type (type_of S (one_of e) t) type ≡ true) × (have_types (map (type_of S (one_of e)) ts) types ≡ true) = both _ _ h in
        let first : value_of M A (substituted at t) ≡ value_of M here t = each.0 type (is_type_some _ _ parts.0) in
        let rest : map (value_of M A) (map (substituted at) ts) ≡ map (value_of M here) ts = args_substituted ts types parts.1 each.1 in
        λ i. first i ∷ rest i

    path_substituted : (a : ℕ) (t : EntTerm) (type : ℕ) → type_of S (one_of e) (Att a t) ≡ Some type → row_of M A (extended at t.path) ≡ row_of M here t
    path_substituted a t type h =
        let looked_up : type_step S (one_of e) (layer.Att a t) ≡ Some type = sym (fold-Att (Option ℕ) (type_step S (one_of e)) a t) ∙ h in
        let zeroth : t.generator ≡ 0 = option_and_then_some (followed (slice_get S.attributes a)) (entity_of S (one_of e) t) type looked_up (λ target led _.
        option_and_then_some (target_of S.keys t.path) (entity_at (slice_get (one_of e) t.generator)) target led (λ start first _. first_variable t.generator start first)) in
        row_from-append M (row_in (slice_index_or A at.generator (AtRow 0))) at.path t.path
        ∙ ap (λ n. row_from M (row_in (slice_index_or here n (AtRow 0))) t.path) (sym zeroth)

    value_of-substituted : (t : TypeTerm) → IsSubstituted t
    value_of-substituted = on_terms IsSubstituted
        (λ n type h. absurd (no_variable n type (sym (fold-Gen (Option ℕ) (type_step S (one_of e)) n) ∙ h)))
        (λ c type h. ap (value_of M A) (fold-Const TypeTerm (substituted_step at) c) ∙ fold-Const Value (value_step M A) c ∙ sym (fold-Const Value (value_step M here) c))
        (λ a t type h. ap (value_of M A) (fold-Att TypeTerm (substituted_step at) a t) ∙ fold-Att Value (value_step M A) a (extended at t.path)
        ∙ ap (cell_at M a) (path_substituted a t type h) ∙ sym (fold-Att Value (value_step M here) a t))
        (λ f ts each type h.
        let f' : (f' : Function) × (slice_get S.typeside.functions f ≡ Some f') × (have_types (map (type_of S (one_of e)) ts) f'.args ≡ true) × (f'.result ≡ type)
        = applied_type_some (slice_get S.typeside.functions f) (map (type_of S (one_of e)) ts) type (sym (fold-Fun (Option ℕ) (type_step S (one_of e)) f ts) ∙ h) in
        ap (value_of M A) (fold-Fun TypeTerm (substituted_step at) f ts) ∙ fold-Fun Value (value_step M A) f (map (substituted at) ts)
        ∙ ap (applied M f) (args_substituted ts f'.0.args f'.2 each) ∙ sym (fold-Fun Value (value_step M here) f ts))

  module _ (schema : IsSchema S) (bound : Option ℕ) where
    abbrev HasOneMeaning : Term → Term → Type 0
    HasOneMeaning t u = meaning_of M A t ≡ meaning_of M A u

    same_rows : (a b : EntTerm) → HasOneMeaning (Ent a) (Ent b) → row_of M A a ≡ row_of M A b
    same_rows a b h = ap row_in h

    same_values : (t u : TypeTerm) → HasOneMeaning (Typ t) (Typ u) → value_of M A t ≡ value_of M A u
    same_values t u h = ap value_in h

    row_of-extended : (a : EntTerm) (path : List ℕ) → row_of M A (extended a path) ≡ row_from M (row_of M A a) path
    row_of-extended a path = row_from-append M (row_in (slice_index_or A a.generator (AtRow 0))) a.path path

    from_equation : (t u t' u' : Term) → t ≡ t' → u ≡ u' → HasOneMeaning t' u' → HasOneMeaning t u
    from_equation t u t' u' e f h = ap (meaning_of M A) e ∙ h ∙ sym (ap (meaning_of M A) f)

    mutual
      sound : (d : Derivation) (t u : Term) → Concludes S P bound d t u → HasOneMeaning t u
      sound (reflexivity s) t u h = from_equation t u s s h.2 h.3 refl
      sound (symmetry d) t u h = sym (sound d u t h)
      sound (transitivity d e) t u h = sound d t h.0 h.1 ∙ sound e h.0 u h.2
      sound (key k d) t u h =
          from_equation t u _ _ h.3 h.4 (ap AtRow (row_of-extended h.0 (k ∷ []) ∙ ap (key_at M k) (same_rows h.0 h.1 (sound d (Ent h.0) (Ent h.1) h.2)) ∙ sym (row_of-extended h.1 (k ∷ []))))
      sound (attribute n d) t u h =
          from_equation t u _ _ h.3 h.4 (ap AtValue (fold-Att Value (value_step M A) n h.0 ∙ ap (cell_at M n) (same_rows h.0 h.1 (sound d (Ent h.0) (Ent h.1) h.2)) ∙ sym (fold-Att Value (value_step M A) n h.1)))
      sound (function f ds) t u h =
          from_equation t u _ _ h.3 h.4 (ap AtValue (fold-Fun Value (value_step M A) f h.0 ∙ ap (applied M f) (all_sound ds h.0 h.1 h.2) ∙ sym (fold-Fun Value (value_step M A) f h.1)))
      sound (given n) t u h = from_equation t u _ _ h.2 h.3 (holds.equations n h.0 h.1)
      sound (path_equation n at) t u h =
          from_equation t u _ _ h.4 h.5 (ap AtRow (row_of-extended at h.0.left ∙ holds.schema.paths n h.0 h.1 (row_of M A at) (row_of-within at h.0.entity h.2) ∙ sym (row_of-extended at h.0.right)))
      sound (observation n at) t u h =
          let sides = schema.obs_eqs n h.0 h.1 in
          from_equation t u _ _ h.4 h.5 (ap AtValue (value_of-substituted at h.0.entity h.0.left sides.type sides.left
          ∙ holds.schema.observations n h.0 h.1 (row_of M A at) (row_of-within at h.0.entity h.2) ∙ sym (value_of-substituted at h.0.entity h.0.right sides.type sides.right)))

      all_sound : (ds : Derivations) (ts us : List TypeTerm) → Conclude S P bound ds ts us → map (value_of M A) ts ≡ map (value_of M A) us
      all_sound none [] [] h = refl
      all_sound (more d ds) (t ∷ ts) (u ∷ us) h =
          let first : value_of M A t ≡ value_of M A u = same_values t u (sound d (Typ t) (Typ u) h.0) in
          let rest : map (value_of M A) ts ≡ map (value_of M A) us = all_sound ds ts us h.1 in
          λ i. first i ∷ rest i
      all_sound none [] (u ∷ us) h = absurd h
      all_sound none (t ∷ ts) us h = absurd h
      all_sound (more d ds) [] us h = absurd h
      all_sound (more d ds) (t ∷ ts) [] h = absurd h

-- each derivable equation has equal sides in each model in which the presentation holds
pub meaning_of-derived : (S : Schema) (P : Presentation) (M : Tables) (A : Assignment) → IsSchema S → Holds S P M A → (t u : Term) → Derives S P t u → meaning_of M A t ≡ meaning_of M A u
meaning_of-derived S P M A schema holds t u d = sound S P M A holds schema None d.0 t u d.1

-- Terms that stand for a row of a target entity, and the sorts of what a query makes of its target.
use Rattle.std.proofs.Common.{ℕ, zero, suc, Bool, true, List, [], ◌∷◌, Option, Some, None, ◌≡◌, ◌+◌, ◌&&◌, if◌then◌else◌, map, length, refl, sym, ap, subst, ◌∙◌, arith}
use Rattle.std.specs.Prelude.{slice_get, option_and_then, option_map}
use Rattle.std.specs.List.{range_with_len}
use Rattle.std.proofs.lemmas.List.{length-map}
use Rattle.std.proofs.lemmas.List.FromFn.{length-range_with_len}
use Rattle.std.proofs.lemmas.Option.{option_and_then_some}
use Rattle.cq_base.specs.declared.name.Name.{Name}
use Rattle.cq_theory.specs.declared.presentation.Equation.{Equation}
use Rattle.cq_theory.specs.declared.presentation.Equation.TheVariants.{Ent as EntEquation, Typ as TypEquation}
use Rattle.cq_theory.specs.declared.presentation.Sort.{Sort}
use Rattle.cq_theory.specs.declared.presentation.Sort.TheVariants.{Plain, Entity}
use Rattle.cq_theory.specs.declared.schema.Edge.{Edge}
use Rattle.cq_theory.specs.declared.term.EntTerm.{EntTerm}
use Rattle.cq_theory.specs.Typeside.{constant_type}
use Rattle.cq_theory.specs.declared.term.TypeTerm.{TypeTerm}
use Rattle.cq_theory.specs.declared.term.TypeTerm.TheOpen as layer
use Rattle.cq_theory.specs.EntTerm.{extended}
use Rattle.cq_theory.specs.Schema.{one_of}
use Rattle.cq_theory.specs.Sorts.{Generators, followed, target_of, entity_at, type_at, entity_of, is_type, have_types, applied_type, type_of, type_step, sort_of}
use Rattle.cq_theory.specs.Derivation.{left_of, right_of}
use Rattle.cq_theory.proofs.TypeTerms.{fold-Gen, fold-Const, fold-Att, fold-Fun, Each, on_terms}
use Rattle.cq_theory.proofs.Sound.{followed_some, both, is_type_some, applied_type_some}
use Rattle.cq_theory.proofs.Closings.{entity_of-extended}
use Rattle.cq_theory.proofs.Faults.{made_of}
use Rattle.cq_theory.proofs.ResolvedSorts.{map_some}
use Rattle.cq_query.specs.QueryData.{QueryData as Query}
use Rattle.cq_theory.specs.EntTerm.{alone}
use Rattle.cq_query.specs.Puts.{term_or_first, put, put_type, put_type_step, put_equation}
use Rattle.cq_query.specs.Translation.{variables_at, variable_terms, assigned, terms_or_none, term_or_constant, along, translated, translated_step}
use Rattle.cq_query.specs.Duties.{frozen}
use Rattle.cq_query.specs.IsQuery.{IsQuery}

-- both sides have one sort over the generators
abbrev pub HasOneSort : Query → Generators → Equation → Type 0
HasOneSort Q H e = (sort : Sort) × (sort_of Q.source H (left_of e) ≡ Some sort) × (sort_of Q.source H (right_of e) ≡ Some sort)

pub within_length : {X Y : Type 0} (xs : List X) (ys : List Y) (n : ℕ) (y : Y) → slice_get ys n ≡ Some y → length xs ≡ length ys → (x : X) × (slice_get xs n ≡ Some x)
within_length [] [] n y h same = cc
within_length [] (z ∷ ys) n y h same = absurd (omega arith)
within_length (x ∷ xs) [] n y h same = cc
within_length (x ∷ xs) (z ∷ ys) zero y h same = (x, refl)
within_length (x ∷ xs) (z ∷ ys) (suc n) y h same = within_length xs ys n y h (omega arith)

module _ (Q : Query) where
  abbrev pub generators_at : ℕ → Generators
  generators_at entity = (frozen Q entity).generators

  -- the terms are of the entities of the variables of an entity's block, over some generators
  pub record Stand (H : Generators) (terms : List EntTerm) (entity : ℕ) : Type 0 where
    pub count : length terms ≡ length (variables_at Q entity)
    pub each : (n : ℕ) (t : EntTerm) (v : Name × ℕ) → slice_get terms n ≡ Some t → slice_get (variables_at Q entity) n ≡ Some v → entity_of Q.source H t ≡ Some v.1

  -- a generator of the frozen presentation of an entity is a variable
  pub variable_at : (entity n e : ℕ) → entity_at (slice_get (generators_at entity) n) ≡ Some e → (v : Name × ℕ) × (slice_get (variables_at Q entity) n ≡ Some v) × (v.1 ≡ e)
  variable_at entity n e h = at (slice_get (generators_at entity) n) refl h
    where
      at : (o : Option (Name × Sort)) → slice_get (generators_at entity) n ≡ o → entity_at o ≡ Some e → (v : Name × ℕ) × (slice_get (variables_at Q entity) n ≡ Some v) × (v.1 ≡ e)
      at None is k = cc
      at (Some g) is k =
          let made = made_of (λ (v : Name × ℕ). (v.0, Entity v.1)) (variables_at Q entity) n g is in
          let same : Some made.0.1 ≡ Some e = ap (λ (x : Name × Sort). entity_at (Some x)) (sym made.2) ∙ k in
          (made.0, made.1, (let number : made.0.1 ≡ e = cc in number))

  pub no_type_at : (entity n type : ℕ) → type_at (slice_get (generators_at entity) n) ≡ Some type → ⊥
  no_type_at entity n type h = at (slice_get (generators_at entity) n) refl h
    where
      at : (o : Option (Name × Sort)) → slice_get (generators_at entity) n ≡ o → type_at o ≡ Some type → ⊥
      at None is k = cc
      at (Some g) is k =
          let made = made_of (λ (v : Name × ℕ). (v.0, Entity v.1)) (variables_at Q entity) n g is in
          let none_is : type_at (Some (made.0.0, Entity made.0.1)) ≡ Some type = ap (λ (x : Name × Sort). type_at (Some x)) (sym made.2) ∙ k in
          cc

  module _ (H : Generators) (terms : List EntTerm) (entity : ℕ) (stand : Stand H terms entity) where
    -- putting terms that stand for a row keeps the entity of an entity term
    pub put_sorted : (t : EntTerm) (e : ℕ) → entity_of Q.source (generators_at entity) t ≡ Some e → entity_of Q.source H (put terms t) ≡ Some e
    put_sorted t e h =
        option_and_then_some (target_of Q.source.keys t.path) (entity_at (slice_get (generators_at entity) t.generator)) e h (λ start first rest.
        let v = variable_at entity t.generator start first in
        let u = within_length terms (variables_at Q entity) t.generator v.0 v.1 stand.count in
        let of_entity : entity_of Q.source H u.0 ≡ Some start = stand.each t.generator u.0 v.0 u.1 v.1 ∙ ap (λ n. Some n) v.2 in
        ap (λ o. entity_of Q.source H (extended (term_or_first o) t.path)) u.1
        ∙ entity_of-extended Q.source (record { generators = H; equations = [] }) u.0 t.path
        ∙ ap (option_and_then (target_of Q.source.keys t.path)) of_entity ∙ rest)

    abbrev PutKeeps : TypeTerm → Type 0
    PutKeeps t = (type : ℕ) → type_of Q.source (generators_at entity) t ≡ Some type → type_of Q.source H (put_type terms t) ≡ Some type

    put_args : (ts : List TypeTerm) (types : List ℕ) → have_types (map (type_of Q.source (generators_at entity)) ts) types ≡ true → Each PutKeeps ts
        → have_types (map (type_of Q.source H) (map (put_type terms) ts)) types ≡ true
    put_args [] [] h each = refl
    put_args [] (type ∷ types) h each = cc
    put_args (t ∷ ts) [] h each = cc
    put_args (t ∷ ts) (type ∷ types) h each =
        let parts : (is_type (type_of Q.source (generators_at entity) t) type ≡ true) × (have_types (map (type_of Q.source (generators_at entity)) ts) types ≡ true) = both _ _ h in
        let before : type_of Q.source (generators_at entity) t ≡ Some type = is_type_some (type_of Q.source (generators_at entity) t) type parts.0 in
        let after : type_of Q.source H (put_type terms t) ≡ Some type = each.0 type before in
        let one : is_type (type_of Q.source H (put_type terms t)) type ≡ true = ap (λ o. is_type o type) (after ∙ sym before) ∙ parts.0 in
        ap (λ b. b && have_types (map (type_of Q.source H) (map (put_type terms) ts)) types) one ∙ put_args ts types parts.1 each.1

    pub put_type_sorted : (t : TypeTerm) → PutKeeps t
    put_type_sorted = on_terms PutKeeps
        (λ n type h. absurd (no_type_at entity n type (sym (fold-Gen (Option ℕ) (type_step Q.source (generators_at entity)) n) ∙ h)))
        (λ c type h.
        ap (type_of Q.source H) (fold-Const TypeTerm (put_type_step terms) c) ∙ fold-Const (Option ℕ) (type_step Q.source H) c
        ∙ sym (fold-Const (Option ℕ) (type_step Q.source (generators_at entity)) c) ∙ h)
        (λ a t type h.
        let looked_up : type_step Q.source (generators_at entity) (layer.Att a t) ≡ Some type = sym (fold-Att (Option ℕ) (type_step Q.source (generators_at entity)) a t) ∙ h in
        option_and_then_some (followed (slice_get Q.source.attributes a)) (entity_of Q.source (generators_at entity) t) type looked_up (λ target led last.
        ap (type_of Q.source H) (fold-Att TypeTerm (put_type_step terms) a t) ∙ fold-Att (Option ℕ) (type_step Q.source H) a (put terms t)
        ∙ ap (option_and_then (followed (slice_get Q.source.attributes a))) (put_sorted t target led) ∙ last))
        (λ f ts each type h.
        let looked_up : type_step Q.source (generators_at entity) (layer.Fun f (map (type_of Q.source (generators_at entity)) ts)) ≡ Some type = sym (fold-Fun (Option ℕ) (type_step Q.source (generators_at entity)) f ts) ∙ h in
        let f' = applied_type_some (slice_get Q.source.typeside.functions f) (map (type_of Q.source (generators_at entity)) ts) type looked_up in
        let kept : have_types (map (type_of Q.source H) (map (put_type terms) ts)) f'.0.args ≡ true = put_args ts f'.0.args f'.2 each in
        ap (type_of Q.source H) (fold-Fun TypeTerm (put_type_step terms) f ts) ∙ fold-Fun (Option ℕ) (type_step Q.source H) f (map (put_type terms) ts)
        ∙ ap (λ o. applied_type o (map (type_of Q.source H) (map (put_type terms) ts))) f'.1
        ∙ ap (λ (b : Bool). if b then Some f'.0.result else None) kept ∙ ap (λ n. Some n) f'.3)

    -- and so equations keep their sort
    pub put_equation_sorted : (e : Equation) → HasOneSort Q (generators_at entity) e → HasOneSort Q H (put_equation terms e)
    put_equation_sorted (EntEquation t u) h =
        let left = map_some Entity (entity_of Q.source (generators_at entity) t) h.0 h.1 in
        let right = map_some Entity (entity_of Q.source (generators_at entity) u) h.0 h.2 in
        (h.0, ap (option_map Entity) (put_sorted t left.0 left.1) ∙ ap (λ (s : Sort). Some s) left.2, ap (option_map Entity) (put_sorted u right.0 right.1) ∙ ap (λ (s : Sort). Some s) right.2)
    put_equation_sorted (TypEquation t u) h =
        let left = map_some Plain (type_of Q.source (generators_at entity) t) h.0 h.1 in
        let right = map_some Plain (type_of Q.source (generators_at entity) u) h.0 h.2 in
        (h.0, ap (option_map Plain) (put_type_sorted t left.0 left.1) ∙ ap (λ (s : Sort). Some s) left.2, ap (option_map Plain) (put_type_sorted u right.0 right.1) ∙ ap (λ (s : Sort). Some s) right.2)

  module _ (query : IsQuery Q) where
    -- the terms of a key stand for a row of its target, over the variables of its source
    pub assigned_stand : (k : ℕ) (edge : Edge) → slice_get Q.target.keys k ≡ Some edge → Stand (generators_at edge.from) (assigned Q k) edge.to
    assigned_stand k edge is =
        let are = query.keys k edge is in
        let same : assigned Q k ≡ are.terms = ap terms_or_none are.found in
        record {
          count = ap length same ∙ are.each;
          each = λ n t v at at'. (are.sorted n t v (ap (λ l. slice_get l n) (sym same) ∙ at) at').0;
        }

    module _ (H : Generators) where
      -- the row of a key
      pub put_stand : (terms : List EntTerm) (k : ℕ) (edge : Edge) → slice_get Q.target.keys k ≡ Some edge → Stand H terms edge.from → Stand H (map (put terms) (assigned Q k)) edge.to
      put_stand terms k edge is stand =
          let key = assigned_stand k edge is in
          record {
            count = length-map (assigned Q k) (put terms) ∙ key.count;
            each = λ n t v at at'.
                let made = made_of (put terms) (assigned Q k) n t at in
                ap (entity_of Q.source H) made.2 ∙ put_sorted H terms edge.from stand made.0 v.1 (key.each n made.0 v made.1 at');
          }

      -- the row at the end of a path
      pub along_stand : (path : List ℕ) (terms : List EntTerm) (entity target : ℕ) → target_of Q.target.keys path entity ≡ Some target → Stand H terms entity → Stand H (along Q terms path) target
      along_stand [] terms entity target h stand = let same : entity ≡ target = cc in subst (Stand H terms) same stand
      along_stand (k ∷ path) terms entity target h stand = option_and_then_some (target_of Q.target.keys path) (followed (slice_get Q.target.keys k) entity) target h (λ middle led rest.
          let edge = followed_some (slice_get Q.target.keys k) entity middle led in
          let next : Stand H (map (put terms) (assigned Q k)) middle = subst (Stand H (map (put terms) (assigned Q k))) edge.3 (put_stand terms k edge.0 edge.1 (subst (Stand H terms) (sym edge.2) stand)) in
          along_stand path (map (put terms) (assigned Q k)) middle target rest next)

      module _ (terms : List EntTerm) (entity : ℕ) (stand : Stand H terms entity) where
        abbrev TranslatedKeeps : TypeTerm → Type 0
        TranslatedKeeps t = (type : ℕ) → type_of Q.target (one_of entity) t ≡ Some type → type_of Q.source H (translated Q terms t) ≡ Some type

        no_variable : (n type : ℕ) → type_at (slice_get (one_of entity) n) ≡ Some type → ⊥
        no_variable zero type h = cc
        no_variable (suc n) type h = cc

        variable_is : (n start : ℕ) → entity_at (slice_get (one_of entity) n) ≡ Some start → entity ≡ start
        variable_is zero start h = cc
        variable_is (suc n) start h = cc

        translated_args : (ts : List TypeTerm) (types : List ℕ) → have_types (map (type_of Q.target (one_of entity)) ts) types ≡ true → Each TranslatedKeeps ts
            → have_types (map (type_of Q.source H) (map (translated Q terms) ts)) types ≡ true
        translated_args [] [] h each = refl
        translated_args [] (type ∷ types) h each = cc
        translated_args (t ∷ ts) [] h each = cc
        translated_args (t ∷ ts) (type ∷ types) h each =
            let parts : (is_type (type_of Q.target (one_of entity) t) type ≡ true) × (have_types (map (type_of Q.target (one_of entity)) ts) types ≡ true) = both _ _ h in
            let before : type_of Q.target (one_of entity) t ≡ Some type = is_type_some (type_of Q.target (one_of entity) t) type parts.0 in
            let after : type_of Q.source H (translated Q terms t) ≡ Some type = each.0 type before in
            let one : is_type (type_of Q.source H (translated Q terms t)) type ≡ true = ap (λ o. is_type o type) (after ∙ sym before) ∙ parts.0 in
            ap (λ b. b && have_types (map (type_of Q.source H) (map (translated Q terms) ts)) types) one ∙ translated_args ts types parts.1 each.1

        -- the query's terms have the types of the target
        pub translated_sorted : (t : TypeTerm) → TranslatedKeeps t
        translated_sorted = on_terms TranslatedKeeps
            (λ n type h. absurd (no_variable n type (sym (fold-Gen (Option ℕ) (type_step Q.target (one_of entity)) n) ∙ h)))
            (λ c type h.
            ap (type_of Q.source H) (fold-Const TypeTerm (translated_step Q terms) c) ∙ fold-Const (Option ℕ) (type_step Q.source H) c
            ∙ ap (λ T. constant_type T c) query.typeside
            ∙ sym (fold-Const (Option ℕ) (type_step Q.target (one_of entity)) c) ∙ h)
            (λ a t type h.
            let looked_up : type_step Q.target (one_of entity) (layer.Att a t) ≡ Some type = sym (fold-Att (Option ℕ) (type_step Q.target (one_of entity)) a t) ∙ h in
            option_and_then_some (followed (slice_get Q.target.attributes a)) (entity_of Q.target (one_of entity) t) type looked_up (λ target led last.
            option_and_then_some (target_of Q.target.keys t.path) (entity_at (slice_get (one_of entity) t.generator)) target led (λ start first rest.
            let edge = followed_some (slice_get Q.target.attributes a) target type last in
            let is_term = query.attributes a edge.0 edge.1 in
            let path : target_of Q.target.keys t.path entity ≡ Some target = ap (target_of Q.target.keys t.path) (variable_is t.generator start first) ∙ rest in
            let there : Stand H (along Q terms t.path) edge.0.from = subst (Stand H (along Q terms t.path)) (sym edge.2) (along_stand t.path terms entity target path stand) in
            ap (type_of Q.source H) (fold-Att TypeTerm (translated_step Q terms) a t)
            ∙ ap (λ o. type_of Q.source H (put_type (along Q terms t.path) (term_or_constant o))) is_term.found
            ∙ put_type_sorted H (along Q terms t.path) edge.0.from there is_term.term edge.0.to is_term.typed
            ∙ ap (λ n. Some n) edge.3)))
            (λ f ts each type h.
            let looked_up : type_step Q.target (one_of entity) (layer.Fun f (map (type_of Q.target (one_of entity)) ts)) ≡ Some type = sym (fold-Fun (Option ℕ) (type_step Q.target (one_of entity)) f ts) ∙ h in
            let f' = applied_type_some (slice_get Q.target.typeside.functions f) (map (type_of Q.target (one_of entity)) ts) type looked_up in
            let kept : have_types (map (type_of Q.source H) (map (translated Q terms) ts)) f'.0.args ≡ true = translated_args ts f'.0.args f'.2 each in
            ap (type_of Q.source H) (fold-Fun TypeTerm (translated_step Q terms) f ts) ∙ fold-Fun (Option ℕ) (type_step Q.source H) f (map (translated Q terms) ts)
            ∙ ap (λ T. applied_type (slice_get T.functions f) (map (type_of Q.source H) (map (translated Q terms) ts))) query.typeside
            ∙ ap (λ o. applied_type o (map (type_of Q.source H) (map (translated Q terms) ts))) f'.1
            ∙ ap (λ (b : Bool). if b then Some f'.0.result else None) kept ∙ ap (λ n. Some n) f'.3)

  pub alone_at : (s n k : ℕ) (t : EntTerm) → slice_get (map alone (range_with_len s n)) k ≡ Some t → alone (s + k) ≡ t
  alone_at s zero k t h = cc
  alone_at s (suc n) zero t h = let here : s ≡ s + 0 = omega arith in sym (ap alone here) ∙ (let same : alone s ≡ t = cc in same)
  alone_at s (suc n) (suc k) t h = let there : s + 1 + k ≡ s + suc k = omega arith in sym (ap alone there) ∙ alone_at (s + 1) n k t h

  -- the variables of a block stand for a row of its entity over the frozen presentation
  pub variables_stand : (entity : ℕ) → Stand (generators_at entity) (variable_terms Q entity) entity
  variables_stand entity = record {
    count = length-map (range_with_len 0 (length (variables_at Q entity))) alone ∙ length-range_with_len 0 (length (variables_at Q entity));
    each = λ n t v at at'.
        let here : 0 + n ≡ n = omega arith in
        let same : t ≡ alone n = sym (alone_at 0 (length (variables_at Q entity)) n t at) ∙ ap alone here in
        ap (entity_of Q.source (generators_at entity)) same ∙ ap (λ o. option_and_then (target_of Q.source.keys []) (entity_at o)) (generator_is (variables_at Q entity) n v at');
  }
    where
      generator_is : (vs : List (Name × ℕ)) (n : ℕ) (v : Name × ℕ) → slice_get vs n ≡ Some v → slice_get {X = Name × Sort} (map (λ (w : Name × ℕ). (w.0, Entity w.1)) vs) n ≡ Some (v.0, Entity v.1)
      generator_is [] n v h = cc
      generator_is (w ∷ vs) zero v h = let same : w ≡ v = cc in ap (λ (x : Name × ℕ). let g : Name × Sort = (x.0, Entity x.1) in Some g) same
      generator_is (w ∷ vs) (suc n) v h = generator_is vs n v h

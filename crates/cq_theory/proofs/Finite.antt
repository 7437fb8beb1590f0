-- A presentation closes at some depth exactly if it has finitely many entity terms up to derivable equality.
use Rattle.std.proofs.Common.{ℕ, zero, suc, List, [], ◌∷◌, ◌++◌, Option, Some, None, ◌≡◌, ◌≤◌, ◌<◌, ◌+◌, map, length, refl, sym, ap, subst, ◌∙◌, arith, length-append}
use Rattle.std.specs.Prelude.{slice_get, option_map}
use Rattle.std.specs.List.{flat_map}
use Rattle.std.proofs.lemmas.Option.{slice_get_within, option_and_then_some}
use Rattle.std.proofs.lemmas.List.{append-nil}
use Rattle.cq_base.specs.declared.name.Name.{Name}
use Rattle.cq_theory.specs.declared.presentation.Presentation.{Presentation}
use Rattle.cq_theory.specs.declared.presentation.Sort.{Sort}
use Rattle.cq_theory.specs.declared.presentation.Sort.TheVariants.{Entity}
use Rattle.cq_theory.specs.declared.schema.Edge.{Edge}
use Rattle.cq_theory.specs.SchemaData.{SchemaData as Schema}
use Rattle.cq_theory.specs.Schema.{IsSchema}
use Rattle.cq_theory.specs.Presentation.{IsPresentation}
use Rattle.cq_theory.specs.declared.term.EntTerm.{EntTerm}
use Rattle.cq_theory.specs.declared.term.Term.TheVariants.{Ent}
use Rattle.cq_theory.specs.EntTerm.{extended, depth_of}
use Rattle.cq_theory.specs.Canonical.{below}
use Rattle.cq_theory.specs.Sorts.{followed, target_of, entity_at, entity_of, IsGround}
use Rattle.cq_theory.specs.Derivation.{key, transitivity, Derives, Within}
use Rattle.cq_theory.specs.Closing.{Closes}
use Rattle.cq_theory.specs.Finiteness.{EqualsOne, IsFinite}
use Rattle.cq_theory.proofs.Closings.{entity_before, extended-cons, has_key}
use Rattle.cq_theory.proofs.Depths.{Within-from_Derives}
use Rattle.cq_theory.proofs.Derivations.{Derives-reflexive, Derives-transitive, Derives-key, Derives-from_Within, Within-monotone}
use Rattle.cq_theory.proofs.Every.{Every, Every-at, Every-from, Every-parts, Every-unmap, Every-in_flat_map, Every-weaker, at_range}
use Rattle.cq_theory.proofs.Orders.{IsIn}
use Rattle.cq_theory.proofs.Sorted.{sort_of-derived}
use Rattle.cq_theory.proofs.Sound.{followed_some}

-- a number below n stands in the list of these
at_below : (n k : ℕ) → k < n → slice_get (below n) k ≡ Some k
at_below n k h = let here : 0 + k ≡ k = omega arith in at_range 0 n k h ∙ ap (λ m. Some m) here

-- each member is one
each_in : {X : Type 0} (xs : List X) → Every (λ x. IsIn x xs) xs
each_in xs = Every-from (λ x. IsIn x xs) xs (λ n x at. (n, at))

-- the keys of a path that can be followed exist
keys_known : (keys : List Edge) (path : List ℕ) (start target : ℕ) → target_of keys path start ≡ Some target → Every (λ k. k < length keys) path
keys_known keys [] start target h = tt
keys_known keys (k ∷ path) start target h = option_and_then_some (target_of keys path) (followed (slice_get keys k) start) target h (λ middle first rest.
    let edge = followed_some (slice_get keys k) start middle first in (slice_get_within keys k edge.0 edge.1, keys_known keys path middle target rest))

entity_at_some : (o : Option (Name × Sort)) (e : ℕ) → entity_at o ≡ Some e → (g : Name × Sort) × (o ≡ Some g)
entity_at_some None e h = cc
entity_at_some (Some g) e h = (g, refl)

same_entity : (o p : Option ℕ) (sort : Sort) (e : ℕ) → option_map Entity o ≡ Some sort → option_map Entity p ≡ Some sort → o ≡ Some e → p ≡ Some e
same_entity o None sort e h h' is = cc
same_entity None (Some f) sort e h h' is = cc
same_entity (Some d) (Some f) sort e h h' is =
    let entities : Entity d ≡ Entity f = cc in
    let one : d ≡ f = cc in
    ap (λ n. Some n) (sym one) ∙ is

-- the paths of at most k of the numbers below n
paths : ℕ → ℕ → List (List ℕ)
paths n zero = [] ∷ []
paths n (suc k) = [] ∷ flat_map (λ f. map (λ p. f ∷ p) (paths n k)) (below n)

in_paths : (n k : ℕ) (p : List ℕ) → length p ≤ k → Every (λ f. f < n) p → IsIn p (paths n k)
unfolding paths
in_paths n zero [] h each = (0, refl)
in_paths n (suc k) [] h each = (0, refl)
in_paths n zero (f ∷ p) h each = absurd (omega arith)
in_paths n (suc k) (f ∷ p) h each =
    let rest = in_paths n k p (omega arith) each.1 in
    let longer : List (List ℕ) = flat_map (λ f. map (λ p. f ∷ p) (paths n k)) (below n) in
    let from_f : Every (λ q. IsIn q longer) (map (λ p. f ∷ p) (paths n k)) = Every-in_flat_map (λ q. IsIn q longer) (λ f. map (λ p. f ∷ p) (paths n k)) (below n) f f (each_in longer) (at_below n f each.0) in
    let found : IsIn (f ∷ p) longer = Every-at (λ p. IsIn (f ∷ p) longer) (paths n k) rest.0 p (Every-unmap (λ q. IsIn q longer) (λ p. f ∷ p) (paths n k) from_f) rest.1 in
    (suc found.0, found.1)

module _ (S : Schema) (P : Presentation) (schema : IsSchema S) (presentation : IsPresentation S P) where
  abbrev generator_term : ℕ → EntTerm
  generator_term g = record { generator = g; path = [] }

  -- a term that equals one of an entity is of that entity
  entity_kept : (t u : EntTerm) (e : ℕ) → Derives S P (Ent t) (Ent u) → entity_of S P.generators t ≡ Some e → entity_of S P.generators u ≡ Some e
  entity_kept t u e d h =
      let sorted = sort_of-derived S P schema presentation (Ent t) (Ent u) d in
      same_entity (entity_of S P.generators t) (entity_of S P.generators u) sorted.0 e sorted.1 sorted.2 h

  ground : (t : EntTerm) (e : ℕ) → entity_of S P.generators t ≡ Some e → IsGround S P (Ent t)
  ground t e h = (Entity e, ap (option_map Entity) h)

  generator_within : (t : EntTerm) (e : ℕ) → entity_of S P.generators t ≡ Some e → t.generator < length P.generators
  generator_within t e h = option_and_then_some (target_of S.keys t.path) (entity_at (slice_get P.generators t.generator)) e h (λ start first rest.
      let g = entity_at_some (slice_get P.generators t.generator) start first in slice_get_within P.generators t.generator g.0 g.1)

  path_within : (t : EntTerm) (e : ℕ) → entity_of S P.generators t ≡ Some e → Every (λ k. k < length S.keys) t.path
  path_within t e h = option_and_then_some (target_of S.keys t.path) (entity_at (slice_get P.generators t.generator)) e h (λ start first rest. keys_known S.keys t.path start e rest)

  unextended : (t : EntTerm) → t ≡ extended t []
  unextended t = ap (extended (record { generator = t.generator; path = [] })) (sym (append-nil t.path))

  -- one key more, at the end of a term that can be followed further
  record Step (s : EntTerm) (f : ℕ) (path : List ℕ) (target : ℕ) : Type 0 where
    entity : ℕ
    next : ℕ
    of_entity : entity_of S P.generators s ≡ Some entity
    leads : target_of S.keys (f ∷ []) entity ≡ Some next
    of_next : entity_of S P.generators (extended s (f ∷ [])) ≡ Some next
    further : entity_of S P.generators (extended (extended s (f ∷ [])) path) ≡ Some target

  step : (s : EntTerm) (f : ℕ) (path : List ℕ) (target : ℕ) → entity_of S P.generators (extended s (f ∷ path)) ≡ Some target → Step s f path target
  step s f path target h =
      let later : entity_of S P.generators (extended (extended s (f ∷ [])) path) ≡ Some target = ap (entity_of S P.generators) (extended-cons S P s f path) ∙ h in
      let after = entity_before S P (extended s (f ∷ [])) path target later in
      let before = entity_before S P s (f ∷ []) after.0 after.1 in
      record { entity = before.0; next = after.0; of_entity = before.1; leads = before.2; of_next = after.1; further = later }

  -- from closing at k: each term equals one of depth at most k
  module _ (k : ℕ) (closes : Closes S P k) where
    record IsNamed (t : EntTerm) : Type 0 where
      name : EntTerm
      entity : ℕ
      of_entity : entity_of S P.generators name ≡ Some entity
      short : depth_of name ≤ k
      equal : Derives S P (Ent t) (Ent name)

    named_step : (s : EntTerm) (f : ℕ) (path : List ℕ) (target : ℕ) → IsNamed s → Step s f path target → IsNamed (extended s (f ∷ []))
    named_step s f path target h to =
        let of_name : entity_of S P.generators h.name ≡ Some to.entity = entity_kept s h.name to.entity h.equal to.of_entity in
        let lesser = closes h.name to.entity of_name (has_key S P (f ∷ []) to.entity to.next (omega arith) to.leads) h.short in
        let to_lesser : Derives S P (Ent s) (Ent lesser.0) = Derives-transitive S P (Ent s) (Ent h.name) (Ent lesser.0) h.equal (Derives-from_Within S P k (Ent h.name) (Ent lesser.0) lesser.2) in
        let equal : Derives S P (Ent (extended s (f ∷ []))) (Ent (extended lesser.0 (f ∷ []))) = Derives-key S P f s lesser.0 to_lesser (ground (extended s (f ∷ [])) to.next to.of_next) in
        record {
          name = extended lesser.0 (f ∷ []);
          entity = to.next;
          of_entity = entity_kept (extended s (f ∷ [])) (extended lesser.0 (f ∷ [])) to.next equal to.of_next;
          short = omega (arith, length-append lesser.0.path (f ∷ []), lesser.1);
          equal = equal;
        }

    named : (path : List ℕ) (s : EntTerm) (target : ℕ) → IsNamed s → entity_of S P.generators (extended s path) ≡ Some target → IsNamed (extended s path)
    named [] s target h led = subst IsNamed (unextended s) h
    named (f ∷ path) s target h led =
        let to = step s f path target led in
        subst IsNamed (extended-cons S P s f path) (named path (extended s (f ∷ [])) target (named_step s f path target h to) to.further)

    each_named : (t : EntTerm) (e : ℕ) → entity_of S P.generators t ≡ Some e → IsNamed t
    each_named t e h =
        let start : EntTerm = generator_term t.generator in
        let before = entity_before S P start t.path e h in
        named t.path start e
        (record { name = start; entity = before.0; of_entity = before.1; short = omega arith; equal = Derives-reflexive S P (Ent start) (ground start before.0 before.1) }) h

    -- the terms of depth at most k, with some that can't be followed
    short_terms : List EntTerm
    short_terms = flat_map (λ g. map (λ path. record { generator = g; path = path }) (paths (length S.keys) k)) (below (length P.generators))

    in_short_terms : (t : EntTerm) (e : ℕ) → entity_of S P.generators t ≡ Some e → depth_of t ≤ k → IsIn t short_terms
    unfolding short_terms
    in_short_terms t e h short =
        let path = in_paths (length S.keys) k t.path short (path_within t e h) in
        let from_generator : Every (λ u. IsIn u short_terms) (map (λ path. record { generator = t.generator; path = path }) (paths (length S.keys) k)) =
        Every-in_flat_map (λ u. IsIn u short_terms) (λ g. map (λ path. record { generator = g; path = path }) (paths (length S.keys) k)) (below (length P.generators)) t.generator t.generator
        (each_in short_terms) (at_below (length P.generators) t.generator (generator_within t e h)) in
        Every-at (λ path. IsIn (record { generator = t.generator; path = path }) short_terms) (paths (length S.keys) k) path.0 t.path
        (Every-unmap (λ u. IsIn u short_terms) (λ path. record { generator = t.generator; path = path }) (paths (length S.keys) k) from_generator) path.1

    equals_short : (t : EntTerm) (e : ℕ) → entity_of S P.generators t ≡ Some e → EqualsOne S P short_terms t
    equals_short t e h =
        let one = each_named t e h in
        let place = in_short_terms one.name one.entity one.of_entity one.short in
        (place.0, one.name, place.1, one.equal)

  pub finite_from_closing : ((k : ℕ) × Closes S P k) → IsFinite S P
  finite_from_closing h = (short_terms h.0 h.1, equals_short h.0 h.1)

  -- from a finite list: the generators and the listed terms with one key more equal listed terms within some depth
  module _ (ts : List EntTerm) (equals_one : (t : EntTerm) (e : ℕ) → entity_of S P.generators t ≡ Some e → EqualsOne S P ts t) where
    -- t equals a listed term of depth at most `low` within `high`
    record IsListed (low high : ℕ) (t : EntTerm) : Type 0 where
      place : ℕ
      name : EntTerm
      at : slice_get ts place ≡ Some name
      short : depth_of name ≤ low
      equal : Within S P high (Ent t) (Ent name)

    abbrev IsBounded : ℕ → EntTerm → Type 0
    IsBounded k t = (e : ℕ) → entity_of S P.generators t ≡ Some e → IsListed k k t

    listed_wider : (low high k : ℕ) (t : EntTerm) → low ≤ k → high ≤ k → IsListed low high t → IsListed k k t
    listed_wider low high k t le le' h = record { place = h.place; name = h.name; at = h.at; short = omega (arith, h.short); equal = Within-monotone S P high k (Ent t) (Ent h.name) le' h.equal }

    bound_at : (t : EntTerm) (o : Option ℕ) → entity_of S P.generators t ≡ o → (k : ℕ) × IsBounded k t
    bound_at t None is = (0, λ e h. cc)
    bound_at t (Some entity) is =
        let one = equals_one t entity is in
        let within = Within-from_Derives S P (Ent t) (Ent one.1) one.3 in
        let k : ℕ = within.0 + depth_of one.1 in
        (k, λ e h. record { place = one.0; name = one.1; at = one.2; short = omega arith; equal = Within-monotone S P within.0 k (Ent t) (Ent one.1) (omega arith) within.1 })

    bound_all : (us : List EntTerm) → (k : ℕ) × Every (IsBounded k) us
    bound_all [] = (0, tt)
    bound_all (u ∷ us) =
        let first = bound_at u (entity_of S P.generators u) refl in
        let rest = bound_all us in
        let k : ℕ = first.0 + rest.0 in (
          k,
          (
            λ e h. listed_wider first.0 first.0 k u (omega arith) (omega arith) (first.1 e h),
            Every-weaker (IsBounded rest.0) (IsBounded k) (λ t bounded e h. listed_wider rest.0 rest.0 k t (omega arith) (omega arith) (bounded e h)) us rest.1,
          ),
        )

    generator_terms : List EntTerm
    generator_terms = map generator_term (below (length P.generators))

    longer_terms : List EntTerm
    longer_terms = flat_map (λ t. map (λ f. extended t (f ∷ [])) (below (length S.keys))) ts

    module _ (low : ℕ) (generators : Every (IsBounded low) generator_terms) (longer : Every (IsBounded low) longer_terms) where
      listed_step : (s : EntTerm) (f : ℕ) (path : List ℕ) (target : ℕ) → IsListed low (low + 1) s → Step s f path target
          → depth_of (extended s (f ∷ [])) ≤ low + 1 → IsListed low (low + 1) (extended s (f ∷ []))
      unfolding longer_terms
      listed_step s f path target h to within =
          let known = keys_known S.keys (f ∷ []) to.entity to.next to.leads in
          let next : EntTerm = extended s (f ∷ []) in
          let after : EntTerm = extended h.name (f ∷ []) in
          let short : depth_of after ≤ low + 1 = omega (arith, length-append h.name.path (f ∷ []), h.short) in
          let by_key : Within S P (low + 1) (Ent next) (Ent after) = (key f h.equal.0, (s, h.name, h.equal.1, refl, refl, ground next to.next to.of_next, within, short)) in
          let of_after : entity_of S P.generators after ≡ Some to.next = entity_kept next after to.next (Derives-from_Within S P (low + 1) (Ent next) (Ent after) by_key) to.of_next in
          let from_name : Every (IsBounded low) (map (λ f. extended h.name (f ∷ [])) (below (length S.keys))) =
          Every-in_flat_map (IsBounded low) (λ t. map (λ f. extended t (f ∷ [])) (below (length S.keys))) ts h.place h.name longer h.at in
          let bounded = Every-at (λ f. IsBounded low (extended h.name (f ∷ []))) (below (length S.keys)) f f
          (Every-unmap (IsBounded low) (λ f. extended h.name (f ∷ [])) (below (length S.keys)) from_name) (at_below (length S.keys) f known.0) in
          let found = bounded to.next of_after in
          let last : Within S P (low + 1) (Ent after) (Ent found.name) = Within-monotone S P low (low + 1) (Ent after) (Ent found.name) (omega arith) found.equal in
          record { place = found.place; name = found.name; at = found.at; short = found.short; equal = (transitivity by_key.0 last.0, (Ent after, by_key.1, last.1)) }

      listed : (path : List ℕ) (s : EntTerm) (target : ℕ) → IsListed low (low + 1) s → entity_of S P.generators (extended s path) ≡ Some target
          → depth_of (extended s path) ≤ low + 1 → IsListed low (low + 1) (extended s path)
      listed [] s target h led within = subst (IsListed low (low + 1)) (unextended s) h
      listed (f ∷ path) s target h led within =
          let to = step s f path target led in
          let shorter : depth_of (extended s (f ∷ [])) ≤ low + 1 = omega (arith, length-append s.path (f ∷ []), length-append s.path (f ∷ path)) in
          let within' : depth_of (extended (extended s (f ∷ [])) path) ≤ low + 1 = subst (λ (x : EntTerm). depth_of x ≤ low + 1) (sym (extended-cons S P s f path)) within in
          subst (IsListed low (low + 1)) (extended-cons S P s f path) (listed path (extended s (f ∷ [])) target (listed_step s f path target h to shorter) to.further within')

      closes_above : Closes S P (low + 1)
      unfolding generator_terms
      closes_above t e h has within =
          let start : EntTerm = generator_term t.generator in
          let before = entity_before S P start t.path e h in
          let bounded = Every-at (λ g. IsBounded low (generator_term g)) (below (length P.generators)) t.generator t.generator
          (Every-unmap (IsBounded low) generator_term (below (length P.generators)) generators) (at_below (length P.generators) t.generator (generator_within t e h)) in
          let first = bounded before.0 before.1 in
          let of_start : IsListed low (low + 1) start =
          record { place = first.place; name = first.name; at = first.at; short = first.short; equal = Within-monotone S P low (low + 1) (Ent start) (Ent first.name) (omega arith) first.equal } in
          let found = listed t.path start e of_start h within in
          (found.name, omega (arith, found.short), found.equal)

    closing : (k : ℕ) × Closes S P k
    closing =
        let all = bound_all (generator_terms ++ longer_terms) in
        let parts = Every-parts (IsBounded all.0) generator_terms longer_terms all.1 in
        (all.0 + 1, closes_above all.0 parts.0 parts.1)

  pub closing_from_finite : IsFinite S P → (k : ℕ) × Closes S P k
  closing_from_finite h = closing h.0 h.1

-- Two equal constants among the nodes are the least ones that the presentation makes equal.
use Rattle.std.proofs.Common.{ℕ, zero, suc, List, [], ◌∷◌, Some, ◌≡◌, ◌<◌, ◌⊎◌, inl, inr, length, sym, ap, subst, ◌∙◌}
use Rattle.std.specs.Prelude.{slice_get}
use Rattle.std.proofs.lemmas.Option.{MatchOption-at_some, slice_get_within}
use Rattle.cq_tables.specs.Content.{Content}
use Rattle.cq_flat.specs.declared.node.Node.{Node}
use Rattle.cq_flat.specs.declared.node.Node.TheVariants as node
use Rattle.cq_flat.specs.Congruence.{constants as equal_constants}
use Rattle.cq_flat.specs.Values.{Closure, AreEqualConstants, IsLeastClash, value_at}
use Rattle.cq_model.specs.declared.places.Places.{Places}
use Rattle.cq_names.specs.Closed.{AreClosed}
use Rattle.cq_model.specs.Built.{IsClosureOf, IsBuilt}
use Rattle.cq_theory.specs.declared.constant.Con.{Con}
use Rattle.cq_theory.specs.declared.presentation.Presentation.{Presentation}
use Rattle.cq_theory.specs.SchemaData.{SchemaData as Schema}
use Rattle.cq_theory.specs.Schema.{IsSchema}
use Rattle.cq_theory.specs.Presentation.{IsPresentation}
use Rattle.cq_theory.specs.declared.term.EntTerm.{EntTerm}
use Rattle.cq_theory.specs.declared.term.TypeTerm.TheVariants as term
use Rattle.cq_theory.specs.declared.value.Value.{Value}
use Rattle.cq_theory.specs.declared.value.Value.TheVariants as value
use Rattle.cq_theory.specs.declared.term.Term.TheVariants.{Typ}
use Rattle.cq_theory.specs.Closing.{AreEqual, IsInconsistentAt}
use Rattle.cq_theory.specs.Derivation.{Derives}
use Rattle.cq_theory.proofs.Derivations.{Derives-symmetric, Derives-transitive}
use Rattle.cq_theory.specs.Constant.{IsLesser}
use Rattle.cq_theory.proofs.Constants.{con_decided, lesser-irreflexive}
use Rattle.cq_theory.proofs.TypeTerms.{fold-Const}
use Rattle.cq_model.proofs.BuiltNodes.{term_at, constant_derives}
use Rattle.cq_model.proofs.BuiltClosure.{equal_congruent, congruent_equal, constant_of}
use Rattle.cq_model.proofs.BuiltValues.{with_step, congruent_derives, derived_values}

-- the place of a constant's node
abbrev HasNode : List Node → Con → Type 0
HasNode nodes c = (p : ℕ) × (slice_get nodes p ≡ Some (node.Const c))

at_head : (n : Node) (c : Con) → (n ≡ node.Const c) ⊎ (n ≡ node.Const c → ⊥)
at_head node.Leaf c = inr (λ h. cc)
at_head (node.Const d) c = elim (con_decided d c) [
  | inl same ↦ inl (ap node.Const same)
  | inr other ↦ inr (λ h. let same : d ≡ c = cc in other same)
]
at_head (node.Fun f args) c = inr (λ h. cc)

has_node : (nodes : List Node) (c : Con) → HasNode nodes c ⊎ (HasNode nodes c → ⊥)
has_node [] c = inr (λ h. let none : slice_get [] h.0 ≡ Some (node.Const c) = h.1 in cc)
has_node (n ∷ ns) c = go (at_head n c) (has_node ns c)
  where
    nowhere : (n ≡ node.Const c → ⊥) → (HasNode ns c → ⊥) → (p : ℕ) → slice_get (n ∷ ns) p ≡ Some (node.Const c) → ⊥
    nowhere other none zero h = other (let same : n ≡ node.Const c = cc in same)
    nowhere other none (suc p) h = none (p, h)

    go : (n ≡ node.Const c) ⊎ (n ≡ node.Const c → ⊥) → HasNode ns c ⊎ (HasNode ns c → ⊥) → HasNode (n ∷ ns) c ⊎ (HasNode (n ∷ ns) c → ⊥)
    go (inl same) rest = inl (0, ap (λ x. Some x) same)
    go (inr other) (inl h) = inl (suc h.0, h.1)
    go (inr other) (inr none) = inr (λ h. nowhere other none h.0 h.1)

module _ (S : Schema) (P : Presentation) (m : Content) (rows : List ℕ) (schema : IsSchema S) (presentation : IsPresentation S P) (closed : AreClosed S P m rows)
    (order : List (List ℕ)) (names : List (List EntTerm)) (numbers : List ℕ) (places : Places) (nodes : List Node) (equations : List (ℕ × ℕ)) (types : List ℕ)
    (built : IsBuilt S P m rows order names numbers places nodes equations types)
    (flat : Closure) (closure : IsClosureOf nodes equations flat) where
  -- a constant means the value of its node, or itself if it has none
  abbrev meaning : (c : Con) → HasNode nodes c ⊎ (HasNode nodes c → ⊥) → Value
  meaning c (inl h) = value_at flat.values h.0
  meaning c (inr none) = value.Const c

  abbrev meanings : Con → Value
  meanings c = meaning c (has_node nodes c)

  agree : (p : ℕ) (c : Con) → slice_get nodes p ≡ Some (node.Const c) → meanings c ≡ value_at flat.values p
  agree p c found = go (has_node nodes c)
    where
      go : (x : HasNode nodes c ⊎ (HasNode nodes c → ⊥)) → meaning c x ≡ value_at flat.values p
      go (inl h) = congruent_equal S P m rows schema presentation closed order names numbers places nodes equations types built flat closure h.0 p (slice_get_within nodes h.0 (node.Const c) h.1) (slice_get_within nodes p (node.Const c) found) (equal_constants c h.1 found)
      go (inr none) = absurd (none (p, found))

  -- a node whose value is a constant is equal to a node of it
  constant_node : (a : ℕ) (c : Con) → a < length nodes → value_at flat.values a ≡ value.Const c → HasNode nodes c
  constant_node a c within is = let node = constant_of S P m rows schema presentation closed order names numbers places nodes equations types built flat closure a c within is in (node.at, node.is)

  derived_constants : (b e : Con) → IsLesser b e → AreEqual S P b e → AreEqualConstants nodes equations b e
  derived_constants b e less derived = go (has_node nodes b) (has_node nodes e) same
    where
      same : meanings b ≡ meanings e
      same =
          let step = with_step S P m rows schema presentation closed order names numbers places nodes equations types built flat closure meanings agree in
          sym (fold-Const Value step b)
          ∙ derived_values S P m rows schema presentation closed order names numbers places nodes equations types built flat closure meanings agree (term.Const b) (term.Const e) derived
          ∙ fold-Const Value step e

      go : (x : HasNode nodes b ⊎ (HasNode nodes b → ⊥)) (y : HasNode nodes e ⊎ (HasNode nodes e → ⊥)) → meaning b x ≡ meaning e y → AreEqualConstants nodes equations b e
      go (inl x) (inl y) is =
          let left : x.0 < length nodes = slice_get_within nodes x.0 (node.Const b) x.1 in
          let right : y.0 < length nodes = slice_get_within nodes y.0 (node.Const e) y.1 in
          record {
            left = x.0;
            right = y.0;
            left_is = x.1;
            right_is = y.1;
            equal = equal_congruent S P m rows schema presentation closed order names numbers places nodes equations types built flat closure x.0 y.0 left right is;
          }
      go (inl x) (inr none) is = absurd (none (constant_node x.0 e (slice_get_within nodes x.0 (node.Const b) x.1) is))
      go (inr none) (inl y) is = absurd (none (constant_node y.0 b (slice_get_within nodes y.0 (node.Const e) y.1) (sym is)))
      go (inr none) (inr none') is = let one : b ≡ e = cc in absurd (lesser-irreflexive e (subst (λ z. IsLesser z e) one less))

  -- constants of congruent nodes are derivably equal
  constants_derive : (c d : Con) → AreEqualConstants nodes equations c d → Derives S P (Typ (term.Const c)) (Typ (term.Const d))
  constants_derive c d h =
      let t = term_at S P m rows schema presentation closed order names numbers places nodes equations types built flat closure h.left (slice_get_within nodes h.left (node.Const c) h.left_is) in
      let u = term_at S P m rows schema presentation closed order names numbers places nodes equations types built flat closure h.right (slice_get_within nodes h.right (node.Const d) h.right_is) in
      let left : Derives S P (Typ t.0) (Typ (term.Const c)) = constant_derives S P m rows schema presentation closed order names numbers places nodes equations types built flat closure h.left c t.0 t.1 h.left_is in
      let right : Derives S P (Typ u.0) (Typ (term.Const d)) = constant_derives S P m rows schema presentation closed order names numbers places nodes equations types built flat closure h.right d u.0 u.1 h.right_is in
      let equal : Derives S P (Typ t.0) (Typ u.0) = congruent_derives S P m rows schema presentation closed order names numbers places nodes equations types built flat closure h.equal t.0 u.0 t.1 u.1 in
      Derives-transitive S P (Typ (term.Const c)) (Typ t.0) (Typ (term.Const d)) (Derives-symmetric S P (Typ t.0) (Typ (term.Const c)) left)
      (Derives-transitive S P (Typ t.0) (Typ u.0) (Typ (term.Const d)) equal right)

  pub inconsistent_at : (c d : Con) → flat.clash ≡ Some (c, d) → IsInconsistentAt S P c d
  inconsistent_at c d clash =
      let least : IsLeastClash nodes equations (c, d) = MatchOption-at_some ((c d : Con) → AreEqualConstants nodes equations c d → c ≡ d) (IsLeastClash nodes equations) (c, d) clash closure.clash in
      let equal : AreEqualConstants nodes equations c d = least.equal in
      record {
        greater = least.greater;
        equal = constants_derive c d equal;
        least = λ b e less derived. least.least b e less (derived_constants b e less derived);
        least_greater = λ e less derived. least.next e less (derived_constants c e less derived);
      }

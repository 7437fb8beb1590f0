-- The places of the generators of types among the leaves.
use Rattle.std.proofs.Common.{ℕ, zero, suc, List, [], ◌∷◌, Some, ◌≡◌, ◌+◌, length, refl, sym, ap, ◌∙◌, arith}
use Rattle.std.specs.Prelude.{slice_get, slice_index}
use Rattle.std.specs.List.{enumerate_from, filter_map}
use Rattle.cq_base.specs.declared.name.Name.{Name}
use Rattle.cq_theory.specs.declared.presentation.Presentation.{Presentation}
use Rattle.cq_theory.specs.declared.presentation.Sort.{Sort}
use Rattle.cq_theory.specs.declared.presentation.Sort.TheVariants.{Plain, Entity}
use Rattle.cq_theory.specs.SchemaData.{SchemaData as Schema}
use Rattle.cq_theory.specs.declared.term.EntTerm.{EntTerm}
use Rattle.cq_theory.specs.declared.term.TypeTerm.{TypeTerm}
use Rattle.cq_theory.specs.declared.term.TypeTerm.TheVariants.{Gen}
use Rattle.cq_theory.specs.Sorts.{Generators, type_at}
use Rattle.cq_theory.specs.Listed.{generator_node}
use Rattle.cq_model.specs.LeafPlaces.{plain_type, places_from}

module _ (S : Schema) (P : Presentation) (names : List (List EntTerm)) where
  -- the leaves of generators from number s on
  abbrev pub terms_from : ℕ → Generators → List TypeTerm
  terms_from s gs = filter_map (generator_node S P names) (enumerate_from s gs)

  -- the generator that stands at a place
  pub record IsGeneratorAt (s b : ℕ) (gs : Generators) (k : ℕ) (t : TypeTerm) : Type 0 where
    pub number : ℕ
    pub is : t ≡ Gen (s + number)
    pub type : ℕ
    pub typed : type_at (slice_get gs number) ≡ Some type
    pub kind : slice_get (filter_map plain_type gs) k ≡ Some type
    pub place : slice_index (places_from b gs) number ≡ b + k

  generator_later : (s b k : ℕ) (g : Name × Sort) (gs : Generators) (t : TypeTerm) (b' k' : ℕ) → IsGeneratorAt (s + 1) b' gs k' t
      → ((type : ℕ) → slice_get (filter_map plain_type gs) k' ≡ Some type → slice_get (filter_map plain_type (g ∷ gs)) k ≡ Some type)
      → ((n : ℕ) → slice_index (places_from b (g ∷ gs)) (suc n) ≡ slice_index (places_from b' gs) n) → b' + k' ≡ b + k → IsGeneratorAt s b (g ∷ gs) k t
  generator_later s b k g gs t b' k' h kinds places here = record {
    number = suc h.number;
    is = h.is ∙ (let e : s + 1 + h.number ≡ s + suc h.number = omega arith in ap Gen e);
    type = h.type;
    typed = h.typed;
    kind = kinds h.type h.kind;
    place = places h.number ∙ h.place ∙ here;
  }

  pub generator_at : (s b : ℕ) (gs : Generators) (k : ℕ) (t : TypeTerm) → slice_get (terms_from s gs) k ≡ Some t → IsGeneratorAt s b gs k t
  generator_at s b [] k t h = cc
  generator_at s b ((name, Plain type) ∷ gs) zero t h = record {
    number = 0;
    is = (let e : s ≡ s + 0 = omega arith in let same : Gen s ≡ t = cc in sym same ∙ ap Gen e);
    type = type;
    typed = refl;
    kind = refl;
    place = (let e : b ≡ b + 0 = omega arith in e);
  }
  generator_at s b ((name, Plain type) ∷ gs) (suc k) t h = generator_later s b (suc k) (name, Plain type) gs t (b + 1) k (generator_at (s + 1) (b + 1) gs k t h) (λ type' kind. kind) (λ n. refl) (omega arith)
  generator_at s b ((name, Entity entity) ∷ gs) k t h = generator_later s b k (name, Entity entity) gs t b k (generator_at (s + 1) b gs k t h) (λ type' kind. kind) (λ n. refl) refl

  pub same_count : (s : ℕ) (gs : Generators) → length (terms_from s gs) ≡ length (filter_map plain_type gs)
  same_count s [] = refl
  same_count s ((name, Plain type) ∷ gs) = ap suc (same_count (s + 1) gs)
  same_count s ((name, Entity entity) ∷ gs) = same_count (s + 1) gs

  -- where a generator of a type stands
  pub generator_place : (s b n type : ℕ) (gs : Generators) → type_at (slice_get gs n) ≡ Some type
      → (k : ℕ) × (slice_index (places_from b gs) n ≡ b + k) × (slice_get (terms_from s gs) k ≡ Some (Gen (s + n)))
  generator_place s b n type [] h = cc
  generator_place s b zero type ((name, Plain type') ∷ gs) h = (let e : b ≡ b + 0 = omega arith in let e' : s ≡ s + 0 = omega arith in (0, e, ap (λ (x : ℕ). Some (Gen x)) e'))
  generator_place s b zero type ((name, Entity entity) ∷ gs) h = cc
  generator_place s b (suc n) type ((name, Plain type') ∷ gs) h =
      let rest = generator_place (s + 1) (b + 1) n type gs h in
      let e : b + 1 + rest.0 ≡ b + suc rest.0 = omega arith in
      let e' : s + 1 + n ≡ s + suc n = omega arith in
      (suc rest.0, rest.1 ∙ e, rest.2 ∙ ap (λ (x : ℕ). Some (Gen x)) e')
  generator_place s b (suc n) type ((name, Entity entity) ∷ gs) h =
      let rest = generator_place (s + 1) b n type gs h in
      let e' : s + 1 + n ≡ s + suc n = omega arith in
      (rest.0, rest.1, rest.2 ∙ ap (λ (x : ℕ). Some (Gen x)) e')

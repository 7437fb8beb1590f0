-- What the values of two nodes say of the terms for which they stand.
use Rattle.std.proofs.Common.{ℕ, Bool, true, false, List, Some, ◌≡◌, ◌<◌, length, get_or, refl}
use Rattle.std.specs.Prelude.{MatchBool, ◌↔◌, IsTrue}
use Rattle.std.proofs.lemmas.Option.{slice_get-get_or}
use Rattle.cq_tables.specs.Content.{Content, made_of}
use Rattle.cq_flat.specs.Nodes.{AreSides}
use Rattle.cq_flat.specs.Values.{AreValues, value_at}
use Rattle.cq_check.specs.Frame.{IsFrame, IsApart}
use Rattle.cq_check.specs.NodeListData.{NodeListData}
use Rattle.cq_check.specs.Standing.{Stands}
use Rattle.cq_check.specs.Sound.{AreSound}
use Rattle.cq_check.specs.Adding.{HasGiven, HasAtRows}
use Rattle.cq_check.proofs.Derived.{congruent_derived}
use Rattle.cq_check.proofs.Meanings.{equal_congruent, apart_values}
use Rattle.cq_theory.specs.declared.presentation.Presentation.{Presentation}
use Rattle.cq_theory.specs.SchemaData.{SchemaData as Schema}
use Rattle.cq_theory.specs.Schema.{IsSchema}
use Rattle.cq_theory.specs.Presentation.{IsPresentation}
use Rattle.cq_theory.specs.declared.term.TypeTerm.{TypeTerm}
use Rattle.cq_theory.specs.declared.value.Value.{Value}
use Rattle.cq_theory.specs.declared.term.Term.TheVariants.{Typ}
use Rattle.cq_theory.specs.Sorts.{type_of}
use Rattle.cq_theory.specs.Derivation.{Derives}

module _ (S : Schema) (P : Presentation) (m : Content) (entries : List ℕ) (schema : IsSchema S) (presentation : IsPresentation S P) (frame : IsFrame S P m entries)
    (list : NodeListData) (sound : AreSound S P m entries list) where
  pub one_value : (t u : TypeTerm) (a b type type' : ℕ) (same : Bool) → type_of S P.generators t ≡ Some type → type_of S P.generators u ≡ Some type'
      → Stands m entries list.nodes t a → Stands m entries list.nodes u b → a < length list.nodes → b < length list.nodes
      → HasGiven P m entries list (length P.equations) → HasAtRows S m list (made_of m) → (values : List Value) → AreValues list.nodes list.equations values
      → (IsTrue same ↔ (value_at values a ≡ value_at values b))
      → MatchBool same (Derives S P (Typ t) (Typ u)) (IsApart S P m entries (Typ t) (Typ u))
  one_value t u a b type type' true h h' left right a_within b_within given rows values are told =
      congruent_derived S P m entries schema presentation frame list sound t u a b type type' h h' left right
      (equal_congruent S P m entries schema presentation frame list sound values are given rows a b a_within b_within (told.0 refl))
  one_value t u a b type type' false h h' left right a_within b_within given rows values are told =
      apart_values S P m entries schema presentation frame list sound values are given rows t u a b left right
      (λ same. let wrong : false ≡ true = told.1 same in cc)

  pub sides_are : AreSides list.nodes list.equations
  sides_are i d within =
      let there = read i d within in
      (there.0, there.1)
    where
      read : (i : ℕ) (d : ℕ × ℕ) → i < length list.equations → ((get_or list.equations i d).0 < length list.nodes) × ((get_or list.equations i d).1 < length list.nodes)
      read i d within = let e = sound.equal i (get_or list.equations i d).0 (get_or list.equations i d).1 (slice_get-get_or list.equations i d within) in (e.left_within, e.right_within)

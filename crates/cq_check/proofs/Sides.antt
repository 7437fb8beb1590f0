-- The sides of an equation, and the list of nodes that is closed to compare them.
use Rattle.std.proofs.Common.{ℕ, Bool, true, false, List, [], ◌∷◌, map, Option, Some, None, ◌≡◌, ◌<◌, ◌≤◌, ◌+◌, length, refl, sym, ap, subst, ◌∙◌, arith}
use Rattle.std.specs.Prelude.{slice_get, MatchBool, MatchOption}
use Rattle.cq_tables.specs.Content.{Content, made_of, live_of, keys_of, IsWhole}
use Rattle.cq_tables.specs.Content.{entity_of as row_entity}
use Rattle.cq_rows.specs.Plain.{ends_of}
use Rattle.cq_flat.specs.declared.node.Node.{Node}
use Rattle.cq_check.specs.Answers.{IsWellSorted}
use Rattle.cq_check.specs.Asking.{Asks}
use Rattle.cq_check.specs.Frame.{IsFrame, AreOneRow, IsApart}
use Rattle.cq_check.specs.NodeListData.{NodeListData}
use Rattle.cq_check.specs.Reading.{IsReadable, IsReadablePath}
use Rattle.cq_check.specs.Standing.{Stands, is_traced}
use Rattle.cq_check.specs.Sound.{AreSound}
use Rattle.cq_check.specs.Adding.{Grows, IsPushed}
use Rattle.cq_check.specs.declared.asking.Asked.TheVariants.{Answered, Nodes}
use Rattle.cq_check.proofs.Leaves.{pushed_grows, pushed_sound}
use Rattle.cq_check.proofs.Listed.{grows_both}
use Rattle.cq_check.proofs.Meanings.{apart_left, apart_right}
use Rattle.cq_check.proofs.Placed.{stands_more}
use Rattle.cq_check.proofs.Readable.{frame_readable, row_readable, readable_typed}
use Rattle.cq_check.proofs.Rows.{equal_rows, apart_rows}
use Rattle.cq_check.proofs.Typed.{entity_sorted, type_sorted}
use Rattle.cq_theory.specs.declared.presentation.Equation.{Equation}
use Rattle.cq_theory.specs.declared.schema.ObsEq.{ObsEq}
use Rattle.cq_theory.specs.declared.presentation.Equation.TheVariants.{Ent as EntEquation, Typ as TypEquation}
use Rattle.cq_theory.specs.declared.presentation.Presentation.{Presentation}
use Rattle.cq_theory.specs.SchemaData.{SchemaData as Schema}
use Rattle.cq_theory.specs.Schema.{IsSchema, one_of}
use Rattle.cq_theory.specs.Presentation.{IsPresentation}
use Rattle.cq_theory.specs.declared.term.EntTerm.{EntTerm}
use Rattle.cq_theory.specs.declared.term.TypeTerm.{TypeTerm}
use Rattle.cq_theory.specs.declared.term.Term.TheVariants.{Ent, Typ}
use Rattle.cq_theory.specs.Sorts.{entity_of, type_of}
use Rattle.cq_theory.specs.Derivation.{Derives}

module _ (S : Schema) (P : Presentation) (m : Content) (entries : List ℕ) (frame : IsFrame S P m entries) where
  -- sides of an entity
  module _ (t u : EntTerm) (sorted : IsWellSorted S P (EntEquation t u)) where
    path_readable : (v : EntTerm) → (e : ℕ) × (entity_of S P.generators v ≡ Some e) → (count : ℕ) × IsReadablePath m entries count v
    path_readable v e = (
      made_of m + length P.generators,
      record { schema = S; generators = P.generators; readable = frame_readable S P m entries (made_of m + length P.generators) frame (omega arith); entity = e.0; sort = e.1 },
    )

    pub left_path : (count : ℕ) × IsReadablePath m entries count t
    left_path = path_readable t (entity_sorted (entity_of S P.generators t) sorted.sort sorted.left)

    pub right_path : (count : ℕ) × IsReadablePath m entries count u
    right_path = path_readable u (entity_sorted (entity_of S P.generators u) sorted.sort sorted.right)

    pub row_answer : IsSchema S → IsPresentation S P → (same : Bool) → ((same ≡ true) → AreOneRow m entries t u) → (AreOneRow m entries t u → same ≡ true)
        → MatchBool same (Derives S P (Ent t) (Ent u)) (IsApart S P m entries (Ent t) (Ent u))
    row_answer schema presentation same holds other =
        let d = entity_sorted (entity_of S P.generators t) sorted.sort sorted.left in
        let e = entity_sorted (entity_of S P.generators u) sorted.sort sorted.right in
        go d.0 e.0 d.1 e.1 same holds other
      where
        go : (d e : ℕ) → entity_of S P.generators t ≡ Some d → entity_of S P.generators u ≡ Some e → (same : Bool) → ((same ≡ true) → AreOneRow m entries t u) → (AreOneRow m entries t u → same ≡ true)
            → MatchBool same (Derives S P (Ent t) (Ent u)) (IsApart S P m entries (Ent t) (Ent u))
        go d e h h' true holds other = equal_rows S P m entries frame t u d e h h' (holds refl)
        go d e h h' false holds other = apart_rows S P m entries frame schema presentation t u d e h h' (λ one. let wrong : false ≡ true = other one in cc)

  -- sides of a type
  module _ (t u : TypeTerm) (sorted : IsWellSorted S P (TypEquation t u)) where
    left_type : (type : ℕ) × (type_of S P.generators t ≡ Some type)
    left_type = type_sorted (type_of S P.generators t) sorted.sort sorted.left

    right_type : (type : ℕ) × (type_of S P.generators u ≡ Some type)
    right_type = type_sorted (type_of S P.generators u) sorted.sort sorted.right

    pub left_readable : (count : ℕ) → made_of m + length P.generators ≤ count → IsReadable m entries count t
    left_readable count enough = readable_typed m entries S P.generators count t left_type.0 (frame_readable S P m entries count frame enough) left_type.1

    pub right_readable : (count : ℕ) → made_of m + length P.generators ≤ count → IsReadable m entries count u
    right_readable count enough = readable_typed m entries S P.generators count u right_type.0 (frame_readable S P m entries count frame enough) right_type.1

    untraced : (old new : List Node) (v : TypeTerm) (o : Option ℕ) → IsPushed m entries old new v o → o ≡ None → is_traced m entries v ≡ false
    untraced old new v o h absent = subst (λ x. MatchOption x (is_traced m entries v ≡ false) (λ p. Stands m entries new v p × (p < length new) × (is_traced m entries v ≡ true))) absent h.place_is

    module _ (schema : IsSchema S) (presentation : IsPresentation S P) where
      pub left_untraced : (old new : List Node) (o : Option ℕ) → IsPushed m entries old new t o → o ≡ None → IsApart S P m entries (Typ t) (Typ u)
      left_untraced old new o h absent = apart_left S P m entries schema presentation frame t u left_type.0 left_type.1 (untraced old new t o h absent)

      pub right_untraced : (old new : List Node) (o : Option ℕ) → IsPushed m entries old new u o → o ≡ None → IsApart S P m entries (Typ t) (Typ u)
      right_untraced old new o h absent = apart_right S P m entries schema presentation frame t u right_type.0 right_type.1 (untraced old new u o h absent)

      -- after the nodes of the left side, or of both
      pub left_asked : (old one : NodeListData) (o : Option ℕ) → AreSound S P m entries old → IsPushed m entries old.nodes one.nodes t o → o ≡ None → one.equations ≡ old.equations
          → Asks S P m entries old one (TypEquation t u) (Answered false)
      left_asked old one o begun h absent same = record {
        grows = pushed_grows S P m entries old one t o h same;
        sound = pushed_sound S P m entries old one t left_type.0 o left_type.1 h same begun;
        is = left_untraced old.nodes one.nodes o h absent;
      }

      module _ (old one two : NodeListData) (o q : Option ℕ) (begun : AreSound S P m entries old) (h : IsPushed m entries old.nodes one.nodes t o) (same : one.equations ≡ old.equations)
          (g : IsPushed m entries one.nodes two.nodes u q) (same' : two.equations ≡ one.equations) where
        both_grow : Grows old two
        both_grow = grows_both old one two (pushed_grows S P m entries old one t o h same) (pushed_grows S P m entries one two u q g same')

        both_sound : AreSound S P m entries two
        both_sound = pushed_sound S P m entries one two u right_type.0 q right_type.1 g same' (pushed_sound S P m entries old one t left_type.0 o left_type.1 h same begun)

        pub right_asked : q ≡ None → Asks S P m entries old two (TypEquation t u) (Answered false)
        right_asked absent = record { grows = both_grow; sound = both_sound; is = right_untraced one.nodes two.nodes q g absent }

        pub both_asked : (a b : ℕ) → o ≡ Some a → q ≡ Some b → Asks S P m entries old two (TypEquation t u) (Nodes a b)
        both_asked a b first second =
            let left : IsPushed m entries old.nodes one.nodes t (Some a) = subst (IsPushed m entries old.nodes one.nodes t) first h in
            let right : IsPushed m entries one.nodes two.nodes u (Some b) = subst (IsPushed m entries one.nodes two.nodes u) second g in
            record {
              grows = both_grow;
              sound = both_sound;
              is = record {
                left = t;
                right = u;
                is = refl;
                sides = record {
                  left = stands_more m entries one.nodes two.nodes g.extends left.place_is.0;
                  right = right.place_is.0;
                  left_within = omega (arith, left.place_is.1, g.count);
                  right_within = right.place_is.1;
                };
              };
            }

-- an equation of a presentation, and one of a schema at a row, can be read
pub equation_sorted : (S : Schema) (P : Presentation) (n : ℕ) (e : Equation) → IsPresentation S P → slice_get P.equations n ≡ Some e → IsWellSorted S P e
equation_sorted S P n e presentation found = let is = presentation.equations n e found in record { sort = is.sort; left = is.left; right = is.right }

module _ (S : Schema) (schema : IsSchema S) (m : Content) (row count : ℕ) (whole : IsWhole m) (keys : keys_of m ≡ map ends_of S.keys) (live : live_of m row ≡ true) (enough : made_of m ≤ count)
    (n : ℕ) (e : ObsEq) (found : slice_get S.obs_eqs n ≡ Some e) (entity : e.entity ≡ row_entity m row) where
  pub observed_left : IsReadable m (row ∷ []) count e.left
  observed_left =
      let sides = schema.obs_eqs n e found in
      readable_typed m (row ∷ []) S (one_of (row_entity m row)) count e.left sides.type (row_readable S m row count whole keys live enough) (ap (λ x. type_of S (one_of x) e.left) (sym entity) ∙ sides.left)

  pub observed_right : IsReadable m (row ∷ []) count e.right
  observed_right =
      let sides = schema.obs_eqs n e found in
      readable_typed m (row ∷ []) S (one_of (row_entity m row)) count e.right sides.type (row_readable S m row count whole keys live enough) (ap (λ x. type_of S (one_of x) e.right) (sym entity) ∙ sides.right)

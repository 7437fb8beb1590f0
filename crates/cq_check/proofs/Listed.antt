-- Equations that are added keep what a list of nodes says of derivable equations, and are there.
use Rattle.std.proofs.Common.{ℕ, true, false, List, [], ◌∷◌, Option, Some, ◌≡◌, ◌<◌, ◌≤◌, ◌+◌, ◌⊎◌, length, refl, sym, ap, subst, ◌∙◌, arith, inl, inr}
use Rattle.std.specs.Prelude.{slice_get, option_map}
use Rattle.std.proofs.lemmas.Bool.{cases_lt}
use Rattle.std.proofs.lemmas.Option.{slice_get_within}
use Rattle.cq_tables.specs.Content.{Content, live_of}
use Rattle.cq_tables.specs.Content.{entity_of as row_entity}
use Rattle.cq_rows.specs.Rows.{row_of_term}
use Rattle.cq_rows.proofs.ByEntity.{at_position}
use Rattle.cq_flat.specs.declared.node.Node.{Node}
use Rattle.cq_flat.specs.Nodes.{HasEarlierArguments}
use Rattle.cq_check.specs.NodeListData.{NodeListData}
use Rattle.cq_check.specs.Sound.{HasTerm, AreEqualNodes, AreSound, KeepsSound}
use Rattle.cq_check.specs.Adding.{Grows, HasEquation, HasIfTraced, IsEquated, HasGiven, HasAtRow, HasAtRows}
use Rattle.cq_check.proofs.Lists.{at_place, one_at}
use Rattle.cq_check.proofs.Placed.{stands_more, stands_at}
use Rattle.cq_check.proofs.Pushed.{HasTerm-more}
use Rattle.cq_check.proofs.Typed.{type_sorted}
use Rattle.cq_theory.specs.declared.presentation.Equation.TheVariants.{Ent as EntEquation, Typ as TypEquation}
use Rattle.cq_theory.specs.declared.presentation.Presentation.{Presentation}
use Rattle.cq_theory.specs.declared.presentation.Sort.TheVariants.{Plain}
use Rattle.cq_theory.specs.declared.schema.ObsEq.{ObsEq}
use Rattle.cq_theory.specs.Groups.{positions, obs_eq_sources}
use Rattle.cq_theory.specs.SchemaData.{SchemaData as Schema}
use Rattle.cq_theory.specs.Schema.{IsSchema, one_of}
use Rattle.cq_theory.specs.Presentation.{IsPresentation}
use Rattle.cq_theory.specs.declared.term.EntTerm.{EntTerm}
use Rattle.cq_theory.specs.declared.term.TypeTerm.{TypeTerm}
use Rattle.cq_theory.specs.declared.term.Term.TheVariants.{Typ}
use Rattle.cq_theory.specs.TypeTerm.{substituted}
use Rattle.cq_theory.specs.Sorts.{entity_of, type_of}
use Rattle.cq_theory.specs.Derivation.{given, observation, Derives}
use Rattle.cq_theory.proofs.Sorted.{type_of-substituted}

pub grows_none : (list : NodeListData) → Grows list list
grows_none list = record { nodes = λ p x h. h; count = omega arith; equations = λ p x h. h }

pub grows_both : (a b c : NodeListData) → Grows a b → Grows b c → Grows a c
grows_both a b c h g = record { nodes = λ p x at. g.nodes p x (h.nodes p x at); count = omega (arith, h.count, g.count); equations = λ p x at. g.equations p x (h.equations p x at) }

module _ (m : Content) (rows : List ℕ) where
  HasEquation-more : (old new : NodeListData) (t u : TypeTerm) → Grows old new → HasEquation m rows old t u → HasEquation m rows new t u
  HasEquation-more old new t u grows h = record {
    place = h.place;
    left = h.left;
    right = h.right;
    is = grows.equations h.place (h.left, h.right) h.is;
    left_stands = stands_more m rows old.nodes new.nodes grows.nodes h.left_stands;
    right_stands = stands_more m rows old.nodes new.nodes grows.nodes h.right_stands;
  }

  pub HasIfTraced-more : (old new : NodeListData) (t u : TypeTerm) → Grows old new → HasIfTraced m rows old t u → HasIfTraced m rows new t u
  HasIfTraced-more old new t u grows h left right = HasEquation-more old new t u grows (h left right)

module _ (S : Schema) (P : Presentation) (m : Content) (entries : List ℕ) where
  equal_more : (old new : List Node) (a b : ℕ) → ((p : ℕ) (x : Node) → slice_get old p ≡ Some x → slice_get new p ≡ Some x) → length old ≤ length new
      → AreEqualNodes S P m entries old a b → AreEqualNodes S P m entries new a b
  equal_more old new a b longer count h = record {
    left = record { term = h.left.term; type = h.left.type; sort = h.left.sort; stands = stands_more m entries old new longer h.left.stands };
    right = record { term = h.right.term; type = h.right.type; sort = h.right.sort; stands = stands_more m entries old new longer h.right.stands };
    equal = h.equal;
    left_within = omega (arith, h.left_within, count);
    right_within = omega (arith, h.right_within, count);
  }

  -- what is added has terms, and its equations are derivable
  pub sound_more : (old new : NodeListData) → Grows old new → (HasEarlierArguments old.nodes → HasEarlierArguments new.nodes)
      → ((p : ℕ) → length old.nodes ≤ p → p < length new.nodes → HasTerm S P.generators m entries new.nodes p)
      → ((i a b : ℕ) → length old.equations ≤ i → slice_get new.equations i ≡ Some (a, b) → AreEqualNodes S P m entries new.nodes a b)
      → AreSound S P m entries old → AreSound S P m entries new
  sound_more old new grows earlier named equal before = record {
    leaves = λ p h. grows.nodes p _ (before.leaves p h);
    count = omega (arith, before.count, grows.count);
    earlier = earlier before.earlier;
    named = λ p behind within. elim (cases_lt p (length old.nodes)) [
      | inl less ↦ HasTerm-more m entries S P.generators old.nodes new.nodes p grows.nodes (before.named p behind less)
      | inr le ↦ named p le within
    ];
    equal = λ i a b at. elim (cases_lt i (length old.equations)) [
      | inl less ↦
          let there = at_place old.equations i less in
          let same : there.0 ≡ (a, b) = one_at new.equations i there.0 (a, b) (grows.equations i there.0 there.1) at in
          equal_more old.nodes new.nodes a b grows.nodes grows.count (before.equal i a b (there.1 ∙ ap (λ (e : ℕ × ℕ). Some e) same))
      | inr le ↦ equal i a b le at
    ];
  }

  -- an equation of the presentation
  pub given_sound : (old new : NodeListData) (t u : TypeTerm) (type : ℕ) → type_of S P.generators t ≡ Some type → type_of S P.generators u ≡ Some type → Derives S P (Typ t) (Typ u)
      → IsEquated m entries old new t u → AreSound S P m entries old → AreSound S P m entries new
  given_sound old new t u type left right d h = sound_more old new h.grows h.earlier (h.named S P.generators type left right) (λ i a b behind at.
      let sides = h.sides i a b behind at in
      record {
        left = record { term = t; type = type; sort = left; stands = sides.left };
        right = record { term = u; type = type; sort = right; stands = sides.right };
        equal = d;
        left_within = sides.left_within;
        right_within = sides.right_within;
      })

  -- an observation equation at a row that a term names
  pub observed_sound : (old new : NodeListData) (row : ℕ) (name : EntTerm) (e : ObsEq) (n type : ℕ) → entity_of S P.generators name ≡ Some e.entity → row_of_term m entries name ≡ Some row
      → slice_get S.obs_eqs n ≡ Some e → type_of S (one_of e.entity) e.left ≡ Some type → type_of S (one_of e.entity) e.right ≡ Some type
      → IsEquated m (row ∷ []) old new e.left e.right → AreSound S P m entries old → AreSound S P m entries new
  observed_sound old new row name e n type of_entity leads found left right h = sound_more old new h.grows h.earlier (λ p behind within. placed p (h.named S (one_of e.entity) type left right p behind within)) (λ i a b behind at.
      let sides = h.sides i a b behind at in
      record {
        left = record { term = substituted name e.left; type = type; sort = sorted e.left type left; stands = stands_at S m entries name e.entity row leads new.nodes type left sides.left };
        right = record { term = substituted name e.right; type = type; sort = sorted e.right type right; stands = stands_at S m entries name e.entity row leads new.nodes type right sides.right };
        equal = (observation n name, (e, found, of_entity, tt, refl, refl, tt, tt));
        left_within = sides.left_within;
        right_within = sides.right_within;
      })
    where
      sorted : (t : TypeTerm) (type : ℕ) → type_of S (one_of e.entity) t ≡ Some type → type_of S P.generators (substituted name t) ≡ Some type
      sorted t type sort = type_of-substituted S P.generators name e.entity of_entity t type sort

      placed : (p : ℕ) → HasTerm S (one_of e.entity) m (row ∷ []) new.nodes p → HasTerm S P.generators m entries new.nodes p
      placed p t = record {
        term = substituted name t.term;
        type = t.type;
        sort = sorted t.term t.type t.sort;
        stands = stands_at S m entries name e.entity row leads new.nodes t.type t.sort t.stands;
      }

  -- the first equations of the presentation are added
  pub record AddsGiven (old new : NodeListData) (count : ℕ) : Type 0 where
    pub grows : Grows old new
    pub sound : AreSound S P m entries old → AreSound S P m entries new
    pub has : HasGiven P m entries new count

  pub given_none : (list : NodeListData) → AddsGiven list list 0
  given_none list = record { grows = grows_none list; sound = λ h. h; has = λ n t u less found. absurd (omega (arith, less)) }

  last_or_before : (n i : ℕ) → n < i + 1 → (n < i) ⊎ (n ≡ i)
  last_or_before n i h = elim (cases_lt n i) [
    | inl less ↦ inl less
    | inr le ↦ inr (omega (arith, le, h))
  ]

  pub given_skipped : (old mid : NodeListData) (i : ℕ) (l r : EntTerm) → slice_get P.equations i ≡ Some (EntEquation l r) → AddsGiven old mid i → AddsGiven old mid (i + 1)
  given_skipped old mid i l r skipped before = record {
    grows = before.grows;
    sound = before.sound;
    has = λ n t u less found. elim (last_or_before n i less) [
      | inl less' ↦ before.has n t u less' found
      | inr same ↦ absurd (let wrong : Some (EntEquation l r) ≡ Some (TypEquation t u) = sym skipped ∙ ap (slice_get P.equations) (sym same) ∙ found in cc)
    ];
  }

  sides_of : (t u l r : TypeTerm) → TypEquation l r ≡ TypEquation t u → (l ≡ t) × (r ≡ u)
  sides_of t u l r h = (cc, cc)

  pub given_added : IsPresentation S P → (old mid new : NodeListData) (i : ℕ) (l r : TypeTerm) → slice_get P.equations i ≡ Some (TypEquation l r) → IsEquated m entries mid new l r → AddsGiven old mid i → AddsGiven old new (i + 1)
  given_added presentation old mid new i l r there h before =
      let sides = presentation.equations i (TypEquation l r) there in
      let left = type_sorted (type_of S P.generators l) sides.sort sides.left in
      let right = type_sorted (type_of S P.generators r) sides.sort sides.right in
      let one : type_of S P.generators r ≡ Some left.0 = same_type (type_of S P.generators l) (type_of S P.generators r) left.0 right.0 left.1 right.1 (sides.left ∙ sym sides.right) in
      record {
        grows = grows_both old mid new before.grows h.grows;
        sound = λ is. given_sound mid new l r left.0 left.1 one (given i, (TypEquation l r, there, refl, refl, tt, tt)) h (before.sound is);
        has = λ n t u less found. elim (last_or_before n i less) [
          | inl less' ↦ HasIfTraced-more m entries mid new t u h.grows (before.has n t u less' found)
          | inr same ↦
              let equal : TypEquation l r ≡ TypEquation t u = one_at P.equations i (TypEquation l r) (TypEquation t u) there (ap (slice_get P.equations) (sym same) ∙ found) in
              let parts = sides_of t u l r equal in
              subst (λ (s : TypeTerm × TypeTerm). HasIfTraced m entries new s.0 s.1) (λ j. (parts.0 j, parts.1 j)) h.has
        ];
      }
    where
      same_type : (o q : Option ℕ) (a b : ℕ) → o ≡ Some a → q ≡ Some b → option_map Plain o ≡ option_map Plain q → q ≡ Some a
      same_type o q a b h g e =
          let plain : Some (Plain a) ≡ Some (Plain b) = ap (option_map Plain) (sym h) ∙ e ∙ ap (option_map Plain) g in
          let plain' : Plain a ≡ Plain b = cc in
          let same : a ≡ b = cc in
          g ∙ ap (λ n. Some n) (sym same)

module _ (S : Schema) (m : Content) where
  -- the observation equations at the first places of a list are added at a row
  pub record AddsAtRow (row : ℕ) (places : List ℕ) (old new : NodeListData) (count : ℕ) : Type 0 where
    pub grows : Grows old new
    pub sound : KeepsSound S m old new
    pub has : (r n : ℕ) (e : ObsEq) → r < count → slice_get places r ≡ Some n → slice_get S.obs_eqs n ≡ Some e → HasIfTraced m (row ∷ []) new e.left e.right

  pub row_none : (row : ℕ) (places : List ℕ) (list : NodeListData) → AddsAtRow row places list list 0
  row_none row places list = record { grows = grows_none list; sound = λ P entries frame h. h; has = λ r n e less place found. absurd (omega (arith, less)) }

  row_last : (n i : ℕ) → n < i + 1 → (n < i) ⊎ (n ≡ i)
  row_last n i h = elim (cases_lt n i) [
    | inl less ↦ inl less
    | inr le ↦ inr (omega (arith, le, h))
  ]

  pub row_added : IsSchema S → (row : ℕ) (places : List ℕ) (old mid new : NodeListData) (r i : ℕ) (e : ObsEq) → live_of m row ≡ true → slice_get places r ≡ Some i → slice_get S.obs_eqs i ≡ Some e
      → e.entity ≡ row_entity m row → IsEquated m (row ∷ []) mid new e.left e.right → AddsAtRow row places old mid r → AddsAtRow row places old new (r + 1)
  row_added schema row places old mid new r i e live at there entity h before =
      let sides = schema.obs_eqs i e there in
      record {
        grows = grows_both old mid new before.grows h.grows;
        sound = λ P entries frame is.
            let name = frame.named.1 row live in
            observed_sound S P m entries mid new row name.0 e i sides.type (name.1.entity ∙ ap (λ n. Some n) (sym entity)) name.1.row there sides.left sides.right h (before.sound P entries frame is);
        has = λ q n o less place found. elim (row_last q r less) [
          | inl less' ↦ HasIfTraced-more m (row ∷ []) mid new o.left o.right h.grows (before.has q n o less' place found)
          | inr same ↦
              let number : i ≡ n = one_at places r i n at (ap (slice_get places) (sym same) ∙ place) in
              let equal : e ≡ o = one_at S.obs_eqs i e o there (ap (slice_get S.obs_eqs) number ∙ found) in
              subst (λ (x : ObsEq). HasIfTraced m (row ∷ []) new x.left x.right) equal h.has
        ];
      }

  -- the places of an entity's observation equations are all that speak of its rows
  pub row_has : (row : ℕ) (places : List ℕ) (old new : NodeListData) (count : ℕ) → places ≡ positions (obs_eq_sources S.obs_eqs) (row_entity m row) → length places ≤ count
      → AddsAtRow row places old new count → HasAtRow S m new row (length S.obs_eqs)
  row_has row places old new count are all adds n e less found entity =
      let p = at_position (λ (x : ObsEq). x.entity) S.obs_eqs (row_entity m row) n e found entity in
      let at : slice_get places p.0 ≡ Some n = ap (λ l. slice_get l p.0) are ∙ p.1 in
      adds.has p.0 n e (omega (arith, slice_get_within places p.0 n at, all)) at found

  -- and at the first rows
  pub record AddsAtRows (old new : NodeListData) (count : ℕ) : Type 0 where
    pub grows : Grows old new
    pub sound : KeepsSound S m old new
    pub has : HasAtRows S m new count

  pub rows_none : (list : NodeListData) → AddsAtRows list list 0
  rows_none list = record { grows = grows_none list; sound = λ P entries frame h. h; has = λ row less live. absurd (omega (arith, less)) }

  pub rows_skipped : (old mid : NodeListData) (row : ℕ) → (live_of m row ≡ false) → AddsAtRows old mid row → AddsAtRows old mid (row + 1)
  rows_skipped old mid row dead before = record {
    grows = before.grows;
    sound = before.sound;
    has = λ r less live. elim (row_last r row less) [
      | inl less' ↦ before.has r less' live
      | inr same ↦ absurd (let wrong : false ≡ true = sym dead ∙ ap (live_of m) (sym same) ∙ live in cc)
    ];
  }

  pub rows_added : (old mid new : NodeListData) (row : ℕ) → Grows mid new → KeepsSound S m mid new → HasAtRow S m new row (length S.obs_eqs) → AddsAtRows old mid row → AddsAtRows old new (row + 1)
  rows_added old mid new row grows sound has before = record {
    grows = grows_both old mid new before.grows grows;
    sound = λ P entries frame is. sound P entries frame (before.sound P entries frame is);
    has = λ r less live. elim (row_last r row less) [
      | inl less' ↦ (λ n e within found entity. HasIfTraced-more m (r ∷ []) mid new e.left e.right grows (before.has r less' live n e within found entity))
      | inr same ↦ subst (λ x. HasAtRow S m new x (length S.obs_eqs)) (sym same) has
    ];
  }

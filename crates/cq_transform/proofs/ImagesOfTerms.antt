-- Rows and nulls that go where the terms that name them go are the one homomorphism that agrees with the assignment.
use Rattle.std.proofs.Common.{ℕ, zero, suc, Bool, true, List, [], ◌∷◌, ◌++◌, Option, Some, None, ◌≡◌, ◌<◌, ◌≤◌, ◌+◌, ◌&&◌, if◌then◌else◌, map, length, get_or, refl, sym, ap, subst, ◌∙◌, arith, eq-eqb}
use Rattle.std.proofs.lemmas.List.Elements.{All-head, All-tail}
use Rattle.std.specs.Prelude.{slice_get, slice_index, slice_index_or, option_and_then, option_map, find, All}
use Rattle.std.proofs.lemmas.Option.{option_and_then_some, slice_get_within, slice_get-get_or, get_or_from_slice_get}
use Rattle.cq_base.specs.declared.name.Name.{Name}
use Rattle.cq_theory.specs.declared.presentation.Presentation.{Presentation}
use Rattle.cq_theory.specs.declared.presentation.Sort.{Sort}
use Rattle.cq_theory.specs.declared.presentation.Sort.TheVariants.{Plain, Entity}
use Rattle.cq_theory.specs.declared.schema.Edge.{Edge}
use Rattle.cq_theory.specs.SchemaData.{SchemaData as Schema}
use Rattle.cq_theory.specs.declared.term.EntTerm.{EntTerm}
use Rattle.cq_theory.specs.declared.term.TypeTerm.{TypeTerm}
use Rattle.cq_theory.specs.declared.term.TypeTerm.TheVariants as term
use Rattle.cq_theory.specs.declared.term.Term.{Term}
use Rattle.cq_theory.specs.declared.term.Term.TheVariants.{Ent, Typ}
use Rattle.cq_theory.specs.declared.value.Value.{Value}
use Rattle.cq_theory.specs.declared.value.Value.TheVariants.{Const, Null, Fun}
use Rattle.cq_theory.specs.declared.constant.Con.TheVariants.{Named}
use Rattle.cq_theory.specs.declared.value.Entry.{Entry}
use Rattle.cq_theory.specs.EntTerm.{extended}
use Rattle.cq_theory.specs.Schema.{IsSchema}
use Rattle.cq_theory.specs.Sorts.{followed, target_of, entity_at, type_at, entity_of, is_type, have_types, applied_type, type_of, type_step, sort_of}
use Rattle.cq_theory.specs.Tables.{Tables, Meaning, AtRow, AtValue, Assignment, row_in, value_in, count_of, key_at, cell_at, row_from, row_of, value_of, value_step, meaning_of, is_for, entry_or_built, applied, value_type, value_type_step, normal_of, normal_step, HasSort, IsPlain, IsSoundEntry, IsWellFormed, Holds, Initial}
use Rattle.cq_theory.specs.Homomorphism.{row_image, value_image, value_image_step, IsHomomorphism}
use Rattle.cq_theory.proofs.TypeTerms.{fold-Gen, fold-Const, fold-Att, fold-Fun, on_terms}
use Rattle.cq_theory.proofs.TypeTerms as terms
use Rattle.cq_theory.proofs.Values as values
use Rattle.cq_theory.proofs.OnValues.{Each, on_values, All_at, found_passes, entry_for, applied-entry}
use Rattle.cq_theory.proofs.Sound.{both, is_type_some, applied_type_some, followed_some, row_from-append, row_of-within, meaning_of-derived}
use Rattle.cq_theory.proofs.Typing.{value_typed}
use Rattle.cq_theory.proofs.Closings.{entity_of-extended}
use Rattle.cq_theory.proofs.ResolvedSorts.{map_some}
use Rattle.cq_transform.specs.Agreement.{meaning_image, Agrees}
use Rattle.cq_transform.proofs.Normal.{type_at_some, entity_at_some, plain_normal, value_normal}

-- lists with the same members are one
same_members : {X : Type 0} (d : X) (xs ys : List X) → length xs ≡ length ys → ((i : ℕ) → i < length xs → slice_index_or xs i d ≡ slice_index_or ys i d) → xs ≡ ys
same_members d [] [] size h = refl
same_members d [] (y ∷ ys) size h = absurd (omega arith)
same_members d (x ∷ xs) [] size h = absurd (omega arith)
same_members d (x ∷ xs) (y ∷ ys) size h =
    let first : x ≡ y = h 0 (omega arith) in
    let rest : xs ≡ ys = same_members d xs ys (omega arith) (λ i here. h (suc i) (omega arith)) in
    λ i. first i ∷ rest i

-- the row of a term that names the row, and so for nulls
module _ (S : Schema) (P : Presentation) (M N : Tables) (A B : Assignment) (rows : List (List ℕ)) (nulls : List Value) where
  pub record IsRowOf (entity row : ℕ) : Type 0 where
    pub name : EntTerm
    pub of_entity : entity_of S P.generators name ≡ Some entity
    pub here : row_of M A name ≡ row
    pub there : row_of N B name ≡ row_image S M N rows nulls entity row

  pub record IsNullOf (label : ℕ) : Type 0 where
    pub name : TypeTerm
    pub type : ℕ
    pub typed : type_of S P.generators name ≡ Some type
    pub here : value_of M A name ≡ Null label
    pub there : value_of N B name ≡ slice_index_or nulls label (Const (Named 0))

  pub record AreImages : Type 0 where
    pub entities : length rows ≡ length S.entities
    pub counted : (entity : ℕ) (images : List ℕ) → slice_get rows entity ≡ Some images → length images ≡ count_of M entity
    pub each_row : (entity row : ℕ) → row < count_of M entity → IsRowOf entity row
    pub null_count : length nulls ≡ length M.algebra.nulls
    pub each_null : (label : ℕ) → label < length M.algebra.nulls → IsNullOf label

module _ (S : Schema) (P : Presentation) (M N : Tables) (A B : Assignment) (schema : IsSchema S) (initial : Initial S P M A) (holds : Holds S P N B) where
  -- terms that mean the same in the initial model do so in the other one
  same_rows : (t u : EntTerm) (e : ℕ) → entity_of S P.generators t ≡ Some e → entity_of S P.generators u ≡ Some e → row_of M A t ≡ row_of M A u → row_of N B t ≡ row_of N B u
  same_rows t u e h k same =
      let derived = (initial.equal (Ent t) (Ent u) (Entity e) (ap (option_map Entity) h) (ap (option_map Entity) k)).0 (ap AtRow same) in
      ap row_in (meaning_of-derived S P N B schema holds (Ent t) (Ent u) derived)

  same_values : (t u : TypeTerm) (type : ℕ) → type_of S P.generators t ≡ Some type → type_of S P.generators u ≡ Some type → value_of M A t ≡ value_of M A u → value_of N B t ≡ value_of N B u
  same_values t u type h k same =
      let derived = (initial.equal (Typ t) (Typ u) (Plain type) (ap (option_map Plain) h) (ap (option_map Plain) k)).0 (ap AtValue same) in
      ap value_in (meaning_of-derived S P N B schema holds (Typ t) (Typ u) derived)

  abbrev type_in : Value → Option ℕ
  type_in = value_type S M.algebra.nulls

  module _ (rows : List (List ℕ)) (nulls : List Value) (images : AreImages S P M N A B rows nulls) where
    abbrev image : Value → Value
    image = value_image S M N rows nulls

    -- a value of a type is what some term means, and its image what the term means there
    abbrev IsSpelled : Value → Type 0
    IsSpelled v = (type : ℕ) → type_in v ≡ Some type
        → (t : TypeTerm) × (type_of S P.generators t ≡ Some type) × (value_of M A t ≡ normal_of M v) × (value_of N B t ≡ image v)

    all_spelled : (vs : List Value) (types : List ℕ) → have_types (map type_in vs) types ≡ true → Each IsSpelled vs
        → (ts : List TypeTerm) × (have_types (map (type_of S P.generators) ts) types ≡ true) × (map (value_of M A) ts ≡ map (normal_of M) vs) × (map (value_of N B) ts ≡ map image vs)
    all_spelled [] [] h each = ([], refl, refl, refl)
    all_spelled [] (type ∷ types) h each = cc
    all_spelled (v ∷ vs) [] h each = cc
    all_spelled (v ∷ vs) (type ∷ types) h each =
        let parts = both (is_type (type_in v) type) (have_types (map type_in vs) types) h in
        let before : type_in v ≡ Some type = is_type_some (type_in v) type parts.0 in
        let one = each.0 type before in
        let rest = all_spelled vs types parts.1 each.1 in
        let first : is_type (type_of S P.generators one.0) type ≡ true = ap (λ o. is_type o type) (one.1 ∙ sym before) ∙ parts.0 in (
          one.0 ∷ rest.0,
          ap (λ b. b && have_types (map (type_of S P.generators) rest.0) types) first ∙ rest.1,
          (λ i. one.2 i ∷ rest.2 i),
          (λ i. one.3 i ∷ rest.3 i),
        )

    spelled : (v : Value) → IsSpelled v
    spelled = on_values IsSpelled
        (λ c type h. (
          term.Const c,
          fold-Const (Option ℕ) (type_step S P.generators) c ∙ sym (values.fold-Const (Option ℕ) (value_type_step S M.algebra.nulls) c) ∙ h,
          fold-Const Value (value_step M A) c ∙ sym (values.fold-Const Value (normal_step M) c),
          fold-Const Value (value_step N B) c ∙ sym (values.fold-Const Value (value_image_step S M N rows nulls) c),
        ))
        (λ n type h.
        let typed : slice_get M.algebra.nulls n ≡ Some type = sym (values.fold-Null (Option ℕ) (value_type_step S M.algebra.nulls) n) ∙ h in
        let null = images.each_null n (slice_get_within M.algebra.nulls n type typed) in
        let of_name : Some null.type ≡ Some type = sym (value_typed S P M A initial.holds null.name null.type null.typed) ∙ ap type_in null.here ∙ h in (
          null.name,
          null.typed ∙ of_name,
          null.here ∙ sym (values.fold-Null Value (normal_step M) n),
          null.there ∙ sym (values.fold-Null Value (value_image_step S M N rows nulls) n),
        ))
        (λ f vs each type h.
        let parts = applied_type_some (slice_get S.typeside.functions f) (map type_in vs) type (sym (values.fold-Fun (Option ℕ) (value_type_step S M.algebra.nulls) f vs) ∙ h) in
        let args = all_spelled vs parts.0.args parts.2 each in (
          term.Fun f args.0,
          fold-Fun (Option ℕ) (type_step S P.generators) f args.0 ∙ ap (λ o. applied_type o (map (type_of S P.generators) args.0)) parts.1
              ∙ ap (λ (b : Bool). if b then Some parts.0.result else None) args.1 ∙ ap (λ m. Some m) parts.3,
          fold-Fun Value (value_step M A) f args.0 ∙ ap (applied M f) args.2 ∙ sym (values.fold-Fun Value (normal_step M) f vs),
          fold-Fun Value (value_step N B) f args.0 ∙ ap (applied N f) args.3 ∙ sym (values.fold-Fun Value (value_image_step S M N rows nulls) f vs),
        ))

    -- the image of what a term means is what it means there
    row_goes : (t : EntTerm) (e : ℕ) → entity_of S P.generators t ≡ Some e → row_image S M N rows nulls e (row_of M A t) ≡ row_of N B t
    row_goes t e h =
        let row = images.each_row e (row_of M A t) (row_of-within S P M A initial.holds t e h) in
        sym row.there ∙ same_rows row.name t e row.of_entity h row.here

    value_goes : (t : TypeTerm) (type : ℕ) → type_of S P.generators t ≡ Some type → image (value_of M A t) ≡ value_of N B t
    value_goes t type h =
        let u = spelled (value_of M A t) type (value_typed S P M A initial.holds t type h) in
        sym u.3 ∙ same_values u.0 t type u.1 h (u.2 ∙ value_normal S P M A initial.holds t type h)

    -- a value of a type that no entry bears on is what some term means
    value_kept : (v : Value) (type : ℕ) → type_in v ≡ Some type → normal_of M v ≡ v
        → (t : TypeTerm) × (type_of S P.generators t ≡ Some type) × (value_of M A t ≡ v) × (value_of N B t ≡ image v)
    value_kept v type h normal = let u = spelled v type h in (u.0, u.1, u.2 ∙ normal, u.3)

    within_images : (entity : ℕ) (list : List ℕ) → slice_get rows entity ≡ Some list → All (λ row. row < count_of N entity) list
    within_images entity list at i d inside =
        let inside' : i < count_of M entity = omega (arith, images.counted entity list at, inside) in
        let row = images.each_row entity i inside' in
        let is : row_image S M N rows nulls entity i ≡ get_or list i d =
        ap (λ (l : List ℕ). slice_index l i) (get_or_from_slice_get rows entity list [] at) ∙ get_or_from_slice_get list i (get_or list i d) 0 (slice_get-get_or list i d inside) in
        subst (λ n. n < count_of N entity) (row.there ∙ is) (row_of-within S P N B holds row.name entity row.of_entity)

    key_goes : (k : ℕ) (edge : Edge) → slice_get S.keys k ≡ Some edge → (row : ℕ) → row < count_of M edge.from
        → row_image S M N rows nulls edge.to (key_at M k row) ≡ key_at N k (row_image S M N rows nulls edge.from row)
    key_goes k edge at row inside =
        let name = images.each_row edge.from row inside in
        let further : EntTerm = extended name.name (k ∷ []) in
        let led : target_of S.keys (k ∷ []) edge.from ≡ Some edge.to = ap (λ o. option_and_then (target_of S.keys []) (followed o edge.from)) at ∙ followed_edge edge in
        let of_entity : entity_of S P.generators further ≡ Some edge.to =
        entity_of-extended S P name.name (k ∷ []) ∙ ap (option_and_then (target_of S.keys (k ∷ []))) name.of_entity ∙ led in
        let here : row_of M A further ≡ key_at M k row = row_from-append M (row_in (slice_index_or A name.name.generator (AtRow 0))) name.name.path (k ∷ []) ∙ ap (key_at M k) name.here in
        let there : row_of N B further ≡ key_at N k (row_image S M N rows nulls edge.from row) =
        row_from-append N (row_in (slice_index_or B name.name.generator (AtRow 0))) name.name.path (k ∷ []) ∙ ap (key_at N k) name.there in
        ap (row_image S M N rows nulls edge.to) (sym here) ∙ row_goes further edge.to of_entity ∙ there
      where
        followed_edge : (edge : Edge) → option_and_then (target_of S.keys []) (followed (Some edge) edge.from) ≡ Some edge.to
        followed_edge edge = ap (λ (b : Bool). option_and_then (target_of S.keys []) (if b then Some edge.to else None)) (eq-eqb edge.from edge.from refl)

    cell_goes : (a : ℕ) (edge : Edge) → slice_get S.attributes a ≡ Some edge → (row : ℕ) → row < count_of M edge.from
        → image (cell_at M a row) ≡ cell_at N a (row_image S M N rows nulls edge.from row)
    cell_goes a edge at row inside =
        let name = images.each_row edge.from row inside in
        let typed : type_of S P.generators (term.Att a name.name) ≡ Some edge.to =
        fold-Att (Option ℕ) (type_step S P.generators) a name.name ∙ ap (option_and_then (followed (slice_get S.attributes a))) name.of_entity
        ∙ ap (λ o. followed o edge.from) at ∙ ap (λ (b : Bool). if b then Some edge.to else None) (eq-eqb edge.from edge.from refl) in
        ap image (ap (cell_at M a) (sym name.here) ∙ sym (fold-Att Value (value_step M A) a name.name))
        ∙ value_goes (term.Att a name.name) edge.to typed ∙ fold-Att Value (value_step N B) a name.name ∙ ap (cell_at N a) name.there

    plain_all_normal : (vs : List Value) → All IsPlain vs → map (normal_of M) vs ≡ vs
    plain_all_normal [] h = refl
    plain_all_normal (v ∷ vs) h =
        let first : normal_of M v ≡ v = plain_normal M v (All-head IsPlain v vs h) in
        λ i. first i ∷ plain_all_normal vs (All-tail IsPlain v vs h) i

    entry_goes : (n : ℕ) (e : Entry) → slice_get M.algebra.entries n ≡ Some e → applied N e.function (map image e.args) ≡ image e.value
    entry_goes n e at =
        let sound : IsSoundEntry S M e = All_at (IsSoundEntry S M) M.algebra.entries n e initial.holds.well_formed.entries at in
        let whole = spelled (Fun e.function e.args) sound.function.result sound.typed in
        let value = value_kept e.value sound.function.result sound.same_type (plain_normal M e.value sound.plain.1) in
        let normal : normal_of M (Fun e.function e.args) ≡ e.value =
        values.fold-Fun Value (normal_step M) e.function e.args ∙ ap (applied M e.function) (plain_all_normal e.args sound.plain.0) ∙ applied-entry S M initial.holds.well_formed n e at in
        sym (values.fold-Fun Value (value_image_step S M N rows nulls) e.function e.args) ∙ sym whole.3
        ∙ same_values whole.0 value.0 sound.function.result whole.1 value.1 (whole.2 ∙ normal ∙ sym value.2) ∙ value.3

    null_typed : (n type : ℕ) → slice_get M.algebra.nulls n ≡ Some type
        → (value_type S N.algebra.nulls (image (Null n)) ≡ Some type) × (normal_of N (image (Null n)) ≡ image (Null n))
    null_typed n type at =
        let typed : type_in (Null n) ≡ Some type = values.fold-Null (Option ℕ) (value_type_step S M.algebra.nulls) n ∙ at in
        let u = spelled (Null n) type typed in (
          ap (value_type S N.algebra.nulls) (sym u.3) ∙ value_typed S P N B holds u.0 type u.1,
          ap (normal_of N) (sym u.3) ∙ value_normal S P N B holds u.0 type u.1 ∙ u.3,
        )

    pub images_homomorphism : IsHomomorphism S M N rows nulls
    images_homomorphism = record {
      entities = images.entities;
      each_row = λ entity list at. (images.counted entity list at, within_images entity list at);
      each_null = images.null_count;
      typed = null_typed;
      keys = key_goes;
      cells = cell_goes;
      entries = λ n d inside. entry_goes n (get_or M.algebra.entries n d) (slice_get-get_or M.algebra.entries n d inside);
    }

    generator_goes : (n : ℕ) (g : Name × Sort) (sort : Sort) (m l : Meaning) → slice_get P.generators n ≡ Some g → g.1 ≡ sort → slice_index_or A n (AtRow 0) ≡ m → slice_index_or B n (AtRow 0) ≡ l
        → HasSort S M sort m → HasSort S N sort l → meaning_image S M N rows nulls sort m ≡ l
    generator_goes n g (Entity e) (AtRow r) (AtRow q) at is here there h k =
        let of_entity : entity_of S P.generators (record { generator = n; path = [] }) ≡ Some e =
        ap (λ o. option_and_then (target_of S.keys []) (entity_at o)) at ∙ ap (λ (s : Sort). option_and_then (target_of S.keys []) (entity_at (Some (g.0, s)))) is in
        let goes = row_goes (record { generator = n; path = [] }) e of_entity in
        ap AtRow (ap (row_image S M N rows nulls e) (sym (ap row_in here)) ∙ goes ∙ ap row_in there)
    generator_goes n g (Plain type) (AtValue v) (AtValue w) at is here there h k =
        let typed : type_of S P.generators (term.Gen n) ≡ Some type =
        fold-Gen (Option ℕ) (type_step S P.generators) n ∙ ap type_at at ∙ ap (λ (s : Sort). type_at (Some (g.0, s))) is in
        let goes = value_goes (term.Gen n) type typed in
        ap AtValue (ap image (sym (fold-Gen Value (value_step M A) n ∙ ap value_in here)) ∙ goes ∙ fold-Gen Value (value_step N B) n ∙ ap value_in there)
    generator_goes n g (Entity e) (AtValue v) l at is here there h k = absurd h
    generator_goes n g (Entity e) (AtRow r) (AtValue w) at is here there h k = absurd k
    generator_goes n g (Plain type) (AtRow r) l at is here there h k = absurd h
    generator_goes n g (Plain type) (AtValue v) (AtRow q) at is here there h k = absurd k

    pub images_agree : Agrees S P M N A B rows nulls
    images_agree n g at = generator_goes n g g.1 (slice_index_or A n (AtRow 0)) (slice_index_or B n (AtRow 0)) at refl refl refl (initial.holds.sorts n g at) (holds.sorts n g at)

  -- two lists of images are one
  module _ (rows rows' : List (List ℕ)) (nulls nulls' : List Value) (images : AreImages S P M N A B rows nulls) (images' : AreImages S P M N A B rows' nulls') where
    one_row : (e row : ℕ) → row < count_of M e → row_image S M N rows nulls e row ≡ row_image S M N rows' nulls' e row
    one_row e row inside =
        let a = images.each_row e row inside in
        let b = images'.each_row e row inside in
        sym a.there ∙ same_rows a.name b.name e a.of_entity b.of_entity (a.here ∙ sym b.here) ∙ b.there

    one_null : (n : ℕ) → n < length M.algebra.nulls → slice_index_or nulls n (Const (Named 0)) ≡ slice_index_or nulls' n (Const (Named 0))
    one_null n inside =
        let a = images.each_null n inside in
        let b = images'.each_null n inside in
        let of_a : type_in (Null n) ≡ Some a.type = ap type_in (sym a.here) ∙ value_typed S P M A initial.holds a.name a.type a.typed in
        let of_b : type_in (Null n) ≡ Some b.type = ap type_in (sym b.here) ∙ value_typed S P M A initial.holds b.name b.type b.typed in
        let same : Some b.type ≡ Some a.type = sym of_b ∙ of_a in
        sym a.there ∙ same_values a.name b.name a.type a.typed (b.typed ∙ same) (a.here ∙ sym b.here) ∙ b.there

    one_list : (e : ℕ) → e < length rows → slice_index_or rows e [] ≡ slice_index_or rows' e []
    one_list e inside =
        let at = slice_get-get_or rows e [] inside in
        let inside' : e < length rows' = omega (arith, inside, images.entities, images'.entities) in
        let at' = slice_get-get_or rows' e [] inside' in
        let size = images.counted e (slice_index_or rows e []) at in
        let size' = images'.counted e (slice_index_or rows' e []) at' in
        same_members 0 (slice_index_or rows e []) (slice_index_or rows' e []) (size ∙ sym size') (λ row here. one_row e row (omega (arith, size, here)))

    pub one_images : (rows ≡ rows') × (nulls ≡ nulls')
    one_images = (
      same_members [] rows rows' (images.entities ∙ sym images'.entities) one_list,
      same_members (Const (Named 0)) nulls nulls' (images.null_count ∙ sym images'.null_count) (λ n here. one_null n (omega (arith, images.null_count, here))),
    )

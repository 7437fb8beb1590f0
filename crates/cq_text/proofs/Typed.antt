-- A value that has a type has constants and functions of the typeside at every level.
use Rattle.std.proofs.Common.{inl, inr, ℕ, zero, suc, Bool, true, false, List, [], ◌∷◌, ◌≡◌, ◌<◌, ◌&&◌, map, length, subst, refl, sym, ◌∙◌, arith}
use Rattle.std.specs.Prelude.{Option, Some, None, All, IfSome, ◌≤◌, slice_get, slice_index_or, option_map}
use Rattle.std.specs.List.{list_all}
use Rattle.std.proofs.lemmas.Bool.{lt-ltb}
use Rattle.std.proofs.lemmas.Option.{slice_get_within, slice_get_cases, cond_some}
use Rattle.cq_theory.specs.SchemaData.{SchemaData as Schema}
use Rattle.cq_theory.specs.Typeside.{constant_type}
use Rattle.cq_theory.specs.declared.constant.Con.{Con}
use Rattle.cq_theory.specs.declared.constant.Con.TheVariants.{Named, Open}
use Rattle.cq_theory.specs.declared.typeside.Fun.{Fun as Function}
use Rattle.cq_theory.specs.declared.schema.Edge.{Edge}
use Rattle.cq_theory.specs.declared.value.Entry.{Entry}
use Rattle.cq_theory.specs.declared.value.Value.{Value}
use Rattle.cq_theory.specs.declared.value.Value.TheVariants.{Const, Null, Fun, rolls-Const, rolls-Null, rolls-Fun}
use Rattle.cq_theory.specs.declared.value.Value.TheOpen as layer
use Rattle.cq_theory.specs.declared.value.Value.TheFolds.{ind-Value, map-Value}
use Rattle.cq_theory.specs.declared.value.Value.TheViews.{roll-Value}
use Rattle.cq_theory.specs.Sorts.{applied_type, have_types, is_type}
use Rattle.cq_theory.specs.Tables.{Tables, count_of, cell_at, value_type, value_type_step, IsWellFormed, IsSoundEntry}
use Rattle.cq_theory.specs.ValueText.{is_named, is_named_con, is_named_step}
use Rattle.cq_theory.proofs.Values.{fold-Const, fold-Null, fold-Fun, function_in_range, args_named}
use Rattle.cq_text.specs.Transcript.{IsNamedEntry}

-- P holds of each value of a list
abbrev pub Each : (Value → Type 0) → List Value → Type 0
Each P [] = Unit {0}
Each P (v ∷ vs) = P v × Each P vs

module _ (P : Value → Type 0)
    (on_const : (n : Con) → P (Const n)) (on_null : (n : ℕ) → P (Null n))
    (on_fun : (f : ℕ) (vs : List Value) → Each P vs → P (Fun f vs)) where
  each_such : (ys : List ((v : Value) × P v)) → Each P (map (λ e. e.0) ys)
  each_such [] = tt
  each_such (y ∷ ys) = (y.1, each_such ys)

  at_layer : (x : layer.Value-F Value) (y : layer.Value-F ((v : Value) × P v)) → map-Value ((v : Value) × P v) Value (λ e. e.0) y ≡ x → P (roll-Value x)
  at_layer x (layer.Const n) is = subst (λ z. P (roll-Value z)) is (subst P (sym (rolls-Const n)) (on_const n))
  at_layer x (layer.Null n) is = subst (λ z. P (roll-Value z)) is (subst P (sym (rolls-Null n)) (on_null n))
  at_layer x (layer.Fun f ys) is = subst (λ z. P (roll-Value z)) is (subst P (sym (rolls-Fun f (map (λ e. e.0) ys))) (on_fun f (map (λ e. e.0) ys) (each_such ys)))

  -- induction over values
  on_values : (v : Value) → P v
  on_values = ind-Value P at_layer

mapped_within : {A B : Type 0} (f : A → B) (xs : List A) (n : ℕ) (y : B) → option_map f (slice_get xs n) ≡ Some y → n < length xs
mapped_within f [] n y h = cc
mapped_within f (x ∷ xs) zero y h = omega arith
mapped_within f (x ∷ xs) (suc n) y h = let inside : n < length xs = mapped_within f xs n y h in omega arith

both : (a b : Bool) → (a && b) ≡ true → (a ≡ true) × (b ≡ true)
both true b h = (refl, h)
both false b h = cc

together : (a b : Bool) → a ≡ true → b ≡ true → (a && b) ≡ true
together true b h k = k
together false b h k = h

typed_so : (found : Option ℕ) (type : ℕ) → is_type found type ≡ true → (t : ℕ) × (found ≡ Some t)
typed_so None type h = cc
typed_so (Some t) type h = (t, refl)

-- what the type of an application says of its function and its arguments
applied_parts : (found : Option Function) (types : List (Option ℕ)) (type : ℕ) → applied_type found types ≡ Some type → (f : Function) × (found ≡ Some f) × (have_types types f.args ≡ true)
applied_parts None types type h = cc
applied_parts (Some f) types type h = (f, refl, (cond_some (have_types types f.args) f.result type h).0)

module _ (S : Schema) (nulls : List ℕ) where
  -- if the value has a type, then it is named
  abbrev IsNamedIfTyped : Value → Type 0
  IsNamedIfTyped v = (type : ℕ) → value_type S nulls v ≡ Some type → is_named S.typeside v ≡ true

  constant_is_named : (c : Con) (type : ℕ) → constant_type S.typeside c ≡ Some type → is_named_con S.typeside c ≡ true
  constant_is_named (Named n) type h = lt-ltb n (length S.typeside.constants) (mapped_within (λ constant. constant.1) S.typeside.constants n type h)
  constant_is_named (Open text) type h = refl

  named_const : (c : Con) → IsNamedIfTyped (Const c)
  named_const c type h = fold-Const Bool (is_named_step S.typeside) c ∙ constant_is_named c type (sym (fold-Const (Option ℕ) (value_type_step S nulls) c) ∙ h)

  named_null : (n : ℕ) → IsNamedIfTyped (Null n)
  named_null n type h = fold-Null Bool (is_named_step S.typeside) n

  all_named : (vs : List Value) (types : List ℕ) → Each IsNamedIfTyped vs → have_types (map (value_type S nulls) vs) types ≡ true → list_all (λ b. b) (map (is_named S.typeside) vs) ≡ true
  all_named [] types each h = refl
  all_named (v ∷ vs) [] each h = cc
  all_named (v ∷ vs) (type ∷ types) each h =
      let parts = both (is_type (value_type S nulls v) type) (have_types (map (value_type S nulls) vs) types) h in
      let typed = typed_so (value_type S nulls v) type parts.0 in
      together _ _ (each.0 typed.0 typed.1) (all_named vs types each.1 parts.1)

  named_fun : (f : ℕ) (vs : List Value) → Each IsNamedIfTyped vs → IsNamedIfTyped (Fun f vs)
  named_fun f vs each type h =
      let parts = applied_parts (slice_get S.typeside.functions f) (map (value_type S nulls) vs) type (sym (fold-Fun (Option ℕ) (value_type_step S nulls) f vs) ∙ h) in
      fold-Fun Bool (is_named_step S.typeside) f vs
      ∙ together _ _ (lt-ltb f (length S.typeside.functions) (slice_get_within S.typeside.functions f parts.0 parts.1)) (all_named vs parts.0.args each parts.2)

  pub named_if_typed : (v : Value) (type : ℕ) → value_type S nulls v ≡ Some type → is_named S.typeside v ≡ true
  named_if_typed = on_values IsNamedIfTyped named_const named_null named_fun

-- the constants and functions of a cell are the typeside's
pub cell_is_named : (S : Schema) (M : Tables) → IsWellFormed S M → (a row : ℕ) → a < length S.attributes → IfSome (slice_get S.attributes a) (λ edge. row < count_of M edge.from)
    → is_named S.typeside (cell_at M a row) ≡ true
cell_is_named S M well a row within of_source =
    elim (slice_get_cases S.attributes a).1 [
      | inl found ↦
          let edge = found.0 in
          let column = slice_index_or M.sheet.cells a [] in
          let is_column = well.cell_columns a edge found.2 in
          let below : row < count_of M edge.from = subst (λ o. IfSome o (λ (e : Edge). row < count_of M e.from)) found.2 of_source in
          let whole : length column ≡ count_of M edge.from = is_column.0 in
          let here : row < length column = omega arith in
          named_if_typed S M.algebra.nulls (cell_at M a row) edge.to (is_column.1 row (Const (Named 0)) here).0
      | inr past ↦ let beyond : length S.attributes ≤ a = past.0 in absurd (omega arith)
    ]

-- so are those of an entry
pub entry_is_named : (S : Schema) (M : Tables) (entry : Entry) → IsSoundEntry S M entry → IsNamedEntry S.typeside entry
entry_is_named S M entry sound =
    let named = named_if_typed S M.algebra.nulls (Fun entry.function entry.args) sound.function.result sound.typed in
    record {
      function = function_in_range S.typeside (Fun entry.function entry.args) entry.function entry.args refl named;
      args = args_named S.typeside (Fun entry.function entry.args) entry.function entry.args refl named;
      value = named_if_typed S M.algebra.nulls entry.value sound.function.result sound.same_type;
    }

pub entries_are_named : (S : Schema) (M : Tables) → IsWellFormed S M → All (IsNamedEntry S.typeside) M.algebra.entries
entries_are_named S M well k d within = entry_is_named S M _ (well.entries k d within)

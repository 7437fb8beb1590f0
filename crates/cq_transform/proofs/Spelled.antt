-- The values that generators, cells and entries tell are those of terms that mean the nulls.
use Rattle.std.proofs.Common.{ℕ, zero, suc, Bool, true, false, List, [], ◌∷◌, Option, Some, None, ◌≡◌, ◌<◌, ◌||◌, ◌&&◌, ◌⊎◌, inl, inr, if◌then◌else◌, map, length, refl, sym, ap, subst, ◌∙◌, arith, eq-eqb}
use Rattle.std.specs.Prelude.{slice_get, slice_set, slice_index_or, is_none, option_and_then, find, All}
use Rattle.std.specs.List.{list_any}
use Rattle.std.proofs.lemmas.Option.{slice_get_within}
use Rattle.cq_theory.specs.declared.constant.Con.TheVariants.{Named}
use Rattle.cq_theory.specs.declared.term.EntTerm.{EntTerm}
use Rattle.cq_theory.specs.declared.term.TypeTerm.{TypeTerm}
use Rattle.cq_theory.specs.declared.term.TypeTerm.TheVariants as term
use Rattle.cq_theory.specs.declared.value.Value.{Value}
use Rattle.cq_theory.specs.declared.value.Value.TheVariants.{Const, Null, Fun}
use Rattle.cq_theory.specs.declared.value.Entry.{Entry}
use Rattle.cq_theory.specs.Listed.{null_label}
use Rattle.cq_theory.specs.Sorts.{Generators, followed, is_type, have_types, applied_type, entity_of, type_of, type_step}
use Rattle.cq_theory.specs.Tables.{Tables, AtRow, Assignment, value_in, cell_at, row_of, value_of, value_step, is_for, entry_or_built, applied, value_type, value_type_step, IsSoundEntry}
use Rattle.cq_theory.specs.SchemaData.{SchemaData as Schema}
use Rattle.cq_theory.proofs.TypeTerms.{fold-Gen, fold-Const, fold-Att, fold-Fun}
use Rattle.cq_theory.proofs.Values as values
use Rattle.cq_theory.proofs.OnValues.{All_at, applied-entry}
use Rattle.cq_theory.proofs.Sound.{both, is_type_some, applied_type_some}
use Rattle.cq_theory.proofs.Typing.{value_typed}
use Rattle.cq_theory.proofs.Faults.{neither}
use Rattle.cq_instance.specs.InstanceData.{InstanceData, name_at}
use Rattle.cq_transform.specs.Nulls.{Found, value_at, value_or_first, is_open, plain_image, IsOpenAt, IsClosed, IsEntryClosed, IsInitial, IsSpelled, AreSpelled, Keeps, count_open, IsEntryOf, IsStandingOf, IsCellOf}
use Rattle.cq_transform.proofs.Changed.{get-set, size-set, from-set, kept-set, fewer-set}

pub one_label : (n m : ℕ) → Null n ≡ Null m → n ≡ m
one_label n m h = let same : Some n ≡ Some m = ap null_label h in cc

pub found_at : (found : Found) (label : ℕ) (w : Value) → value_at found label ≡ Some w → slice_get found label ≡ Some (Some w)
found_at found label w h = at_place (slice_get found label) refl h
  where
    at_place : (o : Option (Option Value)) → slice_get found label ≡ o → option_and_then (λ p. p) o ≡ Some w → slice_get found label ≡ Some (Some w)
    at_place None is e = cc
    at_place (Some p) is e = is ∙ ap (λ (q : Option Value). Some q) e

module _ (i j : InstanceData) (B : Assignment) where
  abbrev S : Schema
  S = i.schema

  abbrev G : Generators
  G = i.presentation.generators

  abbrev M : Tables
  M = i.tables

  abbrev A : Assignment
  A = i.assignment

  abbrev N : Tables
  N = j.tables

  abbrev type_in : Value → Option ℕ
  type_in = value_type S M.algebra.nulls

  -- where one more value is put that is right, all are right
  spelled-set : (old new : Found) (label : ℕ) (v : Value) → new ≡ slice_set old label (Some v) → AreSpelled i j B old → IsSpelled i j B label v → AreSpelled i j B new
  spelled-set old new label v same all one m w h = elim (from-set old label m (Some v) (Some w) (ap (λ (found : Found). slice_get found m) (sym same) ∙ h)) [
    | inl e ↦ let both : v ≡ w = same_some e.1 in subst (λ (n : ℕ). IsSpelled i j B n w) e.0 (subst (IsSpelled i j B label) both one)
    | inr e ↦ all m w e
  ]
    where
      same_some : {v w : Value} → Some v ≡ Some w → v ≡ w
      same_some h = cc

  pub spelled-standing : (n label : ℕ) (v : Value) → IsStandingOf i n v → v ≡ Null label → IsSpelled i j B label (value_in (slice_index_or B n (AtRow 0)))
  spelled-standing n label v h is = record {
    name = term.Gen n;
    type = h.0;
    typed = h.1;
    here = sym h.2 ∙ is;
    there = fold-Gen Value (value_step N B) n;
  }

  pub spelled-cell : IsInitial i → (a row image label : ℕ) (v : Value) → IsCellOf i j B a row image v → v ≡ Null label → IsSpelled i j B label (cell_at N a image)
  spelled-cell initial a row image label v h is =
      let t : EntTerm = name_at i.names h.edge.from row in
      let least = initial.1 h.edge.from row h.within in
      record {
        name = term.Att a t;
        type = h.edge.to;
        typed = fold-Att (Option ℕ) (type_step S G) a t ∙ ap (option_and_then (followed (slice_get S.attributes a))) least.of_entity
            ∙ ap (λ o. followed o h.edge.from) h.attribute ∙ ap (λ (b : Bool). if b then Some h.edge.to else None) (eq-eqb h.edge.from h.edge.from refl);
        here = fold-Att Value (value_step M A) a t ∙ ap (cell_at M a) least.of_row ∙ sym h.cell ∙ is;
        there = fold-Att Value (value_step N B) a t ∙ ap (cell_at N a) (sym h.goes);
      }

  module _ (initial : IsInitial i) (found : Found) (all : AreSpelled i j B found) where
    -- a constant, or a null whose value was found, is what a term means, and so is its image
    abbrev IsNamed : Value → Type 0
    IsNamed v = (type : ℕ) → type_in v ≡ Some type → is_open found v ≡ false
        → (t : TypeTerm) × (type_of S G t ≡ Some type) × (value_of M A t ≡ v) × (value_of N B t ≡ plain_image found v)

    named : (v : Value) → IsNamed v
    named (Const c) type h known = (
      term.Const c,
      fold-Const (Option ℕ) (type_step S G) c ∙ sym (values.fold-Const (Option ℕ) (value_type_step S M.algebra.nulls) c) ∙ h,
      fold-Const Value (value_step M A) c,
      fold-Const Value (value_step N B) c,
    )
    named (Null n) type h known = at_place (value_at found n) refl known
      where
        at_place : (o : Option Value) → value_at found n ≡ o → is_none o ≡ false
            → (t : TypeTerm) × (type_of S G t ≡ Some type) × (value_of M A t ≡ Null n) × (value_of N B t ≡ value_or_first (value_at found n))
        at_place None is e = cc
        at_place (Some w) is e =
            let s = all n w (found_at found n w is) in
            let typed : Some s.type ≡ Some type = sym (value_typed S i.presentation M A initial.0.holds s.name s.type s.typed) ∙ ap type_in s.here ∙ h in
            (s.name, s.typed ∙ typed, s.here, s.there ∙ ap value_or_first (sym is))
    named _ type h known = cc

    all_named : (vs : List Value) (types : List ℕ) → have_types (map type_in vs) types ≡ true → list_any (is_open found) vs ≡ false
        → (ts : List TypeTerm) × (have_types (map (type_of S G) ts) types ≡ true) × (map (value_of M A) ts ≡ vs) × (map (value_of N B) ts ≡ map (plain_image found) vs)
    all_named [] [] h known = ([], refl, refl, refl)
    all_named [] (type ∷ types) h known = cc
    all_named (v ∷ vs) [] h known = cc
    all_named (v ∷ vs) (type ∷ types) h known =
        let parts = both (is_type (type_in v) type) (have_types (map type_in vs) types) h in
        let knowns = neither (is_open found v) (list_any (is_open found) vs) known in
        let before : type_in v ≡ Some type = is_type_some (type_in v) type parts.0 in
        let one = named v type before knowns.0 in
        let rest = all_named vs types parts.1 knowns.1 in
        let first : is_type (type_of S G one.0) type ≡ true = ap (λ o. is_type o type) (one.1 ∙ sym before) ∙ parts.0 in (
          one.0 ∷ rest.0,
          ap (λ b. b && have_types (map (type_of S G) rest.0) types) first ∙ rest.1,
          (λ k. one.2 k ∷ rest.2 k),
          (λ k. one.3 k ∷ rest.3 k),
        )

    pub spelled-entry : (entry : Entry) → IsEntryOf i entry → list_any (is_open found) entry.args ≡ false → (label : ℕ) → entry.value ≡ Null label
        → IsSpelled i j B label (applied N entry.function (map (plain_image found) entry.args))
    spelled-entry entry stands known label is =
        let sound : IsSoundEntry S M entry = All_at (IsSoundEntry S M) M.algebra.entries stands.0 entry initial.0.holds.well_formed.entries stands.1 in
        let whole = applied_type_some (slice_get S.typeside.functions entry.function) (map type_in entry.args) sound.function.result
        (sym (values.fold-Fun (Option ℕ) (value_type_step S M.algebra.nulls) entry.function entry.args) ∙ sound.typed) in
        let args = all_named entry.args whole.0.args whole.2 known in
        record {
          name = term.Fun entry.function args.0;
          type = sound.function.result;
          typed = fold-Fun (Option ℕ) (type_step S G) entry.function args.0 ∙ ap (λ o. applied_type o (map (type_of S G) args.0)) whole.1
              ∙ ap (λ (b : Bool). if b then Some whole.0.result else None) args.1 ∙ ap (λ m. Some m) whole.3;
          here = fold-Fun Value (value_step M A) entry.function args.0 ∙ ap (applied M entry.function) args.2
              ∙ applied-entry S M initial.0.holds.well_formed stands.0 entry stands.1 ∙ is;
          there = fold-Fun Value (value_step N B) entry.function args.0 ∙ ap (applied N entry.function) args.3;
        }

pub keeps-itself : (old new : Found) → new ≡ old → Keeps old new
keeps-itself old new same = record { count = ap length same; kept = λ label v h. ap (λ (found : Found). slice_get found label) same ∙ h }

pub keeps-then : (a b c : Found) → Keeps a b → Keeps b c → Keeps a c
keeps-then a b c h k = record { count = k.count ∙ h.count; kept = λ label v s. k.kept label v (h.kept label v s) }

pub closed-kept : (old new : Found) → Keeps old new → (v : Value) → IsClosed old v → IsClosed new v
closed-kept old new keeps v closed = λ label within is.
    let w = closed label (omega (arith, within, keeps.count)) is in
    (w.0, keeps.kept label w.0 w.1)

-- a value is put for a null that has none
module _ (old slice new : Found) (v w : Value) (label : ℕ) (read : slice ≡ old) (open_at : IsOpenAt slice v label) (changed : new ≡ slice_set old label (Some w)) where
  open_before : slice_get old label ≡ Some None
  open_before = ap (λ (found : Found). slice_get found label) (sym read) ∙ open_at.1

  pub put_keeps : Keeps old new
  put_keeps = record {
    count = ap length changed ∙ size-set old label (Some w);
    kept = λ m x h. ap (λ (found : Found). slice_get found m) changed ∙ kept-set old label m w x open_before h;
  }

  pub put_closed : IsClosed new v
  put_closed = λ m within is.
      let same : label ≡ m = one_label label m (sym open_at.0 ∙ is) in (
        w,
        ap (λ (found : Found). slice_get found m) changed
            ∙ subst (λ (n : ℕ). slice_get (slice_set old label (Some w)) n ≡ Some (Some w)) same (get-set old label None (Some w) open_before),
      )

  pub put_fewer : count_open new < count_open old
  put_fewer = subst (λ (found : Found). count_open found < count_open old) (sym changed) (fewer-set old label w open_before)

  module _ (i j : InstanceData) (B : Assignment) where
    pub put_standing : (n : ℕ) → w ≡ value_in (slice_index_or B n (AtRow 0)) → IsStandingOf i n v → AreSpelled i j B old → AreSpelled i j B new
    put_standing n is h all =
        spelled-set i j B old new label w changed all (subst (IsSpelled i j B label) (sym is) (spelled-standing i j B n label v h open_at.0))

    pub put_cell : (a row image : ℕ) → w ≡ cell_at j.tables a image → IsInitial i → IsCellOf i j B a row image v → AreSpelled i j B old → AreSpelled i j B new
    put_cell a row image is initial h all =
        spelled-set i j B old new label w changed all (subst (IsSpelled i j B label) (sym is) (spelled-cell i j B initial a row image label v h open_at.0))

    pub put_entry : (there : List Entry) (entry : Entry) (args : List Value) → v ≡ entry.value → args ≡ map (plain_image old) entry.args
        → w ≡ entry_or_built (find (is_for entry.function args) there) entry.function args → list_any (is_open old) entry.args ≡ false
        → IsInitial i → IsEntryOf i entry → j.tables.algebra.entries ≡ there → AreSpelled i j B old → AreSpelled i j B new
    put_entry there entry args value images is known initial stands same all =
        let read_there : w ≡ applied j.tables entry.function (map (plain_image old) entry.args) =
        is ∙ (λ k. entry_or_built (find (is_for entry.function (images k)) (sym same k)) entry.function (images k)) in
        spelled-set i j B old new label w changed all
        (subst (IsSpelled i j B label) (sym read_there) (spelled-entry i j B initial old all entry stands known label (sym value ∙ open_at.0)))

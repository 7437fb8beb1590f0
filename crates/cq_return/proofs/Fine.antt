-- The nodes of canonical presentations: they have plain values, labels of nulls, and the entries.
use Rattle.std.proofs.Common.{ℕ, zero, suc, Bool, true, false, List, [], ◌∷◌, ◌++◌, Option, Some, None, ◌≡◌, ◌<◌, ◌+◌, ◌||◌, ◌&&◌, map, length, refl, sym, ap, subst, ◌∙◌, arith}
use Rattle.std.specs.Prelude.{All, find, nat_eq, slice_get}
use Rattle.std.specs.List.{cons_option, filter_map, flat_map, range_with_len}
use Rattle.std.proofs.lemmas.Bool.{and_parts, eq-eqb}
use Rattle.std.proofs.lemmas.List.Elements.{All-head, All-tail}
use Rattle.std.proofs.lemmas.Option.{slice_get_within}
use Rattle.cq_theory.specs.declared.constant.Con.{Con}
use Rattle.cq_theory.specs.declared.presentation.Presentation.{Presentation}
use Rattle.cq_theory.specs.declared.term.EntTerm.{EntTerm}
use Rattle.cq_theory.specs.declared.term.TypeTerm.{TypeTerm}
use Rattle.cq_theory.specs.declared.term.TypeTerm.TheVariants as term
use Rattle.cq_theory.specs.declared.term.TypeTerm.TheOpen as layer
use Rattle.cq_theory.specs.declared.term.TypeTerm.TheViews.{out-TypeTerm, out-roll-TypeTerm}
use Rattle.cq_theory.specs.declared.value.Entry.{Entry}
use Rattle.cq_theory.specs.declared.value.Value.{Value}
use Rattle.cq_theory.specs.declared.value.Value.TheVariants.{Const, Null}
use Rattle.cq_theory.specs.Canonical.{below, canonical, canonical_assignment, null_generator, value_term, value_term_step}
use Rattle.cq_theory.specs.Constant.{con_equal}
use Rattle.cq_theory.specs.Listed.{node_entry, null_label, subterms}
use Rattle.cq_theory.specs.Schema.{IsSchema}
use Rattle.cq_theory.specs.SchemaData.{SchemaData as Schema}
use Rattle.cq_theory.specs.Sorts.{have_types, is_type}
use Rattle.cq_theory.specs.Tables.{Assignment, IsPlain, IsSoundEntry, IsWellFormed, Tables, all_same_plain, applied, entry_or_built, is_for, same_plain, value_in, value_of, value_step, value_type, value_type_step}
use Rattle.cq_theory.proofs.Every.{Every, Every-append}
use Rattle.cq_theory.proofs.OnValues.{All_at, applied-entry, entry_for, found_passes}
use Rattle.cq_theory.proofs.OneModel.{out-Fun, out-Gen}
use Rattle.cq_theory.proofs.Sound.{applied_type_some, is_type_some}
use Rattle.cq_theory.proofs.TypeTerms.{fold-Gen, fold-Const, fold-Fun, on_terms}
use Rattle.cq_theory.proofs.Values as values
use Rattle.cq_instance.proofs.CanonicalGenerators as generators
use Rattle.cq_instance.proofs.CanonicalTerms as terms
use Rattle.cq_return.proofs.Alike.{subterms-Att, subterms-Const, subterms-Fun, subterms-Gen}
use Rattle.cq_return.proofs.Firsts.{among}

out-Const : (c : Con) → out-TypeTerm (term.Const c) ≡ layer.Const c
out-Const c = ap out-TypeTerm (sym (term.rolls-Const c)) ∙ out-roll-TypeTerm (layer.Const c)

out-Att : (a : ℕ) (t : EntTerm) → out-TypeTerm (term.Att a t) ≡ layer.Att a t
out-Att a t = ap out-TypeTerm (sym (term.rolls-Att a t)) ∙ out-roll-TypeTerm (layer.Att a t)

pub found-append : {X Y : Type 0} (f : X → Option Y) (xs ys : List X) → filter_map f (xs ++ ys) ≡ filter_map f xs ++ filter_map f ys
found-append f [] ys = refl
found-append f (x ∷ xs) ys = at (f x) (found-append f xs ys)
  where
    at : (o : Option _) → filter_map f (xs ++ ys) ≡ filter_map f xs ++ filter_map f ys → cons_option o (filter_map f (xs ++ ys)) ≡ cons_option o (filter_map f xs) ++ filter_map f ys
    at None next = next
    at (Some y) next = ap (λ l. y ∷ l) next

among_below : (s k n : ℕ) → n < k → among nat_eq (range_with_len s k) (s + n) ≡ true
among_below s zero n h = absurd (omega arith)
among_below s (suc k) zero h = ap (λ b. b || among nat_eq (range_with_len (s + 1) k) (s + 0)) (let here : s ≡ s + 0 = omega arith in eq-eqb s (s + 0) here)
among_below s (suc k) (suc n) h =
    let there : s + suc n ≡ s + 1 + n = omega arith in
    ap (λ m. nat_eq s m || among nat_eq (range_with_len (s + 1) k) m) there ∙ ap (λ b. nat_eq s (s + 1 + n) || b) (among_below (s + 1) k n (omega arith)) ∙ or_true (nat_eq s (s + 1 + n))
  where
    or_true : (b : Bool) → (b || true) ≡ true
    or_true true = refl
    or_true false = refl

-- entries for one function at equal arguments
abbrev pub same_entry : Entry → Entry → Bool
same_entry e = is_for e.function e.args

plain_itself : (v : Value) → IsPlain v → same_plain v v ≡ true
plain_itself (Const c) h = con_equal.refl c
plain_itself (Null n) h = eq-eqb n n refl
plain_itself _ h = absurd h

all_plain_itself : (vs : List Value) → All IsPlain vs → all_same_plain vs vs ≡ true
all_plain_itself [] h = refl
all_plain_itself (v ∷ vs) h = ap (λ b. b && all_same_plain vs vs) (plain_itself v (All-head IsPlain v vs h)) ∙ all_plain_itself vs (All-tail IsPlain v vs h)

module _ (S : Schema) (M : Tables) (schema : IsSchema S) (well : IsWellFormed S M) where
  abbrev B : Assignment
  B = canonical_assignment S M

  abbrev C : Presentation
  C = canonical S M

  abbrev nulls : List ℕ
  nulls = M.algebra.nulls

  abbrev pub IsLabel : ℕ → Type 0
  IsLabel l = among nat_eq (below (length M.algebra.nulls)) l ≡ true

  -- the label of a node's null
  abbrev pub label_at : TypeTerm → Option ℕ
  label_at t = null_label (value_of M (canonical_assignment S M) t)

  abbrev pub entry_at : TypeTerm → Option Entry
  entry_at = node_entry S (canonical S M) M (canonical_assignment S M)

  abbrev pub HasPlain : TypeTerm → Type 0
  HasPlain t = IsPlain (value_of M (canonical_assignment S M) t)

  -- the nodes have plain values, labels of nulls and just these entries
  pub record AreFine (es : List Entry) (ts : List TypeTerm) : Type 0 where
    pub plain : Every HasPlain ts
    pub labels : Every IsLabel (filter_map label_at ts)
    pub entries : filter_map entry_at ts ≡ es

  pub none_fine : AreFine [] []
  none_fine = record { plain = tt; labels = tt; entries = refl }

  pub fine-append : (es fs : List Entry) (ts us : List TypeTerm) → AreFine es ts → AreFine fs us → AreFine (es ++ fs) (ts ++ us)
  fine-append es fs ts us one more = record {
    plain = Every-append HasPlain ts us one.plain more.plain;
    labels = subst (Every IsLabel) (sym (found-append label_at ts us)) (Every-append IsLabel (filter_map label_at ts) (filter_map label_at us) one.labels more.labels);
    entries = found-append entry_at ts us ∙ (λ j. one.entries j ++ more.entries j);
  }

  pub fine_over : {X : Type 0} (f : X → List TypeTerm) (xs : List X) → Every (λ x. AreFine [] (f x)) xs → AreFine [] (flat_map f xs)
  fine_over f [] each = none_fine
  fine_over f (x ∷ xs) each = fine-append [] [] (f x) (flat_map f xs) each.0 (fine_over f xs each.1)

  label_of_value : (v : Value) (type : ℕ) → value_type S M.algebra.nulls v ≡ Some type → (o : Option ℕ) → null_label v ≡ o → IsPlain v → Every IsLabel (cons_option o [])
  label_of_value (Const c) type typed None is plain = tt
  label_of_value (Const c) type typed (Some l) is plain = cc
  label_of_value (Null n) type typed None is plain = tt
  label_of_value (Null n) type typed (Some l) is plain =
      let same : n ≡ l = cc in
      let none : 0 + n ≡ n = omega arith in
      let within = slice_get_within nulls n type (sym (values.fold-Null (Option ℕ) (value_type_step S nulls) n) ∙ typed) in
      (ap (among nat_eq (below (length nulls))) (sym same ∙ sym none) ∙ among_below 0 (length nulls) n within, tt)
  label_of_value _ type typed o is plain = absurd plain

  -- one node with the value of this type
  node_fine : (t : TypeTerm) (v : Value) (type : ℕ) (es : List Entry) → value_of M (canonical_assignment S M) t ≡ v → IsPlain v → value_type S M.algebra.nulls v ≡ Some type
      → cons_option (node_entry S (canonical S M) M (canonical_assignment S M) t) [] ≡ es → AreFine es (t ∷ [])
  node_fine t v type es is plain typed entry = record {
    plain = (subst IsPlain (sym is) plain, tt);
    labels = subst (λ w. Every IsLabel (cons_option (null_label w) [])) (sym is) (label_of_value v type typed (null_label v) refl plain);
    entries = entry;
  }

  abbrev entry_by : TypeTerm → layer.TypeTerm-F TypeTerm → Option Entry
  entry_by t x = elim x [
    | layer.Gen n ↦ None
    | layer.Const c ↦ None
    | layer.Att a u ↦ None
    | layer.Fun f args ↦ Some (record { function = f; args = map (value_of M B) args; value = value_of M B t })
  ]

  pub entry_of_Gen : (n : ℕ) → node_entry S (canonical S M) M (canonical_assignment S M) (term.Gen n) ≡ None
  entry_of_Gen n = ap (entry_by (term.Gen n)) (out-Gen n)

  entry_of_Const : (c : Con) → node_entry S (canonical S M) M (canonical_assignment S M) (term.Const c) ≡ None
  entry_of_Const c = ap (entry_by (term.Const c)) (out-Const c)

  pub entry_of_Att : (a : ℕ) (t : EntTerm) → node_entry S (canonical S M) M (canonical_assignment S M) (term.Att a t) ≡ None
  entry_of_Att a t = ap (entry_by (term.Att a t)) (out-Att a t)

  entry_of_Fun : (f : ℕ) (ts : List TypeTerm) → node_entry S (canonical S M) M (canonical_assignment S M) (term.Fun f ts)
      ≡ Some (record { function = f; args = map (value_of M (canonical_assignment S M)) ts; value = value_of M (canonical_assignment S M) (term.Fun f ts) })
  entry_of_Fun f ts = ap (entry_by (term.Fun f ts)) (out-Fun f ts)

  -- an attribute's node, and the term of a plain value
  pub attribute_fine : (a : ℕ) (t : EntTerm) (v : Value) (type : ℕ) → value_of M (canonical_assignment S M) (term.Att a t) ≡ v → IsPlain v → value_type S M.algebra.nulls v ≡ Some type
      → AreFine [] (subterms (term.Att a t))
  attribute_fine a t v type is plain typed =
      subst (AreFine []) (sym (subterms-Att a t)) (node_fine (term.Att a t) v type [] is plain typed (ap (λ o. cons_option o []) (entry_of_Att a t)))

  pub value_fine : (v : Value) (type : ℕ) → IsPlain v → value_type S M.algebra.nulls v ≡ Some type → AreFine [] (subterms (value_term S M v))
  value_fine (Const c) type plain typed =
      subst (λ t. AreFine [] (subterms t)) (sym (values.fold-Const TypeTerm (value_term_step S M) c))
      (subst (AreFine []) (sym (subterms-Const c))
      (node_fine (term.Const c) (Const c) type [] (fold-Const Value (value_step M B) c) tt typed (ap (λ o. cons_option o []) (entry_of_Const c))))
  value_fine (Null n) type plain typed =
      let within = slice_get_within nulls n type (sym (values.fold-Null (Option ℕ) (value_type_step S nulls) n) ∙ typed) in
      subst (λ t. AreFine [] (subterms t)) (sym (values.fold-Null TypeTerm (value_term_step S M) n))
      (subst (AreFine []) (sym (subterms-Gen (null_generator S M n)))
      (node_fine (term.Gen (null_generator S M n)) (Null n) type [] (fold-Gen Value (value_step M B) (null_generator S M n) ∙ ap value_in (generators.null_stands S M well.entities n within)) tt typed
      (ap (λ o. cons_option o []) (entry_of_Gen (null_generator S M n)))))
  value_fine _ type plain typed = absurd plain

  args_fine : (vs : List Value) (types : List ℕ) → All IsPlain vs → have_types (map (value_type S M.algebra.nulls) vs) types ≡ true → AreFine [] (flat_map subterms (map (value_term S M) vs))
  args_fine [] types plain typed = none_fine
  args_fine (v ∷ vs) [] plain typed = cc
  args_fine (v ∷ vs) (type ∷ types) plain typed =
      let parts = and_parts (is_type (value_type S nulls v) type) (have_types (map (value_type S nulls) vs) types) typed in
      fine-append [] [] (subterms (value_term S M v)) (flat_map subterms (map (value_term S M) vs)) (value_fine v type (All-head IsPlain v vs plain) (is_type_some _ _ parts.0))
      (args_fine vs types (All-tail IsPlain v vs plain) parts.1)

  -- the nodes of an entry's equation
  pub entry_fine : (n : ℕ) (e : Entry) → slice_get M.algebra.entries n ≡ Some e
      → AreFine (e ∷ []) (subterms (term.Fun e.function (map (value_term S M) e.args)) ++ subterms (value_term S M e.value))
  entry_fine n e at =
      let sound = All_at (IsSoundEntry S M) M.algebra.entries n e well.entries at in
      let parts = applied_type_some (slice_get S.typeside.functions e.function) (map (value_type S nulls) e.args) sound.function.result
      (sym (values.fold-Fun (Option ℕ) (value_type_step S nulls) e.function e.args) ∙ sound.typed) in
      let args : map (value_of M B) (map (value_term S M) e.args) ≡ e.args =
      terms.value_terms_value S M well.entities e.function sound.function.result e.args sound.typed ∙ terms.all_plain_normal M e.args sound.plain.0 in
      let node = term.Fun e.function (map (value_term S M) e.args) in
      let value : value_of M B node ≡ e.value = fold-Fun Value (value_step M B) e.function (map (value_term S M) e.args) ∙ ap (applied M e.function) args ∙ applied-entry S M well n e at in
      let is : cons_option (node_entry S C M B node) [] ≡ e ∷ [] =
      ap (λ o. cons_option o []) (entry_of_Fun e.function (map (value_term S M) e.args)) ∙ (λ j. record { function = e.function; args = args j; value = value j } ∷ []) in
      fine-append (e ∷ []) [] (subterms node) (subterms (value_term S M e.value))
      (subst (AreFine (e ∷ [])) (sym (subterms-Fun e.function (map (value_term S M) e.args)))
      (fine-append [] (e ∷ []) (flat_map subterms (map (value_term S M) e.args)) (node ∷ []) (args_fine e.args parts.0.args sound.plain.0 parts.2)
      (node_fine node e.value sound.function.result (e ∷ []) value sound.plain.1 sound.same_type is)))
      (value_fine e.value sound.function.result sound.plain.1 sound.same_type)

  -- The entry of a node with a plain value is among the entries.
  member_among : (es : List Entry) (n : ℕ) (e : Entry) (o : Entry) → slice_get es n ≡ Some e → same_entry e o ≡ true → among same_entry es o ≡ true
  member_among [] n e o at same = cc
  member_among (x ∷ es) zero e o at same = let is : x ≡ e = cc in ap (λ y. same_entry y o || among same_entry es o) is ∙ ap (λ b. b || among same_entry es o) same
  member_among (x ∷ es) (suc n) e o at same = ap (λ b. same_entry x o || b) (member_among es n e o at same) ∙ or_true (same_entry x o)
    where
      or_true : (b : Bool) → (b || true) ≡ true
      or_true true = refl
      or_true false = refl

  found_among : (f : ℕ) (args : List Value) (value : Value) (o : Option Entry) → find (is_for f args) M.algebra.entries ≡ o → IsPlain (entry_or_built o f args)
      → among same_entry M.algebra.entries (record { function = f; args = args; value = value }) ≡ true
  found_among f args value None is plain = absurd plain
  found_among f args value (Some e) is plain =
      let found = found_passes (is_for f args) M.algebra.entries e is in
      let for_it = entry_for f args e found.2 in
      let sound = All_at (IsSoundEntry S M) M.algebra.entries found.0 e well.entries found.1 in
      let same : same_entry e (record { function = f; args = args; value = value }) ≡ true =
      ap (λ b. b && all_same_plain e.args args) (eq-eqb f e.function (sym for_it.0)) ∙ ap (all_same_plain e.args) for_it.1 ∙ all_plain_itself e.args sound.plain.0 in
      member_among M.algebra.entries found.0 e (record { function = f; args = args; value = value }) found.1 same

  pub entry_among : (t : TypeTerm) → HasPlain t → (o : Entry) → node_entry S (canonical S M) M (canonical_assignment S M) t ≡ Some o → among same_entry M.algebra.entries o ≡ true
  entry_among = on_terms (λ t. HasPlain t → (o : Entry) → node_entry S C M B t ≡ Some o → among same_entry M.algebra.entries o ≡ true)
      (λ n plain o is. let none = entry_of_Gen n in cc (sym none ∙ is))
      (λ c plain o is. let none = entry_of_Const c in cc (sym none ∙ is))
      (λ a t plain o is. let none = entry_of_Att a t in cc (sym none ∙ is))
      (λ f ts each plain o is.
      let args = map (value_of M B) ts in
      let value = fold-Fun Value (value_step M B) f ts in
      let both = sym (entry_of_Fun f ts) ∙ is in
      let mine : Entry = record { function = f; args = map (value_of M B) ts; value = value_of M B (term.Fun f ts) } in
      let same : mine ≡ o = cc in
      subst (λ x. among same_entry M.algebra.entries x ≡ true) same
      (found_among f args (value_of M B (term.Fun f ts)) (find (is_for f args) M.algebra.entries) refl (subst IsPlain value plain)))

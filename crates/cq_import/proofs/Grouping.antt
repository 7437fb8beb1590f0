-- Lists of the columns of each entity, as edges are added.
use Rattle.std.proofs.Common.{ℕ, List, [], ◌∷◌, ◌++◌, ◌+◌, ◌≡◌, ◌<◌, inl, inr, length, map, take, set, get_or, ap, sym, ◌∙◌, append_assoc, arith, zero-add, cond}
use Rattle.std.specs.List.{enumerate_from}
use Rattle.std.specs.Prelude.{filter, ◌==◌, ◌≢◌, Bool}
use Rattle.std.specs.declared.alloc.Global.{Global}
use Rattle.std.specs.declared.vec.Vec.{Vec}
use Rattle.std.proofs.lemmas.Bool.{cases_eq, eq-eqb, ne_eqb}
use Rattle.std.proofs.lemmas.List.{append-nil, map-append, take_more, length-take-le, length-set, length_push, get_or-set_same, get_or-set_other, get_or_append_left, get_or_push}
use Rattle.std.proofs.lemmas.List.Elements.{filter-append}
use Rattle.cq_theory.specs.Canonical.{edges_from}
use Rattle.cq_theory.specs.declared.schema.Edge.{Edge}
use Rattle.cq_import.specs.declared.columns.Column.{Column}
use Rattle.cq_import.specs.Columns.{IsGrouped}

pub enumerate_from-append : {X : Type 0} (n : ℕ) (xs ys : List X) → enumerate_from n (xs ++ ys) ≡ enumerate_from n xs ++ enumerate_from (n + length xs) ys
enumerate_from-append n [] ys = ap (λ m. enumerate_from m ys) (omega arith)
enumerate_from-append n (x ∷ xs) ys =
    let same : n + 1 + length xs ≡ n + length (x ∷ xs) = omega arith in
    ap (λ l. (n, x) ∷ l) (enumerate_from-append (n + 1) xs ys ∙ ap (λ m. enumerate_from (n + 1) xs ++ enumerate_from m ys) same)

module _ (f : ℕ × Edge → Column) (entity : ℕ) (edges : List Edge) (i : ℕ) (d : Edge) (within : i < length edges) where
  abbrev last : ℕ × Edge
  last = (0 + length (take i edges), get_or edges i d)

  split : map f (edges_from entity (take (i + 1) edges)) ≡ map f (edges_from entity (take i edges)) ++ map f (filter (λ p. p.1.from == entity) (last ∷ []))
  split =
      let test : ℕ × Edge → Bool = λ p. p.1.from == entity in
      let front = enumerate_from 0 (take i edges) in
      ap (λ l. map f (edges_from entity l)) (take_more edges i d within)
      ∙ ap (λ l. map f (filter test l)) (enumerate_from-append 0 (take i edges) (get_or edges i d ∷ []))
      ∙ ap (map f) (filter-append test front (last ∷ []))
      ∙ map-append f (filter test front) (filter test (last ∷ []))

  -- one more edge from the entity
  more : (get_or edges i d).from ≡ entity → map f (edges_from entity (take (i + 1) edges)) ≡ map f (edges_from entity (take i edges)) ++ f (i, get_or edges i d) ∷ []
  more is =
      let number : last.0 ≡ i = zero-add _ ∙ length-take-le i edges (omega arith) in
      split
      ∙ ap (λ b. map f (edges_from entity (take i edges)) ++ map f (cond b (last ∷ []) [])) (eq-eqb _ _ is)
      ∙ ap (λ n. map f (edges_from entity (take i edges)) ++ f (n, get_or edges i d) ∷ []) number

  -- one more edge from another entity
  none : (get_or edges i d).from ≢ entity → map f (edges_from entity (take (i + 1) edges)) ≡ map f (edges_from entity (take i edges))
  none other =
      split
      ∙ ap (λ b. map f (edges_from entity (take i edges)) ++ map f (cond b (last ∷ []) [])) (ne_eqb _ _ other)
      ∙ append-nil (map f (edges_from entity (take i edges)))

module _ (before : ℕ → List Column) (f : ℕ × Edge → Column) where
  -- one more empty list, where there are no edges
  pub IsGrouped-push : (count : ℕ) (lists : List (Vec Column Global)) (list : Vec Column Global) → IsGrouped before f [] count lists → list.items ≡ before count
      → IsGrouped before f [] (count + 1) (lists ++ list ∷ [])
  IsGrouped-push count lists list grouped empty = record {
    size = length_push lists list ∙ ap (λ n. n + 1) grouped.size;
    group = λ entity d below. elim (cases_eq entity count) [
      | inl same ↦
          let whole : length lists ≡ entity = grouped.size ∙ sym same in
          ap (λ (v : Vec Column Global). v.items) (get_or_push lists list d entity whole) ∙ empty ∙ ap before (sym same) ∙ sym (append-nil (before entity))
      | inr other ↦
          let size : length lists ≡ count = grouped.size in
          let inside : entity < length lists = omega arith in
          ap (λ (v : Vec Column Global). v.items) (get_or_append_left lists (list ∷ []) d entity inside) ∙ grouped.group entity d (omega arith)
    ];
  }

  -- one more edge, whose column is added to the list of its source
  pub IsGrouped-more : (edges : List Edge) (count i : ℕ) (lists : List (Vec Column Global)) (edge : Edge) (old list : Vec Column Global)
      → i < length edges → edge ≡ get_or edges i edge → edge.from < count
      → IsGrouped before f (take i edges) count lists → old ≡ get_or lists edge.from old → list.items ≡ old.items ++ f (i, edge) ∷ []
      → IsGrouped before f (take (i + 1) edges) count (set lists edge.from list)
  IsGrouped-more edges count i lists edge old list within is source grouped read added = record {
    size = length-set lists edge.from list ∙ grouped.size;
    group = λ entity d below. elim (cases_eq entity edge.from) [
      | inl same ↦
          let size : length lists ≡ count = grouped.size in
          let inside : edge.from < length lists = omega arith in
          ap (λ e. (get_or (set lists edge.from list) e d).items) same
          ∙ ap (λ (v : Vec Column Global). v.items) (get_or-set_same lists edge.from list d inside)
          ∙ added
          ∙ ap (λ l. l ++ f (i, edge) ∷ []) (ap (λ (v : Vec Column Global). v.items) read ∙ grouped.group edge.from old source)
          ∙ append_assoc (before edge.from) (map f (edges_from edge.from (take i edges))) (f (i, edge) ∷ [])
          ∙ ap (λ l. before edge.from ++ l) (ap (λ (e : Edge). map f (edges_from edge.from (take i edges)) ++ f (i, e) ∷ []) is ∙ sym (more f edge.from edges i edge within (ap (λ (e : Edge). e.from) (sym is))))
          ∙ ap (λ e. before e ++ map f (edges_from e (take (i + 1) edges))) (sym same)
      | inr other ↦
          ap (λ (v : Vec Column Global). v.items) (get_or-set_other lists edge.from entity list d other)
          ∙ grouped.group entity d below
          ∙ ap (λ l. before entity ++ l) (sym (none f entity edges i edge within (λ e. other (sym (ap (λ (x : Edge). x.from) is ∙ e)))))
    ];
  }

-- the lists of the attributes are those to which the foreign keys are added
pub IsGrouped-next : (f g : ℕ × Edge → Column) (edges : List Edge) (count : ℕ) (lists : List (Vec Column Global)) → IsGrouped (λ _. []) f edges count lists
    → IsGrouped (λ entity. map f (edges_from entity edges)) g [] count lists
IsGrouped-next f g edges count lists grouped = record {
  size = grouped.size;
  group = λ entity d below. grouped.group entity d below ∙ sym (append-nil (map f (edges_from entity edges)));
}

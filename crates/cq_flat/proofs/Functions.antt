-- The functions among nodes.
use Rattle.std.proofs.Common.{◌≡◌, ℕ, ◌+◌, ◌<◌, List, [], ◌∷◌, ◌++◌, Some, arith, ◌⊎◌, inl, inr, ⊎_elim}
use Rattle.std.proofs.lemmas.Bool.{cases_lt}
use Rattle.std.specs.Prelude.{slice_get}
use Rattle.cq_flat.specs.declared.node.Node.{Node}
use Rattle.cq_flat.specs.declared.node.Node.TheVariants.{Fun}
use Rattle.cq_flat.specs.Partition.{Has}
use Rattle.cq_flat.specs.Closing.{AddsFunctions}
use Rattle.cq_flat.proofs.Members.{has_left, has_last, has_push}

module _ (nodes : List Node) (old : List ℕ) where
  pub functions_none : AddsFunctions nodes 0 old old
  functions_none = record { kept = λ a h. h; added = λ a f args l is. absurd (omega (arith, l)); fewer = λ a h. inl h }

  module _ (n : ℕ) (new : List ℕ) (m : AddsFunctions nodes n old new) where
    pub functions_plain : ((f : ℕ) (args : List ℕ) → slice_get nodes n ≡ Some (Fun f args) → ⊥) → AddsFunctions nodes (n + 1) old new
    functions_plain plain = record {
      kept = m.kept;
      added = λ a f args l is. elim (cases_lt a n) as (λ _. Has new a) [
        | inl b ↦ m.added a f args b is
        | inr g ↦ let e : a ≡ n = omega (arith, g, l) in absurd (plain f args (rw e at is))
      ];
      fewer = λ a h. ⊎_elim inl (λ l. inr (omega (arith, l))) (m.fewer a h);
    }

    pub functions_more : AddsFunctions nodes (n + 1) old (new ++ n ∷ [])
    functions_more = record {
      kept = λ a h. has_left new (n ∷ []) a (m.kept a h);
      added = λ a f args l is. elim (cases_lt a n) as (λ _. Has (new ++ n ∷ []) a) [
        | inl b ↦ has_left new (n ∷ []) a (m.added a f args b is)
        | inr g ↦ let e : a ≡ n = omega (arith, g, l) in rw e (has_last new n)
      ];
      fewer = λ a h. ⊎_elim (λ o. ⊎_elim inl (λ l. inr (omega (arith, l))) (m.fewer a o)) (λ e. inr (omega (arith, e))) (has_push new n a h);
    }

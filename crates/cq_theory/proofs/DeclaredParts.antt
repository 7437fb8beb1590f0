-- What parts without faults say of their names and of each part.
use Rattle.std.proofs.Common.{ℕ, List, [], ◌∷◌, ◌++◌, ◌+◌, ◌<◌, ◌||◌, Option, Some, None, ◌≡◌, map, take, length, get_or, refl, sym, ap, subst, ◌∙◌, append_assoc}
use Rattle.std.specs.Prelude.{is_some, All, cond}
use Rattle.std.proofs.lemmas.List.{append-nil, take_more, map-append}
use Rattle.std.proofs.lemmas.List.Elements.{All-nil, All-cons}
use Rattle.cq_base.specs.declared.name.Name.{Name}
use Rattle.cq_base.specs.Names.{same_name, number_of, AreDistinct}
use Rattle.cq_base.proofs.Numbers.{AreDistinct-more, number_of_more}
use Rattle.cq_theory.specs.declared.refusal.TheoryRefusal.{TheoryRefusal}
use Rattle.cq_theory.specs.declared.refusal.TheoryRefusal.TheVariants.{Duplicate}
use Rattle.cq_theory.specs.Resolve.{or_else}
use Rattle.cq_theory.specs.Declaring.{first_part_fault, duplicate_or}
use Rattle.cq_theory.specs.Paths.{is_among}
use Rattle.cq_theory.specs.SchemaParts.{part_names}

pub or_else_none : {X : Type 0} (o p : Option X) → or_else o p ≡ None → (o ≡ None) × (p ≡ None)
or_else_none None p h = (refl, h)
or_else_none (Some x) p h = cc

pub new_name : (earlier : List Name) (n : ℕ) (name : Name) (other : Option TheoryRefusal) → duplicate_or earlier n name other ≡ None → (number_of earlier name ≡ None) × (other ≡ None)
new_name earlier n name other h = at_number (number_of earlier name) h
  where
    at_number : (o : Option ℕ) → cond (is_some o) (Some (Duplicate n)) other ≡ None → (o ≡ None) × (other ≡ None)
    at_number None e = (refl, e)
    at_number (Some m) e = cc

module _ {X : Type 0} (name : X → Name) (fault : List Name → ℕ → X → Option TheoryRefusal) where
  pub first_part_fault-distinct : ((earlier : List Name) (n : ℕ) (x : X) → fault earlier n x ≡ None → number_of earlier (name x) ≡ None)
      → (earlier : List Name) (n : ℕ) (xs : List X) → AreDistinct earlier → first_part_fault name fault earlier n xs ≡ None → AreDistinct (earlier ++ map name xs)
  first_part_fault-distinct new earlier n [] distinct h = subst AreDistinct (sym (append-nil earlier)) distinct
  first_part_fault-distinct new earlier n (x ∷ xs) distinct h =
      let parts = or_else_none (fault earlier n x) (first_part_fault name fault (earlier ++ name x ∷ []) (n + 1) xs) h in
      let more : AreDistinct (earlier ++ name x ∷ []) = AreDistinct-more earlier (name x) distinct (new earlier n x parts.0) in
      subst AreDistinct (append_assoc earlier (name x ∷ []) (map name xs)) (first_part_fault-distinct new (earlier ++ name x ∷ []) (n + 1) xs more parts.1)

  pub first_part_fault-each : (P : X → Type 0) → ((earlier : List Name) (n : ℕ) (x : X) → fault earlier n x ≡ None → P x)
      → (earlier : List Name) (n : ℕ) (xs : List X) → first_part_fault name fault earlier n xs ≡ None → All P xs
  first_part_fault-each P one earlier n [] h = All-nil P
  first_part_fault-each P one earlier n (x ∷ xs) h =
      let parts = or_else_none (fault earlier n x) (first_part_fault name fault (earlier ++ name x ∷ []) (n + 1) xs) h in
      All-cons P x xs (one earlier n x parts.0) (first_part_fault-each P one (earlier ++ name x ∷ []) (n + 1) xs parts.1)

-- the names of the parts before i, and that of part i
pub among_more : (table after : List Name) (parts : List (Name × Name × Name)) (i : ℕ) (part : Name × Name × Name) → i < length parts → part ≡ get_or parts i part
    → ((name : Name) → is_among table name ≡ is_among (part_names (take i parts)) name)
    → ((name : Name) → is_among after name ≡ (is_among table name || same_name name part.0))
    → (name : Name) → is_among after name ≡ is_among (part_names (take (i + 1) parts)) name
among_more table after parts i part within is before now name =
    now name ∙ ap (λ b. b || same_name name part.0) (before name) ∙ sym (number_of_more (part_names (take i parts)) part.0 name)
    ∙ ap (λ l. is_among l name) (sym (map-append (λ p. p.0) (take i parts) (part ∷ [])))
    ∙ ap (λ l. is_among (part_names l) name) (ap (λ p. take i parts ++ p ∷ []) is ∙ sym (take_more parts i part within))

-- Joined names, each with the part that gives it.
use Rattle.std.specs.Prelude.{ℕ, Option, Some, None, List, [], ◌∷◌, ◌++◌, ◌+◌, ◌==◌, ◌||◌, ◌&&◌, if◌then◌else◌, nat_lt, codes, map}
use Rattle.std.specs.Prelude.{Bool, min, max}
use Rattle.std.specs.List.{flat_map}
use Rattle.cq_base.specs.declared.name.Name.{Name}
use Rattle.cq_base.specs.Names.{same_name}
use Rattle.cq_theory.specs.Schema.{edge_names}
use Rattle.cq_colimit.specs.PlacedData.{PlacedData as Placed}
use Rattle.cq_colimit.specs.Classes.{is_first}

-- PART_NAME
abbrev pub joined_name : Name → Name → Name
joined_name part name = part ++ codes "_" ++ name

-- the joined names of some names of the part
abbrev pub given_by : Placed → List Name → List (Name × ℕ)
given_by part names = map (λ name. (joined_name part.name name, part.start.part)) names

-- the names whose numbers, counted from n, meet a test
abbrev pub names_where : (ℕ → Bool) → ℕ → List Name → List Name
names_where test n [] = []
names_where test n (name ∷ names) = if test n then name ∷ names_where test (n + 1) names else names_where test (n + 1) names

-- the entities of the part that are first members of their classes
abbrev pub first_entities : List (ℕ × ℕ) → Placed → List Name
first_entities links part = names_where (is_first links) part.start.entity part.schema.entities

-- the joined entities, and the joined foreign keys and attributes
abbrev pub given_entities : List (ℕ × ℕ) → List Placed → List (Name × ℕ)
given_entities links parts = flat_map (λ part. given_by part (first_entities links part)) parts

abbrev pub given_arrows : List Placed → List (Name × ℕ)
given_arrows parts = flat_map (λ part. given_by part (edge_names part.schema.keys)) parts
    ++ flat_map (λ part. given_by part (edge_names part.schema.attributes)) parts

-- the lesser of a number and of one that may be there
abbrev pub lesser : Option ℕ → ℕ → ℕ
lesser None n = n
lesser (Some m) n = min m n

-- the least part that gives a name that meets the test, and of a part so far
abbrev pub least_giver : (Name × ℕ → Bool) → Option ℕ → List (Name × ℕ) → Option ℕ
least_giver test least [] = least
least_giver test least (given ∷ rest) = least_giver test (if test given then Some (lesser least given.1) else least) rest

-- pairs are compared by their first number and then by their second
abbrev pub is_before : ℕ × ℕ → ℕ × ℕ → Bool
is_before p q = nat_lt p.0 q.0 || ((p.0 == q.0) && nat_lt p.1 q.1)

abbrev pub lesser_pair : Option (ℕ × ℕ) → ℕ × ℕ → ℕ × ℕ
lesser_pair None p = p
lesser_pair (Some q) p = if is_before p q then p else q

-- two parts, the lesser first
abbrev pub ordered : ℕ → ℕ → ℕ × ℕ
ordered a b = (min a b, max a b)

-- the least of a pair so far and of that of this part with the least one that gave the same name, if there is one
abbrev pub with_owner : Option (ℕ × ℕ) → ℕ → Option ℕ → Option (ℕ × ℕ)
with_owner least part None = least
with_owner least part (Some owner) = Some (lesser_pair least (ordered owner part))

-- the least of a pair so far and of those of this part with an earlier one that gave the same name
abbrev pub least_with : Option (ℕ × ℕ) → Name × ℕ → List (Name × ℕ) → Option (ℕ × ℕ)
least_with least given [] = least
least_with least given (other ∷ earlier) =
    least_with (if same_name other.0 given.0 then Some (lesser_pair least (ordered other.1 given.1)) else least) given earlier

-- the least of a pair so far and of those parts that give two equal names, the latter of them behind the earlier names
abbrev pub least_clash : Option (ℕ × ℕ) → List (Name × ℕ) → List (Name × ℕ) → Option (ℕ × ℕ)
least_clash least earlier [] = least
least_clash least earlier (given ∷ rest) = least_clash (least_with least given earlier) (earlier ++ given ∷ []) rest

-- How many variables blocks have, as numbers that stop above the limit.
use Rattle.std.specs.Prelude.{ℕ, List, map, sum, length, min, slice_index}
use Rattle.cq_base.specs.declared.name.Name.{Name}
use Rattle.cq_query.specs.QueryData.{QueryData as Query}

-- a number, or that there are more than 16,000,000
abbrev pub capped : ℕ → ℕ
capped n = min n 16000001

-- how many variables each block has
abbrev pub widths_of : Query → List ℕ
widths_of Q = map (λ b. capped (length b.vars)) Q.blocks

-- the variables, each with the weight of its entity
abbrev pub weight_of : List ℕ → List (Name × ℕ) → ℕ
weight_of weights variables = capped (sum (map (λ v. slice_index weights v.1) variables))

-- the weights of the blocks of Q. The widths of one query are weights for the next: they give the widths of the
-- composite.
abbrev pub weighed : Query → List ℕ → List ℕ
weighed Q weights = map (λ b. weight_of weights b.vars) Q.blocks

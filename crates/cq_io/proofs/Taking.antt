-- A source that is read up to one byte past a limit.
use Rattle.std.proofs.Common.{ℕ, List, [], ◌++◌, ◌≡◌, ◌<◌, ◌≤◌, ◌+◌, ◌-◌, ◌^◌, length, take, min, Some, None, ap, ◌∙◌, subst, arith}
use Rattle.std.specs.Prelude.{IfSome}
use Rattle.std.specs.Option.{option_map}
use Rattle.std.specs.declared.option.Option.{Option}
use Rattle.std.proofs.lemmas.List.{take_all, length-take}

-- what was taken is no more than the limit, so it is all
pub all_taken : (content items : List ℕ) (limit most : ℕ) → items ≡ take most content → most ≡ min (limit + 1) (2 ^ 64 - 1)
    → length items ≤ limit → length items < 2 ^ 63 → items ≡ content
all_taken content items limit most taken most_is within small =
    let counted : length items ≡ min most (length content) = ap length taken ∙ length-take most content in
    let few : length content ≤ most = omega (arith, counted, most_is, within, small) in
    taken ∙ take_all most content few

-- all that is told was read
pub read_all : (told inner : Option (List ℕ)) (limit most : ℕ) (items before : List ℕ)
    → IfSome (option_map (take most) inner) (λ xs. items ≡ before ++ xs) → inner ≡ told → before ≡ []
    → most ≡ min (limit + 1) (2 ^ 64 - 1) → length items ≤ limit → length items < 2 ^ 63
    → IfSome told (λ content. items ≡ content)
read_all told inner limit most items before read same none most_is within small =
    subst (λ t. IfSome t (λ content. items ≡ content)) same (by_cases inner read)
  where
    by_cases : (t : Option (List ℕ)) → IfSome (option_map (take most) t) (λ xs. items ≡ before ++ xs) → IfSome t (λ content. items ≡ content)
    by_cases None read = tt
    by_cases (Some content) read = all_taken content items limit most (read ∙ ap (λ b. b ++ take most content) none) most_is within small

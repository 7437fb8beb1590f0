-- A list that ends with a block twice, by its last two parts.
use Rattle.std.proofs.Common.{ℕ, List, ◌++◌, ◌≡◌, ◌-◌, length, take, drop, sym, ap, ◌∙◌, arith, append_assoc, length-append}
use Rattle.std.proofs.Math.Seq.{drop-append_seam, take-append_seam}
use Rattle.std.proofs.lemmas.List.{take-append-drop}
use Rattle.cq_growth.specs.Repeats.{EndsTwice}

module _ (path start last before : List ℕ) (count : ℕ) (start_is : start ≡ take (length path - count) path) (last_is : last ≡ drop (length path - count) path)
    (before_is : before ≡ drop (length start - count) start) where
  -- where the last two parts are one
  pub twice_here : before ≡ last → EndsTwice path last
  twice_here same =
      let front : List ℕ = take (length start - count) start in
      let parts : path ≡ start ++ last = sym (take-append-drop (length path - count) path) ∙ (λ i. sym start_is i ++ sym last_is i) in
      let halves : start ≡ front ++ last = sym (take-append-drop (length start - count) start) ∙ ap (λ l. front ++ l) (sym before_is ∙ same) in
      (front, parts ∙ ap (λ l. l ++ last) halves ∙ append_assoc front last last)

  -- the last two parts are one where it ends with some block of this length twice
  pub same_parts : (block : List ℕ) → length block ≡ count → EndsTwice path block → before ≡ last
  same_parts block size twice =
      let front : List ℕ = twice.0 in
      let whole : path ≡ (front ++ block) ++ block = twice.1 ∙ sym (append_assoc front block block) in
      let cut : length path - count ≡ length (front ++ block) = omega (arith, ap length whole, length-append (front ++ block) block, size) in
      let last_block : last ≡ block = last_is ∙ (λ i. drop (cut i) (whole i)) ∙ drop-append_seam (front ++ block) block in
      let start_front : start ≡ front ++ block = start_is ∙ (λ i. take (cut i) (whole i)) ∙ take-append_seam (front ++ block) block in
      let next : length start - count ≡ length front = omega (arith, ap length start_front, length-append front block, size) in
      before_is ∙ (λ i. drop (next i) (start_front i)) ∙ drop-append_seam front block ∙ sym last_block

-- What is filled in at a byte.
use Rattle.std.proofs.Common.{◌≡◌, ◌<◌, ◌+◌, ◌++◌, ◌∷◌, ℕ, suc, List, Bor, ap, sym, ◌∙◌, length, get_or, drop, drop-cons, map, add-one}
use Rattle.std.proofs.lemmas.List.{drop-map}
use Rattle.cq_sentences.specs.Filled.{left_behind, piece}

-- the texts of which so many are used, where there is one more
pub next_text : (texts : List (Bor (List ℕ))) (used : ℕ) (text : Bor (List ℕ)) → used < length texts → text ≡ get_or texts used text
    → drop used (map (λ (t : Bor (List ℕ)). t.now) texts) ≡ text.now ∷ drop (used + 1) (map (λ (t : Bor (List ℕ)). t.now) texts)
next_text texts used text within is =
    let now : Bor (List ℕ) → List ℕ = λ t. t.now in
    drop-map now used texts ∙ ap (map now) (drop-cons texts used text within ∙ ap (λ (t : Bor (List ℕ)). t ∷ drop (suc used) texts) (sym is))
    ∙ ap (λ (ts : List (List ℕ)). text.now ∷ ts) (sym (drop-map now (suc used) texts) ∙ ap (λ n. drop n (map now texts)) (sym (add-one used)))

pub piece_filled : (byte : ℕ) (texts others : List (List ℕ)) (text : List ℕ) → byte ≡ 35 → texts ≡ text ∷ others → piece byte texts ≡ text
piece_filled byte texts others text is are = ap (λ b. piece b texts) is ∙ ap (piece 35) are

pub left_filled : (byte : ℕ) (texts others : List (List ℕ)) (text : List ℕ) → byte ≡ 35 → texts ≡ text ∷ others → left_behind byte texts ≡ others
left_filled byte texts others text is are = ap (λ b. left_behind b texts) is ∙ ap (left_behind 35) are

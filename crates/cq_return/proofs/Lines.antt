-- The lines of generators and equations.
use Rattle.std.proofs.Common.{ℕ, Bool, List, [], ◌∷◌, ◌++◌, ◌≡◌, append_assoc, append-nil, map, refl, sym, ap, ◌∙◌}
use Rattle.std.specs.Prelude.{codes}
use Rattle.cq_base.specs.declared.name.Name.{Name}
use Rattle.cq_base.specs.declared.raw.Raw.{Raw}
use Rattle.cq_lex.specs.declared.token.Mark.TheVariants as marks
use Rattle.cq_lex.specs.declared.token.Token.{Token}
use Rattle.cq_rules.specs.declared.class.Class.TheVariants as classes
use Rattle.cq_rules.specs.Class.{is, is_name}
use Rattle.cq_rules.specs.Outcome.{name_of, nothing_kept}
use Rattle.cq_rules.specs.Relations.{Both, Each, Made, None, One, Placed}
use Rattle.cq_rules.specs.Rule.{Behind, Spells, joined, second, set}
use Rattle.cq_syntax.specs.Grammar.{equation, group, name, placed_term, spot, spot_of}
use Rattle.cq_syntax.specs.Parts as parts
use Rattle.cq_syntax.specs.Terms.{raw_of, term_of}
use Rattle.cq_syntax.specs.declared.part.Spot.{Spot}
use Rattle.cq_text.specs.Literal.{equals_line}
use Rattle.cq_text.specs.Transcript.{line}
use Rattle.cq_return.specs.Literals.{group_parts}
use Rattle.cq_return.specs.WrittenTerms.{IsPlainName}
use Rattle.cq_return.proofs.Pieces.{mark_printed, name_printed}
use Rattle.cq_return.proofs.PrintedTerms.{IsTerm, PrintsTerm}
use Rattle.cq_return.proofs.Prints.{Any, Prints, Stop, before_blank, behind_blank, both, made, nothing, placed, recast, same_bytes, weaker}

-- no more members
pub no_more : {A : Type 0} (P : List Token → A → Type 0) → Prints Any (Each P) (λ xs. xs ≡ []) []
no_more {A = A} P =
    let none : List A = [] in
    recast {A = List A} {C = List A} Any (None none) (λ xs. xs ≡ none) (Each P) (λ xs. xs ≡ none) (λ xs. none) [] (λ ts xs spelled meets. (spelled.0, refl)) (nothing none (λ xs. xs ≡ none) refl)

-- what stands behind a mark or a word
pub skipped : {A : Type 0} (B D : List ℕ → Type 0) (s : Token → Bool) (P : List Token → A → Type 0) (Q : A → Type 0) (xs ys : List ℕ) → ((after : List ℕ) → D after → B (ys ++ after))
    → Prints B (One nothing_kept s) (λ u. Unit {0}) xs → Prints D P Q ys → Prints D (Made second (Both (One nothing_kept s) P)) Q (xs ++ ys)
skipped B D s P Q xs ys ends first rest =
    made D (Both (One nothing_kept s) P) (λ p. Unit {0} × Q p.1) Q second (xs ++ ys) (λ p meets. meets.1) (both B D (One nothing_kept s) (λ u. Unit {0}) P Q xs ys ends first rest)

-- a colon, and an equals sign, with a blank on each side
pub colon_printed : Prints Any (One nothing_kept (set (is classes.Colon))) (λ u. Unit {0}) (codes " : ")
colon_printed =
    behind_blank Any (One nothing_kept (set (is classes.Colon))) (λ u. Unit {0}) 32 (codes ": ") refl
    (before_blank (One nothing_kept (set (is classes.Colon))) (λ u. Unit {0}) 32 (codes ":") refl refl
    (weaker Stop (One nothing_kept (set (is classes.Colon))) (λ u. Unit {0}) (codes ":") (mark_printed classes.Colon marks.Colon refl)))

pub equals_printed : Prints Any (One nothing_kept (set (is classes.Equals))) (λ u. Unit {0}) (codes " = ")
equals_printed =
    behind_blank Any (One nothing_kept (set (is classes.Equals))) (λ u. Unit {0}) 32 (codes "= ") refl
    (before_blank (One nothing_kept (set (is classes.Equals))) (λ u. Unit {0}) 32 (codes "=") refl refl
    (weaker Stop (One nothing_kept (set (is classes.Equals))) (λ u. Unit {0}) (codes "=") (mark_printed classes.Equals marks.Equals refl)))

regrouped : (a b c d : List ℕ) → (a ++ (b ++ c)) ++ d ≡ ((a ++ b) ++ c) ++ d
regrouped a b c d = ap (λ l. l ++ d) (sym (append_assoc a b c))

pub spot_printed : (n : Name) → IsPlainName n → Prints Stop (One spot_of (set is_name)) (λ s. s.name ≡ n) n
spot_printed n plain = name_printed spot_of (λ s. s.name ≡ n) n plain (λ before. refl)

abbrev paired : Name → Name → Name × Name
paired x m = (m, x)

-- the line of a generator is a group of one name
pub group_printed : (n sort : Name) → IsPlainName n → IsPlainName sort → Prints Any (Spells group) (λ g. group_parts g ≡ (n, sort) ∷ []) (line (n ++ codes " : " ++ sort))
unfolding group spot name
group_printed n sort plain plain_sort =
    let spots : Prints Stop (Made joined (Both (One spot_of (set is_name)) (Each (One spot_of (set is_name))))) (λ xs. map (λ (s : Spot). s.name) xs ≡ n ∷ []) n =
    made Stop (Both (One spot_of (set is_name)) (Each (One spot_of (set is_name)))) (λ p. (p.0.name ≡ n) × (p.1 ≡ [])) (λ xs. map (λ (s : Spot). s.name) xs ≡ n ∷ []) joined n
    (λ p meets. (λ j. meets.0 j ∷ map (λ s. s.name) (meets.1 j)))
    (same_bytes Stop (Both (One spot_of (set is_name)) (Each (One spot_of (set is_name)))) (λ p. (p.0.name ≡ n) × (p.1 ≡ [])) (n ++ []) n (append-nil n)
    (both Stop Stop (One spot_of (set is_name)) (λ s. s.name ≡ n) (Each (One spot_of (set is_name))) (λ xs. xs ≡ []) n [] (λ after stops. stops) (spot_printed n plain)
    (weaker Stop (Each (One spot_of (set is_name))) (λ xs. xs ≡ []) [] (no_more (One spot_of (set is_name)))))) in
    let of_sort : Prints Stop (Behind (is classes.Colon) (One name_of (set is_name))) (λ x. x ≡ sort) (codes " : " ++ sort) =
    skipped Any Stop (set (is classes.Colon)) (One name_of (set is_name)) (λ x. x ≡ sort) (codes " : ") sort (λ after stops. tt) colon_printed
    (name_printed name_of (λ x. x ≡ sort) sort plain_sort (λ before. refl)) in
    let whole : Prints Stop (Both (Made joined (Both (One spot_of (set is_name)) (Each (One spot_of (set is_name))))) (Behind (is classes.Colon) (One name_of (set is_name))))
    (λ p. (map (λ s. s.name) p.0 ≡ n ∷ []) × (p.1 ≡ sort)) (n ++ (codes " : " ++ sort)) =
    both Stop Stop (Made joined (Both (One spot_of (set is_name)) (Each (One spot_of (set is_name))))) (λ xs. map (λ (s : Spot). s.name) xs ≡ n ∷ []) (Behind (is classes.Colon) (One name_of (set is_name)))
    (λ x. x ≡ sort) n (codes " : " ++ sort) (λ after stops. refl) spots of_sort in
    let grouped : Prints Stop (Spells group) (λ g. group_parts g ≡ (n, sort) ∷ []) (n ++ (codes " : " ++ sort)) =
    made Stop (Both (Made joined (Both (One spot_of (set is_name)) (Each (One spot_of (set is_name))))) (Behind (is classes.Colon) (One name_of (set is_name))))
    (λ p. (map (λ s. s.name) p.0 ≡ n ∷ []) × (p.1 ≡ sort)) (λ g. group_parts g ≡ (n, sort) ∷ []) parts.group_of (n ++ (codes " : " ++ sort))
    (λ p meets. parts_of p.0 p.1 meets.0 meets.1) whole in
    same_bytes Any (Spells group) (λ g. group_parts g ≡ (n, sort) ∷ []) ((n ++ (codes " : " ++ sort)) ++ codes "\n") (line (n ++ codes " : " ++ sort)) (regrouped n (codes " : ") sort (codes "\n"))
    (before_blank (Spells group) (λ g. group_parts g ≡ (n, sort) ∷ []) 10 (n ++ (codes " : " ++ sort)) refl refl grouped)
  where
    with_sort : (xs : List Spot) (x : Name) → map (λ (s : Spot). paired x s.name) xs ≡ map (paired x) (map (λ (s : Spot). s.name) xs)
    with_sort [] x = refl
    with_sort (s ∷ xs) x = ap (λ l. paired x s.name ∷ l) (with_sort xs x)

    parts_of : (xs : List Spot) (x : Name) → map (λ (s : Spot). s.name) xs ≡ n ∷ [] → x ≡ sort → map (λ (s : Spot). paired x s.name) xs ≡ (n, sort) ∷ []
    parts_of xs x names same = with_sort xs x ∙ (λ j. map (paired (same j)) (names j))

pub term_printed : (raw : Raw) (bytes : List ℕ) → PrintsTerm raw bytes → Prints Stop (Spells placed_term) (λ t. t.raw ≡ raw) bytes
unfolding placed_term
term_printed raw bytes prints =
    made Stop (Placed IsTerm) (λ p. raw_of p.1 ≡ raw) (λ t. t.raw ≡ raw) term_of bytes (λ p same. same) (placed Stop IsTerm (λ v. raw_of v ≡ raw) bytes prints)

-- the line of an equation
pub equation_printed : (left right : Raw) (xs ys : List ℕ) → PrintsTerm left xs → PrintsTerm right ys → Prints Any (Spells equation) (λ e. (e.left.raw ≡ left) × (e.right.raw ≡ right)) (equals_line xs ys)
unfolding equation
equation_printed left right xs ys first second =
    let after_sign : Prints Stop (Behind (is classes.Equals) (Spells placed_term)) (λ t. t.raw ≡ right) (codes " = " ++ ys) =
    skipped Any Stop (set (is classes.Equals)) (Spells placed_term) (λ t. t.raw ≡ right) (codes " = ") ys (λ after stops. tt) equals_printed (term_printed right ys second) in
    let whole : Prints Stop (Spells equation) (λ e. (e.left.raw ≡ left) × (e.right.raw ≡ right)) (xs ++ (codes " = " ++ ys)) =
    made Stop (Both (Spells placed_term) (Behind (is classes.Equals) (Spells placed_term))) (λ p. (p.0.raw ≡ left) × (p.1.raw ≡ right)) (λ e. (e.left.raw ≡ left) × (e.right.raw ≡ right))
    parts.eq_of (xs ++ (codes " = " ++ ys)) (λ p same. same)
    (both Stop Stop (Spells placed_term) (λ t. t.raw ≡ left) (Behind (is classes.Equals) (Spells placed_term)) (λ t. t.raw ≡ right) xs (codes " = " ++ ys) (λ after stops. refl)
    (term_printed left xs first) after_sign) in
    same_bytes Any (Spells equation) (λ e. (e.left.raw ≡ left) × (e.right.raw ≡ right)) ((xs ++ (codes " = " ++ ys)) ++ codes "\n") (equals_line xs ys) (regrouped xs (codes " = ") ys (codes "\n"))
    (before_blank (Spells equation) (λ e. (e.left.raw ≡ left) × (e.right.raw ≡ right)) 10 (xs ++ (codes " = " ++ ys)) refl refl whole)

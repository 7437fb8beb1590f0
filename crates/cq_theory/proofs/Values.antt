-- Folds over values at each variant, and texts of values.
use Rattle.std.proofs.Common.{ℕ, Bool, true, false, List, [], ◌∷◌, ◌++◌, ◌≡◌, ◌<◌, ◌+◌, ◌&&◌, map, take, length, get_or, refl, sym, ap, ◌∙◌, append_assoc}
use Rattle.std.specs.Prelude.{slice_get, codes, nat_lt}
use Rattle.std.specs.List.{list_all}
use Rattle.std.proofs.lemmas.Bool.{ltb-true}
use Rattle.std.proofs.lemmas.List.{take_more, map-append, append-nil}
use Rattle.cq_theory.specs.TypesideData.{TypesideData as Typeside}
use Rattle.cq_theory.specs.declared.constant.Con.{Con}
use Rattle.cq_theory.specs.declared.value.Value.{Value}
use Rattle.cq_theory.specs.declared.value.Value.TheVariants.{Const, Null, Fun, rolls-Const, rolls-Null, rolls-Fun}
use Rattle.cq_theory.specs.declared.value.Value.TheOpen as layer
use Rattle.cq_theory.specs.declared.value.Value.TheFolds.{fold-Value, fold-roll-Value}
use Rattle.cq_theory.specs.ValueText.{value_text, text_step, is_named, is_named_step, after_commas, function_name, con_text, null_text, application_text}

module _ (A : Type 0) (step : layer.Value-F A → A) where
  pub fold-Const : (n : Con) → fold-Value A step (Const n) ≡ step (layer.Const n)
  fold-Const n = ap (fold-Value A step) (sym (rolls-Const n)) ∙ fold-roll-Value A step (layer.Const n)

  pub fold-Null : (n : ℕ) → fold-Value A step (Null n) ≡ step (layer.Null n)
  fold-Null n = ap (fold-Value A step) (sym (rolls-Null n)) ∙ fold-roll-Value A step (layer.Null n)

  pub fold-Fun : (f : ℕ) (vs : List Value) → fold-Value A step (Fun f vs) ≡ step (layer.Fun f (map (fold-Value A step) vs))
  fold-Fun f vs = ap (fold-Value A step) (sym (rolls-Fun f vs)) ∙ fold-roll-Value A step (layer.Fun f vs)

pub value_text-at_Const : (T : Typeside) (v : Value) (c : Con) → v ≡ Const c → value_text T v ≡ con_text T c
value_text-at_Const T v c e = ap (value_text T) e ∙ fold-Const (List ℕ) (text_step T) c

pub value_text-at_Null : (T : Typeside) (v : Value) (n : ℕ) → v ≡ Null n → value_text T v ≡ null_text n
value_text-at_Null T v n e = ap (value_text T) e ∙ fold-Null (List ℕ) (text_step T) n

pub value_text-at_Fun : (T : Typeside) (v : Value) (f : ℕ) (vs : List Value) → v ≡ Fun f vs → value_text T v ≡ application_text (function_name (slice_get T.functions f)) (map (value_text T) vs)
value_text-at_Fun T v f vs e = ap (value_text T) e ∙ fold-Fun (List ℕ) (text_step T) f vs

both : (a b : Bool) → (a && b) ≡ true → (a ≡ true) × (b ≡ true)
both true b h = (refl, h)
both false b h = cc

list_all-map : (p : Value → Bool) (vs : List Value) → list_all (λ b. b) (map p vs) ≡ list_all p vs
list_all-map p [] = refl
list_all-map p (v ∷ vs) = ap (λ b. p v && b) (list_all-map p vs)

-- what a named application says of its function and its arguments
pub function_in_range : (T : Typeside) (v : Value) (f : ℕ) (vs : List Value) → v ≡ Fun f vs → is_named T v ≡ true → f < length T.functions
function_in_range T v f vs e h =
    ltb-true _ _ (both (nat_lt f (length T.functions)) _ (sym (fold-Fun Bool (is_named_step T) f vs) ∙ ap (is_named T) (sym e) ∙ h)).0

pub args_named : (T : Typeside) (v : Value) (f : ℕ) (vs : List Value) → v ≡ Fun f vs → is_named T v ≡ true → list_all (is_named T) vs ≡ true
args_named T v f vs e h =
    sym (list_all-map (is_named T) vs) ∙ (both (nat_lt f (length T.functions)) _ (sym (fold-Fun Bool (is_named_step T) f vs) ∙ ap (is_named T) (sym e) ∙ h)).1

after_commas-append : (xs ys : List (List ℕ)) → after_commas (xs ++ ys) ≡ after_commas xs ++ after_commas ys
after_commas-append [] ys = refl
after_commas-append (x ∷ xs) ys = ap (λ t. codes ", " ++ x ++ t) (after_commas-append xs ys) ∙ sym (append_assoc (codes ", " ++ x) (after_commas xs) (after_commas ys))

pub after_commas_more : (f : Value → List ℕ) (vs : List Value) (i : ℕ) (d : Value) → i < length vs
    → after_commas (map f (take (i + 1) vs)) ≡ after_commas (map f (take i vs)) ++ (codes ", " ++ f (get_or vs i d))
after_commas_more f vs i d within =
    ap (λ l. after_commas (map f l)) (take_more vs i d within)
    ∙ ap after_commas (map-append f (take i vs) (get_or vs i d ∷ []))
    ∙ after_commas-append (map f (take i vs)) (f (get_or vs i d) ∷ [])
    ∙ ap (λ l. after_commas (map f (take i vs)) ++ l) (append-nil (codes ", " ++ f (get_or vs i d)))

-- a list after four appends
pub four_pieces : (start a b c d one two three four : List ℕ) → one ≡ start ++ a → two ≡ one ++ b → three ≡ two ++ c → four ≡ three ++ d → four ≡ start ++ (a ++ b ++ c ++ d)
four_pieces start a b c d one two three four h i j k =
    k ∙ ap (λ l. l ++ d) (j ∙ ap (λ l. l ++ c) (i ∙ ap (λ l. l ++ b) h ∙ append_assoc start a b) ∙ append_assoc start (a ++ b) c) ∙ append_assoc start (a ++ b ++ c) d

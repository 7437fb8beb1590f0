-- Whether two terms, or two values, are the same: by what they are made of, and lists by their members.
use Rattle.std.proofs.Common.{ℕ, Bool, true, false, List, ◌≡◌, ◌<◌, ◌≤◌, ◌+◌, ◌↔◌, IsTrue, nat_eq, length, get_or, take, refl, sym, ap, subst, ◌∙◌}
use Rattle.std.proofs.lemmas.Bool.{eq-eqb, eqb-true}
use Rattle.std.proofs.lemmas.List.{take_more_same, take_all, get_or_read}
use Rattle.cq_theory.specs.Constant.{same_con}
use Rattle.cq_theory.specs.declared.constant.Con.{Con}
use Rattle.cq_theory.specs.declared.term.EntTerm.{EntTerm}
use Rattle.cq_theory.specs.declared.term.TypeTerm.{TypeTerm}
use Rattle.cq_theory.specs.declared.term.TypeTerm.TheVariants as term
use Rattle.cq_theory.specs.declared.term.TypeTerm.TheOpen as term_layer
use Rattle.cq_theory.specs.declared.term.TypeTerm.TheViews.{out-TypeTerm, out-roll-TypeTerm}
use Rattle.cq_theory.specs.declared.value.Value.{Value}
use Rattle.cq_theory.specs.declared.value.Value.TheVariants as value
use Rattle.cq_theory.specs.declared.value.Value.TheOpen as value_layer
use Rattle.cq_theory.specs.declared.value.Value.TheViews.{out-Value, out-roll-Value}
use Rattle.cq_theory.proofs.Constants.{same_con_true, same_con_itself}

-- what is never the same
pub apart : {A : Type 0} (x y : A) → (x ≡ y → ⊥) → IsTrue false ↔ (x ≡ y)
apart x y other = (λ h. cc h, λ h. absurd (other h))

-- what is the same exactly where its parts are
pub by_parts : {A B : Type 0} (make : B → A) (x y : A) (s t : B) (r : Bool) → x ≡ make s → y ≡ make t → (make s ≡ make t → s ≡ t) → IsTrue r ↔ (s ≡ t) → IsTrue r ↔ (x ≡ y)
by_parts make x y s t r p q one test = (λ h. p ∙ ap make (test.0 h) ∙ sym q, λ h. test.1 (one (sym p ∙ h ∙ q)))

-- what differs in its number
pub by_number : {A : Type 0} (x y : A) (m n : ℕ) → (m ≡ n → ⊥) → (x ≡ y → m ≡ n) → IsTrue (nat_eq m n) ↔ (x ≡ y)
by_number x y m n other one = (λ h. absurd (other (eqb-true m n h)), λ h. absurd (other (one h)))

numbers : (m n : ℕ) → IsTrue (nat_eq m n) ↔ (m ≡ n)
numbers m n = (eqb-true m n, eq-eqb m n)

constants : (k l : Con) (r : Bool) → r ≡ same_con k l → IsTrue r ↔ (k ≡ l)
constants k l r is = (λ h. same_con_true k l (sym is ∙ h), λ h. is ∙ ap (same_con k) (sym h) ∙ same_con_itself k)

lists : {A : Type 0} (ss ts us vs : List A) (r : Bool) → us ≡ ss → vs ≡ ts → IsTrue r ↔ (us ≡ vs) → IsTrue r ↔ (ss ≡ ts)
lists ss ts us vs r left right test = (λ h. sym left ∙ test.0 h ∙ right, λ h. test.1 (left ∙ h ∙ sym right))

-- terms
pub Gen_Const : (x y : TypeTerm) (n : ℕ) (k : Con) → x ≡ term.Gen n → y ≡ term.Const k → x ≡ y → ⊥
Gen_Const x y n k p q h = cc

pub Gen_Att : (x y : TypeTerm) (n a : ℕ) (t : EntTerm) → x ≡ term.Gen n → y ≡ term.Att a t → x ≡ y → ⊥
Gen_Att x y n a t p q h = cc

pub Gen_Fun : (x y : TypeTerm) (n f : ℕ) (ts : List TypeTerm) → x ≡ term.Gen n → y ≡ term.Fun f ts → x ≡ y → ⊥
Gen_Fun x y n f ts p q h = cc

pub Const_Att : (x y : TypeTerm) (k : Con) (a : ℕ) (t : EntTerm) → x ≡ term.Const k → y ≡ term.Att a t → x ≡ y → ⊥
Const_Att x y k a t p q h = cc

pub Const_Fun : (x y : TypeTerm) (k : Con) (f : ℕ) (ts : List TypeTerm) → x ≡ term.Const k → y ≡ term.Fun f ts → x ≡ y → ⊥
Const_Fun x y k f ts p q h = cc

pub Att_Fun : (x y : TypeTerm) (a : ℕ) (t : EntTerm) (f : ℕ) (ts : List TypeTerm) → x ≡ term.Att a t → y ≡ term.Fun f ts → x ≡ y → ⊥
Att_Fun x y a t f ts p q h = cc

pub same_Gen : (x y : TypeTerm) (m n : ℕ) → x ≡ term.Gen m → y ≡ term.Gen n → IsTrue (nat_eq m n) ↔ (x ≡ y)
same_Gen x y m n p q = by_parts term.Gen x y m n (nat_eq m n) p q (λ h. cc h) (numbers m n)

pub same_Const : (x y : TypeTerm) (k l : Con) (r : Bool) → x ≡ term.Const k → y ≡ term.Const l → r ≡ same_con k l → IsTrue r ↔ (x ≡ y)
same_Const x y k l r p q is = by_parts term.Const x y k l r p q (λ h. cc h) (constants k l r is)

pub same_Att : (x y : TypeTerm) (a b : ℕ) (s t : EntTerm) (r : Bool) → x ≡ term.Att a s → y ≡ term.Att b t → a ≡ b → IsTrue r ↔ (s ≡ t) → IsTrue r ↔ (x ≡ y)
same_Att x y a b s t r p q e test = by_parts (term.Att a) x y s t r p (q ∙ ap (λ c. term.Att c t) (sym e)) (λ h. cc h) test

pub other_Att : (x y : TypeTerm) (a b : ℕ) (s t : EntTerm) → x ≡ term.Att a s → y ≡ term.Att b t → (a ≡ b → ⊥) → IsTrue (nat_eq a b) ↔ (x ≡ y)
other_Att x y a b s t p q other = by_number x y a b other (λ h. cc (h, p, q))

out-Fun : (f : ℕ) (ts : List TypeTerm) → out-TypeTerm (term.Fun f ts) ≡ term_layer.Fun f ts
out-Fun f ts = ap out-TypeTerm (sym (term.rolls-Fun f ts)) ∙ out-roll-TypeTerm (term_layer.Fun f ts)

args : (f : ℕ) (ss ts : List TypeTerm) → term.Fun f ss ≡ term.Fun f ts → ss ≡ ts
args f ss ts h = let layers : term_layer.Fun f ss ≡ term_layer.Fun f ts = sym (out-Fun f ss) ∙ ap out-TypeTerm h ∙ out-Fun f ts in cc layers

pub same_Fun : (x y : TypeTerm) (f g : ℕ) (ss ts us vs : List TypeTerm) (r : Bool) → x ≡ term.Fun f ss → y ≡ term.Fun g ts → f ≡ g → us ≡ ss → vs ≡ ts → IsTrue r ↔ (us ≡ vs) → IsTrue r ↔ (x ≡ y)
same_Fun x y f g ss ts us vs r p q e left right test = by_parts (term.Fun f) x y ss ts r p (q ∙ ap (λ h. term.Fun h ts) (sym e)) (args f ss ts) (lists ss ts us vs r left right test)

pub other_Fun : (x y : TypeTerm) (f g : ℕ) (ss ts : List TypeTerm) → x ≡ term.Fun f ss → y ≡ term.Fun g ts → (f ≡ g → ⊥) → IsTrue (nat_eq f g) ↔ (x ≡ y)
other_Fun x y f g ss ts p q other = by_number x y f g other (λ h. cc (h, p, q))

-- values
pub Const_Null : (x y : Value) (k : Con) (n : ℕ) → x ≡ value.Const k → y ≡ value.Null n → x ≡ y → ⊥
Const_Null x y k n p q h = cc

pub Const_Fun_value : (x y : Value) (k : Con) (f : ℕ) (vs : List Value) → x ≡ value.Const k → y ≡ value.Fun f vs → x ≡ y → ⊥
Const_Fun_value x y k f vs p q h = cc

pub Null_Fun : (x y : Value) (n f : ℕ) (vs : List Value) → x ≡ value.Null n → y ≡ value.Fun f vs → x ≡ y → ⊥
Null_Fun x y n f vs p q h = cc

pub same_Const_value : (x y : Value) (k l : Con) (r : Bool) → x ≡ value.Const k → y ≡ value.Const l → r ≡ same_con k l → IsTrue r ↔ (x ≡ y)
same_Const_value x y k l r p q is = by_parts value.Const x y k l r p q (λ h. cc h) (constants k l r is)

pub same_Null : (x y : Value) (m n : ℕ) → x ≡ value.Null m → y ≡ value.Null n → IsTrue (nat_eq m n) ↔ (x ≡ y)
same_Null x y m n p q = by_parts value.Null x y m n (nat_eq m n) p q (λ h. cc h) (numbers m n)

out-Fun_value : (f : ℕ) (vs : List Value) → out-Value (value.Fun f vs) ≡ value_layer.Fun f vs
out-Fun_value f vs = ap out-Value (sym (value.rolls-Fun f vs)) ∙ out-roll-Value (value_layer.Fun f vs)

args_value : (f : ℕ) (ss ts : List Value) → value.Fun f ss ≡ value.Fun f ts → ss ≡ ts
args_value f ss ts h = let layers : value_layer.Fun f ss ≡ value_layer.Fun f ts = sym (out-Fun_value f ss) ∙ ap out-Value h ∙ out-Fun_value f ts in cc layers

pub same_Fun_value : (x y : Value) (f g : ℕ) (ss ts us vs : List Value) (r : Bool) → x ≡ value.Fun f ss → y ≡ value.Fun g ts → f ≡ g → us ≡ ss → vs ≡ ts → IsTrue r ↔ (us ≡ vs) → IsTrue r ↔ (x ≡ y)
same_Fun_value x y f g ss ts us vs r p q e left right test = by_parts (value.Fun f) x y ss ts r p (q ∙ ap (λ h. value.Fun h ts) (sym e)) (args_value f ss ts) (lists ss ts us vs r left right test)

pub other_Fun_value : (x y : Value) (f g : ℕ) (ss ts : List Value) → x ≡ value.Fun f ss → y ≡ value.Fun g ts → (f ≡ g → ⊥) → IsTrue (nat_eq f g) ↔ (x ≡ y)
other_Fun_value x y f g ss ts p q other = by_number x y f g other (λ h. cc (h, p, q))

-- lists, as a loop reads them
module _ {A : Type 0} (xs ys : List A) where
  pub lengths_apart : (length xs ≡ length ys → ⊥) → IsTrue false ↔ (xs ≡ ys)
  lengths_apart other = apart xs ys (λ h. other (ap length h))

  module _ (i : ℕ) (x y : A) (within : i < length xs) (even : length xs ≡ length ys) (left : x ≡ get_or xs i x) (right : y ≡ get_or ys i y) where
    there : i < length ys
    there = subst (λ (n : ℕ). i < n) even within

    pub members_apart : (r : Bool) → r ≡ false → IsTrue r ↔ (x ≡ y) → IsTrue false ↔ (xs ≡ ys)
    members_apart r is test = apart xs ys (λ h. cc (sym is ∙ test.1 (left ∙ ap (λ l. get_or l i x) h ∙ sym (get_or_read ys i y there right x))))

    pub members_same : (r : Bool) → r ≡ true → IsTrue r ↔ (x ≡ y) → take i xs ≡ take i ys → take (i + 1) xs ≡ take (i + 1) ys
    members_same r is test so_far = take_more_same xs ys i x within there so_far (sym left ∙ test.0 is ∙ get_or_read ys i y there right x)

  pub all_same : (i : ℕ) → length xs ≤ i → length xs ≡ length ys → take i xs ≡ take i ys → IsTrue true ↔ (xs ≡ ys)
  all_same i over even are = (λ h. sym (take_all i xs over) ∙ are ∙ take_all i ys (subst (λ (n : ℕ). n ≤ i) even over), λ h. refl)

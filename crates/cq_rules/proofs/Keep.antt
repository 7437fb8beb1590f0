-- One token of a set.
use Rattle.std.proofs.Common.{◌≡◌, ◌≤◌, List, [], ◌∷◌, ◌++◌, length, Bool, true, false, inl, refl, sym, ap, arith, subst}
use Rattle.cq_lex.specs.declared.token.Token.{Token}
use Rattle.cq_rules.specs.declared.why.Why.{Why}
use Rattle.cq_rules.specs.declared.why.Why.TheVariants.{Wanted}
use Rattle.cq_rules.specs.Outcome.{Took, Stop, Tokens, IsNamed, pick, read_keep}
use Rattle.cq_rules.specs.Relations.{One, AtOne}
use Rattle.cq_rules.proofs.Laws.{Taken, Halted, AtHead, Begins, Clear, Meets, HaltsBy, left, Agree, took, stop, past, Laws}

abbrev pub nothing : Tokens
nothing t = false

abbrev pub Free : {A : Type 0} → A → Type 0
Free a = Unit {0}

module _ {A : Type 0} (f : Token → A) (s : Tokens) (x : Token) (x_in : s x ≡ true) where
  sound_at : (b : Bool) (t : Token) (ts : List Token) (a : A) (rest : List Token) → s t ≡ b → pick b (Took (f t) ts) (Stop Wanted (t ∷ ts)) ≡ Took a rest → Taken (One f s) Free (t ∷ ts) a rest
  sound_at true t ts a rest h e =
      record { front = t ∷ []; split = let k : ts ≡ rest = cc e in ap (λ z. t ∷ z) k; spells = (t, refl, h, cc e); fits = tt }
  sound_at false t ts a rest h e = absurd (cc e)

  sound : (ts : List Token) (a : A) (rest : List Token) → read_keep f s ts ≡ Took a rest → Taken (One f s) Free ts a rest
  sound [] a rest e = absurd (cc e)
  sound (t ∷ ts) a rest e = sound_at (s t) t ts a rest refl e

  halted_here : (ts : List Token) → AtHead (λ t. AtOne [] t Wanted) ts → Halted (One f s) AtOne ts Wanted ts
  halted_here ts h =
      record { front = []; split = refl; tail = x ∷ []; value = f x; spells = (x, refl, x_in, refl); begins = λ k. absurd k; halts = h }

  halted_at : (b : Bool) (t : Token) (ts : List Token) (w : Why) (at : List Token) → pick b (Took (f t) ts) (Stop Wanted (t ∷ ts)) ≡ Stop w at → Halted (One f s) AtOne (t ∷ ts) w at
  halted_at true t ts w at e = absurd (cc e)
  halted_at false t ts w at e =
      let here : t ∷ ts ≡ at = cc e in
      let why : Wanted ≡ w = cc e in
      subst (λ z. Halted (One f s) AtOne (t ∷ ts) w z) here (subst (λ z. Halted (One f s) AtOne (t ∷ ts) z (t ∷ ts)) why (halted_here (t ∷ ts) (refl, refl)))

  halted : (ts : List Token) (w : Why) (at : List Token) → read_keep f s ts ≡ Stop w at → Halted (One f s) AtOne ts w at
  halted [] w at e =
      let here : [] ≡ at = cc e in
      let why : Wanted ≡ w = cc e in
      subst (λ z. Halted (One f s) AtOne [] w z) here (subst (λ z. Halted (One f s) AtOne [] z []) why (halted_here [] tt))
  halted (t ∷ ts) w at e = halted_at (s t) t ts w at e

  starts : (ts : List Token) (a : A) → One f s ts a → Begins s false ts
  starts ts a h = subst (Begins s false) (sym h.1) h.2

  complete : (ts : List Token) (a : A) (rest : List Token) → One f s ts a → Clear nothing rest → Meets Free a rest (read_keep f s (ts ++ rest))
  complete ts a rest h c = rw (h.1, h.2, h.3) (inl refl)

  local_here : (b : Bool) (t : Token) (rest rest' : List Token) → Agree t rest rest' [] (pick b (Took (f t) rest) (Stop Wanted (t ∷ rest))) (pick b (Took (f t) rest') (Stop Wanted (t ∷ rest')))
  local_here true t rest rest' = past (omega arith)
  local_here false t rest rest' = stop Wanted [] refl refl

  local_at : (b : Bool) (u : Token) (pre : List Token) (t : Token) (rest rest' : List Token) → Agree t rest rest' (u ∷ pre) (pick b (Took (f u) (pre ++ t ∷ rest)) (Stop Wanted (u ∷ (pre ++ t ∷ rest)))) (pick b (Took (f u) (pre ++ t ∷ rest')) (Stop Wanted (u ∷ (pre ++ t ∷ rest'))))
  local_at true u pre t rest rest' = took (f u) pre (omega arith) refl refl
  local_at false u pre t rest rest' = stop Wanted (u ∷ pre) refl refl

  local : (pre : List Token) (t : Token) (rest rest' : List Token) → Agree t rest rest' pre (read_keep f s (pre ++ t ∷ rest)) (read_keep f s (pre ++ t ∷ rest'))
  local [] t rest rest' = local_here (s t) t rest rest'
  local (u ∷ pre) t rest rest' = local_at (s u) u pre t rest rest'

  back_at : (b : Bool) (t : Token) (ts : List Token) → length (left {A = A} (pick b (Took (f t) ts) (Stop Wanted (t ∷ ts)))) ≤ length (t ∷ ts)
  back_at true t ts = omega arith
  back_at false t ts = omega arith

  back : (ts : List Token) → length (left (read_keep f s ts)) ≤ length ts
  back [] = omega arith
  back (t ∷ ts) = back_at (s t) t ts

  limited : (pre : List Token) (t : Token) (w : Why) (rest : List Token) → AtOne pre t w → IsNamed w → HaltsBy w (t ∷ rest) (read_keep f s (pre ++ t ∷ rest))
  limited pre t w rest d k = absurd (subst IsNamed d.1 k)

  pub keep_laws : Laws (One f s) Free AtOne (read_keep f s) s false nothing
  keep_laws = record {
    sound = sound;
    halted = halted;
    starts = starts;
    complete = complete;
    onward = λ ts a t rest r. inl (complete ts a (t ∷ rest) r refl);
    local = local;
    back = back;
    short = (x ∷ [], f x, (x, refl, x_in, refl));
    tight = λ t h. ([], f t, (t, refl, h, refl));
    nil = λ e. absurd (cc e);
    limited = limited;
    limits = λ pre t w d k. absurd (subst IsNamed d.1 k);
  }

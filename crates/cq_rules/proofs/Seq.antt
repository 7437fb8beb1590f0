-- One reader after another.
use Rattle.std.proofs.Common.{◌≡◌, ℕ, ◌≤◌, List, [], ◌∷◌, ◌++◌, length, Bool, true, false, ◌⊎◌, inl, inr, refl, sym, ap, ◌∙◌, append_assoc, arith, length-append, subst}
use Rattle.cq_lex.specs.declared.token.Token.{Token}
use Rattle.cq_rules.specs.declared.why.Why.{Why}
use Rattle.cq_rules.specs.declared.why.Why.TheVariants.{Wanted, LeftOut, Deep, BadOption}
use Rattle.cq_rules.specs.Outcome.{Out, Took, Stop, Tokens, IsNamed, either, when, read_bind, read_seq, with_left, and_then}
use Rattle.cq_rules.specs.Relations.{BothBy, InBothBy, Both, InBoth, Viable, OfLeftOut, NotOnward}
use Rattle.cq_rules.proofs.Laws.{Taken, Halted, AtHead, Begins, Clear, Meets, of_limits, Leading, HaltsBy, left, Agree, took, stop, past, Laws, then_took, then_stop}

pub either_left : (a b : Bool) → either a b ≡ false → a ≡ false
either_left true b e = cc
either_left false b e = refl

pub either_right : (a b : Bool) → either a b ≡ false → b ≡ false
either_right true b e = cc
either_right false b e = e

pub when_true : (a b : Bool) → a ≡ true → when a b ≡ false → b ≡ false
when_true true b h e = e
when_true false b h e = cc

pub when_left : (a b : Bool) → when a b ≡ true → a ≡ true
when_left true b e = refl
when_left false b e = e

pub when_right : (a b : Bool) → when a b ≡ true → b ≡ true
when_right true b e = e
when_right false b e = cc

pub or_left : (a b : Bool) → either a b ≡ true → b ≡ false → a ≡ true
or_left true b e h = refl
or_left false b e h = absurd (cc (e, h))

-- the sets of the two together
abbrev pub seq_first : Tokens → Bool → Tokens → Tokens
seq_first s n s' t = either (when n (s' t)) (s t)

abbrev pub seq_more : Tokens → Bool → Tokens → Tokens
seq_more m n' m' t = either (when n' (m t)) (m' t)

-- the parts of an outcome of the two
seq_took : {A B : Type 0} (p : List Token → Out A) (q : A → List Token → Out B) (ts : List Token) (x : A × B) (rest : List Token) → read_bind p q ts ≡ Took x rest → (a : A) × (mid : List Token) × (b : B) × (p ts ≡ Took a mid) × (q a mid ≡ Took b rest) × ((a, b) ≡ x)
seq_took p q ts x rest e =
    let one = then_took (p ts) _ x rest e in
    let two = then_took (q one.0 one.1) _ x rest one.3 in
    let last : two.1 ≡ rest = cc two.3 in
    (one.0, one.1, two.0, one.2, two.2 ∙ ap (λ z. Took two.0 z) last, cc two.3)

seq_stop : {A B : Type 0} (p : List Token → Out A) (q : A → List Token → Out B) (ts : List Token) (w : Why) (at : List Token) → read_bind p q ts ≡ Stop w at → (p ts ≡ Stop w at) ⊎ ((a : A) × (mid : List Token) × (p ts ≡ Took a mid) × (q a mid ≡ Stop w at))
seq_stop p q ts w at e =
    elim (then_stop (p ts) _ w at e) [
      | inl h ↦ inl h
      | inr h ↦ elim (then_stop (q h.0 h.1) _ w at h.3) [ inl k ↦ inr (h.0, h.1, h.2, k) | inr k ↦ absurd (cc k.3) ]
    ]

pub at_head : (P Q : Token → Type 0) → ((t : Token) → P t → Q t) → (ts : List Token) → AtHead P ts → AtHead Q ts
at_head P Q f [] h = tt
at_head P Q f (t ∷ ts) h = f t h

pub either_true : (a : Bool) → either a true ≡ true
either_true true = refl
either_true false = refl

pub append_empty : (ts : List Token) → ts ++ [] ≡ ts
append_empty [] = refl
append_empty (t ∷ ts) = ap (λ z. t ∷ z) (append_empty ts)

pub same_rest : (q : List Token) (t : Token) (rest : List Token) → q ++ t ∷ rest ≡ t ∷ rest → q ≡ []
same_rest [] t rest e = refl
same_rest (u ∷ us) t rest e = absurd (omega (arith, ap length e, length-append us (t ∷ rest)))

pub for_left_out : (X : Type 0) (w : Why) → (((n : ℕ) → w ≡ LeftOut n → X)) → OfLeftOut X w
for_left_out X Wanted f = tt
for_left_out X (LeftOut n) f = f n refl
for_left_out X Deep f = tt
for_left_out X (BadOption p) f = tt

pub give_left_out : (X : Type 0) (w : Why) → X → OfLeftOut X w
give_left_out X w x = for_left_out X w (λ n e. x)

pub viable_more : {A : Type 0} (R : List Token → A → Type 0) (us : List Token) (t : Token) (vs : List Token) (a : A) → R (us ++ t ∷ vs) a → Viable R (us ++ t ∷ [])
viable_more R us t vs a r = (vs, a, subst (λ z. R z a) (sym (append_assoc us (t ∷ []) vs)) r)

pub of_viable : {A : Type 0} (R : List Token → A → Type 0) (us : List Token) (t : Token) → (v : Viable R (us ++ t ∷ [])) → R (us ++ t ∷ v.0) v.1
of_viable R us t v = subst (λ z. R z v.1) (append_assoc us (t ∷ []) v.0) v.2

-- what stands after all that is read goes on with no text of the relation
module _ {A : Type 0} (R : List Token → A → Type 0) (F : A → Type 0) (D : List Token → Token → Why → Type 0) (run : List Token → Out A) (s : Tokens) (n : Bool) (m : Tokens) (l : Laws R F D run s n m) where
  whole_text : (ts : List Token) (a : A) → R ts a → Meets F a [] (run ts)
  whole_text ts a r = subst (λ z. Meets F a [] (run z)) (append_empty ts) (l.complete ts a [] r tt)

  pub left_over : (us : List Token) (a : A) (t : Token) (rest : List Token) → run (us ++ t ∷ rest) ≡ Took a (t ∷ rest) → Viable R (us ++ t ∷ []) → ⊥
  left_over us a t rest here v =
      elim (l.local us t rest v.0) [
        | took b q le f g ↦
            let same : q ++ t ∷ rest ≡ t ∷ rest = cc (here, f) in
            let there : run (us ++ t ∷ v.0) ≡ Took b (t ∷ v.0) = g ∙ ap (λ z. Took b (z ++ t ∷ v.0)) (same_rest q t rest same) in
            elim (whole_text (us ++ t ∷ v.0) v.1 (of_viable R us t v)) [
              | inl k ↦ let no_rest : t ∷ v.0 ≡ [] = cc (there, k) in cc no_rest
              | inr k ↦ cc (there, k.2)
            ]
        | stop w q f g ↦ cc (here, f)
        | past le ↦ omega (arith, ap (λ z. length (left z)) here)
      ]

module _ {A B : Type 0} (R : List Token → A → Type 0) (F : A → Type 0) (D : List Token → Token → Why → Type 0) (p : List Token → Out A) (s : Tokens) (n : Bool) (m : Tokens) (S : A → List Token → B → Type 0) (G : A → B → Type 0) (E : A → List Token → Token → Why → Type 0) (q : A → List Token → Out B) (s' : Tokens) (n' : Bool) (m' : Tokens) (one : Laws R F D p s n m) (two : (a : A) → Laws (S a) (G a) (E a) (q a) s' n' m') (apart : (t : Token) → s' t ≡ true → m t ≡ false) where
  clear_after : (vs rest : List Token) → Begins s' n' vs → Clear (seq_more m n' m') rest → Clear m (vs ++ rest)
  clear_after [] [] b c = tt
  clear_after [] (t ∷ rest) b c = when_true n' (m t) b (either_left (when n' (m t)) (m' t) c)
  clear_after (v ∷ vs) rest b c = apart v b

  clear_last : (rest : List Token) → Clear (seq_more m n' m') rest → Clear m' rest
  clear_last [] c = tt
  clear_last (t ∷ rest) c = either_right (when n' (m t)) (m' t) c

  abbrev pub Fit : A × B → Type 0
  Fit x = F x.0 × G x.0 x.1

  sound_at : (ts : List Token) (a : A) (mid : List Token) (b : B) (rest : List Token) → p ts ≡ Took a mid → q a mid ≡ Took b rest → Taken (BothBy R S) Fit ts (a, b) rest
  sound_at ts a mid b rest e f =
      let l = one.sound ts a mid e in
      let r = (two a).sound mid b rest f in
      record {
        front = l.front ++ r.front;
        split = l.split ∙ ap (λ z. l.front ++ z) r.split ∙ sym (append_assoc l.front r.front rest);
        spells = (l.front, r.front, refl, l.spells, r.spells);
        fits = (l.fits, r.fits);
      }

  sound : (ts : List Token) (x : A × B) (rest : List Token) → read_bind p q ts ≡ Took x rest → Taken (BothBy R S) Fit ts x rest
  sound ts x rest e =
      let h = seq_took p q ts x rest e in
      subst (λ z. Taken (BothBy R S) Fit ts z rest) h.5 (sound_at ts h.0 h.1 h.2 rest h.3 h.4)

  halted_one : (ts : List Token) (w : Why) (at : List Token) → p ts ≡ Stop w at → Halted (BothBy R S) (InBothBy R D E) ts w at
  halted_one ts w at e =
      let h = one.halted ts w at e in
      let k = (two h.value).short in
      record {
        front = h.front;
        split = h.split;
        tail = h.tail ++ k.0;
        value = (h.value, k.1);
        spells = (h.front ++ h.tail, k.0, sym (append_assoc h.front h.tail k.0), h.spells, k.2);
        begins = λ l. let b = h.begins l in (b.0, b.1, b.2 ++ k.0, b.3, ap (λ z. z ++ k.0) b.4);
        halts = at_head (λ t. D h.front t w) (λ t. InBothBy R D E h.front t w) (λ t d. inl d) at h.halts;
      }

  not_onward : (us vs : List Token) (a : A) (t : Token) (rest : List Token) (w : Why) → p (us ++ (vs ++ t ∷ rest)) ≡ Took a (vs ++ t ∷ rest) → NotOnward R us vs t w
  not_onward us [] a t rest w e = give_left_out (Viable R (us ++ t ∷ []) → ⊥) w (left_over R F D p s n m one us a t rest e)
  not_onward us (v ∷ vs) a t rest w e = tt

  halts_two : (us vs : List Token) (a : A) (w : Why) (at : List Token) → R us a → p (us ++ (vs ++ at)) ≡ Took a (vs ++ at) → AtHead (λ t. E a vs t w) at → AtHead (λ t. InBothBy R D E (us ++ vs) t w) at
  halts_two us vs a w [] r e h = tt
  halts_two us vs a w (t ∷ rest) r e h = inr (a, us, vs, refl, r, h, not_onward us vs a t rest w e)

  halted_two : (ts : List Token) (a : A) (mid : List Token) (w : Why) (at : List Token) → p ts ≡ Took a mid → q a mid ≡ Stop w at → Halted (BothBy R S) (InBothBy R D E) ts w at
  halted_two ts a mid w at e f =
      let l = one.sound ts a mid e in
      let h = (two a).halted mid w at f in
      let here : p (l.front ++ (h.front ++ at)) ≡ Took a (h.front ++ at) = ap p (ap (λ z. l.front ++ z) (sym h.split) ∙ sym l.split) ∙ e ∙ ap (λ z. Took a z) h.split in
      record {
        front = l.front ++ h.front;
        split = l.split ∙ ap (λ z. l.front ++ z) h.split ∙ sym (append_assoc l.front h.front at);
        tail = h.tail;
        value = (a, h.value);
        spells = (l.front, h.front ++ h.tail, append_assoc l.front h.front h.tail, l.spells, h.spells);
        begins = h.begins;
        halts = halts_two l.front h.front a w at l.spells here h.halts;
      }

  halted : (ts : List Token) (w : Why) (at : List Token) → read_bind p q ts ≡ Stop w at → Halted (BothBy R S) (InBothBy R D E) ts w at
  halted ts w at e =
      elim (seq_stop p q ts w at e) [ inl h ↦ halted_one ts w at h | inr h ↦ halted_two ts h.0 h.1 w at h.2 h.3 ]

  begins_append : (us vs : List Token) → Begins s n us → Begins s' n' vs → Begins (seq_first s n s') (when n n') (us ++ vs)
  begins_append [] [] b c = rw (b, c) refl
  begins_append [] (v ∷ vs) b c = rw (b, c) refl
  begins_append (u ∷ us) vs b c = rw b (either_true (when n (s' u)))

  starts : (ts : List Token) (x : A × B) → BothBy R S ts x → Begins (seq_first s n s') (when n n') ts
  starts ts x h = subst (Begins (seq_first s n s') (when n n')) (sym h.2) (begins_append h.0 h.1 (one.starts h.0 x.0 h.3) ((two x.0).starts h.1 x.1 h.4))

  meets_two : (o : Out B) (a : A) (b : B) (rest : List Token) → Meets (G a) b rest o → Meets Fit (a, b) rest (with_left a o)
  meets_two o a b rest (inl e) = inl (rw e refl)
  meets_two o a b rest (inr h) = inr (h.0, h.1, rw h.2 refl, h.3, λ f. h.4 f.1, h.5)

  meets_both : (vs : List Token) (a : A) (b : B) (rest : List Token) (o : Out A) → Meets F a (vs ++ rest) o → Meets (G a) b rest (q a (vs ++ rest)) → Meets Fit (a, b) rest (and_then q o)
  meets_both vs a b rest o (inl e) k = rw e (meets_two (q a (vs ++ rest)) a b rest k)
  meets_both vs a b rest o (inr h) k =
      inr (h.0, h.1 ++ vs, rw h.2 (ap (λ y. Stop h.0 y) (sym (append_assoc h.1 vs rest))), h.3, λ f. h.4 f.0, omega (arith, length-append h.1 vs, h.5))

  complete_at : (us vs : List Token) (a : A) (b : B) (rest : List Token) → R us a → S a vs b → Clear (seq_more m n' m') rest → Meets Fit (a, b) rest (read_bind p q (us ++ (vs ++ rest)))
  complete_at us vs a b rest r z c =
      meets_both vs a b rest _ (one.complete us a (vs ++ rest) r (clear_after vs rest ((two a).starts vs b z) c)) ((two a).complete vs b rest z (clear_last rest c))

  -- a text that goes on in either part goes on
  viable_one : (us : List Token) (t : Token) → Viable R (us ++ t ∷ []) → Viable (BothBy R S) (us ++ t ∷ [])
  viable_one us t v =
      let k = (two v.1).short in
      viable_more (BothBy R S) us t (v.0 ++ k.0) (v.1, k.1) (us ++ t ∷ v.0, k.0, sym (append_assoc us (t ∷ v.0) k.0), of_viable R us t v, k.2)

  viable_two : (us vs : List Token) (a : A) (t : Token) → R us a → Viable (S a) (vs ++ t ∷ []) → Viable (BothBy R S) ((us ++ vs) ++ t ∷ [])
  viable_two us vs a t r v =
      viable_more (BothBy R S) (us ++ vs) t v.0 (a, v.1) (us, vs ++ t ∷ v.0, append_assoc us vs (t ∷ v.0), r, of_viable (S a) vs t v)

  onward_two : (us vs : List Token) (a : A) (b : B) (t : Token) (rest : List Token) → R us a → S a vs b → Meets F a (vs ++ t ∷ rest) (p (us ++ (vs ++ t ∷ rest))) → Meets Fit (a, b) (t ∷ rest) (read_bind p q (us ++ (vs ++ t ∷ rest))) ⊎ Viable (BothBy R S) ((us ++ vs) ++ t ∷ [])
  onward_two us vs a b t rest r z k =
      elim ((two a).onward vs b t rest z) [ inl h ↦ inl (meets_both vs a b (t ∷ rest) _ k h) | inr h ↦ inr (viable_two us vs a t r h) ]

  onward_at : (us vs : List Token) (a : A) (b : B) (t : Token) (rest : List Token) → R us a → S a vs b → Meets Fit (a, b) (t ∷ rest) (read_bind p q (us ++ (vs ++ t ∷ rest))) ⊎ Viable (BothBy R S) ((us ++ vs) ++ t ∷ [])
  onward_at us [] a b t rest r z =
      elim (one.onward us a t rest r) [
        | inl h ↦ onward_two us [] a b t rest r z h
        | inr h ↦ inr (subst (λ y. Viable (BothBy R S) (y ++ t ∷ [])) (sym (append_empty us)) (viable_one us t h))
      ]
  onward_at us (v ∷ vs) a b t rest r z =
      onward_two us (v ∷ vs) a b t rest r z (one.complete us a ((v ∷ vs) ++ t ∷ rest) r (apart v ((two a).starts (v ∷ vs) b z)))

  onward : (ts : List Token) (x : A × B) (t : Token) (rest : List Token) → BothBy R S ts x → Meets Fit x (t ∷ rest) (read_bind p q (ts ++ t ∷ rest)) ⊎ Viable (BothBy R S) (ts ++ t ∷ [])
  onward ts x t rest h =
      let split : (h.0 ++ h.1) ++ t ∷ rest ≡ h.0 ++ (h.1 ++ t ∷ rest) = append_assoc h.0 h.1 (t ∷ rest) in
      subst (λ z. Meets Fit x (t ∷ rest) (read_bind p q (z ++ t ∷ rest)) ⊎ Viable (BothBy R S) (z ++ t ∷ [])) (sym h.2) (subst (λ z. Meets Fit x (t ∷ rest) (read_bind p q z) ⊎ Viable (BothBy R S) ((h.0 ++ h.1) ++ t ∷ [])) (sym split) (onward_at h.0 h.1 x.0 x.1 t rest h.3 h.4))

  complete : (ts : List Token) (x : A × B) (rest : List Token) → BothBy R S ts x → Clear (seq_more m n' m') rest → Meets Fit x rest (read_bind p q (ts ++ rest))
  complete ts x rest h c =
      subst (λ z. Meets Fit x rest (read_bind p q z)) (sym (ap (λ z. z ++ rest) h.2 ∙ append_assoc h.0 h.1 rest)) (complete_at h.0 h.1 x.0 x.1 rest h.3 h.4 c)

  back_two : (o : Out B) (a : A) → length (left (with_left a o)) ≤ length (left o)
  back_two (Took b rest) a = omega arith
  back_two (Stop w at) a = omega arith

  back_at : (o : Out A) → length (left (and_then q o)) ≤ length (left o)
  back_at (Took a mid) = omega (arith, back_two (q a mid) a, (two a).back mid)
  back_at (Stop w at) = omega arith

  back : (ts : List Token) → length (left (read_bind p q ts)) ≤ length ts
  back ts = omega (arith, back_at (p ts), one.back ts)

  agree_two : (a : A) (t : Token) (rest rest' pre u : List Token) (o o' : Out B) → length u ≤ length pre → Agree t rest rest' u o o' → Agree t rest rest' pre (with_left a o) (with_left a o')
  agree_two a t rest rest' pre u o o' le (took b v shorter e f) = took (a, b) v (omega arith) (rw e refl) (rw f refl)
  agree_two a t rest rest' pre u o o' le (stop w v e f) = stop w v (rw e refl) (rw f refl)
  agree_two a t rest rest' pre u o o' le (past shorter) = past (omega (arith, back_two o a))

  agree_one : (t : Token) (rest rest' pre : List Token) (o o' : Out A) → Agree t rest rest' pre o o' → Agree t rest rest' pre (and_then q o) (and_then q o')
  agree_one t rest rest' pre o o' (took a u shorter e f) = rw (e, f) (agree_two a t rest rest' pre u _ _ shorter ((two a).local u t rest rest'))
  agree_one t rest rest' pre o o' (stop w v e f) = stop w v (rw e refl) (rw f refl)
  agree_one t rest rest' pre o o' (past shorter) = past (omega (arith, back_at o))

  local : (pre : List Token) (t : Token) (rest rest' : List Token) → Agree t rest rest' pre (read_bind p q (pre ++ t ∷ rest)) (read_bind p q (pre ++ t ∷ rest'))
  local pre t rest rest' = agree_one t rest rest' pre _ _ (one.local pre t rest rest')

  short : (ts : List Token) × (x : A × B) × BothBy R S ts x
  short = let l = one.short in let r = (two l.1).short in (l.0 ++ r.0, (l.1, r.1), (l.0, r.0, refl, l.2, r.2))

  nil : when n n' ≡ true → (x : A × B) × BothBy R S [] x
  nil e =
      let a = one.nil (when_left n n' e) in
      let b = (two a.0).nil (when_right n n' e) in
      ((a.0, b.0), ([], [], refl, a.1, b.1))

  tight_at : (b : Bool) (t : Token) → s t ≡ b → seq_first s n s' t ≡ true → Viable (BothBy R S) (t ∷ [])
  tight_at true t h e = viable_one [] t (one.tight t h)
  tight_at false t h e =
      let both : when n (s' t) ≡ true = or_left (when n (s' t)) (s t) e h in
      let a = one.nil (when_left n (s' t) both) in
      viable_two [] [] a.0 t a.1 ((two a.0).tight t (when_right n (s' t) both))

  -- a halt behind what the first took is a halt of the two
  limited_two : (o : Out A) (a : A) (w : Why) (u at : List Token) → Meets F a (u ++ at) o → HaltsBy w at (q a (u ++ at)) → HaltsBy w at (and_then q o)
  limited_two o a w u at (inl e) f = (f.0, f.1, rw (e, f.2) refl, f.3)
  limited_two o a w u at (inr h) f =
      (h.0, h.1 ++ u, rw h.2 (ap (λ y. Stop h.0 y) (sym (append_assoc h.1 u at))), λ k. absurd (omega (arith, length-append h.1 u, h.5)))

  -- the first takes its text, since the token doesn't go on with it
  ends_there : (us vs : List Token) (a : A) (t : Token) (w : Why) (rest : List Token) → R us a → IsNamed w → NotOnward R us vs t w → Leading s' vs t w → Meets F a (vs ++ t ∷ rest) (p (us ++ (vs ++ t ∷ rest)))
  ends_there us (v ∷ vs) a t w rest r k x b = one.complete us a ((v ∷ vs) ++ t ∷ rest) r (apart v b)
  ends_there us [] a t Wanted rest r k x b = absurd k
  ends_there us [] a t (LeftOut c) rest r k x b = elim (one.onward us a t rest r) [ inl h ↦ h | inr h ↦ absurd (x h) ]
  ends_there us [] a t Deep rest r k x b = one.complete us a (t ∷ rest) r (apart t b)
  ends_there us [] a t (BadOption o) rest r k x b = one.complete us a (t ∷ rest) r (apart t b)

  limited_one : (pre : List Token) (t : Token) (w : Why) (rest : List Token) → D pre t w → IsNamed w → HaltsBy w (t ∷ rest) (read_bind p q (pre ++ t ∷ rest))
  limited_one pre t w rest d l = let h = one.limited pre t w rest d l in (h.0, h.1, rw h.2 refl, h.3)

  limited_both : (pre us vs : List Token) (a : A) (t : Token) (w : Why) (rest : List Token) → pre ≡ us ++ vs → R us a → E a vs t w → NotOnward R us vs t w → IsNamed w → HaltsBy w (t ∷ rest) (read_bind p q (pre ++ t ∷ rest))
  limited_both pre us vs a t w rest e r d x l =
      let h = (two a).limited vs t w rest d l in
      let k = ends_there us vs a t w rest r l x ((two a).limits vs t w d l) in
      let whole : pre ++ t ∷ rest ≡ us ++ (vs ++ t ∷ rest) = ap (λ z. z ++ t ∷ rest) e ∙ append_assoc us vs (t ∷ rest) in
      subst (λ z. HaltsBy w (t ∷ rest) (read_bind p q z)) (sym whole) (limited_two (p (us ++ (vs ++ t ∷ rest))) a w vs (t ∷ rest) k h)

  limited : (pre : List Token) (t : Token) (w : Why) (rest : List Token) → InBothBy R D E pre t w → IsNamed w → HaltsBy w (t ∷ rest) (read_bind p q (pre ++ t ∷ rest))
  limited pre t w rest (inl d) l = limited_one pre t w rest d l
  limited pre t w rest (inr h) l = limited_both pre h.1 h.2 h.0 t w rest h.3 h.4 h.5 h.6 l

  leading_one : (pre : List Token) (t : Token) (w : Why) → Leading s pre t w → Leading (seq_first s n s') pre t w
  leading_one [] t w b = of_limits (s t ≡ true) (seq_first s n s' t ≡ true) w (λ h. rw h (either_true (when n (s' t)))) b
  leading_one (u ∷ us) t w b = rw b (either_true (when n (s' u)))

  leading_both : (us vs : List Token) (t : Token) (w : Why) → Begins s n us → Leading s' vs t w → Leading (seq_first s n s') (us ++ vs) t w
  leading_both [] [] t w b c = of_limits (s' t ≡ true) (seq_first s n s' t ≡ true) w (λ h. rw (b, h) refl) c
  leading_both [] (v ∷ vs) t w b c = rw (b, c) refl
  leading_both (u ∷ us) vs t w b c = rw b (either_true (when n (s' u)))

  limits : (pre : List Token) (t : Token) (w : Why) → InBothBy R D E pre t w → IsNamed w → Leading (seq_first s n s') pre t w
  limits pre t w (inl d) l = leading_one pre t w (one.limits pre t w d l)
  limits pre t w (inr h) l =
      subst (λ z. Leading (seq_first s n s') z t w) (sym h.3) (leading_both h.1 h.2 t w (one.starts h.1 h.0 h.4) ((two h.0).limits h.2 t w h.5 l))

  pub bind_laws : Laws (BothBy R S) Fit (InBothBy R D E) (read_bind p q) (seq_first s n s') (when n n') (seq_more m n' m')
  bind_laws = record {
    sound = sound;
    halted = halted;
    starts = starts;
    complete = complete;
    onward = onward;
    local = local;
    back = back;
    short = short;
    tight = λ t. tight_at (s t) t refl;
    nil = nil;
    limited = limited;
    limits = limits;
  }

pub seq_laws : {A B : Type 0} (R : List Token → A → Type 0) (F : A → Type 0) (D : List Token → Token → Why → Type 0) (p : List Token → Out A) (s : Tokens) (n : Bool) (m : Tokens) (S : List Token → B → Type 0) (G : B → Type 0) (E : List Token → Token → Why → Type 0) (q : List Token → Out B) (s' : Tokens) (n' : Bool) (m' : Tokens) → Laws R F D p s n m → Laws S G E q s' n' m' → ((t : Token) → s' t ≡ true → m t ≡ false) → Laws (Both R S) (λ x. F x.0 × G x.1) (InBoth R D E) (read_seq p q) (seq_first s n s') (when n n') (seq_more m n' m')
seq_laws R F D p s n m S G E q s' n' m' one two apart = bind_laws R F D p s n m (λ a. S) (λ a. G) (λ a. E) (λ a. q) s' n' m' one (λ a. two) apart

-- Any number of items.
use Rattle.std.proofs.Common.{◌≡◌, ℕ, zero, suc, ◌+◌, ◌≤◌, ◌<◌, List, [], ◌∷◌, ◌++◌, length, Bool, true, false, ◌⊎◌, inl, inr, refl, sym, ap, ◌∙◌, arith, length-append, subst, append_assoc}
use Rattle.cq_lex.specs.declared.token.Token.{Token}
use Rattle.cq_rules.specs.declared.why.Why.{Why}
use Rattle.cq_rules.specs.declared.why.Why.TheVariants.{Wanted, LeftOut, Deep, BadOption}
use Rattle.cq_rules.specs.Outcome.{Out, Took, Stop, Tokens, IsNamed, pick, either, leads, then, with_first, read_items, read_many}
use Rattle.cq_rules.specs.Relations.{Each, InEach, Viable, Enters}
use Rattle.cq_rules.specs.Rule.{FitEach}
use Rattle.cq_rules.proofs.Laws.{Taken, Halted, AtHead, Begins, Clear, Meets, Leading, HaltsBy, left, Agree, took, stop, past, Laws, then_took, then_stop}
use Rattle.cq_rules.proofs.Seq.{either_left, either_right, give_left_out, append_empty, viable_more, of_viable, at_head}

abbrev pub many_more : Tokens → Tokens → Tokens
many_more s m t = either (s t) (m t)

module _ {A : Type 0} (R : List Token → A → Type 0) (F : A → Type 0) (D : List Token → Token → Why → Type 0) (p : List Token → Out A) (s : Tokens) (m : Tokens) (one : Laws R F D p s false m) (apart : (t : Token) → s t ≡ true → m t ≡ false) where
  positive : (ts : List Token) → Begins s false ts → 0 < length ts
  positive [] b = absurd (cc b)
  positive (t ∷ ts) b = omega arith

  -- an item has at least one token
  pub shorter : (ts : List Token) (a : A) (mid : List Token) → p ts ≡ Took a mid → length mid < length ts
  shorter ts a mid e =
      let h = one.sound ts a mid e in
      let some = positive h.front (one.starts h.front a h.spells) in
      let sizes : length ts ≡ length h.front + length mid = ap length h.split ∙ length-append h.front mid in
      omega arith

  sound_first : (ts : List Token) (a : A) (mid : List Token) (xs : List A) (rest : List Token) → p ts ≡ Took a mid → Taken (Each R) (FitEach F) mid xs rest → Taken (Each R) (FitEach F) ts (a ∷ xs) rest
  sound_first ts a mid xs rest e r =
      let l = one.sound ts a mid e in
      record {
        front = l.front ++ r.front;
        split = l.split ∙ ap (λ z. l.front ++ z) r.split ∙ sym (append_assoc l.front r.front rest);
        spells = (l.front, r.front, refl, l.spells, r.spells);
        fits = (l.fits, r.fits);
      }

  sound_none : (ts : List Token) (xs : List A) (rest : List Token) → Took [] ts ≡ Took xs rest → Taken (Each R) (FitEach F) ts xs rest
  sound_none ts xs rest e =
      let none : [] ≡ xs = cc e in
      subst (λ z. Taken (Each R) (FitEach F) ts z rest) none (record { front = []; split = cc e; spells = refl; fits = tt })

  sound_pick : (n : ℕ) → ((ts : List Token) (xs : List A) (rest : List Token) → read_items s p n ts ≡ Took xs rest → Taken (Each R) (FitEach F) ts xs rest) → (b : Bool) (ts : List Token) (xs : List A) (rest : List Token) → pick b (then (p ts) (λ a mid. with_first a (read_items s p n mid))) (Took [] ts) ≡ Took xs rest → Taken (Each R) (FitEach F) ts xs rest
  sound_pick n ih false ts xs rest e = sound_none ts xs rest e
  sound_pick n ih true ts xs rest e =
      let h = then_took (p ts) _ xs rest e in
      let k = then_took (read_items s p n h.1) _ xs rest h.3 in
      let after : k.1 ≡ rest = cc k.3 in
      let is : h.0 ∷ k.0 ≡ xs = cc k.3 in
      subst (λ z. Taken (Each R) (FitEach F) ts z rest) is (sound_first ts h.0 h.1 k.0 rest h.2 (ih h.1 k.0 rest (k.2 ∙ ap (λ z. Took k.0 z) after)))

  sound_items : (n : ℕ) (ts : List Token) (xs : List A) (rest : List Token) → read_items s p n ts ≡ Took xs rest → Taken (Each R) (FitEach F) ts xs rest
  sound_items zero ts xs rest e = sound_none ts xs rest e
  sound_items (suc n) ts xs rest e = sound_pick n (sound_items n) (leads s ts) ts xs rest e

  enters : (front : List Token) (t : Token) (w : Why) (rest : List Token) → leads s (front ++ t ∷ rest) ≡ true → Enters s front t w
  enters [] t w rest l = give_left_out (s t ≡ true) w l
  enters (u ∷ us) t w rest l = tt

  halts_first : (front at : List Token) (w : Why) → leads s (front ++ at) ≡ true → AtHead (λ t. D front t w) at → AtHead (λ t. InEach s R D front t w) at
  halts_first front [] w l h = tt
  halts_first front (t ∷ rest) w l h = ([], [], front, refl, refl, h, enters front t w rest l)

  halted_first : (ts : List Token) (w : Why) (at : List Token) → leads s ts ≡ true → p ts ≡ Stop w at → Halted (Each R) (InEach s R D) ts w at
  halted_first ts w at l e =
      let h = one.halted ts w at e in
      record {
        front = h.front;
        split = h.split;
        tail = h.tail;
        value = h.value ∷ [];
        spells = (h.front ++ h.tail, [], sym (append_empty (h.front ++ h.tail)), h.spells, refl);
        begins = h.begins;
        halts = halts_first h.front at w (subst (λ z. leads s z ≡ true) h.split l) h.halts;
      }

  halted_later : (ts : List Token) (a : A) (mid : List Token) (w : Why) (at : List Token) → p ts ≡ Took a mid → Halted (Each R) (InEach s R D) mid w at → Halted (Each R) (InEach s R D) ts w at
  halted_later ts a mid w at e h =
      let l = one.sound ts a mid e in
      record {
        front = l.front ++ h.front;
        split = l.split ∙ ap (λ z. l.front ++ z) h.split ∙ sym (append_assoc l.front h.front at);
        tail = h.tail;
        value = a ∷ h.value;
        spells = (l.front, h.front ++ h.tail, append_assoc l.front h.front h.tail, l.spells, h.spells);
        begins = h.begins;
        halts = at_head (λ t. InEach s R D h.front t w) (λ t. InEach s R D (l.front ++ h.front) t w) (λ t d. (a ∷ d.0, l.front ++ d.1, d.2, ap (λ z. l.front ++ z) d.3 ∙ sym (append_assoc l.front d.1 d.2), (l.front, d.1, refl, l.spells, d.4), d.5, d.6)) at h.halts;
      }

  halted_pick : (n : ℕ) → ((ts : List Token) (w : Why) (at : List Token) → read_items s p n ts ≡ Stop w at → Halted (Each R) (InEach s R D) ts w at) → (b : Bool) (ts : List Token) (w : Why) (at : List Token) → leads s ts ≡ b → pick b (then (p ts) (λ a mid. with_first a (read_items s p n mid))) (Took [] ts) ≡ Stop w at → Halted (Each R) (InEach s R D) ts w at
  halted_pick n ih false ts w at l e = absurd (cc e)
  halted_pick n ih true ts w at l e =
      elim (then_stop (p ts) _ w at e) [
        | inl k ↦ halted_first ts w at l k
        | inr h ↦ elim (then_stop (read_items s p n h.1) _ w at h.3) [
          | inl k ↦ halted_later ts h.0 h.1 w at h.2 (ih h.1 w at k)
          | inr k ↦ absurd (cc k.3)
        ]
      ]

  halted_items : (n : ℕ) (ts : List Token) (w : Why) (at : List Token) → read_items s p n ts ≡ Stop w at → Halted (Each R) (InEach s R D) ts w at
  halted_items zero ts w at e = absurd (cc e)
  halted_items (suc n) ts w at e = halted_pick n (halted_items n) (leads s ts) ts w at refl e

  begins_first : (us vs : List Token) → Begins s false us → Begins s true (us ++ vs)
  begins_first [] vs b = absurd (cc b)
  begins_first (u ∷ us) vs b = b

  starts : (ts : List Token) (xs : List A) → Each R ts xs → Begins s true ts
  starts ts [] h = subst (Begins s true) (sym h) refl
  starts ts (a ∷ xs) h = subst (Begins s true) (sym h.2) (begins_first h.0 h.1 (one.starts h.0 a h.3))

  clear_lead : (rest : List Token) → Clear (many_more s m) rest → leads s rest ≡ false
  clear_lead [] c = refl
  clear_lead (t ∷ rest) c = either_left (s t) (m t) c

  clear_item : (vs rest : List Token) → Begins s true vs → Clear (many_more s m) rest → Clear m (vs ++ rest)
  clear_item [] [] b c = tt
  clear_item [] (t ∷ rest) b c = either_right (s t) (m t) c
  clear_item (v ∷ vs) rest b c = apart v b

  lead_first : (us rest : List Token) → Begins s false us → leads s (us ++ rest) ≡ true
  lead_first [] rest b = absurd (cc b)
  lead_first (u ∷ us) rest b = b

  meets_later : (o : Out (List A)) (a : A) (xs : List A) (rest : List Token) → Meets (FitEach F) xs rest o → Meets (FitEach F) (a ∷ xs) rest (with_first a o)
  meets_later o a xs rest (inl e) = inl (rw e refl)
  meets_later o a xs rest (inr h) = inr (h.0, h.1, rw h.2 refl, h.3, λ f. h.4 f.1, h.5)

  complete_more : (n : ℕ) (a : A) (xs : List A) (us vs rest : List Token) → Meets F a (vs ++ rest) (p (us ++ (vs ++ rest))) → Meets (FitEach F) xs rest (read_items s p n (vs ++ rest)) → Meets (FitEach F) (a ∷ xs) rest (then (p (us ++ (vs ++ rest))) (λ b mid. with_first b (read_items s p n mid)))
  complete_more n a xs us vs rest (inl e) k = rw e (meets_later (read_items s p n (vs ++ rest)) a xs rest k)
  complete_more n a xs us vs rest (inr h) k =
      inr (h.0, h.1 ++ vs, rw h.2 (ap (λ y. Stop h.0 y) (sym (append_assoc h.1 vs rest))), h.3, λ f. h.4 f.0, omega (arith, length-append h.1 vs, h.5))

  complete_items : (n : ℕ) (xs : List A) (ts : List Token) (rest : List Token) → length ts ≤ n → Each R ts xs → Clear (many_more s m) rest → Meets (FitEach F) xs rest (read_items s p n (ts ++ rest))
  complete_items zero [] ts rest le h c = rw h (inl refl)
  complete_items (suc n) [] ts rest le h c = rw (h, clear_lead rest c) (inl refl)
  complete_items zero (a ∷ xs) ts rest le h c =
      let some = positive h.0 (one.starts h.0 a h.3) in
      absurd (omega (arith, ap length h.2 ∙ length-append h.0 h.1))
  complete_items (suc n) (a ∷ xs) ts rest le h c =
      let begins = one.starts h.0 a h.3 in
      let some = positive h.0 begins in
      let sizes : length ts ≡ length h.0 + length h.1 = ap length h.2 ∙ length-append h.0 h.1 in
      let whole : ts ++ rest ≡ h.0 ++ (h.1 ++ rest) = ap (λ z. z ++ rest) h.2 ∙ append_assoc h.0 h.1 rest in
      rw (whole, lead_first h.0 (h.1 ++ rest) begins) (complete_more n a xs h.0 h.1 rest (one.complete h.0 a (h.1 ++ rest) h.3 (clear_item h.1 rest (starts h.1 xs h.4) c)) (complete_items n xs h.1 rest (omega arith) h.4 c))

  complete : (ts : List Token) (xs : List A) (rest : List Token) → Each R ts xs → Clear (many_more s m) rest → Meets (FitEach F) xs rest (read_many s p (ts ++ rest))
  complete ts xs rest h c = complete_items (length (ts ++ rest)) xs ts rest (omega (arith, length-append ts rest)) h c

  back_later : (o : Out (List A)) (a : A) → left (with_first a o) ≡ left o
  back_later (Took xs rest) a = refl
  back_later (Stop w at) a = refl

  back_then : (n : ℕ) → ((ts : List Token) → length (left (read_items s p n ts)) ≤ length ts) → (o : Out A) → length (left (then o (λ a mid. with_first a (read_items s p n mid)))) ≤ length (left o)
  back_then n ih (Took a mid) = rw (back_later (read_items s p n mid) a) (ih mid)
  back_then n ih (Stop w at) = omega arith

  back_pick : (n : ℕ) → ((ts : List Token) → length (left (read_items s p n ts)) ≤ length ts) → (b : Bool) (ts : List Token) → length (left (pick b (then (p ts) (λ a mid. with_first a (read_items s p n mid))) (Took [] ts))) ≤ length ts
  back_pick n ih true ts = omega (arith, back_then n ih (p ts), one.back ts)
  back_pick n ih false ts = omega arith

  back_items : (n : ℕ) (ts : List Token) → length (left (read_items s p n ts)) ≤ length ts
  back_items zero ts = omega arith
  back_items (suc n) ts = back_pick n (back_items n) (leads s ts) ts

  agree_later : (a : A) (t : Token) (rest rest' pre u : List Token) (o o' : Out (List A)) → length u ≤ length pre → Agree t rest rest' u o o' → Agree t rest rest' pre (with_first a o) (with_first a o')
  agree_later a t rest rest' pre u o o' le (took xs v shorter e f) = took (a ∷ xs) v (omega arith) (rw e refl) (rw f refl)
  agree_later a t rest rest' pre u o o' le (stop w v e f) = stop w v (rw e refl) (rw f refl)
  agree_later a t rest rest' pre u o o' le (past shorter) = past (rw (back_later o a) shorter)

  agree_then : (n n' : ℕ) → ((pre : List Token) (t : Token) (rest rest' : List Token) → length pre < n → length pre < n' → Agree t rest rest' pre (read_items s p n (pre ++ t ∷ rest)) (read_items s p n' (pre ++ t ∷ rest'))) → (pre : List Token) (t : Token) (rest rest' : List Token) → length pre ≤ n → length pre ≤ n' → Agree t rest rest' pre (p (pre ++ t ∷ rest)) (p (pre ++ t ∷ rest')) → Agree t rest rest' pre (then (p (pre ++ t ∷ rest)) (λ a mid. with_first a (read_items s p n mid))) (then (p (pre ++ t ∷ rest')) (λ a mid. with_first a (read_items s p n' mid)))
  agree_then n n' ih pre t rest rest' le le' (took a u shorter_u e f) =
      let less : length (u ++ t ∷ rest) < length (pre ++ t ∷ rest) = shorter (pre ++ t ∷ rest) a (u ++ t ∷ rest) e in
      let less' : length u < length pre = omega (arith, length-append u (t ∷ rest), length-append pre (t ∷ rest)) in
      rw (e, f) (agree_later a t rest rest' pre u _ _ shorter_u (ih u t rest rest' (omega arith) (omega arith)))
  agree_then n n' ih pre t rest rest' le le' (stop w v e f) = stop w v (rw e refl) (rw f refl)
  agree_then n n' ih pre t rest rest' le le' (past shorter) = past (omega (arith, back_then n (back_items n) (p (pre ++ t ∷ rest))))

  agree_pick : (n n' : ℕ) → ((pre : List Token) (t : Token) (rest rest' : List Token) → length pre < n → length pre < n' → Agree t rest rest' pre (read_items s p n (pre ++ t ∷ rest)) (read_items s p n' (pre ++ t ∷ rest'))) → (b : Bool) (pre : List Token) (t : Token) (rest rest' : List Token) → length pre ≤ n → length pre ≤ n' → Agree t rest rest' pre (pick b (then (p (pre ++ t ∷ rest)) (λ a mid. with_first a (read_items s p n mid))) (Took [] (pre ++ t ∷ rest))) (pick b (then (p (pre ++ t ∷ rest')) (λ a mid. with_first a (read_items s p n' mid))) (Took [] (pre ++ t ∷ rest')))
  agree_pick n n' ih true pre t rest rest' le le' = agree_then n n' ih pre t rest rest' le le' (one.local pre t rest rest')
  agree_pick n n' ih false pre t rest rest' le le' = took [] pre (omega arith) refl refl

  local_items : (n n' : ℕ) (pre : List Token) (t : Token) (rest rest' : List Token) → length pre < n → length pre < n' → Agree t rest rest' pre (read_items s p n (pre ++ t ∷ rest)) (read_items s p n' (pre ++ t ∷ rest'))
  local_items zero n' pre t rest rest' le le' = absurd (omega arith)
  local_items (suc n) zero pre t rest rest' le le' = absurd (omega arith)
  local_items (suc n) (suc n') [] t rest rest' le le' = agree_pick n n' (local_items n n') (s t) [] t rest rest' (omega arith) (omega arith)
  local_items (suc n) (suc n') (u ∷ pre) t rest rest' le le' = agree_pick n n' (local_items n n') (s u) (u ∷ pre) t rest rest' (omega arith) (omega arith)

  local : (pre : List Token) (t : Token) (rest rest' : List Token) → Agree t rest rest' pre (read_many s p (pre ++ t ∷ rest)) (read_many s p (pre ++ t ∷ rest'))
  local pre t rest rest' =
      local_items (length (pre ++ t ∷ rest)) (length (pre ++ t ∷ rest')) pre t rest rest' (omega (arith, length-append pre (t ∷ rest))) (omega (arith, length-append pre (t ∷ rest')))

  -- a text that goes on
  viable_first : (us : List Token) (t : Token) → Viable R (us ++ t ∷ []) → Viable (Each R) (us ++ t ∷ [])
  viable_first us t v =
      viable_more (Each R) us t v.0 (v.1 ∷ []) (us ++ t ∷ v.0, [], sym (append_empty (us ++ t ∷ v.0)), of_viable R us t v, refl)

  viable_later : (us vs : List Token) (a : A) (t : Token) → R us a → Viable (Each R) (vs ++ t ∷ []) → Viable (Each R) ((us ++ vs) ++ t ∷ [])
  viable_later us vs a t r v =
      viable_more (Each R) (us ++ vs) t v.0 (a ∷ v.1) (us, vs ++ t ∷ v.0, append_assoc us vs (t ∷ v.0), r, of_viable (Each R) vs t v)

  -- what is read of an item that others, or the token, follow
  item_onward : (us vs : List Token) (a : A) (xs : List A) (t : Token) (rest : List Token) → R us a → Each R vs xs → Meets F a (vs ++ t ∷ rest) (p (us ++ (vs ++ t ∷ rest))) ⊎ Viable (Each R) ((us ++ vs) ++ t ∷ [])
  item_onward us [] a xs t rest r k =
      elim (one.onward us a t rest r) [ inl h ↦ inl h | inr h ↦ inr (subst (λ z. Viable (Each R) (z ++ t ∷ [])) (sym (append_empty us)) (viable_first us t h)) ]
  item_onward us (v ∷ vs) a xs t rest r k = inl (one.complete us a ((v ∷ vs) ++ t ∷ rest) r (apart v (starts (v ∷ vs) xs k)))

  onward_none : (n : ℕ) (t : Token) (rest : List Token) (b : Bool) → s t ≡ b → Meets (FitEach F) [] (t ∷ rest) (pick b (then (p (t ∷ rest)) (λ a mid. with_first a (read_items s p n mid))) (Took [] (t ∷ rest))) ⊎ Viable (Each R) (t ∷ [])
  onward_none n t rest true h = inr (viable_first [] t (one.tight t h))
  onward_none n t rest false h = inl (inl refl)

  onward_more : (n : ℕ) (a : A) (xs : List A) (us vs : List Token) (t : Token) (rest : List Token) → R us a → Meets F a (vs ++ t ∷ rest) (p (us ++ (vs ++ t ∷ rest))) → Meets (FitEach F) xs (t ∷ rest) (read_items s p n (vs ++ t ∷ rest)) ⊎ Viable (Each R) (vs ++ t ∷ []) → Meets (FitEach F) (a ∷ xs) (t ∷ rest) (then (p (us ++ (vs ++ t ∷ rest))) (λ b mid. with_first b (read_items s p n mid))) ⊎ Viable (Each R) ((us ++ vs) ++ t ∷ [])
  onward_more n a xs us vs t rest r m (inl h) = inl (complete_more n a xs us vs (t ∷ rest) m h)
  onward_more n a xs us vs t rest r m (inr h) = inr (viable_later us vs a t r h)

  onward_items : (n : ℕ) (xs : List A) (ts : List Token) (t : Token) (rest : List Token) → length ts < n → Each R ts xs → Meets (FitEach F) xs (t ∷ rest) (read_items s p n (ts ++ t ∷ rest)) ⊎ Viable (Each R) (ts ++ t ∷ [])
  onward_items zero xs ts t rest le h = absurd (omega arith)
  onward_items (suc n) [] ts t rest le h =
      subst (λ z. Meets (FitEach F) [] (t ∷ rest) (read_items s p (suc n) (z ++ t ∷ rest)) ⊎ Viable (Each R) (z ++ t ∷ [])) (sym h) (onward_none n t rest (s t) refl)
  onward_items (suc n) (a ∷ xs) ts t rest le h =
      let begins = one.starts h.0 a h.3 in
      let some = positive h.0 begins in
      let sizes : length ts ≡ length h.0 + length h.1 = ap length h.2 ∙ length-append h.0 h.1 in
      let split : (h.0 ++ h.1) ++ t ∷ rest ≡ h.0 ++ (h.1 ++ t ∷ rest) = append_assoc h.0 h.1 (t ∷ rest) in
      let later = onward_items n xs h.1 t rest (omega arith) h.4 in
      let item : Meets (FitEach F) (a ∷ xs) (t ∷ rest) (then (p (h.0 ++ (h.1 ++ t ∷ rest))) (λ b mid. with_first b (read_items s p n mid))) ⊎ Viable (Each R) ((h.0 ++ h.1) ++ t ∷ []) =
      elim (item_onward h.0 h.1 a xs t rest h.3 h.4) [ inl k ↦ onward_more n a xs h.0 h.1 t rest h.3 k later | inr k ↦ inr k ] in
      let lead = lead_first h.0 (h.1 ++ t ∷ rest) begins in
      let picked : Meets (FitEach F) (a ∷ xs) (t ∷ rest) (read_items s p (suc n) (h.0 ++ (h.1 ++ t ∷ rest))) ⊎ Viable (Each R) ((h.0 ++ h.1) ++ t ∷ []) = rw lead item in
      subst (λ z. Meets (FitEach F) (a ∷ xs) (t ∷ rest) (read_items s p (suc n) (z ++ t ∷ rest)) ⊎ Viable (Each R) (z ++ t ∷ [])) (sym h.2) (subst (λ z. Meets (FitEach F) (a ∷ xs) (t ∷ rest) (read_items s p (suc n) z) ⊎ Viable (Each R) ((h.0 ++ h.1) ++ t ∷ [])) (sym split) picked)

  onward : (ts : List Token) (xs : List A) (t : Token) (rest : List Token) → Each R ts xs → Meets (FitEach F) xs (t ∷ rest) (read_many s p (ts ++ t ∷ rest)) ⊎ Viable (Each R) (ts ++ t ∷ [])
  onward ts xs t rest h = onward_items (length (ts ++ t ∷ rest)) xs ts t rest (omega (arith, length-append ts (t ∷ rest))) h

  -- what stands before the token that halts is a front of the items
  lead_halt : (vs : List Token) (t : Token) (w : Why) (rest : List Token) → IsNamed w → Enters s vs t w → Leading s vs t w → leads s (vs ++ t ∷ rest) ≡ true
  lead_halt (v ∷ vs) t w rest l x b = b
  lead_halt [] t Wanted rest l x b = absurd l
  lead_halt [] t (LeftOut n) rest l x b = x
  lead_halt [] t Deep rest l x b = b
  lead_halt [] t (BadOption o) rest l x b = b

  head_of : (ts : List Token) (t : Token) (rest : List Token) → leads s (ts ++ t ∷ rest) ≡ true → Clear m (ts ++ t ∷ rest)
  head_of [] t rest b = apart t b
  head_of (u ∷ us) t rest b = apart u b

  clear_halt : (us vs : List Token) (t : Token) (rest : List Token) → Begins s true us → leads s (vs ++ t ∷ rest) ≡ true → Clear m (us ++ (vs ++ t ∷ rest))
  clear_halt [] vs t rest b c = head_of vs t rest c
  clear_halt (u ∷ us) vs t rest b c = apart u b

  limited_more : (n : ℕ) (a : A) (w : Why) (us vs at : List Token) → Meets F a (vs ++ at) (p (us ++ (vs ++ at))) → HaltsBy w at (read_items s p n (vs ++ at)) → HaltsBy w at (then (p (us ++ (vs ++ at))) (λ b mid. with_first b (read_items s p n mid)))
  limited_more n a w us vs at (inl e) k = (k.0, k.1, rw (e, k.2) refl, k.3)
  limited_more n a w us vs at (inr h) k =
      (h.0, h.1 ++ vs, rw h.2 (ap (λ y. Stop h.0 y) (sym (append_assoc h.1 vs at))), λ z. absurd (omega (arith, length-append h.1 vs, h.5)))

  limited_items : (n : ℕ) (xs : List A) (us vs : List Token) (t : Token) (w : Why) (rest : List Token) → length us + length vs < n → Each R us xs → D vs t w → Enters s vs t w → IsNamed w → HaltsBy w (t ∷ rest) (read_items s p n (us ++ (vs ++ t ∷ rest)))
  limited_items zero xs us vs t w rest le h d x l = absurd (omega arith)
  limited_items (suc n) [] us vs t w rest le h d x l =
      let k = one.limited vs t w rest d l in
      (k.0, k.1, rw (h, lead_halt vs t w rest l x (one.limits vs t w d l), k.2) refl, k.3)
  limited_items (suc n) (a ∷ xs) us vs t w rest le h d x l =
      let begins = one.starts h.0 a h.3 in
      let some = positive h.0 begins in
      let sizes : length us ≡ length h.0 + length h.1 = ap length h.2 ∙ length-append h.0 h.1 in
      let k = limited_items n xs h.1 vs t w rest (omega arith) h.4 d x l in
      let whole : us ++ (vs ++ t ∷ rest) ≡ h.0 ++ (h.1 ++ (vs ++ t ∷ rest)) = ap (λ z. z ++ (vs ++ t ∷ rest)) h.2 ∙ append_assoc h.0 h.1 (vs ++ t ∷ rest) in
      let again : (h.1 ++ vs) ++ t ∷ rest ≡ h.1 ++ (vs ++ t ∷ rest) = append_assoc h.1 vs (t ∷ rest) in
      let met = one.complete h.0 a (h.1 ++ (vs ++ t ∷ rest)) h.3 (clear_halt h.1 vs t rest (starts h.1 xs h.4) (lead_halt vs t w rest l x (one.limits vs t w d l))) in
      let meets : Meets F a ((h.1 ++ vs) ++ t ∷ rest) (p (h.0 ++ ((h.1 ++ vs) ++ t ∷ rest))) = rw again met in
      let item : HaltsBy w (t ∷ rest) (then (p (h.0 ++ ((h.1 ++ vs) ++ t ∷ rest))) (λ b mid. with_first b (read_items s p n mid))) = limited_more n a w h.0 (h.1 ++ vs) (t ∷ rest) meets (rw again k) in
      rw (whole, lead_first h.0 (h.1 ++ (vs ++ t ∷ rest)) begins, ← again) item

  limited : (pre : List Token) (t : Token) (w : Why) (rest : List Token) → InEach s R D pre t w → IsNamed w → HaltsBy w (t ∷ rest) (read_many s p (pre ++ t ∷ rest))
  limited pre t w rest h l =
      let whole : pre ++ t ∷ rest ≡ h.1 ++ (h.2 ++ t ∷ rest) = ap (λ z. z ++ t ∷ rest) h.3 ∙ append_assoc h.1 h.2 (t ∷ rest) in
      let sizes : length pre ≡ length h.1 + length h.2 = ap length h.3 ∙ length-append h.1 h.2 in
      let k = limited_items (length (pre ++ t ∷ rest)) h.0 h.1 h.2 t w rest (omega (arith, length-append pre (t ∷ rest))) h.4 h.5 h.6 l in
      (k.0, k.1, ap (λ z. read_items s p (length (pre ++ t ∷ rest)) z) whole ∙ k.2, k.3)

  leading_both : (us vs : List Token) (t : Token) (w : Why) → Begins s true us → Leading s vs t w → Leading s (us ++ vs) t w
  leading_both [] vs t w b c = c
  leading_both (u ∷ us) vs t w b c = b

  limits : (pre : List Token) (t : Token) (w : Why) → InEach s R D pre t w → IsNamed w → Leading s pre t w
  limits pre t w h l = subst (λ z. Leading s z t w) (sym h.3) (leading_both h.1 h.2 t w (starts h.1 h.0 h.4) (one.limits h.2 t w h.5 l))

  pub many_laws : Laws (Each R) (FitEach F) (InEach s R D) (read_many s p) s true (many_more s m)
  many_laws = record {
    sound = λ ts. sound_items (length ts) ts;
    halted = λ ts. halted_items (length ts) ts;
    starts = starts;
    complete = complete;
    onward = onward;
    local = local;
    back = λ ts. back_items (length ts) ts;
    short = ([], [], refl);
    tight = λ t h. viable_first [] t (one.tight t h);
    nil = λ e. ([], refl);
    limited = limited;
    limits = limits;
  }

  -- more room than there are tokens changes nothing
  then_room : (n n' : ℕ) → ((ts : List Token) → length ts ≤ n → length ts ≤ n' → read_items s p n ts ≡ read_items s p n' ts) → (ts : List Token) (o : Out A) → p ts ≡ o → length ts ≤ suc n → length ts ≤ suc n' → then o (λ a mid. with_first a (read_items s p n mid)) ≡ then o (λ a mid. with_first a (read_items s p n' mid))
  then_room n n' ih ts (Took a mid) e le le' =
      let less = shorter ts a mid e in
      ap (λ z. with_first a z) (ih mid (omega arith) (omega arith))
  then_room n n' ih ts (Stop w at) e le le' = refl

  room : (n n' : ℕ) (ts : List Token) → length ts ≤ n → length ts ≤ n' → read_items s p n ts ≡ read_items s p n' ts
  room zero zero ts le le' = refl
  room zero (suc n') [] le le' = refl
  room zero (suc n') (t ∷ ts) le le' = absurd (omega arith)
  room (suc n) zero [] le le' = refl
  room (suc n) zero (t ∷ ts) le le' = absurd (omega arith)
  room (suc n) (suc n') ts le le' = ap (λ z. pick (leads s ts) z (Took [] ts)) (then_room n n' (room n n') ts (p ts) refl le le')

  pub many_end : (ts : List Token) → leads s ts ≡ false → read_many s p ts ≡ Took [] ts
  many_end [] e = refl
  many_end (t ∷ ts) e = rw e refl

  pub many_step : (ts : List Token) (a : A) (mid : List Token) → leads s ts ≡ true → p ts ≡ Took a mid → read_many s p ts ≡ with_first a (read_many s p mid)
  many_step [] a mid e f = absurd (cc e)
  many_step (t ∷ ts) a mid e f =
      let less = shorter (t ∷ ts) a mid f in
      rw (e, f) (ap (λ z. with_first a z) (room (length ts) (length mid) mid (omega arith) (omega arith)))

  pub many_stop : (ts : List Token) (w : Why) (at : List Token) → leads s ts ≡ true → p ts ≡ Stop w at → read_many s p ts ≡ Stop w at
  many_stop [] w at e f = absurd (cc e)
  many_stop (t ∷ ts) w at e f = rw (e, f) refl

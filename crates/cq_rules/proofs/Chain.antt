-- Names behind dots.
use Rattle.std.proofs.Common.{◌≡◌, ℕ, zero, suc, ◌≤◌, List, [], ◌∷◌, ◌++◌, length, Bool, true, false, ◌⊎◌, inl, inr, refl, sym, ap, arith, subst}
use Rattle.cq_lex.specs.declared.token.Token.{Token}
use Rattle.cq_rules.specs.declared.why.Why.{Why}
use Rattle.cq_rules.specs.declared.why.Why.TheVariants.{Wanted, LeftOut, Deep, BadOption}
use Rattle.cq_rules.specs.Outcome.{Out, Took, Stop, IsLimit, IsNamed, pick, with_first, dot, name, name_of, halt_over, read_over, read_link, read_dots, read_chain}
use Rattle.cq_rules.specs.Relations.{Chain, OverChain, Viable}
use Rattle.cq_rules.proofs.Laws.{Taken, Halted, AtHead, Begins, Clear, Meets, Leading, HaltsBy, left, Agree, took, stop, past, Laws}
use Rattle.cq_rules.proofs.Limited.{limited_by}
use Rattle.cq_rules.proofs.Seq.{viable_more}
use Rattle.cq_rules.proofs.Shortest.{a_name, name_is}

abbrev pub Names : Type 0
Names = List (List ℕ)

abbrev pub Within : ℕ → Names → Type 0
Within k ns = length ns ≤ k

first_took : (o : Out Names) (n : List ℕ) (ns : Names) (rest : List Token) → with_first n o ≡ Took ns rest → (ms : Names) × (o ≡ Took ms rest) × (ns ≡ n ∷ ms)
first_took (Took ms r) n ns rest e = (ms, let same : r ≡ rest = cc e in ap (λ z. Took ms z) same, cc e)
first_took (Stop w at) n ns rest e = absurd (cc e)

first_stop : (o : Out Names) (n : List ℕ) (w : Why) (at : List Token) → with_first n o ≡ Stop w at → o ≡ Stop w at
first_stop (Took ms r) n w at e = absurd (cc e)
first_stop (Stop v as') n w at e = cc e

-- the sound readings
sound_none : (k : ℕ) (ts : List Token) (ns : Names) (rest : List Token) → Took [] ts ≡ Took ns rest → Taken Chain (Within k) ts ns rest
sound_none k ts ns rest e =
    let none : [] ≡ ns = cc e in
    subst (λ z. Taken Chain (Within k) ts z rest) none (record { front = []; split = cc e; spells = refl; fits = omega arith })

sound_over : (b : Bool) (d : Token) (ts : List Token) (ns : Names) (rest : List Token) → read_over ts ≡ Took ns rest → ⊥
sound_over b d [] ns rest e = cc e
sound_over b d (t ∷ ts) ns rest e = sound_over_at (name t) t ts ns rest e
  where
    sound_over_at : (b : Bool) (t : Token) (ts : List Token) (ns : Names) (rest : List Token) → halt_over b (t ∷ ts) ≡ Took ns rest → ⊥
    sound_over_at true t ts ns rest e = cc e
    sound_over_at false t ts ns rest e = cc e

sound_name : (k : ℕ) (next : List Token → Out Names) → ((ts : List Token) (ns : Names) (rest : List Token) → next ts ≡ Took ns rest → Taken Chain (Within k) ts ns rest) → (b : Bool) (d t : Token) (ts : List Token) (ns : Names) (rest : List Token) → dot d ≡ true → name t ≡ b → pick b (with_first (name_of t) (next ts)) (Stop Wanted (t ∷ ts)) ≡ Took ns rest → Taken Chain (Within (suc k)) (d ∷ t ∷ ts) ns rest
sound_name k next ih false d t ts ns rest hd ht e = absurd (cc e)
sound_name k next ih true d t ts ns rest hd ht e =
    let h = first_took (next ts) (name_of t) ns rest e in
    let l = ih ts h.0 rest h.1 in
    subst (λ z. Taken Chain (Within (suc k)) (d ∷ t ∷ ts) z rest) (sym h.2) (record {
      front = d ∷ t ∷ l.front;
      split = ap (λ z. d ∷ t ∷ z) l.split;
      spells = (d, t, l.front, refl, hd, ht, refl, l.spells);
      fits = let fit = l.fits in omega arith;
    })

sound_link : (k : ℕ) (next : List Token → Out Names) → ((ts : List Token) (ns : Names) (rest : List Token) → next ts ≡ Took ns rest → Taken Chain (Within k) ts ns rest) → (b : Bool) (d : Token) (ts : List Token) (ns : Names) (rest : List Token) → dot d ≡ b → pick b (read_link next ts) (Took [] (d ∷ ts)) ≡ Took ns rest → Taken Chain (Within (suc k)) (d ∷ ts) ns rest
sound_link k next ih false d ts ns rest hd e = sound_none (suc k) (d ∷ ts) ns rest e
sound_link k next ih true d [] ns rest hd e = absurd (cc e)
sound_link k next ih true d (t ∷ ts) ns rest hd e = sound_name k next ih (name t) d t ts ns rest hd refl e

sound_last : (b : Bool) (d : Token) (ts : List Token) (ns : Names) (rest : List Token) → pick b (read_over ts) (Took [] (d ∷ ts)) ≡ Took ns rest → Taken Chain (Within 0) (d ∷ ts) ns rest
sound_last true d ts ns rest e = absurd (sound_over true d ts ns rest e)
sound_last false d ts ns rest e = sound_none 0 (d ∷ ts) ns rest e

sound : (k : ℕ) (ts : List Token) (ns : Names) (rest : List Token) → read_chain k ts ≡ Took ns rest → Taken Chain (Within k) ts ns rest
sound zero [] ns rest e = sound_none 0 [] ns rest e
sound (suc k) [] ns rest e = sound_none (suc k) [] ns rest e
sound zero (d ∷ ts) ns rest e = sound_last (dot d) d ts ns rest e
sound (suc k) (d ∷ ts) ns rest e = sound_link k (read_chain k) (sound k) (dot d) d ts ns rest refl e

-- the halts
move : (k : ℕ) (ts : List Token) (w w' : Why) (at at' : List Token) → w ≡ w' → at ≡ at' → Halted Chain (OverChain k) ts w at → Halted Chain (OverChain k) ts w' at'
move k ts w w' at at' e g h = subst (λ z. Halted Chain (OverChain k) ts w' z) g (subst (λ z. Halted Chain (OverChain k) ts z at) e h)

no_info : (k : ℕ) (front : List Token) (ts : List Token) → AtHead (λ t. OverChain k front t Wanted) ts
no_info k front [] = tt
no_info k front (t ∷ ts) = tt

halted_dot : (k : ℕ) (d : Token) (ts : List Token) → dot d ≡ true → Halted Chain (OverChain k) (d ∷ ts) Wanted ts
halted_dot k d ts hd =
    record {
      front = d ∷ [];
      split = refl;
      tail = a_name ∷ [];
      value = name_of a_name ∷ [];
      spells = (d, a_name, [], refl, hd, name_is, refl, refl);
      begins = λ z. absurd z;
      halts = no_info k (d ∷ []) ts;
    }

halted_deep : (d t : Token) (ts : List Token) → dot d ≡ true → name t ≡ true → Halted Chain (OverChain 0) (d ∷ t ∷ ts) Deep (t ∷ ts)
halted_deep d t ts hd ht =
    record {
      front = d ∷ [];
      split = refl;
      tail = t ∷ [];
      value = name_of t ∷ [];
      spells = (d, t, [], refl, hd, ht, refl, refl);
      begins = λ z. (t, ts, [], refl, refl);
      halts = (name_of t ∷ [], (d, t, [], refl, hd, ht, refl, refl), omega arith);
    }

halted_over : (b : Bool) (d t : Token) (ts : List Token) (w : Why) (at : List Token) → dot d ≡ true → name t ≡ b → halt_over b (t ∷ ts) ≡ Stop w at → Halted Chain (OverChain 0) (d ∷ t ∷ ts) w at
halted_over true d t ts w at hd ht e = move 0 (d ∷ t ∷ ts) Deep w (t ∷ ts) at (cc e) (cc e) (halted_deep d t ts hd ht)
halted_over false d t ts w at hd ht e = move 0 (d ∷ t ∷ ts) Wanted w (t ∷ ts) at (cc e) (cc e) (halted_dot 0 d (t ∷ ts) hd)

halted_last : (b : Bool) (d : Token) (ts : List Token) (w : Why) (at : List Token) → dot d ≡ b → pick b (read_over ts) (Took [] (d ∷ ts)) ≡ Stop w at → Halted Chain (OverChain 0) (d ∷ ts) w at
halted_last false d ts w at hd e = absurd (cc e)
halted_last true d [] w at hd e = move 0 (d ∷ []) Wanted w [] at (cc e) (cc e) (halted_dot 0 d [] hd)
halted_last true d (t ∷ ts) w at hd e = halted_over (name t) d t ts w at hd refl e

over_more : (k : ℕ) (d t : Token) (front : List Token) → dot d ≡ true → name t ≡ true → (w : Why) (u : Token) → OverChain k front u w → OverChain (suc k) (d ∷ t ∷ front) u w
over_more k d t front hd ht Wanted u h = tt
over_more k d t front hd ht (LeftOut n) u h = h
over_more k d t front hd ht Deep u h = (name_of t ∷ h.0, (d, t, front ++ u ∷ [], refl, hd, ht, refl, h.1), let more = h.2 in omega arith)
over_more k d t front hd ht (BadOption p) u h = h

over_more_at : (k : ℕ) (d t : Token) (front : List Token) → dot d ≡ true → name t ≡ true → (w : Why) (at : List Token) → AtHead (λ u. OverChain k front u w) at → AtHead (λ u. OverChain (suc k) (d ∷ t ∷ front) u w) at
over_more_at k d t front hd ht w [] h = tt
over_more_at k d t front hd ht w (u ∷ us) h = over_more k d t front hd ht w u h

halted_name : (k : ℕ) → ((ts : List Token) (w : Why) (at : List Token) → read_chain k ts ≡ Stop w at → Halted Chain (OverChain k) ts w at) → (b : Bool) (d t : Token) (ts : List Token) (w : Why) (at : List Token) → dot d ≡ true → name t ≡ b → pick b (with_first (name_of t) (read_chain k ts)) (Stop Wanted (t ∷ ts)) ≡ Stop w at → Halted Chain (OverChain (suc k)) (d ∷ t ∷ ts) w at
halted_name k ih false d t ts w at hd ht e = move (suc k) (d ∷ t ∷ ts) Wanted w (t ∷ ts) at (cc e) (cc e) (halted_dot (suc k) d (t ∷ ts) hd)
halted_name k ih true d t ts w at hd ht e =
    let h = ih ts w at (first_stop (read_chain k ts) (name_of t) w at e) in
    record {
      front = d ∷ t ∷ h.front;
      split = ap (λ z. d ∷ t ∷ z) h.split;
      tail = h.tail;
      value = name_of t ∷ h.value;
      spells = (d, t, h.front ++ h.tail, refl, hd, ht, refl, h.spells);
      begins = h.begins;
      halts = over_more_at k d t h.front hd ht w at h.halts;
    }

halted_link : (k : ℕ) → ((ts : List Token) (w : Why) (at : List Token) → read_chain k ts ≡ Stop w at → Halted Chain (OverChain k) ts w at) → (b : Bool) (d : Token) (ts : List Token) (w : Why) (at : List Token) → dot d ≡ b → pick b (read_link (read_chain k) ts) (Took [] (d ∷ ts)) ≡ Stop w at → Halted Chain (OverChain (suc k)) (d ∷ ts) w at
halted_link k ih false d ts w at hd e = absurd (cc e)
halted_link k ih true d [] w at hd e = move (suc k) (d ∷ []) Wanted w [] at (cc e) (cc e) (halted_dot (suc k) d [] hd)
halted_link k ih true d (t ∷ ts) w at hd e = halted_name k ih (name t) d t ts w at hd refl e

halted : (k : ℕ) (ts : List Token) (w : Why) (at : List Token) → read_chain k ts ≡ Stop w at → Halted Chain (OverChain k) ts w at
halted zero [] w at e = absurd (cc e)
halted (suc k) [] w at e = absurd (cc e)
halted zero (d ∷ ts) w at e = halted_last (dot d) d ts w at refl e
halted (suc k) (d ∷ ts) w at e = halted_link k (halted k) (dot d) d ts w at refl e

starts : (ts : List Token) (ns : Names) → Chain ts ns → Begins dot true ts
starts ts [] h = subst (Begins dot true) (sym h) refl
starts ts (n ∷ ns) h = subst (Begins dot true) (sym h.3) h.4

-- completeness
meets_first : (k : ℕ) (o : Out Names) (n : List ℕ) (ns : Names) (rest : List Token) → Meets (Within k) ns rest o → Meets (Within (suc k)) (n ∷ ns) rest (with_first n o)
meets_first k o n ns rest (inl e) = inl (rw e refl)
meets_first k o n ns rest (inr h) = inr (h.0, h.1, rw h.2 refl, h.3, (λ z. h.4 (omega arith)), h.5)

complete_none : (k : ℕ) (rest : List Token) → Clear dot rest → Meets (Within k) [] rest (read_chain k rest)
complete_none zero [] c = inl refl
complete_none (suc k) [] c = inl refl
complete_none zero (t ∷ rest) c = rw c (inl refl)
complete_none (suc k) (t ∷ rest) c = rw c (inl refl)

complete : (k : ℕ) (ns : Names) (ts : List Token) (rest : List Token) → Chain ts ns → Clear dot rest → Meets (Within k) ns rest (read_chain k (ts ++ rest))
complete k [] ts rest h c = subst (λ z. Meets (Within k) [] rest (read_chain k (z ++ rest))) (sym h) (complete_none k rest c)
complete zero (n ∷ ns) ts rest h c =
    subst (λ z. Meets (Within 0) (n ∷ ns) rest (read_chain 0 (z ++ rest))) (sym h.3) (rw (h.4, h.5) (inr (Deep, h.1 ∷ h.2, refl, tt, (λ z. omega arith), omega arith)))
complete (suc k) (n ∷ ns) ts rest h c =
    subst (λ z. Meets (Within (suc k)) (n ∷ ns) rest (read_chain (suc k) (z ++ rest))) (sym h.3) (rw (h.4, h.5, h.6) (meets_first k (read_chain k (h.2 ++ rest)) (name_of h.1) ns rest (complete k ns h.2 rest h.7 c)))

-- locality
left_first : (o : Out Names) (n : List ℕ) → left (with_first n o) ≡ left o
left_first (Took ns rest) n = refl
left_first (Stop w at) n = refl

back_name : (b : Bool) (o : Out Names) (t : Token) (ts : List Token) → length (left o) ≤ length ts → length (left (pick b (with_first (name_of t) o) (Stop Wanted (t ∷ ts)))) ≤ length (t ∷ ts)
back_name true o t ts le = rw (left_first o (name_of t)) (omega arith)
back_name false o t ts le = omega arith

back_over : (b : Bool) (t : Token) (ts : List Token) → length (left (halt_over b (t ∷ ts))) ≤ length (t ∷ ts)
back_over true t ts = omega arith
back_over false t ts = omega arith

back_dots : (link : List Token → Out Names) → ((ts : List Token) → length (left (link ts)) ≤ length ts) → (b : Bool) (d : Token) (ts : List Token) → length (left (pick b (link ts) (Took [] (d ∷ ts)))) ≤ length (d ∷ ts)
back_dots link h true d ts = omega (arith, h ts)
back_dots link h false d ts = omega arith

back_overs : (ts : List Token) → length (left (read_over ts)) ≤ length ts
back_overs [] = omega arith
back_overs (t ∷ ts) = back_over (name t) t ts

back_link : (next : List Token → Out Names) → ((ts : List Token) → length (left (next ts)) ≤ length ts) → (ts : List Token) → length (left (read_link next ts)) ≤ length ts
back_link next h [] = omega arith
back_link next h (t ∷ ts) = back_name (name t) (next ts) t ts (h ts)

back : (k : ℕ) (ts : List Token) → length (left (read_chain k ts)) ≤ length ts
back zero [] = omega arith
back (suc k) [] = omega arith
back zero (d ∷ ts) = back_dots read_over back_overs (dot d) d ts
back (suc k) (d ∷ ts) = back_dots (read_link (read_chain k)) (back_link (read_chain k) (back k)) (dot d) d ts

-- what holds of the readings behind the dot
abbrev Local : (List Token → Out Names) → Type 0
Local p = (pre : List Token) (t : Token) (rest rest' : List Token) → Agree t rest rest' pre (p (pre ++ t ∷ rest)) (p (pre ++ t ∷ rest'))

wider : (o o' : Out Names) (u : Token) (pre : List Token) (t : Token) (rest rest' : List Token) → Agree t rest rest' pre o o' → Agree t rest rest' (u ∷ pre) o o'
wider o o' u pre t rest rest' (took a q le e f) = took a q (omega arith) e f
wider o o' u pre t rest rest' (stop w q e f) = stop w q e f
wider o o' u pre t rest rest' (past le) = past le

local_dots_here : (link : List Token → Out Names) → ((ts : List Token) → length (left (link ts)) ≤ length ts) → (b : Bool) (t : Token) (rest rest' : List Token) → Agree t rest rest' [] (pick b (link rest) (Took [] (t ∷ rest))) (pick b (link rest') (Took [] (t ∷ rest')))
local_dots_here link h true t rest rest' = past (h rest)
local_dots_here link h false t rest rest' = took [] [] (omega arith) refl refl

local_dots_at : (link : List Token → Out Names) → Local link → (b : Bool) (u : Token) (pre : List Token) (t : Token) (rest rest' : List Token) → Agree t rest rest' (u ∷ pre) (pick b (link (pre ++ t ∷ rest)) (Took [] (u ∷ (pre ++ t ∷ rest)))) (pick b (link (pre ++ t ∷ rest')) (Took [] (u ∷ (pre ++ t ∷ rest'))))
local_dots_at link h true u pre t rest rest' = wider _ _ u pre t rest rest' (h pre t rest rest')
local_dots_at link h false u pre t rest rest' = took [] (u ∷ pre) (omega arith) refl refl

local_dots : (link : List Token → Out Names) → ((ts : List Token) → length (left (link ts)) ≤ length ts) → Local link → Local (read_dots link)
local_dots link b h [] t rest rest' = local_dots_here link b (dot t) t rest rest'
local_dots link b h (u ∷ pre) t rest rest' = local_dots_at link h (dot u) u pre t rest rest'

local_over_at : (b : Bool) (pre : List Token) (t : Token) (rest rest' : List Token) → (q : List Token) → Agree t rest rest' pre (halt_over b (q ++ t ∷ rest)) (halt_over b (q ++ t ∷ rest'))
local_over_at true pre t rest rest' q = stop Deep q refl refl
local_over_at false pre t rest rest' q = stop Wanted q refl refl

local_over : Local read_over
local_over [] t rest rest' = local_over_at (name t) [] t rest rest' []
local_over (u ∷ pre) t rest rest' = local_over_at (name u) (u ∷ pre) t rest rest' (u ∷ pre)

local_first : (o o' : Out Names) (n : List ℕ) (pre : List Token) (t : Token) (rest rest' : List Token) → Agree t rest rest' pre o o' → Agree t rest rest' pre (with_first n o) (with_first n o')
local_first o o' n pre t rest rest' (took a q le e f) = took (n ∷ a) q le (rw e refl) (rw f refl)
local_first o o' n pre t rest rest' (stop w q e f) = stop w q (rw e refl) (rw f refl)
local_first o o' n pre t rest rest' (past le) = past (rw (left_first o n) le)

local_link_here : (next : List Token → Out Names) → ((ts : List Token) → length (left (next ts)) ≤ length ts) → (b : Bool) (t : Token) (rest rest' : List Token) → Agree t rest rest' [] (pick b (with_first (name_of t) (next rest)) (Stop Wanted (t ∷ rest))) (pick b (with_first (name_of t) (next rest')) (Stop Wanted (t ∷ rest')))
local_link_here next h true t rest rest' = past (rw (left_first (next rest) (name_of t)) (h rest))
local_link_here next h false t rest rest' = stop Wanted [] refl refl

local_link_at : (next : List Token → Out Names) → Local next → (b : Bool) (u : Token) (pre : List Token) (t : Token) (rest rest' : List Token) → Agree t rest rest' (u ∷ pre) (pick b (with_first (name_of u) (next (pre ++ t ∷ rest))) (Stop Wanted (u ∷ (pre ++ t ∷ rest)))) (pick b (with_first (name_of u) (next (pre ++ t ∷ rest'))) (Stop Wanted (u ∷ (pre ++ t ∷ rest'))))
local_link_at next h true u pre t rest rest' = wider _ _ u pre t rest rest' (local_first _ _ (name_of u) pre t rest rest' (h pre t rest rest'))
local_link_at next h false u pre t rest rest' = stop Wanted (u ∷ pre) refl refl

local_link : (next : List Token → Out Names) → ((ts : List Token) → length (left (next ts)) ≤ length ts) → Local next → Local (read_link next)
local_link next b h [] t rest rest' = local_link_here next b (name t) t rest rest'
local_link next b h (u ∷ pre) t rest rest' = local_link_at next h (name u) u pre t rest rest'

local : (k : ℕ) → Local (read_chain k)
local zero = local_dots read_over back_overs local_over
local (suc k) = local_dots (read_link (read_chain k)) (back_link (read_chain k) (back k)) (local_link (read_chain k) (back k) (local k))

only_deep : (k : ℕ) (front : List Token) (t : Token) (w : Why) → OverChain k front t w → IsLimit w → w ≡ Deep
only_deep k front t Wanted h l = absurd l
only_deep k front t (LeftOut n) h l = absurd l
only_deep k front t Deep h l = refl
only_deep k front t (BadOption p) h l = absurd h

limited : (k : ℕ) (pre : List Token) (t : Token) (w : Why) (rest : List Token) → OverChain k pre t w → IsNamed w → HaltsBy w (t ∷ rest) (read_chain k (pre ++ t ∷ rest))
limited k pre t Wanted rest d lim = absurd lim
limited k pre t (LeftOut n) rest d lim = absurd d
limited k pre t Deep rest d lim =
    limited_by Chain (Within k) (OverChain k) (read_chain k) (sound k) (halted k) (λ ts ns r. complete k ns ts [] r tt) (local k) (λ t. Unit {0}) (λ front t w h l. tt) (only_deep k) pre t [] rest d.0 d.1 (λ z. let more = d.2 in omega arith) tt
limited k pre t (BadOption p) rest d lim = absurd d

begins_halt : (pre : List Token) (t : Token) → Begins dot true (pre ++ t ∷ []) → Leading dot pre t Deep
begins_halt [] t b = b
begins_halt (u ∷ us) t b = b

limits : (k : ℕ) (pre : List Token) (t : Token) (w : Why) → OverChain k pre t w → IsNamed w → Leading dot pre t w
limits k pre t Wanted d lim = absurd lim
limits k pre t (LeftOut n) d lim = absurd d
limits k pre t Deep d lim = begins_halt pre t (starts (pre ++ t ∷ []) d.0 d.1)
limits k pre t (BadOption p) d lim = absurd d

pub chain_more : (ns : Names) (vs : List Token) (d n : Token) → Chain vs ns → dot d ≡ true → name n ≡ true → Chain (vs ++ d ∷ n ∷ []) (ns ++ name_of n ∷ [])
chain_more [] vs d n h hd hn = (d, n, [], ap (λ z. z ++ d ∷ n ∷ []) h, hd, hn, refl, refl)
chain_more (m ∷ ns) vs d n h hd hn = (h.0, h.1, h.2 ++ d ∷ n ∷ [], ap (λ z. z ++ d ∷ n ∷ []) h.3, h.4, h.5, h.6, chain_more ns h.2 d n h.7 hd hn)

goes_on : (ns : Names) (ts : List Token) (t : Token) → Chain ts ns → dot t ≡ true → Viable Chain (ts ++ t ∷ [])
goes_on ns ts t h hd = viable_more Chain ts t (a_name ∷ []) (ns ++ name_of a_name ∷ []) (chain_more ns ts t a_name h hd name_is)

onward_at : (k : ℕ) (b : Bool) (ts : List Token) (ns : Names) (t : Token) (rest : List Token) → dot t ≡ b → Chain ts ns → Meets (Within k) ns (t ∷ rest) (read_chain k (ts ++ t ∷ rest)) ⊎ Viable Chain (ts ++ t ∷ [])
onward_at k true ts ns t rest e h = inr (goes_on ns ts t h e)
onward_at k false ts ns t rest e h = inl (complete k ns ts (t ∷ rest) h e)

pub chain_laws : (k : ℕ) → Laws Chain (Within k) (OverChain k) (read_chain k) dot true dot
chain_laws k = record {
  sound = sound k;
  halted = halted k;
  starts = starts;
  complete = λ ts ns rest. complete k ns ts rest;
  onward = λ ts ns t rest. onward_at k (dot t) ts ns t rest refl;
  local = local k;
  back = back k;
  short = ([], [], refl);
  tight = λ t e. goes_on [] [] t refl e;
  nil = λ e. ([], refl);
  limited = limited k;
  limits = limits k;
}

-- Bytes have one list of tokens or one refusal; and what the loop over the fronts keeps.
use Rattle.std.proofs.Common.{◌≡◌, ℕ, ◌+◌, ◌-◌, ◌<◌, ◌≤◌, ◌^◌, List, [], ◌∷◌, ◌++◌, length, take, refl, sym, ap, ◌∙◌, subst, append_assoc, arith, inl, inr, ◌⊎◌}
use Rattle.std.proofs.lemmas.List.{append_cancel_right, length-append}
use Rattle.std.proofs.lemmas.List.Sums.{suffix_len-le-length, count_by-le-length}
use Rattle.std.proofs.Math.Seq.{take-append_seam}
use Rattle.std.specs.Prelude.{Err}
use Rattle.cq_base.specs.declared.place.Place.{Place}
use Rattle.cq_lex.specs.declared.token.Token.{Token}
use Rattle.cq_lex.specs.declared.token.Kind.{Kind}
use Rattle.cq_lex.specs.declared.token.Kind.TheVariants as kinds
use Rattle.cq_lex.specs.declared.refusal.LexRefusal.{LexRefusal}
use Rattle.cq_lex.specs.declared.refusal.LexRefusal.TheVariants as refusals
use Rattle.cq_lex.specs.declared.fault.Fault.{Fault}
use Rattle.cq_lex.specs.declared.fault.Fault.TheVariants as faults
use Rattle.cq_lex.specs.Place.{place_behind, stays_on_line, is_line_feed}
use Rattle.cq_lex.specs.Front.{Cause, BadByte, OpenText, OpenComment, LongName, Done, Gap, Next, Fails, front, Gives, passed, LiesIn, told}
use Rattle.cq_lex.specs.Tokens.{IsGap, Spells, CannotMake, token_behind, Lexes, ends, gap, token, Refuses, here, behind_gap, behind_token, Tokens, IsRefused}
use Rattle.cq_lex.proofs.Rules.{refusal_of, ByRules, by_rules}
use Rattle.cq_lex.proofs.Unique.{Told, gap_front, token_front, fault_front}

at_end : front [] ≡ Done
unfolding front
at_end = refl

at_gap : {bs skipped after : List ℕ} → bs ≡ skipped ++ after → IsGap skipped after → front bs ≡ Gap after
at_gap {skipped} {after} split is = ap front split ∙ gap_front skipped after is

at_token : {bs after : List ℕ} (kind : Kind) (spelled : List ℕ) → bs ≡ spelled ++ after → Spells kind spelled after → front bs ≡ Next kind after
at_token {after} kind spelled split is = ap front split ∙ token_front kind spelled after is

same_front : {bs : List ℕ} (front front' : List ℕ) {rest rest' : List ℕ} → bs ≡ front ++ rest → bs ≡ front' ++ rest' → rest ≡ rest' → front ≡ front'
same_front front front' {rest} {rest'} e e' same = append_cancel_right front front' rest (sym e ∙ e' ∙ ap (λ z. front' ++ z) (sym same))

same_lexes : (before : List ℕ) {bs bs' : List ℕ} {front front' : List ℕ} {ts : List Token} → front ≡ front' → bs ≡ bs' → Lexes (before ++ front') bs' ts → Lexes (before ++ front) bs ts
same_lexes before {bs} {bs'} {front} {front'} {ts} e f h = subst (λ z. Lexes (before ++ z) bs ts) (sym e) (subst (λ z. Lexes (before ++ front') z ts) (sym f) h)

same_refuses : (before : List ℕ) {bs bs' : List ℕ} {front front' : List ℕ} {r : LexRefusal} → front ≡ front' → bs ≡ bs' → Refuses (before ++ front') bs' r → Refuses (before ++ front) bs r
same_refuses before {bs} {bs'} {front} {front'} {r} e f h = subst (λ z. Refuses (before ++ z) bs r) (sym e) (subst (λ z. Refuses (before ++ front') z r) (sym f) h)

-- the tokens are one list
pub one_list : {before bs : List ℕ} {ts us : List Token} → Lexes before bs ts → Lexes before bs us → ts ≡ us
one_list ends ends = refl
one_list ends (gap split is y) = absurd (cc (at_end, at_gap split is))
one_list ends (token kind spelled split is y) = absurd (cc (at_end, at_token kind spelled split is))
one_list (gap split is x) ends = absurd (cc (at_end, at_gap split is))
one_list (gap {gap = g} {after} split is x) (gap {gap = g'} {after = after'} split' is' y) =
    let same : after ≡ after' = cc (at_gap split is, at_gap split' is') in
    one_list x (same_lexes _ (same_front g g' split split' same) same y)
one_list (gap split is x) (token kind spelled split' is' y) = absurd (cc (at_gap split is, at_token kind spelled split' is'))
one_list (token kind spelled split is x) ends = absurd (cc (at_end, at_token kind spelled split is))
one_list (token kind spelled split is x) (gap split' is' y) = absurd (cc (at_gap split' is', at_token kind spelled split is))
one_list (token {before} {after} kind spelled split is x) (token {after = after'} kind' spelled' split' is' y) =
    let same : after ≡ after' = cc (at_token kind spelled split is, at_token kind' spelled' split' is') in
    let kinds_same : kind ≡ kind' = cc (at_token kind spelled split is, at_token kind' spelled' split' is') in
    let fronts_same : spelled ≡ spelled' = same_front spelled spelled' split split' same in
    let others = one_list x (same_lexes _ fronts_same same y) in
    let tokens_same : token_behind before kind spelled ≡ token_behind before kind' spelled' = (λ i. token_behind before (kinds_same i) (fronts_same i)) in
    (λ i. tokens_same i ∷ others i)

-- bytes that have tokens are not refused
pub not_both : {before bs : List ℕ} {ts : List Token} {r : LexRefusal} → Lexes before bs ts → Refuses before bs r → ⊥
not_both {before} {bs} {r} ends (here c) = let t = fault_front before [] r c in cc (at_end, t.found)
not_both ends (behind_gap split is y) = cc (at_end, at_gap split is)
not_both ends (behind_token kind spelled split is y) = cc (at_end, at_token kind spelled split is)
not_both {before} {bs} {r} (gap split is x) (here c) = let t = fault_front before bs r c in cc (at_gap split is, t.found)
not_both (gap {gap = g} {after} split is x) (behind_gap {gap = g'} {after = after'} split' is' y) =
    let same : after ≡ after' = cc (at_gap split is, at_gap split' is') in
    not_both x (same_refuses _ (same_front g g' split split' same) same y)
not_both (gap split is x) (behind_token kind spelled split' is' y) = cc (at_gap split is, at_token kind spelled split' is')
not_both {before} {bs} {r} (token kind spelled split is x) (here c) = let t = fault_front before bs r c in cc (at_token kind spelled split is, t.found)
not_both (token kind spelled split is x) (behind_gap split' is' y) = cc (at_gap split' is', at_token kind spelled split is)
not_both (token {after} kind spelled split is x) (behind_token {after = after'} kind' spelled' split' is' y) =
    let same : after ≡ after' = cc (at_token kind spelled split is, at_token kind' spelled' split' is') in
    not_both x (same_refuses _ (same_front spelled spelled' split split' same) same y)

one_fault : {before bs : List ℕ} {r r' : LexRefusal} → Told before bs r → Told before bs r' → r ≡ r'
one_fault {before} {bs} {r} {r'} t t' =
    let same_cause : t.cause ≡ t'.cause = cc (t.found, t'.found) in
    let same_at : t.at ≡ t'.at = cc (t.found, t'.found) in
    let same_good : t.good ≡ t'.good = same_front t.good t'.good t.split t'.split same_at in
    t.told ∙ (λ i. refusal_of (same_cause i) (place_behind (before ++ same_good i))) ∙ sym t'.told

-- a refusal is the only one
pub one_refusal : {before bs : List ℕ} {r r' : LexRefusal} → Refuses before bs r → Refuses before bs r' → r ≡ r'
one_refusal {before} {bs} {r} {r'} (here c) (here c') = one_fault (fault_front before bs r c) (fault_front before bs r' c')
one_refusal {before} {bs} {r} {r'} (here c) (behind_gap split is y) = let t = fault_front before bs r c in absurd (cc (at_gap split is, t.found))
one_refusal {before} {bs} {r} {r'} (here c) (behind_token kind spelled split is y) = let t = fault_front before bs r c in absurd (cc (at_token kind spelled split is, t.found))
one_refusal {before} {bs} {r} {r'} (behind_gap split is x) (here c) = let t = fault_front before bs r' c in absurd (cc (at_gap split is, t.found))
one_refusal (behind_gap {gap = g} {after} split is x) (behind_gap {gap = g'} {after = after'} split' is' y) =
    let same : after ≡ after' = cc (at_gap split is, at_gap split' is') in
    one_refusal x (same_refuses _ (same_front g g' split split' same) same y)
one_refusal (behind_gap split is x) (behind_token kind spelled split' is' y) = absurd (cc (at_gap split is, at_token kind spelled split' is'))
one_refusal {before} {bs} {r} {r'} (behind_token kind spelled split is x) (here c) = let t = fault_front before bs r' c in absurd (cc (at_token kind spelled split is, t.found))
one_refusal (behind_token kind spelled split is x) (behind_gap split' is' y) = absurd (cc (at_gap split' is', at_token kind spelled split is))
one_refusal (behind_token {after} kind spelled split is x) (behind_token {after = after'} kind' spelled' split' is' y) =
    let same : after ≡ after' = cc (at_token kind spelled split is, at_token kind' spelled' split' is') in
    one_refusal x (same_refuses _ (same_front spelled spelled' split split' same) same y)

-- the bytes before the last ones
pub passed_is : {bytes : List ℕ} (front rest : List ℕ) → bytes ≡ front ++ rest → passed bytes rest ≡ front
passed_is {bytes} front rest e =
    let len : length bytes - length rest ≡ length front = let both = ap length e ∙ length-append front rest in omega arith in
    ap (λ z. take z bytes) len ∙ ap (λ z. take (length front) z) e ∙ take-append_seam front rest

-- `rest`, which ends `bytes`, begins with some bytes, and `after` follows
pub record Moves (bytes rest after front : List ℕ) : Type 0 where
  pub split : rest ≡ front ++ after
  pub some : 0 < length front
  pub all : passed bytes after ≡ passed bytes rest ++ front
  pub whole : passed bytes after ++ after ≡ bytes
  pub own : passed rest after ≡ front
  pub shorter : length after < length rest
  pub within : length rest ≤ length bytes

module _ (bytes rest : List ℕ) (split : passed bytes rest ++ rest ≡ bytes) where
  moves : (s after : List ℕ) → rest ≡ s ++ after → 0 < length s → Moves bytes rest after s
  moves s after e some =
      let parts : bytes ≡ (passed bytes rest ++ s) ++ after = sym split ∙ ap (λ z. passed bytes rest ++ z) e ∙ sym (append_assoc (passed bytes rest) s after) in
      let all : passed bytes after ≡ passed bytes rest ++ s = passed_is (passed bytes rest ++ s) after parts in
      let len : length rest ≡ length s + length after = ap length e ∙ length-append s after in
      let long : length bytes ≡ length (passed bytes rest) + length rest = sym (ap length split) ∙ length-append (passed bytes rest) rest in
      record { split = e; some = some; all = all; whole = ap (λ z. z ++ after) all ∙ sym parts; own = passed_is s after e; shorter = omega arith; within = omega arith }

  pub gap_moves : (after : List ℕ) → front rest ≡ Gap after → (s : List ℕ) × Moves bytes rest after s × IsGap s after
  gap_moves after e =
      let (s, is_split, is, some) = subst (ByRules rest) e (by_rules rest) in
      (s, moves s after is_split some, is)

  pub token_moves : (kind : Kind) (after : List ℕ) → front rest ≡ Next kind after → (s : List ℕ) × Moves bytes rest after s × Spells kind s after
  token_moves kind after e =
      let (s, is_split, is, some) = subst (ByRules rest) e (by_rules rest) in
      (s, moves s after is_split some, is)

  -- the loop's place fits
  pub room : (place : Place) → place ≡ place_behind (passed bytes rest) → length bytes ≤ 2 ^ 23 → (place.line + length rest < 2 ^ 31) × (place.col + length rest < 2 ^ 31)
  room place is short =
      let long : length bytes ≡ length (passed bytes rest) + length rest = sym (ap length split) ∙ length-append (passed bytes rest) rest in
      let lines = count_by-le-length is_line_feed (passed bytes rest) in
      let columns = suffix_len-le-length stays_on_line (passed bytes rest) in
      rw is (omega arith, omega arith)

fault_split : (rest : List ℕ) (cause : Cause) (at : List ℕ) → front rest ≡ Fails cause at → (before : List ℕ) → CannotMake before rest (refusal_of cause (place_behind (before ++ passed rest at)))
fault_split rest cause at e before =
    let (good, split, cannot) = subst (ByRules rest) e (by_rules rest) in
    subst (λ z. CannotMake before rest (refusal_of cause (place_behind (before ++ z)))) (sym (passed_is good at split)) (cannot before)

fault_within : (rest : List ℕ) (cause : Cause) (at : List ℕ) → front rest ≡ Fails cause at → length at ≤ length rest
fault_within rest cause at e =
    let (good, split, cannot) = subst (ByRules rest) e (by_rules rest) in
    let len : length rest ≡ length good + length at = ap length split ∙ length-append good at in
    omega arith

pub lies_in : (rest : List ℕ) (f : Fault) → Gives (Err f) (front rest) → LiesIn f rest
lies_in rest faults.Memory e = tt
lies_in rest (faults.BadByte at) e = fault_within rest BadByte at.now e
lies_in rest (faults.OpenText at) e = fault_within rest OpenText at.now e
lies_in rest (faults.OpenComment at) e = fault_within rest OpenComment at.now e
lies_in rest (faults.LongName at) e = fault_within rest LongName at.now e

module _ (bytes before rest : List ℕ) (refusal : (r : LexRefusal) → Refuses before rest r → Refuses [] bytes r) where
  pub is_refused : (f : Fault) → Gives (Err f) (front rest) → IsRefused bytes (told f before rest)
  is_refused faults.Memory e = tt
  is_refused (faults.BadByte at) e = refusal _ (here (fault_split rest BadByte at.now e before))
  is_refused (faults.OpenText at) e = refusal _ (here (fault_split rest OpenText at.now e before))
  is_refused (faults.OpenComment at) e = refusal _ (here (fault_split rest OpenComment at.now e before))
  is_refused (faults.LongName at) e = refusal _ (here (fault_split rest LongName at.now e before))

-- a refusal has a cause, but for want of memory
pub refused_only : (bytes : List ℕ) (r : LexRefusal) → IsRefused bytes r → (ts : List Token) → Tokens bytes ts → r ≡ refusals.Memory
refused_only bytes refusals.Memory h ts k = refl
refused_only bytes (refusals.BadByte place) h ts k = absurd (not_both k h)
refused_only bytes (refusals.OpenText place) h ts k = absurd (not_both k h)
refused_only bytes (refusals.OpenComment place) h ts k = absurd (not_both k h)
refused_only bytes (refusals.LongName place) h ts k = absurd (not_both k h)

pub place_moves : {bytes rest after s : List ℕ} → Moves bytes rest after s → {place : Place} → place ≡ place_behind (passed bytes rest) → (next : Place) → ((before : List ℕ) → place ≡ place_behind before → next ≡ place_behind (before ++ passed rest after)) → next ≡ place_behind (passed bytes after)
place_moves {bytes} {rest} {after} {s} m at next h =
    h (passed bytes rest) at ∙ ap (λ z. place_behind (passed bytes rest ++ z)) m.own ∙ ap place_behind (sym m.all)

-- what the loop keeps behind a gap, behind a token, and at the end
module _ (bytes rest : List ℕ) (items : List Token) (tokens : (ts : List Token) → Lexes (passed bytes rest) rest ts → Tokens bytes (items ++ ts)) where
  pub gap_tokens : (after s : List ℕ) → Moves bytes rest after s → IsGap s after → (ts : List Token) → Lexes (passed bytes after) after ts → Tokens bytes (items ++ ts)
  gap_tokens after s m is ts h = tokens ts (gap m.split is (subst (λ z. Lexes z after ts) m.all h))

  pub token_tokens : (kind : Kind) (after s : List ℕ) → Moves bytes rest after s → Spells kind s after → (t : Token) (pushed : List Token) → pushed ≡ items ++ t ∷ [] → t ≡ token_behind (passed bytes rest) kind s → (ts : List Token) → Lexes (passed bytes after) after ts → Tokens bytes (pushed ++ ts)
  token_tokens kind after s m is t pushed p same ts h =
      let all : pushed ++ ts ≡ items ++ t ∷ ts = ap (λ z. z ++ ts) p ∙ append_assoc items (t ∷ []) ts in
      subst (Tokens bytes) (sym all) (tokens (t ∷ ts) (subst (λ z. Lexes (passed bytes rest) rest (z ∷ ts)) (sym same) (token kind s m.split is (subst (λ z. Lexes z after ts) m.all h))))

  pub end_tokens : (t : Token) (pushed : List Token) → rest ≡ [] → pushed ≡ items ++ t ∷ [] → t ≡ token_behind (passed bytes rest) kinds.End [] → Tokens bytes pushed
  end_tokens t pushed none p same =
      subst (Tokens bytes) (sym p) (tokens (t ∷ []) (subst (λ z. Lexes (passed bytes rest) z (t ∷ [])) (sym none) (subst (λ z. Lexes (passed bytes rest) [] (z ∷ [])) (sym same) ends)))

module _ (bytes rest : List ℕ) (refusal : (r : LexRefusal) → Refuses (passed bytes rest) rest r → Refuses [] bytes r) where
  pub gap_refusal : (after s : List ℕ) → Moves bytes rest after s → IsGap s after → (r : LexRefusal) → Refuses (passed bytes after) after r → Refuses [] bytes r
  gap_refusal after s m is r h = refusal r (behind_gap m.split is (subst (λ z. Refuses z after r) m.all h))

  pub token_refusal : (kind : Kind) (after s : List ℕ) → Moves bytes rest after s → Spells kind s after → (r : LexRefusal) → Refuses (passed bytes after) after r → Refuses [] bytes r
  token_refusal kind after s m is r h = refusal r (behind_token kind s m.split is (subst (λ z. Refuses z after r) m.all h))

pub nothing_left : (rest : List ℕ) → front rest ≡ Done → rest ≡ []
nothing_left rest e = subst (ByRules rest) e (by_rules rest)

-- the token that the loop makes
pub made_token : {bytes rest after s : List ℕ} → passed bytes rest ++ rest ≡ bytes → Moves bytes rest after s → (kind : Kind) (from to : ℕ) (place : Place) → from ≡ length bytes - length rest → to ≡ length bytes - length after → place ≡ place_behind (passed bytes rest) → let t : Token = record { kind = kind; from = from; to = to; place = place } in t ≡ token_behind (passed bytes rest) kind s
made_token {bytes} {rest} {after} {s} split m kind from to place f t at =
    let long : length bytes ≡ length (passed bytes rest) + length rest = sym (ap length split) ∙ length-append (passed bytes rest) rest in
    let whole : length bytes ≡ length (passed bytes rest ++ s) + length after = sym (ap length m.whole) ∙ length-append (passed bytes after) after ∙ ap (λ z. length z + length after) m.all in
    let from_is : from ≡ length (passed bytes rest) = omega arith in
    let to_is : to ≡ length (passed bytes rest) + length s = omega (arith, length-append (passed bytes rest) s) in
    (λ i. record { kind = kind; from = from_is i; to = to_is i; place = at i })

pub made_end : {bytes rest : List ℕ} → passed bytes rest ++ rest ≡ bytes → rest ≡ [] → (end : ℕ) (place : Place) → end ≡ length bytes → place ≡ place_behind (passed bytes rest) → let t : Token = record { kind = kinds.End; from = end; to = end; place = place } in t ≡ token_behind (passed bytes rest) kinds.End []
made_end {bytes} {rest} split none end place is at =
    let long : length bytes ≡ length (passed bytes rest) + length rest = sym (ap length split) ∙ length-append (passed bytes rest) rest in
    let no_length : length rest ≡ 0 = ap length none in
    let from_is : end ≡ length (passed bytes rest) = omega arith in
    let to_is : end ≡ length (passed bytes rest) + 0 = omega arith in
    (λ i. record { kind = kinds.End; from = from_is i; to = to_is i; place = at i })

-- a refusal is the cause, but for want of memory
pub refusal_only : (bytes : List ℕ) (r : LexRefusal) → IsRefused bytes r → (r' : LexRefusal) → Refuses [] bytes r' → (r ≡ r') ⊎ (r ≡ refusals.Memory)
refusal_only bytes refusals.Memory h r' k = inr refl
refusal_only bytes (refusals.BadByte place) h r' k = inl (one_refusal h k)
refusal_only bytes (refusals.OpenText place) h r' k = inl (one_refusal h k)
refusal_only bytes (refusals.OpenComment place) h r' k = inl (one_refusal h k)
refusal_only bytes (refusals.LongName place) h r' k = inl (one_refusal h k)

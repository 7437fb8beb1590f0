-- Files that are handed to exporters in turn.
use Rattle.std.proofs.Common.{◌≡◌, ◌++◌, ◌<◌, ◌+◌, ℕ, List, [], ◌∷◌, length, map, refl, ap, sym, ◌∙◌, arith, false, Err, append_assoc, get_or, set, length-append, get_or-set_same, zero, suc}
use Rattle.std.proofs.Math.ListN.{get_or-map}
use Rattle.std.proofs.lemmas.List.{append-nil, map-set, length-map, map-append}
use Rattle.std.specs.List.{remove}
use Rattle.cq_io.specs.Account.{Account}
use Rattle.cq_io.specs.Content.{File}
use Rattle.cq_io.specs.Counts.{Rose}
use Rattle.cq_io.specs.declared.refusal.PutRefusal.{PutRefusal}
use Rattle.cq_io.specs.declared.refusal.PutRefusal.TheVariants as put
use Rattle.cq_export.specs.Handing.{Takes, StopsEarly, Fails, HandsTo, RunsOut, Hands, nobody, took, failed}
use Rattle.cq_export.specs.Files.{Files, files_in}

-- an exporter that refused a file stopped, and where it failed, its count rose
pub refused_stops : (files : List File) (before now : Account) (e : PutRefusal)
    → StopsEarly files before now → (e ≡ put.Failed → Rose before.faults now.faults × (before.steady ≡ false))
    → HandsTo files before now (Err e)
refused_stops files before now put.Failed stops rose = record { stops = stops; cause = (rose refl).0; unsteady = (rose refl).1 }
refused_stops files before now put.Memory stops rose = stops

-- one more took its files
pub hands_took : (files : Files) (first done moved : List Account) (before now : Account)
    → Hands files first done moved → Takes (files_in files before.format) before now
    → Hands files (first ++ before ∷ []) (done ++ now ∷ []) moved
hands_took files _ _ _ before now nobody takes = took before now [] [] [] takes nobody
hands_took files _ _ _ before now (took b n rest done moved h hands) takes =
    took b n (rest ++ before ∷ []) (done ++ now ∷ []) moved h (hands_took files rest done moved before now hands takes)
hands_took files _ _ _ before now (failed b n rest done moved h hands) takes =
    failed b n (rest ++ before ∷ []) (done ++ now ∷ []) moved h (hands_took files rest done moved before now hands takes)

-- one more failed
pub hands_failed : (files : Files) (first done moved : List Account) (before now : Account)
    → Hands files first done moved → Fails (files_in files before.format) before now
    → Hands files (first ++ before ∷ []) done (moved ++ now ∷ [])
hands_failed files _ _ _ before now nobody fails = failed before now [] [] [] fails nobody
hands_failed files _ _ _ before now (took b n rest done moved h hands) fails =
    took b n (rest ++ before ∷ []) done (moved ++ now ∷ []) h (hands_failed files rest done moved before now hands fails)
hands_failed files _ _ _ before now (failed b n rest done moved h hands) fails =
    failed b n (rest ++ before ∷ []) done (moved ++ now ∷ []) h (hands_failed files rest done moved before now hands fails)

-- where the loop stands: the first of the exporters asked have been served, and the rest are as they were
pub record HandsSoFar (files : Files) (asked now old_spoiled new_spoiled : List Account) (at : ℕ) : Type 0 where
  pub first : List Account
  pub done : List Account
  pub rest : List Account
  pub moved : List Account
  pub asked_is : asked ≡ first ++ rest
  pub now_is : now ≡ done ++ rest
  pub at_is : length done ≡ at
  pub hands : Hands files first done moved
  pub spoiled_is : new_spoiled ≡ old_spoiled ++ moved

pub set_seam : {A : Type 0} (done : List A) (x y : A) (rest : List A) → set (done ++ x ∷ rest) (length done) y ≡ done ++ y ∷ rest
set_seam [] x y rest = refl
set_seam (d ∷ done) x y rest = ap (λ (l : List _). d ∷ l) (set_seam done x y rest)

pub remove_seam : {A : Type 0} (done : List A) (x : A) (rest : List A) → remove (done ++ x ∷ rest) (length done) ≡ done ++ rest
remove_seam [] x rest = refl
remove_seam (d ∷ done) x rest = ap (λ (l : List _). d ∷ l) (remove_seam done x rest)

pub get_seam : {A : Type 0} (done : List A) (x : A) (rest : List A) (d : A) → get_or (done ++ x ∷ rest) (length done) d ≡ x
get_seam [] x rest d = refl
get_seam (e ∷ done) x rest d = get_seam done x rest d

-- the exporter at the place took its files
goes_on_at : (files : Files) (first done rest moved old_spoiled : List Account) (account d : Account)
    → Hands files first done moved → length done < length (done ++ rest)
    → Takes (files_in files (get_or (done ++ rest) (length done) d).format) (get_or (done ++ rest) (length done) d) account
    → HandsSoFar files (first ++ rest) (set (done ++ rest) (length done) account) old_spoiled (old_spoiled ++ moved) (length done + 1)
goes_on_at files first done [] moved old_spoiled account d hands lt takes = absurd (omega (arith, length-append done []))
goes_on_at files first done (x ∷ rest) moved old_spoiled account d hands lt takes = record {
  first = first ++ x ∷ [];
  done = done ++ account ∷ [];
  rest = rest;
  moved = moved;
  asked_is = sym (append_assoc first (x ∷ []) rest);
  now_is = set_seam done x account rest ∙ sym (append_assoc done (account ∷ []) rest);
  at_is = length-append done (account ∷ []);
  hands = hands_took files first done moved x account hands (rw (get_seam done x rest d) at takes);
  spoiled_is = refl;
}

goes_on : (files : Files) (asked now old_spoiled new_spoiled : List Account) (at : ℕ) (account d : Account)
    → HandsSoFar files asked now old_spoiled new_spoiled at → at < length now
    → Takes (files_in files (get_or now at d).format) (get_or now at d) account
    → HandsSoFar files asked (set now at account) old_spoiled new_spoiled (at + 1)
goes_on files asked now old_spoiled new_spoiled at account d so_far lt takes =
    rw (so_far.asked_is, so_far.now_is, so_far.spoiled_is, ← so_far.at_is)
    (goes_on_at files so_far.first so_far.done so_far.rest so_far.moved old_spoiled account d so_far.hands
    (rw (so_far.now_is, ← so_far.at_is) at lt) (rw (so_far.now_is, ← so_far.at_is) at takes))

-- the exporter at the place failed, and goes to the spoiled
moves_on_at : (files : Files) (first done rest moved old_spoiled : List Account) (account d : Account)
    → Hands files first done moved → length done < length (done ++ rest)
    → Fails (files_in files (get_or (done ++ rest) (length done) d).format) (get_or (done ++ rest) (length done) d) account
    → HandsSoFar files (first ++ rest) (remove (set (done ++ rest) (length done) account) (length done)) old_spoiled ((old_spoiled ++ moved) ++ account ∷ []) (length done)
moves_on_at files first done [] moved old_spoiled account d hands lt fails = absurd (omega (arith, length-append done []))
moves_on_at files first done (x ∷ rest) moved old_spoiled account d hands lt fails = record {
  first = first ++ x ∷ [];
  done = done;
  rest = rest;
  moved = moved ++ account ∷ [];
  asked_is = sym (append_assoc first (x ∷ []) rest);
  now_is = rw (set_seam done x account rest) (remove_seam done account rest);
  at_is = refl;
  hands = hands_failed files first done moved x account hands (rw (get_seam done x rest d) at fails);
  spoiled_is = append_assoc old_spoiled moved (account ∷ []);
}

moves_on : (files : Files) (asked now old_spoiled new_spoiled : List Account) (at : ℕ) (account d : Account)
    → HandsSoFar files asked now old_spoiled new_spoiled at → at < length now
    → Fails (files_in files (get_or now at d).format) (get_or now at d) account
    → HandsSoFar files asked (remove (set now at account) at) old_spoiled (new_spoiled ++ account ∷ []) at
moves_on files asked now old_spoiled new_spoiled at account d so_far lt fails =
    rw (so_far.asked_is, so_far.now_is, so_far.spoiled_is, ← so_far.at_is)
    (moves_on_at files so_far.first so_far.done so_far.rest so_far.moved old_spoiled account d so_far.hands
    (rw (so_far.now_is, ← so_far.at_is) at lt) (rw (so_far.now_is, ← so_far.at_is) at fails))

-- the exporter at the place had no memory
runs_out_at : (files : Files) (first done rest moved old_spoiled : List Account) (account d : Account)
    → Hands files first done moved → length done < length (done ++ rest)
    → StopsEarly (files_in files (get_or (done ++ rest) (length done) d).format) (get_or (done ++ rest) (length done) d) account
    → RunsOut files (first ++ rest) (set (done ++ rest) (length done) account) old_spoiled (old_spoiled ++ moved)
runs_out_at files first done [] moved old_spoiled account d hands lt stops = absurd (omega (arith, length-append done []))
runs_out_at files first done (x ∷ rest) moved old_spoiled account d hands lt stops = record {
  first = first;
  before = x;
  now = account;
  rest = rest;
  done = done;
  moved = moved;
  asked_is = refl;
  hands = hands;
  stops = rw (get_seam done x rest d) at stops;
  exporters = set_seam done x account rest;
  spoiled = refl;
}

runs_out : (files : Files) (asked now old_spoiled new_spoiled : List Account) (at : ℕ) (account d : Account)
    → HandsSoFar files asked now old_spoiled new_spoiled at → at < length now
    → StopsEarly (files_in files (get_or now at d).format) (get_or now at d) account
    → RunsOut files asked (set now at account) old_spoiled new_spoiled
runs_out files asked now old_spoiled new_spoiled at account d so_far lt stops =
    rw (so_far.asked_is, so_far.now_is, so_far.spoiled_is, ← so_far.at_is)
    (runs_out_at files so_far.first so_far.done so_far.rest so_far.moved old_spoiled account d so_far.hands
    (rw (so_far.now_is, ← so_far.at_is) at lt) (rw (so_far.now_is, ← so_far.at_is) at stops))

map-remove : {A B : Type 0} (f : A → B) (xs : List A) (i : ℕ) → map f (remove xs i) ≡ remove (map f xs) i
map-remove f [] zero = refl
map-remove f [] (suc i) = refl
map-remove f (x ∷ xs) zero = refl
map-remove f (x ∷ xs) (suc i) = ap (λ (l : List _). f x ∷ l) (map-remove f xs i)

-- ---- the same of boxes, by what each box tells

module _ {B : Type 0} where
  abbrev pub ServesSome : Files → List B → List B → List B → List B → ℕ → (B → Account) → Type 0
  ServesSome files asked now old_spoiled new_spoiled at account =
      HandsSoFar files (map account asked) (map account now) (map account old_spoiled) (map account new_spoiled) at

  pub serves_none : (files : Files) (asked spoiled : List B) (account : B → Account) → ServesSome files asked asked spoiled spoiled 0 account
  serves_none files asked spoiled account = record {
    first = [];
    done = [];
    rest = map account asked;
    moved = [];
    asked_is = refl;
    now_is = refl;
    at_is = refl;
    hands = nobody;
    spoiled_is = sym (append-nil (map account spoiled));
  }

  here : (account : B → Account) (now : List B) (at : ℕ) (b : B) → b ≡ get_or now at b → get_or (map account now) at (account b) ≡ account b
  here account now at b is = get_or-map account now at b ∙ sym (ap account is)

  pub serves_next : (files : Files) (asked now old_spoiled new_spoiled : List B) (at : ℕ) (account : B → Account) (b c : B)
      → ServesSome files asked now old_spoiled new_spoiled at account → at < length now → b ≡ get_or now at b
      → Takes (files_in files (account b).format) (account b) (account c)
      → ServesSome files asked (set now at c) old_spoiled new_spoiled (at + 1) account
  serves_next files asked now old_spoiled new_spoiled at account b c so_far lt is takes =
      rw map-set (goes_on files (map account asked) (map account now) (map account old_spoiled) (map account new_spoiled) at (account c) (account b)
      so_far (simp length-map lt) (rw (here account now at b is) takes))

  pub serves_moved : (files : Files) (asked now old_spoiled new_spoiled : List B) (at : ℕ) (account : B → Account) (b c r : B) (left grown : List B)
      → ServesSome files asked now old_spoiled new_spoiled at account → at < length now → b ≡ get_or now at b
      → Fails (files_in files (account b).format) (account b) (account c)
      → r ≡ get_or (set now at c) at r → left ≡ remove (set now at c) at → grown ≡ new_spoiled ++ r ∷ []
      → ServesSome files asked left old_spoiled grown at account
  serves_moved files asked now old_spoiled new_spoiled at account b c r left grown so_far lt is fails removed left_is grown_is =
      let r_is : r ≡ c = removed ∙ get_or-set_same now at c r lt in
      let step = moves_on files (map account asked) (map account now) (map account old_spoiled) (map account new_spoiled) at (account c) (account b)
      so_far (simp length-map lt) (rw (here account now at b is) fails) in
      rw (left_is, grown_is, map-remove account (set now at c) at, map-set account now at c, map-append account new_spoiled (r ∷ []), r_is) step

  pub serves_stopped : (files : Files) (asked now old_spoiled new_spoiled : List B) (at : ℕ) (account : B → Account) (b c : B)
      → ServesSome files asked now old_spoiled new_spoiled at account → at < length now → b ≡ get_or now at b
      → StopsEarly (files_in files (account b).format) (account b) (account c)
      → RunsOut files (map account asked) (map account (set now at c)) (map account old_spoiled) (map account new_spoiled)
  serves_stopped files asked now old_spoiled new_spoiled at account b c so_far lt is stops =
      rw map-set (runs_out files (map account asked) (map account now) (map account old_spoiled) (map account new_spoiled) at (account c) (account b)
      so_far (simp length-map lt) (rw (here account now at b is) stops))

-- Names behind dots, a step at a time.
use Rattle.std.proofs.Common.{◌≡◌, ℕ, zero, suc, ◌+◌, ◌-◌, ◌<◌, ◌≤◌, List, [], ◌∷◌, ◌++◌, length, Bool, true, false, refl, sym, ap, ◌∙◌, arith, length-append}
use Rattle.cq_lex.specs.declared.token.Token.{Token}
use Rattle.cq_rules.specs.declared.class.Class.TheVariants as classes
use Rattle.cq_productions.specs.declared.halt.Halt.{Halt}
use Rattle.cq_productions.specs.declared.halt.Halt.TheVariants as halts
use Rattle.cq_rules.specs.declared.why.Why.{Why}
use Rattle.cq_rules.specs.declared.why.Why.TheVariants.{Wanted, Deep}
use Rattle.cq_rules.specs.Class.{is, is_name}
use Rattle.cq_rules.specs.Outcome.{nothing_kept, Out, Took, Stop, leads, pick, dot, name_of, read_keep, read_chain, with_first}
use Rattle.cq_rules.specs.Rule.{set, read, path, most_names}
use Rattle.cq_syntax.specs.Grammar.{name}
use Rattle.cq_rules.specs.Tree.{Tree, App, more, end, after_dots}
use Rattle.cq_productions.specs.Gives.{after_items, Fails}
use Rattle.cq_productions.proofs.Loops.{after_first, after_one}

-- what a token that is kept shows
record Kept (s : Token → Bool) (ts after : List Token) : Type 0 where
  token : Token
  split : ts ≡ token ∷ after
  found : s token ≡ true

kept_at : {A : Type 0} (f : Token → A) (s : Token → Bool) (b : Bool) (t : Token) (ts : List Token) (a : A) (after : List Token) → s t ≡ b → pick b (Took (f t) ts) (Stop Wanted (t ∷ ts)) ≡ Took a after → (k : Kept s (t ∷ ts) after) × (a ≡ f k.token)
kept_at f s true t ts a after h e = (record { token = t; split = let same : ts ≡ after = cc e in ap (λ z. t ∷ z) same; found = h }, cc e)
kept_at f s false t ts a after h e = absurd (cc e)

kept : {A : Type 0} (f : Token → A) (s : Token → Bool) (ts : List Token) (a : A) (after : List Token) → read_keep f s ts ≡ Took a after → (k : Kept s ts after) × (a ≡ f k.token)
kept f s [] a after e = absurd (cc e)
kept f s (t ∷ ts) a after e = kept_at f s (s t) t ts a after refl e

kept_step : {A : Type 0} (f : Token → A) (s : Token → Bool) (b : Bool) (t : Token) (ts : List Token) (w : Why) (at : List Token) → s t ≡ b → pick b (Took (f t) ts) (Stop Wanted (t ∷ ts)) ≡ Stop w at → (leads s (t ∷ ts) ≡ false) × (w ≡ Wanted) × (at ≡ t ∷ ts)
kept_step f s true t ts w at h e = absurd (cc e)
kept_step f s false t ts w at h e = (h, cc e, cc e)

kept_stop : {A : Type 0} (f : Token → A) (s : Token → Bool) (ts : List Token) (w : Why) (at : List Token) → read_keep f s ts ≡ Stop w at → (leads s ts ≡ false) × (w ≡ Wanted) × (at ≡ ts)
kept_stop f s [] w at e = (refl, cc e, cc e)
kept_stop f s (t ∷ ts) w at e = kept_step f s (s t) t ts w at refl e

-- behind a token that is kept there are fewer
pub kept_shorter : {A : Type 0} (f : Token → A) (s : Token → Bool) (ts : List Token) (a : A) (after : List Token) → read_keep f s ts ≡ Took a after → length after < length ts
kept_shorter f s ts a after e = let h = kept f s ts a after e in omega (arith, ap length h.0.split)

abbrev DotTook : List Token → List Token → Type 0
DotTook ts after = read_keep nothing_kept (set (is classes.Dot)) ts ≡ Took tt after

link_took : (k : ℕ) (ts after : List Token) (n : List ℕ) (behind : List Token) → DotTook ts after → read_keep name_of (set is_name) after ≡ Took n behind → read_chain (suc k) ts ≡ with_first n (read_chain k behind)
link_took k ts after n behind e f =
    let d = kept nothing_kept (set (is classes.Dot)) ts tt after e in
    let t = kept name_of (set is_name) after n behind f in
    let whole : ts ≡ d.0.token ∷ t.0.token ∷ behind = d.0.split ∙ ap (λ z. d.0.token ∷ z) t.0.split in
    rw (whole, d.0.found, t.0.found) (ap (λ z. with_first z (read_chain k behind)) (sym t.1))

link_over : (ts after : List Token) (n : List ℕ) (behind : List Token) → DotTook ts after → read_keep name_of (set is_name) after ≡ Took n behind → read_chain 0 ts ≡ Stop Deep after
link_over ts after n behind e f =
    let d = kept nothing_kept (set (is classes.Dot)) ts tt after e in
    let t = kept name_of (set is_name) after n behind f in
    let whole : ts ≡ d.0.token ∷ t.0.token ∷ behind = d.0.split ∙ ap (λ z. d.0.token ∷ z) t.0.split in
    rw (whole, d.0.found, t.0.found) (ap (λ z. Stop Deep z) (sym t.0.split))

stop_behind : (k : ℕ) (d : Token) (after : List Token) → dot d ≡ true → leads (set is_name) after ≡ false → read_chain k (d ∷ after) ≡ Stop Wanted after
stop_behind zero d [] h e = rw h refl
stop_behind (suc k) d [] h e = rw h refl
stop_behind zero d (t ∷ ts) h e = rw (h, e) refl
stop_behind (suc k) d (t ∷ ts) h e = rw (h, e) refl

link_stop : (k : ℕ) (ts after : List Token) (w : Why) (at : List Token) → DotTook ts after → read_keep name_of (set is_name) after ≡ Stop w at → read_chain k ts ≡ Stop w at
link_stop k ts after w at e f =
    let d = kept nothing_kept (set (is classes.Dot)) ts tt after e in
    let h = kept_stop name_of (set is_name) after w at f in
    ap (λ z. read_chain k z) d.0.split ∙ stop_behind k d.0.token after d.0.found h.0 ∙ ap (λ z. Stop z after) (sym h.1) ∙ ap (λ z. Stop w z) (sym h.2)

chain_end : (k : ℕ) (ts : List Token) → leads dot ts ≡ false → read_chain k ts ≡ Took [] ts
chain_end zero [] e = refl
chain_end (suc k) [] e = refl
chain_end zero (t ∷ ts) e = rw e refl
chain_end (suc k) (t ∷ ts) e = rw e refl

append_nil : {A : Type 0} (xs : List A) → xs ++ [] ≡ xs
append_nil [] = refl
append_nil (x ∷ xs) = ap (λ z. x ∷ z) (append_nil xs)

-- what the loop keeps
module _ (whole : Out (List (List ℕ))) (most : ℕ) (names : List (List ℕ)) (ts after : List Token) (same : whole ≡ after_items names (read_chain (most - length names) ts)) where
  pub names_next : (n : List ℕ) (pushed : List (List ℕ)) (behind : List Token) → length names ≤ most → (length names ≡ most → ⊥) → pushed ≡ names ++ n ∷ [] → DotTook ts after → read_keep name_of (set is_name) after ≡ Took n behind → whole ≡ after_items pushed (read_chain (most - length pushed) behind)
  names_next n pushed behind le ne p e f =
      let sizes : length pushed ≡ length names + 1 = ap length p ∙ length-append names (n ∷ []) in
      let one : most - length names ≡ suc (most - length pushed) = omega arith in
      same ∙ ap (λ z. after_items names (read_chain z ts)) one ∙ ap (λ z. after_items names z) (link_took (most - length pushed) ts after n behind e f) ∙ after_first names n (read_chain (most - length pushed) behind) ∙ ap (λ z. after_items z (read_chain (most - length pushed) behind)) (sym p)

  pub names_over : (n : List ℕ) (behind : List Token) → length names ≡ most → DotTook ts after → read_keep name_of (set is_name) after ≡ Took n behind → whole ≡ Stop Deep after
  names_over n behind is e f =
      let none : most - length names ≡ 0 = omega arith in
      same ∙ ap (λ z. after_items names (read_chain z ts)) none ∙ ap (λ z. after_items names z) (link_over ts after n behind e f)

  pub names_fail : (e : Halt) → DotTook ts after → Fails e (read_keep name_of (set is_name) after) → Fails e whole
  names_fail halts.Memory e f = tt
  names_fail (halts.At w at) e f = same ∙ ap (λ z. after_items names z) (link_stop (most - length names) ts after w at.tokens.now e f)

  pub names_end : leads dot ts ≡ false → whole ≡ Took names ts
  names_end e = same ∙ ap (λ z. after_items names z) (chain_end (most - length names) ts e) ∙ ap (λ z. Took z ts) (append_nil names)

-- a path is a name and a chain
pub path_reads : (ts : List Token) (n : List ℕ) (rest : List Token) (names : List (List ℕ)) → read name ts ≡ Took n rest → names ≡ n ∷ [] → read path ts ≡ after_items names (read_chain (64 - length names) rest)
unfolding name most_names
path_reads ts n rest names e p = rw (e, p) (after_one n (read_chain 63 rest))

pub path_fails : (ts : List Token) (e : Halt) → Fails e (read name ts) → Fails e (read path ts)
unfolding name most_names
path_fails ts halts.Memory f = tt
path_fails ts (halts.At w at) f = rw f refl

dots_first : (v : Tree) (n : List ℕ) (o : Out (List (List ℕ))) → after_dots v (with_first n o) ≡ after_dots (App n (more v end)) o
dots_first v n (Took ns rest) = refl
dots_first v n (Stop w at) = refl

-- the same for a term that names are applied to
module _ (whole : Out Tree) (most : ℕ) (v : Tree) (k : ℕ) (ts after : List Token) (same : whole ≡ after_dots v (read_chain (most - k) ts)) where
  pub dots_next : (n : List ℕ) (made : Tree) (behind : List Token) → k < most → made ≡ App n (more v end) → DotTook ts after → read_keep name_of (set is_name) after ≡ Took n behind → whole ≡ after_dots made (read_chain (most - (k + 1)) behind)
  dots_next n made behind lt p e f =
      let one : most - k ≡ suc (most - (k + 1)) = omega arith in
      same ∙ ap (λ z. after_dots v (read_chain z ts)) one ∙ ap (λ z. after_dots v z) (link_took (most - (k + 1)) ts after n behind e f) ∙ dots_first v n (read_chain (most - (k + 1)) behind) ∙ ap (λ z. after_dots z (read_chain (most - (k + 1)) behind)) (sym p)

  pub dots_over : (n : List ℕ) (behind : List Token) → k ≡ most → DotTook ts after → read_keep name_of (set is_name) after ≡ Took n behind → whole ≡ Stop Deep after
  dots_over n behind is e f =
      let none : most - k ≡ 0 = omega arith in
      same ∙ ap (λ z. after_dots v (read_chain z ts)) none ∙ ap (λ z. after_dots v z) (link_over ts after n behind e f)

  pub dots_fail : (e : Halt) → DotTook ts after → Fails e (read_keep name_of (set is_name) after) → Fails e whole
  dots_fail halts.Memory e f = tt
  dots_fail (halts.At w at) e f = same ∙ ap (λ z. after_dots v z) (link_stop (most - k) ts after w at.tokens.now e f)

  pub dots_end : leads dot ts ≡ false → whole ≡ Took v ts
  dots_end e = same ∙ ap (λ z. after_dots v z) (chain_end (most - k) ts e)

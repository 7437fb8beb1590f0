-- What a loop over items keeps: the items so far, and the reading of the others.
use Rattle.std.proofs.Common.{◌≡◌, ◌<◌, List, [], ◌∷◌, ◌++◌, length, true, false, refl, sym, ap, ◌∙◌, append_assoc}
use Rattle.cq_lex.specs.declared.token.Token.{Token}
use Rattle.cq_rules.specs.declared.why.Why.{Why}
use Rattle.cq_rules.specs.Class.{Set}
use Rattle.cq_rules.specs.Outcome.{Out, Took, Stop, leads, with_first, with_left, mapped, as_left, nothing_kept, read_keep}
use Rattle.cq_rules.specs.Rule.{Rule, many, first, set, read, decides, joined, or_none, second, section, item_decides}
use Rattle.cq_rules.proofs.Many.{many_step, many_end, many_stop, shorter}
use Rattle.cq_rules.proofs.Rules.{laws, item_full, item_apart, both_parts}
use Rattle.cq_productions.specs.declared.halt.Halt.{Halt}
use Rattle.cq_productions.specs.declared.halt.Halt.TheVariants as halts
use Rattle.cq_productions.specs.Gives.{after_items, Fails}

append_nil : {A : Type 0} (xs : List A) → xs ++ [] ≡ xs
append_nil [] = refl
append_nil (x ∷ xs) = ap (λ z. x ∷ z) (append_nil xs)

pub after_none : {A : Type 0} (o : Out (List A)) → after_items [] o ≡ o
after_none (Took xs rest) = refl
after_none (Stop w at) = refl

pub after_first : {A : Type 0} (xs : List A) (a : A) (o : Out (List A)) → after_items xs (with_first a o) ≡ after_items (xs ++ a ∷ []) o
after_first xs a (Took ys rest) = ap (λ z. Took z rest) (sym (append_assoc xs (a ∷ []) ys))
after_first xs a (Stop w at) = refl

pub after_one : {A : Type 0} (a : A) (o : Out (List A)) → mapped joined (with_left a o) ≡ after_items (a ∷ []) o
after_one a (Took ys rest) = refl
after_one a (Stop w at) = refl

module _ {A : Type 0} (g : Rule A) (d : decides (many g) ≡ true) where
  pub item_shorter : (ts : List Token) (a : A) (mid : List Token) → read g ts ≡ Took a mid → length mid < length ts
  item_shorter ts a mid e =
      let h = both_parts (decides g) (item_decides g) d in
      shorter _ _ _ _ _ _ (item_full g (laws g h.0) h.1) (item_apart g (laws g h.0) h.1) ts a mid e

  pub loop_next : (whole : Out (List A)) (xs pushed : List A) (ts : List Token) (a : A) (mid : List Token) → pushed ≡ xs ++ a ∷ []
      → whole ≡ after_items xs (read (many g) ts) → leads (set (first g)) ts ≡ true → read g ts ≡ Took a mid → whole ≡ after_items pushed (read (many g) mid)
  loop_next whole xs pushed ts a mid p e l k =
      let h = both_parts (decides g) (item_decides g) d in
      let turn : whole ≡ after_items (xs ++ a ∷ []) (read (many g) mid) =
      e ∙ ap (λ z. after_items xs z) (many_step _ _ _ _ _ _ (item_full g (laws g h.0) h.1) (item_apart g (laws g h.0) h.1) ts a mid l k) ∙ after_first xs a (read (many g) mid) in
      turn ∙ ap (λ z. after_items z (read (many g) mid)) (sym p)

  pub loop_end : (whole : Out (List A)) (xs : List A) (ts : List Token) → whole ≡ after_items xs (read (many g) ts) → leads (set (first g)) ts ≡ false → whole ≡ Took xs ts
  loop_end whole xs ts e l =
      let h = both_parts (decides g) (item_decides g) d in
      e ∙ ap (λ z. after_items xs z) (many_end _ _ _ _ _ _ (item_full g (laws g h.0) h.1) (item_apart g (laws g h.0) h.1) ts l) ∙ ap (λ z. Took z ts) (append_nil xs)

  loop_stop : (whole : Out (List A)) (xs : List A) (ts : List Token) (w : Why) (at : List Token) → whole ≡ after_items xs (read (many g) ts) → leads (set (first g)) ts ≡ true → read g ts ≡ Stop w at → whole ≡ Stop w at
  loop_stop whole xs ts w at e l k =
      let h = both_parts (decides g) (item_decides g) d in
      e ∙ ap (λ z. after_items xs z) (many_stop _ _ _ _ _ _ (item_full g (laws g h.0) h.1) (item_apart g (laws g h.0) h.1) ts w at l k)

  pub loop_fails : (whole : Out (List A)) (xs : List A) (ts : List Token) (e : Halt) → whole ≡ after_items xs (read (many g) ts) → leads (set (first g)) ts ≡ true → Fails e (read g ts) → Fails e whole
  loop_fails whole xs ts halts.Memory e l k = tt
  loop_fails whole xs ts (halts.At w at) e l k = loop_stop whole xs ts w at.tokens.now e l k

section_left : {A : Type 0} (o : Out (List A)) → mapped or_none (as_left {B = Unit {0}} (mapped second (with_left (tt {0}) o))) ≡ o
section_left (Took xs rest) = refl
section_left (Stop w at) = refl

-- a section that is there is its items, and one that isn't has none
module _ {A : Type 0} (s : Set) (g : Rule A) (ts : List Token) where
  pub section_reads : (rest : List Token) → leads (set s) ts ≡ true → read_keep nothing_kept (set s) ts ≡ Took tt rest → read (section s g) ts ≡ read (many g) rest
  section_reads rest e k = rw (e, k) (section_left (read (many g) rest))

  pub section_none : leads (set s) ts ≡ false → read (section s g) ts ≡ Took [] ts
  section_none e = rw e refl

  pub section_fails : (e : Halt) → leads (set s) ts ≡ true → Fails e (read_keep nothing_kept (set s) ts) → Fails e (read (section s g) ts)
  section_fails halts.Memory e k = tt
  section_fails (halts.At w at) e k = rw (e, k) refl

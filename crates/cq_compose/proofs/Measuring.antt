-- Symbols of terms by numbers.
use Rattle.std.proofs.Common.{ℕ, zero, suc, Bool, true, false, not, List, [], ◌∷◌, ◌++◌, Option, Some, None, ◌≡◌, ◌<◌, ◌≤◌, ◌+◌, ◌||◌, map, sum, length, drop, refl, sym, ap, subst, ◌∙◌, arith, slice_index_or, length-append}
use Rattle.std.specs.Prelude.{MatchOption, slice_get, nat_lt, is_some, min}
use Rattle.std.specs.List.{list_any}
use Rattle.std.proofs.lemmas.Bool.Decides.{nat_tests}
use Rattle.cq_theory.specs.declared.term.EntTerm.{EntTerm}
use Rattle.cq_theory.specs.declared.term.TypeTerm.{TypeTerm}
use Rattle.cq_theory.specs.EntTerm as ent
use Rattle.cq_theory.specs.EntTerm.{alone, extended}
use Rattle.cq_theory.specs.TypeTerm.{symbols_of, symbols_step}
use Rattle.cq_theory.specs.Presentation.{has_long_side}
use Rattle.cq_theory.proofs.TypeTerms.{fold-Gen, fold-Const, fold-Att, fold-Fun, Each, on_terms}
use Rattle.cq_query.specs.Puts.{put, put_type, put_type_step}
use Rattle.cq_query.specs.Translation.{assigned, attribute_term}
use Rattle.cq_query.specs.Duties.{equal_terms}
use Rattle.cq_compose.specs.declared.frame.Frame.{Frame}
use Rattle.cq_compose.specs.Composite.{translated, translated_step}
use Rattle.cq_compose.specs.Counting.{keys_of, put_symbols, put_symbols_step, translated_symbols, translated_symbols_step}
use Rattle.cq_compose.specs.Frame.{terms_of, components_along, component_along}
use Rattle.cq_compose.proofs.Following.{first_or_index, last_component, no_component, no_keys}

-- what is left behind two parts, one of which is taken first
pub room_shared : (r : Option ℕ) (k part room left : ℕ) → part + left ≡ room → MatchOption r (left < k) (λ l. k + l ≡ left) → MatchOption r (room < k + part) (λ l. k + part + l ≡ room)
room_shared None k part room left both h = omega arith
room_shared (Some l) k part room left both h = omega arith

pub same_room : (r : Option ℕ) (k n room : ℕ) → k ≡ n → MatchOption r (room < k) (λ l. k + l ≡ room) → MatchOption r (room < n) (λ l. n + l ≡ room)
same_room r k n room same h = subst (λ m. MatchOption r (room < m) (λ l. m + l ≡ room)) same h

pub no_room : (r : Option ℕ) (b : Bool) (limit k : ℕ) → is_some r ≡ not b → MatchOption r (limit < k) (λ l. k + l ≡ limit) → b ≡ nat_lt limit k
no_room None true limit k is h = grind (arith, nat_tests)
no_room None false limit k is h = cc
no_room (Some l) true limit k is h = cc
no_room (Some l) false limit k is h = grind (arith, nat_tests)

pub one_less : (k : ℕ) → nat_lt 1023 k ≡ nat_lt 1024 (k + 1)
one_less k = grind (arith, nat_tests)

-- beside the end of a list there are no more equations
none_beside : (ts : List EntTerm) → equal_terms ts [] ≡ []
none_beside [] = refl
none_beside (t ∷ ts) = refl

pub pairs_end : (ts us : List EntTerm) (n : ℕ) → min (length ts) (length us) ≤ n → list_any has_long_side (equal_terms (drop n ts) (drop n us)) ≡ false
pairs_end [] us zero h = refl
pairs_end [] us (suc n) h = refl
pairs_end (t ∷ ts) [] zero h = refl
pairs_end (t ∷ ts) [] (suc n) h = ap (list_any has_long_side) (none_beside (drop n ts))
pairs_end (t ∷ ts) (u ∷ us) zero h = absurd (omega arith)
pairs_end (t ∷ ts) (u ∷ us) (suc n) h = pairs_end ts us n (omega arith)

module _ (frame : Frame) where
  pub keys_at_last : (y : ℕ) (before : List ℕ) (k n : ℕ) (t : EntTerm) → slice_get (assigned frame.first.now k) n ≡ Some t
      → length (component_along frame y before t.generator).path + length t.path ≡ length (component_along frame y (before ++ k ∷ []) n).path
  keys_at_last y before k n t at =
      sym (ap (λ (s : EntTerm). length s.path) (last_component frame.first.now (components_along frame y []) before k n t at)
      ∙ length-append (component_along frame y before t.generator).path t.path)

  pub no_keys_at_last : (y : ℕ) (before : List ℕ) (k n : ℕ) → slice_get (assigned frame.first.now k) n ≡ None → 0 ≡ length (component_along frame y (before ++ k ∷ []) n).path
  no_keys_at_last y before k n none = sym (ap (λ (s : EntTerm). length s.path) (no_component frame.first.now (components_along frame y []) before k n none))

  pub no_keys_here : (y n : ℕ) → 0 ≡ length (component_along frame y [] n).path
  no_keys_here y n = sym (ap length (no_keys frame.first.now frame.second.now frame.entity y n))

  all_mapped : (f : TypeTerm → TypeTerm) (g : TypeTerm → ℕ) (ts : List TypeTerm) → Each (λ t. symbols_of (f t) ≡ g t) ts → map symbols_of (map f ts) ≡ map g ts
  all_mapped f g [] each = refl
  all_mapped f g (t ∷ ts) each =
      let first : symbols_of (f t) ≡ g t = each.0 in
      let rest = all_mapped f g ts each.1 in
      λ i. first i ∷ rest i

  pub symbols-put : (at : EntTerm) (t : TypeTerm) → symbols_of (put_type (terms_of frame at) t) ≡ put_symbols frame at t
  symbols-put at = on_terms (λ t. symbols_of (put_type (terms_of frame at) t) ≡ put_symbols frame at t)
      (λ n. ap symbols_of (fold-Gen TypeTerm (put_type_step (terms_of frame at)) n) ∙ fold-Gen ℕ symbols_step n ∙ sym (fold-Gen ℕ (put_symbols_step frame at) n))
      (λ c. ap symbols_of (fold-Const TypeTerm (put_type_step (terms_of frame at)) c) ∙ fold-Const ℕ symbols_step c ∙ sym (fold-Const ℕ (put_symbols_step frame at) c))
      (λ a t.
      let there = first_or_index (terms_of frame at) t.generator in
      let longer : length ((slice_index_or (terms_of frame at) t.generator (alone 0)).path ++ t.path) + 1 + 1 ≡ keys_of frame at t.generator + length t.path + 2 =
      omega (arith, length-append (slice_index_or (terms_of frame at) t.generator (alone 0)).path t.path) in
      ap symbols_of (fold-Att TypeTerm (put_type_step (terms_of frame at)) a t) ∙ fold-Att ℕ symbols_step a (put (terms_of frame at) t)
      ∙ ap (λ (s : EntTerm). ent.symbols_of (extended s t.path) + 1) there ∙ longer ∙ sym (fold-Att ℕ (put_symbols_step frame at) a t))
      (λ f ts each.
      ap symbols_of (fold-Fun TypeTerm (put_type_step (terms_of frame at)) f ts) ∙ fold-Fun ℕ symbols_step f (map (put_type (terms_of frame at)) ts)
      ∙ ap (λ ns. sum ns + 1) (all_mapped (put_type (terms_of frame at)) (put_symbols frame at) ts each) ∙ sym (fold-Fun ℕ (put_symbols_step frame at) f ts))

  pub symbols-translated : (t : TypeTerm) → symbols_of (translated frame.first.now frame.second.now frame.entity t) ≡ translated_symbols frame t
  symbols-translated = on_terms (λ t. symbols_of (translated frame.first.now frame.second.now frame.entity t) ≡ translated_symbols frame t)
      (λ n. ap symbols_of (fold-Gen TypeTerm (translated_step frame.first.now frame.second.now frame.entity) n) ∙ fold-Gen ℕ symbols_step n ∙ sym (fold-Gen ℕ (translated_symbols_step frame) n))
      (λ c. ap symbols_of (fold-Const TypeTerm (translated_step frame.first.now frame.second.now frame.entity) c) ∙ fold-Const ℕ symbols_step c ∙ sym (fold-Const ℕ (translated_symbols_step frame) c))
      (λ a t. ap symbols_of (fold-Att TypeTerm (translated_step frame.first.now frame.second.now frame.entity) a t) ∙ symbols-put t (attribute_term frame.first.now a)
      ∙ sym (fold-Att ℕ (translated_symbols_step frame) a t))
      (λ f ts each.
      ap symbols_of (fold-Fun TypeTerm (translated_step frame.first.now frame.second.now frame.entity) f ts) ∙ fold-Fun ℕ symbols_step f (map (translated frame.first.now frame.second.now frame.entity) ts)
      ∙ ap (λ ns. sum ns + 1) (all_mapped (translated frame.first.now frame.second.now frame.entity) (translated_symbols frame) ts each) ∙ sym (fold-Fun ℕ (translated_symbols_step frame) f ts))

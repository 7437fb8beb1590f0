-- What is made of terms: constants and applications alone.
use Rattle.std.proofs.Common.{ℕ, zero, suc, List, [], ◌∷◌, ◌++◌, Some, ◌≡◌, sym, ap, subst, ◌∙◌}
use Rattle.std.specs.Prelude.{slice_get}
use Rattle.std.specs.List.{flat_map}
use Rattle.std.proofs.lemmas.Option.{same_Some}
use Rattle.cq_model.specs.NodeTerms.{made_terms, side_terms}
use Rattle.cq_model.specs.Thins.{Thins}
use Rattle.cq_instance.proofs.Lists.{IsIn, in_append, from_flat_map}
use Rattle.cq_model.proofs.PlacedLeaves.{out-Gen}
use Rattle.cq_model.proofs.PushedTerms.{made-Gen, made-Const, made-Att, made-Fun, out-Const, out-Fun}
use Rattle.cq_model.proofs.Thinning.{in_thinned}
use Rattle.cq_model.proofs.Variants.{out-Att}
use Rattle.cq_theory.specs.declared.term.TypeTerm.{TypeTerm}
use Rattle.cq_theory.specs.declared.term.TypeTerm.TheVariants as term
use Rattle.cq_theory.specs.declared.term.TypeTerm.TheOpen as layer
use Rattle.cq_theory.specs.declared.term.TypeTerm.TheViews.{out-TypeTerm, roll-TypeTerm}
use Rattle.cq_theory.proofs.TypeTerms.{Each, on_terms}

-- a constant or an application
abbrev pub IsMadeLayer : layer.TypeTerm-F TypeTerm → Type 0
IsMadeLayer (layer.Gen n) = ⊥
IsMadeLayer (layer.Const c) = Unit {0}
IsMadeLayer (layer.Att a t) = ⊥
IsMadeLayer (layer.Fun f ts) = Unit {0}

abbrev pub IsMade : TypeTerm → Type 0
IsMade t = IsMadeLayer (out-TypeTerm t)

-- each member is one
abbrev pub AllMade : List TypeTerm → Type 0
AllMade ts = (t : TypeTerm) → IsIn t ts → IsMade t

made_none : AllMade []
made_none t h = let no : slice_get [] h.place ≡ Some t = h.is in cc

made_one : (t : TypeTerm) → IsMade t → AllMade (t ∷ [])
made_one t made u h = go h.place h.is
  where
    go : (n : ℕ) → slice_get (t ∷ []) n ≡ Some u → IsMade u
    go zero is = subst IsMade (same_Some t u is) made
    go (suc n) is = let no : slice_get [] n ≡ Some u = is in cc

pub made_append : (ts us : List TypeTerm) → AllMade ts → AllMade us → AllMade (ts ++ us)
made_append ts us left right t h = in_append (IsMade t) ts us h.place t h.is (left t) (right t)

made_flat : (ts : List TypeTerm) → Each (λ t. AllMade (made_terms t)) ts → AllMade (flat_map made_terms ts)
made_flat [] each = made_none
made_flat (t ∷ ts) each = made_append (made_terms t) (flat_map made_terms ts) each.0 (made_flat ts each.1)

pub all_made : (t : TypeTerm) → AllMade (made_terms t)
all_made = on_terms (λ t. AllMade (made_terms t))
    (λ n. subst AllMade (sym (made-Gen n)) made_none)
    (λ c. subst AllMade (sym (made-Const c)) (made_one (term.Const c) (subst IsMadeLayer (sym (out-Const c)) tt)))
    (λ a t. subst AllMade (sym (made-Att a t)) made_none)
    (λ f ts each. subst AllMade (sym (made-Fun f ts)) (made_append (flat_map made_terms ts) (term.Fun f ts ∷ []) (made_flat ts each) (made_one (term.Fun f ts) (subst IsMadeLayer (sym (out-Fun f ts)) tt))))

pub sides_made : (sides : List (TypeTerm × TypeTerm)) → AllMade (flat_map side_terms sides)
sides_made sides t h =
    let from = from_flat_map side_terms sides t h in
    made_append (made_terms from.source.0) (made_terms from.source.1) (all_made from.source.0) (all_made from.source.1) t from.in_part

-- a term is its layer, closed
pub from_layer : (t : TypeTerm) (l : layer.TypeTerm-F TypeTerm) → out-TypeTerm t ≡ l → t ≡ roll-TypeTerm l
from_layer t l h = closed t ∙ ap roll-TypeTerm h
  where
    closed : (t : TypeTerm) → t ≡ roll-TypeTerm (out-TypeTerm t)
    closed = on_terms (λ t. t ≡ roll-TypeTerm (out-TypeTerm t))
        (λ n. sym (term.rolls-Gen n) ∙ ap roll-TypeTerm (sym (out-Gen n)))
        (λ c. sym (term.rolls-Const c) ∙ ap roll-TypeTerm (sym (out-Const c)))
        (λ a t. sym (term.rolls-Att a t) ∙ ap roll-TypeTerm (sym (out-Att a t)))
        (λ f ts each. sym (term.rolls-Fun f ts) ∙ ap roll-TypeTerm (sym (out-Fun f ts)))

-- what is kept of them
pub made_thinned : (Skips : TypeTerm → Type 0) (ts us : List TypeTerm) → Thins Skips ts us → AllMade ts → AllMade us
made_thinned Skips ts us thins made u h = made u (in_thinned Skips thins h.place u h.is)

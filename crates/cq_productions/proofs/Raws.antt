-- A term is that of its tree.
use Rattle.std.proofs.Common.{List, [], ◌∷◌, ◌≡◌, map, refl, subst, sym, ap, ◌∙◌}
use Rattle.cq_base.specs.declared.name.Name.{Name}
use Rattle.cq_base.specs.declared.raw.Raw.{Raw}
use Rattle.cq_base.specs.declared.raw.Raw.TheVariants.{Word, Text, App, rolls-Word, rolls-Text, rolls-App}
use Rattle.cq_base.specs.declared.raw.Raw.TheOpen as layer
use Rattle.cq_base.specs.declared.raw.Raw.TheFolds.{fold-roll-Raw, ind-Raw, map-Raw}
use Rattle.cq_base.specs.declared.raw.Raw.TheViews.{roll-Raw}
use Rattle.cq_lex.specs.declared.token.Token.{Token}
use Rattle.cq_rules.specs.Outcome.{Took, first_place}
use Rattle.cq_rules.specs.Rule.{read, term}
use Rattle.cq_rules.specs.Tree.{Tree, trees}
use Rattle.cq_rules.specs.Tree as tree
use Rattle.cq_syntax.specs.Grammar.{placed_term}
use Rattle.cq_syntax.specs.Terms.{tree_of, tree_step, raw_of, raws_of}
use Rattle.cq_productions.specs.declared.halt.Halt.{Halt}
use Rattle.cq_productions.specs.declared.halt.Halt.TheVariants as halts
use Rattle.cq_productions.specs.Gives.{Fails}

abbrev IsSame : Raw → Type 0
IsSame r = raw_of (tree_of r) ≡ r

all_same : (ys : List ((r : Raw) × IsSame r)) → raws_of (trees (map tree_of (map (λ e. e.0) ys))) ≡ map (λ e. e.0) ys
all_same [] = refl
all_same (y ∷ ys) =
    ap (λ z. z ∷ raws_of (trees (map tree_of (map (λ e. e.0) ys)))) y.1 ∙ ap (λ z. y.0 ∷ z) (all_same ys)

tree_of-Word : (n : Name) → tree_of (Word n) ≡ tree.Word n
tree_of-Word n = ap tree_of (sym (rolls-Word n)) ∙ fold-roll-Raw Tree tree_step (layer.Word n)

tree_of-Text : (n : Name) → tree_of (Text n) ≡ tree.Text n
tree_of-Text n = ap tree_of (sym (rolls-Text n)) ∙ fold-roll-Raw Tree tree_step (layer.Text n)

tree_of-App : (f : Name) (args : List Raw) → tree_of (App f args) ≡ tree.App f (trees (map tree_of args))
tree_of-App f args = ap tree_of (sym (rolls-App f args)) ∙ fold-roll-Raw Tree tree_step (layer.App f args)

same_word : (n : Name) → IsSame (Word n)
same_word n = ap raw_of (tree_of-Word n)

same_text : (n : Name) → IsSame (Text n)
same_text n = ap raw_of (tree_of-Text n)

same_app : (n : Name) (ys : List ((r : Raw) × IsSame r)) → IsSame (App n (map (λ e. e.0) ys))
same_app n ys = ap raw_of (tree_of-App n (map (λ e. e.0) ys)) ∙ ap (λ z. App n z) (all_same ys)

at_layer : (x : layer.Raw-F Raw) (y : layer.Raw-F ((r : Raw) × IsSame r)) → map-Raw ((r : Raw) × IsSame r) Raw (λ e. e.0) y ≡ x → IsSame (roll-Raw x)
at_layer x (layer.Word n) is = subst (λ z. IsSame (roll-Raw z)) is (subst IsSame (sym (rolls-Word n)) (same_word n))
at_layer x (layer.Text n) is = subst (λ z. IsSame (roll-Raw z)) is (subst IsSame (sym (rolls-Text n)) (same_text n))
at_layer x (layer.App n ys) is = subst (λ z. IsSame (roll-Raw z)) is (subst IsSame (sym (rolls-App n (map (λ e. e.0) ys))) (same_app n ys))

pub raw_back : (r : Raw) → IsSame r
raw_back = ind-Raw IsSame at_layer

-- a term with its place
pub term_gives : (ts rest : List Token) (r : Raw) → read term ts ≡ Took (tree_of r) rest → read placed_term ts ≡ Took (record { place = first_place ts; raw = r }) rest
unfolding placed_term
term_gives ts rest r e = rw e (ap (λ z. Took (record { place = first_place ts; raw = z }) rest) (raw_back r))

pub term_fails : (ts : List Token) (e : Halt) → Fails e (read term ts) → Fails e (read placed_term ts)
unfolding placed_term
term_fails ts halts.Memory f = tt
term_fails ts (halts.At w at) f = rw f refl

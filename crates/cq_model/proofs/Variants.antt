-- Terms and values variant by variant.
use Rattle.std.proofs.Common.{ℕ, List, ◌≡◌, sym, ap, ◌∙◌}
use Rattle.cq_theory.specs.declared.term.EntTerm.{EntTerm}
use Rattle.cq_theory.specs.declared.term.TypeTerm.TheVariants.{Att, rolls-Att}
use Rattle.cq_theory.specs.declared.term.TypeTerm.TheOpen as layer
use Rattle.cq_theory.specs.declared.term.TypeTerm.TheViews.{out-TypeTerm, out-roll-TypeTerm}
use Rattle.cq_theory.specs.declared.value.Value.{Value}
use Rattle.cq_theory.specs.declared.value.Value.TheVariants as value
use Rattle.cq_theory.specs.declared.value.Value.TheOpen as value_layer
use Rattle.cq_theory.specs.declared.value.Value.TheViews.{out-Value, out-roll-Value}

pub out-Att : (a : ℕ) (t : EntTerm) → out-TypeTerm (Att a t) ≡ layer.Att a t
out-Att a t = ap out-TypeTerm (sym (rolls-Att a t)) ∙ out-roll-TypeTerm (layer.Att a t)

out-Fun : (f : ℕ) (vs : List Value) → out-Value (value.Fun f vs) ≡ value_layer.Fun f vs
out-Fun f vs = ap out-Value (sym (value.rolls-Fun f vs)) ∙ out-roll-Value (value_layer.Fun f vs)

-- equal built values have one function and equal arguments
pub one_application : (f g : ℕ) (vs ws : List Value) → value.Fun f vs ≡ value.Fun g ws → (f ≡ g) × (vs ≡ ws)
one_application f g vs ws h =
    let one : value_layer.Fun f vs ≡ value_layer.Fun g ws = sym (out-Fun f vs) ∙ ap out-Value h ∙ out-Fun g ws in
    (cc, cc)

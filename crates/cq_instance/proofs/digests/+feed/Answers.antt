use Rattle.std.proofs.Common.{ℕ, List, [], ◌∷◌, ◌≡◌, sym, ap, ◌∙◌}
use Rattle.std.specs.Prelude.{fold}
use Rattle.std.specs.List.{flat_map}
use Rattle.std.specs.Hash.{HashWrites, le_bytes}
use Rattle.std.specs.Hash.DefaultHasher as sip
use Rattle.std.proofs.lemmas.List.{drop_all}
use Rattle.std.proofs.lemmas.List.Folds.{flat_map-map}
use Rattle.cq_theory.specs.declared.value.Value.{Value}
use Rattle.cq_theory.specs.declared.value.Value.TheVariants.{Fun}
use Rattle.cq_theory.proofs.Values as values
use Rattle.cq_instance.specs.Digests.{fed_step, fed_value}
use Rattle.cq_instance.proofs.digests.+feed.Goals as goal

-- an application is fed as its function and then its arguments
fed_application : {S : Type 0} (write : S → List ℕ → S) (f : ℕ) (args : List Value) (s : S) → fold write (write (write s (3 ∷ [])) (le_bytes 4 f)) (flat_map fed_value args) ≡ fold write s (fed_value (Fun f args))
fed_application write f args s =
    sym (ap (fold write s) (values.fold-Fun HashWrites fed_step f args)
    ∙ ap (fold write (write (write s (3 ∷ [])) (le_bytes 4 f))) (flat_map-map (λ (x : HashWrites). x) fed_value args))

pub loop-arg-init : goal.loop-arg-init
loop-arg-init t c =
    let f : ℕ = c.in-Fun.function in
    ap (λ s. fold sip.write s (flat_map fed_value c.as_slice-arg-items.result.now)) (c.write_u32.ensures ∙ ap (λ s. sip.write s (le_bytes 4 f)) c.write_u8-in-Fun.ensures)
    ∙ ap (λ (l : List Value). fold sip.write (sip.write (sip.write c.args.state.now (3 ∷ [])) (le_bytes 4 f)) (flat_map fed_value l)) c.as_slice-arg-items.ensures
    ∙ fed_application sip.write f c.in-Fun.args c.args.state.now
    ∙ ap (λ (v : Value). fold sip.write c.args.state.now (fed_value v)) (sym c.in-Fun.is)

pub returns-after-loop-arg : goal.returns-after-loop-arg
returns-after-loop-arg t c =
    sym (ap (λ (l : List Value). fold sip.write c.loop-arg.state (flat_map fed_value l)) (drop_all c.loop-arg.arg-index c.as_slice-arg-items.result.now c.loop-arg-test.false))
    ∙ c.loop-arg.invariant

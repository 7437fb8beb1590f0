-- The entity of a variable by its uses.
use Rattle.std.proofs.Common.{ℕ, List, [], ◌∷◌, Option, None, ◌≡◌, map, refl, sym, ap, ◌∙◌}
use Rattle.cq_base.specs.declared.name.Name.{Name}
use Rattle.cq_base.specs.declared.raw.Raw.{Raw}
use Rattle.cq_base.specs.declared.raw.Raw.TheVariants.{Word, Text, App, rolls-Word, rolls-Text, rolls-App}
use Rattle.cq_base.specs.declared.raw.Raw.TheOpen as layer
use Rattle.cq_base.specs.declared.raw.Raw.TheFolds.{para-roll-Raw}
use Rattle.cq_theory.specs.SchemaData.{SchemaData as Schema}
use Rattle.cq_theory.specs.Resolve.{or_else}
use Rattle.cq_theory.specs.SchemaParts.{applied_source, applied_source_step, source_at, first_found}

map-first : {X Y : Type 0} (f : X → Y) (xs : List X) → map (λ (p : X × Y). p.0) (map (λ x. (x, f x)) xs) ≡ xs
map-first f [] = refl
map-first f (x ∷ xs) = ap (λ l. x ∷ l) (map-first f xs)

map-second : {X Y : Type 0} (f : X → Y) (xs : List X) → map (λ (p : X × Y). p.1) (map (λ x. (x, f x)) xs) ≡ map f xs
map-second f [] = refl
map-second f (x ∷ xs) = ap (λ l. f x ∷ l) (map-second f xs)

module _ (S : Schema) (v : Name) where
  pub applied_source-Word : (name : Name) → applied_source S v (Word name) ≡ None
  applied_source-Word name = ap (applied_source S v) (sym (rolls-Word name)) ∙ para-roll-Raw (Option ℕ) (applied_source_step S v) (layer.Word name)

  pub applied_source-Text : (name : Name) → applied_source S v (Text name) ≡ None
  applied_source-Text name = ap (applied_source S v) (sym (rolls-Text name)) ∙ para-roll-Raw (Option ℕ) (applied_source_step S v) (layer.Text name)

  pub applied_source-App : (name : Name) (args : List Raw) → applied_source S v (App name args) ≡ or_else (source_at S v name args) (first_found (map (applied_source S v) args))
  applied_source-App name args =
      ap (applied_source S v) (sym (rolls-App name args)) ∙ para-roll-Raw (Option ℕ) (applied_source_step S v) (layer.App name args)
      ∙ (λ i. or_else (source_at S v name (map-first (applied_source S v) args i)) (first_found (map-second (applied_source S v) args i)))

  pub source-at_Word : (raw : Raw) (name : Name) → raw ≡ Word name → None ≡ applied_source S v raw
  source-at_Word raw name e = sym (ap (applied_source S v) e ∙ applied_source-Word name)

  pub source-at_Text : (raw : Raw) (name : Name) → raw ≡ Text name → None ≡ applied_source S v raw
  source-at_Text raw name e = sym (ap (applied_source S v) e ∙ applied_source-Text name)

  pub source-at_App : (raw : Raw) (name : Name) (args slice : List Raw) (r : Option ℕ) → raw ≡ App name args → slice ≡ args
      → r ≡ or_else (source_at S v name slice) (first_found (map (applied_source S v) slice)) → r ≡ applied_source S v raw
  source-at_App raw name args slice r e f h =
      h ∙ ap (λ l. or_else (source_at S v name l) (first_found (map (applied_source S v) l))) f ∙ sym (ap (applied_source S v) e ∙ applied_source-App name args)

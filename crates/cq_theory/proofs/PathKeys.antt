-- The foreign keys of paths.
use Rattle.std.proofs.Common.{ℕ, List, [], ◌∷◌, ◌++◌, ◌+◌, ◌<◌, ◌≡◌, take, length, get_or, sym, ap, ◌∙◌}
use Rattle.std.proofs.lemmas.List.{take_more}
use Rattle.std.proofs.lemmas.List.Elements.{filter_map-append}
use Rattle.cq_base.specs.declared.name.Name.{Name}
use Rattle.cq_base.specs.Names.{number_of}
use Rattle.cq_theory.specs.SchemaData.{SchemaData as Schema}
use Rattle.cq_theory.specs.Schema.{edge_names}
use Rattle.cq_theory.specs.Paths.{path_keys}

pub path_keys_more : (S : Schema) (names : List Name) (i : ℕ) (name : Name) → i < length names → name ≡ get_or names i name
    → path_keys S (take (i + 1) names) ≡ path_keys S (take i names) ++ path_keys S (name ∷ [])
path_keys_more S names i name within is =
    ap (path_keys S) (take_more names i name within ∙ ap (λ n. take i names ++ n ∷ []) (sym is))
    ∙ filter_map-append (number_of (edge_names S.keys)) (take i names) (name ∷ [])

use Rattle.std.proofs.Common.{[], ◌∷◌, ◌++◌, ◌≡◌, None, ◌∙◌, ap, sym, subst}
use Rattle.std.specs.Prelude.{nat_eq}
use Rattle.indexmap.proofs.CallerLemmas.{insert_entry-new}
use Rattle.cq_import.specs.Labels.{type_of_label}
use Rattle.cq_import.proofs.labels.Labels.add.Goals as goal

pub returns : goal.returns
returns c =
    c.in_ok-insert.ensures.entries
    ∙ insert_entry-new nat_eq c.self.inside.types c.args.label c.args.sort (subst (λ l. type_of_label l c.args.label ≡ None) (sym c.self.view_is) c.requires)
    ∙ ap (λ l. l ++ (c.args.label, c.args.sort) ∷ []) c.self.view_is

use Rattle.std.proofs.Common.{List, ◌++◌, ◌∷◌, [], sym, ap, ◌∙◌}
use Rattle.indexmap.specs.IndexMap.{insert_entry}
use Rattle.cq_base.specs.Names.{same_name}
use Rattle.cq_environment.specs.declared.environment.Bound.{Bound}
use Rattle.cq_environment.specs.Environment.{Entry, environment_of, meant}
use Rattle.cq_environment.proofs.Entries.{inserted}
use Rattle.cq_environment.proofs.environment.Environment.add.Goals as goal

pub returns-clause-added : goal.returns-clause-added
returns-clause-added c =
    let before = c.args.self.now.names.entries in
    ap environment_of c.in_ok-insert.ensures.entries
    ∙ ap (λ (entries : List Entry). environment_of (insert_entry same_name entries c.args.name c.in_ok-bound.bound)) c.hash_like.ensures
    ∙ inserted before c.args.name c.in_ok-bound.bound (sym c.contains_key.ensures ∙ c.if-contains_key.false)
    ∙ ap (λ (b : Bound). environment_of before ++ (c.args.name, meant b.meaning, b.moved) ∷ []) c.in_ok-bound.ensures.ok

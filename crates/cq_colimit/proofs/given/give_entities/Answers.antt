use Rattle.std.proofs.Common.{List, ◌≡◌, ◌∷◌, ◌++◌, ◌+◌, drop, ap, sym, ◌∙◌, arith, rules}
use Rattle.cq_base.specs.declared.name.Name.{Name}
use Rattle.cq_colimit.specs.Classes.{is_first}
use Rattle.cq_colimit.specs.Clashes.{given_by, names_where}
use Rattle.cq_colimit.proofs.Giving.{next_of, given_step}
use Rattle.cq_colimit.proofs.given.give_entities.Goals as goal

pub loop-name-preserved : goal.loop-name-preserved
loop-name-preserved c =
    let items : c.as_slice-name-items.result.now ≡ c.args.part.now.schema.entities = search rules in
    let next : drop c.loop-name.name-index c.args.part.now.schema.entities ≡ c.name-item.result ∷ drop (c.loop-name.name-index + 1) c.args.part.now.schema.entities =
    ap (λ (l : List Name). drop c.loop-name.name-index l) (sym items)
    ∙ next_of c.as_slice-name-items.result.now c.loop-name.name-index c.name-item.result c.loop-name-test.true c.name-item.is
    ∙ ap (λ (l : List Name). c.name-item.result ∷ drop (c.loop-name.name-index + 1) l) items in (
      omega (arith, c.loop-name.invariant.0),
      λ links is.
          given_step c.args.part.now (is_first links) c.loop-name.number c.name-item.result (drop (c.loop-name.name-index + 1) c.args.part.now.schema.entities)
          c.loop-name.made.items c.give_first.new.made.items _
          (ap (λ (l : List Name). c.loop-name.made.items ++ given_by c.args.part.now (names_where (is_first links) c.loop-name.number l)) (sym next) ∙ c.loop-name.invariant.1 links is)
          (c.in_ok-give_first.ensures links is),
    )

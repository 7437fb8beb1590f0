use Rattle.std.proofs.Common.{◌≡◌, ◌∙◌, length, sym, subst, rules}
use Rattle.cq_colimit.specs.Placing.{entities_in}
use Rattle.cq_colimit.specs.Ends.{links_of}
use Rattle.cq_colimit.specs.Frame.{ArePlaced, AreJoined}
use Rattle.cq_colimit.proofs.Places.{entities_fit}
use Rattle.cq_colimit.proofs.Ordered.{joined_from, links_same, pair_refused, rest_same, rest_refused}
use Rattle.cq_colimit.proofs.colimits.join_placed.Goals as goal

pub count_entities-entities-requires : goal.count_entities-entities-requires
count_entities-entities-requires c = (c.requires.placed.0, c.as_slice.ensures.value ∙ c.requires.placed.1.places, c.requires.placed.1.small)

pub find_links-found-requires-clause-fits : goal.find_links-found-requires-clause-fits
find_links-found-requires-clause-fits c =
    let given = c.requires.placed in
    entities_fit c.args.typeside.value given.0 c.as_slice-2.result.now (subst (ArePlaced c.args.typeside.value given.0) (sym c.as_slice-2.ensures.value) given.1) c.count_entities-entities.result
    (c.count_entities-entities.ensures given.0 (c.as_slice.ensures.value ∙ given.1.places))

pub returns-in-Err-clause-refused : goal.returns-in-Err-clause-refused
returns-in-Err-clause-refused c =
    let here : c.len-first.result ≡ length c.args.parts.items = search rules in
    pair_refused c.args.typeside.value c.args.parts.items c.as_slice-2.result.now c.args.joins c.len-first.result 0 c.as_slice-3.result.now c.as_slice-2.ensures.value here c.as_slice-3.ensures c.in-Err.refusal c.of_colimit.result c.of_colimit.ensures c.in-Err.ensures.refused

pub join-requires-clause-classes : goal.join-requires-clause-classes
join-requires-clause-classes c =
    let given = c.requires.placed in
    let here : c.len-first.result ≡ length c.args.parts.items = search rules in
    let count : c.count_entities-entities.result ≡ entities_in given.0 = c.count_entities-entities.ensures given.0 (c.as_slice.ensures.value ∙ given.1.places) in (
      (links_of c.args.parts.items c.args.joins.pairs),
      given.0,
      joined_from c.args.typeside.value given.0 c.args.parts.items (links_of c.args.parts.items c.args.joins.pairs) c.in-Ok.links.items c.as_slice-4.result.now c.count_entities-entities.result c.in_ok-classes.classes.firsts.items c.in_ok-classes.classes.numbers.items
          given.1 count c.as_slice-4.ensures.value (c.in-Ok.ensures.made ∙ links_same c.args.typeside.value c.args.parts.items c.as_slice-2.result.now c.args.joins c.len-first.result 0 c.as_slice-3.result.now c.as_slice-2.ensures.value here c.as_slice-3.ensures) c.in_ok-classes.ensures.firsts c.in_ok-classes.ensures.numbers,
    )

pub returns-in-Ok-join-clause-accepted : goal.returns-in-Ok-join-clause-accepted
returns-in-Ok-join-clause-accepted c =
    let given = c.requires.placed in
    let here : c.len-first.result ≡ length c.args.parts.items = search rules in
    let count : c.count_entities-entities.result ≡ entities_in given.0 = c.count_entities-entities.ensures given.0 (c.as_slice.ensures.value ∙ given.1.places) in
    let are : AreJoined (links_of c.args.parts.items c.args.joins.pairs) c.args.typeside.value given.0 c.args.parts.items c.in_ok-classes.classes.firsts.items c.in_ok-classes.classes.numbers.items =
    joined_from c.args.typeside.value given.0 c.args.parts.items (links_of c.args.parts.items c.args.joins.pairs) c.in-Ok.links.items c.as_slice-4.result.now c.count_entities-entities.result c.in_ok-classes.classes.firsts.items c.in_ok-classes.classes.numbers.items
    given.1 count c.as_slice-4.ensures.value (c.in-Ok.ensures.made ∙ links_same c.args.typeside.value c.args.parts.items c.as_slice-2.result.now c.args.joins c.len-first.result 0 c.as_slice-3.result.now c.as_slice-2.ensures.value here c.as_slice-3.ensures) c.in_ok-classes.ensures.firsts c.in_ok-classes.ensures.numbers in
    rest_same c.args.typeside.value c.args.parts.items c.as_slice-2.result.now c.args.joins c.len-first.result _ c.as_slice-3.result.now c.as_slice-2.ensures.value here c.as_slice-3.ensures c.in-Ok.ensures.accepted (search rules) ∙ c.in-Ok-join.ensures.accepted (links_of c.args.parts.items c.args.joins.pairs) given.0 are

pub returns-in-Ok-join-clause-schema : goal.returns-in-Ok-join-clause-schema
returns-in-Ok-join-clause-schema c =
    let given = c.requires.placed in
    let here : c.len-first.result ≡ length c.args.parts.items = search rules in
    let count : c.count_entities-entities.result ≡ entities_in given.0 = c.count_entities-entities.ensures given.0 (c.as_slice.ensures.value ∙ given.1.places) in
    let are : AreJoined (links_of c.args.parts.items c.args.joins.pairs) c.args.typeside.value given.0 c.args.parts.items c.in_ok-classes.classes.firsts.items c.in_ok-classes.classes.numbers.items =
    joined_from c.args.typeside.value given.0 c.args.parts.items (links_of c.args.parts.items c.args.joins.pairs) c.in-Ok.links.items c.as_slice-4.result.now c.count_entities-entities.result c.in_ok-classes.classes.firsts.items c.in_ok-classes.classes.numbers.items
    given.1 count c.as_slice-4.ensures.value (c.in-Ok.ensures.made ∙ links_same c.args.typeside.value c.args.parts.items c.as_slice-2.result.now c.args.joins c.len-first.result 0 c.as_slice-3.result.now c.as_slice-2.ensures.value here c.as_slice-3.ensures) c.in_ok-classes.ensures.firsts c.in_ok-classes.ensures.numbers in
    c.in-Ok-join.ensures.schema (links_of c.args.parts.items c.args.joins.pairs) given.0 are

pub returns-in-Ok-join-clause-inclusions : goal.returns-in-Ok-join-clause-inclusions
returns-in-Ok-join-clause-inclusions c =
    let given = c.requires.placed in
    let here : c.len-first.result ≡ length c.args.parts.items = search rules in
    let count : c.count_entities-entities.result ≡ entities_in given.0 = c.count_entities-entities.ensures given.0 (c.as_slice.ensures.value ∙ given.1.places) in
    let are : AreJoined (links_of c.args.parts.items c.args.joins.pairs) c.args.typeside.value given.0 c.args.parts.items c.in_ok-classes.classes.firsts.items c.in_ok-classes.classes.numbers.items =
    joined_from c.args.typeside.value given.0 c.args.parts.items (links_of c.args.parts.items c.args.joins.pairs) c.in-Ok.links.items c.as_slice-4.result.now c.count_entities-entities.result c.in_ok-classes.classes.firsts.items c.in_ok-classes.classes.numbers.items
    given.1 count c.as_slice-4.ensures.value (c.in-Ok.ensures.made ∙ links_same c.args.typeside.value c.args.parts.items c.as_slice-2.result.now c.args.joins c.len-first.result 0 c.as_slice-3.result.now c.as_slice-2.ensures.value here c.as_slice-3.ensures) c.in_ok-classes.ensures.firsts c.in_ok-classes.ensures.numbers in
    c.in-Ok-join.ensures.inclusions (links_of c.args.parts.items c.args.joins.pairs) given.0 are

pub returns-clause-refused : goal.returns-clause-refused
returns-clause-refused c =
    let given = c.requires.placed in
    let here : c.len-first.result ≡ length c.args.parts.items = search rules in
    let count : c.count_entities-entities.result ≡ entities_in given.0 = c.count_entities-entities.ensures given.0 (c.as_slice.ensures.value ∙ given.1.places) in
    let are : AreJoined (links_of c.args.parts.items c.args.joins.pairs) c.args.typeside.value given.0 c.args.parts.items c.in_ok-classes.classes.firsts.items c.in_ok-classes.classes.numbers.items =
    joined_from c.args.typeside.value given.0 c.args.parts.items (links_of c.args.parts.items c.args.joins.pairs) c.in-Ok.links.items c.as_slice-4.result.now c.count_entities-entities.result c.in_ok-classes.classes.firsts.items c.in_ok-classes.classes.numbers.items
    given.1 count c.as_slice-4.ensures.value (c.in-Ok.ensures.made ∙ links_same c.args.typeside.value c.args.parts.items c.as_slice-2.result.now c.args.joins c.len-first.result 0 c.as_slice-3.result.now c.as_slice-2.ensures.value here c.as_slice-3.ensures) c.in_ok-classes.ensures.firsts c.in_ok-classes.ensures.numbers in
    rest_refused c.args.typeside.value c.args.parts.items c.as_slice-2.result.now c.args.joins c.len-first.result _ c.as_slice-3.result.now c.as_slice-2.ensures.value here c.as_slice-3.ensures c.in-Ok.ensures.accepted (search rules) c.in-Err-join.refusal (c.in-Err-join.ensures.refused (links_of c.args.parts.items c.args.joins.pairs) given.0 are)

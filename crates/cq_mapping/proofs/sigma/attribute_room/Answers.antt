use Rattle.std.proofs.Common.{rules, ◌≡◌}
use Rattle.cq_mapping.specs.Images.{attribute_image, ent_image}
use Rattle.cq_mapping.proofs.Counted.{attribute_room-is}
use Rattle.cq_mapping.proofs.sigma.attribute_room.Goals as goal

pub returns-in-Some : goal.returns-in-Some
returns-in-Some c =
    let F = c.args.mapping.now in
    let same : c.in-Some.term.now ≡ attribute_image F c.args.attribute = search rules in
    attribute_room-is (ent_image F c.args.at.now) c.count_symbols-base.result c.args.room c.in-Some.term.now (attribute_image F c.args.attribute) c.room_after.result
    c.count_symbols-base.ensures same c.requires c.room_after.ensures

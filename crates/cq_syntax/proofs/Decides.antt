-- The next token alone decides each choice of the grammar.
use Rattle.std.proofs.Common.{◌≡◌, true, refl}
use Rattle.cq_rules.specs.Rule.{decides}
use Rattle.cq_syntax.specs.Grammar.{name, text, spot, value, setting, options, placed_path, placed_term, group, constants, functions, edge, equation, path_equation, of_entity, observation, member, pair, bind, open_type, typeside, schema_literal, schema, colimit, key_image, att_value, att_image, map_block, mapping_literal, mapping, query_key, query_block, query_literal, query, instance_literal, coproduct, import, instance, transform_literal, move_form, transform, declaration, lone_term, program}

pub program_decides : decides program ≡ true
unfolding name text spot value setting options placed_path placed_term group constants functions edge equation path_equation of_entity observation member pair bind open_type typeside schema_literal schema colimit key_image att_value att_image map_block mapping_literal mapping query_key query_block query_literal query instance_literal coproduct import instance transform_literal move_form transform declaration program
program_decides = refl

pub lone_term_decides : decides lone_term ≡ true
unfolding placed_term lone_term
lone_term_decides = refl

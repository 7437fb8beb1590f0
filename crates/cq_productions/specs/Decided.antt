-- Where the next token decides whether another item of a list follows.
use Rattle.std.proofs.Common.{◌≡◌, true, refl}
use Rattle.cq_rules.specs.Rule.{decides, many}
use Rattle.cq_syntax.specs.Grammar as grammar
use Rattle.cq_productions.specs.Rules.{comma_name, plus_spot}
use Rattle.cq_syntax.specs.Grammar.{name, spot, value, setting, placed_path, placed_term, group, edge, equation, path_equation, of_entity}
use Rattle.cq_syntax.specs.Grammar.{observation, member, pair, bind, key_image, att_value, att_image, map_block, query_key, query_block}
use Rattle.cq_syntax.specs.Grammar.{open_type, typeside, options, schema, schema_literal, colimit, mapping}
use Rattle.cq_syntax.specs.Grammar.{mapping_literal, query, query_literal}
use Rattle.cq_syntax.specs.Grammar.{instance, instance_literal, coproduct, text, transform, transform_literal, move_form, declaration}

pub spots : decides (many spot) ≡ true
unfolding spot
spots = refl

pub values : decides (many value) ≡ true
unfolding value
values = refl

pub comma_names : decides (many comma_name) ≡ true
unfolding name
comma_names = refl

pub plus_spots : decides (many plus_spot) ≡ true
unfolding spot
plus_spots = refl

pub settings : decides (many setting) ≡ true
unfolding setting spot
settings = refl

pub groups : decides (many group) ≡ true
unfolding group spot name
groups = refl

pub constants : decides (many grammar.constants) ≡ true
unfolding grammar.constants value name
constants = refl

pub functions : decides (many grammar.functions) ≡ true
unfolding grammar.functions spot name
functions = refl

pub edges : decides (many edge) ≡ true
unfolding edge spot name
edges = refl

pub path_equations : decides (many path_equation) ≡ true
unfolding path_equation placed_path
path_equations = refl

pub equations : decides (many equation) ≡ true
unfolding equation placed_term
equations = refl

pub binds : decides (many bind) ≡ true
unfolding bind placed_term name
binds = refl

pub observations : decides (many observation) ≡ true
unfolding observation of_entity placed_term name
observations = refl

pub pairs : decides (many pair) ≡ true
unfolding pair member name
pairs = refl

pub key_images : decides (many key_image) ≡ true
unfolding key_image placed_path name
key_images = refl

pub att_images : decides (many att_image) ≡ true
unfolding att_image att_value of_entity placed_path placed_term name
att_images = refl

pub map_blocks : decides (many map_block) ≡ true
unfolding map_block key_image att_image att_value of_entity placed_path placed_term name
map_blocks = refl

pub query_keys : decides (many query_key) ≡ true
unfolding query_key bind placed_term name
query_keys = refl

pub query_blocks : decides (many query_block) ≡ true
unfolding query_block group equation query_key bind placed_term spot name
query_blocks = refl

pub declarations : decides (many declaration) ≡ true
unfolding name text spot value setting options placed_path placed_term group grammar.constants grammar.functions edge equation path_equation
    of_entity observation member pair bind open_type typeside schema_literal schema colimit key_image att_value att_image map_block
    mapping_literal mapping query_key query_block query_literal query instance_literal coproduct grammar.import instance transform_literal
    move_form transform declaration
declarations = refl

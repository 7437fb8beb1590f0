-- One transform after another.
use Rattle.std.specs.Prelude.{ℕ, Bool, List, [], Option, Some, None, map, nat_lt, slice_get}
use Rattle.std.specs.List.{enumerate_from, list_any}
use Rattle.cq_theory.specs.declared.constant.Con.TheVariants.{Named}
use Rattle.cq_theory.specs.declared.term.EntTerm.{EntTerm}
use Rattle.cq_theory.specs.declared.term.TypeTerm.{TypeTerm}
use Rattle.cq_theory.specs.declared.term.TypeTerm.TheVariants as term
use Rattle.cq_theory.specs.declared.term.TypeTerm.TheOpen.{TypeTerm-F}
use Rattle.cq_theory.specs.declared.term.TypeTerm.TheFolds.{fold-TypeTerm}
use Rattle.cq_theory.specs.declared.value.Value.{Value}
use Rattle.cq_theory.specs.EntTerm.{extended}
use Rattle.cq_theory.specs.Carried.{carried_step}
use Rattle.cq_theory.specs.Presentation.{term_symbols}
use Rattle.cq_theory.specs.Homomorphism.{row_image, value_image}
use Rattle.cq_instance.specs.InstanceData.{InstanceData}
use Rattle.cq_instance.specs.declared.transform.Image.{Image}
use Rattle.cq_instance.specs.declared.transform.Image.TheVariants.{Row, Value as ValueImage}
use Rattle.cq_instance.specs.declared.transform.Transform.{Transform}
use Rattle.cq_transform.specs.Transforms.{term_of}

-- the term to which a generator of an entity, or of a type, is sent; the others stand only for generators that have no such image
abbrev pub row_term : Option Image → EntTerm
row_term (Some (Row t)) = t
row_term _ = record { generator = 0; path = [] }

abbrev pub value_term : Option Image → TypeTerm
value_term (Some (ValueImage t)) = t
value_term _ = term.Const (Named 0)

module _ (images : List Image) where
  -- a term with the image of each generator in the generator's place
  abbrev pub put_row : EntTerm → EntTerm
  put_row t = extended (row_term (slice_get images t.generator)) t.path

  abbrev pub put_value_step : TypeTerm-F TypeTerm → TypeTerm
  put_value_step = carried_step (λ n. value_term (slice_get images n)) (λ a t. term.Att a (put_row t))

  abbrev pub put_value : TypeTerm → TypeTerm
  put_value = fold-TypeTerm TypeTerm put_value_step

  abbrev pub put_image : Image → Image
  put_image (Row t) = Row (put_row t)
  put_image (ValueImage t) = ValueImage (put_value t)

-- the images of the first transform, each with those of the second one in place of its generators
abbrev pub composed_images : List Image → List Image → List Image
composed_images first second = map (put_image second) first

-- the image has over 1,024 symbols
abbrev pub is_long : Image → Bool
is_long image = nat_lt 1024 (term_symbols (term_of image))

abbrev pub has_long : List Image → Bool
has_long images = list_any is_long images

-- `first` ends in j, and `second` goes from j to k: images, rows and nulls go first by the one and then by the other
module _ (j k : InstanceData) (first second : Transform) where
  abbrev pub row_then : ℕ → ℕ → ℕ
  row_then entity row = row_image j.schema j.tables k.tables second.rows second.nulls entity row

  abbrev pub value_then : Value → Value
  value_then = value_image j.schema j.tables k.tables second.rows second.nulls

  abbrev pub composed_rows : List (List ℕ)
  composed_rows = map (λ e. map (row_then e.0) e.1) (enumerate_from 0 first.rows)

  abbrev pub composed_nulls : List Value
  composed_nulls = map value_then first.nulls

  abbrev pub composed : Transform
  composed = record { images = composed_images first.images second.images; rows = composed_rows; nulls = composed_nulls }

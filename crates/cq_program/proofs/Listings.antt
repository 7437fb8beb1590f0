-- The instances among entries, one by one and as a list.
use Rattle.std.proofs.Common.{◌≡◌, List, [], ◌∷◌, ◌++◌, Option, Some, None, refl, ap, ◌∙◌}
use Rattle.std.specs.Prelude.{option_to_list}
use Rattle.std.specs.List.{filter_map, flat_map, cons_option}
use Rattle.cq_environment.specs.Environment.{Entry, environment_of, meant}
use Rattle.cq_program.specs.Program.{Listing, listing_named, listing_of}
use Rattle.cq_program.specs.Named.{listings_in}

one_more : (o : Option Listing) (rest : List Listing) → option_to_list o ++ rest ≡ cons_option o rest
one_more None rest = refl
one_more (Some listing) rest = refl

pub listings_all : (entries : List Entry) → flat_map listings_in entries ≡ filter_map listing_of (environment_of entries)
listings_all [] = refl
listings_all (entry ∷ entries) =
    one_more (listing_named entry.0 (meant entry.1.value.meaning)) (flat_map listings_in entries)
    ∙ ap (cons_option (listing_named entry.0 (meant entry.1.value.meaning))) (listings_all entries)

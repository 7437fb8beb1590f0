-- What contracts see of a named instance.
use Rattle.std.specs.Prelude.{List, option_to_list}
use Rattle.cq_program.specs.declared.declarations.Named.{Named}
use Rattle.cq_environment.specs.Environment.{Entry, meant}
use Rattle.cq_program.specs.Program.{Listing, listing_named}

abbrev pub listed_as : Named → Listing
listed_as named = record { name = named.name; schema = named.schema; instance = named.instance.value }

-- the listing of an entry, if it is an instance
abbrev pub listings_in : Entry → List Listing
listings_in entry = option_to_list (listing_named entry.0 (meant entry.1.value.meaning))

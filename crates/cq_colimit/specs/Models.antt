-- Tables over a joined schema.
use Rattle.std.specs.Prelude.{List, ◌↔◌, All}
use Rattle.cq_theory.specs.TypesideData.{TypesideData as Typeside}
use Rattle.cq_theory.specs.Tables.{Tables, IsWellFormed, Satisfies}
use Rattle.cq_mapping.specs.MappingData.{MappingData as Mapping}
use Rattle.cq_mapping.specs.Mapping.{IsMapping}
use Rattle.cq_mapping.specs.Moved.{delta_tables}
use Rattle.cq_theory.specs.declared.parts.ColimitParts.{ColimitParts}
use Rattle.cq_colimit.specs.Placing.{Part, placed}
use Rattle.cq_colimit.specs.Joined.{links_in, framed, joined, inclusions}

-- what the tables are along the inclusion satisfies the part
abbrev pub SatisfiesPart : Tables → Mapping → Type 0
SatisfiesPart M F = Satisfies F.source (delta_tables F M)

-- the added equations hold at the tables' rows
abbrev pub HoldsAdded : Typeside → List Part → ColimitParts → Tables → Type 0
HoldsAdded T parts joins M = Satisfies (framed (links_in parts joins) T (placed parts) joins) M

-- Where the inclusions are mappings, well-formed tables satisfy the joined schema exactly if what they are along each inclusion
-- satisfies that part and the added equations hold at their rows.
abbrev pub SatisfiesByParts : Type 0
SatisfiesByParts = (T : Typeside) (parts : List Part) (joins : ColimitParts) (M : Tables) → All IsMapping (inclusions T parts joins)
    → IsWellFormed (joined T parts joins) M
    → Satisfies (joined T parts joins) M ↔ (All (SatisfiesPart M) (inclusions T parts joins) × HoldsAdded T parts joins M)

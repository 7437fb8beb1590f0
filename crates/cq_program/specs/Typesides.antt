-- The rules of the parts of typesides.
use Rattle.std.specs.Prelude.{Ok}
use Rattle.cq_base.specs.declared.place.Place.{Place}
use Rattle.cq_syntax.specs.declared.literal.TypesideLit.{TypesideLit}
use Rattle.cq_theory.specs.TypesideData.{TypesideData}
use Rattle.cq_theory.specs.TypesideParts.{typeside_fault, typeside_made}
use Rattle.cq_parts.specs.Parts.{typeside_parts, typeside_places}
use Rattle.cq_environment.specs.Meanings.{Checked, and_then}
use Rattle.cq_program.specs.Posed.{part_breach, of_parts, Posed, a_typeside}

unfoldable pub typeside_given : Place → TypesideLit → Checked TypesideData
typeside_given place lit = of_parts (part_breach place (typeside_places lit)) (typeside_fault (typeside_parts lit))
    (typeside_made (typeside_parts lit))

abbrev pub typeside_posed : Place → TypesideLit → Checked Posed
typeside_posed place lit = and_then (typeside_given place lit) (λ T. Ok (a_typeside T))

-- The words of which texts are put together.
use Rattle.std.specs.Prelude.{ℕ, List, codes}
use Rattle.cq_witness.specs.declared.phrases.Phrase.{Phrase}
use Rattle.cq_witness.specs.declared.phrases.Phrase.TheVariants.{StillNew, Keys, GoesOn, Again, SayWhich, OrEnd}
use Rattle.cq_witness.specs.declared.phrases.Phrase.TheVariants.{OrDeeper, OfDepth, ThereAre, RowsOf, NoneMore}
use Rattle.cq_witness.specs.declared.phrases.Phrase.TheVariants.{WithDepth, TooMany, Split, AtOnce, Indent, TwoRows}
use Rattle.cq_witness.specs.declared.phrases.Phrase.TheVariants.{TwoValues, And, LineEnd, Equation, Of, Image, Colon}
use Rattle.cq_witness.specs.declared.phrases.Phrase.TheVariants.{OtherImages, Follow}

unfoldable pub words : Phrase → List ℕ
words StillNew = codes "Still new with "
words Keys = codes " keys:\n  "
words GoesOn = codes "It goes on along "
words Again = codes ", again and again.\n"
words SayWhich = codes "To mend it: say by an equation which row "
words OrEnd = codes " is, or end all such rows by a path equation of the schema:\n"
words OrDeeper = codes " is, or ask for a greater depth.\n"
words OfDepth = codes "With terms of depth "
words ThereAre = codes " there are "
words RowsOf = codes " rows of "
words NoneMore = codes ", and of no entity more.\n"
words WithDepth = codes "With depth "
words TooMany = codes " there are over 200000 rows in all.\nTo mend it: say by equations where the keys of "
words Split = codes " lead, so that fewer rows are new, or split the instance.\n"
words AtOnce = codes "The generators alone are over 200000 rows.\nTo mend it: split the instance.\n"
words Indent = codes "  "
words TwoRows = codes "  two rows: "
words TwoValues = codes "  two values: "
words And = codes " and "
words LineEnd = codes "\n"
words Equation = codes "Equation "
words Of = codes " of "
words Image = codes "Its image in "
words Colon = codes ": "
words OtherImages = codes "To mend it: give its generators other images, or state the image in that instance.\n"
words Follow = codes "It would have to follow that "

-- The summary of instances, and what is written of them.
use Rattle.std.specs.Prelude.{ℕ, List, ◌++◌, codes, decimal, length, sum}
use Rattle.std.specs.List.{flat_map}
use Rattle.cq_base.specs.declared.name.Name.{Name}
use Rattle.cq_instance.specs.InstanceData.{InstanceData}
use Rattle.cq_program.specs.Program.{Listing}
use Rattle.cq_run.specs.Meaning.{transcripts_of}
use Rattle.cq_run.specs.declared.output.View.{View}
use Rattle.cq_run.specs.declared.output.View.TheVariants.{Transcripts, Summary}

-- how many rows an instance has, of all entities
abbrev pub row_count : InstanceData → ℕ
row_count i = sum i.tables.sheet.counts

-- the line of an instance under its name: how many rows, nulls and entries it has
abbrev pub line_of : Name → InstanceData → List ℕ
line_of name i =
    codes "instance " ++ name
    ++ codes " rows " ++ decimal (row_count i)
    ++ codes " nulls " ++ decimal (length i.tables.algebra.nulls)
    ++ codes " entries " ++ decimal (length i.tables.algebra.entries) ++ codes "\n"

abbrev pub summary_line : Listing → List ℕ
summary_line L = line_of L.name L.instance

-- the line of each instance, in order
unfoldable pub summary_of : List Listing → List ℕ
summary_of L = flat_map summary_line L

-- what is written of instances that are exported: their transcripts, or their summary
abbrev pub shown_in : View → List Listing → List ℕ
shown_in Transcripts L = transcripts_of L
shown_in Summary L = summary_of L

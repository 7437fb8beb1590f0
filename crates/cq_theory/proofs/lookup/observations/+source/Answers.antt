use Rattle.cq_theory.proofs.RawSources.{source-at_Word, source-at_Text, source-at_App}
use Rattle.cq_theory.proofs.lookup.observations.+source.Goals as goal

pub find_source-returns-in-Word : goal.find_source-returns-in-Word
find_source-returns-in-Word t c = source-at_Word c.args.schema.now c.args.variable.now c.args.raw.now _ c.in-Word.is

pub find_source-returns-in-Text : goal.find_source-returns-in-Text
find_source-returns-in-Text t c = source-at_Text c.args.schema.now c.args.variable.now c.args.raw.now _ c.in-Text.is

pub find_source-returns-in-App : goal.find_source-returns-in-App
find_source-returns-in-App t c =
    source-at_App c.args.schema.now c.args.variable.now c.args.raw.now _ _ c.as_slice.result.now c.find_source_in.result c.in-App.is c.as_slice.ensures c.find_source_in.ensures

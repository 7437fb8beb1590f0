use Rattle.csv.specs.Records.{fields_of}
use Rattle.cq_import.proofs.Reading.{steps}
use Rattle.cq_import.proofs.records.next.Goals as goal

pub returns : goal.returns
returns c = λ rows remains.
    steps c.in-Ok.found c.args.reader.now c.read_byte_record.new.self (fields_of c.read_byte_record.new.row) (c.in-Ok.ensures.reads remains.plain remains.ready)
    (λ found. ((c.in-Ok.ensures.reads_on found).4 remains.ready).0) rows remains

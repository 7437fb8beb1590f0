use Rattle.std.proofs.Common.{List, sym, subst}
use Rattle.cq_origin.specs.Records.{AreFound}
use Rattle.cq_origin.specs.declared.records.FoundRecord.{FoundRecord}
use Rattle.cq_origin.proofs.Ids.{found_more}
use Rattle.cq_origin.proofs.records.push_record.Goals as goal

pub returns : goal.returns
returns c =
    subst (λ (l : List FoundRecord). AreFound c.args.text.now l) (sym c.in_ok-push.ensures.items)
    (found_more c.args.text.now c.args.found.now.items c.in_ok-record.record c.requires.found c.in_ok-record.ensures.found)

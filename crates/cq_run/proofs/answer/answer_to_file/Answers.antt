use Rattle.std.proofs.Common.{◌∙◌, Err, ap, arith}
use Rattle.cq_import.specs.Folders.{Keeps}
use Rattle.cq_import.proofs.FolderReads.{keeps_then}
use Rattle.cq_run.proofs.Answered.{answered_file, not_read_by}
use Rattle.cq_run.proofs.Stopping.{stop_before}
use Rattle.cq_run.proofs.answer.answer_to_file.Goals as goal

pub judge_with_stop-answer-requires-clause-length : goal.judge_with_stop-answer-requires-clause-length
judge_with_stop-answer-requires-clause-length g c = omega (arith, c.in-Ok.ensures.limit, c.as_slice.ensures.len, c.in-Ok.text.ok.0)

pub returns-in-Ok-clause-keeps : goal.returns-in-Ok-clause-keeps
returns-in-Ok-clause-keeps g c =
    let before : Keeps (g.F.Folder.state c.args.folder.now) (g.F.Folder.state c.read.new.self) = record {
      files = c.in-Ok.ensures.files;
      absences = c.in-Ok.ensures.absences;
      faults = c.in-Ok.ensures.faults;
      overruns = c.in-Ok.ensures.overruns;
      steady = c.in-Ok.ensures.steady;
      calm = c.in-Ok.ensures.calm;
    } in
    keeps_then _ _ _ before c.judge_with_stop-answer.ensures.keeps

pub returns-in-Ok-clause-answers : goal.returns-in-Ok-clause-answers
returns-in-Ok-clause-answers g c = λ ask is depth_is.
    answered_file ask c.args.file.now c.args.depth _ _ _ c.in-Ok.text.items c.as_slice.result.now c.judge_with_stop-answer.result.answer is depth_is
    (record { found = c.in-Ok.ensures.told; short = omega (arith, c.in-Ok.ensures.limit, c.in-Ok.text.ok.0) })
    (record {
      files = c.in-Ok.ensures.files;
      absences = c.in-Ok.ensures.absences;
      faults = c.in-Ok.ensures.faults;
      overruns = c.in-Ok.ensures.overruns;
      steady = c.in-Ok.ensures.steady;
      calm = c.in-Ok.ensures.calm;
    })
    c.as_slice.ensures.value c.judge_with_stop-answer.ensures.judges

pub returns-in-Ok-clause-told : goal.returns-in-Ok-clause-told
returns-in-Ok-clause-told g c = c.in-Ok.ensures.told

pub returns-in-Ok-clause-fails : goal.returns-in-Ok-clause-fails
returns-in-Ok-clause-fails g c = λ is. absurd (cc is)

pub returns-in-Ok-clause-stops : goal.returns-in-Ok-clause-stops
returns-in-Ok-clause-stops g c =
    stop_before c.args.depth _ _ c.in-Ok.text.items c.as_slice.result.now c.judge_with_stop-answer.result.answer c.judge_with_stop-answer.result.stop
    c.in-Ok.ensures.files c.as_slice.ensures.value c.judge_with_stop-answer.ensures.stops

pub returns-in-Err-clause-keeps : goal.returns-in-Err-clause-keeps
returns-in-Err-clause-keeps g c = record {
  files = c.in-Err.ensures.files;
  absences = c.in-Err.ensures.absences;
  faults = c.in-Err.ensures.faults;
  overruns = c.in-Err.ensures.overruns;
  steady = c.in-Err.ensures.steady;
  calm = c.in-Err.ensures.calm;
}

pub returns-in-Err-clause-answers : goal.returns-in-Err-clause-answers
returns-in-Err-clause-answers g c = λ ask is depth_is.
    not_read_by ask c.args.file.now _ _ c.in-Err.refusal c.answer_unread.result is c.in-Err.ensures.told
    (λ at. c.in-Err.ensures.absent (ap Err at)) (λ at. c.in-Err.ensures.too_long (ap Err at))
    (λ at. (c.in-Err.ensures.failed (ap Err at), c.in-Err.ensures.fails (ap Err at))) c.answer_unread.ensures

pub returns-in-Err-clause-told : goal.returns-in-Err-clause-told
returns-in-Err-clause-told g c = c.in-Err.ensures.told

pub returns-in-Err-clause-fails : goal.returns-in-Err-clause-fails
returns-in-Err-clause-fails g c = c.in-Err.ensures.fails

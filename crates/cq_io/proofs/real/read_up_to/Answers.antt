use Rattle.std.proofs.Common.{◌<◌, ◌≤◌, ◌^◌, length, ap, ◌∙◌, arith}
use Rattle.cq_io.proofs.Taking.{read_all}
use Rattle.cq_io.proofs.real.read_up_to.Goals as goal

pub returns-in-Ok-clause-told : goal.returns-in-Ok-clause-told
returns-in-Ok-clause-told g c =
    let buf = c.read_to_end.new.buf in
    let source = c.take-source.result in
    let within : length buf.items ≤ c.args.limit = omega (arith, buf.ok.0, buf.ok.1) in
    let small : length buf.items < 2 ^ 63 = omega (arith, buf.ok.0, buf.ok.1, buf.small) in
    read_all (g.S.Read.remaining c.args.source) (g.S.Read.remaining source.inner) c.args.limit source.limit buf.items c.new-bytes.result.items
    c.in-Ok.ensures.bytes (ap g.S.Read.remaining c.take-source.ensures.inner) c.new-bytes.ensures.items
    (c.take-source.ensures.limit ∙ c.saturating_add.ensures) within small

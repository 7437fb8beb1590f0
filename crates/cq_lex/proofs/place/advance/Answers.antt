use Rattle.std.proofs.Common.{◌≡◌, ◌+◌, ◌++◌, ◌∷◌, [], take, arith, ap, sym, ◌∙◌, append_assoc, get_or, length, ◌-◌}
use Rattle.std.proofs.lemmas.List.{take_more}
use Rattle.cq_lex.specs.Place.{place_behind}
use Rattle.cq_lex.proofs.place.advance.Goals as goal

pub loop-byte-preserved : goal.loop-byte-preserved
loop-byte-preserved c = record {
  same = λ before h.
      let items = take (length c.args.bytes.now - length c.args.rest.now) c.args.bytes.now in
      let more = take_more items c.loop-byte.byte-index 0 c.loop-byte-test.true in
      let byte = get_or items c.loop-byte.byte-index 0 in
      let all : (before ++ take c.loop-byte.byte-index items) ++ byte ∷ [] ≡ before ++ take (c.loop-byte.byte-index + 1) items = append_assoc before (take c.loop-byte.byte-index items) (byte ∷ []) ∙ ap (λ z. before ++ z) (sym more) in
      c.step-here.ensures.place (before ++ take c.loop-byte.byte-index items) (c.loop-byte.invariant.same before h) ∙ ap place_behind all;
  line = omega (arith, c.loop-byte.invariant.line, c.step-here.ensures.line);
  col = omega (arith, c.loop-byte.invariant.col, c.step-here.ensures.col);
}

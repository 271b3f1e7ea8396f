-- `write_all` meets its contract: what a turn writes is what stands behind what was written.
use Rattle.std.proofs.Common.{take, rules, sym, ap, subst}
use Rattle.std.proofs.lemmas.List.{take_rest}
use Rattle.std.proofs.Math.Seq.{take-add}
use Rattle.std.proofs.KnownBytes.{Appends-trans}
use Rattle.std.specs.Io.KnownBytes.{Appends}
use Rattle.streams.proofs.write_all.Goals as goal

pub loop-done-preserved : goal.loop-done-preserved
loop-done-preserved g c =
    let done = c.loop-done.done in
    let bytes = c.args.bytes.now in
    let n = c.in-Ok.n in
    let more = subst (Appends _ _) (ap (take n) (take_rest bytes done)) c.in-Ok.ensures.bytes in
    (search rules, subst (Appends _ _) (sym (take-add done n bytes)) (Appends-trans _ _ _ _ _ c.loop-done.invariant.1 more))

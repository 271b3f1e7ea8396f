-- `run_parts::finish::finish` meets its contract: the listing at the finish. Assumes nothing.
use mathlib.Core.Path.{subst}
use Rattle.words.specs.Words.{words}
use Rattle.machine_nodes.specs.Nodes.{nodes_in}
use Rattle.words.specs.Quadwords.{quadwords_in}
use Rattle.machine_state.specs.Memory.{memory}
use Rattle.run_parts.proofs.Laws.Parts.{Writes}
use Rattle.run_parts.proofs.Laws.Finish.{says_finished}
use Rattle.run_parts.proofs.finish.finish.Goals as goal

pub returns-in-Finished : goal.returns-in-Finished
returns-in-Finished c = λ rs cs results types positions A allowance z wires allowed held end room.
    let s = c.args in
    let w = c.write_listing-length in
    let m = (memory (nodes_in s.nodes.now) rs (quadwords_in s.gates.now) cs (quadwords_in s.frames.now) (words s.types.now) results) in
    says_finished types positions A allowance m s.advanced z wires allowed held end c.in-Finished.is s.out.now w.new.out w.result room
    (subst (λ i. Writes m i s.advanced.numbers.counts.gates s.advanced.numbers.place.left s.out.now w.new.out w.result)
    c.word_in-inputs.ensures.value
    w.ensures.out_after)

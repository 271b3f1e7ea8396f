-- `step_apply_gate::put_gate` meets its contract. Assumes nothing.
use Rattle.words.specs.Words.{words}
use Rattle.step_apply_gate.proofs.put_gate.Goals as goal

pub returns : goal.returns
returns c = λ v k e stands whole room. (
  words c.collect_labels.new.labels,
  c.collect_labels.result,
  c.collect_labels.ensures v k e stands whole room,
  c.append_gate.ensures.gate_put,
)

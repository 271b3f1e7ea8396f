-- `run::run` meets its contract: 19, or the run without its clearing and then the clearing. Assumes nothing.
use mathlib.Core.Path.{◌≡◌, sym, ◌∙◌, ap, ap₂}
use mathlib.Core.Bool.{true, false}
use mathlib.Core.List.{[], ◌∷◌}
use Rattle.lent.specs.Lent.{too_short}
use Rattle.run_answers.specs.Lengths.{run_lengths}
use Rattle.run_answers.proofs.Theorems.Running.{run_means, run_is_safe}
use Rattle.run_parts.proofs.Laws.Running.{says_short}
use Rattle.run.proofs.Laws.Cleared.{untouched, cleared}
use Rattle.run.proofs.run.Goals as goal

pub returns-then-too_short : goal.returns-then-too_short
returns-then-too_short c =
    let s = c.args in
    let f = s.file.now in
    let short : too_short run_lengths (s.out.now ∷ s.nodes.now ∷ s.stack.now ∷ s.types.now ∷ s.frames.now ∷ s.gates.now ∷ s.circuits.now ∷ s.results0.now ∷ s.results1.now ∷ s.results2.now ∷ s.results3.now ∷ []) ≡ true = sym c.too_short.ensures ∙ c.if-too_short.true in record {
      answer = (says_short f s.limit (s.out.now ∷ s.nodes.now ∷ s.stack.now ∷ s.types.now ∷ s.frames.now ∷ s.gates.now ∷ s.circuits.now ∷ s.results0.now ∷ s.results1.now ∷ s.results2.now ∷ s.results3.now ∷ []) s.out.now short).0;
      bytes = untouched f s.limit s.out.now (s.nodes.now ∷ s.stack.now ∷ s.types.now ∷ s.frames.now ∷ s.gates.now ∷ s.circuits.now ∷ s.results0.now ∷ s.results1.now ∷ s.results2.now ∷ s.results3.now ∷ []) short;
      meaning = run_means f s.limit;
      safety = run_is_safe f s.limit;
    }

pub returns : goal.returns
returns c =
    let s = c.args in
    let f = s.file.now in
    let u = c.run_uncleared-answer in
    let k = c.clear_all in
    let long : too_short run_lengths (s.out.now ∷ s.nodes.now ∷ s.stack.now ∷ s.types.now ∷ s.frames.now ∷ s.gates.now ∷ s.circuits.now ∷ s.results0.now ∷ s.results1.now ∷ s.results2.now ∷ s.results3.now ∷ []) ≡ false = sym c.too_short.ensures ∙ c.if-too_short.false in record {
      answer = u.ensures.answer;
      bytes =
          cleared f s.limit s.out.now (s.nodes.now ∷ s.stack.now ∷ s.types.now ∷ s.frames.now ∷ s.gates.now ∷ s.circuits.now ∷ s.results0.now ∷ s.results1.now ∷ s.results2.now ∷ s.results3.now ∷ []) u.new.out
          (u.new.nodes ∷ u.new.stack ∷ u.new.types ∷ u.new.frames ∷ u.new.gates ∷ u.new.circuits ∷ u.new.results0 ∷ u.new.results1 ∷ u.new.results2 ∷ u.new.results3 ∷ [])
          (k.new.nodes ∷ k.new.stack ∷ k.new.types ∷ k.new.frames ∷ k.new.gates ∷ k.new.circuits ∷ k.new.results0 ∷ k.new.results1 ∷ k.new.results2 ∷ k.new.results3 ∷ [])
          long
          u.ensures.bytes
          (ap₂ ◌∷◌ u.auto.nodes (ap₂ ◌∷◌ u.auto.stack (ap₂ ◌∷◌ u.auto.types (ap₂ ◌∷◌ u.auto.frames (ap₂ ◌∷◌ u.auto.gates (ap₂ ◌∷◌ u.auto.circuits (ap₂ ◌∷◌ u.auto.results0 (ap₂ ◌∷◌ u.auto.results1 (ap₂ ◌∷◌ u.auto.results2 (ap (λ n. n ∷ []) u.auto.results3))))))))))
          k.ensures;
      meaning = run_means f s.limit;
      safety = run_is_safe f s.limit;
    }

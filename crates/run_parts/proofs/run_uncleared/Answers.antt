-- `run_parts::run_uncleared` meets its contract: 19, a refusal of `begin`, or the end of the steps. Assumes nothing.
use native.Mathlib.Omega.{arith}
use mathlib.Core.Path.{◌≡◌, sym, ◌∙◌, ap}
use mathlib.Core.Bool.{false}
use mathlib.Core.List.{[], ◌∷◌, map}
use lib.ListN.{length}
use Rattle.lent.specs.Lent.{too_short}
use Rattle.lent.proofs.Laws.Lent.{all_least}
use Rattle.words.proofs.Laws.Words.{length_words}
use Rattle.words.specs.Words.{words}
use Rattle.machine_nodes.specs.Nodes.{nodes_in}
use Rattle.machine_nodes.proofs.Laws.Nodes.{length_nodes_in}
use Rattle.words.proofs.Laws.Quadwords.{length_quadwords_in}
use Rattle.words.specs.Quadwords.{quadwords_in}
use Rattle.machine_circuits.specs.Layout.{four_results}
use Rattle.machine_state.specs.Buffers.{memory_in}
use Rattle.run_answers.specs.Lengths.{run_lengths}
use Rattle.run_parts.proofs.Laws.Running.{roomy_lent, loaded_run, says_short, says_refused, says_ended}
use Rattle.run_parts.proofs.run_uncleared.Goals as goal

pub returns-then-too_short : goal.returns-then-too_short
returns-then-too_short c =
    let s = c.args in
    let said = says_short s.file.now s.limit (s.out.now ∷ s.nodes.now ∷ s.stack.now ∷ s.types.now ∷ s.frames.now ∷ s.gates.now ∷ s.circuits.now ∷ s.results0.now ∷ s.results1.now ∷ s.results2.now ∷ s.results3.now ∷ []) s.out.now (sym c.too_short.ensures ∙ c.if-too_short.true) in
    record { answer = said.0; bytes = said.1 }

pub returns-in_default : goal.returns-in_default
returns-in_default c =
    let s = c.args in
    let b = c.begin-begun in
    let long : too_short run_lengths (s.out.now ∷ s.nodes.now ∷ s.stack.now ∷ s.types.now ∷ s.frames.now ∷ s.gates.now ∷ s.circuits.now ∷ s.results0.now ∷ s.results1.now ∷ s.results2.now ∷ s.results3.now ∷ []) ≡ false = sym c.too_short.ensures ∙ c.if-too_short.false in
    let L = all_least run_lengths (map length (s.out.now ∷ s.nodes.now ∷ s.stack.now ∷ s.types.now ∷ s.frames.now ∷ s.gates.now ∷ s.circuits.now ∷ s.results0.now ∷ s.results1.now ∷ s.results2.now ∷ s.results3.now ∷ [])) long in
    let said = says_refused s.file.now s.limit (s.out.now ∷ s.nodes.now ∷ s.stack.now ∷ s.types.now ∷ s.frames.now ∷ s.gates.now ∷ s.circuits.now ∷ s.results0.now ∷ s.results1.now ∷ s.results2.now ∷ s.results3.now ∷ []) s.out.now long (nodes_in b.new.nodes) (words b.new.types) (quadwords_in b.new.frames) b.result c.unwrap_err.result (b.ensures L.1.0) c.unwrap_err.ensures in
    record { answer = said.0; bytes = said.1 }

pub returns : goal.returns
returns c =
    let s = c.args in
    let b = c.begin-begun in
    let long : too_short run_lengths (s.out.now ∷ s.nodes.now ∷ s.stack.now ∷ s.types.now ∷ s.frames.now ∷ s.gates.now ∷ s.circuits.now ∷ s.results0.now ∷ s.results1.now ∷ s.results2.now ∷ s.results3.now ∷ []) ≡ false = sym c.too_short.ensures ∙ c.if-too_short.false in
    let L = all_least run_lengths (map length (s.out.now ∷ s.nodes.now ∷ s.stack.now ∷ s.types.now ∷ s.frames.now ∷ s.gates.now ∷ s.circuits.now ∷ s.results0.now ∷ s.results1.now ∷ s.results2.now ∷ s.results3.now ∷ [])) long in
    let a = c.advance-advanced in
    let e = c.finish in
    let ns = nodes_in b.new.nodes in
    let rs = quadwords_in s.stack.now in
    let gs = quadwords_in s.gates.now in
    let cs = quadwords_in s.circuits.now in
    let fs = quadwords_in b.new.frames in
    let ws = words b.new.types in
    let results = four_results (words s.results0.now) (words s.results1.now) (words s.results2.now) (words s.results3.now) in
    let b₂ = a.new.buffers in
    let results₂ = four_results (words b₂.results0.now) (words b₂.results1.now) (words b₂.results2.now) (words b₂.results3.now) in
    let said = says_ended s.file.now s.limit (s.out.now ∷ s.nodes.now ∷ s.stack.now ∷ s.types.now ∷ s.frames.now ∷ s.gates.now ∷ s.circuits.now ∷ s.results0.now ∷ s.results1.now ∷ s.results2.now ∷ s.results3.now ∷ []) s.out.now long ns rs gs cs fs ws results
    (memory_in b₂)
    c.in-Ok.numbers a.result e.new.out e.result
    (loaded_run s.file.now ns ws fs b.result c.in-Ok.numbers (b.ensures L.1.0) c.in-Ok.is)
    (omega (arith, L.1.0, length_nodes_in b.new.nodes, b.auto.nodes))
    (omega (arith, L.1.1.0, length_quadwords_in s.stack.now))
    (omega (arith, L.1.1.1.0, length_words b.new.types, b.auto.types))
    (roomy_lent ns rs ws s.gates.now s.circuits.now b.new.frames s.results0.now s.results1.now s.results2.now s.results3.now
    L.1.1.1.1.1.0
    L.1.1.1.1.1.1.0
    (omega (arith, L.1.1.1.1.0, b.auto.frames))
    L.1.1.1.1.1.1.1.0
    L.1.1.1.1.1.1.1.1.0
    L.1.1.1.1.1.1.1.1.1.0
    L.1.1.1.1.1.1.1.1.1.1.0)
    a.ensures.advances
    (ap (λ t. words t.now) a.ensures.same_buffers.2)
    L.0
    (e.ensures (quadwords_in b₂.stack.now) (quadwords_in b₂.circuits.now) results₂) in
    record { answer = said.0; bytes = said.1 }

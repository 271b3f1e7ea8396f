-- `machine_circuits::tuples::write_tuple` meets its contract. Assumes nothing.
use Prim.Native.Nat.{ℕ}
use native.Mathlib.Omega.{arith}
use lib.ListN.{drop, length-drop}
use Rattle.words.specs.Words.{words}
use Rattle.words.proofs.Laws.Words.{length_words}
use Rattle.rules.specs.Parts.{parts_of_kind}
use Rattle.machine_nodes.proofs.Laws.Spans.{at_most_all}
use Rattle.machine_circuits.proofs.Laws.Writing.{span_whole}
use Rattle.machine_circuits.proofs.tuples.write_tuple.Goals as goal

pub returns-then-saturating_sub-count : goal.returns-then-saturating_sub-count
returns-then-saturating_sub-count c = λ T wire_type stands whole room few.
    let a = c.args in
    let ws = words a.types.now in
    absurd (omega (
      arith,
      c.if-saturating_sub-count.true,
      c.saturating_sub.ensures,
      whole,
      span_whole T ws a.position stands,
      at_most_all ℕ parts_of_kind (drop a.position ws) 1,
      length-drop a.position ws,
      length_words a.types.now,
    ))

pub write_type-requires-clause-count_in_bounds : goal.write_type-requires-clause-count_in_bounds
write_type-requires-clause-count_in_bounds c = omega (arith, length_words c.args.types.now)

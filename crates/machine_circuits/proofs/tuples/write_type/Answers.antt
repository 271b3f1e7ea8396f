-- `machine_circuits::tuples::write_type` meets its contract. The invariant: the nodes of the entries passed are written, and so many
-- labels are used. Assumes nothing.
use Prim.Native.Nat.{◌+◌, ◌/◌, ◌<◌}
use native.Mathlib.Omega.{arith}
use mathlib.Core.Path.{◌≡◌, refl, sym, ◌∙◌, ap}
use lib.ListN.{length, get_or}
use Rattle.machine_nodes.specs.Nodes.{nodes_in}
use Rattle.machine_nodes.proofs.Laws.Nodes.{length_nodes_in}
use Rattle.words.proofs.Laws.Ends.{past_end, not_past}
use Rattle.words.proofs.Laws.Regions.{over_nil}
use Rattle.machine_circuits.specs.Tuples.{label_after, codes_of}
use Rattle.machine_circuits.proofs.Laws.Writing.{after_bounds, behind_next, coded_next, all_written}
use Rattle.machine_circuits.proofs.tuples.write_type.Goals.{then-runs_past-via-then-runs_past, then-runs_past-via-else-runs_past+then-first-gt-NO_WIRE}
use Rattle.machine_circuits.proofs.tuples.write_type.Goals as goal

pub returns-then-runs_past : goal.returns-then-runs_past
returns-then-runs_past c = λ T wire_type stands whole room few.
    let a = c.args in elim c.then-runs_past.branch [
      | then-runs_past-via-then-runs_past w ↦ absurd (omega (
        arith,
        past_end c.runs_past.result (length a.nodes.now / 4) a.to a.count c.runs_past.ensures w.if-runs_past.true,
        length_nodes_in a.nodes.now,
        whole,
        room,
      ))
      | then-runs_past-via-else-runs_past+then-first-gt-NO_WIRE w ↦ absurd (omega (arith, few, w.if-first-gt-NO_WIRE.true))
    ]

pub loop-i-init : goal.loop-i-init
loop-i-init c = (omega arith, omega arith, refl, sym (over_nil (nodes_in c.args.nodes.now) c.args.to))

pub loop-i-preserved : goal.loop-i-preserved
loop-i-preserved c =
    let a = c.args in
    let s = c.loop-i in
    let cs = codes_of a.source in
    let inside : a.position + s.i < length cs = omega (arith, c.requires.count_in_bounds, c.loop-i-test.true) in
    let read : c.code.result ≡ get_or cs (a.position + s.i) 0 = c.code.ensures inside in
    let e : c.put_code-label.result ≡ label_after s.label (get_or cs (a.position + s.i) 0)
    = c.put_code-label.ensures.value ∙ ap (label_after s.label) read in
    let b = after_bounds s.label (get_or cs (a.position + s.i) 0) in (
      omega (arith, e, b.0, s.invariant.0),
      omega (arith, e, b.1, s.invariant.1),
      e
          ∙ ap (λ j. label_after j (get_or cs (a.position + s.i) 0)) s.invariant.2
          ∙ sym (behind_next a.first cs a.position s.i inside),
      coded_next a.first cs a.position (nodes_in a.nodes.now) (nodes_in s.nodes) (nodes_in c.put_code-label.new.nodes) a.to s.i
          s.label
          c.code.result
          inside
          (omega (
            arith,
            not_past c.runs_past.result (length a.nodes.now / 4) a.to a.count c.runs_past.ensures c.if-runs_past.false,
            c.loop-i-test.true,
            length_nodes_in a.nodes.now,
          ))
          s.invariant.3
          s.invariant.2
          read
          c.put_code-label.ensures.nodes_after,
    )

pub returns : goal.returns
returns c = λ T wire_type stands whole room few.
    let a = c.args in
    let s = c.loop-i in
    let cs = codes_of a.source in
    let done : s.i ≡ a.count = omega arith in
    all_written T a.first cs a.position a.count (nodes_in a.nodes.now) (nodes_in s.nodes) a.to s.label wire_type stands whole few
    (rw done at s.invariant.2)
    (rw done at s.invariant.3)

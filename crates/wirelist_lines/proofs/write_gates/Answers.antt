-- `wirelist_lines::write_gates` meets its contract. Assumes nothing.
use borrow.Author.Rules.{rules}
use Prim.Native.Nat.{◌+◌}
use native.Mathlib.Omega.{arith}
use mathlib.Core.Path.{◌≡◌, refl, sym, ◌∙◌, ap, ap₂}
use Rattle.rules.specs.Gates.{wires_out}
use Rattle.machine_circuits.proofs.Laws.Gates.{few_out}
use Rattle.listing.specs.Reading.{kind_at}
use Rattle.wirelist_lines.specs.LinesAt.{gate_line_at}
use Rattle.text.proofs.Laws.Writing.{puts_same}
use Rattle.wirelist_lines.proofs.Laws.Read.{made_next}
use Rattle.wirelist_lines.proofs.Laws.Lines.{gate_line_at_lem, puts_piece, puts_no_piece}
use Rattle.wirelist_lines.proofs.write_gates.Goals as goal

pub loop-i-init : goal.loop-i-init
loop-i-init c = (
  c.input_count-inputs.ensures.value,
  omega arith,
  (refl, puts_no_piece (gate_line_at c.args.listing.now) c.args.out.now.text.now c.args.out.now.at, search rules),
)

pub overflow_add-inputs : goal.overflow_add-inputs
overflow_add-inputs c = omega (arith, c.loop-i-test.true, c.input_count-inputs.ensures.upper_bound, c.gate_count-i-end.ensures.upper_bound)

pub kind_at-number-requires : goal.kind_at-number-requires
kind_at-number-requires c = omega (arith, c.loop-i-test.true, c.input_count-inputs.ensures.upper_bound, c.gate_count-i-end.ensures.upper_bound)

pub overflow_add-inputs-in-loop-i : goal.overflow_add-inputs-in-loop-i
overflow_add-inputs-in-loop-i c = omega (arith, c.loop-i-test.true, c.input_count-inputs.ensures.upper_bound, c.gate_count-i-end.ensures.upper_bound)

pub write_gate-requires : goal.write_gate-requires
write_gate-requires c =
    record { i_bound = omega (arith, c.loop-i-test.true, c.input_count-inputs.ensures.upper_bound, c.gate_count-i-end.ensures.upper_bound); made_bound = omega (arith, c.loop-i.invariant.1, c.loop-i-test.true, c.input_count-inputs.ensures.upper_bound, c.gate_count-i-end.ensures.upper_bound) }

pub overflow_add-made : goal.overflow_add-made
overflow_add-made c =
    omega (
      arith,
      c.loop-i.invariant.1,
      c.loop-i-test.true,
      c.wires_out-made.ensures,
      few_out c.kind_at-number.result,
      c.input_count-inputs.ensures.upper_bound,
      c.gate_count-i-end.ensures.upper_bound,
    )

pub loop-i-preserved : goal.loop-i-preserved
loop-i-preserved c =
    let b = c.args.listing.now in
    let s = c.loop-i in
    let first = c.input_count-inputs.ensures.value in
    let kind : c.kind_at-number.result ≡ kind_at b (c.input_count-inputs.result + s.i) = c.kind_at-number.ensures.value in (
      ap₂ ◌+◌ s.invariant.0 (c.wires_out-made.ensures ∙ ap wires_out (kind ∙ ap (λ n. kind_at b (n + s.i)) first))
          ∙ sym (made_next b s.i),
      omega (arith, s.invariant.1, c.wires_out-made.ensures, few_out c.kind_at-number.result),
      (
        c.write_gate.ensures.0 ∙ s.invariant.2.0,
        puts_piece (gate_line_at b) s.i s.invariant.2.1
            (puts_same (gate_line_at_lem b s.i _ _ _ first kind s.invariant.0) c.write_gate.ensures.1),
        search rules,
      ),
    )

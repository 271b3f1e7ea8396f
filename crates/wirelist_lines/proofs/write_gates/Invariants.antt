use Prim.Native.Nat.{◌+◌, ◌*◌, ◌≤◌}
use mathlib.Core.Path.{◌≡◌}
use Rattle.rules.specs.Slots.{gate_slot_count}
use Rattle.listing.specs.Pieces.{pieces}
use Rattle.wirelist_lines.specs.LinesAt.{made_before, gate_line_at}
use Rattle.text.specs.Writer.{Writes}
use Rattle.wirelist_lines.proofs.write_gates.Given as goal

-- The lines of the gates passed are written, and the wires that they make are counted, at most three a gate.
abbrev pub invariant-loop-i : goal.invariant-loop-i
invariant-loop-i l =
    (l.made ≡ made_before l.listing l.i)
    × (l.made ≤ l.inputs + gate_slot_count * l.i)
    × Writes l.initial.out (pieces (gate_line_at l.listing) l.i) l.out

use lib.ListN.{take}
use Prim.Native.Nat.{◌+◌}
use Rattle.text.specs.Writing.{Puts}
use Rattle.text.proofs.Writer.put_bytes.Given as goal

-- The bytes passed are written.
abbrev pub invariant-loop-i : goal.invariant-loop-i
invariant-loop-i l = Puts l.initial.text l.at (take l.i l.bytes) l.text (l.at + l.i)

use lib.ListN.{take}
use Rattle.text.specs.Writer.{Writes}
use Rattle.text.proofs.Writer.put_some.Given as goal

-- The bytes passed are written.
abbrev pub invariant-loop-byte : goal.invariant-loop-byte
invariant-loop-byte l = Writes l.initial.self (take l.byte-index l.bytes) l.self

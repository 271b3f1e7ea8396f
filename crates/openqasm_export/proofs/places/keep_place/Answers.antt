-- `openqasm_export::places::keep_place` meets its contract. Assumes nothing.
use native.Mathlib.Omega.{arith}
use Rattle.openqasm_export.proofs.Laws.Places.{kept_none, none_made, kept_one, one_made}
use Rattle.openqasm_export.proofs.places.keep_place.Goals as goal

pub returns-then-codes-eq0 : goal.returns-then-codes-eq0
returns-then-codes-eq0 c = let a = c.args in record { upper_bound = (λ αs are. omega (arith, none_made a.codes αs c.if-codes-eq0.true are), omega arith); begins = λ αs bytes are begun here room. kept_none a.codes a.place αs bytes c.if-codes-eq0.true are begun }

pub returns : goal.returns
returns c = let a = c.args in record { upper_bound = (λ αs are. omega (arith, one_made a.codes αs (omega (arith, c.if-codes-eq0.false)) are), omega arith); begins = λ αs bytes are begun here room. rw c.make_wire.ensures (kept_one a.codes a.place a.made c.retype.result αs bytes (omega (arith, c.if-codes-eq0.false)) c.retype.ensures are begun here room) }

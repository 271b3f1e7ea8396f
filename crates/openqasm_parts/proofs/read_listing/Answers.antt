-- `openqasm_parts::read_listing` meets its contract. Assumes nothing.
use native.Mathlib.Omega.{arith}
use mathlib.Core.Path.{subst}
use Rattle.text.specs.Written.{Written}
use Rattle.openqasm_parts.proofs.Laws.Stored.{listing_stored}
use Rattle.openqasm_parts.proofs.read_listing.Goals as goal

pub assemble-requires : goal.assemble-requires
assemble-requires c =
    let r = c.read_inputs-inputs in
    let g = c.read_gates-gates in
    let o = c.read_outputs-outputs in
    let w = (o.ensures _ g.ensures.0 g.ensures.1).1 in (
      w.few_inputs,
      w.few_gates,
      omega (arith, w.few),
      omega (arith, c.if-kinds-lt-KINDS_BYTES.false, r.auto.kinds, g.auto.kinds),
      omega (arith, c.if-slots-lt-SLOTS_BYTES.false, r.auto.slots, g.auto.slots, o.auto.slots),
    )

pub returns : goal.returns
returns c =
    let g = c.read_gates-gates.ensures in
    λ long long'. subst (λ xs. Written c.args.listing.now xs c.assemble.new.listing c.assemble.result)
    (listing_stored (c.read_outputs-outputs.ensures _ g.0 g.1).1) c.assemble.ensures

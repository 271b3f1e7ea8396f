-- `openqasm_parts::entries::put_entry` meets its contract. Assumes nothing.
use Rattle.openqasm_parts.proofs.Laws.Stored.{one_added, slots_added}
use Rattle.openqasm_parts.proofs.entries.put_entry.Goals as goal

pub returns : goal.returns
returns c =
    let a = c.args in record { adds_kinds = one_added a.kinds.now a.entry a.kind c.requires.in_bounds.0; adds_slots = slots_added a.first a.second a.third c.put_slot.ensures c.put_slot-2.ensures c.put_slot-3.ensures }

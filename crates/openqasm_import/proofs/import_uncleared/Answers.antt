-- `openqasm_import::import_uncleared` meets its contract. Assumes nothing. What `!=` tells is met by `grind`, so that a slice of all of a
-- text serves as the text does: an edit that compares a part is then refused for the part.
use borrow.Author.Rules.{rules}
use native.Mathlib.Omega.{arith}
use mathlib.Core.Path.{subst}
use Rattle.std.proofs.Common.{take_all}
use Rattle.text.specs.Writing.{Puts}
use Rattle.text.proofs.Laws.Writer.{puts_at_start}
use Rattle.openqasm_import.proofs.Laws.Answering.{listing_stands, taken, text_stands, compared}
use Rattle.openqasm_import.proofs.Laws.Answering.{not_accepted_answered, other_text_answered, same_text_answered}
use Rattle.openqasm_import.proofs.import_uncleared.Goals as goal

pub returns-then-is_err : goal.returns-then-is_err
returns-then-is_err c =
    let a = c.args in
    let read = listing_stands a.text.now c.requires.listing_long c.read_listing-length.auto.listing (c.read_listing-length.ensures (omega arith) c.requires.slots_long) in
    let failed = taken a.text.now read (c.check_export.ensures (omega arith)) c.is_err.ensures.value c.if-is_err.true in
    let r = not_accepted_answered a.text.now a.out.now failed c.refused.ensures in
    record { value = r.0; out_after = r.1 }

pub slice_bounds-again-end : goal.slice_bounds-again-end
slice_bounds-again-end c =
    let a = c.args in
    let read = listing_stands a.text.now c.requires.listing_long c.read_listing-length.auto.listing (c.read_listing-length.ensures (omega arith) c.requires.slots_long) in
    let passed = taken a.text.now read (c.check_export.ensures (omega arith)) c.is_err.ensures.value c.if-is_err.false in
    (text_stands a.text.now read passed (omega arith) c.requires.exported_long c.write_text-written.auto.text c.write_text-written.ensures).within

pub slice_bounds-again-end-2 : goal.slice_bounds-again-end-2
slice_bounds-again-end-2 c =
    let a = c.args in
    let read = listing_stands a.text.now c.requires.listing_long c.read_listing-length.auto.listing (c.read_listing-length.ensures (omega arith) c.requires.slots_long) in
    let passed = taken a.text.now read (c.check_export.ensures (omega arith)) c.is_err.ensures.value c.if-is_err.false in
    (text_stands a.text.now read passed (omega arith) c.requires.exported_long c.write_text-written.auto.text c.write_text-written.ensures).part_length

pub returns-then-ne : goal.returns-then-ne
returns-then-ne c =
    let a = c.args in
    let read = listing_stands a.text.now c.requires.listing_long c.read_listing-length.auto.listing (c.read_listing-length.ensures (omega arith) c.requires.slots_long) in
    let passed = taken a.text.now read (c.check_export.ensures (omega arith)) c.is_err.ensures.value c.if-is_err.false in
    let stands = text_stands a.text.now read passed (omega arith) c.requires.exported_long c.write_text-written.auto.text c.write_text-written.ensures in
    let r = other_text_answered a.text.now a.out.now passed (compared a.text.now {differs = c.ne.result} stands (grind (arith, take_all, c.ne.ensures)) c.if-ne.true) c.refused-then-ne.ensures in
    record { value = r.0; out_after = r.1 }

pub returns : goal.returns
returns c =
    let a = c.args in
    let read = listing_stands a.text.now c.requires.listing_long c.read_listing-length.auto.listing (c.read_listing-length.ensures (omega arith) c.requires.slots_long) in
    let passed = taken a.text.now read (c.check_export.ensures (omega arith)) c.is_err.ensures.value c.if-is_err.false in
    let stands = text_stands a.text.now read passed (omega arith) c.requires.exported_long c.write_text-written.auto.text c.write_text-written.ensures in
    let begun = puts_at_start c.new.ensures.contents c.new.ensures.start c.put_bytes.ensures.1 in
    let r =
    same_text_answered a.text.now a.out.now passed (compared a.text.now {differs = c.ne.result} stands (grind (arith, take_all, c.ne.ensures)) c.if-ne.false) c.requires.out_long read.counted
    (subst (λ d. Puts a.out.now 0 d c.put_bytes.new.self.text.now c.put_bytes.new.self.at) read.part_is begun) in
    record { value = r.0; out_after = search (rules, r.1) }

-- `program::traversal::traverse` meets its contract.
use Rattle.std.proofs.Common.{of_calls}
use Rattle.std.proofs.lemmas.Result.{err_from_is_err_and}
use Rattle.program.proofs.Laws.Traversal.{at_entry_lem, traversed_one, traversed_two, traversed_two_halted}
use Rattle.program.proofs.traversal.+traverse.Goals as goal

pub returns-in-One-clause-reads : goal.returns-in-One-clause-reads
returns-in-One-clause-reads g t c subject f reads =
    let told = reads c.args.e c.args.binders c.parts.result (search of_calls) in
    traversed_one (at_entry_lem subject c.if-end-e.false told c.in-One.is) (c.traverse.ensures.reads subject f reads)

pub returns-in_ok-m-in-Two-clause-reads : goal.returns-in_ok-m-in-Two-clause-reads
returns-in_ok-m-in-Two-clause-reads g t c subject f reads =
    let told = reads c.args.e c.args.binders c.parts.result (search of_calls) in
    traversed_two (at_entry_lem subject c.if-end-e.false told c.in-Two.is) (c.traverse-in-Two.ensures.reads subject f reads)
    c.in_ok-m-in-Two.was (c.traverse-in-Two-2.ensures.reads subject f reads)

pub returns-in_err-m-in-Two-clause-reads : goal.returns-in_err-m-in-Two-clause-reads
returns-in_err-m-in-Two-clause-reads g t c subject f reads =
    let told = reads c.args.e c.args.binders c.parts.result (search of_calls) in
    let here = at_entry_lem subject c.if-end-e.false told c.in-Two.is in
    let halted = err_from_is_err_and c.from_residual.result c.from_residual.ensures.1 in
    rw (halted.1, halted.2) (traversed_two_halted here (c.traverse-in-Two.ensures.reads subject f reads) c.in_err-m-in-Two.was)

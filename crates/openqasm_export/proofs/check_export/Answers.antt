-- `openqasm_export::check_export` meets its contract. Assumes nothing.
use Rattle.openqasm_export.proofs.Laws.Answering.{core_answer, checked_written, checked_unwritten, checked_refused}
use borrow.Author.Rules.{rules}
use Rattle.openqasm_export.proofs.check_export.Goals as goal

pub returns-in_err-sizes : goal.returns-in_err-sizes
returns-in_err-sizes c = λ long. let a = c.args in let b = a.listing.now in
    let h = checked_refused b (core_answer b a.work.now long c.check_uncleared.ensures) c.in_err-sizes.was in search (rules, h)

pub returns-in-Some : goal.returns-in-Some
returns-in-Some c = λ long.
    let a = c.args in
    let b = a.listing.now in
    checked_unwritten b (core_answer b a.work.now long c.check_uncleared.ensures) c.unwritten_entry.ensures c.in_ok-sizes.was c.in-Some.is

pub returns : goal.returns
returns c = λ long.
    let a = c.args in
    let b = a.listing.now in
    checked_written b (core_answer b a.work.now long c.check_uncleared.ensures) c.unwritten_entry.ensures c.in_ok-sizes.was c.in_default.is

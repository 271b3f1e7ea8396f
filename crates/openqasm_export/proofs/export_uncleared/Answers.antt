-- `openqasm_export::export_uncleared` meets its contract. Assumes nothing.
use Prim.Native.Nat.{ℕ, ◌≤◌, ◌<◌}
use mathlib.Core.Path.{sym, ◌∙◌}
use lib.ListN.{length, get_or}
use Rattle.listing_check.specs.Answers.{most_wires}
use native.Mathlib.Omega.{arith}
use Rattle.openqasm_export.proofs.Laws.Answering.{accepted_whole, is_sound, exported, declined}
use Rattle.openqasm_export.proofs.Laws.Statements.{export_accepted}
use borrow.Author.Rules.{rules}
use Rattle.openqasm_export.proofs.export_uncleared.Goals as goal

pub returns-in_err-check_export : goal.returns-in_err-check_export
returns-in_err-check_export c =
    let a = c.args in
    let b = a.listing.now in
    let r = declined b (λ j. (c.type_inv.listing j).fits) (c.check_export.ensures c.requires.1) a.out.now c.in_err-check_export.was in
    record { value = search (rules, r.0); out_after = r.1 }

pub returns : goal.returns
returns c =
    let a = c.args in
    let b = a.listing.now in
    let small : (j : ℕ) → get_or b j 0 < 256 = λ j. (c.type_inv.listing j).fits in
    let is = c.check_export.ensures c.requires.1 in
    let accepted = c.in_ok-check_export.was in
    let long : most_wires ≤ length c.check_export.new.work = omega (arith, c.requires.1, c.check_export.auto.work) in
    let r = exported b small is accepted c.requires.0 (c.write_text.ensures (accepted_whole b _ (is_sound b small is accepted) long) (export_accepted b (sym is ∙ accepted)).1) in
    record { value = r.0; out_after = r.1 }

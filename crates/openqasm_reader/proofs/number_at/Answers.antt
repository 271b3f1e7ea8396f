use native.Mathlib.Omega.{arith}
use mathlib.Core.Path.{sym, ap}
use mathlib.Core.Bool.{true, false, cond}
use Rattle.openqasm_reader.proofs.Laws.Items.{digit_behind, two_digits, one_digit}
use Rattle.openqasm_reader.proofs.number_at.Goals as goal

pub returns-then-is_digit : goal.returns-then-is_digit
returns-then-is_digit c =
    let a = c.args in
    let byte = c.byte_at.ensures in
    let first = c.saturating_sub-first.ensures in
    let next = c.byte_at-next.ensures in
    let digit = digit_behind a.text.now a.at _ _ true next c.is_digit.ensures c.if-is_digit.true in
    let second = c.saturating_sub.ensures in
    record {
      value = two_digits a.text.now a.at _ (omega arith) _ (omega arith) digit;
      digits = sym (ap (λ b. cond b 2 1) digit);
      value_bound = (omega arith, omega arith);
    }

pub returns : goal.returns
returns c =
    let a = c.args in
    let byte = c.byte_at.ensures in
    let first = c.saturating_sub-first.ensures in
    let next = c.byte_at-next.ensures in
    let digit = digit_behind a.text.now a.at _ _ false next c.is_digit.ensures c.if-is_digit.false in
    record {
      value = one_digit a.text.now a.at _ (omega arith) digit;
      digits = sym (ap (λ b. cond b 2 1) digit);
      value_bound = (omega arith, omega arith);
    }

-- `openqasm_reader::bit_register_or_gate` meets its contract. Assumes nothing.
use native.Mathlib.Omega.{arith}
use mathlib.Core.Path.{refl, sym, ap, ap₂, ◌∙◌}
use mathlib.Core.Bool.{cond}
use lib.Dec.{eqb}
use lib.ListN.{get_or, drop}
use borrow.Author.Tests.{eq-eqb, ne_eqb}
use Rattle.openqasm_reader.specs.Items.{kind_of, between}
use Rattle.openqasm_reader.proofs.Laws.Items.{byte_here, item_one, item_two, item_three}
use Rattle.openqasm_reader.proofs.bit_register_or_gate.Goals as goal

pub returns-in-114 : goal.returns-in-114
unfolding kind_of between
returns-in-114 c =
    let a = c.args in
    let second = byte_here a.text.now a.at 1 _ _ c.byte_at.ensures refl in
    let test = eq-eqb _ 114 (sym second ∙ c.in-114.is) in
    item_one a.text.now a.at 99 128 (sym c.requires.1) (ap (λ b. cond b 128 (cond (eqb (get_or (drop a.at a.text.now) 1 0) 99) 11 5)) test) _ refl refl c.one_number.ensures

pub returns-in-99 : goal.returns-in-99
unfolding kind_of between
returns-in-99 c =
    let a = c.args in
    let second = byte_here a.text.now a.at 1 _ _ c.byte_at.ensures refl in
    let test = ne_eqb (get_or (drop a.at a.text.now) 1 0) 114 (λ e. omega arith) in
    let test' = eq-eqb _ 99 (sym second ∙ c.in-99.is) in
    item_three a.text.now a.at 99 11 (sym c.requires.1) (ap₂ (λ b b'. cond b 128 (cond b' 11 5)) test test') _ refl refl refl c.three_numbers.ensures

pub returns-in_default : goal.returns-in_default
unfolding kind_of between
returns-in_default c =
    let a = c.args in
    let second = byte_here a.text.now a.at 1 _ _ c.byte_at.ensures refl in
    let test = ne_eqb (get_or (drop a.at a.text.now) 1 0) 114 (λ e. omega arith) in
    let test' = ne_eqb (get_or (drop a.at a.text.now) 1 0) 99 (λ e. omega arith) in
    item_two a.text.now a.at 99 5 (sym c.requires.1) (ap₂ (λ b b'. cond b 128 (cond b' 11 5)) test test') _ refl refl refl c.two_numbers.ensures

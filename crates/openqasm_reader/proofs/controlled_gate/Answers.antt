use mathlib.Core.Path.{refl, sym, ap, ◌∙◌}
use mathlib.Core.Bool.{cond}
use borrow.Author.Tests.{eq-eqb, ne_eqb}
use Rattle.openqasm_reader.specs.Items.{kind_of, between}
use Rattle.openqasm_reader.proofs.Laws.Items.{name_here, item_two}
use Rattle.openqasm_reader.proofs.controlled_gate.Goals as goal

pub returns-then-byte_at-eq120 : goal.returns-then-byte_at-eq120
unfolding kind_of between
returns-then-byte_at-eq120 c =
    let start = c in
    let a = c.args in
    let digits = c.number_at-bit.ensures.digits in
    let name = name_here a.text.now a.at _ _ digits c.byte_at.ensures in
    let named = eq-eqb _ 120 (sym name ∙ c.if-byte_at-eq120.true) in
    item_two a.text.now a.at 105 7 (sym c.requires.1) (ap (λ b. cond b 7 8) named) _ refl refl refl c.two_numbers.ensures

pub returns : goal.returns
unfolding kind_of between
returns c =
    let start = c in
    let a = c.args in
    let digits = c.number_at-bit.ensures.digits in
    let name = name_here a.text.now a.at _ _ digits c.byte_at.ensures in
    let named = ne_eqb _ 120 (λ e. c.if-byte_at-eq120.false (name ∙ e)) in
    item_two a.text.now a.at 105 8 (sym c.requires.1) (ap (λ b. cond b 7 8) named) _ refl refl refl c.two_numbers-2.ensures

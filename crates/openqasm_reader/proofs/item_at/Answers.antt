-- `openqasm_reader::item_at` meets its contract. Assumes nothing.
use native.Mathlib.Omega.{arith}
use mathlib.Core.Path.{refl, sym, ◌∙◌}
use Rattle.openqasm_reader.specs.Items.{kind_of, between}
use Rattle.openqasm_reader.proofs.Laws.Items.{kind_none, no_item_here, item_one, item_two}
use borrow.Author.Rules.{rules}
use Rattle.openqasm_reader.proofs.item_at.Goals as goal

pub returns-in-104 : goal.returns-in-104
unfolding kind_of between
returns-in-104 c =
    let a = c.args in
    let first = sym c.in-104.is ∙ c.byte_at.ensures in
    item_one a.text.now a.at 104 0 first refl _ refl refl c.one_number.ensures

pub returns-in-120 : goal.returns-in-120
unfolding kind_of between
returns-in-120 c =
    let a = c.args in
    let first = sym c.in-120.is ∙ c.byte_at.ensures in
    item_one a.text.now a.at 120 1 first refl _ refl refl c.one_number-in-120.ensures

pub returns-in-122 : goal.returns-in-122
unfolding kind_of between
returns-in-122 c =
    let a = c.args in
    let first = sym c.in-122.is ∙ c.byte_at.ensures in
    item_one a.text.now a.at 122 2 first refl _ refl refl c.one_number-in-122.ensures

pub returns-in-115 : goal.returns-in-115
unfolding kind_of between
returns-in-115 c =
    let a = c.args in
    let first = sym c.in-115.is ∙ c.byte_at.ensures in
    item_one a.text.now a.at 115 3 first refl _ refl refl c.one_number-in-115.ensures

pub returns-in-116 : goal.returns-in-116
unfolding kind_of between
returns-in-116 c =
    let a = c.args in
    let first = sym c.in-116.is ∙ c.byte_at.ensures in
    item_one a.text.now a.at 116 4 first refl _ refl refl c.one_number-in-116.ensures

pub returns-in-109 : goal.returns-in-109
unfolding kind_of between
returns-in-109 c =
    let a = c.args in
    let first = sym c.in-109.is ∙ c.byte_at.ensures in
    item_two a.text.now a.at 109 6 first refl _ refl refl refl c.two_numbers.ensures

pub returns-in-113 : goal.returns-in-113
unfolding kind_of between
returns-in-113 c =
    let a = c.args in
    let first = sym c.in-113.is ∙ c.byte_at.ensures in
    item_two a.text.now a.at 113 129 first refl _ refl refl refl c.two_numbers-in-113.ensures

pub returns-in-32 : goal.returns-in-32
unfolding kind_of between
returns-in-32 c =
    let a = c.args in
    let first = sym c.in-32.is ∙ c.byte_at.ensures in
    item_one a.text.now a.at 32 130 first refl _ refl refl c.one_number-in-32.ensures

pub returns-in_default : goal.returns-in_default
returns-in_default c =
    let a = c.args in
    let none = kind_none c.byte_at.result _ _
    (λ e. omega arith) (λ e. omega arith) (λ e. omega arith) (λ e. omega arith) (λ e. omega arith)
    (λ e. omega arith) (λ e. omega arith) (λ e. omega arith) (λ e. omega arith) (λ e. omega arith) in
    (no_item_here a.text.now a.at _ 255 c.byte_at.ensures none refl, search rules)

-- What is printed, by computation: for c2's listing, for six zero bytes, for nothing, for c2's listing without its output, and for
-- Init alone, with its wire as output and without.
use Rattle.std.specs.Prelude.{◌≡◌, refl, List, [], ◌∷◌, ◌++◌, ℕ}
use Rattle.rules.specs.Gates.{is_gate, wires_in}
use Rattle.words.specs.Numbers.{word_at}
use Rattle.listing.specs.Reading.{kind_at}
use Rattle.wire_table.specs.Wires.{broken_at}
use Rattle.listing_check.specs.Answers.{listing_check_of}
use Rattle.text.specs.Text.{ascii, decimal}
use Rattle.listcheck_io.specs.Printing.{checked_line}

-- `checked_line` with every definition that it rests on open: a line `unfolding opened` below opens them all.
opened : List ℕ → List ℕ
unfolding checked_line listing_check_of broken_at word_at kind_at is_gate wires_in decimal
opened b = checked_line b

-- c2's sizes but the last, and its entries.
abbrev c2_sizes : List ℕ
c2_sizes = 1 ∷ 0 ∷ 1 ∷ 0 ∷ []

abbrev c2_entries : List ℕ
c2_entries = 129 ∷ 0 ∷ 255 ∷ 255 ∷ 255 ∷ 255 ∷ 255 ∷ 255 ∷ 0 ∷ 0 ∷ 255 ∷ 255 ∷ 255 ∷ 255 ∷ []

pub c2_checked : checked_line (c2_sizes ++ ((1 ∷ 0 ∷ []) ++ (c2_entries ++ (1 ∷ 0 ∷ [])))) ≡ ascii "accepted\n"
unfolding opened
c2_checked = refl

pub zeros_checked : checked_line (0 ∷ 0 ∷ 0 ∷ 0 ∷ 0 ∷ 0 ∷ []) ≡ ascii "accepted\n"
unfolding opened
zeros_checked = refl

pub empty_checked : checked_line [] ≡ ascii "refused 24 0\n"
unfolding opened
empty_checked = refl

pub left_over_checked : checked_line (c2_sizes ++ ((0 ∷ 0 ∷ []) ++ c2_entries)) ≡ ascii "refused 26 1\n"
unfolding opened
left_over_checked = refl

pub init_checked : checked_line (0 ∷ 0 ∷ 1 ∷ 0 ∷ 1 ∷ 0 ∷ 9 ∷ 255 ∷ 255 ∷ 255 ∷ 255 ∷ 255 ∷ 255 ∷ 0 ∷ 0 ∷ []) ≡ ascii "accepted\n"
unfolding opened
init_checked = refl

pub init_left_over_checked : checked_line (0 ∷ 0 ∷ 1 ∷ 0 ∷ 0 ∷ 0 ∷ 9 ∷ 255 ∷ 255 ∷ 255 ∷ 255 ∷ 255 ∷ 255 ∷ []) ≡ ascii "refused 26 0\n"
unfolding opened
init_left_over_checked = refl

-- Laws of the numbers of wires that are written in a line.
use Rattle.std.specs.Prelude.{ℕ, ◌+◌, ◌*◌, zero, suc, ◌≡◌, List, [], ◌∷◌, map, ◌++◌}
use Rattle.std.proofs.Common.{add-one, sym, ◌∙◌, ap, arith}
use Rattle.rules.specs.Gates.{wires_out}
use Rattle.text.specs.Text.{decimal, spaced}
use Rattle.text.specs.Writing.{Puts}
use Rattle.text.proofs.Laws.Writing.{puts_both, puts_same}
use Rattle.words.specs.Numbers.{word_at}
use Rattle.words.specs.Numbers.{words_at}
use Rattle.listing.specs.Reading.{kind_at, input_count}
use Rattle.wirelist_lines.specs.LinesAt.{made_before}
use Rattle.text.proofs.Laws.Words.{one_more_number}
use Rattle.rules.specs.Circuits.{numbers}
use Rattle.rules.proofs.Laws.Wires.{numbers_append}

-- One more of the 16-bit words from a place on.
pub next_word : (b : List ℕ) (from i : ℕ) → words_at b from (suc i) ≡ words_at b from i ++ (word_at b (from + 2 * i) ∷ [])
next_word b from zero = let e : from ≡ from + 2 * 0 = omega arith in ap (λ j. word_at b j ∷ []) e
next_word b from (suc i) =
    let e : from + 2 + 2 * i ≡ from + 2 * suc i = omega arith in
    ap
    (λ ws. word_at b from ∷ ws)
    (next_word b (from + 2) i ∙ ap (λ j. words_at b (from + 2) i ++ (word_at b j ∷ [])) e)

pub puts_read : (b : List ℕ) (from i : ℕ) {text text' text'' : List ℕ} {at at' at'' : ℕ}
    → Puts text at (spaced (map decimal (words_at b from i))) text' at'
    → Puts text' at' (spaced (decimal (word_at b (from + 2 * i)) ∷ [])) text'' at''
    → Puts text at (spaced (map decimal (words_at b from (i + 1)))) text'' at''
puts_read b from i p q =
    puts_same
    (one_more_number (words_at b from i) (word_at b (from + 2 * i))
    ∙ ap (λ ns. spaced (map decimal ns)) (sym (ap (words_at b from) (add-one i) ∙ next_word b from i)))
    (puts_both p q)

-- The wires that one more gate makes.
pub made_next : (b : List ℕ) (gate : ℕ)
    → made_before b (gate + 1) ≡ made_before b gate + wires_out (kind_at b (input_count b + gate))
made_next b gate = ap (made_before b) (add-one gate)

-- One more of the numbers from a first one on.
pub puts_number : (first i : ℕ) {text text' text'' : List ℕ} {at at' at'' : ℕ}
    → Puts text at (spaced (map decimal (numbers first i))) text' at'
    → Puts text' at' (spaced (decimal (first + i) ∷ [])) text'' at''
    → Puts text at (spaced (map decimal (numbers first (i + 1)))) text'' at''
puts_number first i p q =
    puts_same
    (one_more_number (numbers first i) (first + i) ∙ ap (λ ns. spaced (map decimal ns)) (sym (numbers_append first i 1)))
    (puts_both p q)

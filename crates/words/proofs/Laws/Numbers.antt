-- Laws of specs/Numbers.antt.
use Rattle.std.specs.Prelude.{ℕ, suc, ◌+◌, ◌-◌, ◌*◌, ◌≤◌, ◌<◌, ◌/◌, ◌≡◌, List, length, get_or}
use Rattle.std.proofs.Common.{arith, sym}
use Rattle.std.proofs.Math.ListN.{get_or-eq_default}
use Rattle.words.specs.Numbers.{word_at}
use Rattle.words.specs.Words.{words}
use Rattle.words.proofs.Laws.Words.{word_at_lem}

-- Past the end there is nothing.
pub byte_past : (b : List ℕ) (i : ℕ) → length b ≤ i → get_or b i 0 ≡ 0
byte_past b i past = get_or-eq_default b 0 past

pub number_past : (b : List ℕ) (i : ℕ) → length b ≤ i → word_at b i ≡ 0
unfolding word_at
number_past b i past =
    let next : get_or b (i + 1) 0 ≡ 0 = get_or-eq_default b 0 (omega arith) in
    omega (arith, byte_past b i past)

-- Word i is the number at byte 2 * i.
pub number_word : (b : List ℕ) (i : ℕ) → i < length b / 2 → word_at b (2 * i) ≡ get_or (words b) i 0
unfolding word_at
number_word b i h = sym (word_at_lem b i h)

-- Of what is left, one less is left behind each.
pub one_left : (end e : ℕ) → e < end → end - e ≡ suc (end - (e + 1))
one_left end e below = omega arith

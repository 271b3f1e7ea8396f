-- Laws of words and numbers that are written one behind the other.
use Rattle.std.specs.Prelude.{ℕ, ◌+◌, ◌/◌, ◌%◌, ◌≤◌, ◌<◌, ◌≡◌, refl, List, [], ◌∷◌, ◌++◌, map, length, get_or, take}
use Rattle.std.proofs.Common.{add-one, sym, ◌∙◌, ap, append_assoc, take-suc, take_all}
use Rattle.text.specs.Text.{digit, decimal, spaced, joined}
use Rattle.text.proofs.Laws.Decimals.{one_digit, more_digits}
use Rattle.text.specs.Writing.{Puts}
use Rattle.text.proofs.Laws.Writing.{puts_both, puts_same}

-- One more byte of a list.
pub puts_next : (bytes : List ℕ) (i : ℕ) {text text' text'' : List ℕ} {at at' at'' : ℕ}
    → i < length bytes
    → Puts text at (take i bytes) text' at'
    → Puts text' at' (get_or bytes i 0 ∷ []) text'' at''
    → Puts text at (take (i + 1) bytes) text'' at''
puts_next bytes i below p q =
    puts_same (sym (take-suc bytes i 0 below) ∙ ap (λ j. take j bytes) (sym (add-one i))) (puts_both p q)

-- All of them.
pub puts_all : (bytes : List ℕ) (i : ℕ) {text text' : List ℕ} {at at' : ℕ}
    → length bytes ≤ i
    → Puts text at (take i bytes) text' at'
    → Puts text at bytes text' at'
puts_all bytes i past p = puts_same (take_all i bytes past) p

-- The last digit of a number with more than one.
pub puts_digits : (n : ℕ) {text text' text'' : List ℕ} {at at' at'' : ℕ}
    → 10 ≤ n
    → Puts text at (decimal (n / 10)) text' at'
    → Puts text' at' (digit (n % 10) ∷ []) text'' at''
    → Puts text at (decimal n) text'' at''
puts_digits n large p q = puts_same (sym (more_digits n large)) (puts_both p q)

pub puts_digit : (n : ℕ) {text text' : List ℕ} {at at' : ℕ}
    → n < 10
    → Puts text at (digit n ∷ []) text' at'
    → Puts text at (decimal n) text' at'
puts_digit n small p = puts_same (sym (one_digit n small)) p

-- Words behind others.
pub spaced_append : (vs ws : List (List ℕ)) → spaced (vs ++ ws) ≡ spaced vs ++ spaced ws
spaced_append [] ws = refl
spaced_append (v ∷ vs) ws =
    ap (λ ys. 32 ∷ ys) (ap (λ ys. v ++ ys) (spaced_append vs ws) ∙ sym (append_assoc v (spaced vs) (spaced ws)))

pub map-append : (ns ms : List ℕ) → map decimal (ns ++ ms) ≡ map decimal ns ++ map decimal ms
map-append [] ms = refl
map-append (n ∷ ns) ms = ap (λ ys. decimal n ∷ ys) (map-append ns ms)

pub one_more_number : (ns : List ℕ) (n : ℕ)
    → spaced (map decimal ns) ++ spaced (decimal n ∷ []) ≡ spaced (map decimal (ns ++ (n ∷ [])))
one_more_number ns n =
    sym (spaced_append (map decimal ns) (decimal n ∷ [])) ∙ ap spaced (sym (map-append ns (n ∷ [])))

pub joined_append : (ls ms : List (List ℕ)) → joined (ls ++ ms) ≡ joined ls ++ joined ms
joined_append [] ms = refl
joined_append (l ∷ ls) ms = ap (λ ys. l ++ ys) (joined_append ls ms) ∙ sym (append_assoc l (joined ls) (joined ms))

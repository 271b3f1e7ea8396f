-- Laws of decimal digits.
use Rattle.std.specs.Prelude.{ℕ, zero, suc, ◌*◌, ◌/◌, ◌%◌, ◌≤◌, ◌<◌, ◌≡◌, refl, cond, [], ◌∷◌, ◌++◌, length}
use Rattle.std.proofs.Common.{arith, sym, ◌∙◌, ap, length-append, lt-ltb, le-ltb}
use Rattle.std.proofs.Math.Decide.{dec_lt}
use Rattle.text.specs.Text.{digit, digits_within, decimal}

within_small : (k n : ℕ) → n < 10 → digits_within k n ≡ digit n ∷ []
within_small zero n small = refl
within_small (suc k) n small =
    ap (λ b. cond b (digit n ∷ []) (digits_within k (n / 10) ++ (digit (n % 10) ∷ []))) (lt-ltb n 10 small)

within_large : (k n : ℕ) → 10 ≤ n → digits_within (suc k) n ≡ digits_within k (n / 10) ++ (digit (n % 10) ∷ [])
within_large k n large =
    ap (λ b. cond b (digit n ∷ []) (digits_within k (n / 10) ++ (digit (n % 10) ∷ []))) (le-ltb n 10 large)

-- More steps than the number change nothing.
pub fewer_steps : (k m n : ℕ) → n ≤ k → n ≤ m → digits_within k n ≡ digits_within m n
fewer_steps zero m n h h' = sym (within_small m n (omega arith))
fewer_steps (suc k) zero n h h' = within_small (suc k) n (omega arith)
fewer_steps (suc k) (suc m) n h h' = of (fewer_steps k m (n / 10)) (dec_lt n 10)
  where
    of : (n / 10 ≤ k → n / 10 ≤ m → digits_within k (n / 10) ≡ digits_within m (n / 10))
        → Dec (n < 10)
        → digits_within (suc k) n ≡ digits_within (suc m) n
    of fewer (yes p) = within_small (suc k) n p ∙ sym (within_small (suc m) n p)
    of fewer (no p) =
        within_large k n (omega arith)
        ∙ ap (λ ds. ds ++ (digit (n % 10) ∷ [])) (fewer (omega arith) (omega arith))
        ∙ sym (within_large m n (omega arith))

-- A number below 10 is its digit; any other is a tenth of it followed by what is left.
pub one_digit : (n : ℕ) → n < 10 → decimal n ≡ digit n ∷ []
unfolding decimal
one_digit n small = within_small n n small

pub more_digits : (n : ℕ) → 10 ≤ n → decimal n ≡ decimal (n / 10) ++ (digit (n % 10) ∷ [])
unfolding decimal
more_digits n large =
    fewer_steps n (suc n) n (omega arith) (omega arith)
    ∙ within_large n n large
    ∙ ap (λ ds. ds ++ (digit (n % 10) ∷ [])) (fewer_steps n (n / 10) (n / 10) (omega arith) (omega arith))

-- The first number with more than k digits.
abbrev pub tenfold : ℕ → ℕ
tenfold zero = 1
tenfold (suc k) = 10 * tenfold k

-- A number below it has at most k digits, if k is not 0.
pub length_decimal : (k n : ℕ) → n < tenfold (suc k) → length (decimal n) ≤ suc k
length_decimal zero n below = omega (arith, ap length (one_digit n (omega arith)))
length_decimal (suc k) n below = of (length_decimal k (n / 10)) (dec_lt n 10)
  where
    of : (n / 10 < tenfold (suc k) → length (decimal (n / 10)) ≤ suc k) → Dec (n < 10) → length (decimal n) ≤ suc (suc k)
    of shorter (yes p) = omega (arith, ap length (one_digit n p))
    of shorter (no p) =
        omega (
          arith,
          ap length (more_digits n (omega arith)),
          length-append (decimal (n / 10)) (digit (n % 10) ∷ []),
          shorter (omega arith),
        )

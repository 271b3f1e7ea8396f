-- Laws of bytes written piece by piece, each behind the last.
use Rattle.std.specs.Prelude.{ℕ, zero, suc, ◌+◌, ◌*◌, ◌≤◌, ◌<◌, ◌≡◌, refl, length, get_or, set}
use Rattle.std.proofs.Common.{arith, zero-add, suc-mul, zero-mul, sym, ◌∙◌, ap₂, length-append, length-set}
use Rattle.std.proofs.Math.Path.{ap}
use mathlib.Core.List.{List, [], ◌∷◌, ◌++◌, flat_map, append_assoc, append-nil}
use Rattle.std.proofs.Math.ListN.{drop}
use Rattle.words.specs.Regions.{over}
use Rattle.words.proofs.Laws.Regions.{over_nil, over_one, over_behind}
use Rattle.listing.specs.Pieces.{pieces}

module _ {A : Type 0} where
  -- A region written behind another, in two steps.
  pub written_behind : (l l₁ l₂ : List A) (at here : ℕ) (xs ys : List A)
      → here ≡ at + length xs
      → here + length ys ≤ length l
      → l₁ ≡ over l at xs
      → l₂ ≡ over l₁ here ys
      → l₂ ≡ over l at (xs ++ ys)
  written_behind l l₁ l₂ at here xs ys e h e₁ e₂ =
      e₂ ∙ ap₂ (λ t j. over t j ys) e₁ e ∙ over_behind l at xs ys (omega arith)

  -- Two elements are a region.
  pub over_two : (l : List A) (at : ℕ) (x y : A)
      → at + 2 ≤ length l
      → set (set l at x) (at + 1) y ≡ over l at (x ∷ y ∷ [])
  over_two l at x y h =
      let one : set l at x ≡ over l at (x ∷ []) = over_one l at x (omega arith) in
      written_behind l (set l at x) (set (set l at x) (at + 1) y) at (at + 1) (x ∷ []) (y ∷ []) refl (omega arith) one
      (over_one (set l at x) (at + 1) y (omega (arith, length-set l at x)))

  -- Written from the start, a list stands before what was behind it.
  pub over_start : (l xs : List A) → over l 0 xs ≡ xs ++ drop (length xs) l
  unfolding over
  over_start l xs = ap (λ j. xs ++ drop j l) (zero-add (length xs))

-- Pieces one more, and how long they are.
pub no_piece : (f : ℕ → List ℕ) → pieces f 0 ≡ []
unfolding pieces
no_piece f = refl

pub next_piece : (f : ℕ → List ℕ) (k : ℕ) → pieces f (k + 1) ≡ pieces f k ++ f k
unfolding pieces
next_piece f k = let e : k + 1 ≡ suc k = omega arith in ap (pieces f) e

pub length_pieces : (f : ℕ → List ℕ) (n k : ℕ) → ((i : ℕ) → length (f i) ≡ n) → length (pieces f k) ≡ k * n
unfolding pieces
length_pieces f n zero h = sym (zero-mul n)
length_pieces f n (suc k) h =
    length-append (pieces f k) (f k) ∙ ap₂ ◌+◌ (length_pieces f n k h) (h k) ∙ sym (suc-mul k n)

-- One more piece is written, each being n bytes long.
pub piece_written : (f : ℕ → List ℕ) (n : ℕ) (l l₁ l₂ : List ℕ) (at here i : ℕ)
    → ((j : ℕ) → length (f j) ≡ n)
    → here ≡ at + i * n
    → here + n ≤ length l
    → l₁ ≡ over l at (pieces f i)
    → l₂ ≡ over l₁ here (f i)
    → l₂ ≡ over l at (pieces f (i + 1))
piece_written f n l l₁ l₂ at here i long e h e₁ e₂ =
    let all : length (pieces f i) ≡ i * n = length_pieces f n i long in
    written_behind l l₁ l₂ at here (pieces f i) (f i) (omega arith) (omega (arith, long i)) e₁ e₂
    ∙ ap (over l at) (sym (next_piece f i))

-- One more byte is written.
pub byte_written : (f : ℕ → List ℕ) (l l₁ : List ℕ) (at i b : ℕ)
    → ((j : ℕ) → length (f j) ≡ 1)
    → at + i < length l
    → length l₁ ≡ length l
    → l₁ ≡ over l at (pieces f i)
    → b ∷ [] ≡ f i
    → set l₁ (at + i) b ≡ over l at (pieces f (i + 1))
byte_written f l l₁ at i b long h same e₁ e =
    piece_written f 1 l l₁ (set l₁ (at + i) b) at (at + i) i long (omega arith) (omega arith) e₁
    (over_one l₁ (at + i) b (omega arith) ∙ ap (over l₁ (at + i)) e)

-- Before the first piece nothing is written.
pub none_written : (f : ℕ → List ℕ) (l : List ℕ) (at : ℕ) → l ≡ over l at (pieces f 0)
none_written f l at = sym (ap (over l at) (no_piece f) ∙ over_nil l at)

-- The first piece stands before the others.
first_piece : (f : ℕ → List ℕ) (k : ℕ) → pieces f (suc k) ≡ f 0 ++ pieces (λ i. f (suc i)) k
unfolding pieces
first_piece f zero = sym (append-nil (f 0))
first_piece f (suc k) =
    ap (λ l. l ++ f (suc k)) (first_piece f k) ∙ append_assoc (f 0) (pieces (λ i. f (suc i)) k) (f (suc k))

-- A piece for each element of a list.
pub pieces_list : {A : Type 0} (g : A → List ℕ) (d : A) (xs : List A) (f : ℕ → List ℕ)
    → ((i : ℕ) → i < length xs → f i ≡ g (get_or xs i d))
    → pieces f (length xs) ≡ flat_map g xs
unfolding flat_map
pieces_list g d [] f h = no_piece f
pieces_list g d (x ∷ xs) f h =
    first_piece f (length xs)
    ∙ ap₂ ◌++◌ (h 0 (omega arith)) (pieces_list g d xs (λ i. f (suc i)) (λ i below. h (suc i) (omega arith)))

-- The first pieces and those behind them.
pub pieces_more : (f : ℕ → List ℕ) (j k : ℕ) → pieces f (j + k) ≡ pieces f j ++ pieces (λ i. f (j + i)) k
unfolding pieces
pieces_more f j zero = let e : j + 0 ≡ j = omega arith in ap (pieces f) e ∙ sym (append-nil (pieces f j))
pieces_more f j (suc k) =
    let e : j + suc k ≡ suc (j + k) = omega arith in
    ap (pieces f) e
    ∙ ap (λ l. l ++ f (j + k)) (pieces_more f j k)
    ∙ append_assoc (pieces f j) (pieces (λ i. f (j + i)) k) (f (j + k))

pub flat_append : {A : Type 0} (g : A → List ℕ) (xs ys : List A) → flat_map g (xs ++ ys) ≡ flat_map g xs ++ flat_map g ys
unfolding flat_map
flat_append g [] ys = refl
flat_append g (x ∷ xs) ys =
    ap (λ l. g x ++ l) (flat_append g xs ys) ∙ sym (append_assoc (g x) (flat_map g xs) (flat_map g ys))

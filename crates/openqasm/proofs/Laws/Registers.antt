-- Laws of the registers that the wires of a listing are in: one for each wire, and each the register of an input.
use Rattle.std.specs.Prelude.{ℕ, zero, suc, ◌+◌, ◌≤◌, ◌<◌, ◌≡◌, refl, List, [], ◌∷◌, ◌++◌, map, T as Truth, length, get_or, take}
use Rattle.std.proofs.Common.{arith, sym, ◌∙◌, ap, append-nil, length-append}
use Rattle.std.proofs.lemmas.List.{length-map}
use Rattle.rules.specs.Types.{Wire}
use Rattle.rules.specs.Gates.{gate_outputs, wires_in}
use Rattle.rules.specs.Terms.{Gate, ◌on◌}
use Rattle.rules.specs.Circuits.{numbers, outputs}
use Rattle.rules.specs.Sizes.{most_labels}
use Rattle.rules.proofs.Laws.KnownGates.{KnownGates}
use Rattle.listing.specs.Reading.{input_count, kind_at, slots_from, first_gates}
use Rattle.listing.proofs.Laws.Decoding.{length_words}
use Rattle.openqasm.specs.Layout.{has_statement, AllWritten, registers_of}

-- What a function gives for 0 and on, so many numbers: the slots of an entry by their numbers.
abbrev pub each : (ℕ → ℕ) → ℕ → List ℕ
each f zero = []
each f (suc k) = f 0 ∷ each (λ j. f (suc j)) k

-- Of what a list has at its places and behind them, it is the first ones.
pub first_each : (l : List ℕ) (k : ℕ) → length l ≤ k → take (length l) (each (λ j. get_or l j 0) k) ≡ l
first_each [] k few = refl
first_each (x ∷ l) zero few = absurd (omega arith)
first_each (x ∷ l) (suc k) few = ap (λ xs. x ∷ xs) (first_each l k (omega arith))

-- A gate that has a statement makes as many wires as it takes; a number that is no gate takes and makes none.
pub as_many : (n : ℕ) → Truth (has_statement n) → length (gate_outputs n) ≡ wires_in n
unfolding has_statement wires_in
as_many zero written = refl
as_many (suc zero) written = refl
as_many (suc (suc zero)) written = refl
as_many (suc (suc (suc zero))) written = refl
as_many (suc (suc (suc (suc zero)))) written = refl
as_many (suc (suc (suc (suc (suc zero))))) written = refl
as_many (suc (suc (suc (suc (suc (suc zero)))))) written = refl
as_many (suc (suc (suc (suc (suc (suc (suc zero))))))) written = refl
as_many (suc (suc (suc (suc (suc (suc (suc (suc zero)))))))) written = refl
as_many (suc (suc (suc (suc (suc (suc (suc (suc (suc zero))))))))) written = absurd written
as_many (suc (suc (suc (suc (suc (suc (suc (suc (suc (suc zero)))))))))) written = absurd written
as_many (suc (suc (suc (suc (suc (suc (suc (suc (suc (suc (suc zero))))))))))) written = refl
as_many (suc (suc (suc (suc (suc (suc (suc (suc (suc (suc (suc (suc n)))))))))))) written = refl

-- Each gate has as many wires as its number says.
abbrev pub AllCounted : List Gate → Type 0
AllCounted [] = Unit {0}
AllCounted ((n on ws) ∷ gs) = (length ws ≡ wires_in n) × AllCounted gs

-- So have known gates.
pub known_counted : (gs : List Gate) → KnownGates gs → AllCounted gs
known_counted [] known = tt
known_counted ((n on ws) ∷ gs) known = (known.1, known_counted gs known.2)

-- So have the gates that are read from any bytes.
pub first_counted : (b : List ℕ) (j : ℕ) → AllCounted (first_gates b j)
first_counted b zero = tt
first_counted b (suc j) =
    let i = input_count b + j in (length_words b (slots_from b i) (wires_in (kind_at b i)), first_counted b j)

-- A row of k numbers has k of them.
pub length_numbers : (n k : ℕ) → length (numbers n k) ≡ k
length_numbers n zero = refl
length_numbers n (suc k) = ap suc (length_numbers (suc n) k)

-- One more number.
pub numbers_more : (n k : ℕ) → numbers n (suc k) ≡ numbers n k ++ ((n + k) ∷ [])
numbers_more n zero = let e : n ≡ n + 0 = omega arith in ap (λ m. m ∷ []) e
numbers_more n (suc k) =
    let e : suc n + k ≡ n + suc k = omega arith in
    ap (λ l. n ∷ l) (numbers_more (suc n) k ∙ ap (λ m. numbers (suc n) k ++ (m ∷ [])) e)

-- Each wire that is made has a register, if every gate has a statement.
pub length_registers : (I : List Wire) (gs : List Gate)
    → AllCounted gs
    → AllWritten gs
    → length (registers_of I gs) ≡ length (I ++ outputs gs)
length_registers I [] counted written = length_numbers 0 (length I) ∙ ap length (sym (append-nil I))
length_registers I ((n on ws) ∷ gs) counted written =
    let rs = registers_of I gs in
    let f : ℕ → ℕ = λ w. get_or rs w 0 in
    omega (
      arith,
      length-append rs (map f ws),
      length-map ws f,
      length_registers I gs counted.1 written.1,
      length-append I (outputs gs),
      length-append I (outputs gs ++ gate_outputs n),
      length-append (outputs gs) (gate_outputs n),
      as_many n written.0,
      counted.0,
    )

-- What stands at any place of a list is below m: its numbers are, and so is the 0 behind its end.
abbrev pub Below : ℕ → List ℕ → Type 0
Below m rs = (w : ℕ) → get_or rs w 0 < m

-- So it is in a row of numbers, in two such lists joined, and in a list of what a function gives.
numbers_below : (m : ℕ) → 0 < m → (n k : ℕ) → n + k ≤ m → Below m (numbers n k)
numbers_below m positive n zero few w = positive
numbers_below m positive n (suc k) few zero = omega arith
numbers_below m positive n (suc k) few (suc w) = numbers_below m positive (suc n) k (omega arith) w

joined_below : (m : ℕ) (xs ys : List ℕ) → Below m xs → Below m ys → Below m (xs ++ ys)
joined_below m [] ys first second w = second w
joined_below m (x ∷ xs) ys first second zero = first 0
joined_below m (x ∷ xs) ys first second (suc w) = joined_below m xs ys (λ v. first (suc v)) second w

pub map_below : (m : ℕ) → 0 < m → (f : ℕ → ℕ) → ((w : ℕ) → f w < m) → (ws : List ℕ) → Below m (map f ws)
map_below m positive f below [] w = positive
map_below m positive f below (v ∷ ws) zero = below v
map_below m positive f below (v ∷ ws) (suc w) = map_below m positive f below ws w

-- Registers are below any number that is not 0 and not less than the number of inputs.
pub registers_within : (m : ℕ) → 0 < m → (I : List Wire) → length I ≤ m → (gs : List Gate) → Below m (registers_of I gs)
registers_within m positive I few [] = numbers_below m positive 0 (length I) (omega arith)
registers_within m positive I few ((n on ws) ∷ gs) =
    let rs = registers_of I gs in
    let f : ℕ → ℕ = λ w. get_or rs w 0 in
    let older = registers_within m positive I few gs in
    joined_below m rs (map f ws) older (map_below m positive f older ws)

-- A wire is in the register of an input.
pub registers_below : (I : List Wire) (gs : List Gate) (w : ℕ) → 0 < length I → get_or (registers_of I gs) w 0 < length I
registers_below I gs w some_input = registers_within (length I) some_input I (omega arith) gs w

-- There are no more registers than a listing may have inputs.
pub registers_few : (I : List Wire) (gs : List Gate) (w : ℕ) → length I ≤ most_labels → get_or (registers_of I gs) w 0 < most_labels
registers_few I gs w few = registers_within most_labels (omega arith) I few gs w

-- The same for the registers of wires that a gate takes.
pub taken_few : (I : List Wire) (gs : List Gate) (ws : List ℕ) (k : ℕ)
    → length I ≤ most_labels
    → get_or (map (λ w. get_or (registers_of I gs) w 0) ws) k 0 < most_labels
taken_few I gs ws k few =
    map_below most_labels (omega arith) (λ w. get_or (registers_of I gs) w 0) (λ w. registers_few I gs w few) ws k

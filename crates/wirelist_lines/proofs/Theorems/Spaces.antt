-- No line of a finished run ends in a space, and neither does that of a refusal: what stands before the end of a line is the last
-- byte of a word.
use Rattle.std.specs.Prelude.{ℕ, zero, suc, ◌+◌, ◌-◌, ◌/◌, ◌%◌, ◌≡◌, refl, ◌≢◌, Bool, true, false, cond, List, [], ◌∷◌, ◌++◌, map, ltb, length, get_or}
use Rattle.std.proofs.Common.{arith, sym, ◌∙◌, ap, subst, append_assoc, append-nil, length-append, get_or-append-add}
use Rattle.rules.specs.Types.{Wire, Bit, Qubit}
use Rattle.rules.specs.Gates.{gate_outputs}
use Rattle.rules.specs.Terms.{Tuple, labels, Gate, ◌on◌}
use Rattle.rules.specs.Circuits.{Circuit, circuit, outputs, numbers}
use Rattle.text.specs.Text.{ascii, digit, digits_within, decimal, spaced, line}
use Rattle.wirelist_lines.specs.Lines.{gate_name, wire_name, input_line, gate_line, out_line, steps_line, refused_line}
use Rattle.wirelist_lines.specs.Lines.{input_lines, gate_lines, lines_of}
use Rattle.wirelist_lines.specs.Spaces.{EndsInSpace, NoneEndsInSpace}

-- Bytes whose last one is no space.
data Solid : List ℕ → Type 0 where
  solid : (xs : List ℕ) (a : ℕ) → a ≢ 32 → Solid (xs ++ (a ∷ []))

-- Behind other bytes, too.
behind : (xs : List ℕ) {ys : List ℕ} → Solid ys → Solid (xs ++ ys)
behind [] s = s
behind (x ∷ xs) s = one (behind xs s)
  where
    one : {zs : List ℕ} → Solid zs → Solid (x ∷ zs)
    one (solid us a h) = solid (x ∷ us) a h

-- The last byte but one.
last_but_one : List ℕ → ℕ
last_but_one l = get_or l (length l - 2) 0

last_but_one_lem : (xs : List ℕ) (a b : ℕ) → last_but_one (xs ++ (a ∷ b ∷ [])) ≡ a
unfolding last_but_one
last_but_one_lem xs a b =
    let e : length (xs ++ (a ∷ b ∷ [])) - 2 ≡ length xs + 0 = omega (arith, length-append xs (a ∷ b ∷ [])) in
    ap (λ i. get_or (xs ++ (a ∷ b ∷ [])) i 0) e ∙ get_or-append-add xs (a ∷ b ∷ []) 0 0

joined_again : (xs : List ℕ) (a : ℕ) (ys : List ℕ) → (xs ++ (a ∷ [])) ++ ys ≡ xs ++ (a ∷ ys)
joined_again [] a ys = refl
joined_again (x ∷ xs) a ys = ap (λ l. x ∷ l) (joined_again xs a ys)

-- With the end of the line behind them they do not end in a space.
ended : {ys : List ℕ} → Solid ys → EndsInSpace (ys ++ (10 ∷ [])) → ⊥
ended (solid us a h) (xs, e) =
    h (sym (last_but_one_lem us a 10) ∙ ap last_but_one (sym (joined_again us a (10 ∷ [])) ∙ e) ∙ last_but_one_lem xs 32 10)

-- A number in decimal ends in a digit.
digit_solid : (xs : List ℕ) (d : ℕ) → Solid (xs ++ (digit d ∷ []))
digit_solid xs d = solid xs (digit d) λ e. omega arith

digits_solid : (k n : ℕ) → Solid (digits_within k n)
digits_solid zero n = digit_solid [] n
digits_solid (suc k) n = of (ltb n 10)
  where
    of : (t : Bool) → Solid (cond t (digit n ∷ []) (digits_within k (n / 10) ++ (digit (n % 10) ∷ [])))
    of true = digit_solid [] n
    of false = digit_solid (digits_within k (n / 10)) (n % 10)

decimal_solid : (n : ℕ) → Solid (decimal n)
unfolding decimal
decimal_solid n = digits_solid n n

wire_solid : (α : Wire) → Solid (wire_name α)
wire_solid Bit = solid (66 ∷ 105 ∷ []) 116 λ e. omega arith
wire_solid Qubit = solid (81 ∷ 117 ∷ 98 ∷ 105 ∷ []) 116 λ e. omega arith

-- Words, each behind a space, behind solid bytes: the numbers of a list, and a last word.
numbers_solid : {first : List ℕ} (ns : List ℕ) → Solid first → Solid (first ++ spaced (map decimal ns))
numbers_solid {first} [] s = subst Solid (sym (append-nil first)) s
numbers_solid {first} (n ∷ ns) s = behind first (behind (32 ∷ []) (numbers_solid {first = decimal n} ns (decimal_solid n)))

-- So a line ends well whose words end in a last one that is solid, or in numbers.
line_solid : (first : List ℕ) (ws : List (List ℕ)) → Solid (first ++ spaced ws) → EndsInSpace (line first ws) → ⊥
line_solid first ws s (xs, e) = ended s (xs, append_assoc first (spaced ws) (10 ∷ []) ∙ e)

input_solid : (w : ℕ) (α : Wire) → EndsInSpace (input_line w α) → ⊥
input_solid w α =
    line_solid (ascii "in") (decimal w ∷ wire_name α ∷ [])
    (behind (ascii "in" ++ (32 ∷ [])) (behind (decimal w) (behind (32 ∷ []) (numbers_solid [] (wire_solid α)))))

gate_solid : (n : ℕ) (taken made : List ℕ) → EndsInSpace (gate_line n taken made) → ⊥
gate_solid n taken made =
    line_solid (ascii "gate") (gate_name n ∷ (map decimal taken ++ (ascii ":" ∷ map decimal made)))
    (behind (ascii "gate") (behind (32 ∷ []) (behind (gate_name n) (words taken))))
  where
    colon : Solid (ascii ":")
    colon = solid [] 58 λ e. omega arith

    words : (ns : List ℕ) → Solid (spaced (map decimal ns ++ (ascii ":" ∷ map decimal made)))
    words [] = behind (32 ∷ []) (numbers_solid made colon)
    words (n ∷ ns) = behind (32 ∷ []) (behind (decimal n) (words ns))

out_solid : (ws : List ℕ) → EndsInSpace (out_line ws) → ⊥
out_solid ws = line_solid (ascii "out") (map decimal ws) (numbers_solid ws (solid (111 ∷ 117 ∷ []) 116 λ e. omega arith))

steps_solid : (steps : ℕ) → EndsInSpace (steps_line steps) → ⊥
steps_solid steps =
    line_solid (ascii "steps") (decimal steps ∷ [])
    (numbers_solid (steps ∷ []) (solid (115 ∷ 116 ∷ 101 ∷ 112 ∷ []) 115 λ e. omega arith))

-- 02, ticket 5, of a refusal's line.
pub refusal_solid : (number place : ℕ) → EndsInSpace (refused_line number place) → ⊥
refusal_solid number place =
    line_solid (ascii "refused") (decimal number ∷ decimal place ∷ [])
    (numbers_solid (number ∷ place ∷ []) (solid (114 ∷ 101 ∷ 102 ∷ 117 ∷ 115 ∷ 101 ∷ []) 100 λ e. omega arith))

-- Lines one behind the other.
all_solid : (ls ms : List (List ℕ)) → NoneEndsInSpace ls → NoneEndsInSpace ms → NoneEndsInSpace (ls ++ ms)
all_solid [] ms a b = b
all_solid (l ∷ ls) ms a b = (a.0, all_solid ls ms a.1 b)

inputs_solid : (w : ℕ) (I : List Wire) → NoneEndsInSpace (input_lines w I)
inputs_solid w [] = tt
inputs_solid w (α ∷ I) = (input_solid w α, inputs_solid (suc w) I)

gates_solid : (I : List Wire) (gs : List Gate) → NoneEndsInSpace (gate_lines I gs)
gates_solid I [] = tt
gates_solid I ((n on ws) ∷ gs) =
    let made = numbers (length (I ++ outputs gs)) (length (gate_outputs n)) in
    all_solid (gate_lines I gs) (gate_line n ws made ∷ []) (gates_solid I gs) (gate_solid n ws made, tt)

-- 02, ticket 5: "no line ends in a space".
pub lines_solid : (C : Circuit) (r : Tuple) (steps : ℕ) → NoneEndsInSpace (lines_of C r steps)
lines_solid (circuit I gs) r steps =
    all_solid (input_lines 0 I) (gate_lines I gs ++ (out_line (labels r) ∷ steps_line steps ∷ [])) (inputs_solid 0 I)
    (all_solid (gate_lines I gs) (out_line (labels r) ∷ steps_line steps ∷ []) (gates_solid I gs)
    (out_solid (labels r), (steps_solid steps, tt)))

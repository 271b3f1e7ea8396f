-- What stands at a place of an OpenQASM text, read loosely: only the bytes that tell items apart and the digits count, for the
-- importer compares the text with an export in the end. An item is a declaration of an input, a gate, or the name of an output.
use Rattle.std.specs.Prelude.{ℕ, ◌+◌, ◌-◌, ◌*◌, Bool, ◌&&◌, cond, List, eqb, ltb, get_or, drop}
use Rattle.openqasm_reader.specs.declared.Item.{Item}

-- A number of one digit or two at the start of a text, and how many digits it has.
abbrev pub is_digit : ℕ → Bool
is_digit c = ltb 47 c && ltb c 58

abbrev pub digits_in : List ℕ → ℕ
digits_in s = cond (is_digit (get_or s 1 0)) 2 1

abbrev pub number_in : List ℕ → ℕ
number_in s = cond (is_digit (get_or s 1 0)) (10 * (get_or s 0 0 - 48) + (get_or s 1 0 - 48)) (get_or s 0 0 - 48)

-- The kind of an item: a gate's number, the kind of an input in a listing, the name of an output, or none.
abbrev pub ccx_item : ℕ
ccx_item = 11

abbrev pub bit_item : ℕ
bit_item = 128

abbrev pub qubit_item : ℕ
qubit_item = 129

abbrev pub output_item : ℕ
output_item = 130

abbrev pub no_item : ℕ
no_item = 255

-- It is told by the first byte: of `h`, `x`, `z`, `s`, `t`, `measure`, `if`, `cx`, `ccx`, `creg`, `qreg`, and of the space before an
-- output. The second byte parts `creg` and `ccx` from `cx`; behind an `if` the gate's name says which it is.
unfoldable pub kind_of : ℕ → ℕ → ℕ → ℕ
kind_of first second name =
    cond (eqb first 104) 0
    (cond (eqb first 120) 1
    (cond (eqb first 122) 2
    (cond (eqb first 115) 3
    (cond (eqb first 116) 4
    (cond (eqb first 99) (cond (eqb second 114) bit_item (cond (eqb second 99) ccx_item 5))
    (cond (eqb first 109) 6
    (cond (eqb first 105) (cond (eqb name 120) 7 8)
    (cond (eqb first 113) qubit_item
    (cond (eqb first 32) output_item no_item)))))))))

abbrev pub kind_in : List ℕ → ℕ
kind_in s = kind_of (get_or s 0 0) (get_or s 1 0) (get_or s (9 + digits_in (drop 4 s)) 0)

-- How many bytes stand before an item's first number, between that and the second, as between the second and the third, and behind
-- the last; between them 0 where there is one number only.
unfoldable pub before : ℕ → ℕ
before kind =
    cond (ltb kind 5) 3
    (cond (eqb kind 6) 9
    (cond (ltb kind 9) 4
    (cond (eqb kind ccx_item) 5
    (cond (eqb kind output_item) 2 6))))

unfoldable pub between : ℕ → ℕ
between kind =
    cond (ltb kind 5) 0
    (cond (eqb kind 5) 5
    (cond (ltb kind 9) 8
    (cond (eqb kind ccx_item) 5
    (cond (eqb kind qubit_item) 11 0))))

unfoldable pub behind : ℕ → ℕ
behind kind = cond (eqb kind output_item) 0 5

-- An item with one number, with two and with three: its kind, its numbers and its length.
abbrev pub one_number : ℕ → List ℕ → Item
one_number kind s =
    let t = drop (before kind) s in
    record { kind = kind; first = number_in t; second = 0; third = 0; length = before kind + digits_in t + behind kind }

abbrev pub two_numbers : ℕ → List ℕ → Item
two_numbers kind s =
    let t = drop (before kind) s in
    let u = drop (digits_in t + between kind) t in
    record {
      kind = kind;
      first = number_in t;
      second = number_in u;
      third = 0;
      length = before kind + digits_in t + between kind + digits_in u + behind kind;
    }

abbrev pub three_numbers : ℕ → List ℕ → Item
three_numbers kind s =
    let t = drop (before kind) s in
    let u = drop (digits_in t + between kind) t in
    let v = drop (digits_in u + between kind) u in
    record {
      kind = kind;
      first = number_in t;
      second = number_in u;
      third = number_in v;
      length = before kind + digits_in t + between kind + digits_in u + between kind + digits_in v + behind kind;
    }

abbrev pub item_of : ℕ → List ℕ → Item
item_of kind s =
    cond (eqb (between kind) 0) (one_number kind s) (cond (eqb kind ccx_item) (three_numbers kind s) (two_numbers kind s))

-- The item at the start of a text.
unfoldable pub item_in : List ℕ → Item
item_in s =
    cond (eqb (kind_in s) no_item) (record { kind = no_item; first = 0; second = 0; third = 0; length = 0 }) (item_of (kind_in s) s)

-- The files of 01's cases ("Cases, c1 to c12"): "L is 1 and label 0 a Qubit unless said. Gates and boxes are used by apply."
use Rattle.std.specs.Prelude.{ℕ, List, [], ◌∷◌}
use Rattle.program.specs.Encoding.{file_of}

-- "c1: label 0 alone. File (hex) 01 00 00 00 01 00 01 11 00 00 00 00."
abbrev pub c1_file : List ℕ
c1_file = 0x01 ∷ 0x00 ∷ 0x00 ∷ 0x00 ∷ 0x01 ∷ 0x00 ∷ 0x01 ∷ 0x11 ∷ 0x00 ∷ 0x00 ∷ 0x00 ∷ 0x00 ∷ []

-- "c2: H applied to label 0."
abbrev pub c2_file : List ℕ
c2_file = file_of 1 0 3 (1 ∷ 25 ∷ 26 ∷ 17 ∷ []) (0 ∷ 0 ∷ 0 ∷ 0 ∷ [])

-- "c3: L 2, both Qubit: let takes apart CNOT applied to the pair of labels 0 and 1, and gives the pair of its second half
-- and its first."
abbrev pub c3_file : List ℕ
c3_file =
    file_of 2 0 9
    (1 ∷ 1 ∷ 21 ∷ 25 ∷ 26 ∷ 20 ∷ 17 ∷ 17 ∷ 20 ∷ 16 ∷ 16 ∷ [])
    (0 ∷ 0 ∷ 0 ∷ 0 ∷ 5 ∷ 0 ∷ 0 ∷ 1 ∷ 0 ∷ 0 ∷ 1 ∷ [])

-- "c4: an abstraction over Qubit applies H to its variable; it is lifted, boxed at Qubit, and the box is applied to label 0."
abbrev pub c4_file : List ℕ
c4_file =
    file_of 1 1 8
    (1 ∷ 1 ∷ 25 ∷ 24 ∷ 22 ∷ 18 ∷ 25 ∷ 26 ∷ 16 ∷ 17 ∷ [])
    (0 ∷ 0 ∷ 0 ∷ 0 ∷ 0 ∷ 0 ∷ 0 ∷ 0 ∷ 0 ∷ 0 ∷ [])

-- "c5: the pair of label 0 and label 0".
abbrev pub c5_file : List ℕ
c5_file = file_of 1 0 3 (1 ∷ 20 ∷ 17 ∷ 17 ∷ []) (0 ∷ 0 ∷ 0 ∷ 0 ∷ [])

-- "c6: the abstraction over Qubit that gives its variable, label 0 unused".
abbrev pub c6_file : List ℕ
c6_file = file_of 1 1 2 (1 ∷ 1 ∷ 18 ∷ 16 ∷ []) (0 ∷ 0 ∷ 0 ∷ 0 ∷ [])

-- "c7: P 0, lift of label 0".
abbrev pub c7_file : List ℕ
c7_file = file_of 1 0 2 (1 ∷ 22 ∷ 17 ∷ []) (0 ∷ 0 ∷ 0 ∷ [])

-- "c8: P 0, H applied to the result of Meas applied to label 0".
abbrev pub c8_file : List ℕ
c8_file = file_of 1 0 5 (1 ∷ 25 ∷ 26 ∷ 25 ∷ 26 ∷ 17 ∷ []) (0 ∷ 0 ∷ 0 ∷ 0 ∷ 6 ∷ 0 ∷ [])

-- "c9: L 0, P 1, the abstraction over Qubit that pairs its variable with itself".
abbrev pub c9_file : List ℕ
c9_file = file_of 0 1 4 (1 ∷ 18 ∷ 20 ∷ 16 ∷ 16 ∷ []) (0 ∷ 0 ∷ 0 ∷ 0 ∷ 0 ∷ [])

-- "c10: an abstraction over Circ from Qubit to Qubit, which applies its variable to the result of applying it to label 0, is
-- given H". The type section is Circ from Qubit to Qubit.
abbrev pub c10_file : List ℕ
c10_file =
    file_of 1 3 8
    (1 ∷ 5 ∷ 1 ∷ 1 ∷ 19 ∷ 18 ∷ 25 ∷ 16 ∷ 25 ∷ 16 ∷ 17 ∷ 26 ∷ [])
    (0 ∷ 0 ∷ 0 ∷ 0 ∷ 0 ∷ 0 ∷ 0 ∷ 0 ∷ 0 ∷ 0 ∷ 0 ∷ 0 ∷ [])

-- "c11: L 0, c6's abstraction".
abbrev pub c11_file : List ℕ
c11_file = file_of 0 1 2 (1 ∷ 18 ∷ 16 ∷ []) (0 ∷ 0 ∷ 0 ∷ [])

-- "c12: an abstraction over Circ from Qubit to Qubit that gives label 0 is given H".
abbrev pub c12_file : List ℕ
c12_file = file_of 1 3 4 (1 ∷ 5 ∷ 1 ∷ 1 ∷ 19 ∷ 18 ∷ 17 ∷ 26 ∷ []) (0 ∷ 0 ∷ 0 ∷ 0 ∷ 0 ∷ 0 ∷ 0 ∷ 0 ∷ [])

-- "Sizes 1, 0, 0 alone".
abbrev pub sizes_file : List ℕ
sizes_file = 0x01 ∷ 0x00 ∷ 0x00 ∷ 0x00 ∷ 0x00 ∷ 0x00 ∷ []

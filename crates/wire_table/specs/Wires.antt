-- 02, ticket 3: the first gate, output or wire of a circuit at which a wire rule is broken. Accepted is what has none: "each wire has
-- been made before it is taken, has the type its taker needs, and goes exactly once to a gate or an output".
use Rattle.std.specs.Prelude.{ℕ, zero, suc, ◌+◌, Bool, true, false, ◌&&◌, cond, List, [], ◌∷◌, ◌++◌, eqb, ltb, length}
use Rattle.std.proofs.Math.Option.{Option, none, some}
use Rattle.rules.specs.Types.{Wire, wire_code}
use Rattle.rules.specs.Gates.{nth, gate_type, input_wires}
use Rattle.rules.specs.Terms.{Gate, ◌on◌}
use Rattle.rules.specs.Circuits.{outputs, taken, count, if_none}

-- Wire w, if it is there: it is made, and not among the wires gone. The types of the wires made stand by number. Of the wires that a
-- circuit makes and takes this is `loose`.
abbrev pub there : List Wire → List ℕ → ℕ → Option Wire
there types gone w = if_none (count w gone) (nth types w)

abbrev pub is_there : Option Wire → Bool
is_there none = false
is_there (some α) = true

-- "has the type its taker needs".
abbrev pub is_of_type : Wire → Option Wire → Bool
is_of_type α none = false
is_of_type α (some β) = eqb (wire_code α) (wire_code β)

-- Is each of these wires there, with the type of its slot? A wire that a slot takes is gone for the slots behind it.
abbrev pub all_there : List Wire → List ℕ → List ℕ → List Wire → Bool
all_there types gone [] [] = true
all_there types gone [] (α ∷ αs) = false
all_there types gone (w ∷ ws) [] = false
all_there types gone (w ∷ ws) (α ∷ αs) = is_of_type α (there types gone w) && all_there types (w ∷ gone) ws αs

-- What is found first: in one place, else in another.
abbrev pub or_else : Option ℕ → Option ℕ → Option ℕ
or_else none later = later
or_else (some n) later = some n

-- What is found, as a place.
abbrev pub placed : (ℕ → ℕ) → Option ℕ → Option ℕ
placed place none = none
placed place (some n) = some (place n)

-- "the first gate entry that takes a wire wrongly (not made before, of another type, or gone already)": which gate, the oldest
-- being 0. The gates stand newest first, so those before a gate stand behind it in the list.
abbrev pub first_wrong_gate : List Wire → List Gate → Option ℕ
first_wrong_gate I [] = none
first_wrong_gate I ((n on ws) ∷ gs) =
    or_else (first_wrong_gate I gs)
    (cond (all_there (I ++ outputs gs) (taken gs) ws (input_wires (gate_type n))) none (some (length gs)))

-- "the number of the first wrong output", counted from j: not made, or gone, to a gate or to an output before it.
abbrev pub first_wrong_output : List Wire → List ℕ → ℕ → List ℕ → Option ℕ
first_wrong_output types gone j [] = none
first_wrong_output types gone j (w ∷ ws) =
    cond (is_there (there types gone w)) (first_wrong_output types (w ∷ gone) (suc j) ws) (some j)

-- The first of k numbers from n on that passes a test.
abbrev pub first_where : (ℕ → Bool) → ℕ → ℕ → Option ℕ
first_where test n zero = none
first_where test n (suc k) = cond (test n) (some n) (first_where test (suc n) k)

-- "the lowest wire left over".
abbrev pub lowest_left : List Wire → List ℕ → Option ℕ
lowest_left types gone = first_where (λ w. is_there (there types gone w)) 0 (length types)

-- "the entry that made" wire w: inputs are the first entries, gates those behind them.
abbrev pub maker : List Wire → List Gate → ℕ → ℕ
maker I [] w = w
maker I (g ∷ gs) w = cond (ltb w (length (I ++ outputs gs))) (maker I gs w) (length I + length gs)

-- 26: "Its place is the first gate entry that takes a wire wrongly, else L+G plus the number of the first wrong output, else the
-- entry that made the lowest wire left over." None where no wire rule is broken.
unfoldable pub broken_at : List Wire → List Gate → List ℕ → Option ℕ
broken_at I gs outs =
    or_else (placed (λ i. length I + i) (first_wrong_gate I gs))
    (or_else (placed (λ j. length I + length gs + j) (first_wrong_output (I ++ outputs gs) (taken gs) 0 outs))
    (placed (maker I gs) (lowest_left (I ++ outputs gs) (taken gs ++ outs))))

-- Quadwords that are copied, with their wires renamed or as they are.
use Rattle.std.specs.Prelude.{ℕ, ◌+◌, ◌≤◌, ◌<◌, ◌%◌, ◌≡◌, ◌⊎◌, List, [], ◌∷◌, map, length}
use Rattle.rules.specs.Terms.{Gate}
use Rattle.rules.specs.Circuits.{rename_gate}
use Rattle.words.specs.Quadwords.{Quadword, quadword, quadword_at}
use Rattle.machine_circuits.specs.Layout.{gate_of, gate_words, gates_in}
use Rattle.rules.specs.Slots.{no_wire}
use Rattle.rules.specs.GateCodes.{wires_of}

-- Every number of a list, and every wire that gates take, is below a number.
abbrev pub AllBelow : ℕ → List ℕ → Type 0
AllBelow m [] = Unit {0}
AllBelow m (w ∷ ws) = (w < m) × AllBelow m ws

abbrev pub WiresBelow : ℕ → List Gate → Type 0
WiresBelow m [] = Unit {0}
WiresBelow m (g ∷ gs) = AllBelow m (wires_of g) × WiresBelow m gs

-- The low 16 bits of each word of a quadword.
abbrev pub low_words : Quadword → Quadword
low_words (quadword a b c d) = quadword (a % 65536) (b % 65536) (c % 65536) (d % 65536)

-- When gates can be copied, m being above every wire that they take: they stand in the buffer, the quadwords that are written end
-- before them, there are n labels, and the numbers of the copy are 16-bit numbers.
pub record CopyFits (rs : List Quadword) (from count to available n next m : ℕ) : Type 0 where
  pub inside : from + count ≤ length rs
  pub apart : to + count ≤ from
  pub enough : n ≤ available
  pub below : WiresBelow m (gates_in rs from count)
  pub room : next + m ≤ no_wire

-- The quadword of the renamed gate.
abbrev pub renamed_words : List ℕ → ℕ → Quadword → Quadword
renamed_words ks next r = gate_words (rename_gate ks next (gate_of r))

-- Gates are copied with their wires renamed, quadword by quadword, and no other quadword is changed.
pub record GatesCopied (rs rs' : List Quadword) (from count to : ℕ) (ks : List ℕ) (next : ℕ) : Type 0 where
  pub copied : gates_in rs' to count ≡ map (rename_gate ks next) (gates_in rs from count)
  pub rows : (i : ℕ) → i < count → quadword_at rs' (to + i) ≡ renamed_words ks next (quadword_at rs (from + i))
  pub kept : (i : ℕ) → (i < to) ⊎ (to + count ≤ i) → quadword_at rs' i ≡ quadword_at rs i

-- Gates are copied as they are, quadword by quadword, and no other quadword is changed.
pub record GatesMoved (rs rs' : List Quadword) (from count to : ℕ) : Type 0 where
  pub moved : gates_in rs' to count ≡ gates_in rs from count
  pub rows : (i : ℕ) → i < count → quadword_at rs' (to + i) ≡ quadword_at rs (from + i)
  pub kept : (i : ℕ) → (i < to) ⊎ (to + count ≤ i) → quadword_at rs' i ≡ quadword_at rs i

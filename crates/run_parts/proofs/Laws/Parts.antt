-- Laws of specs/Parts.antt.
use Rattle.std.specs.Prelude.{ℕ, ◌≤◌, ◌<◌, ◌≡◌, List, ◌++◌, map, length, drop}
use Rattle.std.proofs.Math.Option.{some}
use Rattle.rules.specs.Types.{Wire, wire_code}
use Rattle.rules.specs.Terms.{Tuple, labels, Gate}
use Rattle.rules.specs.Circuits.{circuit}
use Rattle.machine_terms.specs.Trees.{Tree, preorder, tuple_of_tree}
use Rattle.words.specs.Regions.{Stands}
use Rattle.machine_circuits.specs.Layout.{gates_in, labels_start}
use Rattle.machine_state.specs.Memory.{Memory}
use Rattle.listing.specs.Lengths.{KindsFit}
use Rattle.listing.specs.Listing.{listing}

-- What `write_listing` ensures, of the inputs, the gates and the value that the memory has.
abbrev pub Writes : Memory → ℕ → ℕ → ℕ → List ℕ → List ℕ → ℕ → Type 0
Writes m inputs count size out out' written =
    (I : List Wire) (gs : List Gate) (v : Tree) (k : Tuple)
    → Stands m.types labels_start (map wire_code I)
    → inputs ≡ length I
    → gates_in m.gates 0 count ≡ gs
    → KindsFit gs
    → tuple_of_tree v ≡ some k
    → Stands m.nodes 0 (preorder v)
    → size ≡ length (preorder v)
    → inputs < 65536
    → count < 65536
    → length (labels k) < 65536
    → length (listing (circuit I gs) k) ≤ length out
    → (out' ≡ listing (circuit I gs) k ++ drop (length (listing (circuit I gs) k)) out)
    × (written ≡ length (listing (circuit I gs) k))

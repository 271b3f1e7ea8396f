-- What is asked and said where tuples are collected, saved, loaded and written.
use Rattle.std.specs.Prelude.{ℕ, ◌+◌, ◌≤◌, ◌≡◌, List, length, take}
use Rattle.rules.specs.Types.{Ty, wires, entries}
use Rattle.rules.specs.Terms.{Tuple, labels, tuple_from}
use Rattle.rules.specs.Circuits.{rename_tuple}
use Rattle.machine_terms.specs.Trees.{Node, preorder, tuple_tree}
use Rattle.rules.specs.Slots.{no_wire}
use Rattle.machine_circuits.specs.Layout.{tuple_words, no_label}
use Rattle.words.specs.Regions.{over, Stands}
use Rattle.machine_circuits.specs.Copies.{AllBelow}

-- The first words are the labels of a tuple, and this is their number.
pub record LabelsCollected (k : Tuple) (ws : List ℕ) (found : ℕ) : Type 0 where
  pub number : found ≡ length (labels k)
  pub collected : take found ws ≡ labels k

-- When a result k can be loaded, m being above every label in it: its words stand there, the nodes that are written end
-- before their buffer does, there are n labels, no label of k is the word of a pair or of unit's value, and the new numbers are
-- 16-bit numbers.
pub record ResultFits (k : Tuple) (m : ℕ) (ws : List ℕ) (from count size to available n next : ℕ) : Type 0 where
  pub stands : Stands ws from (tuple_words k)
  pub whole : count ≡ length (tuple_words k)
  pub inside : to + count ≤ size
  pub enough : n ≤ available
  pub below : AllBelow m (labels k)
  pub apart : m ≤ no_label
  pub room : next + m ≤ no_wire

-- The nodes of a result, renamed.
abbrev pub result_nodes : Tuple → List ℕ → ℕ → List Node
result_nodes k ks next = preorder (tuple_tree (rename_tuple ks next k))

-- The tuple of a type's wires is written; it has so many nodes, and so many labels.
pub record TupleWritten (T : Ty) (first : ℕ) (ns ns' : List Node) (to size wide : ℕ) : Type 0 where
  pub nodes : ns' ≡ over ns to (preorder (tuple_tree (tuple_from first T)))
  pub entries_written : size ≡ entries T
  pub labels_written : wide ≡ length (wires T)

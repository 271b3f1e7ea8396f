use mathlib.Core.Path.{◌≡◌}
use mathlib.Core.List.{map}
use lib.ListN.{take, drop}
use Rattle.words.specs.Words.{words}
use Rattle.machine_nodes.specs.Nodes.{nodes_in}
use Rattle.words.specs.Regions.{over}
use Rattle.machine_circuits.specs.Tuples.{word_of}
use Rattle.machine_circuits.proofs.tuples.save_result.Given as goal

abbrev pub invariant-loop-i : goal.invariant-loop-i
invariant-loop-i l = words l.res ≡ over (words l.initial.res) l.from (map word_of (take l.i (drop l.at (nodes_in l.nodes))))

-- What the code that writes a reduct needs, and what holds at each of its turns.
use Rattle.std.specs.Prelude.{ℕ, ◌+◌, ◌-◌, ◌≤◌, ◌<◌, ◌≡◌, cond, List, leb, length, get_or, Option, Some, None, IfSome}
use Rattle.rules.specs.Sizes.{most_nodes}
use Rattle.machine_terms.specs.Trees.{Node, kind}
use Rattle.machine_nodes.specs.Nodes.{node_at}
use Rattle.words.specs.Regions.{over}
use Rattle.machine_substitution.specs.declared.Region.{Region}
use Rattle.machine_substitution.specs.declared.Values.{Values}
use Rattle.machine_substitution.specs.Substituted.{waiting_after, reduct}
use Rattle.machine_substitution.specs.Waiting.{stack_of}
use Rattle.machine_substitution.specs.Pieces.{piece_region, Outside}

-- The source and the values stand in the buffer, outside of the places from `to` on that may be written, of which there are
-- as many as the reduct may have nodes; the source is no larger than a configuration may be, and there are more words than
-- it has nodes: one for each part that may be waited for.
pub record Ready (ns : List Node) (words to most : ℕ) (source : Region) (values : Values) : Type 0 where
  pub source_outside : Outside (length ns) to most source
  pub first_outside : Outside (length ns) to most values.first
  pub second_outside : IfSome values.second (Outside (length ns) to most)
  pub inside : to + most ≤ length ns
  pub few : source.length ≤ most_nodes
  pub words_enough : source.length < words

-- A number of nodes, if it is not too many.
unfoldable pub size_within : ℕ → ℕ → Option ℕ
size_within most n = cond (leb n most) (Some n) None

-- What the writer leaves, and its answer: at most so many nodes from the place on are written, all else is as before, and
-- if the reduct is not too large, it is what was written.
pub record Wrote (ns ns' : List Node) (source : Region) (values : Values) (to most : ℕ) (answer : Option ℕ) : Type 0 where
  pub written : List Node
  pub nodes_are : ns' ≡ over ns to written
  pub within : length written ≤ most
  pub answer_is_size : answer ≡ size_within most (length (reduct ns source values))
  pub whole : (size : ℕ) → answer ≡ Some size → written ≡ reduct ns source values

-- What one turn finds at the node at a place, with the words before and after: what the node becomes, and the parts that
-- are waited for.
pub record NextPiece (ns : List Node) (ws ws' : List ℕ) (values : Values) (place depth : ℕ) (piece : Region) (depth' : ℕ)
    : Type 0 where
  pub piece_is : piece ≡ piece_region values (get_or ws (depth - 1) 0) (node_at ns place) place
  pub deeper : depth' ≤ depth + 1
  pub waits : depth < length ws → get_or ws (depth - 1) 0 + 2 < 65536
      → stack_of ws' depth'
      ≡ waiting_after (kind (node_at ns place)) (get_or ws (depth - 1) 0) (stack_of ws (depth - 1))

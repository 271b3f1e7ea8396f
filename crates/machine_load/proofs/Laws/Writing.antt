-- The loops of loading: values are written one behind the other, and numbers are read from the file.
use Rattle.std.specs.Prelude.{ℕ, ◌+◌, ◌%◌, ◌≤◌, ◌<◌, ◌≡◌, List, length, set}
use Rattle.std.proofs.Common.{arith, sym, ◌∙◌, ap, ap₂}
use Rattle.program.specs.Format.{kind_at, argument_at}
use Rattle.machine_terms.specs.Trees.{Node, node}
use Rattle.words.specs.Regions.{over}
use Rattle.words.proofs.Laws.Regions.{over_nil, over_more}
use Rattle.machine_load.specs.Trees.{values_from, node_from}
use Rattle.machine_load.proofs.Laws.Values.{no_values, length_values, values_more}

module _ {A : Type 0} (g : ℕ → A) (l : List A) (from to : ℕ) where
  -- No value is written.
  pub none_written : l ≡ over l to (values_from g from 0)
  none_written = sym (ap (over l to) (no_values g from) ∙ over_nil l to)

  -- One value more.
  pub one_written : (l₁ l₂ : List A) (count i : ℕ) (x : A)
      → to + count ≤ length l
      → i < count
      → l₁ ≡ over l to (values_from g from i)
      → x ≡ g (from + i)
      → l₂ ≡ set l₁ (to + i) x
      → l₂ ≡ over l to (values_from g from (i + 1))
  one_written l₁ l₂ count i x room h e v e' =
      let long : length (values_from g from i) ≡ i = length_values g from i in
      e'
      ∙ ap₂ (λ t y. set t (to + i) y) e v
      ∙ ap (λ j. set (over l to (values_from g from i)) (to + j) (g (from + i))) (sym long)
      ∙ over_more l to (values_from g from i) (g (from + i)) (omega arith)
      ∙ ap (over l to) (sym (values_more g from i))

-- A kind of the file is written as a word.
pub kind_written : (f ws ws₁ ws₂ : List ℕ) (from to count i k : ℕ)
    → to + count ≤ length ws
    → i < count
    → ws₁ ≡ over ws to (values_from (kind_at f) from i)
    → k ≡ kind_at f (from + i)
    → k < 65536
    → ws₂ ≡ set ws₁ (to + i) (k % 65536)
    → ws₂ ≡ over ws to (values_from (kind_at f) from (i + 1))
kind_written f ws ws₁ ws₂ from to count i k room h e v b e' =
    let low : k % 65536 ≡ k = omega arith in
    one_written (kind_at f) ws from to ws₁ ws₂ count i (k % 65536) room h e (low ∙ v) e'

-- An entry of the file is written as a node.
pub node_written : (f : List ℕ) (ns ns₁ ns₂ : List Node) (from to count i k a : ℕ)
    → to + count ≤ length ns
    → i < count
    → ns₁ ≡ over ns to (values_from (node_from f) from i)
    → k ≡ kind_at f (from + i)
    → k < 65536
    → a ≡ argument_at f (from + i)
    → a < 65536
    → ns₂ ≡ set ns₁ (to + i) (node (k % 65536) (a % 65536))
    → ns₂ ≡ over ns to (values_from (node_from f) from (i + 1))
node_written f ns ns₁ ns₂ from to count i k a room h e v b v' b' e' =
    let low : k % 65536 ≡ k = omega arith in
    let low' : a % 65536 ≡ a = omega arith in
    one_written (node_from f) ns from to ns₁ ns₂ count i (node (k % 65536) (a % 65536)) room h e
    (ap₂ node (low ∙ v) (low' ∙ v')) e'

-- Laws of specs/Nodes.antt.
use Rattle.std.specs.Prelude.{ℕ, zero, suc, ◌+◌, ◌*◌, ◌≤◌, ◌<◌, ◌/◌, ◌%◌, ◌≡◌, refl, List, [], ◌∷◌, length, get_or, set}
use Rattle.std.proofs.Common.{arith, sym, ◌∙◌, ap}
use Rattle.std.proofs.Math.Decide.{dec_lt}
use Rattle.std.proofs.Math.ListN.{get_or-eq_default}
use Rattle.std.proofs.lemmas.List.Edits.{sets}
use Rattle.std.proofs.Math.Seq.{set_out}
use Rattle.words.specs.Numbers.{word_at}
use Rattle.words.proofs.Laws.Numbers.{number_word}
use Rattle.words.specs.Words.{words, put_words, set_words}
use Rattle.words.proofs.Laws.Words.{length_words, put_view, put_within, set_within, set_past}
use Rattle.machine_terms.specs.Trees.{Node, node, kind, argument}
use Rattle.machine_nodes.specs.Nodes.{nodes_of, nodes_in, no_node, node_at}

-- A node is its kind with its argument.
pub node_whole : (n : Node) → node (kind n) (argument n) ≡ n
node_whole (node k a) = refl

-- There are half as many nodes as words, and a quarter as many as bytes; what is left over at the end is no node.
pub length_nodes_of : (w : List ℕ) → length (nodes_of w) ≡ length w / 2
unfolding nodes_of
length_nodes_of [] = refl
length_nodes_of (k ∷ []) = refl
length_nodes_of (k ∷ a ∷ w) = omega (arith, length_nodes_of w)

pub length_nodes_in : (m : List ℕ) → length (nodes_in m) ≡ length m / 4
length_nodes_in m = omega (arith, length_nodes_of (words m), length_words m)

-- Two buffers of one length have as many nodes.
pub same_nodes : (m m' : List ℕ) → length m' ≡ length m → length (nodes_in m') ≡ length (nodes_in m)
same_nodes m m' h = omega (arith, length_nodes_in m, length_nodes_in m')

-- Node i is made of the words 2 * i and 2 * i + 1.
pub node_of_words : (w : List ℕ) (i : ℕ)
    → i < length w / 2
    → node_at (nodes_of w) i ≡ node (get_or w (2 * i) 0) (get_or w (2 * i + 1) 0)
unfolding nodes_of
node_of_words [] i h = absurd (omega arith)
node_of_words (k ∷ []) i h = absurd (omega arith)
node_of_words (k ∷ a ∷ w) zero h = refl
node_of_words (k ∷ a ∷ w) (suc i) h =
    let low : 2 * suc i ≡ suc (suc (2 * i)) = omega arith in
    let high : 2 * suc i + 1 ≡ suc (suc (2 * i + 1)) = omega arith in
    rw (high, low) (node_of_words w i (omega arith))

pub kind_word : (w : List ℕ) (i : ℕ) → i < length w / 2 → kind (node_at (nodes_of w) i) ≡ get_or w (2 * i) 0
kind_word w i h = ap kind (node_of_words w i h)

pub argument_word : (w : List ℕ) (i : ℕ)
    → i < length w / 2
    → argument (node_at (nodes_of w) i) ≡ get_or w (2 * i + 1) 0
argument_word w i h = ap argument (node_of_words w i h)

-- Past the last node there is nothing.
pub node_past : (w : List ℕ) (i : ℕ) → length w / 2 ≤ i → node_at (nodes_of w) i ≡ no_node
node_past w i h = get_or-eq_default (nodes_of w) no_node (omega (arith, length_nodes_of w))

-- Setting both words of node i sets the node.
set_node : (w : List ℕ) (i k a : ℕ)
    → i < length w / 2
    → nodes_of (sets w (2 * i) (k ∷ a ∷ [])) ≡ set (nodes_of w) i (node k a)
unfolding nodes_of
set_node [] i k a h = absurd (omega arith)
set_node (x ∷ []) i k a h = absurd (omega arith)
set_node (x ∷ y ∷ w) zero k a h = refl
set_node (x ∷ y ∷ w) (suc i) k a h =
    let next : 2 * suc i ≡ suc (suc (2 * i)) = omega arith in
    rw next (ap (λ t. node x y ∷ t) (set_node w i k a (omega arith)))

-- Where a node's two words are put, that is the node; past the end nothing changes.
pub node_put : (m m' : List ℕ) (i k a : ℕ)
    → m' ≡ put_words 2 m i (k ∷ a ∷ [])
    → nodes_in m' ≡ set (nodes_in m) i (node (k % 65536) (a % 65536))
node_put m m' i k a e =
    ap nodes_in e
    ∙ ap nodes_of (put_view 2 m i (k ∷ a ∷ []) (omega arith))
    ∙ of (dec_lt i (length (words m) / 2))
  where
    of : Dec (i < length (words m) / 2)
        → nodes_of (set_words 2 (words m) i (k ∷ a ∷ [])) ≡ set (nodes_in m) i (node (k % 65536) (a % 65536))
    of (yes h) =
        ap nodes_of (set_within 2 (words m) i (k ∷ a ∷ []) h) ∙ set_node (words m) i (k % 65536) (a % 65536) h
    of (no h) =
        ap nodes_of (set_past 2 (words m) i (k ∷ a ∷ []) (omega arith))
        ∙ sym (set_out (nodes_in m) i (node (k % 65536) (a % 65536)) (omega (arith, length_nodes_of (words m))))

-- The same of a buffer's bytes.
pub kind_in_lem : (m : List ℕ) (i : ℕ) → i < length m / 4 → kind (node_at (nodes_in m) i) ≡ get_or (words m) (2 * i) 0
kind_in_lem m i h = kind_word (words m) i (omega (arith, length_words m))

pub argument_in : (m : List ℕ) (i : ℕ)
    → i < length m / 4
    → argument (node_at (nodes_in m) i) ≡ get_or (words m) (2 * i + 1) 0
argument_in m i h = argument_word (words m) i (omega (arith, length_words m))

pub past_in : (m : List ℕ) (i : ℕ) → length m / 4 ≤ i → node_at (nodes_in m) i ≡ no_node
past_in m i h = node_past (words m) i (omega (arith, length_words m))

-- The kind of node i is the number at its first byte, the argument the number behind it.
pub kind_number : (m : List ℕ) (i : ℕ) → i < length m / 4 → word_at m (4 * i) ≡ kind (node_at (nodes_in m) i)
kind_number m i h =
    let even : 4 * i ≡ 2 * (2 * i) = omega arith in
    ap (word_at m) even ∙ number_word m (2 * i) (omega arith) ∙ sym (kind_in_lem m i h)

pub argument_number : (m : List ℕ) (i : ℕ) → i < length m / 4 → word_at m (4 * i + 2) ≡ argument (node_at (nodes_in m) i)
argument_number m i h =
    let odd : 4 * i + 2 ≡ 2 * (2 * i + 1) = omega arith in
    ap (word_at m) odd ∙ number_word m (2 * i + 1) (omega arith) ∙ sym (argument_in m i h)

-- The four bytes of node i, put one after another.
pub put_bytes : (m : List ℕ) (i k a : ℕ)
    → i < length m / 4
    → set (set (set (set m (4 * i) (k % 256)) (4 * i + 1) (k / 256 % 256)) (4 * i + 2) (a % 256)) (4 * i + 3) (a / 256 % 256)
    ≡ put_words 2 m i (k ∷ a ∷ [])
put_bytes m i k a h =
    let one : 4 * i + 1 ≡ suc (4 * i) = omega arith in
    let two : 4 * i + 2 ≡ suc (suc (4 * i)) = omega arith in
    let three : 4 * i + 3 ≡ suc (suc (suc (4 * i))) = omega arith in
    rw (three, two, one) (sym (put_within 2 m i (k ∷ a ∷ []) h))

-- The nodes of parts of a byte buffer: four bytes a node.
use Rattle.std.specs.Prelude.{ℕ, zero, suc, ◌+◌, ◌*◌, ◌≤◌, ◌≡◌, refl, List, [], ◌∷◌, ◌++◌, length, take, drop}
use Rattle.std.proofs.Common.{arith, sym, ◌∙◌, ap, inl, inr, length-drop, length-take-le}
use Rattle.machine_terms.specs.Trees.{node}
use Rattle.machine_nodes.specs.Nodes.{nodes_in, nodes_of}
use Rattle.machine_nodes.proofs.Laws.Nodes.{length_nodes_in}
use Rattle.words.specs.Regions.{over}
use Rattle.machine_nodes.proofs.Laws.Copies.{Clear, bytes_copied, copy_within}
use Rattle.machine_nodes.specs.Copying.{copy_nodes}

four_more : (k : ℕ) → 4 * suc k ≡ suc (suc (suc (suc (4 * k))))
four_more k = omega arith

-- Without the first bytes there are the nodes behind the first ones.
pub drop_nodes : (k : ℕ) (m : List ℕ) → nodes_in (drop (4 * k) m) ≡ drop k (nodes_in m)
unfolding nodes_of
drop_nodes zero m = refl
drop_nodes (suc k) [] = rw (four_more k) refl
drop_nodes (suc k) (a ∷ []) = rw (four_more k) refl
drop_nodes (suc k) (a ∷ b ∷ []) = rw (four_more k) refl
drop_nodes (suc k) (a ∷ b ∷ c ∷ []) = rw (four_more k) refl
drop_nodes (suc k) (a ∷ b ∷ c ∷ d ∷ m) = rw (four_more k) (drop_nodes k m)

-- The first bytes have the first nodes.
pub take_nodes : (k : ℕ) (m : List ℕ) → nodes_in (take (4 * k) m) ≡ take k (nodes_in m)
unfolding nodes_of
take_nodes zero m = refl
take_nodes (suc k) [] = rw (four_more k) refl
take_nodes (suc k) (a ∷ []) = rw (four_more k) refl
take_nodes (suc k) (a ∷ b ∷ []) = rw (four_more k) refl
take_nodes (suc k) (a ∷ b ∷ c ∷ []) = rw (four_more k) refl
take_nodes (suc k) (a ∷ b ∷ c ∷ d ∷ m) =
    rw (four_more k) (ap (λ ns. node (a + 256 * b) (c + 256 * d) ∷ ns) (take_nodes k m))

-- Bytes behind whole nodes.
pub append_nodes : (k : ℕ) (m m' : List ℕ) → length m ≡ 4 * k → nodes_in (m ++ m') ≡ nodes_in m ++ nodes_in m'
unfolding nodes_of
append_nodes zero [] m' h = refl
append_nodes zero (a ∷ m) m' h = absurd (omega arith)
append_nodes (suc k) [] m' h = absurd (omega arith)
append_nodes (suc k) (a ∷ []) m' h = absurd (omega arith)
append_nodes (suc k) (a ∷ b ∷ []) m' h = absurd (omega arith)
append_nodes (suc k) (a ∷ b ∷ c ∷ []) m' h = absurd (omega arith)
append_nodes (suc k) (a ∷ b ∷ c ∷ d ∷ m) m' h =
    ap (λ ns. node (a + 256 * b) (c + 256 * d) ∷ ns) (append_nodes k m m' (omega arith))

-- Whole nodes written over others.
pub over_nodes : (m : List ℕ) (to k : ℕ) (xs : List ℕ)
    → length xs ≡ 4 * k
    → 4 * to ≤ length m
    → nodes_in (over m (4 * to) xs) ≡ over (nodes_in m) to (nodes_in xs)
unfolding over
over_nodes m to k xs h h' =
    let behind : 4 * to + length xs ≡ 4 * (to + k) = omega arith in
    let long : length (nodes_in xs) ≡ k = omega (arith, length_nodes_in xs) in
    append_nodes to (take (4 * to) m) (xs ++ drop (4 * to + length xs) m) (length-take-le (4 * to) m h')
    ∙ ap (λ ns. ns ++ nodes_in (xs ++ drop (4 * to + length xs) m)) (take_nodes to m)
    ∙ ap (λ ns. take to (nodes_in m) ++ ns) (append_nodes k xs (drop (4 * to + length xs) m) h)
    ∙ ap (λ j. take to (nodes_in m) ++ (nodes_in xs ++ nodes_in (drop j m))) behind
    ∙ ap (λ ns. take to (nodes_in m) ++ (nodes_in xs ++ ns)) (drop_nodes (to + k) m)
    ∙ ap (λ j. take to (nodes_in m) ++ (nodes_in xs ++ drop (to + j) (nodes_in m))) (sym long)

-- No byte is overwritten before it is copied.
clear_bytes : (from to count : ℕ) → Clear from to count → Clear (4 * from) (4 * to) (4 * count)
clear_bytes from to count (inl below) = inl (omega arith)
clear_bytes from to count (inr apart) = inr (omega arith)

-- Where bytes are copied, so are the nodes.
pub nodes_copied : (m m' : List ℕ) (from to count : ℕ)
    → m' ≡ copy_nodes m from to count
    → Clear from to count
    → from + count ≤ length (nodes_in m)
    → to + count ≤ length (nodes_in m)
    → nodes_in m' ≡ over (nodes_in m) to (take count (drop from (nodes_in m)))
nodes_copied m m' from to count e clear fits room =
    let many = length_nodes_in m in
    let long : length (take (4 * count) (drop (4 * from) m)) ≡ 4 * count
    = length-take-le (4 * count) (drop (4 * from) m) (omega (arith, length-drop (4 * from) m)) in
    ap nodes_in
    (e
    ∙ copy_within m from to count (omega arith) (omega arith)
    ∙ bytes_copied m (4 * from) (4 * to) (4 * count) (omega arith) (omega arith) (clear_bytes from to count clear) (4 * count)
    (omega arith))
    ∙ over_nodes m to count (take (4 * count) (drop (4 * from) m)) long (omega arith)
    ∙ ap (over (nodes_in m) to) (take_nodes count (drop (4 * from) m))
    ∙ ap (λ ns. over (nodes_in m) to (take count ns)) (drop_nodes from m)

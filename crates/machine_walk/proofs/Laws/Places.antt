-- Laws of the gap buffer and of the stack.
use Rattle.std.specs.Prelude.{ℕ, suc, ◌+◌, ◌-◌, ◌≤◌, ◌<◌, ◌≡◌, refl, List, [], ◌∷◌, ◌++◌, length, set, take, drop}
use Rattle.std.proofs.Common.{arith, sym, ◌∙◌, ap, subst, length-append, length-drop, take_at, drop_at, drop-drop, drop-cons, take-suc-set, get_or-take, take-take, length-take-le}
use Rattle.std.proofs.lemmas.List.{get_or_at}
use Rattle.machine_terms.specs.Trees.{Node}
use Rattle.machine_terms.specs.Holes.{Hole, only, first, second, opened, nodes_before, before}
use Rattle.machine_nodes.specs.Nodes.{node_at, no_node}
use Rattle.words.specs.Regions.{over}
use Rattle.words.proofs.Laws.Regions.{take_over_end, drop_over, length_over}
use Rattle.words.specs.Quadwords.{Quadword, quadword_at}
use Rattle.machine_walk.specs.Stack.{no_entry}
use Rattle.machine_walk.specs.Places.{entry_for, entries_for, GapBuffer, Stacked}

-- The two parts of a gap buffer are as long as their places say.
pub front_length : {ns : List Node} {l r : ℕ} {xs ys : List Node} → GapBuffer ns l r xs ys → length xs ≡ l
front_length {ns} {l} g = ap length (sym g.front) ∙ length-take-le l ns (omega (arith, g.apart, g.inside))

pub back_length : {ns : List Node} {l r : ℕ} {xs ys : List Node} → GapBuffer ns l r xs ys → r + length ys ≡ length ns
back_length {ns} {l} {r} g = omega (arith, ap length g.back, length-drop r ns, g.inside)

-- What the back starts with stands at its place.
pub back_first : {ns : List Node} {l r : ℕ} {xs : List Node} {y : Node} {ys : List Node}
    → GapBuffer ns l r xs (y ∷ ys)
    → node_at ns r ≡ y
back_first {ns} {l} {r} {xs} {y} {ys} g =
    let long : r + suc (length ys) ≡ length ns = back_length g in
    let e : ◌≡◌ {A = List Node} (node_at ns r ∷ drop (suc r) ns) (y ∷ ys)
    = sym (drop-cons ns r no_node (omega arith)) ∙ g.back in
    cc

-- The first nodes of the back are moved behind the front.
pub shift : (ns : List Node) (l r r' k : ℕ) (xs ys zs : List Node)
    → GapBuffer ns l r xs (ys ++ zs)
    → k ≡ length ys
    → r' ≡ r + k
    → GapBuffer (over ns l (take k (drop r ns))) (l + k) r' (xs ++ ys) zs
shift ns l r r' k xs ys zs g e e' =
    let moved : take k (drop r ns) ≡ ys = ap (take k) g.back ∙ take_at ys zs k (sym e) in
    let long : r + length (ys ++ zs) ≡ length ns = back_length g in
    let sum : length (ys ++ zs) ≡ length ys + length zs = length-append ys zs in
    let a : l ≤ r = g.apart in
    rw (moved, e')
    record {
      front =
          ap (λ j. take (l + j) (over ns l ys)) e
          ∙ take_over_end ns l ys (omega arith)
          ∙ ap (λ t. t ++ ys) g.front;
      back =
          drop_over ns l ys (r + k) (omega arith) (omega arith)
          ∙ sym (drop-drop k r ns)
          ∙ ap (drop k) g.back
          ∙ drop_at ys zs k (sym e);
      apart = omega arith;
      inside = omega (arith, length_over ns l ys (omega arith));
    }

pub shift_length : (ns : List Node) (l r k : ℕ) (xs ys zs : List Node)
    → GapBuffer ns l r xs (ys ++ zs)
    → k ≡ length ys
    → length (over ns l (take k (drop r ns))) ≡ length ns
shift_length ns l r k xs ys zs g e =
    let moved : take k (drop r ns) ≡ ys = ap (take k) g.back ∙ take_at ys zs k (sym e) in
    let a : l ≤ r = g.apart in
    rw moved (length_over ns l ys (omega (arith, back_length g, length-append ys zs)))

-- There is a stack_entry for each hole.
pub length_entries_for : (hs : List Hole) → length (entries_for hs) ≡ length hs
length_entries_for [] = refl
length_entries_for (h ∷ hs) =
    omega (arith, length-append (entries_for hs) (entry_for h (length (before hs)) ∷ []), length_entries_for hs)

-- A hole has at least one node before it.
pub one_before : (h : Hole) → 1 ≤ length (nodes_before h)
one_before (only n) = omega arith
one_before (first n u) = omega arith
one_before (second n v) = omega arith
one_before (opened n b) = omega arith

pub holes_few : (hs : List Hole) → length hs ≤ length (before hs)
holes_few [] = omega arith
holes_few (h ∷ hs) = omega (arith, length-append (before hs) (nodes_before h), one_before h, holes_few hs)

-- A stack_entry is put on the stack.
pub push_entry : (rs : List Quadword) (d : ℕ) (h : Hole) (hs : List Hole) (r : Quadword)
    → Stacked rs d hs
    → d < length rs
    → r ≡ entry_for h (length (before hs))
    → Stacked (set rs d r) (d + 1) (h ∷ hs)
push_entry rs d h hs r s below e =
    let next : d + 1 ≡ suc d = omega arith in
    rw next
    record {
      deep = ap suc s.deep;
      rows = take-suc-set rs d r below ∙ ap (λ t. t ++ (r ∷ [])) s.rows ∙ ap (λ t. entries_for hs ++ (t ∷ [])) e;
    }

-- A stack_entry is taken off the stack.
pub pop_entry : (rs : List Quadword) (d : ℕ) (h : Hole) (hs : List Hole) → Stacked rs d (h ∷ hs) → Stacked rs (d - 1) hs
pop_entry rs d h hs s =
    let deep : d ≡ suc (length hs) = s.deep in
    record {
      deep = omega arith;
      rows =
          sym (take-take (d - 1) d rs (omega arith))
          ∙ ap (take (d - 1)) s.rows
          ∙ take_at (entries_for hs) (entry_for h (length (before hs)) ∷ []) (d - 1) (omega (arith, length_entries_for hs));
    }

-- The stack_entry on top is that of the innermost hole.
pub top_entry : (rs : List Quadword) (d : ℕ) (h : Hole) (hs : List Hole)
    → Stacked rs d (h ∷ hs)
    → quadword_at rs (d - 1) ≡ entry_for h (length (before hs))
top_entry rs d h hs s =
    let deep : d ≡ suc (length hs) = s.deep in
    sym (get_or-take d rs (d - 1) no_entry (omega arith))
    ∙ ap (λ t. quadword_at t (d - 1)) s.rows
    ∙ get_or_at (entries_for hs) (entry_for h (length (before hs))) [] no_entry (d - 1) (omega (arith, length_entries_for hs))

-- The stack_entry on top is replaced by another of the same place.
pub replace_entry : (rs : List Quadword) (d : ℕ) (h h' : Hole) (hs : List Hole) (r : Quadword)
    → Stacked rs d (h ∷ hs)
    → d ≤ length rs
    → r ≡ entry_for h' (length (before hs))
    → Stacked (set rs (d - 1) r) d (h' ∷ hs)
replace_entry rs d h h' hs r s below e =
    let deep : d ≡ suc (length hs) = s.deep in
    let again : d - 1 + 1 ≡ d = omega arith in
    subst (λ j. Stacked (set rs (d - 1) r) j (h' ∷ hs)) again
    (push_entry rs (d - 1) h' hs r (pop_entry rs d h hs s) (omega arith) e)

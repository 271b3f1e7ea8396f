-- What stands in memory where the walk has stopped, and how the next walk is held after a step.
use Rattle.std.specs.Prelude.{ℕ, suc, ◌+◌, ◌-◌, ◌%◌, ◌≤◌, ◌<◌, ◌≡◌, refl, false, List, [], ◌∷◌, ◌++◌, length, set, take, drop}
use Rattle.std.proofs.Common.{arith, sym, ◌∙◌, ap, subst, append_assoc, append-nil, length-append, length-set, length-drop, take-take, take_at, drop-drop, drop_at}
use Rattle.rules.specs.Sizes.{most_nodes}
use Rattle.machine_terms.specs.Trees.{Node, kind, Tree, leaf, preorder, WellKinded, an_apply, two_kind}
use Rattle.machine_terms.specs.Holes.{Hole, only, first, second, opened, nodes_before, before, after}
use Rattle.machine_terms.specs.Walks.{Walk, evaluating, returning, moves_left, walk, WalkFits, Stopped as StoppedAt}
use Rattle.machine_terms.specs.Walks.{left as walked_nodes, right as nodes_to_walk, at_apply, stopped_apply}
use Rattle.machine_terms.proofs.Laws.Walking.{moves_fit, move_stopped}
use Rattle.machine_nodes.specs.Nodes.{node_at, no_node}
use Rattle.words.specs.Regions.{over, Stands}
use Rattle.words.proofs.Laws.Regions.{take_over, written, drop_over, length_over, stands_first, stands_within, stands_rest}
use Rattle.words.proofs.Laws.Regions.{stands_left, stands_right, stands_alone}
use Rattle.machine_nodes.specs.Spans.{span}
use Rattle.machine_nodes.proofs.Laws.Spans.{span_one_tree}
use Rattle.words.specs.Quadwords.{Quadword, quadword_at}
use Rattle.machine_walk.specs.Stack.{stack_entry, stack_node, stack_start}
use Rattle.machine_walk.specs.Places.{entry_for, least_nodes, Stacked, Holds, stop_of, Walked}
use Rattle.machine_walk.proofs.Laws.Places.{front_length, back_length, one_before, holes_few, pop_entry, top_entry}
use Rattle.machine_walk.proofs.Laws.Places.{replace_entry}
use Rattle.machine_walk.proofs.Laws.Moving.{node_of, top_node}
use Rattle.machine_walk.specs.declared.Place.{Place}
use Rattle.machine_walk.specs.declared.Stopped.{Stopped}

-- The walk has stopped at one of evaluation's stops.
pub walked_stopped : (positions closed : ℕ) (ns : List Node) (rs : List Quadword) (w : Walk) (r : Stopped)
    → WalkFits positions closed w
    → Walked ns rs w r
    → StoppedAt (walk w) (stop_of r.stop)
walked_stopped positions closed ns rs w r f h =
    move_stopped positions closed (walk w) (stop_of r.stop) (moves_fit positions closed (moves_left w) w f) h.stop_is

-- The walk stops at apply only at a node of that kind whose two parts are values.
pub kind_of_apply : {n : Node} {f v : Tree} {hs : List Hole}
    → StoppedAt (returning v (second n f ∷ hs)) at_apply
    → two_kind (kind n) ≡ an_apply
kind_of_apply (stopped_apply e) = e

-- The nodes of all frames are those of the two parts of the buffer.
pub node_count : (ns : List Node) (rs : List Quadword) (p : Place) (w : Walk)
    → Holds ns rs p w
    → length (walked_nodes w) + length (nodes_to_walk w) ≡ p.left + (length ns - p.right)
node_count ns rs p w m =
    omega (arith, front_length m.buffer, back_length m.buffer)

-- What is written into the gap changes nothing.
pub gap_free : (ns ns' : List Node) (rs : List Quadword) (p : Place) (w : Walk)
    → Holds ns rs p w
    → take p.left ns' ≡ take p.left ns
    → drop p.right ns' ≡ drop p.right ns
    → length ns' ≡ length ns
    → Holds ns' rs p w
gap_free ns ns' rs p w m e e' same =
    record {
      buffer =
          record {
            front = e ∙ m.buffer.front;
            back = e' ∙ m.buffer.back;
            apart = m.buffer.apart;
            inside = omega (arith, m.buffer.inside);
          };
      stacked = m.stacked;
      mode = m.mode;
      few = m.few;
      room = m.room;
      wide = omega (arith, m.wide);
    }

pub gap_written : (ns : List Node) (rs : List Quadword) (p : Place) (w : Walk) (at : ℕ) (xs : List Node)
    → Holds ns rs p w
    → p.left ≤ at
    → at + length xs ≤ p.right
    → Holds (over ns at xs) rs p w
gap_written ns rs p w at xs m h h' =
    let inside = m.buffer.inside in
    gap_free ns (over ns at xs) rs p w m
    (take_over ns at xs p.left (omega arith) h)
    (drop_over ns at xs p.right (omega arith) h')
    (length_over ns at xs (omega arith))

-- The gap is never narrow.
pub gap_wide : (ns : List Node) (rs : List Quadword) (p : Place) (w : Walk)
    → Holds ns rs p w
    → p.left + (least_nodes - most_nodes) ≤ p.right
gap_wide ns rs p w m = omega (arith, node_count ns rs p w m, m.few, m.wide, m.buffer.apart, m.buffer.inside)

-- The start: the whole tree is to be walked.
pub started : (ns : List Node) (rs : List Quadword) (r : ℕ) (t : Tree)
    → drop r ns ≡ preorder t
    → r ≤ length ns
    → length (preorder t) ≤ most_nodes
    → most_nodes ≤ length rs
    → least_nodes ≤ length ns
    → Holds ns rs (record { left = 0; right = r; depth = 0; returning = false }) (evaluating t [])
started ns rs r t e h few room wide =
    record {
      buffer =
          record { front = refl; back = e ∙ sym (append-nil (preorder t)); apart = omega arith; inside = h };
      stacked = record { deep = refl; rows = refl };
      mode = refl;
      few = omega (arith, ap length (append-nil (preorder t)));
      room = room;
      wide = wide;
    }

-- The end: the value of the outermost frame is all there is.
pub record ValueAtEnd (ns : List Node) (p : Place) (v : Tree) : Type 0 where
  pub value_at_lem : Stands ns 0 (preorder v)
  pub ends : p.left ≡ length (preorder v)
  pub nothing_left : p.right ≡ length ns

pub at_the_end : (ns : List Node) (rs : List Quadword) (p : Place) (v : Tree)
    → Holds ns rs p (returning v [])
    → ValueAtEnd ns p v
at_the_end ns rs p v m =
    record {
      value_at_lem = stands_within ns p.left [] (preorder v) [] (m.buffer.front ∙ sym (append-nil (preorder v)));
      ends = sym (front_length m.buffer);
      nothing_left = omega (arith, back_length m.buffer);
    }

-- The innermost hole at a stop: its node stands at place `at`, which its stack_entry names, and below are the walked nodes and the
-- entries of the other holes.
pub record AtHole (ns : List Node) (rs : List Quadword) (p : Place) (h : Hole) (hs : List Hole) (at : ℕ) : Type 0 where
  pub deep : p.depth ≡ suc (length hs)
  pub top_is : quadword_at rs (p.depth - 1) ≡ entry_for h (length (before hs))
  pub at_is : at ≡ length (before hs)
  pub node_is : node_at ns at ≡ node_of h
  pub below : take at ns ≡ before hs
  pub under_left : at < p.left
  pub stack_below : Stacked rs (p.depth - 1) hs

-- Force or box of a value.
pub record OnlyRedex (ns : List Node) (rs : List Quadword) (p : Place) (n : Node) (v : Tree) (hs : List Hole) (at : ℕ) : Type 0 where
  pub hole : AtHole ns rs p (only n) hs at
  pub value_at_lem : Stands ns (at + 1) (preorder v)
  pub ends : p.left ≡ at + 1 + length (preorder v)
  pub behind : drop p.right ns ≡ after hs

-- Let of a value: the body is next to be walked.
pub record FirstRedex (ns : List Node) (rs : List Quadword) (p : Place) (n : Node) (v u : Tree) (hs : List Hole) (at : ℕ)
    : Type 0 where
  pub hole : AtHole ns rs p (first n u) hs at
  pub value_at_lem : Stands ns (at + 1) (preorder v)
  pub ends : p.left ≡ at + 1 + length (preorder v)
  pub body_at : Stands ns p.right (preorder u)
  pub body_inside : p.right + length (preorder u) ≤ length ns
  pub behind : drop (p.right + length (preorder u)) ns ≡ after hs

-- Application or apply of a value to a value, or the value at the end of an open box with its lift: two trees stand behind the
-- node, and the stack_entry names the place `start` of the second.
pub record SecondRedex (ns : List Node) (rs : List Quadword) (p : Place) (h : Hole) (u v : Tree) (hs : List Hole) (at start : ℕ)
    : Type 0 where
  pub hole : AtHole ns rs p h hs at
  pub first_at : Stands ns (at + 1) (preorder u)
  pub start_is : start ≡ at + 1 + length (preorder u)
  pub second_at : Stands ns start (preorder v)
  pub ends : p.left ≡ start + length (preorder v)
  pub behind : drop p.right ns ≡ after hs

node_for : (h : Hole) (i : ℕ) → stack_node (entry_for h i) ≡ i
node_for (only n) i = refl
node_for (first n u) i = refl
node_for (second n v) i = refl
node_for (opened n b) i = refl

module _ (ns : List Node) (rs : List Quadword) (p : Place) (hs : List Hole) where
  pub at_hole : (h : Hole) (v : Tree) (at : ℕ)
      → Holds ns rs p (returning v (h ∷ hs))
      → at ≡ stack_node (quadword_at rs (p.depth - 1))
      → AtHole ns rs p h hs at
  at_hole h v at m e =
      let there : at ≡ length (before hs)
      = e ∙ ap stack_node (top_entry rs p.depth h hs m.stacked) ∙ node_for h (length (before hs)) in
      let whole : take p.left ns ≡ before hs ++ (nodes_before h ++ preorder v)
      = m.buffer.front ∙ append_assoc (before hs) (nodes_before h) (preorder v) in
      let under : at < p.left
      = omega (
        arith,
        front_length m.buffer,
        length-append (before hs ++ nodes_before h) (preorder v),
        length-append (before hs) (nodes_before h),
        one_before h,
      ) in
      record {
        deep = m.stacked.deep;
        top_is = top_entry rs p.depth h hs m.stacked;
        at_is = there;
        node_is = ap (node_at ns) there ∙ top_node h hs (preorder v) m.buffer;
        below =
            sym (take-take at p.left ns (omega arith))
            ∙ ap (take at) whole
            ∙ take_at (before hs) (nodes_before h ++ preorder v) at (sym there);
        under_left = under;
        stack_below = pop_entry rs p.depth h hs m.stacked;
      }

  -- Behind the hole's node stand the trees before the place of the value, and the value.
  front_stands : (h : Hole) (v : Tree) (at : ℕ) (n : Node) (xs : List Node)
      → Holds ns rs p (returning v (h ∷ hs))
      → at ≡ length (before hs)
      → nodes_before h ≡ n ∷ xs
      → Stands ns (at + 1) xs × Stands ns (at + 1 + length xs) (preorder v)
      × (p.left ≡ at + 1 + length xs + length (preorder v))
  front_stands h v at n xs m e e' =
      let ys = xs ++ preorder v in
      let whole : take p.left ns ≡ before hs ++ ((n ∷ ys) ++ [])
      = m.buffer.front
      ∙ append_assoc (before hs) (nodes_before h) (preorder v)
      ∙ ap (λ t. before hs ++ (t ++ preorder v)) e'
      ∙ ap (λ t. before hs ++ t) (sym (append-nil (n ∷ ys))) in
      let all : Stands ns at (n ∷ ys)
      = subst (λ i. Stands ns i (n ∷ ys)) (sym e) (stands_within ns p.left (before hs) (n ∷ ys) [] whole) in
      let behind : Stands ns (at + 1) ys = stands_right ns at (n ∷ []) ys all in (
        stands_left ns (at + 1) xs (preorder v) behind,
        stands_right ns (at + 1) xs (preorder v) behind,
        omega (
          arith,
          front_length m.buffer,
          length-append (before hs ++ nodes_before h) (preorder v),
          length-append (before hs) (nodes_before h),
          ap length e',
        ),
      )

  pub only_redex : (n : Node) (v : Tree) (at : ℕ)
      → Holds ns rs p (returning v (only n ∷ hs))
      → at ≡ stack_node (quadword_at rs (p.depth - 1))
      → OnlyRedex ns rs p n v hs at
  only_redex n v at m e =
      let h = at_hole (only n) v at m e in
      let f = front_stands (only n) v at n [] m h.at_is refl in
      let none : at + 1 + 0 ≡ at + 1 = omega arith in
      record {
        hole = h;
        value_at_lem = subst (λ i. Stands ns i (preorder v)) none f.1;
        ends = omega (arith, f.2);
        behind = m.buffer.back;
      }

  pub first_redex : (n : Node) (v u : Tree) (at : ℕ)
      → Holds ns rs p (returning v (first n u ∷ hs))
      → at ≡ stack_node (quadword_at rs (p.depth - 1))
      → FirstRedex ns rs p n v u hs at
  first_redex n v u at m e =
      let h = at_hole (first n u) v at m e in
      let f = front_stands (first n u) v at n [] m h.at_is refl in
      let none : at + 1 + 0 ≡ at + 1 = omega arith in
      record {
        hole = h;
        value_at_lem = subst (λ i. Stands ns i (preorder v)) none f.1;
        ends = omega (arith, f.2);
        body_at = stands_first ns p.right (preorder u) (after hs) m.buffer.back;
        body_inside = omega (arith, back_length m.buffer, length-append (preorder u) (after hs));
        behind =
            sym (drop-drop (length (preorder u)) p.right ns)
            ∙ ap (drop (length (preorder u))) m.buffer.back
            ∙ drop_at (preorder u) (after hs) (length (preorder u)) refl;
      }

  -- A hole whose node has a part behind it that is walked: a value that is a first part, or the part of an open box.
  part_redex : (h : Hole) (n : Node) (b v : Tree) (at start : ℕ)
      → nodes_before h ≡ n ∷ preorder b
      → after (h ∷ hs) ≡ after hs
      → stack_start (entry_for h (length (before hs))) ≡ length (before hs) + suc (length (preorder b))
      → Holds ns rs p (returning v (h ∷ hs))
      → at ≡ stack_node (quadword_at rs (p.depth - 1))
      → start ≡ stack_start (quadword_at rs (p.depth - 1))
      → SecondRedex ns rs p h b v hs at start
  part_redex h n b v at start walked rest entry m e e' =
      let o = at_hole h v at m e in
      let f = front_stands h v at n (preorder b) m o.at_is walked in
      let begin : start ≡ at + 1 + length (preorder b)
      = e' ∙ ap stack_start (top_entry rs p.depth h hs m.stacked) ∙ entry ∙ omega (arith, o.at_is) in
      record {
        hole = o;
        first_at = f.0;
        start_is = begin;
        second_at = subst (λ i. Stands ns i (preorder v)) (sym begin) f.1;
        ends = omega (arith, f.2);
        behind = m.buffer.back ∙ rest;
      }

  pub second_redex : (n : Node) (u v : Tree) (at start : ℕ)
      → Holds ns rs p (returning v (second n u ∷ hs))
      → at ≡ stack_node (quadword_at rs (p.depth - 1))
      → start ≡ stack_start (quadword_at rs (p.depth - 1))
      → SecondRedex ns rs p (second n u) u v hs at start
  second_redex n u v at start = part_redex (second n u) n u v at start refl refl refl

  -- A first part that is a leaf is the node behind that of the redex.
  pub first_leaf : (n l : Node) (v : Tree) (at : ℕ)
      → Holds ns rs p (returning v (second n (leaf l) ∷ hs))
      → at ≡ stack_node (quadword_at rs (p.depth - 1))
      → node_at ns (at + 1) ≡ l
  first_leaf n l v at m e =
      stands_alone ns (at + 1) l no_node
      (second_redex n (leaf l) v at (stack_start (quadword_at rs (p.depth - 1))) m e refl).first_at

  pub exit_redex : (n : Node) (b v : Tree) (at start : ℕ)
      → Holds ns rs p (returning v (opened n b ∷ hs))
      → at ≡ stack_node (quadword_at rs (p.depth - 1))
      → start ≡ stack_start (quadword_at rs (p.depth - 1))
      → SecondRedex ns rs p (opened n b) b v hs at start
  exit_redex n b v at start = part_redex (opened n b) n b v at start refl refl refl

-- After a step: the redex is out of the walked nodes, and the reduct t stands before what is still to be walked. The nodes
-- below the redex are as before, and so is the stack.
module _ (ns : List Node) (rs : List Quadword) (p : Place) (h : Hole) (hs : List Hole) (v t : Tree) (at r : ℕ) where
  pub contracted : (ns' : List Node)
      → Holds ns rs p (returning v (h ∷ hs))
      → at ≡ stack_node (quadword_at rs (p.depth - 1))
      → length ns' ≡ length ns
      → take at ns' ≡ take at ns
      → drop r ns' ≡ preorder t ++ after hs
      → at ≤ r
      → r ≤ length ns
      → at + (length ns - r) ≤ most_nodes
      → Holds ns' rs (record { left = at; right = r; depth = p.depth - 1; returning = false }) (evaluating t hs)
  contracted ns' m q same e e' le inside few =
      let a = at_hole ns rs p hs h v at m q in
      record {
        buffer = record { front = e ∙ a.below; back = e'; apart = le; inside = omega arith };
        stacked = a.stack_below;
        mode = refl;
        few = omega (arith, a.at_is, ap length e', length-drop r ns');
        room = m.room;
        wide = omega (arith, m.wide);
      }

  -- The same where the reduct is written in front of what is still to be walked.
  pub reduct_written : Holds ns rs p (returning v (h ∷ hs))
      → at ≡ stack_node (quadword_at rs (p.depth - 1))
      → drop (r + length (preorder t)) ns ≡ after hs
      → at ≤ r
      → r + length (preorder t) ≤ length ns
      → at + (length ns - r) ≤ most_nodes
      → Holds
      (over ns r (preorder t))
      rs
      (record { left = at; right = r; depth = p.depth - 1; returning = false })
      (evaluating t hs)
  reduct_written m q e le inside few =
      contracted (over ns r (preorder t)) m q
      (length_over ns r (preorder t) inside)
      (take_over ns r (preorder t) at (omega arith) le)
      (written ns r (preorder t) (omega arith) ∙ ap (λ l. preorder t ++ l) e)
      le
      (omega arith)
      few

-- After box entry: the box waits with its value v, a lift, and the tree t of the frame above is next to be walked. The walked
-- nodes are as before; the stack_entry of the box says that it is open, and where the frame above starts.
pub entered : (ns ns' : List Node) (rs rs' : List Quadword) (p : Place) (n : Node) (v t : Tree) (hs : List Hole) (at r : ℕ)
    → Holds ns rs p (returning v (only n ∷ hs))
    → at ≡ stack_node (quadword_at rs (p.depth - 1))
    → rs' ≡ set rs (p.depth - 1) (stack_entry 3 (at % 65536) (p.left % 65536))
    → length ns' ≡ length ns
    → take p.left ns' ≡ take p.left ns
    → drop r ns' ≡ preorder t ++ after hs
    → p.left ≤ r
    → r ≤ length ns
    → p.left + (length ns - r) ≤ most_nodes
    → Holds
    ns'
    rs'
    (record { left = p.left; right = r; depth = p.depth; returning = false })
    (evaluating t (opened n v ∷ hs))
entered ns ns' rs rs' p n v t hs at r m q e same e' e'' le inside few =
    let a = at_hole ns rs p hs (only n) v at m q in
    let there : at ≡ length (before hs) = a.at_is in
    let whole : before (only n ∷ hs) ++ preorder v ≡ before (opened n v ∷ hs)
    = append_assoc (before hs) (n ∷ []) (preorder v) in
    let long : length (before (opened n v ∷ hs)) ≡ p.left = ap length (sym whole) ∙ front_length m.buffer in
    let sum : length (before (opened n v ∷ hs)) ≡ length (before hs) + suc (length (preorder v))
    = length-append (before hs) (n ∷ preorder v) in
    let small : p.left ≤ most_nodes = omega arith in
    let place : at % 65536 ≡ length (before hs) = omega arith in
    let start : p.left % 65536 ≡ length (before hs) + suc (length (preorder v)) = omega arith in
    let top = stack_entry 3 (at % 65536) (p.left % 65536) in
    rw e
    record {
      buffer = record { front = e' ∙ m.buffer.front ∙ whole; back = e''; apart = le; inside = omega arith };
      stacked =
          replace_entry rs p.depth (only n) (opened n v) hs top m.stacked
          (omega (arith, m.room, holes_few hs, a.deep))
          (ap (λ j. stack_entry 3 j (p.left % 65536)) place ∙ ap (stack_entry 3 (length (before hs))) start);
      mode = refl;
      few = omega (arith, ap length e'', length-drop r ns');
      room = omega (arith, m.room, length-set rs (p.depth - 1) top);
      wide = omega (arith, m.wide);
    }

-- Where a tree stands, it takes as many nodes as it has.
pub stands_span : (positions closed : ℕ) (ns : List Node) (i : ℕ) (t : Tree)
    → WellKinded positions closed t
    → Stands ns i (preorder t)
    → span (drop i ns) 1 ≡ length (preorder t)
stands_span positions closed ns i t h s =
    ap (λ l. span l 1) (stands_rest ns i (preorder t) s)
    ∙ span_one_tree positions closed t (drop (i + length (preorder t)) ns) h

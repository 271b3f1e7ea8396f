-- The walk keeps every frame's tree and only moves nodes from right to left; it ends, and it stops where a step
-- happens.
use Rattle.std.specs.Prelude.{ℕ, zero, suc, ◌≤◌, ◌<◌, ◌≡◌, refl, ◌&&◌, List, [], ◌∷◌, ◌++◌, T as Truth, length}
use Rattle.std.proofs.Common.{arith, sym, ◌∙◌, ap, subst, append_assoc, append-nil, length-append}
use Rattle.rules.proofs.Laws.Booleans.{and_both}
use Rattle.machine_terms.specs.Trees.{Node, kind, Tree, leaf, one, two, preorder, LeafKind, a_variable, a_label}
use Rattle.machine_terms.specs.Trees.{a_gate, a_constant, leaf_kind, OneKind, an_abstraction, a_lift, a_force, a_box}
use Rattle.machine_terms.specs.Trees.{one_kind, TwoKind, an_application, a_pair, a_let, an_apply, two_kind, leaf_value}
use Rattle.machine_terms.specs.Trees.{one_value, two_value, value_tree, a_unit_value}
use Rattle.machine_terms.specs.Holes.{Hole, only, first, second, opened, after, frame_tree}
use Rattle.machine_terms.specs.Holes.{trees_below, open_boxes, waits, goes_right}
use Rattle.machine_terms.specs.Walks.{Walk, evaluating, returning, Stop, Move, goes_on, stops, move_leaf, move_one}
use Rattle.machine_terms.specs.Walks.{stop_one, move_first, move_second, move, focus, holes, left, right, moves_left}
use Rattle.machine_terms.specs.Walks.{move_on, moves, walk, WalkFits, Stopped, stopped_application, stopped_let}
use Rattle.machine_terms.specs.Walks.{stopped_force, stopped_box, stopped_apply, stopped_exit, stopped_end}
use Rattle.machine_terms.specs.Walks.{stopped_variable}

-- What a move keeps: the innermost frame's tree, the frames below, the number of open boxes. And what it does: nodes
-- move from the front of right to the end of left.
pub record Kept (w w' : Walk) : Type 0 where
  pub frame_kept : frame_tree (holes w') (focus w') ≡ frame_tree (holes w) (focus w)
  pub below_kept : trees_below (holes w') ≡ trees_below (holes w)
  pub boxes_kept : open_boxes (holes w') ≡ open_boxes (holes w)
  pub moved : List Node
  pub moved_from : right w ≡ moved ++ right w'
  pub moved_to : left w' ≡ left w ++ moved

kept_by : {w w' : Walk} (moved : List Node)
    → frame_tree (holes w') (focus w') ≡ frame_tree (holes w) (focus w)
    → trees_below (holes w') ≡ trees_below (holes w)
    → open_boxes (holes w') ≡ open_boxes (holes w)
    → right w ≡ moved ++ right w'
    → left w' ≡ left w ++ moved
    → Kept w w'
kept_by moved frame below boxes from to =
    record {
      frame_kept = frame;
      below_kept = below;
      boxes_kept = boxes;
      moved = moved;
      moved_from = from;
      moved_to = to;
    }

-- A property of the state after a move, where the walk goes on.
abbrev Onward : (Walk → Type 0) → Move → Type 0
Onward P (goes_on w) = P w
Onward P (stops s) = Unit {0}

leaf_keeps : (c : LeafKind) (n : Node) (hs : List Hole) → Onward (Kept (evaluating (leaf n) hs)) (move_leaf c n hs)
leaf_keeps a_variable n hs = tt
leaf_keeps a_label n hs =
    kept_by (n ∷ []) refl refl refl refl refl
leaf_keeps a_gate n hs =
    kept_by (n ∷ []) refl refl refl refl refl
leaf_keeps a_unit_value n hs =
    kept_by (n ∷ []) refl refl refl refl refl
leaf_keeps a_constant n hs =
    kept_by (n ∷ []) refl refl refl refl refl

one_keeps : (c : OneKind) (n : Node) (t : Tree) (hs : List Hole)
    → Onward (Kept (evaluating (one n t) hs)) (move_one c n t hs)
one_keeps an_abstraction n t hs =
    kept_by (n ∷ preorder t) refl refl refl refl refl
one_keeps a_lift n t hs =
    kept_by (n ∷ preorder t) refl refl refl refl refl
one_keeps a_force n t hs =
    kept_by (n ∷ []) refl refl refl refl refl
one_keeps a_box n t hs =
    kept_by (n ∷ []) refl refl refl refl refl

first_keeps : (c : TwoKind) (n : Node) (v u : Tree) (hs : List Hole)
    → Onward (Kept (returning v (first n u ∷ hs))) (move_first c n v u hs)
first_keeps an_application n v u hs =
    kept_by [] refl refl refl refl (simp (append_assoc, append-nil))
first_keeps a_pair n v u hs =
    kept_by [] refl refl refl refl (simp (append_assoc, append-nil))
first_keeps a_let n v u hs = tt
first_keeps an_apply n v u hs =
    kept_by [] refl refl refl refl (simp (append_assoc, append-nil))

second_keeps : (c : TwoKind) (n : Node) (v w : Tree) (hs : List Hole)
    → Onward (Kept (returning w (second n v ∷ hs))) (move_second c n v w hs)
second_keeps an_application n v w hs = tt
second_keeps a_pair n v w hs =
    kept_by [] refl refl refl refl (simp (append_assoc, append-nil))
second_keeps a_let n v w hs = tt
second_keeps an_apply n v w hs = tt

move_kept : (w : Walk) → Onward (Kept w) (move w)
move_kept (evaluating (leaf n) hs) = leaf_keeps (leaf_kind (kind n)) n hs
move_kept (evaluating (one n t) hs) = one_keeps (one_kind (kind n)) n t hs
move_kept (evaluating (two n t u) hs) =
    kept_by (n ∷ []) refl refl refl (simp append_assoc) refl
move_kept (returning v []) = tt
move_kept (returning v (only n ∷ hs)) = tt
move_kept (returning v (first n u ∷ hs)) = first_keeps (two_kind (kind n)) n v u hs
move_kept (returning v (second n u ∷ hs)) = second_keeps (two_kind (kind n)) n u v hs
move_kept (returning v (opened n b ∷ hs)) = tt

-- A move keeps every frame's tree, and moves nodes from right to left.
pub move_keeps : (w w' : Walk) → move w ≡ goes_on w' → Kept w w'
move_keeps w w' e = subst (Onward (Kept w)) e (move_kept w)

module _ (positions closed : ℕ) where
  abbrev Fits : Walk → Type 0
  Fits = WalkFits positions closed

  leaf_fits : (n : Node) (hs : List Hole) (c : LeafKind)
      → leaf_kind (kind n) ≡ c
      → Fits (evaluating (leaf n) hs)
      → Onward Fits (move_leaf c n hs)
  leaf_fits n hs a_variable e h = tt
  leaf_fits n hs a_label e h = (h.0, subst (λ c. Truth (leaf_value c)) (sym e) tt, h.1)
  leaf_fits n hs a_gate e h = (h.0, subst (λ c. Truth (leaf_value c)) (sym e) tt, h.1)
  leaf_fits n hs a_unit_value e h = (h.0, subst (λ c. Truth (leaf_value c)) (sym e) tt, h.1)
  leaf_fits n hs a_constant e h = (h.0, subst (λ c. Truth (leaf_value c)) (sym e) tt, h.1)

  one_fits : (n : Node) (t : Tree) (hs : List Hole) (c : OneKind)
      → one_kind (kind n) ≡ c
      → Fits (evaluating (one n t) hs)
      → Onward Fits (move_one c n t hs)
  one_fits n t hs an_abstraction e h = (h.0, subst (λ c. Truth (one_value c)) (sym e) tt, h.1)
  one_fits n t hs a_lift e h = (h.0, subst (λ c. Truth (one_value c)) (sym e) tt, h.1)
  one_fits n t hs a_force e h = (h.0.1, ((h.0.0, subst (λ c. Truth (waits c)) (sym e) tt), h.1))
  one_fits n t hs a_box e h = (h.0.1, ((h.0.0, subst (λ c. Truth (waits c)) (sym e) tt), h.1))

  first_fits : (n : Node) (v u : Tree) (hs : List Hole) (c : TwoKind)
      → two_kind (kind n) ≡ c
      → Fits (returning v (first n u ∷ hs))
      → Onward Fits (move_first c n v u hs)
  first_fits n v u hs an_application e h =
      (h.2.0.1, ((h.2.0.0, subst (λ c. Truth (goes_right c)) (sym e) tt, h.0, h.1), h.2.1))
  first_fits n v u hs a_pair e h =
      (h.2.0.1, ((h.2.0.0, subst (λ c. Truth (goes_right c)) (sym e) tt, h.0, h.1), h.2.1))
  first_fits n v u hs a_let e h = tt
  first_fits n v u hs an_apply e h =
      (h.2.0.1, ((h.2.0.0, subst (λ c. Truth (goes_right c)) (sym e) tt, h.0, h.1), h.2.1))

  second_fits : (n : Node) (v w : Tree) (hs : List Hole) (c : TwoKind)
      → two_kind (kind n) ≡ c
      → Fits (returning w (second n v ∷ hs))
      → Onward Fits (move_second c n v w hs)
  second_fits n v w hs an_application e h = tt
  second_fits n v w hs a_pair e h = (
    (h.2.0.0, h.2.0.2, h.0),
    subst (λ c. Truth (two_value c (value_tree v && value_tree w))) (sym e)
        (and_both (value_tree v) (value_tree w) h.2.0.3 h.1),
    h.2.1,
  )
  second_fits n v w hs a_let e h = tt
  second_fits n v w hs an_apply e h = tt

  move_onward_fits : (w : Walk) → Fits w → Onward Fits (move w)
  move_onward_fits (evaluating (leaf n) hs) h = leaf_fits n hs (leaf_kind (kind n)) refl h
  move_onward_fits (evaluating (one n t) hs) h = one_fits n t hs (one_kind (kind n)) refl h
  move_onward_fits (evaluating (two n t u) hs) h = (h.0.1, ((h.0.0, h.0.2), h.1))
  move_onward_fits (returning v []) h = tt
  move_onward_fits (returning v (only n ∷ hs)) h = tt
  move_onward_fits (returning v (first n u ∷ hs)) h = first_fits n v u hs (two_kind (kind n)) refl h
  move_onward_fits (returning v (second n u ∷ hs)) h = second_fits n u v hs (two_kind (kind n)) refl h
  move_onward_fits (returning v (opened n b ∷ hs)) h = tt

  -- A move keeps the walk well-formed.
  pub move_fits : (w w' : Walk)
      → move w ≡ goes_on w'
      → WalkFits positions closed w
      → WalkFits positions closed w'
  move_fits w w' e h = subst (Onward Fits) e (move_onward_fits w h)

leaf_fewer : (c : LeafKind) (n : Node) (hs : List Hole)
    → Onward (λ w. moves_left w < moves_left (evaluating (leaf n) hs)) (move_leaf c n hs)
leaf_fewer a_variable n hs = tt
leaf_fewer a_label n hs = omega arith
leaf_fewer a_gate n hs = omega arith
leaf_fewer a_unit_value n hs = omega arith
leaf_fewer a_constant n hs = omega arith

one_fewer : (c : OneKind) (n : Node) (t : Tree) (hs : List Hole)
    → Onward (λ w. moves_left w < moves_left (evaluating (one n t) hs)) (move_one c n t hs)
one_fewer an_abstraction n t hs = omega (arith, length-append (preorder t) (after hs))
one_fewer a_lift n t hs = omega (arith, length-append (preorder t) (after hs))
one_fewer a_force n t hs = omega arith
one_fewer a_box n t hs = omega arith

first_fewer : (c : TwoKind) (n : Node) (v u : Tree) (hs : List Hole)
    → Onward (λ w. moves_left w < moves_left (returning v (first n u ∷ hs))) (move_first c n v u hs)
first_fewer an_application n v u hs = omega arith
first_fewer a_pair n v u hs = omega arith
first_fewer a_let n v u hs = tt
first_fewer an_apply n v u hs = omega arith

second_fewer : (c : TwoKind) (n : Node) (v w : Tree) (hs : List Hole)
    → Onward (λ x. moves_left x < moves_left (returning w (second n v ∷ hs))) (move_second c n v w hs)
second_fewer an_application n v w hs = tt
second_fewer a_pair n v w hs = omega arith
second_fewer a_let n v w hs = tt
second_fewer an_apply n v w hs = tt

two_fewer : (t u : List Node) (r : List Node) → length (t ++ (u ++ r)) ≡ length ((t ++ u) ++ r)
two_fewer t u r = ap length (sym (append_assoc t u r))

move_onward_fewer : (w : Walk) → Onward (λ x. moves_left x < moves_left w) (move w)
move_onward_fewer (evaluating (leaf n) hs) = leaf_fewer (leaf_kind (kind n)) n hs
move_onward_fewer (evaluating (one n t) hs) = one_fewer (one_kind (kind n)) n t hs
move_onward_fewer (evaluating (two n t u) hs) = omega (arith, two_fewer (preorder t) (preorder u) (after hs))
move_onward_fewer (returning v []) = tt
move_onward_fewer (returning v (only n ∷ hs)) = tt
move_onward_fewer (returning v (first n u ∷ hs)) = first_fewer (two_kind (kind n)) n v u hs
move_onward_fewer (returning v (second n u ∷ hs)) = second_fewer (two_kind (kind n)) n u v hs
move_onward_fewer (returning v (opened n b ∷ hs)) = tt

-- A move leaves fewer moves.
pub move_fewer : (w w' : Walk) → move w ≡ goes_on w' → moves_left w' < moves_left w
move_fewer w w' e = subst (Onward (λ x. moves_left x < moves_left w)) e (move_onward_fewer w)

abbrev Ends : Walk → Type 0
Ends w = (s : Stop) × (move w ≡ stops s)

no_moves_left : (w : Walk) → moves_left w ≤ zero → (r : Move) → move w ≡ r → Ends w
no_moves_left w h (goes_on w') e = let fewer = move_fewer w w' e in absurd (omega arith)
no_moves_left w h (stops s) e = (s, e)

more_moves : (n : ℕ) (w : Walk)
    → moves_left w ≤ suc n
    → ((w' : Walk) → moves_left w' ≤ n → Ends (moves n w'))
    → (r : Move)
    → move w ≡ r
    → Ends (move_on r w (moves n))
more_moves n w h more (goes_on w') e = let fewer = move_fewer w w' e in more w' (omega arith)
more_moves n w h more (stops s) e = (s, e)

moves_end : (n : ℕ) (w : Walk) → moves_left w ≤ n → Ends (moves n w)
moves_end zero w h = no_moves_left w h (move w) refl
moves_end (suc n) w h = more_moves n w h (moves_end n) (move w) refl

-- The walk comes to its stop.
pub walk_ends : (w : Walk) → (s : Stop) × (move (walk w) ≡ stops s)
walk_ends w = moves_end (moves_left w) w (omega arith)

stopped_moves : (n : ℕ) (w : Walk) (s : Stop) → move w ≡ stops s → moves n w ≡ w
stopped_moves zero w s e = refl
stopped_moves (suc n) w s e = ap (λ r. move_on r w (moves n)) e

onward_moves : (n : ℕ) (w w' : Walk) → move w ≡ goes_on w' → moves (suc n) w ≡ moves n w'
onward_moves n w w' e = ap (λ r. move_on r w (moves n)) e

same_stop : (n m : ℕ) (w : Walk) (r : Move)
    → move w ≡ r
    → ((w' : Walk) → move w ≡ goes_on w' → Ends (moves n w') → Ends (moves m w') → moves n w' ≡ moves m w')
    → Ends (move_on r w (moves n))
    → Ends (move_on r w (moves m))
    → move_on r w (moves n) ≡ move_on r w (moves m)
same_stop n m w (goes_on w') e more p q = more w' e p q
same_stop n m w (stops s) e more p q = refl

-- A walk that has ended goes no further.
ended_moves : (n : ℕ) (w : Walk) → Ends w → moves n w ≡ w
ended_moves n w h = stopped_moves n w h.0 h.1

moves_alike : (n m : ℕ) (w : Walk) → Ends (moves n w) → Ends (moves m w) → moves n w ≡ moves m w
moves_alike zero m w p q = sym (ended_moves m w p)
moves_alike (suc n) zero w p q = ended_moves (suc n) w q
moves_alike (suc n) (suc m) w p q = same_stop n m w (move w) refl (λ w' e. moves_alike n m w') p q

-- One move does not change where the walk ends.
pub walk_onward : (w w' : Walk) → move w ≡ goes_on w' → walk w' ≡ walk w
walk_onward w w' e =
    sym (onward_moves (moves_left w') w w' e)
    ∙ moves_alike (suc (moves_left w')) (moves_left w) w
    (subst Ends (sym (onward_moves (moves_left w') w w' e)) (walk_ends w'))
    (walk_ends w)

-- A walk that has stopped is where it ends.
pub walk_stopped : (w : Walk) (s : Stop) → move w ≡ stops s → walk w ≡ w
walk_stopped w s e = stopped_moves (moves_left w) w s e

kept_refl : (w : Walk) → Kept w w
kept_refl w =
    kept_by [] refl refl refl refl (sym (append-nil (left w)))

kept_trans : (w w' w'' : Walk) → Kept w w' → Kept w' w'' → Kept w w''
kept_trans w w' w'' p q =
    record {
      frame_kept = q.frame_kept ∙ p.frame_kept;
      below_kept = q.below_kept ∙ p.below_kept;
      boxes_kept = q.boxes_kept ∙ p.boxes_kept;
      moved = p.moved ++ q.moved;
      moved_from =
          p.moved_from ∙ ap (λ r. p.moved ++ r) q.moved_from ∙ sym (append_assoc p.moved q.moved (right w''));
      moved_to =
          q.moved_to ∙ ap (λ l. l ++ q.moved) p.moved_to ∙ append_assoc (left w) p.moved q.moved;
    }

-- The nodes of all frames stay in their order.
pub nodes_kept : (w w' : Walk) → Kept w w' → left w' ++ right w' ≡ left w ++ right w
nodes_kept w w' k =
    ap (λ l. l ++ right w') k.moved_to
    ∙ append_assoc (left w) k.moved (right w')
    ∙ ap (λ r. left w ++ r) (sym k.moved_from)

move_on_keeps : (n : ℕ) (w : Walk) (r : Move)
    → move w ≡ r
    → ((w' : Walk) → Kept w' (moves n w'))
    → Kept w (move_on r w (moves n))
move_on_keeps n w (goes_on w') e more = kept_trans w w' (moves n w') (move_keeps w w' e) (more w')
move_on_keeps n w (stops s) e more = kept_refl w

-- What each move keeps, all moves keep.
pub moves_keep : (n : ℕ) (w : Walk) → Kept w (moves n w)
moves_keep zero w = kept_refl w
moves_keep (suc n) w = move_on_keeps n w (move w) refl (moves_keep n)

move_on_fits : (positions closed n : ℕ) (w : Walk) (r : Move)
    → move w ≡ r
    → ((w' : Walk) → WalkFits positions closed w' → WalkFits positions closed (moves n w'))
    → WalkFits positions closed w
    → WalkFits positions closed (move_on r w (moves n))
move_on_fits positions closed n w (goes_on w') e more h = more w' (move_fits positions closed w w' e h)
move_on_fits positions closed n w (stops s) e more h = h

-- Moves keep the walk well-formed.
pub moves_fit : (positions closed n : ℕ) (w : Walk)
    → WalkFits positions closed w
    → WalkFits positions closed (moves n w)
moves_fit positions closed zero w h = h
moves_fit positions closed (suc n) w h =
    move_on_fits positions closed n w (move w) refl (moves_fit positions closed n) h

abbrev StoppedThere : Walk → Move → Type 0
StoppedThere w (goes_on w') = Unit {0}
StoppedThere w (stops s) = Stopped w s

leaf_stopped : (n : Node) (hs : List Hole) (c : LeafKind)
    → leaf_kind (kind n) ≡ c
    → StoppedThere (evaluating (leaf n) hs) (move_leaf c n hs)
leaf_stopped n hs a_variable e = stopped_variable e
leaf_stopped n hs a_label e = tt
leaf_stopped n hs a_gate e = tt
leaf_stopped n hs a_unit_value e = tt
leaf_stopped n hs a_constant e = tt

one_goes_on : (n : Node) (t : Tree) (hs : List Hole) (c : OneKind)
    → StoppedThere (evaluating (one n t) hs) (move_one c n t hs)
one_goes_on n t hs an_abstraction = tt
one_goes_on n t hs a_lift = tt
one_goes_on n t hs a_force = tt
one_goes_on n t hs a_box = tt

only_stopped : (n : Node) (v : Tree) (hs : List Hole) (c : OneKind)
    → one_kind (kind n) ≡ c
    → Truth (waits c)
    → Stopped (returning v (only n ∷ hs)) (stop_one c)
only_stopped n v hs an_abstraction e h = absurd h
only_stopped n v hs a_lift e h = absurd h
only_stopped n v hs a_force e h = stopped_force e
only_stopped n v hs a_box e h = stopped_box e

first_stopped : (n : Node) (v u : Tree) (hs : List Hole) (c : TwoKind)
    → two_kind (kind n) ≡ c
    → StoppedThere (returning v (first n u ∷ hs)) (move_first c n v u hs)
first_stopped n v u hs an_application e = tt
first_stopped n v u hs a_pair e = tt
first_stopped n v u hs a_let e = stopped_let e
first_stopped n v u hs an_apply e = tt

second_stopped : (n : Node) (v w : Tree) (hs : List Hole) (c : TwoKind)
    → two_kind (kind n) ≡ c
    → Truth (goes_right c)
    → StoppedThere (returning w (second n v ∷ hs)) (move_second c n v w hs)
second_stopped n v w hs an_application e h = stopped_application e
second_stopped n v w hs a_pair e h = tt
second_stopped n v w hs a_let e h = absurd h
second_stopped n v w hs an_apply e h = stopped_apply e

stopped_there : (positions closed : ℕ) (w : Walk) → WalkFits positions closed w → StoppedThere w (move w)
stopped_there positions closed (evaluating (leaf n) hs) h = leaf_stopped n hs (leaf_kind (kind n)) refl
stopped_there positions closed (evaluating (one n t) hs) h = one_goes_on n t hs (one_kind (kind n))
stopped_there positions closed (evaluating (two n t u) hs) h = tt
stopped_there positions closed (returning v []) h = stopped_end
stopped_there positions closed (returning v (only n ∷ hs)) h =
    only_stopped n v hs (one_kind (kind n)) refl h.2.0.1
stopped_there positions closed (returning v (first n u ∷ hs)) h = first_stopped n v u hs (two_kind (kind n)) refl
stopped_there positions closed (returning v (second n u ∷ hs)) h =
    second_stopped n u v hs (two_kind (kind n)) refl h.2.0.1
stopped_there positions closed (returning v (opened n b ∷ hs)) h = stopped_exit

-- Where a well-formed walk stops, it has the form of that stop.
pub move_stopped : (positions closed : ℕ) (w : Walk) (s : Stop)
    → WalkFits positions closed w
    → move w ≡ stops s
    → Stopped w s
move_stopped positions closed w s h e = subst (StoppedThere w) e (stopped_there positions closed w h)

-- A walk of the form of a stop does stop there.
pub stopped_move : (w : Walk) (s : Stop) → Stopped w s → move w ≡ stops s
stopped_move w s (stopped_application {n} {f} {v} {hs} e) = ap (λ c. move_second c n f v hs) e
stopped_move w s (stopped_let {n} {v} {u} {hs} e) = ap (λ c. move_first c n v u hs) e
stopped_move w s (stopped_force e) = ap (λ c. stops (stop_one c)) e
stopped_move w s (stopped_box e) = ap (λ c. stops (stop_one c)) e
stopped_move w s (stopped_apply {n} {f} {v} {hs} e) = ap (λ c. move_second c n f v hs) e
stopped_move w s stopped_exit = refl
stopped_move w s stopped_end = refl
stopped_move w s (stopped_variable {n} {hs} e) = ap (λ c. move_leaf c n hs) e

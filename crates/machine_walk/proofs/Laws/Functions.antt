-- Laws of specs/Functions.antt.
use Rattle.std.specs.Prelude.{ℕ, zero, suc, ◌+◌, ◌-◌, ◌%◌, ◌/◌, ◌≤◌, ◌<◌, ◌≡◌, refl, true, false, List, T as Truth, length, set, take, drop}
use Rattle.std.proofs.Common.{arith, sym, ◌∙◌, ap, subst}
use Rattle.rules.specs.Kinds.{pair_kind, let_kind}
use Rattle.machine_terms.specs.Trees.{Node, kind, one_kind, two_kind}
use Rattle.machine_terms.specs.Holes.{waits}
use Rattle.machine_terms.specs.Walks.{Walk, WalkFits, stop_one, move, walk}
use Rattle.machine_terms.proofs.Laws.Walking.{move_fits, walk_onward, walk_stopped}
use Rattle.machine_nodes.specs.Nodes.{nodes_in, node_at}
use Rattle.machine_nodes.proofs.Laws.Nodes.{length_nodes_in}
use Rattle.words.specs.Regions.{over}
use Rattle.machine_nodes.specs.Spans.{span}
use Rattle.machine_nodes.proofs.Laws.Spans.{span_positive}
use Rattle.words.specs.Quadwords.{Quadword, quadword_at}
use Rattle.machine_walk.specs.Stack.{stack_entry, stack_tag, stack_node}
use Rattle.machine_walk.specs.Places.{Holds, stop_of, MovedTo, Moves, Walks}
use Rattle.machine_walk.specs.Heads.{head_of}
use Rattle.machine_walk.specs.Moving.{mode_number, moves_from, Falls, stop_two}
use Rattle.machine_walk.proofs.Laws.Moving.{Tagged, Evaluated, tagged, evaluated, value_onward, one_onward, two_onward}
use Rattle.machine_walk.proofs.Laws.Moving.{neither_stops, behind_gap, entry_there, end_stops, only_stops, exit_stops}
use Rattle.machine_walk.proofs.Laws.Moving.{let_stops, first_onward, pair_onward, second_stops}
use Rattle.machine_walk.specs.declared.Place.{Place}
use Rattle.machine_walk.specs.declared.Head.{Head}
use Rattle.machine_walk.specs.declared.Head.TheVariants.{Value, Neither}
use Rattle.std.specs.declared.ops.ControlFlow.{ControlFlow}
use Rattle.std.specs.declared.ops.ControlFlow.TheVariants.{Continue, Break}
use Rattle.machine_walk.specs.declared.Stop.{Stop}
use Rattle.machine_walk.specs.declared.Stop.TheVariants.{AtLet, AtExit, AtEnd, AtVariable}
use Rattle.machine_walk.specs.Functions.{Evaluates, head_of_tag, ReturnsTo, MovesStack}

-- The tree that is evaluated, for every walk that the memory holds.
evaluated_there : {ns : List Node} {p : Place} {h : Head} → Evaluates ns p h
    → (rs : List Quadword) (positions closed : ℕ) (w : Walk) → WalkFits positions closed w → Holds ns rs p w
    → Evaluated positions closed h w
evaluated_there {ns} {p} e rs positions closed w f m =
    subst (λ h. Evaluated positions closed h w) e.head (evaluated ns rs p positions closed w f m e.mode)

module _ (ns ns' : List Node) (p : Place) where
  -- A value is passed; `end` is where it ends.
  pub value_moves : (end : ℕ)
      → Evaluates ns p Value
      → end ≡ p.right + span (drop p.right ns) 1
      → ns' ≡ over ns p.left (take (end - p.right) (drop p.right ns))
      → (rs : List Quadword)
      → Moves ns rs ns' rs p
      (Continue (record { left = p.left + (end - p.right); right = end; depth = p.depth; returning = true }))
  value_moves end e q q' rs positions closed w f m =
      let r = Continue (record { left = p.left + (end - p.right); right = end; depth = p.depth; returning = true }) in
      subst (λ l. MovedTo l rs p w r) (sym q')
      (value_onward ns rs p positions closed (end - p.right) end w (evaluated_there e rs positions closed w f m) m
      (omega arith)
      (omega arith))

  pub value_falls : (end : ℕ)
      → Evaluates ns p Value
      → end ≡ p.right + span (drop p.right ns) 1
      → Falls (length ns) p
      (Continue (record { left = p.left + (end - p.right); right = end; depth = p.depth; returning = true }))
  value_falls end e q = omega (arith, span_positive ns p.right e.inside, ap mode_number e.mode)

  -- A node is opened.
  pub open_moves : (tag : ℕ) (rs rs' : List Quadword)
      → tag < 2
      → Evaluates ns p (head_of_tag tag)
      → ns' ≡ over ns p.left (take 1 (drop p.right ns))
      → rs' ≡ set rs p.depth (stack_entry (tag % 65536) (p.left % 65536) 0)
      → Moves ns rs ns' rs' p
      (Continue (record { left = p.left + 1; right = p.right + 1; depth = p.depth + 1; returning = false }))
  open_moves zero rs rs' b e q q' positions closed w f m =
      let r = Continue (record { left = p.left + 1; right = p.right + 1; depth = p.depth + 1; returning = false }) in
      subst (λ l. MovedTo l rs' p w r) (sym q)
      (one_onward ns rs p positions closed rs' w (evaluated_there e rs positions closed w f m) m q')
  open_moves (suc zero) rs rs' b e q q' positions closed w f m =
      let r = Continue (record { left = p.left + 1; right = p.right + 1; depth = p.depth + 1; returning = false }) in
      subst (λ l. MovedTo l rs' p w r) (sym q)
      (two_onward ns rs p positions closed rs' w (evaluated_there e rs positions closed w f m) m q')
  open_moves (suc (suc tag)) rs rs' b e q q' positions closed w f m = absurd (omega arith)

  pub open_falls : (h : Head)
      → Evaluates ns p h
      → Falls (length ns) p
      (Continue (record { left = p.left + 1; right = p.right + 1; depth = p.depth + 1; returning = false }))
  open_falls h e = omega (arith, e.inside, ap mode_number e.mode)

module _ (ns : List Node) (rs : List Quadword) (p : Place) where
  pub neither_moves : Evaluates ns p Neither → Moves ns rs ns rs p (Break AtVariable)
  neither_moves e positions closed w f m =
      neither_stops ns rs p positions closed w (evaluated_there e rs positions closed w f m) m

  -- Where there is no node to evaluate, or no stack_entry for its hole, the memory holds no walk.
  pub no_node_there : p.returning ≡ false → length ns ≤ p.right → (r : ControlFlow Stop Place) → Moves ns rs ns rs p r
  no_node_there e h r positions closed w f m = absurd (omega (arith, behind_gap ns rs p w m e))

  pub no_gap_there : p.returning ≡ false → p.right < p.left → (r : ControlFlow Stop Place) → Moves ns rs ns rs p r
  no_gap_there e h r positions closed w f m = absurd (omega (arith, behind_gap ns rs p w m e))

  pub no_entry_there : p.returning ≡ false → length rs ≤ p.depth → (r : ControlFlow Stop Place) → Moves ns rs ns rs p r
  no_entry_there e h r positions closed w f m = absurd (omega (arith, entry_there ns rs p w m e))

  -- A value is returned to the outermost frame's end.
  pub end_moves : p.returning ≡ true → p.depth ≡ 0 → Moves ns rs ns rs p (Break AtEnd)
  end_moves e d positions closed w f m = end_stops ns rs p w m e d

-- What is returned to, for every walk that the memory holds.
tagged_there : {rs : List Quadword} {p : Place} {tag at : ℕ} → ReturnsTo rs p tag at
    → (ns : List Node) (w : Walk) → Holds ns rs p w → Tagged ns at tag w
tagged_there {rs} {p} {tag} {at} e ns w m =
    subst (λ t. Tagged ns at t w) e.tag_is
    (subst (λ a. Tagged ns a (stack_tag (quadword_at rs (p.depth - 1))) w) e.at_is
    (tagged ns rs p w m e.mode (λ z. omega (arith, e.deep))))

module _ (p : Place) where
  pub first_falls : p.returning ≡ true
      → (n : ℕ)
      → Falls n p (Continue (record { left = p.left; right = p.right; depth = p.depth; returning = false }))
  first_falls e n = omega (arith, ap mode_number e)

  pub pair_falls : p.returning ≡ true
      → 0 < p.depth
      → (n : ℕ)
      → Falls n p (Continue (record { left = p.left; right = p.right; depth = p.depth - 1; returning = true }))
  pair_falls e d n = omega (arith, ap mode_number e)

module _ (rs : List Quadword) (p : Place) (at k : ℕ) where
  pub only_moves : (s : Stop)
      → ReturnsTo rs p 0 at
      → (Truth (waits (one_kind k)) → stop_of s ≡ stop_one (one_kind k))
      → MovesStack rs rs p at k (Break s)
  only_moves s e q ns q' positions closed w f m =
      only_stops ns rs p positions closed at s w (tagged_there e ns w m) f m
      (subst (λ j. Truth (waits (one_kind j)) → stop_of s ≡ stop_one (one_kind j)) q' q)

  pub let_moves : ReturnsTo rs p 1 at → k ≡ let_kind → MovesStack rs rs p at k (Break AtLet)
  let_moves e q ns q' positions closed w f m = let_stops ns rs p at w (tagged_there e ns w m) m (sym q' ∙ q)

  pub first_moves : (rs' : List Quadword)
      → ReturnsTo rs p 1 at
      → (k ≡ let_kind → ⊥)
      → rs' ≡ set rs (p.depth - 1) (stack_entry 2 (at % 65536) (p.left % 65536))
      → MovesStack rs rs' p at k
      (Continue (record { left = p.left; right = p.right; depth = p.depth; returning = false }))
  first_moves rs' e q q'' ns q' positions closed w f m =
      first_onward ns rs p at rs' w (tagged_there e ns w m) m (λ z. q (q' ∙ z)) q''

  pub pair_moves : ReturnsTo rs p 2 at → k ≡ pair_kind → MovesStack rs rs p at k
      (Continue (record { left = p.left; right = p.right; depth = p.depth - 1; returning = true }))
  pair_moves e q ns q' positions closed w f m = pair_onward ns rs p at w (tagged_there e ns w m) m (sym q' ∙ q)

  pub second_moves : (s : Stop)
      → ReturnsTo rs p 2 at
      → (k ≡ pair_kind → ⊥)
      → stop_of s ≡ stop_two (two_kind k)
      → MovesStack rs rs p at k (Break s)
  second_moves s e h q ns q' positions closed w f m =
      second_stops ns rs p at s w (tagged_there e ns w m) m (λ z. h (q' ∙ z)) (q ∙ ap (λ j. stop_two (two_kind j)) q')

  pub exit_moves : (tag : ℕ)
      → ReturnsTo rs p tag at
      → (tag ≡ 0 → ⊥)
      → (tag ≡ 1 → ⊥)
      → (tag ≡ 2 → ⊥)
      → MovesStack rs rs p at k (Break AtExit)
  exit_moves tag e h0 h1 h2 ns q' positions closed w f m =
      exit_stops ns rs p at tag w (tagged_there e ns w m) h0 h1 h2 m

-- The tree at `right`, by the code's tests.
pub evaluates_by : (m : List ℕ) (p : Place) (k : ℕ) (r h : Head)
    → p.returning ≡ false
    → p.right < length m / 4
    → p.left ≤ p.right
    → k ≡ kind (node_at (nodes_in m) p.right)
    → r ≡ head_of k
    → r ≡ h
    → Evaluates (nodes_in m) p h
evaluates_by m p k r h e i a q q' q'' =
    record {
      apart = a;
      inside = omega (arith, length_nodes_in m);
      mode = e;
      head = ap head_of (sym q) ∙ sym q' ∙ q'';
    }

-- The hole on top, by the code's tests.
pub returns_to : (rs : List Quadword) (p : Place) (t tag at : ℕ)
    → p.returning ≡ true
    → (p.depth ≡ 0 → ⊥)
    → t ≡ stack_tag (quadword_at rs (p.depth - 1))
    → t ≡ tag
    → at ≡ stack_node (quadword_at rs (p.depth - 1))
    → ReturnsTo rs p tag at
returns_to rs p t tag at e d q q' q'' = record { mode = e; deep = omega arith; tag_is = sym q ∙ q'; at_is = sym q'' }

-- Some moves on, the memory holds a walk that ends where w does.
pub record Reached (positions closed : ℕ) (ns : List Node) (rs : List Quadword) (p : Place) (w : Walk) : Type 0 where
  pub reached : Walk
  pub fits : WalkFits positions closed reached
  pub held : Holds ns rs p reached
  pub same : walk reached ≡ walk w

-- The loop over moves, for every walk that the memory holds at its start.
abbrev pub Reaches : List Node → List Quadword → Place → List Node → List Quadword → Place → Type 0
Reaches ns rs p ns' rs' q =
    (positions closed : ℕ) (w : Walk)
    → WalkFits positions closed w
    → Holds ns rs p w
    → Reached positions closed ns' rs' q w

module _ (ns : List Node) (rs : List Quadword) (p : Place) where
  pub reaches_none : Reaches ns rs p ns rs p
  reaches_none positions closed w f m = record { reached = w; fits = f; held = m; same = refl }

  module _ (ns' ns'' : List Node) (rs' rs'' : List Quadword) (q : Place) (r : ControlFlow Stop Place) where
    pub reaches_more : (q' : Place)
        → Reaches ns rs p ns' rs' q
        → Moves ns' rs' ns'' rs'' q r
        → r ≡ Continue q'
        → Reaches ns rs p ns'' rs'' q'
    reaches_more q' before t e positions closed w f m =
        let b = before positions closed w f m in
        let n = subst (MovedTo ns'' rs'' q b.reached) e (t positions closed b.reached b.fits b.held) in
        record {
          reached = n.0;
          fits = move_fits positions closed b.reached n.0 n.1 b.fits;
          held = n.2;
          same = walk_onward b.reached n.0 n.1 ∙ b.same;
        }

    pub reaches_stop : (s : Stop)
        → Reaches ns rs p ns' rs' q
        → Moves ns' rs' ns'' rs'' q r
        → r ≡ Break s
        → Walks ns rs ns'' rs'' p (record { place = q; stop = s })
    reaches_stop s before t e positions closed w f m =
        let b = before positions closed w f m in
        let n = subst (MovedTo ns'' rs'' q b.reached) e (t positions closed b.reached b.fits b.held) in
        let there : walk w ≡ b.reached = sym b.same ∙ walk_stopped b.reached (stop_of s) n.0 in
        record {
          held = subst (Holds ns'' rs'' q) (sym there) n.1;
          stop_is = ap move there ∙ n.0;
        }

-- The number of moves left falls.
pub falls_on : (n n' : ℕ) (p q : Place) (r : ControlFlow Stop Place)
    → n ≡ n'
    → Falls n p r
    → r ≡ Continue q
    → moves_from n' q < moves_from n' p
falls_on n n' p q r e f g = subst (λ j. moves_from j q < moves_from j p) e (subst (Falls n p) g f)

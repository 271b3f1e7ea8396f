-- Laws of specs/Moving.antt.
use Rattle.std.specs.Prelude.{ℕ, suc, ◌+◌, ◌-◌, ◌%◌, ◌≤◌, ◌<◌, ◌≡◌, refl, Bool, true, false, cond, List, [], ◌∷◌, ◌++◌, eqb, T as Truth, length, set, take, drop}
use Rattle.std.proofs.Common.{arith, sym, ◌∙◌, subst, append_assoc, length-append, length-set, get_or-take, ne_eqb}
use Rattle.std.proofs.Math.Path.{ap}
use Rattle.std.proofs.lemmas.List.{get_or_at}
use Rattle.rules.specs.Kinds.{application_kind, pair_kind, let_kind}
use Rattle.machine_terms.specs.Trees.{Node, kind, Tree, leaf, one, two, preorder, one_kind}
use Rattle.machine_terms.specs.Trees.{an_application, a_pair, a_let, an_apply, two_kind, WellKinded}
use Rattle.machine_terms.specs.Holes.{Hole, only, first, second, opened, nodes_before, before, after, waits}
use Rattle.machine_terms.specs.Walks.{Walk, evaluating, returning, goes_on, stops, WalkFits, stop_one, move_first, move_second}
use Rattle.machine_nodes.specs.Nodes.{node_at, no_node}
use Rattle.words.specs.Regions.{over}
use Rattle.machine_nodes.specs.Spans.{span}
use Rattle.machine_nodes.proofs.Laws.Spans.{span_one_tree}
use Rattle.words.specs.Quadwords.{Quadword, quadword_at}
use Rattle.machine_walk.specs.Stack.{stack_entry, stack_tag, stack_node}
use Rattle.machine_walk.specs.Places.{entry_for, GapBuffer, Holds, stop_of, MovedTo}
use Rattle.machine_walk.specs.Heads.{head_of}
use Rattle.machine_walk.proofs.Laws.Heads.{Headed, head_value, head_one, head_two, head_neither_one, root_of, headed}
use Rattle.machine_walk.proofs.Laws.Places.{front_length, back_length, back_first, shift, shift_length, holes_few}
use Rattle.machine_walk.proofs.Laws.Places.{push_entry, pop_entry, top_entry, replace_entry}
use Rattle.machine_walk.specs.declared.Place.{Place}
use Rattle.machine_walk.specs.declared.Head.{Head}
use Rattle.machine_walk.specs.declared.Head.TheVariants.{Value, OnePart, TwoParts, Neither}
use Rattle.std.specs.declared.ops.ControlFlow.TheVariants.{Continue, Break}
use Rattle.machine_walk.specs.declared.Stop.TheVariants.{AtLet, AtExit, AtEnd, AtVariable}
use Rattle.machine_walk.specs.declared.Stop.{Stop}
use Rattle.machine_walk.specs.Moving.{stop_two}

-- The node of a hole, and the nodes behind it.
abbrev pub node_of : Hole → Node
node_of (only n) = n
node_of (first n u) = n
node_of (second n v) = n
node_of (opened n b) = n

behind_node : Hole → List Node
behind_node (only n) = []
behind_node (first n u) = []
behind_node (second n v) = preorder v
behind_node (opened n b) = preorder b

hole_nodes : (h : Hole) → nodes_before h ≡ node_of h ∷ behind_node h
unfolding behind_node
hole_nodes (only n) = refl
hole_nodes (first n u) = refl
hole_nodes (second n v) = refl
hole_nodes (opened n b) = refl

-- The node of the innermost hole stands at the place that its stack_entry names.
pub top_node : {ns : List Node} {l r : ℕ} (h : Hole) (hs : List Hole) (xs : List Node) {ys : List Node}
    → GapBuffer ns l r (before (h ∷ hs) ++ xs) ys
    → node_at ns (length (before hs)) ≡ node_of h
top_node {ns} {l} h hs xs g =
    let p = length (before hs) in
    let whole : take l ns ≡ before hs ++ (node_of h ∷ (behind_node h ++ xs)) =
    g.front ∙ append_assoc (before hs) (nodes_before h) xs ∙ ap (λ t. before hs ++ (t ++ xs)) (hole_nodes h) in
    let long : length ((before hs ++ nodes_before h) ++ xs) ≡ l = front_length g in
    let inside : p < l
    = omega (
      arith,
      length-append (before hs ++ nodes_before h) xs,
      length-append (before hs) (nodes_before h),
      ap length (hole_nodes h),
    ) in
    sym (get_or-take l ns p no_node inside)
    ∙ ap (λ t. node_at t p) whole
    ∙ get_or_at (before hs) (node_of h) (behind_node h ++ xs) no_node p refl

-- What is returned to, by the tag of the stack_entry on top; the hole's node stands at place `at`.
pub data Tagged (ns : List Node) (at : ℕ) : ℕ → Walk → Type 0 where
  tag_only : {n : Node} {v : Tree} {hs : List Hole} → at ≡ length (before hs) → node_at ns at ≡ n
      → Tagged ns at 0 (returning v (only n ∷ hs))
  tag_first : {n : Node} {u v : Tree} {hs : List Hole} → at ≡ length (before hs) → node_at ns at ≡ n
      → Tagged ns at 1 (returning v (first n u ∷ hs))
  tag_second : {n : Node} {u v : Tree} {hs : List Hole} → at ≡ length (before hs) → node_at ns at ≡ n
      → Tagged ns at 2 (returning v (second n u ∷ hs))
  tag_opened : {n : Node} {b v : Tree} {hs : List Hole} → at ≡ length (before hs) → node_at ns at ≡ n
      → Tagged ns at 3 (returning v (opened n b ∷ hs))

-- A tree has a node.
some_node : (t : Tree) → 0 < length (preorder t)
some_node (leaf n) = omega arith
some_node (one n t) = omega arith
some_node (two n t u) = omega arith

-- The tree to evaluate, with what is to be done with it.
pub data Evaluated (positions closed : ℕ) : Head → Walk → Type 0 where
  evaluated_at : {h : Head} {t : Tree} {hs : List Hole}
      → Headed positions closed hs h t
      → Evaluated positions closed h (evaluating t hs)

module _ (ns : List Node) (rs : List Quadword) (p : Place) where
  -- The stack_entry on top.
  abbrev pub top_of : Quadword
  top_of = quadword_at rs (p.depth - 1)

  place_node : (h : Hole) (hs : List Hole) (v : Tree)
      → Holds ns rs p (returning v (h ∷ hs))
      → stack_node (entry_for h (length (before hs))) ≡ length (before hs)
      → (stack_node top_of ≡ length (before hs)) × (node_at ns (stack_node top_of) ≡ node_of h)
  place_node h hs v m e =
      let same : stack_node top_of ≡ length (before hs)
      = ap stack_node (top_entry rs p.depth h hs m.stacked) ∙ e in
      (same, ap (node_at ns) same ∙ top_node h hs (preorder v) m.buffer)

  pub tagged : (w : Walk)
      → Holds ns rs p w
      → p.returning ≡ true
      → (p.depth ≡ 0 → ⊥)
      → Tagged ns (stack_node top_of) (stack_tag top_of) w
  tagged (evaluating t hs) m e f = let z : ◌≡◌ {A = ℕ} 0 1 = cc m.mode in absurd (omega arith)
  tagged (returning v []) m e f = absurd (f m.stacked.deep)
  tagged (returning v (only n ∷ hs)) m e f =
      let q = place_node (only n) hs v m refl in
      subst (λ t. Tagged ns (stack_node top_of) t (returning v (only n ∷ hs)))
      (sym (ap stack_tag (top_entry rs p.depth (only n) hs m.stacked)))
      (tag_only q.0 q.1)
  tagged (returning v (first n u ∷ hs)) m e f =
      let q = place_node (first n u) hs v m refl in
      subst (λ t. Tagged ns (stack_node top_of) t (returning v (first n u ∷ hs)))
      (sym (ap stack_tag (top_entry rs p.depth (first n u) hs m.stacked)))
      (tag_first q.0 q.1)
  tagged (returning v (second n u ∷ hs)) m e f =
      let q = place_node (second n u) hs v m refl in
      subst (λ t. Tagged ns (stack_node top_of) t (returning v (second n u ∷ hs)))
      (sym (ap stack_tag (top_entry rs p.depth (second n u) hs m.stacked)))
      (tag_second q.0 q.1)
  tagged (returning v (opened n b ∷ hs)) m e f =
      let q = place_node (opened n b) hs v m refl in
      subst (λ t. Tagged ns (stack_node top_of) t (returning v (opened n b ∷ hs)))
      (sym (ap stack_tag (top_entry rs p.depth (opened n b) hs m.stacked)))
      (tag_opened q.0 q.1)

  first_node : (t : Tree) {hs : List Hole} → Holds ns rs p (evaluating t hs) → node_at ns p.right ≡ root_of t
  first_node (leaf n) m = back_first m.buffer
  first_node (one n t) m = back_first m.buffer
  first_node (two n t u) m = back_first m.buffer

  pub evaluated : (positions closed : ℕ) (w : Walk)
      → WalkFits positions closed w
      → Holds ns rs p w
      → p.returning ≡ false
      → Evaluated positions closed (head_of (kind (node_at ns p.right))) w
  evaluated positions closed (evaluating t hs) f m e =
      subst (λ n. Evaluated positions closed (head_of (kind n)) (evaluating t hs)) (sym (first_node t m))
      (evaluated_at (headed positions closed hs t f.0))
  evaluated positions closed (returning v hs) f m e =
      let z : ◌≡◌ {A = ℕ} 0 1 = cc m.mode in absurd (omega arith)

  -- A value moves with its whole body.
  value_held : (positions closed k r : ℕ) (t : Tree) (hs : List Hole)
      → WellKinded positions closed t
      → Holds ns rs p (evaluating t hs)
      → k ≡ span (drop p.right ns) 1
      → r ≡ p.right + k
      → Holds
      (over ns p.left (take k (drop p.right ns)))
      rs
      (record { left = p.left + k; right = r; depth = p.depth; returning = true })
      (returning t hs)
  value_held positions closed k r t hs h m e e' =
      let size : k ≡ length (preorder t)
      = e ∙ ap (λ l. span l 1) m.buffer.back ∙ span_one_tree positions closed t (after hs) h in
      record {
        buffer = shift ns p.left p.right r k (before hs) (preorder t) (after hs) m.buffer size e';
        stacked = m.stacked;
        mode = refl;
        few =
            omega (
              arith,
              m.few,
              length-append (before hs) (preorder t),
              length-append (preorder t) (after hs),
            );
        room = m.room;
        wide =
            omega (
              arith,
              m.wide,
              shift_length ns p.left p.right k (before hs) (preorder t) (after hs) m.buffer size,
            );
      }

  pub value_onward : (positions closed k r : ℕ) (w : Walk)
      → Evaluated positions closed Value w
      → Holds ns rs p w
      → k ≡ span (drop p.right ns) 1
      → r ≡ p.right + k
      → MovedTo
      (over ns p.left (take k (drop p.right ns)))
      rs
      p
      w
      (Continue (record { left = p.left + k; right = r; depth = p.depth; returning = true }))
  value_onward positions closed k r w (evaluated_at {t = t} {hs = hs} (head_value h q)) m e e' =
      (returning t hs, q, value_held positions closed k r t hs h m e e')

  -- A node with parts is opened: it moves, and its hole is put on the stack.
  open_held : (tag : ℕ) (h : Hole) (n : Node) (t₀ t : Tree) (hs : List Hole) (rs' : List Quadword)
      → nodes_before h ≡ n ∷ []
      → preorder t₀ ++ after hs ≡ n ∷ (preorder t ++ after (h ∷ hs))
      → ((at : ℕ) → stack_entry tag at 0 ≡ entry_for h at)
      → Holds ns rs p (evaluating t₀ hs)
      → rs' ≡ set rs p.depth (stack_entry tag (p.left % 65536) 0)
      → Holds
      (over ns p.left (take 1 (drop p.right ns)))
      rs'
      (record { left = p.left + 1; right = p.right + 1; depth = p.depth + 1; returning = false })
      (evaluating t (h ∷ hs))
  open_held tag h n t₀ t hs rs' alone split same m e =
      let zs = preorder t ++ after (h ∷ hs) in
      let moved = over ns p.left (take 1 (drop p.right ns)) in
      let g : GapBuffer ns p.left p.right (before hs) (n ∷ zs)
      = subst (GapBuffer ns p.left p.right (before hs)) split m.buffer in
      let long : length (before hs) ≡ p.left = front_length g in
      let all : length (preorder t₀ ++ after hs) ≡ suc (length zs) = ap length split in
      let few = m.few in
      let room = m.room in
      let place : p.left % 65536 ≡ length (before hs) = omega arith in
      rw e
      record {
        buffer =
            subst (λ b. GapBuffer moved (p.left + 1) (p.right + 1) (before hs ++ b) zs) (sym alone)
            (shift ns p.left p.right (p.right + 1) 1 (before hs) (n ∷ []) zs g refl refl);
        stacked =
            push_entry rs p.depth h hs (stack_entry tag (p.left % 65536) 0) m.stacked
            (omega (arith, holes_few hs, m.stacked.deep))
            (ap (λ j. stack_entry tag j 0) place ∙ same (length (before hs)));
        mode = refl;
        few = omega (arith, length-append (before hs) (nodes_before h), ap length alone);
        room = omega (arith, length-set rs p.depth (stack_entry tag (p.left % 65536) 0));
        wide = omega (arith, m.wide, shift_length ns p.left p.right 1 (before hs) (n ∷ []) zs g refl);
      }

  pub one_onward : (positions closed : ℕ) (rs' : List Quadword) (w : Walk)
      → Evaluated positions closed OnePart w
      → Holds ns rs p w
      → rs' ≡ set rs p.depth (stack_entry 0 (p.left % 65536) 0)
      → MovedTo
      (over ns p.left (take 1 (drop p.right ns)))
      rs'
      p
      w
      (Continue (record { left = p.left + 1; right = p.right + 1; depth = p.depth + 1; returning = false }))
  one_onward positions closed rs' w (evaluated_at {hs = hs} (head_one {n = n} {t = t} q)) m e =
      (evaluating t (only n ∷ hs), q, open_held 0 (only n) n (one n t) t hs rs' refl refl (λ at. refl) m e)

  pub two_onward : (positions closed : ℕ) (rs' : List Quadword) (w : Walk)
      → Evaluated positions closed TwoParts w
      → Holds ns rs p w
      → rs' ≡ set rs p.depth (stack_entry 1 (p.left % 65536) 0)
      → MovedTo
      (over ns p.left (take 1 (drop p.right ns)))
      rs'
      p
      w
      (Continue (record { left = p.left + 1; right = p.right + 1; depth = p.depth + 1; returning = false }))
  two_onward positions closed rs' w (evaluated_at {hs = hs} (head_two {n = n} {t = t} {u = u})) m e = (
    evaluating t (first n u ∷ hs),
    refl,
    open_held 1 (first n u) n (two n t u) t hs rs' refl
        (ap (λ l. n ∷ l) (append_assoc (preorder t) (preorder u) (after hs)))
        (λ at. refl)
        m
        e,
  )

  pub neither_stops : (positions closed : ℕ) (w : Walk)
      → Evaluated positions closed Neither w
      → Holds ns rs p w
      → MovedTo ns rs p w (Break AtVariable)
  neither_stops positions closed w (evaluated_at (head_neither_one q)) m = (q, m)

  -- A tree to evaluate is there, behind the gap.
  pub behind_gap : (w : Walk)
      → Holds ns rs p w
      → p.returning ≡ false
      → (p.left ≤ p.right) × (p.right < length ns)
  behind_gap (evaluating t hs) m e =
      let g = m.buffer in
      omega (
        arith,
        g.apart,
        back_length g,
        length-append (preorder t) (after hs),
        some_node t,
      )
  behind_gap (returning v hs) m e = let z : ◌≡◌ {A = ℕ} 0 1 = cc m.mode in absurd (omega arith)

  -- And there is a stack_entry for its hole.
  pub entry_there : (w : Walk)
      → Holds ns rs p w
      → p.returning ≡ false
      → p.depth < length rs
  entry_there (evaluating t hs) m e =
      omega (
        arith,
        m.room,
        m.few,
        m.stacked.deep,
        holes_few hs,
        length-append (preorder t) (after hs),
        some_node t,
      )
  entry_there (returning v hs) m e = let z : ◌≡◌ {A = ℕ} 0 1 = cc m.mode in absurd (omega arith)

  -- A value is returned.
  pub end_stops : (w : Walk)
      → Holds ns rs p w
      → p.returning ≡ true
      → p.depth ≡ 0
      → MovedTo ns rs p w (Break AtEnd)
  end_stops (evaluating t hs) m e f = let z : ◌≡◌ {A = ℕ} 0 1 = cc m.mode in absurd (omega arith)
  end_stops (returning v []) m e f = (refl, m)
  end_stops (returning v (h ∷ hs)) m e f = absurd (omega (arith, m.stacked.deep))

  pub only_stops : (positions closed at : ℕ) (s : Stop) (w : Walk)
      → Tagged ns at 0 w
      → WalkFits positions closed w
      → Holds ns rs p w
      → (Truth (waits (one_kind (kind (node_at ns at)))) → stop_of s ≡ stop_one (one_kind (kind (node_at ns at))))
      → MovedTo ns rs p w (Break s)
  only_stops positions closed at s w (tag_only {n = n} a q) f m e =
      let waiting = subst (λ j. Truth (waits (one_kind (kind j)))) (sym q) f.2.0.1 in
      (ap (λ j. stops (stop_one (one_kind (kind j)))) (sym q) ∙ ap stops (sym (e waiting)), m)

  pub exit_stops : (at tag : ℕ) (w : Walk)
      → Tagged ns at tag w
      → (tag ≡ 0 → ⊥)
      → (tag ≡ 1 → ⊥)
      → (tag ≡ 2 → ⊥)
      → Holds ns rs p w
      → MovedTo ns rs p w (Break AtExit)
  exit_stops at tag w (tag_only a q) h0 h1 h2 m = absurd (h0 refl)
  exit_stops at tag w (tag_first a q) h0 h1 h2 m = absurd (h1 refl)
  exit_stops at tag w (tag_second a q) h0 h1 h2 m = absurd (h2 refl)
  exit_stops at tag w (tag_opened a q) h0 h1 h2 m = (refl, m)

  pub let_stops : (at : ℕ) (w : Walk)
      → Tagged ns at 1 w
      → Holds ns rs p w
      → kind (node_at ns at) ≡ let_kind
      → MovedTo ns rs p w (Break AtLet)
  unfolding two_kind
  let_stops at w (tag_first {n = n} {u = u} {v = v} {hs = hs} a q) m e =
      (ap (λ k. move_first (two_kind k) n v u hs) (ap kind (sym q) ∙ e), m)

-- A node of two parts that is no let goes on to its second part.
first_move : (k : ℕ) (n : Node) (v u : Tree) (hs : List Hole)
    → (k ≡ let_kind → ⊥)
    → move_first (two_kind k) n v u hs ≡ goes_on (evaluating u (second n v ∷ hs))
unfolding two_kind
first_move k n v u hs f = rw (ne_eqb k let_kind f, two_kind) (go (eqb k application_kind) (eqb k pair_kind))
  where
    go : (b c : Bool)
        → move_first (cond b an_application (cond c a_pair an_apply)) n v u hs ≡ goes_on (evaluating u (second n v ∷ hs))
    go true c = refl
    go false true = refl
    go false false = refl

second_move : (k : ℕ) (n : Node) (v u : Tree) (hs : List Hole)
    → (k ≡ pair_kind → ⊥)
    → move_second (two_kind k) n v u hs ≡ stops (stop_two (two_kind k))
unfolding two_kind
second_move k n v u hs f = rw (ne_eqb k pair_kind f, two_kind) (go (eqb k application_kind) (eqb k let_kind))
  where
    go : (b c : Bool)
        → move_second (cond b an_application (cond c a_let an_apply)) n v u hs
        ≡ stops (stop_two (cond b an_application (cond c a_let an_apply)))
    go true c = refl
    go false true = refl
    go false false = refl

module _ (ns : List Node) (rs : List Quadword) (p : Place) where
  -- A value is complete as first part: the second part is evaluated.
  first_held : (at : ℕ) (n : Node) (u v : Tree) (hs : List Hole) (rs' : List Quadword)
      → at ≡ length (before hs)
      → Holds ns rs p (returning v (first n u ∷ hs))
      → rs' ≡ set rs (p.depth - 1) (stack_entry 2 (at % 65536) (p.left % 65536))
      → Holds
      ns
      rs'
      (record { left = p.left; right = p.right; depth = p.depth; returning = false })
      (evaluating u (second n v ∷ hs))
  first_held at n u v hs rs' a m e =
      let whole : before (first n u ∷ hs) ++ preorder v ≡ before (second n v ∷ hs)
      = append_assoc (before hs) (n ∷ []) (preorder v) in
      let g : GapBuffer ns p.left p.right (before (second n v ∷ hs)) (preorder u ++ after hs)
      = subst (λ l. GapBuffer ns p.left p.right l (preorder u ++ after hs)) whole m.buffer in
      let long : length (before (second n v ∷ hs)) ≡ p.left = front_length g in
      let sum : length (before (second n v ∷ hs)) ≡ length (before hs) + suc (length (preorder v))
      = length-append (before hs) (n ∷ preorder v) in
      let same : length (before (first n u ∷ hs) ++ preorder v) ≡ length (before (second n v ∷ hs))
      = ap length whole in
      let few = m.few in
      let deep : p.depth ≡ suc (length hs) = m.stacked.deep in
      let place : at % 65536 ≡ length (before hs) = omega arith in
      let start : p.left % 65536 ≡ length (before hs) + suc (length (preorder v)) = omega arith in
      rw e
      record {
        buffer = g;
        stacked =
            replace_entry rs p.depth (first n u) (second n v) hs (stack_entry 2 (at % 65536) (p.left % 65536)) m.stacked
            (omega (arith, m.room, holes_few hs))
            (ap (λ j. stack_entry 2 j (p.left % 65536)) place ∙ ap (stack_entry 2 (length (before hs))) start);
        mode = refl;
        few = omega arith;
        room = omega (arith, m.room, length-set rs (p.depth - 1) (stack_entry 2 (at % 65536) (p.left % 65536)));
        wide = m.wide;
      }

  pub first_onward : (at : ℕ) (rs' : List Quadword) (w : Walk)
      → Tagged ns at 1 w
      → Holds ns rs p w
      → (kind (node_at ns at) ≡ let_kind → ⊥)
      → rs' ≡ set rs (p.depth - 1) (stack_entry 2 (at % 65536) (p.left % 65536))
      → MovedTo ns rs' p w
      (Continue (record { left = p.left; right = p.right; depth = p.depth; returning = false }))
  first_onward at rs' w (tag_first {n = n} {u = u} {v = v} {hs = hs} a q) m f e = (
    evaluating u (second n v ∷ hs),
    first_move (kind n) n v u hs (λ h. f (ap kind q ∙ h)),
    first_held at n u v hs rs' a m e,
  )

  -- A pair of two values is a value.
  pair_held : (n : Node) (u v : Tree) (hs : List Hole)
      → Holds ns rs p (returning v (second n u ∷ hs))
      → Holds
      ns
      rs
      (record { left = p.left; right = p.right; depth = p.depth - 1; returning = true })
      (returning (two n u v) hs)
  pair_held n u v hs m =
      let whole : before (second n u ∷ hs) ++ preorder v ≡ before hs ++ preorder (two n u v)
      = append_assoc (before hs) (n ∷ preorder u) (preorder v) in
      record {
        buffer = subst (λ l. GapBuffer ns p.left p.right l (after hs)) whole m.buffer;
        stacked = pop_entry rs p.depth (second n u) hs m.stacked;
        mode = refl;
        few = omega (arith, m.few, ap length whole);
        room = m.room;
        wide = m.wide;
      }

  pub pair_onward : (at : ℕ) (w : Walk)
      → Tagged ns at 2 w
      → Holds ns rs p w
      → kind (node_at ns at) ≡ pair_kind
      → MovedTo ns rs p w
      (Continue (record { left = p.left; right = p.right; depth = p.depth - 1; returning = true }))
  unfolding two_kind
  pair_onward at w (tag_second {n = n} {u = u} {v = v} {hs = hs} a q) m e = (
    returning (two n u v) hs,
    ap (λ k. move_second (two_kind k) n u v hs) (ap kind (sym q) ∙ e),
    pair_held n u v hs m,
  )

  pub second_stops : (at : ℕ) (s : Stop) (w : Walk)
      → Tagged ns at 2 w
      → Holds ns rs p w
      → (kind (node_at ns at) ≡ pair_kind → ⊥)
      → stop_of s ≡ stop_two (two_kind (kind (node_at ns at)))
      → MovedTo ns rs p w (Break s)
  second_stops at s w (tag_second {n = n} {u = u} {v = v} {hs = hs} a q) m f e = (
    second_move (kind n) n u v hs (λ h. f (ap kind q ∙ h))
        ∙ ap (λ j. stops (stop_two (two_kind (kind j)))) (sym q)
        ∙ ap stops (sym e),
    m,
  )

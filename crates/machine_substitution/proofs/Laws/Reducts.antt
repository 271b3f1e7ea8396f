-- Laws of specs/Reducts.antt.
use Rattle.std.specs.Prelude.{ℕ, suc, ◌+◌, ◌-◌, ◌*◌, ◌≤◌, ◌<◌, ◌≡◌, refl, Bool, true, false, cond, List, [], ◌∷◌, ◌++◌, leb, length, get_or, set, drop, Some, None}
use Rattle.std.proofs.Common.{arith, sym, ◌∙◌, ap, subst, append_assoc, append-nil, le-leb, leb-true, leb-false, length-append, length-set, drop_of_length-le, drop-cons, get_or-take, get_or-drop}
use Rattle.std.proofs.lemmas.Bool.{lt-leb}
use Rattle.machine_terms.specs.Trees.{Node, node, kind, argument}
use Rattle.machine_nodes.specs.Nodes.{node_at, no_node}
use Rattle.machine_nodes.proofs.Laws.Nodes.{node_whole}
use Rattle.words.specs.Regions.{over}
use Rattle.words.proofs.Laws.Regions.{over_nil, length_over, over_behind}
use Rattle.machine_nodes.proofs.Laws.Copies.{Clear}
use Rattle.machine_substitution.specs.declared.Region.{Region}
use Rattle.machine_substitution.specs.declared.Values.{Values}
use Rattle.machine_substitution.specs.Substituted.{piece_for, waiting_after, substituted, nodes_of_region, nodes_of_values}
use Rattle.machine_substitution.specs.Substituted.{reduct}
use Rattle.machine_substitution.specs.Waiting.{stack_of}
use Rattle.machine_substitution.proofs.Laws.Waiting.{stack_push, stack_top, AtMost, at_most_next}
use Rattle.machine_substitution.specs.Pieces.{piece_region, Outside}
use Rattle.machine_substitution.proofs.Laws.Pieces.{piece_nodes, piece_has, length_region, part_outside, node_outside}
use Rattle.machine_substitution.proofs.Laws.Pieces.{region_outside, clear_outside}
use Rattle.machine_substitution.specs.Reducts.{Ready, size_within, Wrote, NextPiece}
use Rattle.rules.specs.Sizes.{most_nodes}

known_by : (most n size : ℕ) (fits : Bool)
    → leb n most ≡ fits
    → Some size ≡ cond fits (Some n) None
    → (size ≡ n) × (size ≤ most)
known_by most n size true e h = let same : size ≡ n = cc in (same, omega (arith, leb-true n most e))
known_by most n size false e h = let z : ◌≡◌ {A = ℕ} 0 1 = cc in absurd (omega arith)

-- A number that the answer names is that of the nodes, and not too many.
pub size_known : (most n size : ℕ) → Some size ≡ size_within most n → (size ≡ n) × (size ≤ most)
unfolding size_within
size_known most n size h = known_by most n size (leb n most) refl h

refused_by : (most n : ℕ) (fits : Bool) → leb n most ≡ fits → None ≡ cond fits (Some n) None → most < n
refused_by most n true e h = let z : ◌≡◌ {A = ℕ} 0 1 = cc in absurd (omega arith)
refused_by most n false e h = leb-false n most e

-- Otherwise they are too many.
pub size_refused : (most n : ℕ) → None ≡ size_within most n → most < n
unfolding size_within
size_refused most n h = refused_by most n (leb n most) refl h

-- What is still to be written after i nodes of the source.
abbrev pub still_to_write : List Node → List ℕ → Region → Values → ℕ → ℕ → List Node
still_to_write ns ws source values i depth =
    substituted (nodes_of_values ns values) (stack_of ws depth) (drop i (nodes_of_region ns source))

substituted_next : (vs : List (List Node)) (b : ℕ) (waiting : List ℕ) (n : Node) (ns : List Node)
    → substituted vs (b ∷ waiting) (n ∷ ns) ≡ piece_for vs b n ++ substituted vs (waiting_after (kind n) b waiting) ns
unfolding substituted
substituted_next vs b waiting n ns = refl

substituted_none : (vs : List (List Node)) (waiting : List ℕ) → substituted vs waiting [] ≡ []
unfolding substituted
substituted_none vs waiting = refl

substituted_done : (vs : List (List Node)) (ns : List Node) → substituted vs [] ns ≡ []
unfolding substituted
substituted_done vs [] = refl
substituted_done vs (n ∷ ns) = refl

module _ (ns : List Node) (words to most : ℕ) (source : Region) (values : Values)
    (ready : Ready ns words to most source values) where
  -- Node i of the source, and those behind it.
  source_next : (i : ℕ)
      → i < source.length
      → drop i (nodes_of_region ns source) ≡ node_at ns (source.start + i) ∷ drop (i + 1) (nodes_of_region ns source)
  source_next i h =
      let long : length (nodes_of_region ns source) ≡ source.length
      = length_region ns source ready.source_outside.0 in
      let e : i + 1 ≡ suc i = omega arith in
      let n : get_or (nodes_of_region ns source) i no_node ≡ node_at ns (source.start + i)
      = get_or-take source.length (drop source.start ns) i no_node h ∙ get_or-drop source.start ns i no_node in
      drop-cons (nodes_of_region ns source) i no_node (omega arith)
      ∙ ap (λ x. x ∷ drop (suc i) (nodes_of_region ns source)) n
      ∙ ap (λ j. node_at ns (source.start + i) ∷ drop j (nodes_of_region ns source)) (sym e)

  -- The binders around the part on top fit a word.
  top_binders : (ws : List ℕ) (i depth : ℕ)
      → i < source.length
      → 0 < depth
      → AtMost (2 * i) (stack_of ws depth)
      → (get_or ws (depth - 1) 0 ≤ 2 * i) × AtMost (2 * i) (stack_of ws (depth - 1))
  top_binders ws i depth h d a = subst (AtMost (2 * i)) (stack_top ws depth d) a

  -- A turn writes what the node becomes, and the rest is still to be written.
  pub piece_writes : (ws ws' : List ℕ) (i depth : ℕ) (piece : Region) (depth' : ℕ)
      → i < source.length
      → 0 < depth
      → depth ≤ i + 1
      → length ws ≡ words
      → AtMost (2 * i) (stack_of ws depth)
      → NextPiece ns ws ws' values (source.start + i) depth piece depth'
      → still_to_write ns ws source values i depth
      ≡ nodes_of_region ns piece ++ still_to_write ns ws' source values (i + 1) depth'
  piece_writes ws ws' i depth piece depth' h d dd long a t =
      let vs = nodes_of_values ns values in
      let b = get_or ws (depth - 1) 0 in
      let place = source.start + i in
      let few : source.length ≤ most_nodes = ready.few in
      let small : b ≤ 2 * i = (top_binders ws i depth h d a).0 in
      let enough : source.length < words = ready.words_enough in
      let p : nodes_of_region ns piece ≡ piece_for vs b (node_at ns place)
      = ap (nodes_of_region ns) t.piece_is
      ∙ piece_nodes ns place (omega (arith, ready.source_outside.0)) values b in
      ap (λ w. substituted vs w (drop i (nodes_of_region ns source))) (stack_top ws depth d)
      ∙ ap (substituted vs (b ∷ stack_of ws (depth - 1))) (source_next i h)
      ∙ substituted_next vs b (stack_of ws (depth - 1)) (node_at ns place) (drop (i + 1) (nodes_of_region ns source))
      ∙ ap (λ x. x ++ substituted vs (waiting_after (kind (node_at ns place)) b (stack_of ws (depth - 1)))
      (drop (i + 1) (nodes_of_region ns source))) (sym p)
      ∙ ap (λ w. nodes_of_region ns piece ++ substituted vs w (drop (i + 1) (nodes_of_region ns source)))
      (sym (t.waits (omega arith) (omega arith)))

  -- And at most two more binders stand around each part that is waited for.
  pub piece_binders : (ws ws' : List ℕ) (i depth : ℕ) (piece : Region) (depth' : ℕ)
      → i < source.length
      → 0 < depth
      → depth ≤ i + 1
      → length ws ≡ words
      → AtMost (2 * i) (stack_of ws depth)
      → NextPiece ns ws ws' values (source.start + i) depth piece depth'
      → AtMost (2 * (i + 1)) (stack_of ws' depth')
  piece_binders ws ws' i depth piece depth' h d dd long a t =
      let top = top_binders ws i depth h d a in
      let few : source.length ≤ most_nodes = ready.few in
      let enough : source.length < words = ready.words_enough in
      let e : 2 * i + 2 ≡ 2 * (i + 1) = omega arith in
      subst (AtMost (2 * (i + 1))) (sym (t.waits (omega arith) (omega (arith, top.0))))
      (subst (λ m. AtMost m (waiting_after (kind (node_at ns (source.start + i))) (get_or ws (depth - 1) 0)
      (stack_of ws (depth - 1)))) e
      (at_most_next (2 * i) (kind (node_at ns (source.start + i))) (get_or ws (depth - 1) 0) (stack_of ws (depth - 1)) top))

-- With one part waited for and no binders around it, all of the reduct is still to be written.
start_waiting : (ws ws' : List ℕ) → ws' ≡ set ws 0 0 → 0 < length ws' → stack_of ws' 1 ≡ 0 ∷ []
start_waiting ws ws' e h =
    ap (λ w. stack_of w 1) e ∙ stack_push ws 0 0 (omega (arith, ap length e, length-set ws 0 0))

start_writes : (ns : List Node) (ws ws' : List ℕ) (source : Region) (values : Values)
    → ws' ≡ set ws 0 0
    → 0 < length ws'
    → still_to_write ns ws' source values 0 1 ≡ reduct ns source values
unfolding reduct
start_writes ns ws ws' source values e h =
    ap (λ w. substituted (nodes_of_values ns values) w (nodes_of_region ns source)) (start_waiting ws ws' e h)

start_binders : (ws ws' : List ℕ) → ws' ≡ set ws 0 0 → 0 < length ws' → AtMost (2 * 0) (stack_of ws' 1)
start_binders ws ws' e h = subst (AtMost (2 * 0)) (sym (start_waiting ws ws' e h)) (omega arith, tt)

-- Where no part is waited for, nothing is still to be written.
pub nothing_waiting : (ns : List Node) (ws : List ℕ) (source : Region) (values : Values) (i depth : ℕ)
    → depth ≡ 0
    → still_to_write ns ws source values i depth ≡ []
nothing_waiting ns ws source values i depth e =
    ap (still_to_write ns ws source values i) e
    ∙ substituted_done (nodes_of_values ns values) (drop i (nodes_of_region ns source))

-- Nor where no node of the source is left.
pub nothing_left : (ns : List Node) (words to most : ℕ) (source : Region) (values : Values)
    → Ready ns words to most source values
    → (ws : List ℕ) (i depth : ℕ)
    → source.length ≤ i
    → still_to_write ns ws source values i depth ≡ []
nothing_left ns words to most source values ready ws i depth h =
    let long : length (nodes_of_region ns source) ≡ source.length = length_region ns source ready.source_outside.0 in
    ap (substituted (nodes_of_values ns values) (stack_of ws depth))
    (drop_of_length-le (nodes_of_region ns source) {i = i} (omega arith))
    ∙ substituted_none (nodes_of_values ns values) (stack_of ws depth)

-- The nodes ns' at a turn of the writer, of the nodes ns at its start: `done` is written, the rest still to be written.
pub record Writing (ns ns' : List Node) (ws : List ℕ) (source : Region) (values : Values) (to i depth size : ℕ) : Type 0 where
  pub done : List Node
  pub nodes_are : ns' ≡ over ns to done
  pub size_is : size ≡ length done
  pub whole : done ++ still_to_write ns ws source values i depth ≡ reduct ns source values
  pub around : AtMost (2 * i) (stack_of ws depth)

-- At first nothing was written.
pub writing_start : (ns : List Node) (ws ws' : List ℕ) (source : Region) (values : Values) (to : ℕ)
    → ws' ≡ set ws 0 0
    → 0 < length ws'
    → Writing ns ns ws' source values to 0 1 0
writing_start ns ws ws' source values to e h =
    record {
      done = [];
      nodes_are = sym (over_nil ns to);
      size_is = refl;
      whole = start_writes ns ws ws' source values e h;
      around = start_binders ws ws' e h;
    }

fits_within : (most n : ℕ) → n ≤ most → Some n ≡ size_within most n
unfolding size_within
fits_within most n h = ap (λ x. cond x (Some n) None) (sym (le-leb n most h))

exceeds : (most n : ℕ) → most < n → None ≡ size_within most n
unfolding size_within
exceeds most n h = ap (λ x. cond x (Some n) None) (sym (lt-leb n most h))

-- What was written when nothing is still to be written is the reduct.
pub writing_end : (ns ns' : List Node) (ws : List ℕ) (source : Region) (values : Values) (to most i depth size : ℕ)
    → Writing ns ns' ws source values to i depth size
    → still_to_write ns ws source values i depth ≡ []
    → size ≤ most
    → Wrote ns ns' source values to most (Some size)
writing_end ns ns' ws source values to most i depth size w e h =
    let all : w.done ≡ reduct ns source values
    = sym (append-nil w.done) ∙ ap (λ x. w.done ++ x) (sym e) ∙ w.whole in
    record {
      written = w.done;
      nodes_are = w.nodes_are;
      within = omega (arith, w.size_is);
      answer_is_size = fits_within most size h ∙ ap (size_within most) (w.size_is ∙ ap length all);
      whole = λ _ _. all;
    }

module _ (ns : List Node) (words : ℕ) (source : Region) (values : Values) (to most : ℕ)
    (ready : Ready ns words to most source values) where
  module _ (ns' : List Node) (ws ws' : List ℕ) (i depth size : ℕ) (piece : Region) (depth' : ℕ)
      (h : i < source.length)
      (d : 0 < depth)
      (dd : depth ≤ i + 1)
      (long : length ws ≡ words)
      (few : size ≤ most)
      (w : Writing ns ns' ws source values to i depth size)
      (t : NextPiece ns' ws ws' values (source.start + i) depth piece depth') where
    -- What was written stands in the places that may be written.
    fits : to + length w.done ≤ length ns
    fits = omega (arith, w.size_is, ready.inside)

    -- The node stands as it did at the start.
    same_node : node_at ns' (source.start + i) ≡ node_at ns (source.start + i)
    same_node =
        ap (λ x. node_at x (source.start + i)) w.nodes_are
        ∙ node_outside ns to most w.done (source.start + i) ready.inside (omega (arith, w.size_is))
        (part_outside (length ns) to most source i h ready.source_outside).1

    same_turn : NextPiece ns ws ws' values (source.start + i) depth piece depth'
    same_turn =
        let b = get_or ws (depth - 1) 0 in
        record {
          piece_is = t.piece_is ∙ ap (λ n. piece_region values b n (source.start + i)) same_node;
          deeper = t.deeper;
          waits = λ p q. t.waits p q ∙ ap (λ n. waiting_after (kind n) b (stack_of ws (depth - 1))) same_node;
        }

    -- What the node becomes stands outside of those places too.
    piece_outside : Outside (length ns) to most piece
    piece_outside =
        subst (Outside (length ns) to most) (sym t.piece_is)
        (piece_has (Outside (length ns) to most) values (source.start + i) ready.first_outside ready.second_outside
        (part_outside (length ns) to most source i h ready.source_outside) (get_or ws (depth - 1) 0)
        (node_at ns' (source.start + i)))

    -- So it stands as it did.
    same_piece : nodes_of_region ns' piece ≡ nodes_of_region ns piece
    same_piece =
        ap (λ x. nodes_of_region x piece) w.nodes_are
        ∙ region_outside ns to most w.done piece ready.inside (omega (arith, w.size_is)) piece_outside

    rest_writes : still_to_write ns ws source values i depth
        ≡ nodes_of_region ns piece ++ still_to_write ns ws' source values (i + 1) depth'
    rest_writes =
        piece_writes ns words to most source values ready ws ws' i depth piece depth' h d dd long w.around same_turn

    piece_long : length (nodes_of_region ns piece) ≡ piece.length
    piece_long = length_region ns piece piece_outside.0

    whole_next : (w.done ++ nodes_of_region ns piece) ++ still_to_write ns ws' source values (i + 1) depth'
        ≡ reduct ns source values
    whole_next =
        append_assoc w.done (nodes_of_region ns piece) (still_to_write ns ws' source values (i + 1) depth')
        ∙ ap (λ x. w.done ++ x) (sym rest_writes)
        ∙ w.whole

    -- Where there is no room for what the node becomes, the reduct is too large.
    pub writing_refused : most < size + piece.length → Wrote ns ns' source values to most None
    writing_refused many =
        record {
          written = w.done;
          nodes_are = w.nodes_are;
          within = omega (arith, w.size_is);
          answer_is_size =
              exceeds most (length (reduct ns source values))
              (omega (
                arith,
                w.size_is,
                piece_long,
                ap length whole_next,
                length-append (w.done ++ nodes_of_region ns piece) (still_to_write ns ws' source values (i + 1) depth'),
                length-append w.done (nodes_of_region ns piece),
              ));
          whole = λ n e. let z : ◌≡◌ {A = ℕ} 0 1 = cc in absurd (omega arith);
        }

    -- A turn writes what the node becomes, where its nodes are copied.
    pub writing_next : (ns'' : List Node)
        → size + piece.length ≤ most
        → (Clear piece.start (to + size) piece.length
        → piece.start + piece.length ≤ length ns'
        → to + size + piece.length ≤ length ns'
        → ns'' ≡ over ns' (to + size) (nodes_of_region ns' piece))
        → Writing ns ns'' ws' source values to (i + 1) depth' (size + piece.length)
    writing_next ns'' room copied =
        let same_long : length ns' ≡ length ns = ap length w.nodes_are ∙ length_over ns to w.done fits in
        let whole : to + most ≤ length ns = ready.inside in
        let there : piece.start + piece.length ≤ length ns = piece_outside.0 in
        let e : ns'' ≡ over ns' (to + size) (nodes_of_region ns' piece)
        = copied (clear_outside (length ns) to most size piece few room piece_outside) (omega arith) (omega arith) in
        record {
          done = w.done ++ nodes_of_region ns piece;
          nodes_are =
              e
              ∙ ap (λ x. over ns' (to + size) x) same_piece
              ∙ ap (λ x. over x (to + size) (nodes_of_region ns piece)) w.nodes_are
              ∙ ap (λ j. over (over ns to w.done) (to + j) (nodes_of_region ns piece)) w.size_is
              ∙ over_behind ns to w.done (nodes_of_region ns piece) fits;
          size_is = omega (arith, w.size_is, piece_long, length-append w.done (nodes_of_region ns piece));
          whole = whole_next;
          around =
              piece_binders ns words to most source values ready ws ws' i depth piece depth' h d dd long w.around same_turn;
        }

-- What a turn finds, from its parts: the binders on top, the node's kind and argument, what it becomes and what is waited
-- for.
pub found_piece : (ns : List Node) (ws ws' : List ℕ) (values : Values) (place depth : ℕ) (piece : Region) (depth' b k a : ℕ)
    → 0 < depth
    → b ≡ get_or ws (depth - 1) 0
    → k ≡ kind (node_at ns place)
    → a ≡ argument (node_at ns place)
    → piece ≡ piece_region values b (node k a) place
    → depth' ≤ depth - 1 + 2
    → (depth - 1 + 1 < length ws → b + 2 < 65536 → stack_of ws' depth' ≡ waiting_after k b (stack_of ws (depth - 1)))
    → NextPiece ns ws ws' values place depth piece depth'
found_piece ns ws ws' values place depth piece depth' b k a d eb ek ea ep h hw =
    let whole : node k a ≡ node_at ns place
    = ap (λ x. node x a) ek ∙ ap (node (kind (node_at ns place))) ea ∙ node_whole (node_at ns place) in
    let same : depth - 1 + 1 ≡ depth = omega arith in
    record {
      piece_is =
          ep
          ∙ ap (λ x. piece_region values x (node k a) place) eb
          ∙ ap (λ n. piece_region values (get_or ws (depth - 1) 0) n place) whole;
      deeper = omega arith;
      waits =
          λ p q.
          hw (omega arith) (omega arith)
          ∙ ap (λ x. waiting_after x b (stack_of ws (depth - 1))) ek
          ∙ ap (λ x. waiting_after (kind (node_at ns place)) x (stack_of ws (depth - 1))) eb;
    }

-- A buffer of the same length has as many words.
pub same_ready : (ns : List Node) (words words' to most : ℕ) (source : Region) (values : Values)
    → words' ≡ words
    → Ready ns words to most source values
    → Ready ns words' to most source values
same_ready ns words words' to most source values e r = subst (λ w. Ready ns w to most source values) (sym e) r

-- The start configuration is held, once the sections of the file are written.
use Rattle.std.specs.Prelude.{ℕ, ◌+◌, ◌%◌, ◌≤◌, ◌<◌, ◌≡◌, refl, List, [], ◌++◌, map, length, set, drop}
use Rattle.std.proofs.Common.{arith, sym, ◌∙◌, ap, ap₂, subst, append_assoc, append-nil, length-set, get_or-set_same}
use Rattle.std.proofs.Math.Seq.{drop-length}
use Rattle.std.proofs.lemmas.List.{drop-append-le}
use Rattle.rules.specs.Types.{wire_code, type_codes}
use Rattle.rules.specs.Circuits.{circuit}
use Rattle.rules.specs.Sizes.{most_nodes, most_terms}
use Rattle.program.specs.Format.{label_count, type_count, term_count, first_term, kind_at}
use Rattle.program.specs.Reading.{read_of, accepted as read_accepted}
use Rattle.machine_terms.specs.Trees.{Node, preorder}
use Rattle.machine_terms.specs.States.{start_state, StateFits}
use Rattle.machine_terms.proofs.Theorems.Running.{start_fits}
use Rattle.check_program.specs.Answers.{labels_of}
use Rattle.words.specs.Regions.{over, Stands}
use Rattle.words.proofs.Laws.Regions.{written, length_over, stands_first, stands_rest, stands_written, stands_before}
use Rattle.machine_walk.specs.Places.{least_nodes}
use Rattle.machine_walk.proofs.Laws.Redexes.{started}
use Rattle.words.specs.Quadwords.{Quadword, quadword, quadword_at}
use Rattle.machine_circuits.proofs.Laws.Applying.{nothing_built}
use Rattle.machine_state.specs.Memory.{memory, frame_words, Roomy}
use Rattle.machine_state.specs.declared.StateNumbers.{StateNumbers}
use Rattle.machine_load.specs.Trees.{values_from, node_from, tree_of, types_of}
use Rattle.machine_load.proofs.Laws.Trees.{label_kinds, type_kinds, term_nodes}
use Rattle.machine_load.proofs.Laws.Values.{length_values}
use Rattle.machine_load.proofs.Laws.Start.{accepted, sizes_are, tree_kinded, tree_nodes, tree_size, types_codes}
use Rattle.machine_load.proofs.Laws.Start.{labels_codes, start_means}
use Rattle.machine_load.specs.Start.{least_types, numbers_at, Started, Loads}
use Rattle.machine_circuits.specs.Layout.{labels_start}

-- What stands in a part of what stands at the front, stands.
part_stands : {A : Type 0} (l xs ys : List A) (i : ℕ) → Stands l 0 xs → Stands xs i ys → i ≤ length xs → Stands l i ys
part_stands l xs ys i s t h =
    let rest = drop (0 + length xs) l in
    stands_first l i ys (drop (i + length ys) xs ++ rest)
    (ap (drop i) (stands_rest l 0 xs s)
    ∙ drop-append-le i xs rest h
    ∙ ap (λ z. z ++ rest) (stands_rest xs i ys t)
    ∙ append_assoc ys (drop (i + length ys) xs) rest)

-- The views before and after: nodes, words of the types' buffer, quadwords of frames.
module _ (f : List ℕ) (L P N : ℕ) (read : read_of f ≡ read_accepted L P N) where
  -- All nodes from the place on are those of the tree.
  tree_stands : (ns : List Node) (right : ℕ)
      → right + term_count f ≡ length ns
      → drop right (over ns right (term_nodes f)) ≡ preorder (tree_of f)
  tree_stands ns right all =
      let long : right + length (term_nodes f) ≡ length ns
      = ap (λ n. right + n) (length_values (node_from f) (first_term f) (term_count f)) ∙ all in
      written ns right (term_nodes f) (omega arith)
      ∙ ap (λ j. term_nodes f ++ drop j ns) long
      ∙ ap (λ l. term_nodes f ++ l) (drop-length ns)
      ∙ append-nil (term_nodes f)
      ∙ sym (tree_nodes f L P N read)

  -- The words: first the kinds of the types, then those of the labels.
  module _ (ws ws₁ ws₂ : List ℕ)
      (first : ws₁ ≡ over ws 0 (type_kinds f))
      (second : ws₂ ≡ over ws₁ labels_start (label_kinds f))
      (room : least_types ≤ length ws) where
    -- The types' kinds are as many as the file says.
    type_count_lem : length (type_kinds f) ≡ type_count f
    type_count_lem = length_values (kind_at f) (label_count f) (type_count f)

    -- The buffer keeps its length.
    room₁ : length ws₁ ≡ length ws
    room₁ =
        let few = (accepted f L P N read).types_fit in
        ap length first ∙ length_over ws 0 (type_kinds f) (omega (arith, type_count_lem))

    -- The types' kinds stand at the front.
    kinds_stand : Stands ws₂ 0 (type_kinds f)
    kinds_stand =
        let few = (accepted f L P N read).types_fit in
        subst (λ w. Stands w 0 (type_kinds f)) (sym second)
        (stands_before ws₁ labels_start (label_kinds f) 0 (type_kinds f) (omega (arith, room₁)) (omega (arith, type_count_lem))
        (subst (λ w. Stands w 0 (type_kinds f)) (sym first) (stands_written ws 0 (type_kinds f) (omega arith))))

    -- So the codes of the type at a position stand from that position on.
    types_stand : (p : ℕ) → p < P → Stands ws₂ p (type_codes (types_of f p))
    types_stand p h =
        let inside : p < type_count f = omega (arith, (sizes_are f L P N read).1) in
        part_stands ws₂ (type_kinds f) (type_codes (types_of f p)) p kinds_stand (types_codes f L P N read p inside)
        (omega (arith, type_count_lem))

    -- The labels' wires stand behind the types.
    labels_stand : Stands ws₂ labels_start (map wire_code (labels_of f))
    labels_stand =
        subst (Stands ws₂ labels_start) (sym (labels_codes f L P N read))
        (subst (λ w. Stands w labels_start (label_kinds f)) (sym second)
        (stands_written ws₁ labels_start (label_kinds f) (omega (arith, room₁))))

  -- The quadword of the one frame.
  frame_held : (fs : List Quadword)
      → 0 < length fs
      → quadword_at (set fs 0 (quadword 0 (label_count f) (label_count f) 0)) 0 ≡ frame_words (circuit (labels_of f) []) []
  frame_held fs h =
      let many : length (labels_of f) ≡ label_count f = (accepted f L P N read).label_count_is in
      get_or-set_same fs 0 (quadword 0 (label_count f) (label_count f) 0) (quadword 0 0 0 0) h
      ∙ ap₂ (λ a b. quadword 0 a b 0) (sym (ap length (append-nil (labels_of f)) ∙ many)) (sym many)

  -- So the start is held.
  pub start_held : (ns ns' : List Node) (ws ws₁ ws₂ : List ℕ) (fs fs' : List Quadword) (right : ℕ) (rs : List Quadword)
      (gs cs : List Quadword) (results : ℕ → List ℕ)
      → right + term_count f ≡ length ns
      → ns' ≡ over ns right (term_nodes f)
      → ws₁ ≡ over ws 0 (type_kinds f)
      → ws₂ ≡ over ws₁ labels_start (label_kinds f)
      → fs' ≡ set fs 0 (quadword 0 (label_count f) (label_count f) 0)
      → least_nodes ≤ length ns
      → most_nodes ≤ length rs
      → least_types ≤ length ws
      → Roomy (memory ns' rs gs cs fs' ws₂ results)
      → Started f P (memory ns' rs gs cs fs' ws₂ results) (numbers_at right)
  start_held ns ns' ws ws₁ ws₂ fs fs' right rs gs cs results all e e₁ e₂ e' wide deep room roomy =
      let file = accepted f L P N read in
      let few : length (preorder (tree_of f)) ≤ most_terms = omega (arith, tree_size f L P N read, file.terms_fit) in
      let same : length ns' ≡ length ns = ap length e ∙ length_over ns right (term_nodes f)
      (omega (arith, length_values (node_from f) (first_term f) (term_count f))) in
      let rows : 0 < length fs
      = omega (arith, roomy.frames_room, ap length e', length-set fs 0 (quadword 0 (label_count f) (label_count f) 0)) in
      record {
        held =
            record {
              walk_held =
                  started ns' rs right (tree_of f) (ap (drop right) e ∙ tree_stands ns right all) (omega arith)
                  (omega arith) deep (omega arith);
              built =
                  record {
                    circuits_held = nothing_built (types_of f) P gs cs results (labels_of f);
                    frames_held = (
                      ap (λ l. quadword_at l 0) e' ∙ frame_held fs rows,
                      omega (arith, file.label_count_is, file.labels_fit),
                      tt,
                    );
                    counted =
                        record { frames_are = refl; gates_are = refl; boxes_are = refl; closed_are = refl };
                    roomy = roomy;
                    few_gates = omega arith;
                    few_boxes = omega arith;
                  };
              types_held = types_stand ws ws₁ ws₂ e₁ e₂ room;
            };
        fits =
            subst (λ n. StateFits n (start_state (labels_of f) (tree_of f))) (sym (sizes_are f L P N read).1)
            (start_fits (type_count f) (labels_of f) (tree_of f) (tree_kinded f L P N read));
        means = start_means f L P N read;
        start_sizes_fit =
            λ allowance.
            record {
              nodes_fit = omega (arith, ap length (append-nil (preorder (tree_of f))));
              gates_fit = omega arith;
              boxes_fit = omega arith;
            };
        labels_held = labels_stand ws ws₁ ws₂ e₁ e₂ room;
      }

-- A buffer with fewer nodes than the term section is too short for the contract.
pub too_short_lem : (f : List ℕ) (ns : List Node) (ws : List ℕ) (fs : List Quadword) (r : StateNumbers) (terms : ℕ)
    → terms ≡ term_count f
    → length ns < terms
    → Loads f ns ws fs r
too_short_lem f ns ws fs r terms e h L P N rs gs cs results read wide deep room roomy =
    absurd (omega (arith, (accepted f L P N read).terms_fit))

-- What the functions that write leave is the start.
pub loaded : (f : List ℕ) (ns ns' : List Node) (ws ws₁ ws₂ : List ℕ) (fs fs' : List Quadword) (r : StateNumbers)
    (labels positions terms right : ℕ)
    → labels ≡ label_count f
    → positions ≡ type_count f
    → terms ≡ term_count f
    → labels < 65536
    → right + terms ≡ length ns
    → ns' ≡ over ns right (values_from (node_from f) (labels + positions) terms)
    → (0 + positions ≤ length ws → ws₁ ≡ over ws 0 (values_from (kind_at f) labels positions))
    → (labels_start + labels ≤ length ws₁ → ws₂ ≡ over ws₁ labels_start (values_from (kind_at f) 0 labels))
    → length ns' ≡ length ns
    → length ws₁ ≡ length ws
    → length ws₂ ≡ length ws₁
    → fs' ≡ set fs 0 (quadword 0 (labels % 65536) (labels % 65536) 0)
    → r ≡ numbers_at right
    → Loads f ns' ws₂ fs' r
loaded f ns ns' ws ws₁ ws₂ fs fs' r labels positions terms right eL eP eN low all e e₁ e₂ same same₁ same₂ e' er
    L P N rs gs cs results read wide deep room roomy =
    let file = accepted f L P N read in
    let few = file.labels_fit in
    let few' = file.types_fit in
    let count : labels % 65536 ≡ label_count f = omega arith in
    subst (Started f P (memory ns' rs gs cs fs' ws₂ results)) (sym er)
    (start_held f L P N read ns ns' ws ws₁ ws₂ fs fs' right rs gs cs results
    (ap (λ n. right + n) (sym eN) ∙ all)
    (e ∙ ap (over ns right) (ap₂ (values_from (node_from f)) (ap₂ ◌+◌ eL eP) eN))
    (e₁ (omega arith) ∙ ap (over ws 0) (ap₂ (values_from (kind_at f)) eL eP))
    (e₂ (omega arith) ∙ ap (λ n. over ws₁ labels_start (values_from (kind_at f) 0 n)) eL)
    (e' ∙ ap (λ n. set fs 0 (quadword 0 n n 0)) count)
    (omega arith)
    deep
    (omega arith)
    roomy)

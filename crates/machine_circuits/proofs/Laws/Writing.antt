-- One pass of each loop that collects, saves, loads or writes a tuple, and what there is when it ends.
use Rattle.std.specs.Prelude.{ℕ, zero, suc, ◌+◌, ◌-◌, ◌≤◌, ◌<◌, ◌%◌, ◌≡◌, refl, Bool, true, false, cond, List, [], ◌∷◌, ◌++◌, map, T as Truth, eqb, length, get_or, set, take, drop}
use Rattle.std.proofs.Common.{arith, sym, ◌∙◌, ap, ap₂, take-suc-set}
use Rattle.std.proofs.lemmas.List.{length-map}
use Rattle.std.proofs.Math.Option.{some}
use Rattle.rules.specs.Kinds.{pair_type_kind, unit_kind}
use Rattle.rules.specs.Types.{Ty, is_wire_type, wires, entries, type_codes}
use Rattle.rules.proofs.Laws.TypeCodes.{type_codes_entries}
use Rattle.rules.specs.Terms.{Tuple, single, both, labels, empty}
use Rattle.machine_terms.specs.Trees.{Node, Tree, leaf, one, two, preorder, tuple_of_tree}
use Rattle.machine_terms.proofs.Laws.Tuples.{is_tuple}
use Rattle.rules.specs.Slots.{no_wire}
use Rattle.machine_circuits.specs.Layout.{tuple_words, no_label}
use Rattle.words.specs.Regions.{over, Stands}
use Rattle.words.proofs.Laws.Regions.{stands_rest}
use Rattle.machine_circuits.proofs.Laws.Prefixes.{over_next, prefix_next, length_prefix, prefix_whole, stands_inside}
use Rattle.machine_circuits.specs.Copies.{AllBelow}
use Rattle.machine_circuits.specs.Tuples.{labels_passed, label_numbers, node_of_code, label_after, code_span, loaded_node}
use Rattle.machine_circuits.specs.Tuples.{word_of}
use Rattle.machine_circuits.proofs.Laws.Tuples.{labels_tree, nodes_of_codes, label_behind, nodes_append, behind_append}
use Rattle.rules.specs.Parts.{parts_of_kind}
use Rattle.machine_nodes.proofs.Laws.Spans.{none_waiting}
use Rattle.machine_circuits.proofs.Laws.Tuples.{length_nodes_of_codes, behind_type, nodes_type}
use Rattle.machine_circuits.proofs.Laws.Tuples.{span_type, loaded_tuple, words_tree}
use Rattle.machine_circuits.specs.Results.{LabelsCollected, ResultFits, result_nodes, TupleWritten}

-- A tree that stands somewhere ends before the list does, and so does a result.
pub tree_inside : (v : Tree) (ns : List Node) (at : ℕ)
    → Stands ns at (preorder v)
    → at + length (preorder v) ≤ length ns
tree_inside (leaf n) ns at h = stands_inside ns at n [] h
tree_inside (one n t) ns at h = stands_inside ns at n (preorder t) h
tree_inside (two n t u) ns at h = stands_inside ns at n (preorder t ++ preorder u) h

pub result_inside : (k : Tuple) (ws : List ℕ) (from : ℕ)
    → Stands ws from (tuple_words k)
    → from + length (tuple_words k) ≤ length ws
result_inside (single ℓ) ws from h = stands_inside ws from ℓ [] h
result_inside empty ws from h = stands_inside ws from no_label [] h
result_inside (both k l) ws from h = stands_inside ws from no_wire (tuple_words k ++ tuple_words l) h

-- One more word is written behind others.
pub collected_more : (ws ws' ls ls' : List ℕ) (found a : ℕ)
    → take found ws ≡ ls
    → found < length ws
    → a < 65536
    → ws' ≡ set ws found (a % 65536)
    → ls' ≡ ls ++ (a ∷ [])
    → take (found + 1) ws' ≡ ls'
collected_more ws ws' ls ls' found a e inside small written more =
    let low : a % 65536 ≡ a = omega arith in
    let next : found + 1 ≡ suc found = omega arith in
    ap₂ take next written
    ∙ take-suc-set ws found (a % 65536) inside
    ∙ ap₂ (λ l x. l ++ (x ∷ [])) e low
    ∙ sym more

-- All labels of a tuple are collected.
pub all_collected : (v : Tree) (k : Tuple) (ns : List Node) (ws : List ℕ) (at count found : ℕ)
    → tuple_of_tree v ≡ some k
    → Stands ns at (preorder v)
    → count ≡ length (preorder v)
    → found ≡ length (labels_passed ns at count)
    → take found ws ≡ labels_passed ns at count
    → LabelsCollected k ws found
all_collected v k ns ws at count found e stands whole number taken =
    let passed : labels_passed ns at count ≡ labels k
    = ap label_numbers (prefix_whole ns at count (preorder v) stands whole) ∙ labels_tree (is_tuple v k e) in
    record { number = number ∙ ap length passed; collected = taken ∙ passed }

-- One more element is written, made of one more that is read.
pub mapped_next : {A B : Type 0} (f : A → B) (d : A) (l : List A) (at : ℕ) (t t₁ t₂ : List B) (to i : ℕ) (y : B)
    → at + i < length l
    → to + i < length t
    → t₁ ≡ over t to (map f (take i (drop at l)))
    → y ≡ f (get_or l (at + i) d)
    → t₂ ≡ set t₁ (to + i) y
    → t₂ ≡ over t to (map f (take (i + 1) (drop at l)))
mapped_next {A} {B} f d l at t t₁ t₂ to i y inside room sofar made written =
    let xs = take i (drop at l) in
    let long : length (map f xs) ≡ i = length-map xs f ∙ length_prefix l at i (omega arith) in
    written
    ∙ ap₂ (λ s x. set s (to + i) x) sofar made
    ∙ over_next t to (map f xs) (f (get_or l (at + i) d)) i long room
    ∙ ap (over t to) (sym (map_snoc xs (get_or l (at + i) d)) ∙ ap (map f) (sym (prefix_next l at i d inside)))
  where
    map_snoc : (xs : List A) (x : A) → map f (xs ++ (x ∷ [])) ≡ map f xs ++ (f x ∷ [])
    map_snoc [] x = refl
    map_snoc (z ∷ xs) x = ap (λ l. f z ∷ l) (map_snoc xs x)

-- A whole tuple is saved, and a whole result is loaded.
pub all_saved : (v : Tree) (k : Tuple) (ns : List Node) (ws ws' : List ℕ) (at count from : ℕ)
    → tuple_of_tree v ≡ some k
    → Stands ns at (preorder v)
    → count ≡ length (preorder v)
    → ws' ≡ over ws from (map word_of (take count (drop at ns)))
    → ws' ≡ over ws from (tuple_words k)
all_saved v k ns ws ws' at count from e stands whole written =
    written
    ∙ ap
    (over ws from)
    (ap (map word_of) (prefix_whole ns at count (preorder v) stands whole) ∙ words_tree (is_tuple v k e))

pub all_loaded : (k : Tuple) (m : ℕ) (ws : List ℕ) (ns ns' : List Node) (ks : List ℕ) (from count size to available n next : ℕ)
    → ResultFits k m ws from count size to available n next
    → AllBelow 65536 ks
    → ns' ≡ over ns to (map (loaded_node ks next) (take count (drop from ws)))
    → ns' ≡ over ns to (result_nodes k ks next)
all_loaded k m ws ns ns' ks from count size to available n next fits low written =
    written
    ∙ ap
    (over ns to)
    (ap (map (loaded_node ks next)) (prefix_whole ws from count (tuple_words k) fits.stands fits.whole)
    ∙ loaded_tuple ks next m k low fits.apart fits.room fits.below)

pub ne_zero : (n : ℕ) → (n ≡ 0 → ⊥) → 0 < n
ne_zero zero h = absurd (h refl)
ne_zero (suc n) h = omega arith

-- The type that stands at a position takes as many codes as it has entries.
pub span_whole : (T : Ty) (cs : List ℕ) (at : ℕ) → Stands cs at (type_codes T) → code_span (drop at cs) 1 ≡ entries T
span_whole T cs at stands =
    ap (λ l. code_span l 1) (stands_rest cs at (type_codes T) stands)
    ∙ omega (
      arith,
      span_type T (drop (at + length (type_codes T)) cs) 0,
      none_waiting ℕ parts_of_kind (drop (at + length (type_codes T)) cs),
    )

-- The next label, and the nodes with one more.
pub after_bounds : (ℓ c : ℕ) → (ℓ ≤ label_after ℓ c) × (label_after ℓ c ≤ ℓ + 1)
after_bounds ℓ c = by_test (eqb c pair_type_kind) (eqb c unit_kind)
  where
    by_test : (b d : Bool) → (ℓ ≤ cond b ℓ (cond d ℓ (ℓ + 1))) × (cond b ℓ (cond d ℓ (ℓ + 1)) ≤ ℓ + 1)
    by_test true d = (omega arith, omega arith)
    by_test false true = (omega arith, omega arith)
    by_test false false = (omega arith, omega arith)

pub behind_next : (ℓ : ℕ) (cs : List ℕ) (at i : ℕ)
    → at + i < length cs
    → label_behind ℓ (take (i + 1) (drop at cs)) ≡ label_after (label_behind ℓ (take i (drop at cs))) (get_or cs (at + i) 0)
behind_next ℓ cs at i h =
    ap (label_behind ℓ) (prefix_next cs at i 0 h)
    ∙ behind_append ℓ (take i (drop at cs)) (get_or cs (at + i) 0 ∷ [])

pub coded_next : (ℓ : ℕ) (cs : List ℕ) (at : ℕ) (t t₁ t₂ : List Node) (to i label code : ℕ)
    → at + i < length cs
    → to + i < length t
    → t₁ ≡ over t to (nodes_of_codes ℓ (take i (drop at cs)))
    → label ≡ label_behind ℓ (take i (drop at cs))
    → code ≡ get_or cs (at + i) 0
    → t₂ ≡ set t₁ (to + i) (node_of_code label code)
    → t₂ ≡ over t to (nodes_of_codes ℓ (take (i + 1) (drop at cs)))
coded_next ℓ cs at t t₁ t₂ to i label code inside room sofar behind read written =
    let xs = take i (drop at cs) in
    let x = get_or cs (at + i) 0 in
    let long : length (nodes_of_codes ℓ xs) ≡ i = length_nodes_of_codes ℓ xs ∙ length_prefix cs at i (omega arith) in
    written
    ∙ ap₂ (λ s y. set s (to + i) y) sofar (ap₂ node_of_code behind read)
    ∙ over_next t to (nodes_of_codes ℓ xs) (node_of_code (label_behind ℓ xs) x) i long room
    ∙ ap (over t to) (
    sym (nodes_append ℓ xs (x ∷ [])) ∙ ap (nodes_of_codes ℓ) (sym (prefix_next cs at i 0 inside))
    )

-- The whole tuple of a type's wires is written.
pub all_written : (T : Ty) (first : ℕ) (cs : List ℕ) (at count : ℕ) (ns ns' : List Node) (to label : ℕ)
    → Truth (is_wire_type T)
    → Stands cs at (type_codes T)
    → count ≡ entries T
    → first + length (wires T) ≤ no_wire
    → label ≡ label_behind first (take count (drop at cs))
    → ns' ≡ over ns to (nodes_of_codes first (take count (drop at cs)))
    → TupleWritten T first ns ns' to count (label - first)
all_written T first cs at count ns ns' to label t stands whole room behind written =
    let codes : take count (drop at cs) ≡ type_codes T
    = prefix_whole cs at count (type_codes T) stands (whole ∙ sym (type_codes_entries T)) in
    let last : label ≡ first + length (wires T)
    = behind ∙ ap (label_behind first) codes ∙ behind_type first T t in
    record {
      nodes =
          written
          ∙ ap (over ns to) (ap (nodes_of_codes first) codes ∙ nodes_type first T t (omega arith));
      entries_written = whole;
      labels_written = omega arith;
    }

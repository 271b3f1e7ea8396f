-- Laws of specs/Loading.antt.
use Rattle.std.specs.Prelude.{ℕ, zero, suc, ◌+◌, ◌*◌, ◌-◌, ◌≤◌, ◌<◌, ◌≡◌, refl, Bool, true, false, List, [], T as Truth, eqb, length, take, drop}
use Rattle.std.proofs.Common.{add-one, arith, sym, ◌∙◌, subst, length-take, length-drop, eqb-true}
use Rattle.std.proofs.Math.Path.{ap}
use Rattle.std.proofs.Math.Option.{Option, none, some, map, some-ne-none}
use Rattle.std.proofs.Math.ListN.{get_or}
use Rattle.std.proofs.Math.Seq.{get_or-take, get_or-drop}
use Rattle.std.proofs.lemmas.Bool.{eqb-false}
use Rattle.rules.specs.Types.{Wire, Bit, Qubit, Ty, wire, entries, wire_code}
use Rattle.rules.specs.Gates.{nth}
use Rattle.rules.specs.Terms.{Term}
use Rattle.program.specs.Format.{label_count, type_count, first_term, entry_count, kind_at}
use Rattle.program.specs.Trees.{TypeAt, bit_at, qubit_at, tensor_at, function_at, reusable_at, circ_at, TypeAtPosition}
use Rattle.program.specs.Trees.{at_position, AcceptedFile, labels_below, unit_at}
use Rattle.program.proofs.Laws.TreeTraversal.{term_end, type_end}
use Rattle.check_types.specs.Cells.{Denotes, Agree, made_pair, made_function, made_circuit}
use Rattle.check_types.proofs.Laws.Cells.{agree_refl, agree_less, agree_trans, denotes_kept}
use Rattle.check_types.specs.NewCell.{with_cell}
use Rattle.check_types.proofs.Laws.NewCell.{length_with_cell, agree_with_cell, kind_written, first_written, second_written}
use Rattle.check_types.proofs.Laws.Load.{CodesAt, codes_wire, codes_one, codes_two, length_load_codes, agree_load_codes}
use Rattle.check_types.proofs.Laws.Load.{codes_denote, codes_unit}
use Rattle.check_types.specs.Load.{load_codes, codes_of}
use Rattle.check_types.specs.GateCells.{gate_cells, GatesLoaded, load_all_gates}
use Rattle.check_types.proofs.Laws.GateCells.{gate_cells_lem, gates_loaded}
use Rattle.check_program.specs.Checking.{Binder, ◌under◌}
use Rattle.check_program.specs.Layout.{binding_cell, binding_lifts, binding_uses, type_cell, least_words, most_cells}
use Rattle.rules.specs.Sizes.{most_labels}
use Rattle.rules.proofs.Laws.TypeCodes.{entries_positive}
use Rattle.rules.proofs.Laws.Wires.{nth_some_within}
use Rattle.check_program.specs.Scope.{Binding, Loaded, Environment}
use Rattle.check_program.specs.Inferring.{Ready}
use Rattle.check_program.specs.Loading.{bindings_loaded}

pub no_binding : (f w : List ℕ) → w ≡ bindings_loaded f w 0
unfolding bindings_loaded
no_binding f w = refl

pub next_binding : (f w : List ℕ) (k kind : ℕ)
    → kind ≡ kind_at f k → with_cell (bindings_loaded f w k) (most_cells + k) kind 0 0 0 ≡ bindings_loaded f w (k + 1)
unfolding bindings_loaded
next_binding f w k kind q =
    ap (λ c. with_cell (bindings_loaded f w k) (most_cells + k) c 0 0 0) q ∙ ap (bindings_loaded f w) (sym (add-one k))

length_bindings : (f w : List ℕ) (k : ℕ) → length (bindings_loaded f w k) ≡ length w
unfolding bindings_loaded
length_bindings f w zero = refl
length_bindings f w (suc k) = length_with_cell (bindings_loaded f w k) (most_cells + k) (kind_at f k) 0 0 0 ∙ length_bindings f w k

agree_bindings : (f w : List ℕ) (k : ℕ) → Agree w (bindings_loaded f w k) most_cells
unfolding bindings_loaded
agree_bindings f w zero = agree_refl w most_cells
agree_bindings f w (suc k) =
    agree_trans (agree_bindings f w k)
    (agree_less most_cells (omega arith) (agree_with_cell (bindings_loaded f w k) (most_cells + k) (kind_at f k) 0 0 0))

-- What occurs in a binding that is loaded.
record Fresh (f w : List ℕ) (i : ℕ) : Type 0 where
  cell_is : kind_at f i < 65536 → binding_cell w i ≡ kind_at f i
  lifts_are : binding_lifts w i ≡ 0
  uses_are : binding_uses w i ≡ 0

binding_loaded : (f w : List ℕ) (k i : ℕ) → i < k → k ≤ most_labels → least_words ≤ length w → Fresh f (bindings_loaded f w k) i
unfolding bindings_loaded
binding_loaded f w zero i h b room = absurd (omega arith)
binding_loaded f w (suc k) i h b room = go (eqb i k) refl (λ l. binding_loaded f w k i l (omega arith) room)
  where
    before : List ℕ
    before = bindings_loaded f w k

    after : List ℕ
    after = with_cell before (most_cells + k) (kind_at f k) 0 0 0

    long : 4 * (most_cells + k) + 4 ≤ length before
    long = omega (arith, length_bindings f w k)

    this : Fresh f after k
    this =
        record {
          cell_is = λ fits. kind_written before (most_cells + k) (kind_at f k) 0 0 0 long fits;
          lifts_are = first_written before (most_cells + k) (kind_at f k) 0 0 0 long (omega arith);
          uses_are = second_written before (most_cells + k) (kind_at f k) 0 0 0 long (omega arith);
        }

    other : i < k → Fresh f before i → Fresh f after i
    other l x =
        let a = agree_with_cell before (most_cells + k) (kind_at f k) 0 0 0 in
        record {
          cell_is = λ fits. a.words_same (4 * (most_cells + i)) (omega arith) ∙ x.cell_is fits;
          lifts_are = a.words_same (4 * (most_cells + i) + 1) (omega arith) ∙ x.lifts_are;
          uses_are = a.words_same (4 * (most_cells + i) + 2) (omega arith) ∙ x.uses_are;
        }

    go : (t : Bool) → eqb i k ≡ t → (i < k → Fresh f before i) → Fresh f after i
    go true q x = subst (λ j. Fresh f after j) (sym (eqb-true i k q)) this
    go false q x =
        let l : i < k = omega (arith, eqb-false i k q) in
        other l (x l)

-- The type section as the codes that are loaded.
module _ (f : List ℕ) (L P : ℕ) where
  abbrev pub section : List ℕ
  section = take P (drop (6 + L) f)

  code_is : (i : ℕ) → i < P → codes_of section i ≡ kind_at f (L + i)
  unfolding kind_at
  code_is i h =
      get_or-take P (drop (6 + L) f) i 0 h
      ∙ get_or-drop (6 + L) f i 0
      ∙ ap (λ j. get_or f j 0) (omega arith)

  pub section_length : 6 + L + P ≤ length f → length section ≡ P
  section_length h = rw (length-take, length-drop) (omega arith)

  -- A type that occurs in the section occurs among the codes.
  occurs : {e n : ℕ} {A : Ty} (q : ℕ) → e ≡ L + q → TypeAt f e A n → n ≤ L + P → CodesAt (codes_of section) q A
  occurs q at (bit_at k) h =
      codes_wire (code_is q (omega arith) ∙ ap (kind_at f) (sym at) ∙ k)
  occurs q at (qubit_at k) h =
      codes_wire (code_is q (omega arith) ∙ ap (kind_at f) (sym at) ∙ k)
  occurs q at (unit_at k) h =
      codes_unit (code_is q (omega arith) ∙ ap (kind_at f) (sym at) ∙ k)
  occurs q at (reusable_at {A = A} k d) h =
      let end = type_end d in
      codes_one (code_is q (omega arith) ∙ ap (kind_at f) (sym at) ∙ k) (occurs (suc q) (omega arith) d h)
  occurs q at (tensor_at {m = m} {A = A} {B = B} k d d') h =
      let end = type_end d in
      let end' = type_end d' in
      let b = entries_positive B in
      codes_two made_pair (code_is q (omega arith) ∙ ap (kind_at f) (sym at) ∙ k)
      (occurs (suc q) (omega arith) d (omega arith))
      (occurs (suc q + entries A) (omega arith) d' h)
  occurs q at (function_at {m = m} {A = A} {B = B} k d d') h =
      let end = type_end d in
      let end' = type_end d' in
      let b = entries_positive B in
      codes_two made_function (code_is q (omega arith) ∙ ap (kind_at f) (sym at) ∙ k)
      (occurs (suc q) (omega arith) d (omega arith))
      (occurs (suc q + entries A) (omega arith) d' h)
  occurs q at (circ_at {m = m} {A = A} {B = B} k d d') h =
      let end = type_end d in
      let end' = type_end d' in
      let b = entries_positive B in
      codes_two made_circuit (code_is q (omega arith) ∙ ap (kind_at f) (sym at) ∙ k)
      (occurs (suc q) (omega arith) d (omega arith))
      (occurs (suc q + entries A) (omega arith) d' h)

-- The memory of an accepted file, loaded in three steps: the gates, the type section, the labels.
module _ {f : List ℕ} {labels : List Wire} {M : Term} (file : AcceptedFile f labels M)
    (w w₁ w₂ w₃ : List ℕ) (cells : ℕ)
    (room : least_words ≤ length w) (room₁ : least_words ≤ length w₁)
    (first : w₁ ≡ load_all_gates w)
    (second : w₂ ≡ load_codes w₁ gate_cells (codes_of (section f (label_count f) (type_count f))) 0 (type_count f))
    (third : w₃ ≡ bindings_loaded f w₂ most_labels)
    (cells_are : cells ≡ gate_cells + type_count f) where
  room₂ : least_words ≤ length w₂
  room₂ =
      let codes = codes_of (section f (label_count f) (type_count f)) in
      omega (arith, ap length second, length_load_codes w₁ gate_cells codes 0 (type_count f))

  room₃ : least_words ≤ length w₃
  room₃ = let r = room₂ in omega (arith, ap length third, length_bindings f w₂ most_labels)

  few_cells : cells ≤ most_cells
  few_cells = omega (arith, gate_cells_lem, file.types_fit)

  -- The gates' types and the file's types are cells.
  gates_first : GatesLoaded w₁ gate_cells
  gates_first = subst (λ x. GatesLoaded x gate_cells) (sym first) (gates_loaded w (omega (arith, gate_cells_lem)))

  gates_agree : Agree w₁ w₂ gate_cells
  gates_agree =
      subst (λ x. Agree w₁ x gate_cells) (sym second)
      (agree_load_codes w₁ gate_cells (codes_of (section f (label_count f) (type_count f))) 0 (type_count f))

  types_second : (p : ℕ) (A : Ty) → TypeAtPosition f p A → Denotes w₂ cells (type_cell f p) A
  types_second p A (at_position {n = n} d h) =
      let fits = file.types_fit in
      let end = type_end d in
      let some_one = entries_positive A in
      let codes = codes_of (section f (label_count f) (type_count f)) in
      let small = gate_cells_lem in
      let there : gate_cells + (0 + type_count f - 1 - p) ≡ type_cell f p = omega arith in
      subst (λ x. Denotes x cells (type_cell f p) A) (sym second)
      (subst (λ n. Denotes (load_codes w₁ gate_cells codes 0 (type_count f)) n (type_cell f p) A) (sym cells_are)
      (subst (λ i. Denotes (load_codes w₁ gate_cells codes 0 (type_count f)) (gate_cells + type_count f) i A) there
      (codes_denote w₁ gate_cells codes 0 (type_count f) (omega arith) (omega arith) p A
      (occurs f (label_count f) (type_count f) p refl d h)
      (omega arith)
      (omega arith)
      (omega arith))))

  bindings_agree : Agree w₂ w₃ cells
  bindings_agree =
      agree_less cells few_cells (subst (λ x. Agree w₂ x most_cells) (sym third) (agree_bindings f w₂ most_labels))

  all_loaded : Loaded f w₃ cells
  all_loaded =
      record {
        types = λ p A t. denotes_kept bindings_agree (omega arith) (types_second p A t);
        gates =
            record {
              bit = gate_kept gates_first.bit;
              qubit = gate_kept gates_first.qubit;
              unit_type = gate_kept gates_first.unit_type;
              gate = λ g T U q. gate_kept (gates_first.gate g T U q);
            };
      }
    where
      gate_kept : {i : ℕ} {A : Ty} → Denotes w₁ gate_cells i A → Denotes w₃ cells i A
      gate_kept d = denotes_kept bindings_agree (omega arith) (denotes_kept gates_agree (omega arith) d)

  -- The labels stand in their bindings.
  binding_fresh : (i : ℕ) → i < most_labels → Fresh f w₃ i
  binding_fresh i h = subst (λ x. Fresh f x i) (sym third) (binding_loaded f w₂ most_labels i h (omega arith) room₂)

  wire_cell_is : (α : Wire) → Denotes w₃ cells (wire_code α) (wire α)
  wire_cell_is Bit = all_loaded.gates.bit
  wire_cell_is Qubit = all_loaded.gates.qubit

  code_fits : (α : Wire) → wire_code α < 65536
  code_fits Bit = omega arith
  code_fits Qubit = omega arith

  label_binding : (i : ℕ) (α : Wire) → i < most_labels → nth labels i ≡ some α → Binding w₃ cells i (wire α under 0)
  label_binding i α h q =
      let k : kind_at f i ≡ wire_code α = file.label_kinds_are i α q in
      let fresh = binding_fresh i h in
      let fits = code_fits α in
      record {
        denotes =
            subst (λ c. Denotes w₃ cells c (wire α)) (sym (fresh.cell_is (omega arith) ∙ k)) (wire_cell_is α);
        lifts = fresh.lifts_are;
      }

  first_environment : Environment f w₃ (first_term f) cells labels []
  first_environment =
      record {
        room = room₃;
        labels_fit = omega (arith, file.labels_fit, file.label_count_is);
        loaded = all_loaded;
        slots = λ i b q. slot_of i b (nth labels i) refl q;
        uses_fit = λ i h. omega (arith, (binding_fresh i (omega arith)).uses_are);
      }
    where
      slot_of : (i : ℕ) (b : Binder) (o : Option Wire) → nth labels i ≡ o
          → map (λ α. wire α under 0) o ≡ some b
          → Binding w₃ cells i b
      slot_of i b none n q = absurd (some-ne-none b (sym q))
      slot_of i b (some α) n q =
          let this : (wire α under 0) ≡ b = cc in
          let below : i < length labels = nth_some_within labels i n in
          subst (λ x. Binding w₃ cells i x) this
          (label_binding i α (omega (arith, file.labels_fit, file.label_count_is)) n)

  -- The program's term is ready to be checked.
  pub program_ready : Ready f w₃ (first_term f) 0 0 cells labels [] M (entry_count f)
  program_ready =
      let end = term_end file.term_is_at in
      let few = gate_cells_lem in
      let l = file.labels_fit in
      let t = file.types_fit in
      let n = file.terms_fit in
      record {
        length_is = file.length_is;
        entries_fit = omega arith;
        term_is_at = file.term_is_at;
        ends = omega arith;
        closed = file.closed;
        labels_are_below = subst (λ k. Truth (labels_below k M)) (sym file.label_count_is) file.labels_are_below;
        gates_are_known = file.gates_are_known;
        binders_are = refl;
        cells_fit = omega arith;
        binders_fit = omega arith;
        lifts_fit = omega arith;
        environment = first_environment;
      }

  -- No label has been used yet.
  pub labels_fresh : (ℓ : ℕ) → ℓ < most_labels → binding_uses w₃ ℓ ≡ 0
  labels_fresh ℓ h = (binding_fresh ℓ h).uses_are

-- The arm of the inference for nodes without parts.
use Rattle.std.specs.Prelude.{ℕ, suc, ◌+◌, ◌*◌, ◌≤◌, ◌<◌, ◌%◌, ◌≡◌, refl, Bool, true, false, List, T as Truth, eqb, length, set}
use Rattle.std.specs.Prelude.{Option as RustOption, None, Ok}
use Rattle.std.proofs.Common.{add-one, arith, sym, ◌∙◌, ap, subst, ltb→lt, length-set, get_or-set_same, get_or-set_other, eqb-true}
use Rattle.std.proofs.Math.Option.{Option, none, some, map}
use Rattle.std.proofs.lemmas.Bool.{eqb-false}
use Rattle.rules.specs.Parts.{parts_of_kind}
use Rattle.rules.specs.Kinds.{variable_kind, label_kind, gate_term_kind, unit_value_kind}
use Rattle.rules.specs.Types.{Wire, wire}
use Rattle.rules.specs.Gates.{GateType, ◌to◌, nth, gate_type, is_gate, is_some}
use Rattle.rules.specs.Terms.{Term, variable, label, gate}
use Rattle.rules.specs.Circuits.{one_if}
use Rattle.rules.specs.Inference.{gate_node_type}
use Rattle.program.specs.Format.{kind_at, argument_at}
use Rattle.check_types.proofs.Laws.Cells.{denotes_kept}
use Rattle.check_types.specs.GateCells.{cell_of_unit, gate_cell}
use Rattle.check_program.specs.declared.Typed.{Typed}
use Rattle.check_program.specs.Checking.{Binder, ◌under◌, check_term, crosses, if_so, ruled, variable_found, label_found}
use Rattle.check_types.specs.Cells.{Denotes}
use Rattle.words.specs.Found.{option_of}
use Rattle.check_program.specs.Layout.{binding_cell, binding_lifts, binding_uses, held, counted, variable_binding, most_cells}
use Rattle.rules.specs.Sizes.{most_labels}
use Rattle.rules.proofs.Laws.Wires.{nth_within}
use Rattle.check_program.specs.Scope.{Binding, type_of, lifts_of, Kept}
use Rattle.check_program.proofs.Laws.Scope.{kept_less, kept_refl, held_variable, held_label, held_below}
use Rattle.check_program.proofs.Laws.Heads.{of_variable, of_label, of_gate, of_unit, Shaped, shaped_leaf, shaped_one, shaped_two}
use Rattle.check_program.proofs.Laws.Heads.{shaped, no_parts, one_part, two_parts}
use Rattle.check_program.specs.Inferring.{typed_as, Ready, Gets, Answered, Possible, Meets, binding_at, used_once, SaysUsed}
use Rattle.check_program.specs.Inferring.{SaysCrosses}

-- A use of a binding.
pub binding_used : (w w' : List ℕ) (i e lifts cells cell bound uses : ℕ) (crossing : RustOption ℕ)
    → cell ≡ binding_cell w i
    → bound ≡ binding_lifts w i
    → uses ≡ binding_uses w i
    → binding_uses w i < 65535
    → w' ≡ set w (4 * (most_cells + i) + 2) ((uses + 1) % 65536)
    → SaysCrosses w cell bound lifts e crossing
    → SaysUsed w w' i e lifts cells (typed_as cell (e + 1) cells None crossing)
binding_used w w' i e lifts cells cell bound uses crossing c b u fits is says n (A under l) slot =
    let count : (uses + 1) % 65536 ≡ binding_uses w i + 1 = omega arith in
    let lifted : bound ≡ l = b ∙ slot.lifts in
    record {
      words_are = is ∙ ap (λ x. set w (4 * (most_cells + i) + 2) x) count;
      answer =
          ap (λ x. typed_as x (e + 1) cells None crossing) c
          ∙ ap (λ x. typed_as (binding_cell w i) (e + 1) cells None x)
          (says n A (subst (λ j. Denotes w n j A) (sym c) slot.denotes)
          ∙ ap (λ x. option_of (if_so (crosses A x lifts) e)) lifted);
    }

gate_there : (o : Option GateType) → Truth (is_some o) → (g : GateType) × (o ≡ some g)
gate_there none t = absurd t
gate_there (some g) t = (g, refl)

known_gate : (x : ℕ) → Truth (is_gate x) → (g : GateType) × (gate_type x ≡ some g)
unfolding is_gate
known_gate x t = gate_there (gate_type x) t

-- A use that is counted keeps all else.
pub kept_used : (w : List ℕ) (s cells d : ℕ)
    → 4 * (most_cells + s) + 4 ≤ length w → cells ≤ most_cells
    → Kept w (used_once w s) cells d (λ i. one_if (eqb i s))
kept_used w s cells d fits c =
    record {
      agree = record { words_same = λ k h. get_or-set_other w (4 * (most_cells + s) + 2) k (binding_uses w s + 1) 0 (omega arith) };
      length_kept = length-set w (4 * (most_cells + s) + 2) (binding_uses w s + 1);
      cells_same = λ i h. get_or-set_other w (4 * (most_cells + s) + 2) (4 * (most_cells + i)) (binding_uses w s + 1) 0 (omega arith);
      lifts_same = λ i h. get_or-set_other w (4 * (most_cells + s) + 2) (4 * (most_cells + i) + 1) (binding_uses w s + 1) 0 (omega arith);
      uses_counted = λ i h. uses_at i (eqb i s) refl;
    }
  where
    uses_at : (i : ℕ) (t : Bool) → eqb i s ≡ t → binding_uses (used_once w s) i ≡ binding_uses w i + one_if (eqb i s)
    uses_at i true q =
        let same : i ≡ s = eqb-true i s q in
        rw (q, same) (get_or-set_same w (4 * (most_cells + s) + 2) (binding_uses w s + 1) 0 (omega arith))
    uses_at i false q =
        let other : (i ≡ s → ⊥) = eqb-false i s q in
        rw q
        (get_or-set_other w (4 * (most_cells + s) + 2) (4 * (most_cells + i) + 2) (binding_uses w s + 1) 0 (λ z. other (omega arith))
        ∙ omega arith)

-- What is used from a binding has the binding's type.
binding_answers : {f w w' : List ℕ} {e binders lifts cells : ℕ} {L : List Wire} {Γ : List Binder} {n : ℕ} {r : Typed}
    (M : Term) (s : ℕ) (b : Binder)
    → held L Γ s ≡ some b
    → ((i : ℕ) → one_if (eqb i s) ≡ counted (length Γ) i M)
    → Ready f w e binders lifts cells L Γ M n
    → SaysUsed w w' s e lifts cells r
    → Gets w w' cells Γ M (suc e) (type_of b) none (if_so (crosses (type_of b) (lifts_of b) lifts) e) (Ok r)
binding_answers {f} {w} {w'} {e} {binders} {lifts} {cells} {L} {Γ} {r = r} M s b q same ready says =
    let env = ready.environment in
    let slot : Binding w cells s b = env.slots s b q in
    let used = says cells b slot in
    let below : s < most_labels + length Γ = held_below L Γ s b env.labels_fit q in
    let c = ready.cells_fit in
    let d = ready.binders_fit in
    let room = env.room in
    let place = if_so (crosses (type_of b) (lifts_of b) lifts) e in
    let kept =
    kept_less cells (most_labels + length Γ) (λ i. counted (length Γ) i M) (omega arith) (omega arith) (λ i h. same i)
    (kept_used w s cells (most_labels + length Γ) (omega arith) (omega arith))
    in
    subst (λ x. Gets w x cells Γ M (suc e) (type_of b) none place (Ok r)) (sym used.words_are)
    (record {
      cell = binding_cell w s;
      cells' = cells;
      answer = ap Ok used.answer ∙ ap (λ x. Ok (typed_as (binding_cell w s) x cells None (option_of place))) (add-one e);
      at_least = omega arith;
      at_most = omega arith;
      denotes = denotes_kept kept.agree (omega arith) slot.denotes;
      kept = kept;
    })

-- The binding of a variable or label.
binding_of_variable : (f : List ℕ) (e binders x : ℕ)
    → kind_at f e ≡ variable_kind → argument_at f e ≡ x → binding_at f e binders ≡ variable_binding binders x
unfolding binding_at
binding_of_variable f e binders x k a = rw (k, a)

binding_of_label : (f : List ℕ) (e binders x : ℕ) → kind_at f e ≡ label_kind → argument_at f e ≡ x → binding_at f e binders ≡ x
unfolding binding_at
binding_of_label f e binders x k a = rw (k, a)

module _ {f w w' : List ℕ} {e binders lifts cells : ℕ} {L : List Wire} {Γ : List Binder} {n : ℕ} {r : Typed} (x : ℕ) where
  variable_answers : Ready f w e binders lifts cells L Γ (variable x) n
      → SaysUsed w w' (variable_binding (length Γ) x) e lifts cells r
      → Answered w w' cells Γ (variable x) (suc e) (variable_found e lifts (nth Γ x)) (Ok r)
  variable_answers ready says = go found.0 found.1
    where
      found : (b : Binder) × (nth Γ x ≡ some b)
      found = nth_within Γ x (ltb→lt x (length Γ) ready.closed)

      go : (b : Binder) → nth Γ x ≡ some b
          → Answered w w' cells Γ (variable x) (suc e) (variable_found e lifts (nth Γ x)) (Ok r)
      go (A under bound) q =
          rw q
          (binding_answers (variable x) (variable_binding (length Γ) x) (A under bound) (held_variable L Γ x (A under bound) q)
          (λ i. refl) ready says)

  label_answers : Ready f w e binders lifts cells L Γ (label x) n
      → SaysUsed w w' x e lifts cells r
      → Answered w w' cells Γ (label x) (suc e) (label_found e lifts (nth L x)) (Ok r)
  label_answers ready says =
      rw found.1
      (binding_answers (label x) x (wire found.0 under 0)
      (held_label L Γ x found.0 ready.environment.labels_fit found.1)
      (λ i. refl) ready says)
    where
      found : (α : Wire) × (nth L x ≡ some α)
      found = nth_within L x (ltb→lt x (length L) ready.labels_are_below)

-- A gate has its type.
gate_answers : {f w : List ℕ} {e binders lifts cells : ℕ} {L : List Wire} {Γ : List Binder} {n : ℕ} (x : ℕ)
    → Ready f w e binders lifts cells L Γ (gate x) n
    → Answered w w cells Γ (gate x) (suc e) (ruled e (map gate_node_type (gate_type x)) none none)
    (Ok (typed_as (gate_cell x) (suc e) cells None None))
gate_answers {f} {w} {e} {binders} {lifts} {cells} {L} {Γ} x ready = go found.0 found.1
  where
    found : (g : GateType) × (gate_type x ≡ some g)
    found = known_gate x ready.gates_are_known

    go : (g : GateType) → gate_type x ≡ some g
        → Answered w w cells Γ (gate x) (suc e) (ruled e (map gate_node_type (gate_type x)) none none)
        (Ok (typed_as (gate_cell x) (suc e) cells None None))
    go (T to U) q =
        rw q
        (record {
          cell = gate_cell x;
          cells' = cells;
          answer = refl;
          at_least = omega arith;
          at_most = omega arith;
          denotes = ready.environment.loaded.gates.gate x T U q;
          kept = kept_refl w cells (most_labels + length Γ);
        })

-- A leaf answers what the check finds: a gate, unit's value, a variable or label.
pub gate_meets : (f w : List ℕ) (e binders lifts cells : ℕ)
    → kind_at f e ≡ gate_term_kind
    → Meets f w w e binders lifts cells (Ok (typed_as (gate_cell (argument_at f e)) (e + 1) cells None None))
gate_meets f w e binders lifts cells kind L Γ M n ready = go (shaped ready.term_is_at) ready
  where
    go : {M' : Term} {n' : ℕ} → Shaped f e M' n' → Ready f w e binders lifts cells L Γ M' n'
        → Answered w w cells Γ M' n' (check_term L Γ lifts e M') (Ok (typed_as (gate_cell (argument_at f e)) (e + 1) cells None None))
    go (shaped_leaf (of_gate x) k a) ready =
        subst
        (λ r. Answered w w cells Γ (gate x) (suc e) (check_term L Γ lifts e (gate x)) r)
        (ap (λ y. Ok (typed_as (gate_cell y) (suc e) cells None None)) (sym a)
        ∙ ap (λ y. Ok (typed_as (gate_cell (argument_at f e)) y cells None None)) (sym (add-one e)))
        (gate_answers x ready)
    go (shaped_leaf (of_variable x) k a) ready = absurd (omega arith)
    go (shaped_leaf (of_label x) k a) ready = absurd (omega arith)
    go (shaped_leaf of_unit k a) ready = absurd (omega arith)
    go (shaped_one h k named d) ready =
        absurd (omega (arith, no_parts (kind_at f e) (of_gate 0) kind, one_part (kind_at f e) h k))
    go (shaped_two h k d d') ready =
        absurd (omega (arith, no_parts (kind_at f e) (of_gate 0) kind, two_parts (kind_at f e) h k))

pub unit_meets : (f w : List ℕ) (e binders lifts cells : ℕ)
    → kind_at f e ≡ unit_value_kind
    → Meets f w w e binders lifts cells (Ok (typed_as cell_of_unit (e + 1) cells None None))
unit_meets f w e binders lifts cells kind L Γ M n ready = go (shaped ready.term_is_at) ready
  where
    go : {M' : Term} {n' : ℕ} → Shaped f e M' n' → Ready f w e binders lifts cells L Γ M' n'
        → Answered w w cells Γ M' n' (check_term L Γ lifts e M') (Ok (typed_as cell_of_unit (e + 1) cells None None))
    go (shaped_leaf of_unit k a) ready =
        record {
          cell = cell_of_unit;
          cells' = cells;
          answer = ap (λ y. Ok (typed_as cell_of_unit y cells None None)) (add-one e);
          at_least = omega arith;
          at_most = omega arith;
          denotes = ready.environment.loaded.gates.unit_type;
          kept = kept_refl w cells (most_labels + length Γ);
        }
    go (shaped_leaf (of_variable x) k a) ready = absurd (omega arith)
    go (shaped_leaf (of_label x) k a) ready = absurd (omega arith)
    go (shaped_leaf (of_gate x) k a) ready = absurd (omega arith)
    go (shaped_one h k named d) ready =
        absurd (omega (arith, no_parts (kind_at f e) of_unit kind, one_part (kind_at f e) h k))
    go (shaped_two h k d d') ready =
        absurd (omega (arith, no_parts (kind_at f e) of_unit kind, two_parts (kind_at f e) h k))

module _ (f w : List ℕ) (e binders lifts cells : ℕ) (parts : parts_of_kind (kind_at f e) ≡ 0)
    (no_gate : kind_at f e ≡ gate_term_kind → ⊥) (no_unit : kind_at f e ≡ unit_value_kind → ⊥) where
  pub binding_meets : (w' : List ℕ) (r : Typed)
      → SaysUsed w w' (binding_at f e binders) e lifts cells r
      → Meets f w w' e binders lifts cells (Ok r)
  binding_meets w' r says L Γ M n ready = go (shaped ready.term_is_at) ready
    where
      at_slot : (s : ℕ) → binding_at f e binders ≡ s → SaysUsed w w' s e lifts cells r
      at_slot s q = subst (λ i. SaysUsed w w' i e lifts cells r) q says

      go : {M' : Term} {n' : ℕ} → Shaped f e M' n' → Ready f w e binders lifts cells L Γ M' n'
          → Answered w w' cells Γ M' n' (check_term L Γ lifts e M') (Ok r)
      go (shaped_leaf (of_gate x) k a) ready = absurd (no_gate k)
      go (shaped_leaf of_unit k a) ready = absurd (no_unit k)
      go (shaped_leaf (of_variable x) k a) ready =
          variable_answers x ready
          (at_slot (variable_binding (length Γ) x)
          (binding_of_variable f e binders x k a ∙ ap (λ d. variable_binding d x) ready.binders_are))
      go (shaped_leaf (of_label x) k a) ready =
          label_answers x ready (at_slot x (binding_of_label f e binders x k a))
      go (shaped_one h k named d) ready = absurd (omega (arith, one_part (kind_at f e) h k))
      go (shaped_two h k d d') ready = absurd (omega (arith, two_parts (kind_at f e) h k))

  -- The binding is there, and its uses are few enough to be counted.
  pub binding_fits : Possible f w e binders lifts cells
      → (binding_at f e binders < most_labels + binders) × (binding_uses w (binding_at f e binders) ≤ e)
  binding_fits p = go (shaped p.4.term_is_at) p.4
    where
      fits : {M' : Term} {n' : ℕ} (s : ℕ)
          → binding_at f e binders ≡ s → s < most_labels + binders
          → Ready f w e binders lifts cells p.0 p.1 M' n'
          → (binding_at f e binders < most_labels + binders) × (binding_uses w (binding_at f e binders) ≤ e)
      fits s q h ready =
          rw q (h, ready.environment.uses_fit s (let b = ready.binders_are in omega arith))

      go : {M' : Term} {n' : ℕ} → Shaped f e M' n' → Ready f w e binders lifts cells p.0 p.1 M' n'
          → (binding_at f e binders < most_labels + binders) × (binding_uses w (binding_at f e binders) ≤ e)
      go (shaped_leaf (of_gate x) k a) ready = absurd (no_gate k)
      go (shaped_leaf of_unit k a) ready = absurd (no_unit k)
      go (shaped_leaf (of_variable x) k a) ready =
          let below : x < length p.1 = ltb→lt x (length p.1) ready.closed in
          let b = ready.binders_are in
          fits (variable_binding binders x) (binding_of_variable f e binders x k a) (omega arith) ready
      go (shaped_leaf (of_label x) k a) ready =
          let below : x < length p.0 = ltb→lt x (length p.0) ready.labels_are_below in
          let few = ready.environment.labels_fit in
          fits x (binding_of_label f e binders x k a) (omega arith) ready
      go (shaped_one h k named d) ready = absurd (omega (arith, one_part (kind_at f e) h k))
      go (shaped_two h k d d') ready = absurd (omega (arith, two_parts (kind_at f e) h k))

-- One law an arm of the inference: the answer of a node from what its parts and its rule answered.
use Rattle.std.specs.Prelude.{ℕ, suc, ◌+◌, ◌≤◌, ◌<◌, ◌≡◌, List, ◌∷◌, length, Option as RustOption, Ok, Err}
use Rattle.std.specs.Option.{option_or}
use Rattle.std.proofs.Common.{arith, sym, ◌∙◌, subst}
use Rattle.std.proofs.Math.Path.{refl, ap}
use Rattle.std.proofs.Math.Option.{Option, none, some}
use Rattle.std.proofs.Math.Dec.{T as Truth}
use Rattle.rules.specs.Types.{Wire, Ty}
use Rattle.rules.specs.Terms.{Term}
use Rattle.rules.specs.Sizes.{nodes}
use Rattle.rules.specs.Inference.{uses}
use Rattle.program.specs.Format.{kind_at, argument_at}
use Rattle.program.specs.Trees.{TypeAtPosition, TermAt, closed_under, labels_below}
use Rattle.check_types.specs.Cells.{Denotes, Room}
use Rattle.check_types.proofs.Laws.Cells.{denotes_kept}
use Rattle.check_program.specs.declared.Typed.{Typed}
use Rattle.check_program.specs.Checking.{Binder, ◌under◌, Checked, typed, fault, check_term, used_wrongly, if_so}
use Rattle.check_program.specs.Checking.{earlier, followed, ruled}
use Rattle.words.specs.Found.{option_of}
use Rattle.check_program.specs.Layout.{binding_cell, binding_uses, type_cell, counted, variable_binding}
use Rattle.check_program.specs.Layout.{most_binders, most_cells}
use Rattle.rules.specs.Sizes.{most_labels}
use Rattle.check_program.specs.Scope.{Environment, Kept, pushed}
use Rattle.check_program.proofs.Laws.Scope.{environment_pushed, kept_pushed, kept_trans, kept_less, kept_cell}
use Rattle.check_program.proofs.Laws.Scope.{kept_refl, binding_kept, binding_pushed, uses_pushed, environment_later}
use Rattle.check_program.proofs.Laws.Counting.{some_node, counted_variable}
use Rattle.check_program.specs.Heads.{OnePart, of_abstraction, of_lift, of_force, of_box, one_kind, one_rule}
use Rattle.check_program.specs.Heads.{misuse_at_abstraction, TwoParts, of_application, of_pair, of_let, of_apply}
use Rattle.check_program.specs.Heads.{two_kind}
use Rattle.check_program.proofs.Laws.Heads.{one, binders_in, lifts_in, Named, check_one, one_nodes, one_closed}
use Rattle.check_program.proofs.Laws.Heads.{one_labels, one_gates, one_counted, one_binders, one_lifts}
use Rattle.check_program.specs.Inferring.{Inferred, typed_as, Ready, Gets, Answered, concludes, entered, binders_inside}
use Rattle.check_program.specs.Inferring.{lifts_inside, NamedCell, NewBinding, Ended, EndsOne}

-- The earlier of two places, as the code finds it.
pub earlier_as : (p q : Option ℕ) → option_of (earlier p q) ≡ option_or (option_of p) (option_of q)
earlier_as none q = refl
earlier_as (some p) q = refl

-- What a part's answer holds where it has a type.
pub typed_is : {w w' : List ℕ} {cells : ℕ} {Γ : List Binder} {M : Term} {n : ℕ} {A : Ty} {u v : Option ℕ} {r : Inferred}
    (t : Typed) → r ≡ Ok t → (g : Gets w w' cells Γ M n A u v r) → t ≡ typed_as g.cell n g.cells' (option_of u) (option_of v)
typed_is t q g = cc (q, g.answer)

-- The end of a node of one part, by the answer of the part: its 16 is handed on.
abbrev pub EndsFirst : List ℕ → List ℕ → List ℕ → ℕ → ℕ → Inferred → Inferred → Type 0
EndsFirst f w w' e binders (Ok part) r = EndsOne f w w' e binders part r
EndsFirst f w w' e binders (Err x) r = r ≡ Err x

-- The binders, the lifts and the memory with which the part of a node of one part is looked at.
pub inside_binders : (h : OnePart) (k binders lifts : ℕ) (Γ : List Binder)
    → k ≡ one_kind h → binders ≡ length Γ → binders_inside k binders ≡ length (binders_in h lifts Γ)
inside_binders (of_abstraction A) k binders lifts Γ q b = rw q (omega arith)
inside_binders of_lift k binders lifts Γ q b = rw q b
inside_binders of_force k binders lifts Γ q b = rw q b
inside_binders (of_box T) k binders lifts Γ q b = rw q b

pub inside_lifts : (h : OnePart) (k lifts : ℕ) → k ≡ one_kind h → lifts_inside k lifts ≡ lifts_in h lifts
inside_lifts (of_abstraction A) k lifts q = rw q
inside_lifts of_lift k lifts q = rw q (omega arith)
inside_lifts of_force k lifts q = rw q
inside_lifts (of_box T) k lifts q = rw q

-- The memory as a node of one part leaves it to its part.
pub inside_memory : OnePart → List ℕ → List ℕ → ℕ → ℕ → ℕ → List ℕ
inside_memory (of_abstraction A) f w e binders lifts = pushed w binders (type_cell f (argument_at f e)) lifts
inside_memory of_lift f w e binders lifts = w
inside_memory of_force f w e binders lifts = w
inside_memory (of_box T) f w e binders lifts = w

pub entered_one : (h : OnePart) (f w : List ℕ) (e binders lifts : ℕ)
    → kind_at f e ≡ one_kind h → entered f w e binders lifts ≡ inside_memory h f w e binders lifts
unfolding entered inside_memory
entered_one (of_abstraction A) f w e binders lifts q = rw q
entered_one of_lift f w e binders lifts q = rw q
entered_one of_force f w e binders lifts q = rw q
entered_one (of_box T) f w e binders lifts q = rw q

pub entered_two : (h : TwoParts) (f w : List ℕ) (e binders lifts : ℕ)
    → kind_at f e ≡ two_kind h → entered f w e binders lifts ≡ w
unfolding entered
entered_two of_application f w e binders lifts q = rw q
entered_two of_pair f w e binders lifts q = rw q
entered_two of_let f w e binders lifts q = rw q
entered_two of_apply f w e binders lifts q = rw q

inside_environment : (h : OnePart) {f w : List ℕ} {e cells : ℕ} {L : List Wire} {Γ : List Binder} (binders lifts : ℕ)
    → binders ≡ length Γ → length Γ < most_binders → cells ≤ most_cells → lifts < 65536
    → Named f e h
    → Environment f w e cells L Γ
    → Environment f (inside_memory h f w e binders lifts) e cells L (binders_in h lifts Γ)
unfolding inside_memory
inside_environment (of_abstraction A) {f} {w} {e} binders lifts b fits c l named env =
    environment_pushed binders (type_cell f (argument_at f e)) lifts A b (omega arith) c l env
    (env.loaded.types (argument_at f e) A named)
inside_environment of_lift binders lifts b fits c l named env = env
inside_environment of_force binders lifts b fits c l named env = env
inside_environment (of_box T) binders lifts b fits c l named env = env

inside_kept : (h : OnePart) (f w : List ℕ) (e binders lifts cells : ℕ)
    → cells ≤ most_cells → Kept w (inside_memory h f w e binders lifts) cells (most_labels + binders) (λ i. 0)
unfolding inside_memory
inside_kept (of_abstraction A) f w e binders lifts cells c =
    kept_pushed w binders (type_cell f (argument_at f e)) lifts cells c
inside_kept of_lift f w e binders lifts cells c = kept_refl w cells (most_labels + binders)
inside_kept of_force f w e binders lifts cells c = kept_refl w cells (most_labels + binders)
inside_kept (of_box T) f w e binders lifts cells c = kept_refl w cells (most_labels + binders)

-- So the part is ready.
module _ {f w : List ℕ} {e binders lifts cells : ℕ} {L : List Wire} {Γ : List Binder} {n : ℕ} (h : OnePart) (M : Term)
    (kind : kind_at f e ≡ one_kind h) (named : Named f e h) (part : TermAt f (suc e) M n)
    (ready : Ready f w e binders lifts cells L Γ (one h M) n) where
  pub one_ready
      : Ready f (inside_memory h f w e binders lifts) (suc e) (length (binders_in h lifts Γ)) (lifts_in h lifts) cells L
      (binders_in h lifts Γ) M n
  one_ready =
      let size : nodes (one h M) ≡ 1 + nodes M = one_nodes h M in
      let few = one_binders h M lifts Γ in
      let fewer = one_lifts h M lifts in
      let enough = some_node M in
      let c = ready.cells_fit in
      let b = ready.binders_fit in
      let l = ready.lifts_fit in
      record {
        length_is = ready.length_is;
        entries_fit = ready.entries_fit;
        term_is_at = part;
        ends = ready.ends;
        closed = one_closed h M lifts Γ ready.closed;
        labels_are_below = one_labels h M (length L) ready.labels_are_below;
        gates_are_known = one_gates h M ready.gates_are_known;
        binders_are = refl;
        cells_fit = omega arith;
        binders_fit = omega arith;
        lifts_fit = omega arith;
        environment =
            environment_later (suc e) (omega arith)
            (inside_environment h binders lifts ready.binders_are (omega arith) (omega arith) (omega arith) named
            ready.environment);
      }

-- What a rule's answer makes of a node whose parts have left the memory w₂, of which all that was in w is kept.
pub rule_ends : {w w₂ w₃ : List ℕ} {cells cells₂ : ℕ} {count : ℕ → ℕ} {e n : ℕ} {U W : RustOption ℕ} {r : Inferred}
    (Γ : List Binder) (M : Term) (u v : Option ℕ) (o : Option Ty)
    → cells ≤ cells₂
    → cells₂ < most_cells
    → cells₂ + 1 ≤ cells + nodes M
    → Kept w w₂ cells (most_labels + length Γ) count
    → ((i : ℕ) → i < most_labels + length Γ → count i ≡ counted (length Γ) i M)
    → U ≡ option_of u
    → W ≡ option_of v
    → Ended w₂ w₃ cells₂ e n o U W r
    → Answered w w₃ cells Γ M n (ruled e o u v) r
rule_ends {e = e} {n = n} {U = U} {W = W} Γ M u v none more few fits kept same p q ended =
    ended.answer ∙ ap (λ x. concludes x e n U W) ended.given.answer
rule_ends {w} {w₂} {w₃} {cells} {cells₂} {count} {e} {n} {U} {W} Γ M u v (some C) more few fits kept same p q ended =
    let gave = ended.given in
    let least = gave.at_least in
    let most = gave.at_most in
    record {
      cell = gave.cell;
      cells' = gave.cells;
      answer =
          ended.answer
          ∙ ap (λ x. concludes x e n U W) gave.answer
          ∙ ap (λ x. Ok (typed_as gave.cell n gave.cells x W)) p
          ∙ ap (λ x. Ok (typed_as gave.cell n gave.cells (option_of u) x)) q;
      at_least = omega arith;
      at_most = omega arith;
      denotes = gave.denotes;
      kept =
          kept_less cells (most_labels + length Γ) (λ i. counted (length Γ) i M) (omega arith) (omega arith)
          (λ i below. omega (arith, same i below))
          (kept_trans kept (kept_cell cells₂ (most_labels + length Γ) few more gave.agree gave.above gave.length_kept));
    }

-- After the part of an abstraction, the binding of its variable has the type and the uses of the variable.
module _ {f w w₂ : List ℕ} {e binders lifts cells : ℕ} {L : List Wire} {Γ : List Binder} {M : Term} {n : ℕ} {A T : Ty}
    {u v : Option ℕ} {first : Inferred} (cell : ℕ)
    (b : binders ≡ length Γ) (few : length Γ < most_binders) (c : cells ≤ most_cells) (l : lifts < 65536)
    (env : Environment f w e cells L Γ) (den : Denotes w cells cell T)
    (g : Gets (pushed w binders cell lifts) w₂ cells (T under lifts ∷ Γ) M n A u v first) where
  abstraction_binding : Denotes w₂ g.cells' (binding_cell w₂ (most_labels + binders)) T
  abstraction_binding =
      (binding_kept
      g.kept.agree
      g.at_least
      (g.kept.cells_same (most_labels + binders) (omega arith))
      (g.kept.lifts_same (most_labels + binders) (omega arith))
      (binding_pushed w binders cell lifts cells T env.room (omega arith) c l den)
      ).denotes

  abstraction_uses : Truth (closed_under (suc (length Γ)) M) → Truth (labels_below (length L) M)
      → binding_uses w₂ (most_labels + binders) ≡ uses 0 M
  abstraction_uses closed below =
      let slot : most_labels + binders ≡ variable_binding (suc (length Γ)) 0 = omega arith in
      omega (
        arith,
        g.kept.uses_counted (most_labels + binders) (omega arith),
        uses_pushed w binders cell lifts env.room (omega arith),
        ap (λ i. counted (suc (length Γ)) i M) slot,
        counted_variable (suc (length Γ)) (length L) 0 M (omega arith) env.labels_fit closed below,
      )

-- A node of one part, whose part has a type.
module _ {f w : List ℕ} {e binders lifts cells : ℕ} {L : List Wire} {Γ : List Binder} {n : ℕ} (h : OnePart) (M : Term)
    (kind : kind_at f e ≡ one_kind h) (named : Named f e h)
    (ready : Ready f w e binders lifts cells L Γ (one h M) n) where
  module _ {w₂ : List ℕ} {A : Ty} {u v : Option ℕ} {first : Inferred}
      (g : Gets (inside_memory h f w e binders lifts) w₂ cells (binders_in h lifts Γ) M n A u v first) where
    part_kept : Kept w w₂ cells (most_labels + length Γ) (λ i. 0 + counted (length (binders_in h lifts Γ)) i M)
    part_kept =
        let few = one_binders h M lifts Γ in
        let c = ready.cells_fit in
        let b : binders ≡ length Γ = ready.binders_are in
        kept_trans
        (kept_less cells (most_labels + length Γ) (λ i. 0) (omega arith) (omega arith) (λ i below. refl)
        (inside_kept h f w e binders lifts cells (omega arith)))
        (kept_less cells (most_labels + length Γ) (λ i. counted (length (binders_in h lifts Γ)) i M) (omega arith) (omega arith)
        (λ i below. refl)
        g.kept)

    part_cells : (cells ≤ g.cells') × (g.cells' < most_cells) × (g.cells' + 1 ≤ cells + nodes (one h M))
    part_cells =
        let size : nodes (one h M) ≡ 1 + nodes M = one_nodes h M in
        let c = ready.cells_fit in
        let least = g.at_least in
        let most = g.at_most in
        omega arith

    part_room : Room w₂ g.cells'
    part_room =
        let few = part_cells in
        let r = ready.environment.room in
        let l = part_kept.length_kept in
        record { number_fits = omega arith; room_fits = omega arith }

    -- The type that the node names, the type of its variable, and how often that is used.
    named_cell : NamedCell f w₂ g.cells' e h
    named_cell = go h named
      where
        at_position : (T : Ty) → TypeAtPosition f (argument_at f e) T → Denotes w₂ g.cells' (type_cell f (argument_at f e)) T
        at_position T t =
            denotes_kept part_kept.agree g.at_least (ready.environment.loaded.types (argument_at f e) T t)

        go : (h' : OnePart) → Named f e h' → NamedCell f w₂ g.cells' e h'
        go (of_abstraction T) t = at_position T t
        go of_lift t = tt
        go of_force t = tt
        go (of_box T) t = at_position T t

    bound_slot : NewBinding w₂ g.cells' binders h
    unfolding inside_memory
    bound_slot = go h named g (one_nodes h M)
      where
        go : (h' : OnePart) → Named f e h'
            → (g' : Gets (inside_memory h' f w e binders lifts) w₂ cells (binders_in h' lifts Γ) M n A u v first)
            → nodes (one h M) ≡ 1 + nodes M
            → NewBinding w₂ g'.cells' binders h'
        go (of_abstraction T) t g' size =
            let c = ready.cells_fit in
            let b = ready.binders_fit in
            let l = ready.lifts_fit in
            let enough = some_node M in
            abstraction_binding (type_cell f (argument_at f e)) ready.binders_are (omega arith) (omega arith) (omega arith)
            ready.environment (ready.environment.loaded.types (argument_at f e) T t) g'
        go of_lift t g' size = tt
        go of_force t g' size = tt
        go (of_box T) t g' size = tt

    own_uses : misuse_at_abstraction h (binding_uses w₂ (most_labels + binders)) e ≡ misuse_at_abstraction h (uses 0 M) e
    unfolding inside_memory
    own_uses = go h named g (one_nodes h M) (one_closed h M lifts Γ ready.closed)
      where
        go : (h' : OnePart) → Named f e h'
            → (g' : Gets (inside_memory h' f w e binders lifts) w₂ cells (binders_in h' lifts Γ) M n A u v first)
            → nodes (one h M) ≡ 1 + nodes M
            → Truth (closed_under (length (binders_in h' lifts Γ)) M)
            → misuse_at_abstraction h' (binding_uses w₂ (most_labels + binders)) e ≡ misuse_at_abstraction h' (uses 0 M) e
        go (of_abstraction T) t g' size closed =
            let c = ready.cells_fit in
            let b = ready.binders_fit in
            let l = ready.lifts_fit in
            let enough = some_node M in
            ap (λ k. if_so (used_wrongly T k) e)
            (abstraction_uses (type_cell f (argument_at f e)) ready.binders_are (omega arith) (omega arith) (omega arith)
            ready.environment (ready.environment.loaded.types (argument_at f e) T t) g' closed
            (one_labels h M (length L) ready.labels_are_below))
        go of_lift t g' size closed = refl
        go of_force t g' size closed = refl
        go (of_box T) t g' size closed = refl

    typed_part : (w₃ : List ℕ) (r : Inferred)
        → EndsFirst f w₂ w₃ e binders first r
        → Answered w w₃ cells Γ (one h M) n (ruled e (one_rule h A) (earlier (misuse_at_abstraction h (uses 0 M) e) u) v) r
    typed_part w₃ r ends =
        let few = part_cells in
        let ended =
        subst (λ x. EndsFirst f w₂ w₃ e binders x r) g.answer ends h A kind part_room named_cell bound_slot
        g.denotes
        in
        rule_ends Γ (one h M) (earlier (misuse_at_abstraction h (uses 0 M) e) u) v (one_rule h A) few.0 few.1 few.2
        part_kept
        (λ i below. omega (arith, one_counted h M lifts i Γ))
        (ap (λ x. option_or (option_of x) (option_of u)) own_uses ∙ sym (earlier_as (misuse_at_abstraction h (uses 0 M) e) u))
        refl
        ended

  -- The answer of a node of one part.
  pub one_answers : (w₂ w₃ : List ℕ) (first r : Inferred)
      → Answered (inside_memory h f w e binders lifts) w₂ cells (binders_in h lifts Γ) M n
      (check_term L (binders_in h lifts Γ) (lifts_in h lifts) (suc e) M) first
      → EndsFirst f w₂ w₃ e binders first r
      → Answered w w₃ cells Γ (one h M) n (check_term L Γ lifts e (one h M)) r
  one_answers w₂ w₃ first r answered ends =
      subst (λ c. Answered w w₃ cells Γ (one h M) n c r) (sym (check_one h L Γ lifts e M))
      (go (check_term L (binders_in h lifts Γ) (lifts_in h lifts) (suc e) M) answered)
    where
      go : (c : Checked)
          → Answered (inside_memory h f w e binders lifts) w₂ cells (binders_in h lifts Γ) M n c first
          → Answered w w₃ cells Γ (one h M) n
          (followed c λ A u v. ruled e (one_rule h A) (earlier (misuse_at_abstraction h (uses 0 M) e) u) v) r
      go (typed A u v) g = typed_part g w₃ r ends
      go (fault p) q = subst (λ x. EndsFirst f w₂ w₃ e binders x r) q ends

-- The arm of the inference for a node of two parts.
use Rattle.std.specs.Prelude.{ℕ, suc, ◌+◌, ◌≤◌, ◌<◌, ◌≡◌, refl, Bool, true, false, List, ◌∷◌, T as Truth, length, Ok, Err}
use Rattle.std.specs.Option.{option_or}
use Rattle.std.proofs.Common.{arith, sym, ◌∙◌, ap, subst, eq-eqb, ne_eqb}
use Rattle.std.proofs.Math.Option.{Option, none, some, some-ne-none}
use Rattle.rules.specs.Types.{Wire, Ty}
use Rattle.rules.specs.Terms.{Term}
use Rattle.rules.specs.Sizes.{nodes}
use Rattle.rules.specs.Inference.{as_pair, uses}
use Rattle.program.specs.Format.{kind_at}
use Rattle.program.specs.Trees.{TermAt, closed_under, labels_below}
use Rattle.program.proofs.Laws.TreeTraversal.{term_end}
use Rattle.check_types.specs.Cells.{Denotes, Room}
use Rattle.check_types.proofs.Laws.Cells.{denotes_kept}
use Rattle.check_program.specs.declared.Typed.{Typed}
use Rattle.check_program.specs.Checking.{Binder, ◌under◌, earlier, ruled}
use Rattle.words.specs.Found.{option_of}
use Rattle.check_program.specs.Layout.{binding_cell, binding_uses, counted, variable_binding, held, most_binders}
use Rattle.check_program.specs.Layout.{most_cells}
use Rattle.rules.specs.Sizes.{most_labels}
use Rattle.check_program.specs.Scope.{Binding, Environment, Kept, pushed}
use Rattle.check_program.proofs.Laws.Scope.{environment_pushed, environment_kept, kept_pushed, kept_trans, kept_less}
use Rattle.check_program.proofs.Laws.Scope.{kept_refl, binding_kept, uses_pushed, environment_later}
use Rattle.check_program.proofs.Laws.Counting.{counted_least, some_node, counted_variable}
use Rattle.check_program.specs.Heads.{TwoParts, of_application, of_pair, of_let, of_apply, two_kind, two_rule}
use Rattle.check_program.specs.Heads.{misuse_at_let, own_halves}
use Rattle.check_program.proofs.Laws.Heads.{two, binders_behind, bound, halves, two_nodes, two_closed}
use Rattle.check_program.proofs.Laws.Heads.{two_labels, two_gates, two_counted, behind_binders}
use Rattle.check_program.specs.Inferring.{Inferred, typed_as, Ready, Gets, Answered, Halved, Untouched, Passed, HalfBindings}
use Rattle.check_program.specs.Inferring.{NewBindings, EndsTwo}
use Rattle.check_program.proofs.Laws.Arms.{earlier_as, rule_ends, typed_is}

-- The end of a node of two parts, of which the first has a type, by the answer of the second: its 16 is handed on.
abbrev pub EndsSecond : List ℕ → List ℕ → List ℕ → ℕ → ℕ → Typed → Inferred → Inferred → Type 0
EndsSecond f w w' e binders first (Ok second) r = EndsTwo f w w' e binders first second r
EndsSecond f w w' e binders first (Err x) r = r ≡ Err x

-- The variables that a node binds in its second part have not been used yet.
abbrev pub Fresh : TwoParts → List ℕ → ℕ → Type 0
Fresh of_application w binders = Unit {0}
Fresh of_pair w binders = Unit {0}
Fresh of_let w binders = (binding_uses w (most_labels + binders) ≡ 0) × (binding_uses w (most_labels + (binders + 1)) ≡ 0)
Fresh of_apply w binders = Unit {0}

-- The memory w₂ with which the second part is looked at, under the binders Δ, after the first has left w₁.
pub record Opened (f w₁ w₂ : List ℕ) (m binders cells : ℕ) (L : List Wire) (Γ Δ : List Binder) (h : TwoParts) (b : Bool)
    : Type 0 where
  pub goes_on : b ≡ true
  pub environment : Environment f w₂ m cells L Δ
  pub kept : Kept w₁ w₂ cells (most_labels + length Γ) (λ i. 0)
  pub fresh : Fresh h w₂ binders

-- Nothing is touched where nothing is bound.
untouched_opened : {f w₁ w₂ : List ℕ} {m binders cells : ℕ} {L : List Wire} {Γ Δ : List Binder} {b : Bool}
    (h : TwoParts) → ((w : List ℕ) → Fresh h w binders)
    → Environment f w₁ m cells L Γ
    → some Γ ≡ some Δ
    → Untouched w₁ w₂ b
    → Opened f w₁ w₂ m binders cells L Γ Δ h b
untouched_opened {f} {w₁} {w₂} {m} {binders} {cells} {L} {Γ} {Δ} h fresh env q t =
    let same : Γ ≡ Δ = cc in
    record {
      goes_on = t.answer;
      environment =
          subst (λ x. Environment f x m cells L Δ) (sym t.words_are) (subst (λ x. Environment f w₁ m cells L x) same env);
      kept = subst (λ x. Kept w₁ x cells (most_labels + length Γ) (λ i. 0)) (sym t.words_are) (kept_refl w₁ cells (most_labels + length Γ));
      fresh = fresh w₂;
    }

-- A let pushes a binder for each half.
halved_opened : {f w₁ w₂ : List ℕ} {m binders lifts cells : ℕ} {L : List Wire} {Γ Δ : List Binder} {b : Bool}
    (o : Option (Ty × Ty))
    → binders ≡ length Γ → length Γ + 1 < most_binders → cells ≤ most_cells → lifts < 65536
    → Environment f w₁ m cells L Γ
    → halves lifts Γ o ≡ some Δ
    → Halved w₁ w₂ binders lifts cells o b
    → Opened f w₁ w₂ m binders cells L Γ Δ of_let b
halved_opened {Δ = Δ} none is few c l env q t = absurd (some-ne-none Δ (sym q))
halved_opened {f} {w₁} {w₂} {m} {binders} {lifts} {cells} {L} {Γ} {Δ} {b} (some p) is few c l env q t =
    let same : (p.1 under lifts ∷ p.0 under lifts ∷ Γ) ≡ Δ = cc in
    subst (λ x. Opened f w₁ x m binders cells L Γ Δ of_let b) (sym t.words_are)
    (subst (λ x. Opened f w₁ both m binders cells L Γ x of_let b) same
    (record {
      goes_on = t.answer;
      environment =
          environment_pushed (binders + 1) t.second lifts p.1 (omega arith) (omega arith) c l
          (environment_pushed binders t.first lifts p.0 is (omega arith) c l env t.first_denotes)
          (denotes_kept first_kept.agree (omega arith) t.second_denotes);
      kept =
          kept_less cells (most_labels + length Γ) (λ i. 0) (omega arith) (omega arith) (λ i below. omega arith)
          (kept_trans first_kept second_kept);
      fresh = (
        omega (
          arith,
          (kept_pushed one (binders + 1) t.second lifts cells c).uses_counted (most_labels + binders) (omega arith),
          uses_pushed w₁ binders t.first lifts env.room (omega arith),
        ),
        uses_pushed one (binders + 1) t.second lifts (omega (arith, env.room, first_kept.length_kept)) (omega arith),
      );
    }))
  where
    one : List ℕ
    one = pushed w₁ binders t.first lifts

    both : List ℕ
    both = pushed one (binders + 1) t.second lifts

    first_kept : Kept w₁ one cells (most_labels + binders) (λ i. 0)
    first_kept = kept_pushed w₁ binders t.first lifts cells c

    second_kept : Kept one both cells (most_labels + binders) (λ i. 0)
    second_kept =
        kept_less cells (most_labels + binders) (λ i. 0) (omega arith) (omega arith) (λ i below. refl)
        (kept_pushed one (binders + 1) t.second lifts cells c)

pub opened : {f w₁ w₂ : List ℕ} {m cells : ℕ} {L : List Wire} {Γ Δ : List Binder} {b : Bool}
    (h : TwoParts) (binders lifts : ℕ) (A : Ty)
    → binders ≡ length Γ → length Γ + 1 < most_binders → cells ≤ most_cells → lifts < 65536
    → Environment f w₁ m cells L Γ
    → binders_behind h lifts Γ A ≡ some Δ
    → Passed h w₁ w₂ binders lifts cells A b
    → Opened f w₁ w₂ m binders cells L Γ Δ h b
opened of_application binders lifts A is few c l env q t = untouched_opened of_application (λ w. tt) env q t
opened of_pair binders lifts A is few c l env q t = untouched_opened of_pair (λ w. tt) env q t
opened of_let binders lifts A is few c l env q t = halved_opened (as_pair A) is few c l env q t
opened of_apply binders lifts A is few c l env q t = untouched_opened of_apply (λ w. tt) env q t

-- Where the second part is not looked at, that is said.
module _ (w₁ w₂ : List ℕ) (binders lifts cells : ℕ) (Γ : List Binder) (b : Bool) where
  not_opened : (o : Option (Ty × Ty)) → halves lifts Γ o ≡ none → Halved w₁ w₂ binders lifts cells o b → b ≡ false
  not_opened none q t = t
  not_opened (some p) q t = absurd (some-ne-none (p.1 under lifts ∷ p.0 under lifts ∷ Γ) q)

  pub stopped : (h : TwoParts) (A : Ty)
      → binders_behind h lifts Γ A ≡ none → Passed h w₁ w₂ binders lifts cells A b → b ≡ false
  stopped of_application A q t = absurd (some-ne-none Γ q)
  stopped of_pair A q t = absurd (some-ne-none Γ q)
  stopped of_let A q t = not_opened (as_pair A) q t
  stopped of_apply A q t = absurd (some-ne-none Γ q)

-- The halves' bindings after the second part.
module _ {f w₂ w₃ : List ℕ} {m cells : ℕ} {L : List Wire} {Γ Δ : List Binder} {N : Term} {n : ℕ} {B : Ty}
    {u v : Option ℕ} {second : Inferred} (binders lifts : ℕ) (p : Ty × Ty)
    (is : binders ≡ length Γ) (same : (p.1 under lifts ∷ p.0 under lifts ∷ Γ) ≡ Δ)
    (env : Environment f w₂ m cells L Δ)
    (g : Gets w₂ w₃ cells Δ N n B u v second) where
  binders_two_lem : length Δ ≡ length Γ + 2
  binders_two_lem = sym (ap length same) ∙ omega arith

  binding_of : (i : ℕ) (b : Binder) → i < most_labels + length Δ → held L Δ i ≡ some b → Binding w₃ g.cells' i b
  binding_of i b below q =
      binding_kept g.kept.agree g.at_least (g.kept.cells_same i below) (g.kept.lifts_same i below)
      (env.slots i b q)

  first_held : held L Δ (most_labels + binders) ≡ some (p.0 under lifts)
  first_held =
      subst (λ x. held L x (most_labels + binders) ≡ some (p.0 under lifts)) same
      (rw (
        ne_eqb (most_labels + binders) (most_labels + suc (length Γ)) (λ q. omega arith),
        eq-eqb (most_labels + binders) (most_labels + length Γ) (omega arith),
      ))

  second_held : held L Δ (most_labels + (binders + 1)) ≡ some (p.1 under lifts)
  second_held =
      subst (λ x. held L x (most_labels + (binders + 1)) ≡ some (p.1 under lifts)) same
      (rw (eq-eqb (most_labels + (binders + 1)) (most_labels + suc (length Γ)) (omega arith)))

  half_bindings : Denotes w₃ g.cells' (binding_cell w₃ (most_labels + binders)) p.0
      × Denotes w₃ g.cells' (binding_cell w₃ (most_labels + (binders + 1))) p.1
  half_bindings =
      let few = binders_two_lem in (
        (binding_of (most_labels + binders) (p.0 under lifts) (omega arith) first_held).denotes,
        (binding_of (most_labels + (binders + 1)) (p.1 under lifts) (omega arith) second_held).denotes,
      )

  module _ (closed : Truth (closed_under (length Δ) N)) (below : Truth (labels_below (length L) N))
      (fresh : Fresh of_let w₂ binders) where
    first_uses : binding_uses w₃ (most_labels + binders) ≡ uses 1 N
    first_uses =
        let few = binders_two_lem in
        let slot : most_labels + binders ≡ variable_binding (length Δ) 1 = omega arith in
        omega (
          arith,
          g.kept.uses_counted (most_labels + binders) (omega arith),
          ap (λ i. counted (length Δ) i N) slot,
          counted_variable (length Δ) (length L) 1 N (omega arith) env.labels_fit closed below,
        )

    second_uses : binding_uses w₃ (most_labels + (binders + 1)) ≡ uses 0 N
    second_uses =
        let few = binders_two_lem in
        let slot : most_labels + (binders + 1) ≡ variable_binding (length Δ) 0 = omega arith in
        omega (
          arith,
          g.kept.uses_counted (most_labels + (binders + 1)) (omega arith),
          ap (λ i. counted (length Δ) i N) slot,
          counted_variable (length Δ) (length L) 0 N (omega arith) env.labels_fit closed below,
        )

-- The same of any node of two parts: the bindings that it binds, and the 17 of the node itself.
module _ {f w₂ w₃ : List ℕ} {m cells : ℕ} {L : List Wire} {Δ : List Binder} {N : Term} {n : ℕ} {B : Ty}
    {u v : Option ℕ} {second : Inferred} (Γ : List Binder) (binders lifts : ℕ)
    (is : binders ≡ length Γ)
    (env : Environment f w₂ m cells L Δ)
    (g : Gets w₂ w₃ cells Δ N n B u v second) where
  bindings_halved : (o : Option (Ty × Ty)) → halves lifts Γ o ≡ some Δ → HalfBindings w₃ g.cells' binders o
  bindings_halved none q = some-ne-none Δ (sym q)
  bindings_halved (some p) q =
      let same : (p.1 under lifts ∷ p.0 under lifts ∷ Γ) ≡ Δ = cc in
      half_bindings binders lifts p is same env g

  pub bindings_bound : (h : TwoParts) (A : Ty)
      → binders_behind h lifts Γ A ≡ some Δ
      → NewBindings w₃ g.cells' binders h A
  bindings_bound of_application A q = tt
  bindings_bound of_pair A q = tt
  bindings_bound of_let A q = bindings_halved (as_pair A) q
  bindings_bound of_apply A q = tt

  module _ (e : ℕ) (closed : Truth (closed_under (length Δ) N)) (below : Truth (labels_below (length L) N)) where
    uses_halved : (o : Option (Ty × Ty)) → halves lifts Γ o ≡ some Δ → Fresh of_let w₂ binders
        → own_halves o (binding_uses w₃ (most_labels + binders)) (binding_uses w₃ (most_labels + (binders + 1))) e ≡ own_halves o (uses 1 N) (uses 0 N) e
    uses_halved none q fresh = refl
    uses_halved (some p) q fresh =
        let same : (p.1 under lifts ∷ p.0 under lifts ∷ Γ) ≡ Δ = cc in
        ap (λ k. own_halves (some p) k (binding_uses w₃ (most_labels + (binders + 1))) e)
        (first_uses binders lifts p is same env g closed below fresh)
        ∙ ap (λ k. own_halves (some p) (uses 1 N) k e) (second_uses binders lifts p is same env g closed below fresh)

    pub uses_bound : (h : TwoParts) (A : Ty)
        → binders_behind h lifts Γ A ≡ some Δ
        → Fresh h w₂ binders
        → misuse_at_let h A (binding_uses w₃ (most_labels + binders)) (binding_uses w₃ (most_labels + (binders + 1))) e ≡ misuse_at_let h A (uses 1 N) (uses 0 N) e
    uses_bound of_application A q fresh = refl
    uses_bound of_pair A q fresh = refl
    uses_bound of_let A q fresh = uses_halved (as_pair A) q fresh
    uses_bound of_apply A q fresh = refl

two_at_most : (h : TwoParts) → bound h ≤ 2
two_at_most of_application = omega arith
two_at_most of_pair = omega arith
two_at_most of_let = omega arith
two_at_most of_apply = omega arith

-- A node of two parts.
module _ {f w : List ℕ} {e binders lifts cells : ℕ} {L : List Wire} {Γ : List Binder} {m n : ℕ} (h : TwoParts) (M N : Term)
    (kind : kind_at f e ≡ two_kind h) (d : TermAt f (suc e) M m) (d' : TermAt f m N n)
    (ready : Ready f w e binders lifts cells L Γ (two h M N) n) where
  -- Its first part is ready.
  pub first_ready : Ready f w (suc e) binders lifts cells L Γ M m
  first_ready =
      let size : nodes (two h M N) ≡ 1 + (nodes M + nodes N) = two_nodes h M N in
      let c = ready.cells_fit in
      let b = ready.binders_fit in
      let l = ready.lifts_fit in
      let after = term_end d' in
      let end = ready.ends in
      record {
        length_is = ready.length_is;
        entries_fit = ready.entries_fit;
        term_is_at = d;
        ends = omega arith;
        closed = (two_closed h M N (length Γ) ready.closed).0;
        labels_are_below = (two_labels h M N (length L) ready.labels_are_below).0;
        gates_are_known = (two_gates h M N ready.gates_are_known).0;
        binders_are = ready.binders_are;
        cells_fit = omega arith;
        binders_fit = omega arith;
        lifts_fit = omega arith;
        environment = environment_later (suc e) (omega arith) ready.environment;
      }

  -- Its first part has a type.
  module _ {w₁ : List ℕ} {A : Ty} {u v : Option ℕ} {first : Inferred} (g : Gets w w₁ cells Γ M m A u v first) where
    first_environment : Environment f w₁ m g.cells' L Γ
    first_environment =
        let after = term_end d in
        environment_kept ready.environment g.kept g.at_least
        (λ i. omega (arith, counted_least (length Γ) i M))

    first_cells : (cells ≤ g.cells') × (g.cells' + nodes N + 1 ≤ cells + nodes (two h M N))
    first_cells =
        let size : nodes (two h M N) ≡ 1 + (nodes M + nodes N) = two_nodes h M N in
        let least = g.at_least in
        let most = g.at_most in
        omega arith

    module _ (w₂ : List ℕ) (b : Bool) (Δ : List Binder) (q : binders_behind h lifts Γ A ≡ some Δ)
        (passed : Passed h w₁ w₂ binders lifts g.cells' A b) where
      pub second_opened : Opened f w₁ w₂ m binders g.cells' L Γ Δ h b
      second_opened =
          let size : nodes (two h M N) ≡ 1 + (nodes M + nodes N) = two_nodes h M N in
          let few = first_cells in
          let c = ready.cells_fit in
          let s = ready.binders_fit in
          let l = ready.lifts_fit in
          let enough = some_node M in
          let more = some_node N in
          opened h binders lifts A ready.binders_are (omega arith) (omega arith) (omega arith) first_environment q passed

      -- Its second part is ready.
      pub second_ready : Ready f w₂ m (length Δ) lifts g.cells' L Δ N n
      second_ready =
          let size : nodes (two h M N) ≡ 1 + (nodes M + nodes N) = two_nodes h M N in
          let few = first_cells in
          let c = ready.cells_fit in
          let s = ready.binders_fit in
          let l = ready.lifts_fit in
          let enough = some_node M in
          let more_binders : length Δ ≡ length Γ + bound h = behind_binders h M N lifts Γ Δ A q in
          let most : bound h ≤ 2 = two_at_most h in
          record {
            length_is = ready.length_is;
            entries_fit = ready.entries_fit;
            term_is_at = d';
            ends = ready.ends;
            closed =
                subst (λ k. Truth (closed_under k N)) (sym more_binders) (two_closed h M N (length Γ) ready.closed).1;
            labels_are_below = (two_labels h M N (length L) ready.labels_are_below).1;
            gates_are_known = (two_gates h M N ready.gates_are_known).1;
            binders_are = refl;
            cells_fit = omega arith;
            binders_fit = omega arith;
            lifts_fit = omega arith;
            environment = second_opened.environment;
          }

      -- Both parts have types.
      module _ {w₃ : List ℕ} {B : Ty} {u' v' : Option ℕ} {second : Inferred}
          (g₂ : Gets w₂ w₃ g.cells' Δ N n B u' v' second) where
        both_kept : Kept w w₃ cells (most_labels + length Γ) (λ i. counted (length Γ) i M + 0 + counted (length Δ) i N)
        both_kept =
            let more_binders : length Δ ≡ length Γ + bound h = behind_binders h M N lifts Γ Δ A q in
            let few = first_cells in
            kept_trans
            (kept_trans g.kept
            (kept_less cells (most_labels + length Γ) (λ i. 0) few.0 (omega arith) (λ i below. refl) second_opened.kept))
            (kept_less cells (most_labels + length Γ) (λ i. counted (length Δ) i N) few.0 (omega arith) (λ i below. refl)
            g₂.kept)

        both_cells : (cells ≤ g₂.cells') × (g₂.cells' < most_cells) × (g₂.cells' + 1 ≤ cells + nodes (two h M N))
        both_cells =
            let few = first_cells in
            let c = ready.cells_fit in
            let least = g₂.at_least in
            let most = g₂.at_most in
            omega arith

        both_room : Room w₃ g₂.cells'
        both_room =
            let few = both_cells in
            let r = ready.environment.room in
            let l = both_kept.length_kept in
            record { number_fits = omega arith; room_fits = omega arith }

        first_denotes : Denotes w₃ g₂.cells' g.cell A
        first_denotes =
            denotes_kept g₂.kept.agree g₂.at_least
            (denotes_kept second_opened.kept.agree (omega arith) g.denotes)

        counts_same : (i : ℕ) → i < most_labels + length Γ
            → counted (length Γ) i M + 0 + counted (length Δ) i N ≡ counted (length Γ) i (two h M N)
        counts_same i below =
            let more_binders : length Δ ≡ length Γ + bound h = behind_binders h M N lifts Γ Δ A q in
            omega (arith, two_counted h M N (length Γ) i, ap (λ k. counted k i N) more_binders)

        pub both_typed : (w₄ : List ℕ) (r : Inferred) (t : Typed)
            → first ≡ Ok t
            → EndsSecond f w₃ w₄ e binders t second r
            → Answered w w₄ cells Γ (two h M N) n
            (ruled e (two_rule h A B) (earlier (misuse_at_let h A (uses 1 N) (uses 0 N) e) (earlier u u')) (earlier v v')) r
        both_typed w₄ r t types ends =
            let few = both_cells in
            let start = second_opened in
            let own = misuse_at_let h A (uses 1 N) (uses 0 N) e in
            let ended =
            subst (λ x. EndsSecond f w₃ w₄ e binders (typed_as g.cell m g.cells' (option_of u) (option_of v)) x r) g₂.answer
            (subst (λ x. EndsSecond f w₃ w₄ e binders x second r) (typed_is t types g) ends)
            h A B kind both_room
            (bindings_bound Γ binders lifts ready.binders_are start.environment g₂ h A q)
            first_denotes
            g₂.denotes
            in
            rule_ends Γ (two h M N) (earlier own (earlier u u')) (earlier v v') (two_rule h A B)
            few.0 few.1 few.2
            both_kept
            counts_same
            (ap (λ x. option_or (option_of x) (option_or (option_of u) (option_of u')))
            (uses_bound Γ binders lifts ready.binders_are start.environment g₂ e second_ready.closed
            second_ready.labels_are_below h A q start.fresh)
            ∙ ap (λ x. option_or (option_of own) x) (sym (earlier_as u u'))
            ∙ sym (earlier_as own (earlier u u')))
            (sym (earlier_as v v'))
            ended

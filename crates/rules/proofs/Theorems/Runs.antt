-- What comes of taking steps one after another is what the rules say, in each of the three endings.
use Rattle.std.specs.Prelude.{ℕ, zero, suc, ◌+◌, ◌-◌, ◌≤◌, ◌<◌, ◌≡◌, refl, ◌⊎◌, Bool, true, false, ◌&&◌, List, T as Truth, leb}
use Rattle.std.proofs.Common.{arith, zero-add, suc-add, sym, ◌∙◌, ap, ap₂, subst, inl, inr, leb→le, le→leb}
use Rattle.std.proofs.Math.Option.{Option, none, some, none-ne-some}
use Rattle.rules.specs.Types.{Wire, Ty}
use Rattle.rules.specs.Terms.{boxed, Term}
use Rattle.rules.specs.Circuits.{circuit}
use Rattle.rules.specs.Steps.{Configuration, start, ◌⟶◌, β_reduction, let_step, force_step, apply_gate, apply_constant}
use Rattle.rules.specs.Steps.{box_entry, box_exit}
use Rattle.rules.specs.Sizes.{total_nodes, total_gates, boxes_closed, most_nodes, most_boxes, Fits, Row, no_step}
use Rattle.rules.specs.Sizes.{one_more}
use Rattle.rules.specs.Demand3.{ProgramHas, Finished}
use Rattle.rules.specs.Next.{next}
use Rattle.rules.specs.Runs.{fits, Ending, at_finish, still_running, does_not_fit, Reached, ended, at_limit, step_to}
use Rattle.rules.specs.Runs.{one_step, advanced}
use Rattle.rules.proofs.Theorems.Deterministic.{step→next, next→step}
use Rattle.rules.proofs.Theorems.Safety.{progress, row_keeps, finished_stops}
use Rattle.rules.specs.Inputs.{outermost_inputs}
use Rattle.rules.proofs.Laws.Booleans.{is_true}

-- The same endings by the rules, for at most k steps from c: after a row of n steps that fit, to d.
-- 01: "Else finished": at a finish, which at most k steps reach.
pub record FinishesAt (allowance k : ℕ) (c : Configuration) (n : ℕ) (d : Configuration) : Type 0 where
  pub row : Row allowance c n d
  pub in_time : n ≤ k
  pub at_end : Finished d

-- 01: "21: the limit's steps are done and it is unfinished, even if the next would not fit."
pub record UnfinishedAt (allowance k : ℕ) (c : Configuration) (n : ℕ) (d : Configuration) : Type 0 where
  pub row : Row allowance c n d
  pub all_done : n ≡ k
  pub unfinished : Finished d → ⊥

-- 01: "22: earlier than that, the next step exceeds a size."
pub record ExceedsAt (allowance k : ℕ) (c : Configuration) (n : ℕ) (d : Configuration) : Type 0 where
  pub row : Row allowance c n d
  pub earlier : n < k
  pub following : Configuration
  pub step : d ⟶ following
  pub exceeds : Fits allowance following → ⊥

-- What came of the steps ended so exactly if the rules say so, and nowhere but where they say it.
pub record EndingMeans (r : Reached) (e : Ending) (At : ℕ → Configuration → Type 0) : Type 0 where
  pub says : r.ending ≡ e → At r.steps r.reached
  pub only : (n : ℕ) (d : Configuration) → At n d → r ≡ ended e n d

-- Three tests together are passed if each is, and the other way round.
three_true : (a b c : Bool) → Truth (a && (b && c)) → Truth a × Truth b × Truth c
three_true true true true h = (tt, tt, tt)
three_true true true false h = absurd h
three_true true false c h = absurd h
three_true false b c h = absurd h

true_three : (a b c : Bool) → Truth a → Truth b → Truth c → Truth (a && (b && c))
true_three true true c h i j = j
true_three true false c h i j = absurd i
true_three false b c h i j = absurd h

-- A configuration that passes the test `fits` fits.
pub fits_true : (allowance : ℕ) (c : Configuration) → Truth (fits allowance c) → Fits allowance c
fits_true allowance c h =
    let t =
    three_true (leb (total_nodes c) most_nodes) (leb (total_gates c) allowance) (leb (boxes_closed c) most_boxes) h in
    record {
      nodes_fit = leb→le (total_nodes c) most_nodes t.0;
      gates_fit = leb→le (total_gates c) allowance t.1;
      boxes_fit = leb→le (boxes_closed c) most_boxes t.2;
    }

-- A configuration that fits passes it.
pub true_fits : (allowance : ℕ) (c : Configuration) → Fits allowance c → Truth (fits allowance c)
true_fits allowance c f =
    true_three (leb (total_nodes c) most_nodes) (leb (total_gates c) allowance) (leb (boxes_closed c) most_boxes)
    (le→leb (total_nodes c) most_nodes f.nodes_fit)
    (le→leb (total_gates c) allowance f.gates_fit)
    (le→leb (boxes_closed c) most_boxes f.boxes_fit)

-- One that does not pass it does not fit, and the other way round.
pub fits_false : (allowance : ℕ) (c : Configuration) → fits allowance c ≡ false → Fits allowance c → ⊥
fits_false allowance c p f = subst Truth p (true_fits allowance c f)

pub false_fits : (allowance : ℕ) (c : Configuration) → (Fits allowance c → ⊥) → fits allowance c ≡ false
false_fits allowance c h = of (fits allowance c) refl
  where
    of : (a : Bool) → fits allowance c ≡ a → a ≡ false
    of true p = absurd (h (fits_true allowance c (subst Truth (sym p) tt)))
    of false p = refl

-- A step that fits is taken.
step_taken : {c d : Configuration} (allowance k n : ℕ)
    → c ⟶ d
    → Fits allowance d
    → advanced allowance (suc k) n c ≡ advanced allowance k (suc n) d
step_taken {c} {d} allowance k n s f =
    ap (one_step allowance (advanced allowance k (suc n)) n c) (step→next s)
    ∙ ap (λ b. step_to b n c (advanced allowance k (suc n) d)) (is_true (fits allowance d) (true_fits allowance d f))

-- Steps may be counted anew from any place of a row.
pub row_reaches : {allowance : ℕ} {c d : Configuration} (k n done : ℕ)
    → Row allowance c n d
    → n ≤ k
    → advanced allowance k done c ≡ advanced allowance (k - n) (done + n) d
row_reaches {allowance} {c} k n done no_step h =
    let all : k ≡ k - zero = omega arith in
    let same : done ≡ done + zero = omega arith in
    ap₂ (λ x y. advanced allowance x y c) all same
row_reaches {allowance} {c} {d = e} k n done (one_more {n = m} {d = d} r s f) h =
    let earlier : m ≤ k = omega arith in
    let left : k - m ≡ suc (k - suc m) = omega arith in
    let more : suc (done + m) ≡ done + suc m = omega arith in
    row_reaches k m done r earlier
    ∙ ap (λ x. advanced allowance x (done + m) d) left
    ∙ step_taken allowance (k - suc m) (done + m) s f
    ∙ ap (λ y. advanced allowance (k - suc m) y e) more

-- Why steps ended where they did, by the step function.
abbrev EndsBy : ℕ → ℕ → Ending → ℕ → Configuration → Type 0
EndsBy allowance limit at_finish n c = next c ≡ none
EndsBy allowance limit still_running n c = (n ≡ limit) × (d : Configuration) × (next c ≡ some d)
EndsBy allowance limit does_not_fit n c =
    (n < limit) × (d : Configuration) × (next c ≡ some d) × (fits allowance d ≡ false)

-- The row of the steps that were taken from b, and why they ended.
abbrev Ends : ℕ → ℕ → Configuration → Reached → Type 0
Ends allowance limit b r =
    Row allowance b r.steps r.reached
    × (r.steps ≤ limit)
    × EndsBy allowance limit r.ending r.steps r.reached

-- The turn with no step left to take.
last_ends : (allowance limit : ℕ) (b c : Configuration) (d : Option Configuration)
    → next c ≡ d
    → Row allowance b limit c
    → Ends allowance limit b (at_limit limit c d)
last_ends allowance limit b c none p r = (r, omega arith, p)
last_ends allowance limit b c (some d) p r = (r, omega arith, (refl, d, p))

-- A turn with a step to take and k after it, where it is known why those ended.
module _ (allowance limit k n : ℕ) (b c : Configuration) (row : Row allowance b n c) (earlier : n < limit)
    (later : (d : Configuration)
    → Row allowance b (suc n) d
    → Ends allowance limit b (advanced allowance k (suc n) d)) where
  fitting_ends : (d : Configuration) (a : Bool)
      → next c ≡ some d
      → fits allowance d ≡ a
      → Ends allowance limit b (step_to a n c (advanced allowance k (suc n) d))
  fitting_ends d true p q =
      later d (one_more row (next→step c d p) (fits_true allowance d (subst Truth (sym q) tt)))
  fitting_ends d false p q = (row, omega arith, (earlier, d, p, q))

  step_ends : (d : Option Configuration)
      → next c ≡ d
      → Ends allowance limit b (one_step allowance (advanced allowance k (suc n)) n c d)
  step_ends none p = (row, omega arith, p)
  step_ends (some d) p = fitting_ends d (fits allowance d) p refl

-- Where n steps are done and k are to be taken.
ends_from : (allowance limit k n : ℕ) (b c : Configuration)
    → Row allowance b n c
    → n + k ≡ limit
    → Ends allowance limit b (advanced allowance k n c)
ends_from allowance limit zero n b c r h =
    let same : n ≡ limit = omega arith in
    subst (λ m. Ends allowance limit b (at_limit m c (next c))) (sym same)
    (last_ends allowance limit b c (next c) refl (subst (λ m. Row allowance b m c) same r))
ends_from allowance limit (suc k) n b c r h =
    step_ends allowance limit k n b c r (omega arith)
    (λ d t. ends_from allowance limit k (suc n) b d t (omega arith))
    (next c)
    refl

-- From the start of the steps.
reached_ends : (allowance k : ℕ) (c : Configuration) → Ends allowance k c (advanced allowance k 0 c)
reached_ends allowance k c = ends_from allowance k k 0 c c no_step (omega arith)

-- The steps that were taken are a row, no longer than was asked for.
pub reached_row : (allowance k : ℕ) (c : Configuration)
    → Row allowance c (advanced allowance k 0 c).steps (advanced allowance k 0 c).reached
    × ((advanced allowance k 0 c).steps ≤ k)
reached_row allowance k c = let e = reached_ends allowance k c in (e.0, e.1)

-- Where a program is finished the step function gives nothing.
finished_none : (c : Configuration) → Finished c → next c ≡ none
finished_none c f = of (next c) refl
  where
    of : (d : Option Configuration) → next c ≡ d → d ≡ none
    of none p = refl
    of (some d) p = absurd (finished_stops f (next→step c d p))

-- Where it gives nothing, a typed program is finished.
none_finished : {A : Ty} (c : Configuration) → ProgramHas A c → next c ≡ none → Finished c
none_finished c typed p = of (progress typed)
  where
    of : Finished c ⊎ ((d : Configuration) × (c ⟶ d)) → Finished c
    of (inl f) = f
    of (inr s) = absurd (none-ne-some s.0 (sym p ∙ step→next s.1))

-- An unfinished typed program has a next configuration.
unfinished_next : {A : Ty} (c : Configuration)
    → ProgramHas A c
    → (Finished c → ⊥)
    → (d : Configuration) × (next c ≡ some d)
unfinished_next c typed h = of (progress typed)
  where
    of : Finished c ⊎ ((d : Configuration) × (c ⟶ d)) → (d : Configuration) × (next c ≡ some d)
    of (inl f) = absurd (h f)
    of (inr s) = (s.0, step→next s.1)

-- Where there is no next configuration it ends at once, however many steps may be taken.
pub none_ends : (allowance k n : ℕ) (c : Configuration)
    → next c ≡ none
    → advanced allowance k n c ≡ ended at_finish n c
none_ends allowance zero n c p = ap (at_limit n c) p
none_ends allowance (suc k) n c p = ap (one_step allowance (advanced allowance k (suc n)) n c) p

-- Where a step may be taken and the next one exceeds a size it ends at once.
exceeding_ends : (allowance k n : ℕ) (c d : Configuration)
    → next c ≡ some d
    → fits allowance d ≡ false
    → advanced allowance (suc k) n c ≡ ended does_not_fit n c
exceeding_ends allowance k n c d p q =
    ap (one_step allowance (advanced allowance k (suc n)) n c) p
    ∙ ap (λ a. step_to a n c (advanced allowance k (suc n) d)) q

-- From a row of n steps on there are k - n to take.
after_row : (allowance k n : ℕ) (c d : Configuration)
    → Row allowance c n d
    → n ≤ k
    → advanced allowance k 0 c ≡ advanced allowance (k - n) n d
after_row allowance k n c d r h =
    let all : 0 + n ≡ n = omega arith in
    row_reaches k n 0 r h ∙ ap (λ m. advanced allowance (k - n) m d) all

-- Finished: the steps end so exactly if at most k of the rules' steps, which all fit, finish the program.
pub finish_means : {A : Ty} (allowance k : ℕ) (c : Configuration)
    → ProgramHas A c
    → EndingMeans (advanced allowance k 0 c) at_finish (FinishesAt allowance k c)
finish_means allowance k c typed = record { says = says_so; only = only_so }
  where
    says_so : (advanced allowance k 0 c).ending ≡ at_finish
        → FinishesAt allowance k c (advanced allowance k 0 c).steps (advanced allowance k 0 c).reached
    says_so p =
        let r = advanced allowance k 0 c in
        let e = reached_ends allowance k c in
        record {
          row = e.0;
          in_time = e.1;
          at_end = none_finished r.reached (row_keeps e.0 typed)
              (subst (λ x. EndsBy allowance k x r.steps r.reached) p e.2);
        }

    only_so : (n : ℕ) (d : Configuration)
        → FinishesAt allowance k c n d
        → advanced allowance k 0 c ≡ ended at_finish n d
    only_so n d h =
        after_row allowance k n c d h.row h.in_time
        ∙ none_ends allowance (k - n) n d (finished_none d h.at_end)

-- 21: the steps end so exactly if k of the rules' steps, which all fit, leave the program unfinished. 01: "the limit's
-- steps are done and it is unfinished, even if the next would not fit".
pub running_means : {A : Ty} (allowance k : ℕ) (c : Configuration)
    → ProgramHas A c
    → EndingMeans (advanced allowance k 0 c) still_running (UnfinishedAt allowance k c)
running_means allowance k c typed = record { says = says_so; only = only_so }
  where
    says_so : (advanced allowance k 0 c).ending ≡ still_running
        → UnfinishedAt allowance k c (advanced allowance k 0 c).steps (advanced allowance k 0 c).reached
    says_so p =
        let r = advanced allowance k 0 c in
        let e = reached_ends allowance k c in
        let why : EndsBy allowance k still_running r.steps r.reached
        = subst (λ x. EndsBy allowance k x r.steps r.reached) p e.2 in
        record {
          row = e.0;
          all_done = why.0;
          unfinished = λ f. none-ne-some why.1 (sym (finished_none r.reached f) ∙ why.2);
        }

    only_so : (n : ℕ) (d : Configuration)
        → UnfinishedAt allowance k c n d
        → advanced allowance k 0 c ≡ ended still_running n d
    only_so n d h =
        let all : n ≡ k = h.all_done in
        let none_left : k - n ≡ zero = omega arith in
        let p = unfinished_next d (row_keeps h.row typed) h.unfinished in
        after_row allowance k n c d h.row (omega arith)
        ∙ ap (λ m. advanced allowance m n d) none_left
        ∙ ap (at_limit n d) p.1

-- 22: the steps end so exactly if after fewer than k of the rules' steps, which all fit, the next one does not. 01:
-- "earlier than that, the next step exceeds a size".
pub not_fitting_means : {A : Ty} (allowance k : ℕ) (c : Configuration)
    → ProgramHas A c
    → EndingMeans (advanced allowance k 0 c) does_not_fit (ExceedsAt allowance k c)
not_fitting_means allowance k c typed = record { says = says_so; only = only_so }
  where
    says_so : (advanced allowance k 0 c).ending ≡ does_not_fit
        → ExceedsAt allowance k c (advanced allowance k 0 c).steps (advanced allowance k 0 c).reached
    says_so p =
        let r = advanced allowance k 0 c in
        let e = reached_ends allowance k c in
        let why : EndsBy allowance k does_not_fit r.steps r.reached
        = subst (λ x. EndsBy allowance k x r.steps r.reached) p e.2 in
        record {
          row = e.0;
          earlier = why.0;
          following = why.1;
          step = next→step r.reached why.1 why.2;
          exceeds = fits_false allowance why.1 why.3;
        }

    only_so : (n : ℕ) (d : Configuration)
        → ExceedsAt allowance k c n d
        → advanced allowance k 0 c ≡ ended does_not_fit n d
    only_so n d h =
        let before : n < k = h.earlier in
        let some_left : k - n ≡ suc (k - suc n) = omega arith in
        after_row allowance k n c d h.row (omega arith)
        ∙ ap (λ m. advanced allowance m n d) some_left
        ∙ exceeding_ends allowance (k - suc n) n d h.following (step→next h.step)
        (false_fits allowance h.following h.exceeds)

-- What fits with an allowance of gates fits with a larger one.
fits_more : {a b : ℕ} {c : Configuration} → a ≤ b → Fits a c → Fits b c
fits_more {a} {b} h f =
    record {
      nodes_fit = f.nodes_fit;
      gates_fit = omega (arith, f.gates_fit);
      boxes_fit = f.boxes_fit;
    }

-- A turn that fits with a smaller allowance, where what comes after it is the same with both.
module _ (a b k n : ℕ) (c : Configuration) (less : a ≤ b)
    (later : (d : Configuration)
    → ((advanced a k (suc n) d).ending ≡ does_not_fit → ⊥)
    → advanced a k (suc n) d ≡ advanced b k (suc n) d) where
  same_if_fitting : (d : Configuration) (t : Bool)
      → fits a d ≡ t
      → ((step_to t n c (advanced a k (suc n) d)).ending ≡ does_not_fit → ⊥)
      → step_to t n c (advanced a k (suc n) d) ≡ step_to (fits b d) n c (advanced b k (suc n) d)
  same_if_fitting d true p h =
      let fitting : Fits a d = fits_true a d (subst Truth (sym p) tt) in
      let more : fits b d ≡ true = is_true (fits b d) (true_fits b d (fits_more less fitting)) in
      later d h ∙ ap (λ t. step_to t n c (advanced b k (suc n) d)) (sym more)
  same_if_fitting d false p h = absurd (h refl)

  same_step : (d : Option Configuration)
      → ((one_step a (advanced a k (suc n)) n c d).ending ≡ does_not_fit → ⊥)
      → one_step a (advanced a k (suc n)) n c d ≡ one_step b (advanced b k (suc n)) n c d
  same_step none h = refl
  same_step (some d) h = same_if_fitting d (fits a d) refl h

-- The allowance matters only where it is exceeded: steps that end otherwise end alike with a larger one.
pub larger_allowance : (a b k n : ℕ) (c : Configuration)
    → a ≤ b
    → ((advanced a k n c).ending ≡ does_not_fit → ⊥)
    → advanced a k n c ≡ advanced b k n c
larger_allowance a b zero n c less h = refl
larger_allowance a b (suc k) n c less h =
    same_step a b k n c less (λ d. larger_allowance a b k (suc n) d less) (next c) h

-- What comes of at most R more steps after what came of earlier ones: of those that had ended, the same.
abbrev pub continued_as : ℕ → ℕ → Reached → Ending → Reached
continued_as allowance R r at_finish = r
continued_as allowance R r still_running = advanced allowance R r.steps r.reached
continued_as allowance R r does_not_fit = r

abbrev pub continued : ℕ → ℕ → Reached → Reached
continued allowance R r = continued_as allowance R r r.ending

-- At most S steps and then at most R more are at most S + R.
pub in_two_parts : (allowance S R n : ℕ) (c : Configuration)
    → advanced allowance (S + R) n c ≡ continued allowance R (advanced allowance S n c)
in_two_parts allowance zero R n c =
    ap (λ k. advanced allowance k n c) (zero-add R) ∙ of (next c) refl
  where
    of : (d : Option Configuration)
        → next c ≡ d
        → advanced allowance R n c ≡ continued allowance R (at_limit n c d)
    of none p = none_ends allowance R n c p
    of (some d) p = refl
in_two_parts allowance (suc S) R n c =
    ap (λ k. advanced allowance k n c) (suc-add S R) ∙ of (next c) (in_two_parts allowance S R (suc n))
  where
    fitting : (d : Configuration) (t : Bool)
        → advanced allowance (S + R) (suc n) d ≡ continued allowance R (advanced allowance S (suc n) d)
        → step_to t n c (advanced allowance (S + R) (suc n) d)
        ≡ continued allowance R (step_to t n c (advanced allowance S (suc n) d))
    fitting d true later = later
    fitting d false later = refl

    of : (d : Option Configuration)
        → ((e : Configuration)
        → advanced allowance (S + R) (suc n) e ≡ continued allowance R (advanced allowance S (suc n) e))
        → one_step allowance (advanced allowance (S + R) (suc n)) n c d
        ≡ continued allowance R (one_step allowance (advanced allowance S (suc n)) n c d)
    of none later = refl
    of (some d) later = fitting d (fits allowance d) (later d)

-- Steps that go on at the end are as many as were asked for.
pub running_steps : (allowance S n : ℕ) (c : Configuration)
    → (advanced allowance S n c).ending ≡ still_running
    → (advanced allowance S n c).steps ≡ n + S
running_steps allowance zero n c h = of (next c) h
  where
    of : (d : Option Configuration) → (at_limit n c d).ending ≡ still_running → (at_limit n c d).steps ≡ n + zero
    of none e = let z : ◌≡◌ {A = ℕ} 0 1 = cc in absurd (omega arith)
    of (some d) e = omega arith
running_steps allowance (suc S) n c h = of (next c) (running_steps allowance S (suc n)) h
  where
    Later : Configuration → Type 0
    Later d =
        (advanced allowance S (suc n) d).ending ≡ still_running
        → (advanced allowance S (suc n) d).steps ≡ suc n + S

    fitting : (d : Configuration) (t : Bool)
        → Later d
        → (step_to t n c (advanced allowance S (suc n) d)).ending ≡ still_running
        → (step_to t n c (advanced allowance S (suc n) d)).steps ≡ n + suc S
    fitting d true later e = let more = later e in omega arith
    fitting d false later e = let z : ◌≡◌ {A = ℕ} 0 1 = cc in absurd (omega arith)

    of : (d : Option Configuration)
        → ((e : Configuration) → Later e)
        → (one_step allowance (advanced allowance S (suc n)) n c d).ending ≡ still_running
        → (one_step allowance (advanced allowance S (suc n)) n c d).steps ≡ n + suc S
    of none later e = let z : ◌≡◌ {A = ℕ} 0 1 = cc in absurd (omega arith)
    of (some d) later e = fitting d (fits allowance d) (later d) e

-- If S steps end in d and there is a next one, going on from d with at most R more comes to what at most S + R come to.
pub going_on : (allowance S R n m : ℕ) (c d : Configuration)
    → advanced allowance S n c ≡ ended still_running m d
    → (m ≡ n + S) × (advanced allowance R m d ≡ advanced allowance (S + R) n c)
going_on allowance S R n m c d e = (
  sym (ap (λ r. r.steps) e) ∙ running_steps allowance S n c (ap (λ r. r.ending) e),
  sym (in_two_parts allowance S R n c ∙ ap (continued allowance R) e),
)

-- If at most S steps have ended otherwise, at most S + R end just so.
pub ended_already : (allowance S R n : ℕ) (c : Configuration)
    → ((advanced allowance S n c).ending ≡ still_running → ⊥)
    → advanced allowance (S + R) n c ≡ advanced allowance S n c
ended_already allowance S R n c h =
    in_two_parts allowance S R n c ∙ of (advanced allowance S n c) (advanced allowance S n c).ending h
  where
    of : (r : Reached) (e : Ending) → (e ≡ still_running → ⊥) → continued_as allowance R r e ≡ r
    of r at_finish h = refl
    of r still_running h = absurd (h refl)
    of r does_not_fit h = refl

-- A step keeps the inputs of the outermost circuit.
pub inputs_kept : {c d : Configuration} → c ⟶ d → outermost_inputs d ≡ outermost_inputs c
inputs_kept (β_reduction {C = circuit I gs} E A M W v) = refl
inputs_kept (let_step {C = circuit I gs} E M W W' v w) = refl
inputs_kept (force_step {C = circuit I gs} E M) = refl
inputs_kept (apply_gate {C = circuit I gs} E n T U k g) = refl
inputs_kept (apply_constant {C = circuit I gs} E (boxed T hs r) k) = refl
inputs_kept (box_entry {C = circuit I gs} E T M) = refl
inputs_kept (box_exit r {C = circuit I gs} E T M) = refl

-- So does a row of steps.
pub row_inputs_kept : {allowance : ℕ} {c : Configuration} {n : ℕ} {d : Configuration}
    → Row allowance c n d
    → outermost_inputs d ≡ outermost_inputs c
row_inputs_kept no_step = refl
row_inputs_kept (one_more r s f) = inputs_kept s ∙ row_inputs_kept r

-- They are the labels that the program started with.
pub start_inputs_kept : {allowance n : ℕ} (L : List Wire) (M : Term) {d : Configuration}
    → Row allowance (start L M) n d
    → outermost_inputs d ≡ L
start_inputs_kept L M r = row_inputs_kept r

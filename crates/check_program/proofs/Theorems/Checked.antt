-- The check of a file: demand 2 of it, and what it accepts is safe.
use Rattle.std.specs.Prelude.{ℕ, zero, suc, ◌≤◌, ◌≡◌, refl, ◌↔◌, ◌⊎◌, List, [], length, T as Truth, Result, Ok, Err}
use Rattle.std.proofs.Common.{arith, sym, ◌∙◌, ap, ap₂, subst, inl, inr}
use Rattle.std.proofs.Math.Option.{Option, none, some}
use Rattle.rules.specs.Types.{Wire, Ty}
use Rattle.rules.specs.Gates.{nth}
use Rattle.rules.specs.Terms.{Term}
use Rattle.rules.specs.Typing.{◌∣◌⊢◌∶◌}
use Rattle.rules.specs.Counting.{source}
use Rattle.rules.proofs.Theorems.Safety.{demand3}
use Rattle.program.specs.Format.{label_count, first_term}
use Rattle.program.specs.Reading.{read_of}
use Rattle.program.proofs.Theorems.Accepting.{read_sound}
use Rattle.program.specs.declared.format.Sizes.{Sizes}
use Rattle.refusals.specs.declared.Refusal.{Refusal}
use Rattle.refusals.specs.declared.Refusal.TheVariants.{Typing}
use Rattle.check_program.specs.Checking.{Checked, typed, fault, earlier, check_term, wrong_label, Verdict, has_type}
use Rattle.check_program.specs.Checking.{refusal, secondly, decided, verdict}
use Rattle.check_program.specs.Answers.{labels_from, labels_of, term_of, accepts, refuses, judged, judged_as}
use Rattle.check_program.specs.Answers.{check_of}
use Rattle.check_program.proofs.Laws.ReadBack.{program_read}
use Rattle.check_program.specs.Demand2.{IsRead, FirstFaults, CheckMeans}
use Rattle.check_program.specs.Safe.{AcceptedIsSafe}
use Rattle.check_program.proofs.Theorems.Agreement.{accepts→has, has→accepts}
use Rattle.check_program.proofs.Theorems.Places.{sixteen, seventeen, eighteen}

judged_type : (v : Verdict) (A : Ty) → judged v ≡ accepts A → v ≡ has_type A
judged_type (has_type B) A h = let p : B ≡ A = cc in ap has_type p
judged_type (refusal number place) A h = let z : ◌≡◌ {A = ℕ} 0 1 = cc in absurd (omega arith)

accepted_parts : (f : List ℕ) (A : Ty) (r : Result Sizes Refusal)
    → read_of f ≡ r
    → judged_as f r ≡ accepts A
    → IsRead f × (verdict (labels_of f) (first_term f) (term_of f) ≡ has_type A)
accepted_parts f A (Ok s) k h = (record { L = s.labels; P = s.types; N = s.terms; read = k }, judged_type _ A h)
accepted_parts f A (Err r) k h = let z : ◌≡◌ {A = ℕ} 0 1 = cc in absurd (omega arith)

-- The check accepts a file with the type A exactly if the reader accepts it and the rules derive A for its term with exactly
-- its labels.
pub check_derives : (f : List ℕ) (A : Ty) → (check_of f ≡ accepts A) ↔ (IsRead f × ([] ∣ nth (labels_of f) ⊢ term_of f ∶ A))
unfolding check_of
check_derives f A = (onward, back)
  where
    onward : check_of f ≡ accepts A → IsRead f × ([] ∣ nth (labels_of f) ⊢ term_of f ∶ A)
    onward h =
        let p = accepted_parts f A (read_of f) refl h in
        (p.0, accepts→has (labels_of f) (first_term f) (term_of f) A p.1)

    back : IsRead f × ([] ∣ nth (labels_of f) ⊢ term_of f ∶ A) → check_of f ≡ accepts A
    back h =
        let r = h.0 in
        let t = read_sound f r.L r.P r.N r.read in
        let s : Truth (source (term_of f)) = subst (λ M. Truth (source M)) (sym (program_read t.2)) t.2.is_source in
        ap (judged_as f) r.read ∙ ap judged (has→accepts (labels_of f) (first_term f) (term_of f) A s h.1)

-- Demand 3 holds of every program that the check accepts.
pub accepted_is_safe : (f : List ℕ) → AcceptedIsSafe f
unfolding AcceptedIsSafe
accepted_is_safe f A h n c r = demand3 ((check_derives f A).0 h).1 r

-- The check of a file that is read is its verdict.
read_verdict : (f : List ℕ) → IsRead f → check_of f ≡ judged (verdict (labels_of f) (first_term f) (term_of f))
unfolding check_of
read_verdict f r = ap (judged_as f) r.read

judged_refusal : (v : Verdict) (n p : ℕ) → (judged v ≡ refuses (Typing n p)) ↔ (v ≡ refusal n p)
judged_refusal (has_type A) n p = (
  λ h. let z : ◌≡◌ {A = ℕ} 0 1 = cc in absurd (omega arith),
  λ h. let z : ◌≡◌ {A = ℕ} 0 1 = cc in absurd (omega arith),
)
judged_refusal (refusal m q) n p = (
  λ h. let x : m ≡ n = cc in let y : q ≡ p = cc in ap₂ refusal x y,
  λ h. let x : m ≡ n = cc in let y : q ≡ p = cc in ap₂ (λ a b. refuses (Typing a b)) x y,
)

-- The refusals of the check of a file that is read, where its verdict is known.
refused_where : (f : List ℕ) (n p : ℕ) {X : Type 0}
    → IsRead f
    → (verdict (labels_of f) (first_term f) (term_of f) ≡ refusal n p) ↔ X
    → (check_of f ≡ refuses (Typing n p)) ↔ X
refused_where f n p r k =
    let v = read_verdict f r in
    let j = judged_refusal (verdict (labels_of f) (first_term f) (term_of f)) n p in
    (λ h. k.0 (j.0 (sym v ∙ h)), λ x. v ∙ j.1 (k.1 x))

-- In a file the labels stand before the terms.
labels_length : (f : List ℕ) (e n : ℕ) → length (labels_from f e n) ≡ n
labels_length f e zero = refl
labels_length f e (suc n) = ap suc (labels_length f (suc e) n)

labels_before : (f : List ℕ) → length (labels_of f) ≤ first_term f
labels_before f = let x = labels_length f 0 (label_count f) in omega arith

-- A verdict refuses with 16, 17 or 18.
decided_number : (L : List Wire) (M : Term) (c : Checked) (n p : ℕ)
    → decided L M c ≡ refusal n p
    → (n ≡ 16) ⊎ (n ≡ 17) ⊎ (n ≡ 18)
decided_number L M (fault e) n p h = let x : 16 ≡ n = cc in inl (sym x)
decided_number L M (typed A u v) n p h = go (earlier (wrong_label M 0 (length L)) u) v h
  where
    go : (o v : Option ℕ) → secondly A o v ≡ refusal n p → (n ≡ 16) ⊎ (n ≡ 17) ⊎ (n ≡ 18)
    go (some q) v h = let x : 17 ≡ n = cc in inr (inl (sym x))
    go none (some q) h = let x : 18 ≡ n = cc in inr (inr (sym x))
    go none none h = let z : ◌≡◌ {A = ℕ} 0 1 = cc in absurd (omega arith)

no_other_refusal : (f : List ℕ)
    → IsRead f
    → (x : Refusal)
    → check_of f ≡ refuses x
    → (p : ℕ) × ((x ≡ Typing 16 p) ⊎ (x ≡ Typing 17 p) ⊎ (x ≡ Typing 18 p))
no_other_refusal f r x h = go (verdict L e M) refl (sym (read_verdict f r) ∙ h)
  where
    L : List Wire
    L = labels_of f

    e : ℕ
    e = first_term f

    M : Term
    M = term_of f

    go : (v : Verdict)
        → verdict L e M ≡ v
        → judged v ≡ refuses x
        → (p : ℕ) × ((x ≡ Typing 16 p) ⊎ (x ≡ Typing 17 p) ⊎ (x ≡ Typing 18 p))
    go (has_type A) k h = let z : ◌≡◌ {A = ℕ} 0 1 = cc in absurd (omega arith)
    go (refusal n p) k h =
        let y : x ≡ Typing n p = cc in (
          p,
          elim (decided_number L M (check_term L [] 0 e M) n p k) [
            | inl a ↦ inl (y ∙ ap (λ m. Typing m p) a)
            | inr b ↦ elim b [ inl a ↦ inr (inl (y ∙ ap (λ m. Typing m p) a)) | inr a ↦ inr (inr (y ∙ ap (λ m. Typing m p) a)) ]
          ],
        )

not_read_refused : (f : List ℕ) (x : Refusal) → read_of f ≡ Err x → check_of f ≡ refuses x
unfolding check_of
not_read_refused f x h = ap (judged_as f) h

-- Ticket 1 of every check.
first_faults_of : (f : List ℕ) → IsRead f → FirstFaults f (λ x. check_of f ≡ refuses x)
first_faults_of f r =
    record {
      sixteen = λ p. refused_where f 16 p r (sixteen (labels_of f) (first_term f) (term_of f) p);
      seventeen = λ p. refused_where f 17 p r (seventeen (labels_of f) (first_term f) (term_of f) (labels_before f) p);
      eighteen = λ p. refused_where f 18 p r (eighteen (labels_of f) (first_term f) (term_of f) (labels_before f) p);
    }

-- Demand 2 of every check.
pub check_means : (f : List ℕ) → CheckMeans f
check_means f =
    record {
      accepted = check_derives f;
      not_read = not_read_refused f;
      first_faults = first_faults_of f;
      no_other = no_other_refusal f;
    }

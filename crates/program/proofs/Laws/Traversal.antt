-- Laws of traversals: how the answers of the parts make the answer of the whole.
use Rattle.std.specs.Prelude.{ℕ, zero, suc, ◌+◌, ◌-◌, ◌<◌, ◌≡◌, refl, List, [], ◌∷◌, Result, Ok, Err}
use Rattle.std.proofs.Common.{arith, add-one, sym, ap, subst, ◌∙◌}
use Rattle.program.specs.Traversal.{parts_at, traverse_from}
use Rattle.program.proofs.Laws.TreeTraversal.{traverse_on}
use Rattle.program.specs.Traversal.{Subject}
use Rattle.program.specs.declared.traversal.Parts.{Parts}
use Rattle.program.specs.declared.traversal.Parts.TheVariants.{Leaf, One, Two, Stop}
use Rattle.program.specs.declared.traversal.Halt.{Halt}
use Rattle.program.specs.declared.traversal.Halt.TheVariants.{Stopped, Out}
use Rattle.program.specs.Reach.{Ends, TraversedOf}

-- With no part waiting the traversal has ended.
pub traverse_none : (subject : Subject) (f : List ℕ) (left e : ℕ) → traverse_from subject f left e [] ≡ Ok e
traverse_none subject f zero e = refl
traverse_none subject f (suc left) e = refl

-- A traversal over one type or term with nothing behind it is the definition's.
pub traversed_alone
    : (subject : Subject) (f : List ℕ) (end e binders : ℕ) (r : Result ℕ Halt) → TraversedOf subject f end e binders r
    → r ≡ traverse_from subject f (end - e) e (binders ∷ [])
traversed_alone subject f end e binders (Ok m) walked = sym (walked.ends.1 [] ∙ traverse_none subject f (end - m) m)
traversed_alone subject f end e binders (Err (Stopped at)) walked = sym (walked.ends [])
traversed_alone subject f end e binders (Err Out) walked = sym (walked.ends [])

-- At an entry of the section that waits for these parts.
pub record AtEntry (subject : Subject) (f : List ℕ) (end e binders : ℕ) (parts : Parts) : Type 0 where
  pub inside : e < end
  pub parts_are : parts_at subject f e binders ≡ parts

pub at_entry_lem
    : (subject : Subject) {f : List ℕ} {end e binders : ℕ} {read parts : Parts}
    → e < end → read ≡ parts_at subject f e binders → read ≡ parts
    → AtEntry subject f end e binders parts
at_entry_lem subject {f} {end} {e} {binders} {read} {parts} inside is told = record {
  inside = inside;
  parts_are = sym is ∙ told;
}

-- The rest of a traversal behind an entry with these parts, as the code counts entries.
abbrev go_on : Subject → List ℕ → ℕ → ℕ → List ℕ → Parts → Result ℕ Halt
go_on subject f left e waiting Leaf = traverse_from subject f left (e + 1) waiting
go_on subject f left e waiting (One x) = traverse_from subject f left (e + 1) (x ∷ waiting)
go_on subject f left e waiting (Two x y) = traverse_from subject f left (e + 1) (x ∷ y ∷ waiting)
go_on subject f left e waiting Stop = Err (Stopped e)

here_is : (subject : Subject) (f : List ℕ) (left e : ℕ) (waiting : List ℕ) (p : Parts)
    → traverse_on subject f left e waiting p ≡ go_on subject f left e waiting p
here_is subject f left e waiting Leaf = rw add-one
here_is subject f left e waiting (One x) = rw add-one
here_is subject f left e waiting (Two x y) = rw add-one
here_is subject f left e waiting Stop = refl

module _ {subject : Subject} {f : List ℕ} {end e binders : ℕ} {parts : Parts}
    (here : AtEntry subject f end e binders parts) where
  -- An entry of the section decides how the traversal goes on.
  goes_on
      : (waiting : List ℕ)
      → traverse_from subject f (end - e) e (binders ∷ waiting) ≡ go_on subject f (end - (e + 1)) e waiting parts
  goes_on waiting =
      let inside = here.inside in
      let left : end - e ≡ suc (end - (e + 1)) = omega arith in
      ap (λ n. traverse_from subject f n e (binders ∷ waiting)) left
      ∙ here_is subject f (end - (e + 1)) e waiting (parts_at subject f e binders)
      ∙ ap (go_on subject f (end - (e + 1)) e waiting) here.parts_are

module _ {subject : Subject} {f : List ℕ} {end e binders : ℕ} where
  -- An entry with one part.
  one_ends
      : {x : ℕ} → AtEntry subject f end e binders (One x) → (r : Result ℕ Halt) → Ends subject f end (e + 1) x r
      → Ends subject f end e binders r
  one_ends here (Ok m) part =
      let low = part.0 in
      (omega arith, λ waiting. goes_on here waiting ∙ part.1 waiting)
  one_ends here (Err (Stopped at)) part = λ waiting. goes_on here waiting ∙ part waiting
  one_ends here (Err Out) part = λ waiting. goes_on here waiting ∙ part waiting

  pub traversed_one
      : {x : ℕ} {r : Result ℕ Halt} → AtEntry subject f end e binders (One x) → TraversedOf subject f end (e + 1) x r
      → TraversedOf subject f end e binders r
  traversed_one {x} {r} here part = record { ends = one_ends here r part.ends }

  -- An entry with two parts, the first of which ends before entry m.
  module _ {x y m : ℕ} {q : Result ℕ Halt} (here : AtEntry subject f end e binders (Two x y))
      (first : TraversedOf subject f end (e + 1) x q) (is : q ≡ Ok m) where
    first_ends : Ends subject f end (e + 1) x (Ok m)
    first_ends = subst (λ r. Ends subject f end (e + 1) x r) is first.ends

    pub first_ended : e < m
    first_ended =
        let low = first_ends.0 in
        omega arith

    two_end : (r : Result ℕ Halt) → Ends subject f end m y r → Ends subject f end e binders r
    two_end (Ok k) second =
        let low = first_ended in
        let high = second.0 in
        (omega arith, λ waiting. goes_on here waiting ∙ first_ends.1 (y ∷ waiting) ∙ second.1 waiting)
    two_end (Err (Stopped at)) second = λ waiting. goes_on here waiting ∙ first_ends.1 (y ∷ waiting) ∙ second waiting
    two_end (Err Out) second = λ waiting. goes_on here waiting ∙ first_ends.1 (y ∷ waiting) ∙ second waiting

    pub traversed_two : {r : Result ℕ Halt} → TraversedOf subject f end m y r → TraversedOf subject f end e binders r
    traversed_two {r} second = record { ends = two_end r second.ends }

  -- An entry with two parts, the first of which stops the traversal or runs out.
  first_halts
      : {x y : ℕ} → AtEntry subject f end e binders (Two x y) → (halt : Halt) → Ends subject f end (e + 1) x (Err halt)
      → Ends subject f end e binders (Err halt)
  first_halts {x} {y} here (Stopped at) part = λ waiting. goes_on here waiting ∙ part (y ∷ waiting)
  first_halts {x} {y} here Out part = λ waiting. goes_on here waiting ∙ part (y ∷ waiting)

  pub traversed_two_halted
      : {x y : ℕ} {halt : Halt} {q : Result ℕ Halt} → AtEntry subject f end e binders (Two x y)
      → TraversedOf subject f end (e + 1) x q → q ≡ Err halt → TraversedOf subject f end e binders (Err halt)
  traversed_two_halted {x} {y} {halt} here first is =
      let part = subst (λ r. Ends subject f end (e + 1) x r) is first.ends in
      record { ends = first_halts here halt part }

-- Files that differ in boxes (02, ticket 10).
use Rattle.std.specs.Prelude.{ℕ, ◌≡◌, List}
use Rattle.check_program.specs.Answers.{labels_of, term_of}
use Rattle.boxing.specs.Spots.{OneBoxLess, DifferInBoxes}
use Rattle.run_answers.specs.Answers.{ran, run_of}

-- "a program where somewhere an abstraction F is lifted, boxed at T and the box applied to a term N, and another with F itself
-- applied to N in that spot": the files have the same labels, and their terms differ in that box. Their type sections may differ.
pub record OneBoxLessFile (with_box without_box : List ℕ) : Type 0 where
  pub same_labels : labels_of with_box ≡ labels_of without_box
  pub one_less : OneBoxLess (term_of with_box) (term_of without_box)

-- The same of several spots at once.
pub record FilesDifferInBoxes (f f' : List ℕ) : Type 0 where
  pub same_labels : labels_of f ≡ labels_of f'
  pub terms_differ : DifferInBoxes (term_of f) (term_of f')

-- "If both pass and both finish, their listings are equal in every byte": of any two finished runs of two files, whatever the limits.
-- "A run first checks", so that both pass.
abbrev pub SameListings : List ℕ → List ℕ → Type 0
SameListings f f' =
    (limit limit' steps steps' gates gates' : ℕ) (bytes bytes' : List ℕ)
    → run_of f limit ≡ ran steps gates bytes
    → run_of f' limit' ≡ ran steps' gates' bytes'
    → (gates ≡ gates') × (bytes ≡ bytes')

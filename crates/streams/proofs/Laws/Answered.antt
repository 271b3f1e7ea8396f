-- What was written is the answer to what was read.
use Rattle.std.specs.Prelude.{ℕ, ◌≤◌, ◌≡◌, List, length, take, None, Some, Ok, Err, OnOk}
use Rattle.std.specs.Result.{result_and}
use Rattle.std.specs.declared.option.Option.{Option}
use Rattle.std.specs.declared.result.Result.{Result}
use Rattle.std.specs.Io.KnownBytes.{Appends, Consumes}
use Rattle.std.proofs.Common.{sym, ◌∙◌, ap, subst, take-take}
use Rattle.std.proofs.Math.Seq.{take-append_seam}
use Rattle.streams.specs.Streamed.{ReadsFirst, AppendsPart, NeedsFirst, WritesAnswer, WritesPart}

-- To read more than is needed loses nothing either.
pub needs_more : (f : List ℕ → List ℕ) (most more : ℕ) → NeedsFirst f most → most ≤ more → NeedsFirst f more
needs_more f most more same within all = sym (same (take more all)) ∙ ap f (take-take most more all within) ∙ same all

-- An f that needs no more than the first bytes, so many, is answered for all.
pub answered : {A E : Type 0} (f : List ℕ → List ℕ) (most : ℕ) (result : Result A E) (input old new : Option (List ℕ)) (read bytes : List ℕ)
    → ((all : List ℕ) → f (take most all) ≡ f all)
    → OnOk result (ReadsFirst most input read)
    → bytes ≡ f read
    → Appends old new bytes
    → OnOk result (WritesAnswer f input old new)
answered f most (Err e) input old new read bytes same first are written = tt
answered f most (Ok x) None old new read bytes same first are written = tt
answered f most (Ok x) (Some all) old new read bytes same first are written =
    subst (Appends old new) (are ∙ ap f first ∙ same all) written

pub answered_part : (f : List ℕ → List ℕ) (input rest old new : Option (List ℕ)) (read bytes : List ℕ)
    → Consumes input rest read
    → bytes ≡ f read
    → AppendsPart old new bytes
    → WritesPart f input old new
answered_part f None rest old new read bytes taken are written = tt
answered_part f (Some all) None old new read bytes taken are written = absurd taken
answered_part f (Some all) (Some more) old new read bytes taken are written =
    let first : take (length read) all ≡ read = ap (take (length read)) taken ∙ take-append_seam read more in
    (length read, subst (AppendsPart old new) (are ∙ ap f (sym first)) written)

-- The same where more is read than is needed, and a read that failed is told behind the answer.
pub answered_and : (f : List ℕ → List ℕ) (most : ℕ) → NeedsFirst f most
    → (A B E : Type 0) (more : ℕ) (wrote : Result A E) (found result : Result B E) (input old new : Option (List ℕ)) (read bytes : List ℕ)
    → result ≡ result_and wrote found
    → OnOk found (ReadsFirst more input read)
    → bytes ≡ f read
    → OnOk wrote (Appends old new bytes)
    → most ≤ more
    → OnOk result (WritesAnswer f input old new)
answered_and f most same A B E more (Err e) found result input old new read bytes is first are written within =
    subst (λ r. OnOk r (WritesAnswer f input old new)) (sym is) tt
answered_and f most same A B E more (Ok x) found result input old new read bytes is first are written within =
    subst (λ r. OnOk r (WritesAnswer f input old new)) (sym is)
    (answered f more found input old new read bytes (needs_more f most more same within) first are written)

-- To read one byte more than the longest file has is enough: the run, and what is printed, are those of the whole file.
use Rattle.std.specs.Prelude.{ℕ, ◌+◌, ◌*◌, ◌<◌, ◌≡◌, refl, Bool, true, false, List, length, take}
use native.Mathlib.Omega.{arith}
use Rattle.std.proofs.Math.Decide.{dec_lt}
use Rattle.std.proofs.Common.{sym, ◌∙◌, ap, take_all, get_or-take}
use Rattle.std.proofs.Math.Path.{ap₂}
use Rattle.std.proofs.Math.ListN.{length-take}
use Rattle.refusals.specs.declared.Refusal.{Refusal}
use Rattle.refusals.specs.declared.Refusal.TheVariants.{Form}
use Rattle.program.specs.Format.{label_count, type_count, term_count}
use Rattle.words.specs.Numbers.{word_at}
use Rattle.program.specs.Reading.{refused, read_of}
use Rattle.program.specs.Sized.{sizes_fit}
use Rattle.program.proofs.Laws.Reading.{ranges, Start, wrong_sizes, wrong_length}
use Rattle.program.specs.declared.format.Sizes.{Sizes}
use Rattle.check_program.specs.Answers.{judged_as, check_of}
use Rattle.run_answers.specs.Answers.{declines, ran_as, run_of}
use Rattle.wirelist_io.specs.Printing.{most_read, step_limit, printed}
use Rattle.wirelist_io.proofs.Theorems.Printed.{printed_refused}

-- A file that the reader refuses.
read_refused : (f : List ℕ) (limit number place : ℕ)
    → refused number place ≡ read_of f
    → run_of f limit ≡ declines (Form number place)
unfolding run_of check_of
read_refused f limit number place e = ap (λ r. ran_as f limit (judged_as f r)) (sym e)

-- A file that is longer than those that are read whole is refused by its sizes and its length.
module _ (f : List ℕ) (long : most_read < length f) where
  abbrev start : List ℕ
  start = take most_read f

  same_word : (i : ℕ) → i < 6 → word_at f i ≡ word_at start i
  unfolding word_at
  same_word i low =
      ap₂
      (λ x y. x + 256 * y)
      (sym (get_or-take most_read f i 0 (omega arith)))
      (sym (get_or-take most_read f (i + 1) 0 (omega arith)))

  sizes : Sizes
  sizes = record { labels = label_count f; types = type_count f; terms = term_count f }

  whole_starts : Start f sizes
  unfolding sizes
  whole_starts = record { labels_are = refl; types_are = refl; terms_are = refl; long = omega arith }

  start_starts : Start start sizes
  unfolding sizes
  start_starts =
      record {
        labels_are = same_word 0 (omega arith);
        types_are = same_word 2 (omega arith);
        terms_are = same_word 4 (omega arith);
        long = omega (arith, length-take most_read f);
      }

  both_refused : (b : Bool)
      → sizes_fit sizes ≡ b
      → (number : ℕ) × (refused number 0 ≡ read_of f) × (refused number 0 ≡ read_of start)
  both_refused false fit = (2, wrong_sizes whole_starts fit, wrong_sizes start_starts fit)
  both_refused true fit =
      let few = ranges sizes fit in (
        3,
        wrong_length whole_starts fit (λ is. omega arith),
        wrong_length start_starts fit (λ is. omega (arith, length-take most_read f)),
      )

  pub long_refused : (x : Refusal) × ((limit : ℕ)
      → (run_of f limit ≡ declines x) × (run_of (take most_read f) limit ≡ declines x))
  long_refused =
      let b = both_refused (sizes_fit sizes) refl in
      (Form b.0 0, λ limit. (read_refused f limit b.0 0 b.1, read_refused start limit b.0 0 b.2))

-- The run of what is read is the run of the whole file, and so is what is printed.
pub same_run : (f : List ℕ) (limit : ℕ) → run_of (take most_read f) limit ≡ run_of f limit
same_run f limit = of (dec_lt most_read (length f))
  where
    of : Dec (most_read < length f) → run_of (take most_read f) limit ≡ run_of f limit
    of (yes long) = let r = (long_refused f long).1 limit in r.1 ∙ sym r.0
    of (no short) = ap (λ g. run_of g limit) (take_all most_read f (omega arith))

pub same_text : (f : List ℕ) → printed (take most_read f) ≡ printed f
same_text f = of (dec_lt most_read (length f))
  where
    of : Dec (most_read < length f) → printed (take most_read f) ≡ printed f
    of (yes long) =
        let r = (long_refused f long).1 step_limit in printed_refused (take most_read f) r.1 ∙ sym (printed_refused f r.0)
    of (no short) = ap printed (take_all most_read f (omega arith))

-- `program::read` meets its contract.
use mathlib.Core.Path.{◌≡◌, sym, ap, ◌∙◌}
use Rattle.std.proofs.Common.{ℕ, ◌≤◌, List, length}
use Rattle.std.specs.Prelude.{Err}
use Rattle.words.specs.Numbers.{word_at}
use Rattle.program.proofs.Laws.Reading.{Start, too_short_lem, wrong_sizes, wrong_length, right_length}
use Rattle.program.proofs.read.Goals as goal

pub returns-then-file-lt-SIZES : goal.returns-then-file-lt-SIZES
returns-then-file-lt-SIZES c = ap Err c.form.ensures ∙ too_short_lem c.args.file.now c.if-file-lt-SIZES.true

-- The three numbers at the start of the file.
begun
    : (f : List ℕ) {l p n : ℕ} → l ≡ word_at f 0 → p ≡ word_at f 2 → n ≡ word_at f 4 → 6 ≤ length f
    → Start f (record { labels = l; types = p; terms = n })
begun f labels types terms long = record { labels_are = labels; types_are = types; terms_are = terms; long = long }

pub returns-then-not-sizes_fit : goal.returns-then-not-sizes_fit
returns-then-not-sizes_fit c =
    let start =
    begun c.args.file.now c.word_at.ensures.value c.word_at-2.ensures.value c.word_at-3.ensures.value c.if-file-lt-SIZES.false in
    ap Err c.form-then-not-sizes_fit.ensures ∙ wrong_sizes start (sym c.sizes_fit.ensures ∙ c.if-not-sizes_fit.true)

pub returns-then-file-s : goal.returns-then-file-s
returns-then-file-s c =
    let start =
    begun c.args.file.now c.word_at.ensures.value c.word_at-2.ensures.value c.word_at-3.ensures.value c.if-file-lt-SIZES.false in
    ap Err c.form-then-file-s.ensures ∙ wrong_length start (sym c.sizes_fit.ensures ∙ c.if-not-sizes_fit.false) c.if-file-s.true

pub returns : goal.returns
returns c =
    let start =
    begun c.args.file.now c.word_at.ensures.value c.word_at-2.ensures.value c.word_at-3.ensures.value c.if-file-lt-SIZES.false in
    c.read_entries.ensures ∙ right_length start (sym c.sizes_fit.ensures ∙ c.if-not-sizes_fit.false) c.if-file-s.false

-- Laws of specs/Layout.antt.
use Rattle.std.specs.Prelude.{◌*◌, ◌≡◌, refl}
use Rattle.check_program.specs.Lengths.{least_work}
use Rattle.check_program.specs.Layout.{least_words}

-- The least length of the working memory is that of its quadwords, two bytes a word.
pub work_fills : least_work ≡ 2 * least_words
work_fills = refl

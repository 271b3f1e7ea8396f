-- The least lengths as numbers of bytes (docs/FORMATS.md), by computation.
use Rattle.std.specs.Prelude.{◌≡◌, refl, [], ◌∷◌}
use Rattle.run_answers.specs.Lengths.{run_lengths}

pub run_lengths_are : run_lengths
    ≡ 15302 ∷ 65536 ∷ 32768 ∷ 1152 ∷ 32776 ∷ 32768 ∷ 2048 ∷ 65536 ∷ 65536 ∷ 65536 ∷ 65536 ∷ []
run_lengths_are = refl

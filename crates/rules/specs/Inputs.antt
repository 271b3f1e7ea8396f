-- What comes of taking steps one after another is what the rules say, in each of the three endings.
use Rattle.std.specs.Prelude.{List, [], ◌∷◌}
use Rattle.rules.specs.Types.{Wire}
use Rattle.rules.specs.Circuits.{circuit}
use Rattle.rules.specs.Steps.{Frame, frame, Configuration, configuration}

-- The inputs of the outermost circuit: of the last frame below, or I if there is none.
abbrev pub inputs_below : List Wire → List Frame → List Wire
inputs_below I [] = I
inputs_below I (frame (circuit J gs) M ∷ X) = inputs_below J X

abbrev pub outermost_inputs : Configuration → List Wire
outermost_inputs (configuration (frame (circuit I gs) M) X K) = inputs_below I X

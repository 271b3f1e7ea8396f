-- Refusals (01, "When each operation says no": "It gives a number and a place, an entry number where named, else 0").
use Rattle.std.specs.Prelude.{ℕ}
use Rattle.refusals.specs.declared.Refusal.{Refusal}
use Rattle.refusals.specs.declared.Refusal.TheVariants.{Form, Typing, Run}

-- 01's number of a refusal.
abbrev pub refusal_number : Refusal → ℕ
refusal_number (Form number place) = number
refusal_number (Typing number place) = number
refusal_number (Run number place) = number

-- 01's place of a refusal.
abbrev pub refusal_place : Refusal → ℕ
refusal_place (Form number place) = place
refusal_place (Typing number place) = place
refusal_place (Run number place) = place

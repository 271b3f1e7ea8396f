-- Laws of tests.
use Rattle.std.specs.Prelude.{◌≡◌, refl, Bool, true, false, ◌&&◌, T as Truth}

-- A test that is passed is true, one that is not is false.
pub is_true : (b : Bool) → Truth b → b ≡ true
is_true true h = refl
is_true false h = absurd h

pub is_false : (b : Bool) → (Truth b → ⊥) → b ≡ false
is_false true h = absurd (h tt)
is_false false h = refl

-- A test of two parts.
pub and_left : (a b : Bool) → Truth (a && b) → Truth a
and_left true b h = tt
and_left false b h = absurd h

pub and_right : (a b : Bool) → Truth (a && b) → Truth b
and_right true b h = h
and_right false b h = absurd h

pub and_parts : (a b : Bool) → Truth (a && b) → Truth a × Truth b
and_parts a b h = (and_left a b h, and_right a b h)

pub and_both : (a b : Bool) → Truth a → Truth b → Truth (a && b)
and_both true b h k = k
and_both false b h k = absurd h

-- Laws of the gates' names.
use Rattle.std.specs.Prelude.{ℕ, zero, suc, ◌≤◌, ◌≡◌, Bool, true, ◌&&◌, List, [], ◌∷◌, T as Truth, leb, length, get_or}
use Rattle.std.proofs.Common.{arith, leb→le}
use Rattle.std.proofs.Math.ListN.{get_or-eq_default}
use Rattle.rules.proofs.Laws.Booleans.{and_left, and_right}
use Rattle.wirelist_lines.specs.Lines.{gate_names, gate_name}
pub use Rattle.wirelist_lines.specs.Lines.{longest_name}

-- No name is longer.
abbrev all_short : List (List ℕ) → Bool
all_short [] = true
all_short (name ∷ names) = leb (length name) longest_name && all_short names

short_at : (names : List (List ℕ)) → Truth (all_short names) → (n : ℕ) → length (get_or names n []) ≤ longest_name
short_at [] t n = omega arith
short_at (name ∷ names) t zero = leb→le _ _ (and_left (leb (length name) longest_name) (all_short names) t)
short_at (name ∷ names) t (suc n) =
    short_at names (and_right (leb (length name) longest_name) (all_short names) t) n

pub name_short : (n : ℕ) → length (gate_name n) ≤ longest_name
unfolding gate_name
name_short n = short_at gate_names tt n

-- A number that is no gate has no letter.
pub no_name : (n : ℕ) → length gate_names ≤ n → gate_name n ≡ []
unfolding gate_name
no_name n past = get_or-eq_default gate_names [] past

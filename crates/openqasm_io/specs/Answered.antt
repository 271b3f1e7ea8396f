-- What is printed from the output buffer of an export or an import.
use Rattle.std.specs.Prelude.{ℕ, ◌≤◌, ◌≡◌, List, length, Result, Ok, Err}
use Rattle.refusals.specs.declared.Refusal.{Refusal}
use Rattle.text.specs.Written.{Written}
use Rattle.wirelist_lines.specs.Least.{refusal_bytes}
use Rattle.openqasm_io.specs.Printing.{refusal_line}

-- What was written stays, and is printed as long as it is; the line of a refusal is written over the buffer.
abbrev pub Ends : Result ℕ Refusal → List ℕ → List ℕ → ℕ → Type 0
Ends (Ok n) l out at = (out ≡ l) × (at ≡ n)
Ends (Err x) l out at = Written l (refusal_line x) out at × (length (refusal_line x) ≤ refusal_bytes)

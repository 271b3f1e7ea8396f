-- The steps at an application and at a let, in the gap buffer: the reduct is written at the start of the gap, and copied to
-- its end if it is not too large. In both cases the walk that is then to be held is held.
use Rattle.std.specs.Prelude.{ℕ, ◌+◌, ◌-◌, Some, None}
use Rattle.machine_substitution.specs.declared.Values.{Values}

-- And the value that it is applied to, where the walked nodes end at l.
abbrev pub application_value : ℕ → ℕ → Values
application_value start l =
    record {
      first = record { start = start; length = l - start };
      second = None;
    }

-- And the halves of the pair, where the let's node stands at place `at`, the second half at `middle`, and the walked nodes
-- end at l. Variable 0 is the second half, variable 1 the first.
abbrev pub let_values : ℕ → ℕ → ℕ → Values
let_values at middle l =
    record {
      first = record { start = middle; length = l - middle };
      second = Some (record { start = at + 2; length = middle - (at + 2) });
    }

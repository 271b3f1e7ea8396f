-- The table of all cases: those of 01, then those of 02's tickets.
use Rattle.std.specs.Prelude.{List, ◌++◌}
use Rattle.cases.specs.Case.{Case}
use Rattle.cases.specs.BaseCases.{base_cases}
use Rattle.cases.specs.FirstFaults.{first_fault_cases}
use Rattle.cases.specs.CopiedPairs.{pair_cases}
use Rattle.cases.specs.UnitCases.{unit_cases}
use Rattle.cases.specs.ThreeWires.{three_wire_cases}
use Rattle.cases.specs.Boxes.{box_cases}

abbrev pub table : List Case
table = base_cases ++ (first_fault_cases ++ (pair_cases ++ (unit_cases ++ (three_wire_cases ++ box_cases))))

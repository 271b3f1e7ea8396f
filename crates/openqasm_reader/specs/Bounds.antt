-- How large the fields of an item are that is read from bytes. Only proofs need it.
use Rattle.std.specs.Prelude.{◌≤◌, ◌<◌}
use Rattle.openqasm_reader.specs.declared.Item.{Item}

pub record Bounded (i : Item) : Type 0 where
  pub kind_small : i.kind < 256
  pub first_small : i.first < 4096
  pub second_small : i.second < 4096
  pub third_small : i.third < 4096
  pub length_small : i.length ≤ 26

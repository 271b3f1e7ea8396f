-- `openqasm_import::import` meets its contract. Assumes nothing.
use native.Mathlib.Omega.{arith}
use mathlib.Core.Path.{◌∙◌, ap}
use lib.ListN.{replicate}
use Rattle.openqasm_import.specs.Buffers.{AllLong}
use Rattle.openqasm_import.proofs.Theorems.Imports.{import_means}
use Rattle.openqasm_import.proofs.Laws.Answering.{short_answered, long_answered}
use Rattle.openqasm_import.proofs.import.Goals as goal

pub returns-then-out-lt-MOST_BYTES : goal.returns-then-out-lt-MOST_BYTES
returns-then-out-lt-MOST_BYTES c =
    let a = c.args in
    let short = short_answered a.text.now a.out.now a.slots.now a.listing.now a.table.now a.exported.now
    (λ long. omega (arith, c.then-out-lt-MOST_BYTES.either)) c.refused.ensures in
    record { answer = short.0; bytes = short.1; meaning = import_means a.text.now }

pub returns : goal.returns
returns c =
    let a = c.args in
    let u = c.import_uncleared-answer in
    let all : AllLong a.out.now a.slots.now a.listing.now a.table.now a.exported.now = record {
      out_long = omega arith;
      slots_long = omega arith;
      listing_long = omega arith;
      table_long = omega arith;
      exported_long = omega arith;
    } in
    let long = long_answered a.text.now a.out.now a.slots.now a.listing.now a.table.now a.exported.now
    u.new.out c.clear.new.memory c.clear-2.new.memory c.clear-3.new.memory c.clear-4.new.memory all u.ensures.value u.ensures.out_after
    (c.clear.ensures ∙ ap (λ n. replicate n 0) u.auto.slots)
    (c.clear-2.ensures ∙ ap (λ n. replicate n 0) u.auto.listing)
    (c.clear-3.ensures ∙ ap (λ n. replicate n 0) u.auto.table)
    (c.clear-4.ensures ∙ ap (λ n. replicate n 0) u.auto.exported) in
    record { answer = long.0; bytes = long.1; meaning = import_means a.text.now }

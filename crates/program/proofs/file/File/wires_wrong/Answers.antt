-- `program::file::File::wires_wrong` meets its contract.
use native.Mathlib.Omega.{arith}
use borrow.Author.Tests.{ne_eqb}
use Rattle.program.proofs.Laws.Reading.{label_wires_lem, type_wires, term_wires}
use Rattle.program.proofs.file.File.wires_wrong.Goals as goal

pub returns-then-e-self : goal.returns-then-e-self
returns-then-e-self c =
    let file = c.args.self.now in
    label_wires_lem file.bytes.now c.args.e (omega (arith, file.sized.labels_are, c.if-e-self.true))

pub returns-then-kind-eq-CIRCUIT : goal.returns-then-kind-eq-CIRCUIT
returns-then-kind-eq-CIRCUIT c =
    let file = c.args.self.now in
    let from = rw file.sized.labels_are at c.if-e-self.false in
    let below = rw c.first_term.ensures at c.if-e-first_term.true in
    rw (← type_wires file.bytes.now c.args.e from below, ← c.kind_at-kind.ensures.value, c.if-kind-eq-CIRCUIT.true)
    c.circ_wrong.ensures

pub returns-else-kind-eq-CIRCUIT : goal.returns-else-kind-eq-CIRCUIT
returns-else-kind-eq-CIRCUIT c =
    let file = c.args.self.now in
    let from = rw file.sized.labels_are at c.if-e-self.false in
    let below = rw c.first_term.ensures at c.if-e-first_term.true in
    rw (← type_wires file.bytes.now c.args.e from below, ← c.kind_at-kind.ensures.value, ne_eqb _ _ c.if-kind-eq-CIRCUIT.false)

pub returns-then-kind-eq-BOX : goal.returns-then-kind-eq-BOX
returns-then-kind-eq-BOX c =
    let from = rw c.first_term.ensures at c.if-e-first_term.false in
    rw (← term_wires c.args.self.now.bytes.now c.args.e from, ← c.kind_at-kind.ensures.value, c.if-kind-eq-BOX.true)
    c.box_wrong.ensures

pub returns-else-kind-eq-BOX : goal.returns-else-kind-eq-BOX
returns-else-kind-eq-BOX c =
    let from = rw c.first_term.ensures at c.if-e-first_term.false in
    rw (← term_wires c.args.self.now.bytes.now c.args.e from, ← c.kind_at-kind.ensures.value, ne_eqb _ _ c.if-kind-eq-BOX.false)

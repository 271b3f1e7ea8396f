-- Texts by computation: of no wire, of a gate on one qubit, of a CNOT whose outputs are exchanged, of a CCX, and of a measured Qubit
-- whose Bit decides over another; and the gates that have none.
use Rattle.std.specs.Prelude.{◌≡◌, refl, false, [], ◌∷◌}
use Rattle.rules.specs.Types.{Bit, Qubit}
use Rattle.rules.specs.Gates.{Init, Discard, CCX}
use Rattle.rules.specs.Terms.{◌on◌}
use Rattle.text.specs.Text.{ascii, decimal}
use Rattle.openqasm.specs.Layout.{has_statement, gate_line, export_text, most_text}

pub nothing_exported : export_text [] [] [] ≡ ascii "OPENQASM 2.0;\ninclude \"qelib1.inc\";\n// out\n"
unfolding export_text
nothing_exported = refl

pub gate_exported : export_text (Qubit ∷ []) ((0 on 0 ∷ []) ∷ []) (1 ∷ [])
    ≡ ascii "OPENQASM 2.0;\ninclude \"qelib1.inc\";\nqreg q0[1];\ncreg c0[1];\nh q0[0];\n// out q0\n"
unfolding export_text gate_line decimal
gate_exported = refl

pub cnot_exported : export_text (Qubit ∷ Qubit ∷ []) ((5 on 1 ∷ 0 ∷ []) ∷ []) (2 ∷ 3 ∷ [])
    ≡ ascii "OPENQASM 2.0;\ninclude \"qelib1.inc\";\nqreg q0[1];\ncreg c0[1];\nqreg q1[1];\ncreg c1[1];\ncx q1[0],q0[0];\n// out q1 q0\n"
unfolding export_text gate_line decimal
cnot_exported = refl

pub ccx_exported : export_text (Qubit ∷ Qubit ∷ Qubit ∷ []) ((CCX on 2 ∷ 0 ∷ 1 ∷ []) ∷ []) (3 ∷ 4 ∷ 5 ∷ [])
    ≡ ascii "OPENQASM 2.0;\ninclude \"qelib1.inc\";\nqreg q0[1];\ncreg c0[1];\nqreg q1[1];\ncreg c1[1];\nqreg q2[1];\ncreg c2[1];\nccx q2[0],q0[0],q1[0];\n// out q2 q0 q1\n"
unfolding export_text gate_line decimal
ccx_exported = refl

pub bit_exported : export_text (Qubit ∷ Bit ∷ Qubit ∷ []) ((8 on 1 ∷ 5 ∷ []) ∷ (7 on 3 ∷ 2 ∷ []) ∷ (6 on 0 ∷ []) ∷ []) (7 ∷ 4 ∷ 6 ∷ [])
    ≡ ascii "OPENQASM 2.0;\ninclude \"qelib1.inc\";\nqreg q0[1];\ncreg c0[1];\ncreg c1[1];\nqreg q2[1];\ncreg c2[1];\nmeasure q0[0] -> c0[0];\nif(c0==1) x q2[0];\nif(c1==1) z q2[0];\n// out q2 c0 c1\n"
unfolding export_text gate_line decimal
bit_exported = refl

pub init_unwritten : has_statement Init ≡ false
unfolding has_statement
init_unwritten = refl

pub discard_unwritten : has_statement Discard ≡ false
unfolding has_statement
discard_unwritten = refl

pub longest_text : most_text ≡ 55211
longest_text = refl

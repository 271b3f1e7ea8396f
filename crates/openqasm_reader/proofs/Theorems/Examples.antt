-- Items by computation: a gate on one qubit, one on two, one on three, a measurement and a gate on a Bit and a Qubit; the declarations
-- of a Qubit, which are one item, and of a Bit; the name of an output; and where the text ends.
use Rattle.std.specs.Prelude.{◌≡◌, refl, []}
use Rattle.text.specs.Text.{ascii}
use Rattle.openqasm_reader.specs.Items.{kind_of, before, between, behind, item_in}

pub hadamard_read : item_in (ascii "h q5[0];\n") ≡ record { kind = 0; first = 5; second = 0; third = 0; length = 9 }
unfolding item_in kind_of before between behind
hadamard_read = refl

pub cnot_read : item_in (ascii "cx q10[0],q3[0];\n") ≡ record { kind = 5; first = 10; second = 3; third = 0; length = 17 }
unfolding item_in kind_of before between behind
cnot_read = refl

pub ccx_read : item_in (ascii "ccx q10[0],q3[0],q11[0];\n") ≡ record { kind = 11; first = 10; second = 3; third = 11; length = 25 }
unfolding item_in kind_of before between behind
ccx_read = refl

pub measurement_read : item_in (ascii "measure q63[0] -> c63[0];\n") ≡ record { kind = 6; first = 63; second = 63; third = 0; length = 26 }
unfolding item_in kind_of before between behind
measurement_read = refl

pub controlled_read : item_in (ascii "if(c0==1) z q12[0];\n") ≡ record { kind = 8; first = 0; second = 12; third = 0; length = 20 }
unfolding item_in kind_of before between behind
controlled_read = refl

pub qubit_read : item_in (ascii "qreg q7[1];\ncreg c7[1];\n") ≡ record { kind = 129; first = 7; second = 7; third = 0; length = 24 }
unfolding item_in kind_of before between behind
qubit_read = refl

pub bit_read : item_in (ascii "creg c0[1];\n") ≡ record { kind = 128; first = 0; second = 0; third = 0; length = 12 }
unfolding item_in kind_of before between behind
bit_read = refl

pub output_read : item_in (ascii " q12 c3\n") ≡ record { kind = 130; first = 12; second = 0; third = 0; length = 4 }
unfolding item_in kind_of before between behind
output_read = refl

pub nothing_read : item_in [] ≡ record { kind = 255; first = 0; second = 0; third = 0; length = 0 }
unfolding item_in kind_of
nothing_read = refl

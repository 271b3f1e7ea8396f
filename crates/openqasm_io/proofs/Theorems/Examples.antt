-- What is printed, by computation: for c2's listing and one with CCX and for their texts, for a listing with Init, and for nothing.
use Rattle.std.specs.Prelude.{ℕ, ◌≡◌, refl}
use mathlib.Core.List.{List, [], ◌∷◌, flat_map}
use Rattle.rules.specs.Gates.{is_gate, wires_in}
use Rattle.words.specs.Numbers.{word_at}
use Rattle.listing.specs.Listing.{listing_bytes}
use Rattle.listing.specs.Reading.{kind_at}
use Rattle.wire_table.specs.Wires.{broken_at}
use Rattle.listing_check.specs.Answers.{listing_check_of}
use Rattle.text.specs.Text.{ascii, decimal}
use Rattle.openqasm.specs.Layout.{has_statement, gate_line, export_text}
use Rattle.openqasm_export.specs.Answers.{first_unwritten, export_check_of}
use Rattle.openqasm_reader.specs.Items.{kind_of, before, between, behind, item_in}
use Rattle.openqasm_parts.specs.Reading.{parts_read}
use Rattle.openqasm_import.specs.Answers.{import_of}
use Rattle.openqasm_io.specs.Printing.{exported_bytes, imported_bytes}

-- c2's listing.
abbrev c2 : List ℕ
c2 =
    1 ∷ 0 ∷ 1 ∷ 0 ∷ 1 ∷ 0
    ∷ 129 ∷ 0
    ∷ 255 ∷ 255 ∷ 255 ∷ 255 ∷ 255 ∷ 255 ∷ 0 ∷ 0 ∷ 255 ∷ 255 ∷ 255 ∷ 255
    ∷ 1 ∷ 0 ∷ []

abbrev c2_text : List ℕ
c2_text = ascii "OPENQASM 2.0;\ninclude \"qelib1.inc\";\nqreg q0[1];\ncreg c0[1];\nh q0[0];\n// out q0\n"

-- 02, ticket 6: CCX takes 2, 0 and 1 and makes 3, 4 and 5, and once more 5, 3 and 4.
abbrev ccx : List ℕ
ccx =
    3 ∷ 0 ∷ 2 ∷ 0 ∷ 3 ∷ 0
    ∷ 129 ∷ 129 ∷ 129 ∷ 11 ∷ 11
    ∷ 255 ∷ 255 ∷ 255 ∷ 255 ∷ 255 ∷ 255 ∷ 255 ∷ 255 ∷ 255 ∷ 255 ∷ 255 ∷ 255 ∷ 255 ∷ 255 ∷ 255 ∷ 255 ∷ 255 ∷ 255
    ∷ 2 ∷ 0 ∷ 0 ∷ 0 ∷ 1 ∷ 0
    ∷ 5 ∷ 0 ∷ 3 ∷ 0 ∷ 4 ∷ 0
    ∷ 6 ∷ 0 ∷ 7 ∷ 0 ∷ 8 ∷ 0 ∷ []

abbrev ccx_text : List ℕ
ccx_text = ascii "OPENQASM 2.0;\ninclude \"qelib1.inc\";\nqreg q0[1];\ncreg c0[1];\nqreg q1[1];\ncreg c1[1];\nqreg q2[1];\ncreg c2[1];\nccx q2[0],q0[0],q1[0];\nccx q1[0],q2[0],q0[0];\n// out q1 q2 q0\n"

-- `exported_bytes` with every definition that it rests on open, and `imported_bytes` likewise: a line `unfolding opened` below opens
-- them all.
opened : List ℕ → List ℕ
unfolding exported_bytes export_check_of first_unwritten has_statement listing_check_of broken_at word_at kind_at is_gate wires_in decimal gate_line export_text
opened b = exported_bytes b

opened_import : List ℕ → List ℕ
unfolding opened imported_bytes import_of parts_read item_in kind_of before between behind listing_bytes flat_map
opened_import text = imported_bytes text

pub c2_exported : exported_bytes c2 ≡ c2_text
unfolding opened
c2_exported = refl

pub ccx_exported : exported_bytes ccx ≡ ccx_text
unfolding opened
ccx_exported = refl

-- 02, ticket 5: Init makes the one output.
pub init_exported : exported_bytes (0 ∷ 0 ∷ 1 ∷ 0 ∷ 1 ∷ 0 ∷ 9 ∷ 255 ∷ 255 ∷ 255 ∷ 255 ∷ 255 ∷ 255 ∷ 0 ∷ 0 ∷ []) ≡ ascii "refused 28 0\n"
unfolding opened
init_exported = refl

pub nothing_exported : exported_bytes [] ≡ ascii "refused 24 0\n"
unfolding opened
nothing_exported = refl

pub c2_imported : imported_bytes c2_text ≡ c2
unfolding opened_import
c2_imported = refl

pub ccx_imported : imported_bytes ccx_text ≡ ccx
unfolding opened_import
ccx_imported = refl

pub nothing_imported : imported_bytes [] ≡ ascii "refused 27 0\n"
unfolding opened_import
nothing_imported = refl

-- Listings by computation: of c1 to c3 and c10, as these cases end in crate rules, of a circuit with a Bit, of one whose wires
-- come and go, and of CCX.
use Rattle.std.specs.Prelude.{◌≡◌, refl}
use mathlib.Core.List.{[], ◌∷◌, flat_map}
use Rattle.rules.specs.Types.{Bit, Qubit}
use Rattle.rules.specs.Gates.{Init, Discard, CCX}
use Rattle.rules.specs.Terms.{single, both, empty, ◌on◌}
use Rattle.rules.specs.Circuits.{circuit}
use Rattle.rules.specs.CaseTerms.{one_label, two_labels, H, CNOT, Meas}
use Rattle.listing.specs.Listing.{listing, listing_bytes, most_bytes}

-- c1: "output wire 0".
pub c1_listing : listing (circuit one_label []) (single 0)
    ≡ 1 ∷ 0 ∷ 0 ∷ 0 ∷ 1 ∷ 0 ∷ 129 ∷ 255 ∷ 255 ∷ 255 ∷ 255 ∷ 255 ∷ 255 ∷ 0 ∷ 0 ∷ []
unfolding listing_bytes flat_map
c1_listing = refl

-- c2, as 02's ticket 6 has 01's sample rewritten: 01 00 01 00 01 00 81 00 FF FF FF FF FF FF 00 00 FF FF FF FF 01 00.
pub c2_listing : listing (circuit one_label ((H on 0 ∷ []) ∷ [])) (single 1)
    ≡ 1 ∷ 0 ∷ 1 ∷ 0 ∷ 1 ∷ 0
    ∷ 129 ∷ 0
    ∷ 255 ∷ 255 ∷ 255 ∷ 255 ∷ 255 ∷ 255 ∷ 0 ∷ 0 ∷ 255 ∷ 255 ∷ 255 ∷ 255
    ∷ 1 ∷ 0 ∷ []
unfolding listing_bytes flat_map
c2_listing = refl

-- c3: CNOT takes wires 0 and 1; the outputs are 3 and 2.
pub c3_listing : listing (circuit two_labels ((CNOT on 0 ∷ 1 ∷ []) ∷ [])) (both (single 3) (single 2))
    ≡ 2 ∷ 0 ∷ 1 ∷ 0 ∷ 2 ∷ 0
    ∷ 129 ∷ 129 ∷ 5
    ∷ 255 ∷ 255 ∷ 255 ∷ 255 ∷ 255 ∷ 255 ∷ 255 ∷ 255 ∷ 255 ∷ 255 ∷ 255 ∷ 255 ∷ 0 ∷ 0 ∷ 1 ∷ 0 ∷ 255 ∷ 255
    ∷ 3 ∷ 0 ∷ 2 ∷ 0 ∷ []
unfolding listing_bytes flat_map
c3_listing = refl

-- c10: two gates, the older one on wire 0 first.
pub c10_listing : listing (circuit one_label ((H on 1 ∷ []) ∷ (H on 0 ∷ []) ∷ [])) (single 2)
    ≡ 1 ∷ 0 ∷ 2 ∷ 0 ∷ 1 ∷ 0
    ∷ 129 ∷ 0 ∷ 0
    ∷ 255 ∷ 255 ∷ 255 ∷ 255 ∷ 255 ∷ 255 ∷ 0 ∷ 0 ∷ 255 ∷ 255 ∷ 255 ∷ 255 ∷ 1 ∷ 0 ∷ 255 ∷ 255 ∷ 255 ∷ 255
    ∷ 2 ∷ 0 ∷ []
unfolding listing_bytes flat_map
c10_listing = refl

-- Inputs Bit and Qubit: BX, gate 7, takes both, then Meas takes the Qubit that BX makes, wire 3.
pub bit_listing
    : listing (circuit (Bit ∷ Qubit ∷ []) ((Meas on 3 ∷ []) ∷ (7 on 0 ∷ 1 ∷ []) ∷ [])) (both (single 2) (single 4))
    ≡ 2 ∷ 0 ∷ 2 ∷ 0 ∷ 2 ∷ 0
    ∷ 128 ∷ 129 ∷ 7 ∷ 6
    ∷ 255 ∷ 255 ∷ 255 ∷ 255 ∷ 255 ∷ 255 ∷ 255 ∷ 255 ∷ 255 ∷ 255 ∷ 255 ∷ 255 ∷ 0 ∷ 0 ∷ 1 ∷ 0 ∷ 255 ∷ 255 ∷ 3 ∷ 0 ∷ 255 ∷ 255 ∷ 255 ∷ 255
    ∷ 2 ∷ 0 ∷ 4 ∷ 0 ∷ []
unfolding listing_bytes flat_map
bit_listing = refl

-- 02, ticket 5: "L = 0 can run". No input and no output: Init, gate 9, makes wire 0, Meas takes it, and Discard, gate 10, takes the
-- Bit that Meas makes.
pub init_listing : listing (circuit [] ((Discard on 1 ∷ []) ∷ (Meas on 0 ∷ []) ∷ (Init on []) ∷ [])) empty
    ≡ 0 ∷ 0 ∷ 3 ∷ 0 ∷ 0 ∷ 0
    ∷ 9 ∷ 6 ∷ 10
    ∷ 255 ∷ 255 ∷ 255 ∷ 255 ∷ 255 ∷ 255 ∷ 0 ∷ 0 ∷ 255 ∷ 255 ∷ 255 ∷ 255 ∷ 1 ∷ 0 ∷ 255 ∷ 255 ∷ 255 ∷ 255 ∷ []
unfolding listing_bytes flat_map
init_listing = refl

-- Ticket 6: CCX takes three wires, of three inputs the last, the first and the second.
pub ccx_listing : listing (circuit (Qubit ∷ two_labels) ((CCX on 2 ∷ 0 ∷ 1 ∷ []) ∷ [])) (both (single 3) (both (single 4) (single 5)))
    ≡ 3 ∷ 0 ∷ 1 ∷ 0 ∷ 3 ∷ 0
    ∷ 129 ∷ 129 ∷ 129 ∷ 11
    ∷ 255 ∷ 255 ∷ 255 ∷ 255 ∷ 255 ∷ 255 ∷ 255 ∷ 255 ∷ 255 ∷ 255 ∷ 255 ∷ 255 ∷ 255 ∷ 255 ∷ 255 ∷ 255 ∷ 255 ∷ 255
    ∷ 2 ∷ 0 ∷ 0 ∷ 0 ∷ 1 ∷ 0
    ∷ 3 ∷ 0 ∷ 4 ∷ 0 ∷ 5 ∷ 0 ∷ []
unfolding listing_bytes flat_map
ccx_listing = refl

-- 02, ticket 6: "the length is 6 + 7(L+G) + 2O, at most 15,302".
pub longest_listing : most_bytes ≡ 15302
longest_listing = refl

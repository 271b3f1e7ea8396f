-- Every case of the table of listings holds, by computation from the bytes; so a check of any of them answers this, whatever its
-- working memory holds.
use Rattle.std.specs.Prelude.{ℕ, ◌≤◌, ◌≡◌, refl, false, length, Result, Err}
use Rattle.std.proofs.Common.{sym, ap}
use Rattle.std.proofs.Math.Path.{ap₂}
use Rattle.std.proofs.Math.Bool.{cond}
use mathlib.Core.List.{List, [], ◌∷◌, ◌++◌, map, flat_map}
use Rattle.rules.specs.Gates.{is_gate, wires_in}
use Rattle.lent.specs.Lent.{too_short, zeroed}
use Rattle.lent.proofs.Laws.Lent.{below_later, long_memory}
use Rattle.words.specs.Numbers.{word_at}
use Rattle.refusals.specs.declared.Refusal.{Refusal}
use Rattle.refusals.specs.declared.Refusal.TheVariants.{Run}
use Rattle.listing.specs.Reading.{kind_at}
use Rattle.wire_table.specs.Wires.{broken_at}
use Rattle.listing_check.specs.declared.ListingSizes.{ListingSizes}
use Rattle.listing_check.specs.Answers.{listing_check_of, most_wires, listing_lengths, listing_check_answer, listing_check_bytes}
use Rattle.cases.specs.Listings.{ListingCase, judged, ListingsHold, ListingsAnswer, accepted_listings, wrong_sizes}
use Rattle.cases.proofs.Laws.Tables.{both_hold}
use Rattle.cases.specs.Listings.{most_sizes, wrong_entries, wrong_gates, wrong_ends, two_fault_listings, init_and_discard}
use Rattle.cases.specs.Listings.{three_wires, listing_cases}

-- `listing_check_of` with every definition of the check open: a line `unfolding opened` below opens them all.
opened : List ℕ → Result ListingSizes Refusal
unfolding listing_check_of broken_at word_at kind_at is_gate wires_in flat_map
opened b = listing_check_of b

-- Every case of the table holds: listings accepted; refused with 24; with the most gates and outputs; refused with 25; with 26 at a
-- gate; with 26 at an output or at a wire left over; with faults of several kinds; with Init and Discard; with three
-- wires.
pub accepted_hold : ListingsHold accepted_listings
unfolding opened
accepted_hold = refl

pub sizes_hold : ListingsHold wrong_sizes
unfolding opened
sizes_hold = refl

pub most_hold : ListingsHold most_sizes
unfolding opened
most_hold = refl

pub entries_hold : ListingsHold wrong_entries
unfolding opened
entries_hold = refl

pub gates_hold : ListingsHold wrong_gates
unfolding opened
gates_hold = refl

pub ends_hold : ListingsHold wrong_ends
unfolding opened
ends_hold = refl

pub order_holds : ListingsHold two_fault_listings
unfolding opened
order_holds = refl

pub init_and_discard_hold : ListingsHold init_and_discard
unfolding opened
init_and_discard_hold = refl

pub three_wires_hold : ListingsHold three_wires
unfolding opened
three_wires_hold = refl

-- The parts of the table from one on.
abbrev from_faults : List ListingCase
from_faults = two_fault_listings ++ (init_and_discard ++ three_wires)

abbrev from_ends : List ListingCase
from_ends = wrong_ends ++ from_faults

abbrev from_gates : List ListingCase
from_gates = wrong_gates ++ from_ends

abbrev from_entries : List ListingCase
from_entries = wrong_entries ++ from_gates

abbrev from_most : List ListingCase
from_most = most_sizes ++ from_entries

pub listings_hold : ListingsHold listing_cases
listings_hold =
    both_hold judged accepted_listings (wrong_sizes ++ from_most) accepted_hold
    (both_hold judged wrong_sizes from_most sizes_hold
    (both_hold judged most_sizes from_entries most_hold
    (both_hold judged wrong_entries from_gates entries_hold
    (both_hold judged wrong_gates from_ends gates_hold
    (both_hold judged wrong_ends from_faults ends_hold
    (both_hold judged two_fault_listings (init_and_discard ++ three_wires) order_holds
    (both_hold judged init_and_discard three_wires init_and_discard_hold three_wires_hold)))))))

module _ (work : List ℕ) (room : most_wires ≤ length work) where
  long : too_short listing_lengths (work ∷ []) ≡ false
  long = below_later most_wires (length work) [] [] room

  -- One case after the other.
  answers : (c : ListingCase) → judged c ≡ c → listing_check_answer c.bytes (work ∷ []) ≡ c.answer
  unfolding listing_check_answer
  answers c h = ap₂ (λ short a. cond short (Err (Run 19 0)) a) long (ap (λ d. d.answer) h)

  all_answer : (cs : List ListingCase) → ListingsHold cs → ListingsAnswer work cs
  all_answer [] h = tt
  all_answer (c ∷ more) h =
      let this : judged c ≡ c = cc in
      let those : map judged more ≡ more = cc in
      (answers c this, all_answer more those)

  cleared : listing_check_bytes (work ∷ []) ≡ zeroed work ∷ []
  cleared = sym (long_memory listing_lengths (work ∷ []) (zeroed work ∷ []) long refl)

-- With working memory that is long enough, whatever it holds, every check of the table answers what the table says, and leaves
-- zeros.
pub listing_answers : (work : List ℕ)
    → most_wires ≤ length work
    → ListingsAnswer work listing_cases
    × (listing_check_bytes (work ∷ []) ≡ zeroed work ∷ [])
listing_answers work room = (all_answer work room listing_cases listings_hold, cleared work room)

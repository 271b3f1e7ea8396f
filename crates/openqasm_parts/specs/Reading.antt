-- The parts of a listing, as they are read loosely from an OpenQASM text: the declarations, the gates, the names of the outputs.
-- The import gives what is read here only where its export is the text.
use Rattle.std.specs.Prelude.{ℕ, zero, suc, ◌+◌, ◌*◌, Bool, ◌||◌, cond, List, [], ◌∷◌, ◌++◌, map, eqb, get_or, set, take, drop}
use Rattle.rules.specs.Types.{Wire}
use Rattle.rules.specs.Gates.{is_gate, wires_in}
use Rattle.rules.specs.Terms.{Gate, ◌on◌}
use Rattle.rules.specs.Circuits.{numbers}
use Rattle.rules.specs.Sizes.{most_labels, most_gates}
use Rattle.listing.specs.Listing.{entry_slots, listing_bytes, most_outputs}
use Rattle.listing.specs.Reading.{input_type}
use Rattle.openqasm_reader.specs.declared.Item.{Item}
use Rattle.openqasm_reader.specs.Items.{bit_item, qubit_item, output_item, item_in}

-- What has been read: inputs, gates (the newest first) and outputs; which wire each register holds now, and how many wires are
-- made; the text that is left.
pub record Parts : Type 0 where
  pub inputs : List Wire
  pub gates : List Gate
  pub outs : List ℕ
  pub held : List ℕ
  pub made : ℕ
  pub rest : List ℕ

-- One more input.
abbrev pub is_input : ℕ → Bool
is_input kind = eqb kind bit_item || eqb kind qubit_item

abbrev pub with_input : Parts → Item → Parts
with_input p i =
    record {
      inputs = p.inputs ++ (input_type i.kind ∷ []);
      gates = p.gates;
      outs = p.outs;
      held = p.held;
      made = suc p.made;
      rest = drop i.length p.rest;
    }

-- One more gate: it takes the wires that its registers hold, and they hold the wires that it makes.
abbrev pub registers_read : Item → List ℕ
registers_read i = take (wires_in i.kind) (i.first ∷ i.second ∷ i.third ∷ [])

abbrev pub wires_taken : Parts → Item → List ℕ
wires_taken p i = map (λ r. get_or p.held r 0) (registers_read i)

-- What registers hold when those of a list have come to hold the wires from w on, one after the other.
abbrev pub holding : List ℕ → List ℕ → ℕ → List ℕ
holding held [] w = held
holding held (r ∷ rs) w = holding (set held r w) rs (suc w)

abbrev pub with_gate : Parts → Item → Parts
with_gate p i =
    record {
      inputs = p.inputs;
      gates = (i.kind on wires_taken p i) ∷ p.gates;
      outs = p.outs;
      held = holding p.held (registers_read i) p.made;
      made = p.made + wires_in i.kind;
      rest = drop i.length p.rest;
    }

-- One more output.
abbrev pub is_output : ℕ → Bool
is_output kind = eqb kind output_item

abbrev pub with_output : Parts → Item → Parts
with_output p i =
    record {
      inputs = p.inputs;
      gates = p.gates;
      outs = p.outs ++ (get_or p.held i.first 0 ∷ []);
      held = p.held;
      made = p.made;
      rest = drop i.length p.rest;
    }

-- Items of one sort, at most so many.
abbrev pub items_read : (ℕ → Bool) → (Parts → Item → Parts) → ℕ → Parts → Parts
items_read wanted with_item zero p = p
items_read wanted with_item (suc k) p =
    let i = item_in p.rest in
    let later = items_read wanted with_item k (with_item p i) in
    cond (wanted i.kind) later p

-- Behind the header, with register k holding input k.
abbrev pub begun : List ℕ → Parts
begun text =
    record { inputs = []; gates = []; outs = []; held = numbers 0 most_labels; made = 0; rest = drop 36 text }

-- Behind `// out`.
abbrev pub at_outputs : Parts → Parts
at_outputs p =
    record { inputs = p.inputs; gates = p.gates; outs = p.outs; held = p.held; made = p.made; rest = drop 6 p.rest }

-- All parts.
unfoldable pub parts_read : List ℕ → Parts
parts_read text =
    items_read is_output with_output most_outputs
    (at_outputs
    (items_read is_gate with_gate most_gates
    (items_read is_input with_input most_labels (begun text))))

-- The listing of the parts that are read.
abbrev pub listing_read : List ℕ → List ℕ
listing_read text = let p = parts_read text in listing_bytes p.inputs p.gates p.outs

-- What the slots of all entries take, and the outputs behind them.
abbrev pub slots_bytes : ℕ
slots_bytes = 2 * entry_slots * (most_labels + most_gates) + 2 * most_outputs

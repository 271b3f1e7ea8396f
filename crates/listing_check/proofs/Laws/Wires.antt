-- Laws of the walk through a listing's inputs, gates and outputs with the table of wires.
use Rattle.std.specs.Prelude.{ℕ, zero, suc, ◌+◌, ◌-◌, ◌*◌, ◌≤◌, ◌<◌, ◌≡◌, refl, Bool, true, false, cond, List, [], ◌∷◌, ◌++◌, ltb, get_or, set, Option as Found, Some, None, Result, Ok}
use Rattle.std.proofs.Common.{arith, sym, ◌∙◌, ap₂, subst, append_assoc, append-nil, length-append, lt-ltb, le-ltb}
use Rattle.std.proofs.Math.Path.{ap}
use Rattle.std.proofs.Math.Option.{Option, none, some}
use Rattle.std.proofs.Math.ListN.{length}
use Rattle.rules.specs.Types.{Wire}
use Rattle.rules.specs.Gates.{gate_type, gate_outputs, input_wires, wires_in, wires_out}
use Rattle.rules.specs.Terms.{Gate}
use Rattle.rules.specs.Circuits.{outputs, taken, count}
use Rattle.rules.proofs.Laws.Wires.{count_append}
use Rattle.refusals.specs.declared.Refusal.{Refusal}
use Rattle.words.specs.Numbers.{words_at}
use Rattle.words.proofs.Laws.Numbers.{one_left}
use Rattle.listing.specs.Listing.{entry_slots}
use Rattle.listing.specs.Reading.{input_count, gate_count, output_count, kind_at, slots_from, input_type, inputs_from, inputs_of}
use Rattle.listing.specs.Reading.{first_gates, gates_of, outputs_of}
use Rattle.listing.proofs.Laws.ReadBack.{made_fit}
use Rattle.listing.proofs.Laws.Decoding.{length_inputs, length_first}
use Rattle.wire_table.specs.Wires.{there, is_there, or_else, first_wrong_gate, first_wrong_output, first_where, lowest_left}
use Rattle.wire_table.specs.Wires.{placed, maker, broken_at}
use Rattle.words.specs.Found.{option_of}
use Rattle.wire_table.specs.Table.{Holds, TakesAll, MakesAll}
use Rattle.wire_table.proofs.Laws.Table.{byte_there, taken_out, same_gone, lowest_read}
use Rattle.listing_check.specs.declared.ListingSizes.{ListingSizes}
use Rattle.listing_check.specs.Answers.{wires_judged, most_wires}
use Rattle.listing_check.specs.Wires.{Whole, GatesRead, OutputsRead, refused_with}

-- What the code's Option says of what was found.
pub found_some : (o : Option ℕ) {n : ℕ} → option_of o ≡ Some n → o ≡ some n
found_some none e = let z : ◌≡◌ {A = ℕ} 0 1 = cc in absurd (omega arith)
found_some (some m) {n} e = let same : m ≡ n = cc in ap some same

pub found_none : (o : Option ℕ) → option_of o ≡ None → o ≡ none
found_none none e = refl
found_none (some m) e = let z : ◌≡◌ {A = ℕ} 0 1 = cc in absurd (omega arith)

-- What is found first, and what is found where nothing is found first.
first_kept : (o later : Option ℕ) {n : ℕ} → o ≡ some n → or_else o later ≡ some n
first_kept o later e = ap (λ x. or_else x later) e

first_none : (o later : Option ℕ) → o ≡ none → or_else o later ≡ later
first_none o later e = ap (λ x. or_else x later) e

-- The inputs that are left from one on.
pub next_input : (b : List ℕ) (n i : ℕ)
    → i < n
    → inputs_from b i (n - i) ≡ input_type (kind_at b i) ∷ inputs_from b (i + 1) (n - (i + 1))
next_input b n i below =
    let next : suc i ≡ i + 1 = omega arith in
    ap (inputs_from b i) (one_left n i below) ∙ ap (λ j. input_type (kind_at b i) ∷ inputs_from b j (n - (i + 1))) next

-- The kind of gate i, with the number of inputs that was read.
pub gate_kind_is : (b : List ℕ) (i : ℕ) {inputs kind : ℕ}
    → kind ≡ kind_at b (inputs + i)
    → inputs ≡ input_count b
    → kind ≡ kind_at b (input_count b + i)
gate_kind_is b i e is = e ∙ ap (λ n. kind_at b (n + i)) is

-- No gate makes more wires than an entry has slots, so the first gates make no more than this.
made_few : (n : ℕ) → length (gate_outputs n) ≤ entry_slots
unfolding wires_out
made_few n = made_fit n

pub few_made : (b : List ℕ) (j : ℕ) → length (inputs_of b ++ outputs (first_gates b j)) ≤ input_count b + entry_slots * j
few_made b zero =
    omega (arith, length-append (inputs_of b) [], length_inputs b 0 (input_count b))
few_made b (suc j) =
    let n = kind_at b (input_count b + j) in
    let gs = outputs (first_gates b j) in
    omega (
      arith,
      length-append (inputs_of b) (gs ++ gate_outputs n),
      length-append gs (gate_outputs n),
      length-append (inputs_of b) gs,
      few_made b j,
      made_few n,
    )

-- With one more gate, as many more wires as it makes.
pub one_more_gate : (b : List ℕ) (j : ℕ)
    → length (inputs_of b ++ outputs (first_gates b (j + 1)))
    ≡ length (inputs_of b ++ outputs (first_gates b j)) + wires_out (kind_at b (input_count b + j))
unfolding wires_out
one_more_gate b j =
    let next : j + 1 ≡ suc j = omega arith in
    let n = kind_at b (input_count b + j) in
    let gs = outputs (first_gates b j) in
    ap (λ i. length (inputs_of b ++ outputs (first_gates b i))) next
    ∙ omega (
      arith,
      length-append (inputs_of b) (gs ++ gate_outputs n),
      length-append gs (gate_outputs n),
      length-append (inputs_of b) gs,
    )

-- The first gates have been read, and none of them takes a wire wrongly.
pub record GatesSoFar (b m : List ℕ) (i made : ℕ) : Type 0 where
  pub none_wrong : first_wrong_gate (inputs_of b) (first_gates b i) ≡ none
  pub held : Holds m (inputs_of b ++ outputs (first_gates b i)) (taken (first_gates b i))
  pub made_is : made ≡ length (inputs_of b ++ outputs (first_gates b i))

pub gates_start : (b m : List ℕ) (made : ℕ) → made ≡ input_count b → Holds m (inputs_of b) [] → GatesSoFar b m 0 made
gates_start b m made e h =
    record {
      none_wrong = refl;
      held = subst (λ l. Holds m l []) (sym (append-nil (inputs_of b))) h;
      made_is = e ∙ sym (length_inputs b 0 (input_count b)) ∙ ap length (sym (append-nil (inputs_of b)));
    }

-- What gate i of a listing is asked for, after the gates before it.
abbrev pub GateTakes : List ℕ → ℕ → ℕ → List ℕ → Bool → Type 0
GateTakes b i from m all =
    TakesAll (inputs_of b ++ outputs (first_gates b i)) (taken (first_gates b i))
    (words_at b from (wires_in (kind_at b (input_count b + i))))
    (input_wires (gate_type (kind_at b (input_count b + i)))) m all

-- A gate that takes a wire wrongly stays the first one that does, whatever gates follow.
wrong_kept : (b : List ℕ) (i d : ℕ)
    → first_wrong_gate (inputs_of b) (first_gates b (suc i)) ≡ some i
    → first_wrong_gate (inputs_of b) (first_gates b (d + suc i)) ≡ some i
wrong_kept b i zero e =
    let z : 0 + suc i ≡ suc i = omega arith in ap (λ j. first_wrong_gate (inputs_of b) (first_gates b j)) z ∙ e
wrong_kept b i (suc d) e =
    let s : suc d + suc i ≡ suc (d + suc i) = omega arith in
    ap (λ j. first_wrong_gate (inputs_of b) (first_gates b j)) s ∙ first_kept _ _ (wrong_kept b i d e)

module _ (b : List ℕ) (i made : ℕ) (m m₁ : List ℕ) (from : ℕ) (here : from ≡ slots_from b (input_count b + i))
    (t : GatesSoFar b m i made) (all : Bool) (takes : GateTakes b i from m₁ all) where
  takes_slots : GateTakes b i (slots_from b (input_count b + i)) m₁ all
  takes_slots = subst (λ j. GateTakes b i j m₁ all) here takes

  -- It takes its wires rightly, and makes others.
  pub gate_right : (m₂ : List ℕ) (made' : ℕ)
      → all ≡ true
      → ((types : List Wire) (gone : List ℕ)
      → Holds m₁ types gone
      → made ≡ length types
      → MakesAll types gone (gate_outputs (kind_at b (input_count b + i))) m₂ made')
      → GatesSoFar b m₂ (i + 1) made'
  gate_right m₂ made' e makes =
      let next : suc i ≡ i + 1 = omega arith in
      let I = inputs_of b in
      let gs = first_gates b i in
      let a = takes_slots in
      let each_there = sym a.answers ∙ e in
      let x = makes (I ++ outputs gs) _ (a.holds e) t.made_is in
      let joined = append_assoc I (outputs gs) (gate_outputs (kind_at b (input_count b + i))) in
      subst (λ j. GatesSoFar b m₂ j made') next
      (record {
        none_wrong = ap₂ (λ o t. or_else o (cond t none (some (length gs)))) t.none_wrong each_there;
        held = subst (λ l. Holds m₂ l (taken (first_gates b (suc i)))) joined x.holds;
        made_is = x.count_is ∙ ap length joined;
      })

  -- It takes one wrongly: then it is the first gate that does.
  wrong_here : all ≡ false → first_wrong_gate (inputs_of b) (first_gates b (suc i)) ≡ some i
  wrong_here e =
      let a = takes_slots in
      ap₂ (λ o t. or_else o (cond t none (some (length (first_gates b i))))) t.none_wrong (sym a.answers ∙ e)
      ∙ ap some (length_first b i)

  pub gate_wrong : (m₂ : List ℕ) → i < gate_count b → all ≡ false → GatesRead b m₂ (Some i)
  gate_wrong m₂ below e =
      let rest : gate_count b - suc i + suc i ≡ gate_count b = omega arith in
      let first = ap (λ j. first_wrong_gate (inputs_of b) (first_gates b j)) (sym rest) ∙ wrong_kept b i (gate_count b - suc i) (wrong_here e) in
      record {
        answers = sym (ap option_of first);
        few = λ j z. let same : i ≡ j = cc in omega (arith, below);
        holds = λ z. let y : ◌≡◌ {A = ℕ} 0 1 = cc in absurd (omega arith);
      }

pub gates_end : (b m : List ℕ) (i made : ℕ) → i ≡ gate_count b → GatesSoFar b m i made → GatesRead b m None
gates_end b m i made e t =
    record {
      answers = sym (ap option_of (ap (λ j. first_wrong_gate (inputs_of b) (first_gates b j)) (sym e) ∙ t.none_wrong));
      few = λ j z. let y : ◌≡◌ {A = ℕ} 0 1 = cc in absurd (omega arith);
      holds = λ z. subst (λ j. Holds m (inputs_of b ++ outputs (first_gates b j)) (taken (first_gates b j))) e t.held;
    }

-- Outputs are taken one after the other: those that are left, and the table then.
pub record Leaving (types : List Wire) (gone outs m : List ℕ) (j : ℕ) (rest : List ℕ) : Type 0 where
  pub so_far : List ℕ
  pub held : Holds m types so_far
  pub same : first_wrong_output types gone 0 outs ≡ first_wrong_output types so_far j rest
  pub counted : (w : ℕ) → count w so_far + count w rest ≡ count w (outs ++ gone)

module _ {types : List Wire} {gone outs m : List ℕ} where
  pub leaving_start : Holds m types gone → Leaving types gone outs m 0 outs
  leaving_start h = record { so_far = gone; held = h; same = refl; counted = λ w. omega (arith, count_append w outs gone) }

  module _ {w j : ℕ} {rest : List ℕ} (t : Leaving types gone outs m j (w ∷ rest)) where
    there_read : ltb 0 (get_or m w 0) ≡ is_there (there types t.so_far w)
    there_read = ap (ltb 0) (t.held.bytes w) ∙ byte_there (there types t.so_far w)

    pub leaving_next : (m' : List ℕ)
        → ltb 0 (get_or m w 0) ≡ true
        → m' ≡ set m w 0
        → Leaving types gone outs m' (j + 1) rest
    leaving_next m' e put = of (there types t.so_far w) refl (sym there_read ∙ e)
      where
        of : (o : Option Wire) → there types t.so_far w ≡ o → is_there o ≡ true → Leaving types gone outs m' (j + 1) rest
        of none q r = let z : ◌≡◌ {A = ℕ} 0 1 = cc in absurd (omega arith)
        of (some α) q r =
            let next : suc j ≡ j + 1 = omega arith in
            record {
              so_far = w ∷ t.so_far;
              held = subst (λ l. Holds l types (w ∷ t.so_far)) (sym put) (taken_out w q t.held);
              same = t.same
                  ∙ ap (λ x. cond (is_there x) (first_wrong_output types (w ∷ t.so_far) (suc j) rest) (some j)) q
                  ∙ ap (λ k. first_wrong_output types (w ∷ t.so_far) k rest) next;
              counted = λ v. omega (arith, t.counted v);
            }

    pub leaving_wrong : (m' : List ℕ)
        → ltb 0 (get_or m w 0) ≡ false
        → j < length outs
        → OutputsRead types gone outs m' (Some j)
    leaving_wrong m' e below =
        let first : first_wrong_output types gone 0 outs ≡ some j
        = t.same
        ∙ ap (λ x. cond x (first_wrong_output types (w ∷ t.so_far) (suc j) rest) (some j)) (sym there_read ∙ e) in
        record {
          answers = sym (ap option_of first);
          few = λ i z. let same : j ≡ i = cc in omega (arith, below);
          holds = λ z. let y : ◌≡◌ {A = ℕ} 0 1 = cc in absurd (omega arith);
        }

  pub leaving_end : {j : ℕ} → Leaving types gone outs m j [] → OutputsRead types gone outs m None
  leaving_end t =
      record {
        answers = sym (ap option_of t.same);
        few = λ i z. let y : ◌≡◌ {A = ℕ} 0 1 = cc in absurd (omega arith);
        holds = λ z. same_gone (outs ++ gone) (λ w. omega (arith, t.counted w)) t.held;
      }

-- The maker of a wire stays the same whatever gates follow, and is the newest gate where no earlier one made it.
maker_kept : (b : List ℕ) (w j d : ℕ)
    → w < length (inputs_of b ++ outputs (first_gates b j))
    → (maker (inputs_of b) (first_gates b (d + j)) w ≡ maker (inputs_of b) (first_gates b j) w)
    × (w < length (inputs_of b ++ outputs (first_gates b (d + j))))
maker_kept b w j zero h =
    let z : 0 + j ≡ j = omega arith in (
      ap (λ i. maker (inputs_of b) (first_gates b i) w) z,
      subst (λ i. w < length (inputs_of b ++ outputs (first_gates b i))) (sym z) h,
    )
maker_kept b w j (suc d) h =
    let s : suc d + j ≡ suc (d + j) = omega arith in
    let n : suc d + j ≡ d + j + 1 = omega arith in
    let k = maker_kept b w j d h in (
      ap (λ i. maker (inputs_of b) (first_gates b i) w) s
          ∙ ap (λ t. cond t (maker (inputs_of b) (first_gates b (d + j)) w) (length (inputs_of b) + length (first_gates b (d + j))))
          (lt-ltb w (length (inputs_of b ++ outputs (first_gates b (d + j)))) k.1)
          ∙ k.0,
      subst (λ i. w < length (inputs_of b ++ outputs (first_gates b i))) (sym n) (omega (arith, k.1, one_more_gate b (d + j))),
    )

module _ (b : List ℕ) (w j : ℕ) (below : j ≤ gate_count b) (h : w < length (inputs_of b ++ outputs (first_gates b j))) where
  pub maker_of_first : maker (inputs_of b) (gates_of b) w ≡ maker (inputs_of b) (first_gates b j) w
  maker_of_first =
      let rest : gate_count b - j + j ≡ gate_count b = omega arith in
      ap (λ i. maker (inputs_of b) (first_gates b i) w) (sym rest) ∙ (maker_kept b w j (gate_count b - j) h).0

pub input_made : (b : List ℕ) (w : ℕ) → w < input_count b → w ≡ maker (inputs_of b) (gates_of b) w
input_made b w h =
    sym (maker_of_first b w 0 (omega arith) (omega (arith, length-append (inputs_of b) [], length_inputs b 0 (input_count b))))

pub gate_made : (b : List ℕ) (w j : ℕ)
    → j < gate_count b
    → length (inputs_of b ++ outputs (first_gates b j)) ≤ w
    → w < length (inputs_of b ++ outputs (first_gates b (j + 1)))
    → input_count b + j ≡ maker (inputs_of b) (gates_of b) w
gate_made b w j below past h =
    let next : j + 1 ≡ suc j = omega arith in
    let I = inputs_of b in
    let gs = first_gates b j in
    sym (
    maker_of_first b w (j + 1) (omega arith) h
    ∙ ap (λ i. maker I (first_gates b i) w) next
    ∙ ap (λ t. cond t (maker I gs w) (length I + length gs)) (le-ltb w (length (I ++ outputs gs)) past)
    ∙ ap₂ ◌+◌ (length_inputs b 0 (input_count b)) (length_first b j)
    )

-- The three stages of the wire rules.
module _ (I : List Wire) (gs : List Gate) (outs : List ℕ) where
  pub broken_gate : {i : ℕ} → first_wrong_gate I gs ≡ some i → broken_at I gs outs ≡ some (length I + i)
  unfolding broken_at
  broken_gate e = first_kept _ _ (ap (placed (λ i. length I + i)) e)

  module _ (right : first_wrong_gate I gs ≡ none) where
    pub broken_output : {j : ℕ}
        → first_wrong_output (I ++ outputs gs) (taken gs) 0 outs ≡ some j
        → broken_at I gs outs ≡ some (length I + length gs + j)
    unfolding broken_at
    broken_output e =
        first_none _ _ (ap (placed (λ i. length I + i)) right) ∙ first_kept _ _ (ap (placed (λ j. length I + length gs + j)) e)

    module _ (outs_right : first_wrong_output (I ++ outputs gs) (taken gs) 0 outs ≡ none) where
      pub broken_left : (o : Option ℕ) → lowest_left (I ++ outputs gs) (taken gs ++ outs) ≡ o → broken_at I gs outs ≡ placed (maker I gs) o
      unfolding broken_at
      broken_left o e =
          first_none _ _ (ap (placed (λ i. length I + i)) right)
          ∙ first_none _ _ (ap (placed (λ j. length I + length gs + j)) outs_right)
          ∙ ap (placed (maker I gs)) e

-- The lowest wire left, found in the table after the outputs.
pub left_read : (b m : List ℕ)
    → Whole b m
    → Holds m (inputs_of b ++ outputs (gates_of b)) (outputs_of b ++ taken (gates_of b))
    → first_where (λ w. ltb 0 (get_or m w 0)) 0 most_wires ≡ lowest_left (inputs_of b ++ outputs (gates_of b)) (taken (gates_of b) ++ outputs_of b)
left_read b m fits h =
    lowest_read most_wires (omega (arith, few_made b (gate_count b), fits.few_inputs, fits.few_gates))
    (same_gone (taken (gates_of b) ++ outputs_of b)
    (λ w. omega (arith, count_append w (taken (gates_of b)) (outputs_of b), count_append w (outputs_of b) (taken (gates_of b)))) h)

-- It has been made.
pub found_within : (test : ℕ → Bool) (n k m : ℕ) → first_where test n k ≡ some m → m < n + k
found_within test n zero m e = let z : ◌≡◌ {A = ℕ} 0 1 = cc in absurd (omega arith)
found_within test n (suc k) m e = of (found_within test (suc n) k m) (test n) e
  where
    of : (first_where test (suc n) k ≡ some m → m < suc n + k)
        → (t : Bool)
        → cond t (some n) (first_where test (suc n) k) ≡ some m
        → m < n + suc k
    of rest true e = let same : n ≡ m = cc in omega arith
    of rest false e = let h = rest e in omega arith

-- Memory of the same length has room for as many wires.
pub whole_kept : {b m : List ℕ} (m' : List ℕ) → length m' ≡ length m → Whole b m → Whole b m'
whole_kept m' e fits =
    record { few_inputs = fits.few_inputs; few_gates = fits.few_gates; room = omega (arith, fits.room) }

-- The answer at each stage: a gate is wrong, an output is, a wire is left over, or no rule is broken.
module _ (b : List ℕ) where
  abbrev answer_is : Result ListingSizes Refusal → Type 0
  answer_is x = x ≡ wires_judged b (broken_at (inputs_of b) (gates_of b) (outputs_of b))

  module _ {m : List ℕ} {gate : Found ℕ} {inputs : ℕ} (G : GatesRead b m gate) (is : inputs ≡ input_count b) where
    pub gate_answered : (i : ℕ) → gate ≡ Some i → answer_is (refused_with 26 (inputs + i))
    gate_answered i h =
        ap (refused_with 26) (ap (λ n. n + i) (is ∙ sym (length_inputs b 0 (input_count b))))
        ∙ sym (ap (wires_judged b) (broken_gate (inputs_of b) (gates_of b) (outputs_of b) (found_some _ (sym G.answers ∙ h))))

    module _ {m' : List ℕ} {output : Found ℕ} {gates : ℕ} (right : gate ≡ None) (has : gates ≡ gate_count b)
        (U : OutputsRead (inputs_of b ++ outputs (gates_of b)) (taken (gates_of b)) (outputs_of b) m' output) where
      none_wrong : first_wrong_gate (inputs_of b) (gates_of b) ≡ none
      none_wrong = found_none _ (sym G.answers ∙ right)

      pub output_answered : (j : ℕ) → output ≡ Some j → answer_is (refused_with 26 (inputs + gates + j))
      output_answered j h =
          ap (refused_with 26)
          (ap₂ (λ n k. n + k + j) (is ∙ sym (length_inputs b 0 (input_count b))) (has ∙ sym (length_first b (gate_count b))))
          ∙ sym (ap (wires_judged b)
          (broken_output (inputs_of b) (gates_of b) (outputs_of b) none_wrong (found_some _ (sym U.answers ∙ h))))

      module _ {left : Found ℕ} (outs_right : output ≡ None) (fits : Whole b m')
          (found : left ≡ option_of (first_where (λ w. ltb 0 (get_or m' w 0)) 0 most_wires)) where
        lowest : left ≡ option_of (lowest_left (inputs_of b ++ outputs (gates_of b)) (taken (gates_of b) ++ outputs_of b))
        lowest = found ∙ ap option_of (left_read b m' fits (U.holds outs_right))

        at_left : (o : Option ℕ)
            → lowest_left (inputs_of b ++ outputs (gates_of b)) (taken (gates_of b) ++ outputs_of b) ≡ o
            → broken_at (inputs_of b) (gates_of b) (outputs_of b) ≡ placed (maker (inputs_of b) (gates_of b)) o
        at_left =
            broken_left (inputs_of b) (gates_of b) (outputs_of b) none_wrong (found_none _ (sym U.answers ∙ outs_right))

        pub left_made : (w : ℕ) → left ≡ Some w → w < length (inputs_of b ++ outputs (gates_of b))
        left_made w h =
            omega (arith, found_within _ 0 (length (inputs_of b ++ outputs (gates_of b))) w (found_some _ (sym lowest ∙ h)))

        pub left_answered : (w place : ℕ)
            → left ≡ Some w
            → place ≡ maker (inputs_of b) (gates_of b) w
            → answer_is (refused_with 26 place)
        left_answered w place h e =
            ap (refused_with 26) e ∙ sym (ap (wires_judged b) (at_left (some w) (found_some _ (sym lowest ∙ h))))

        pub all_answered : (outs : ℕ)
            → left ≡ None
            → outs ≡ output_count b
            → answer_is (Ok (record { inputs = inputs; gates = gates; outputs = outs }))
        all_answered outs h o =
            ap₂ (λ x y. Ok (record { inputs = x; gates = y; outputs = outs })) is has
            ∙ ap (λ z. Ok (record { inputs = input_count b; gates = gate_count b; outputs = z })) o
            ∙ sym (ap (wires_judged b) (at_left none (found_none _ (sym lowest ∙ h))))

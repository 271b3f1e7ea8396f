-- `openqasm_export::write_gates` meets its contract. Assumes nothing.
use borrow.Author.Rules.{rules}
use Prim.Native.Nat.{ℕ, ◌+◌, ◌*◌, ◌/◌, ◌≤◌, ◌<◌}
use native.Mathlib.Omega.{arith}
use mathlib.Core.Path.{◌≡◌, refl, ◌∙◌, ap, ap₂, subst}
use mathlib.Core.List.{[], ◌∷◌, ◌++◌, map}
use lib.ListN.{length, get_or}
use Rattle.rules.specs.Gates.{wires_in, wires_out}
use Rattle.words.specs.Numbers.{words_at}
use Rattle.text.specs.Writing.{Puts}
use Rattle.listing.specs.Listing.{entry_slots}
use Rattle.listing.specs.Reading.{input_count, gate_count, kind_at, slots_from, inputs_of, first_gates}
use Rattle.listing_check.proofs.Laws.Wires.{few_made}
use Rattle.openqasm.specs.Layout.{gate_line}
use Rattle.openqasm_export.specs.Places.{places_of, Begins, kept_places}
use Rattle.openqasm_export.proofs.Laws.Writing.{gates_start, places_made, gate_next, gates_end}
use Rattle.openqasm_export.proofs.write_gates.Goals as goal

pub loop-i-init : goal.loop-i-init
loop-i-init c =
    let a = c.args in
    ((refl, refl), gates_start a.listing.now a.out.now.text.now a.out.now.at c.input_count-inputs.result c.input_count-inputs.ensures.value c.requires.0)

pub keep_places-made-requires : goal.keep_places-made-requires
keep_places-made-requires c = (c.place_at-first.ensures.upper_bound, c.place_at-second.ensures.upper_bound, c.place_at-third.ensures.upper_bound, omega (arith, c.loop-i.invariant.1.made_is, few_made c.args.listing.now c.loop-i.i, c.loop-i-test.true, c.input_count-inputs.ensures, c.gate_count-i-end.ensures))

pub loop-i-preserved : goal.loop-i-preserved
loop-i-preserved c =
    let a = c.args in
    let b = a.listing.now in
    let s = c.loop-i in
    let w = s.invariant.1 in
    let p = c.requires.1 in
    let kind : c.kind_at-gate.result ≡ kind_at b (input_count b + s.i) = c.kind_at-gate.ensures.value ∙ ap (λ n. kind_at b (n + s.i)) c.input_count-inputs.ensures.value in
    let below : s.i < gate_count b = omega (arith, c.loop-i-test.true, c.gate_count-i-end.ensures.value) in
    let few = few_made b s.i in
    let room : s.made + entry_slots ≤ length s.table = omega (arith, few, w.made_is, s.auto.table, p.room, p.few_inputs, p.few_gates, below) in
    let counted = c.wires_in-count.ensures ∙ ap wires_in kind in
    let here : c.slots_from-slots.result + 2 * entry_slots * s.i ≡ slots_from b (input_count b + s.i)
    = omega (arith, c.slots_from-slots.ensures.value (omega arith), c.input_count-inputs.ensures.value) in
    let slot : (k : ℕ) → _ = λ k. ap₂ (λ from n. get_or (map (λ v. get_or s.table v 0) (words_at b from n)) k 0) here counted in
    let first = c.place_at-first.result in
    let second = c.place_at-second.result in
    let third = c.place_at-third.result in
    let table' = c.keep_places-made.new.table in (
      (c.write_gate.ensures.0 ∙ s.invariant.0.0, c.write_gate.ensures.2 ∙ s.invariant.0.1),
      gate_next b a.out.now.text.now a.out.now.at w first second third (c.place_at-first.ensures.value ∙ slot 0) (c.place_at-second.ensures.value ∙ slot 1) (c.place_at-third.ensures.value ∙ slot 2) table' c.keep_places-made.result
          (subst (λ n. Puts s.out.text.now s.out.at (gate_line n (first / 2 ∷ second / 2 ∷ third / 2 ∷ [])) c.write_gate.new.out.text.now c.write_gate.new.out.at) kind c.write_gate.ensures.1)
          (c.keep_places-made.ensures.value ∙ ap (λ n. s.made + wires_out n) kind)
          (λ written. subst (λ n. Begins table' (places_of (inputs_of b) (first_gates b s.i) ++ kept_places n (first ∷ second ∷ third ∷ []))) kind
          (c.keep_places-made.ensures.by_index _ (w.placed written) (places_made b a.out.now.text.now a.out.now.at w written) room)),
    )

pub returns : goal.returns
returns c =
    let a = c.args in
    let r = gates_end a.listing.now a.out.now.text.now a.out.now.at c.loop-i.invariant.1 (omega (arith, c.loop-i-test.false, c.gate_count-i-end.ensures.value)) in
    record { same_text = c.loop-i.invariant.0; puts = r.0; begins = r.1 }

-- `openqasm_export::places::keep_places` meets its contract. Assumes nothing.
use Prim.Native.Nat.{◌/◌}
use native.Mathlib.Omega.{arith}
use mathlib.Core.Path.{◌≡◌}
use mathlib.Core.List.{[], ◌∷◌, ◌++◌}
use lib.ListN.{length, take, drop}
use Rattle.rules.specs.Gates.{gate_outputs}
use Rattle.rules.specs.GateCodes.{made_code}
use Rattle.openqasm_export.specs.Places.{place_bytes}
use Rattle.openqasm_export.proofs.Laws.Places.{begins_same, quarter, kept_all, all_made, length_kept}
use Rattle.openqasm_export.proofs.places.keep_places.Goals as goal

pub returns : goal.returns
unfolding made_code
returns c =
    let a = c.args in
    let αs = gate_outputs a.gate in
    let are = c.made_code-codes.ensures in
    let are₂ = quarter _ αs are in
    let are₃ = quarter _ (drop 1 αs) are₂ in
    let one = c.keep_place-one.ensures.upper_bound.0 αs are in
    let two = c.keep_place-two.ensures.upper_bound.0 (drop 1 αs) are₂ in
    let three = c.keep_place.ensures.upper_bound.0 (drop 1 (drop 1 αs)) are₃ in record {
      value = omega (arith, one, two, three, all_made a.gate);
      by_index = λ bytes begun here room.
          let bytes₁ = bytes ++ place_bytes (a.first / 2 ∷ []) (take 1 αs) in
          let bytes₂ = bytes₁ ++ place_bytes (a.second / 2 ∷ []) (take 1 (drop 1 αs)) in
          let here₁ : c.keep_place-one.result ≡ length bytes₁ = omega (arith, one, here, length_kept a.first αs bytes) in
          let here₂ : c.keep_place-two.result ≡ length bytes₂ = omega (arith, two, here₁, length_kept a.second (drop 1 αs) bytes₁) in
          let begun₁ = c.keep_place-one.ensures.begins αs bytes are begun here (omega arith) in
          let begun₂ = c.keep_place-two.ensures.begins (drop 1 αs) bytes₁ are₂ begun₁ here₁ (omega (arith, c.keep_place-one.ensures.upper_bound.1, c.keep_place-one.auto.table)) in
          let begun₃ = c.keep_place.ensures.begins (drop 1 (drop 1 αs)) bytes₂ are₃ begun₂ here₂ (omega (arith, c.keep_place-one.ensures.upper_bound.1, c.keep_place-two.ensures.upper_bound.1, c.keep_place-one.auto.table, c.keep_place-two.auto.table)) in
          begins_same (kept_all a.first a.second a.third αs bytes) begun₃;
    }

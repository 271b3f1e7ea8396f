-- `machine_circuits::tuples::Source::type_end` meets its contract. The invariant: the type at hand and those that wait end where
-- the whole type does. Assumes nothing.
use Prim.Native.Nat.{ℕ, ◌+◌, ◌<◌}
use native.Mathlib.Omega.{arith}
use mathlib.Core.Path.{◌≡◌, sym, ◌∙◌, ap}
use mathlib.Core.List.{List}
use lib.ListN.{length, get_or, drop, length-drop}
use Rattle.rules.specs.Parts.{parts_of_kind}
use Rattle.rules.proofs.Laws.Parts.{at_most_two_lem}
use Rattle.machine_nodes.proofs.Laws.Spans.{at_most_all, none_waiting, one_more, run_out}
use Rattle.machine_circuits.specs.Tuples.{code_span, codes_of}
use Rattle.machine_circuits.proofs.tuples.Source.type_end.Goals.{in-0-2, in_default}
use Rattle.machine_circuits.proofs.tuples.Source.type_end.Goals as goal

-- Where a code is passed, its parts wait behind those that waited before.
passed : (cs : List ℕ) (i waiting more : ℕ)
    → i < length cs
    → more ≡ waiting + parts_of_kind (get_or cs i 0)
    → i + code_span (drop i cs) (waiting + 1) ≡ (i + 1) + code_span (drop (i + 1) cs) more
passed cs i waiting more inside e =
    one_more ℕ parts_of_kind 0 cs i (waiting + 1) inside (omega arith)
    ∙ ap (λ w. (i + 1) + code_span (drop (i + 1) cs) w) (omega (arith, e))

pub overflow_add-waiting : goal.overflow_add-waiting
overflow_add-waiting c =
    omega (arith, c.loop-i.invariant.0, c.loop-i-test.true, c.parts_of_kind.ensures, at_most_two_lem c.code.result)

pub loop-i-preserved : goal.loop-i-preserved
loop-i-preserved c =
    let s = c.loop-i in
    let cs = codes_of c.args.self in
    let inside : s.i < length cs = omega (arith, c.count-end.ensures, c.loop-i-test.true) in
    let parts : c.parts_of_kind.result ≡ parts_of_kind (get_or cs s.i 0)
    = c.parts_of_kind.ensures ∙ ap parts_of_kind (c.code.ensures inside) in
    let few = at_most_two_lem c.code.result in elim c.match-parts_of_kind.branch [
      | in-0-2 w ↦ (
        omega (arith, s.invariant.0, w.waiting-is),
        sym (passed cs s.i s.waiting (c.match-parts_of_kind.waiting + 1) inside (omega (arith, w.waiting-is, w.in-0.is, w.if-waiting-eq0, parts)))
            ∙ s.invariant.1,
      )
      | in_default w ↦ (
        omega (arith, s.invariant.0, w.waiting-is, c.parts_of_kind.ensures, few),
        sym (passed cs s.i s.waiting (c.match-parts_of_kind.waiting + 1) inside (omega (arith, w.waiting-is, w.in_default, parts)))
            ∙ s.invariant.1,
      )
    ]

pub returns-in-0 : goal.returns-in-0
returns-in-0 c =
    let s = c.loop-i in
    let cs = codes_of c.args.self in
    let inside : s.i < length cs = omega (arith, c.count-end.ensures, c.loop-i-test.true) in
    let parts : c.parts_of_kind.result ≡ parts_of_kind (get_or cs s.i 0)
    = c.parts_of_kind.ensures ∙ ap parts_of_kind (c.code.ensures inside) in
    omega (
      arith,
      s.invariant.1,
      passed cs s.i s.waiting 0 inside (omega (arith, c.in-0.is, c.if-waiting-eq0.true, parts)),
      none_waiting ℕ parts_of_kind (drop (s.i + 1) cs),
    )

pub returns : goal.returns
returns c =
    let a = c.args in
    let s = c.loop-i in
    let cs = codes_of a.self in
    grind (
      arith,
      c.max.ensures,
      s.invariant.1,
      s.auto.i,
      s.auto.i-end,
      c.loop-i-test.false,
      c.count-end.ensures,
      run_out ℕ parts_of_kind cs s.i (s.waiting + 1) (omega (arith, c.count-end.ensures, c.loop-i-test.false)),
      at_most_all ℕ parts_of_kind (drop a.position cs) 1,
      length-drop a.position cs,
    )

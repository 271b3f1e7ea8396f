-- `check_types::load_codes` meets its contract: the last k codes are loaded. Assumes nothing.
use Prim.Native.Nat.{◌+◌, ◌-◌}
use native.Mathlib.Omega.{arith}
use mathlib.Core.Path.{◌∙◌, ap₂}
use Rattle.words.specs.Words.{words}
use Rattle.check_types.specs.Load.{load_entry}
use Rattle.check_types.proofs.Laws.Load.{load_none, load_next, load_all}
use Rattle.check_types.proofs.load_codes.Goals as goal

pub loop-k-init : goal.loop-k-init
loop-k-init g c = λ f gives. load_none (words c.args.work.now) c.args.n f (c.args.count - 0)

pub loop-k-preserved : goal.loop-k-preserved
loop-k-preserved g c =
    let s = c.args in
    let l = c.loop-k in
    λ f gives.
    c.load_entry.ensures.work_after
    ∙ ap₂ (λ v x. load_entry v (s.n + l.k) x) (l.invariant f gives) (c.from.ensures ∙ gives (s.count - 1 - l.k) c.code.result (omega (arith, c.loop-k-test.true)) c.code.ensures)
    ∙ load_next (words s.work.now) s.n f s.count l.k c.loop-k-test.true

pub returns-clause-work_after : goal.returns-clause-work_after
returns-clause-work_after g c =
    let s = c.args in
    let l = c.loop-k in
    λ f gives. l.invariant f gives ∙ load_all (words s.work.now) s.n f s.count l.k (omega (arith, c.loop-k-test.false))

-- `check_types::write_at` meets its contract: one law for each way through the code; the measure is the number of entries.
-- Assumes nothing.
use Prim.Native.Nat.{ℕ, ◌+◌, ◌-◌, ◌%◌}
use mathlib.Core.List.{List}
use mathlib.Core.Path.{◌≡◌, sym, ◌∙◌, ap, subst, subst₂}
use lib.ListN.{length, set, length-set}
use Rattle.words.specs.Words.{words}
use Rattle.rules.specs.Parts.{parts_of_kind}
use Rattle.check_types.specs.Cells.{cell_kind, cell_first, cell_second}
use Rattle.check_types.specs.Compare.{share_of}
use Rattle.check_types.specs.Write.{SaysWroteAt}
use Rattle.check_types.proofs.Laws.Write.{wrote_leaf, wrote_one, wrote_two}
use Rattle.check_types.proofs.+write_at.Goals as goal

pub returns-then-parts-eq0-clause-says_wrote_at : goal.returns-then-parts-eq0-clause-says_wrote_at
returns-then-parts-eq0-clause-says_wrote_at t c =
    let s = c.args in
    let w = words s.work.now in
    let out = s.out.now in
    let k = c.cell_kind-kind.ensures in
    subst
    (λ z. SaysWroteAt w s.most s.i s.at out (set out s.at (z % 256)) (s.at + 1))
    (sym k)
    (wrote_leaf w s.most s.i s.at out (sym (ap parts_of_kind k) ∙ sym c.parts_of_kind-parts.ensures ∙ c.if-parts-eq0.true))

-- The first part is written behind the cell's own entry.
first_part : (w out : List ℕ) (i at most : ℕ) {out' : List ℕ} {kind first size next : ℕ} → kind ≡ cell_kind w i → first ≡ cell_first w i
    → size ≡ share_of w first (most - 1)
    → SaysWroteAt w size first (at + 1) (set out at (kind % 256)) out' next
    → SaysWroteAt w (share_of w (cell_first w i) (most - 1)) (cell_first w i) (at + 1) (set out at (cell_kind w i % 256)) out' next
first_part w out i at most {out'} {kind} {first} {size} {next} k f e h =
    subst (λ x. SaysWroteAt w x (cell_first w i) (at + 1) (set out at (cell_kind w i % 256)) out' next) (e ∙ ap (λ x. share_of w x (most - 1)) f)
    (subst₂ (λ x z. SaysWroteAt w size x (at + 1) (set out at (z % 256)) out' next) f k h)

pub returns-then-parts-eq1-clause-says_wrote_at : goal.returns-then-parts-eq1-clause-says_wrote_at
returns-then-parts-eq1-clause-says_wrote_at t c =
    let s = c.args in
    let w = words s.work.now in
    let k = c.cell_kind-kind.ensures in
    let one = c.write_at-next in
    wrote_one w s.most s.i s.at s.out.now one.new.out one.result
    (sym (ap parts_of_kind k) ∙ sym c.parts_of_kind-parts.ensures ∙ c.if-parts-eq1.true)
    (first_part w s.out.now s.i s.at s.most k c.cell_first-first.ensures c.share-size.ensures one.ensures.says_wrote_at)

pub returns-clause-says_wrote_at : goal.returns-clause-says_wrote_at
returns-clause-says_wrote_at t c =
    let s = c.args in
    let w = words s.work.now in
    let out = s.out.now in
    let k = c.cell_kind-kind.ensures in
    let size = c.share-size.ensures ∙ ap (λ x. share_of w x (s.most - 1)) c.cell_first-first.ensures in
    let one = c.write_at-next in
    let kept : length one.new.out ≡ length out = one.ensures.out_len_unchanged ∙ length-set out s.at (c.cell_kind-kind.result % 256) in
    let two = c.write_at in
    let other = subst
    (λ x. SaysWroteAt w (s.most - 1 - c.share-size.result) x one.result one.new.out two.new.out two.result)
    c.cell_second.ensures two.ensures.says_wrote_at in
    let second = subst
    (λ x. SaysWroteAt w (s.most - 1 - x) (cell_second w s.i) one.result one.new.out two.new.out two.result)
    size other in
    wrote_two w s.most s.i s.at out one.new.out two.new.out one.result two.result
    (λ e. c.if-parts-eq0.false (c.parts_of_kind-parts.ensures ∙ ap parts_of_kind k ∙ e))
    (λ e. c.if-parts-eq1.false (c.parts_of_kind-parts.ensures ∙ ap parts_of_kind k ∙ e))
    (first_part w s.out.now s.i s.at s.most k c.cell_first-first.ensures c.share-size.ensures one.ensures.says_wrote_at)
    kept second

-- `check_program::file::check_file` meets its contract: the memory is loaded, and what is found in the term decides. Assumes nothing.
use Prim.Native.Nat.{ℕ, ◌+◌, ◌-◌}
use native.Mathlib.Omega.{arith}
use mathlib.Core.Path.{◌≡◌, refl, sym, ◌∙◌, ap, subst}
use mathlib.Core.List.{List}
use lib.ListN.{take, drop}
use Rattle.std.specs.Prelude.{Result, Err}
use Rattle.std.proofs.lemmas.Result.{err_from_is_err_and}
use Rattle.refusals.specs.declared.Refusal.{Refusal}
use Rattle.words.specs.Words.{words}
use Rattle.check_program.specs.Inferring.{Possible}
use Rattle.check_program.specs.ProgramTypes.{SaysFile}
use Rattle.check_program.proofs.Laws.Deciding.{Decides}
use Rattle.check_program.proofs.Laws.ProgramTypes.{file_possible, file_said}
use Rattle.check_program.proofs.file.check_file.Goals.{After-load_labels, After-infer}
use Rattle.check_program.proofs.file.check_file.Goals as goal

-- The term is ready once the labels are loaded; what is found in it says what the check of the file is.
possible : (c : After-load_labels)
    → Possible c.args.file.now (words c.load_labels.new.work) (c.args.labels + c.args.types) 0 0 c.load_types-cells.result
possible c =
    let s = c.args in
    let f = s.file.now in
    let start = 6 + s.labels in
    let codes : List ℕ = take (start + s.types - start) (drop start f) in
    let same : start + s.types - start ≡ s.types = omega arith in
    file_possible f s.labels s.types s.work.now c.load_gates-gates.new.work c.load_types-cells.new.work c.load_labels.new.work
    c.load_gates-gates.result c.load_types-cells.result
    c.requires.0
    c.requires.1
    c.load_gates-gates.ensures.work_len_unchanged
    c.load_gates-gates.ensures.value
    c.load_gates-gates.ensures.work_after
    codes
    (ap (λ n. take n (drop start f)) same)
    c.load_types-cells.ensures.types_loaded
    c.load_labels.ensures
    (s.labels + s.types)
    refl

said : (c : After-infer) (r : Result ℕ Refusal) → Decides (words c.infer.new.work) c.args.labels c.infer.result r
    → SaysFile c.args.file.now (words c.infer.new.work) r
said c r decides =
    let s = c.args in
    let f = s.file.now in
    let start = 6 + s.labels in
    let codes : List ℕ = take (start + s.types - start) (drop start f) in
    let same : start + s.types - start ≡ s.types = omega arith in
    file_said f s.labels s.types s.work.now c.load_gates-gates.new.work c.load_types-cells.new.work c.load_labels.new.work
    c.load_gates-gates.result c.load_types-cells.result
    c.requires.0
    c.requires.1
    c.load_gates-gates.ensures.work_len_unchanged
    c.load_gates-gates.ensures.value
    c.load_gates-gates.ensures.work_after
    codes
    (ap (λ n. take n (drop start f)) same)
    c.load_types-cells.ensures.types_loaded
    c.load_labels.ensures
    (words c.infer.new.work) (s.labels + s.types) c.infer.result r
    refl
    c.infer.ensures
    decides

pub infer-requires : goal.infer-requires
infer-requires c = possible (goal.at.infer-requires c).After-load_labels

pub returns-in_err-found : goal.returns-in_err-found
returns-in_err-found c =
    let p = err_from_is_err_and c.from_residual.result c.from_residual.ensures.1 in
    let r = c.from_residual.result in
    said (goal.at.returns-in_err-found c).After-infer r
    (subst (λ x. Decides (words c.infer.new.work) c.args.labels x r) (sym c.in_err-found.was) (p.1 ∙ ap Err p.2))

pub returns : goal.returns
returns c =
    let r = c.decide.result in
    said (goal.at.returns c).After-infer r
    (subst (λ x. Decides (words c.infer.new.work) c.args.labels x r) (sym c.in_ok-found.was) c.decide.ensures)

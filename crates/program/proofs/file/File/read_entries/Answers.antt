-- `program::file::File::read_entries` meets its contract. Each test refuses the entry that it finds, or leaves the file to the next.
use native.Mathlib.Omega.{arith}
use borrow.Author.Rules.{rules}
use Rattle.std.specs.Prelude.{◌≡◌, ℕ, true, false, List, Option, Err}
use Rattle.std.proofs.Common.{ap, ◌∙◌}
use Rattle.std.proofs.lemmas.Iterator.{first_from_Range}
use Rattle.program.specs.Format.{label_count, type_count, entry_count}
use Rattle.program.specs.Traversal.{first_from}
use Rattle.program.specs.Reading.{kind_wrong, argument_wrong, type_wrong, wires_wrong, or_else}
use Rattle.program.specs.Reading.{read_kinds, read_arguments, read_types, read_wires, read_whole}
use Rattle.program.proofs.Laws.Scans.{is_first}
use Rattle.program.proofs.Laws.Reading.{test_refuses, test_leaves}
use Rattle.program.proofs.file.File.read_entries.Goals as goal
use Rattle.program.proofs.file.File.read_entries.Goals.{After-find, After-find-2, After-find-3, After-find-4}

-- What each scan finds is what the definition finds.
found_kinds : (c : After-find) → c.find.result ≡ first_from (kind_wrong c.args.self.now.bytes.now) 0 (entry_count c.args.self.now.bytes.now)
found_kinds c =
    let f = c.args.self.now.bytes.now in
    is_first (kind_wrong f) 0 (entry_count f) c.entry_count-end.result c.find.result (omega (arith, c.entry_count-end.ensures))
    (first_from_Range _ _ _ _ (λ e. kind_wrong f e ≡ true) (λ e. kind_wrong f e ≡ false) c.find.ensures.ran
    (λ x q k. search rules) (λ x q k. search rules))

found_arguments
    : (c : After-find-2) → c.find-2.result ≡ first_from (argument_wrong c.args.self.now.bytes.now) 0 (entry_count c.args.self.now.bytes.now)
found_arguments c =
    let f = c.args.self.now.bytes.now in
    is_first (argument_wrong f) 0 (entry_count f) c.entry_count-end.result c.find-2.result (omega (arith, c.entry_count-end.ensures))
    (first_from_Range _ _ _ _ (λ e. argument_wrong f e ≡ true) (λ e. argument_wrong f e ≡ false) c.find-2.ensures.ran
    (λ x q k. search rules) (λ x q k. search rules))

found_types
    : (c : After-find-3)
    → c.find-3.result ≡ first_from (type_wrong c.args.self.now.bytes.now) (label_count c.args.self.now.bytes.now) (type_count c.args.self.now.bytes.now)
found_types c =
    let file = c.args.self.now in
    let f = file.bytes.now in
    is_first (type_wrong f) file.sizes.labels (type_count f) c.first_term.result c.find-3.result
    (omega (arith, c.first_term.ensures, file.sized.labels_are))
    (first_from_Range _ _ _ _ (λ e. type_wrong f e ≡ true) (λ e. type_wrong f e ≡ false) c.find-3.ensures.ran
    (λ x q k. search rules) (λ x q k. search rules))
    ∙ ap (λ e. first_from (type_wrong f) e (type_count f)) file.sized.labels_are

found_wires : (c : After-find-4) → c.find-4.result ≡ first_from (wires_wrong c.args.self.now.bytes.now) 0 (entry_count c.args.self.now.bytes.now)
found_wires c =
    let f = c.args.self.now.bytes.now in
    is_first (wires_wrong f) 0 (entry_count f) c.entry_count-end.result c.find-4.result (omega (arith, c.entry_count-end.ensures))
    (first_from_Range _ _ _ _ (λ e. wires_wrong f e ≡ true) (λ e. wires_wrong f e ≡ false) c.find-4.ensures.ran
    (λ x q k. search rules) (λ x q k. search rules))

-- What a scan finds decides the answer from its test on: an entry is refused, and with none the next test decides.
module _ (f : List ℕ) where
  kinds_decide : {found : Option ℕ} → found ≡ first_from (kind_wrong f) 0 (entry_count f) → or_else 4 found (read_arguments f) ≡ read_kinds f
  unfolding read_kinds
  kinds_decide scan = ap (λ found. or_else 4 found (read_arguments f)) scan

  arguments_decide
      : {found : Option ℕ} → found ≡ first_from (argument_wrong f) 0 (entry_count f) → or_else 5 found (read_types f) ≡ read_arguments f
  unfolding read_arguments
  arguments_decide scan = ap (λ found. or_else 5 found (read_types f)) scan

  types_decide
      : {found : Option ℕ} → found ≡ first_from (type_wrong f) (label_count f) (type_count f) → or_else 6 found (read_wires f) ≡ read_types f
  unfolding read_types
  types_decide scan = ap (λ found. or_else 6 found (read_wires f)) scan

  wires_decide : {found : Option ℕ} → found ≡ first_from (wires_wrong f) 0 (entry_count f) → or_else 7 found (read_whole f) ≡ read_wires f
  unfolding read_wires
  wires_decide scan = ap (λ found. or_else 7 found (read_whole f)) scan

pub returns-in-Some : goal.returns-in-Some
returns-in-Some c =
    let f = c.args.self.now.bytes.now in
    ap Err c.form.ensures
    ∙ test_refuses 4 (read_arguments f) c.in-Some.is
    ∙ kinds_decide f (found_kinds (goal.at.returns-in-Some c).After-find)

pub returns-in-Some-find : goal.returns-in-Some-find
returns-in-Some-find c =
    let f = c.args.self.now.bytes.now in
    ap Err c.form-in-Some-find.ensures
    ∙ test_refuses 5 (read_types f) c.in-Some-find.is
    ∙ arguments_decide f (found_arguments (goal.at.returns-in-Some-find c).After-find-2)
    ∙ test_leaves 4 (read_arguments f) c.in_default.is
    ∙ kinds_decide f (found_kinds (goal.at.returns-in-Some-find c).After-find)

pub returns-in-Some-find-2 : goal.returns-in-Some-find-2
returns-in-Some-find-2 c =
    let f = c.args.self.now.bytes.now in
    ap Err c.form-in-Some-find-2.ensures
    ∙ test_refuses 6 (read_wires f) c.in-Some-find-2.is
    ∙ types_decide f (found_types (goal.at.returns-in-Some-find-2 c).After-find-3)
    ∙ test_leaves 5 (read_types f) c.in_default-find.is
    ∙ arguments_decide f (found_arguments (goal.at.returns-in-Some-find-2 c).After-find-2)
    ∙ test_leaves 4 (read_arguments f) c.in_default.is
    ∙ kinds_decide f (found_kinds (goal.at.returns-in-Some-find-2 c).After-find)

pub returns-in-Some-find-3 : goal.returns-in-Some-find-3
returns-in-Some-find-3 c =
    let f = c.args.self.now.bytes.now in
    ap Err c.form-in-Some-find-3.ensures
    ∙ test_refuses 7 (read_whole f) c.in-Some-find-3.is
    ∙ wires_decide f (found_wires (goal.at.returns-in-Some-find-3 c).After-find-4)
    ∙ test_leaves 6 (read_wires f) c.in_default-find-2.is
    ∙ types_decide f (found_types (goal.at.returns-in-Some-find-3 c).After-find-3)
    ∙ test_leaves 5 (read_types f) c.in_default-find.is
    ∙ arguments_decide f (found_arguments (goal.at.returns-in-Some-find-3 c).After-find-2)
    ∙ test_leaves 4 (read_arguments f) c.in_default.is
    ∙ kinds_decide f (found_kinds (goal.at.returns-in-Some-find-3 c).After-find)

pub returns : goal.returns
returns c =
    let f = c.args.self.now.bytes.now in
    c.read_whole.ensures
    ∙ test_leaves 7 (read_whole f) c.in_default-find-3.is
    ∙ wires_decide f (found_wires (goal.at.returns c).After-find-4)
    ∙ test_leaves 6 (read_wires f) c.in_default-find-2.is
    ∙ types_decide f (found_types (goal.at.returns c).After-find-3)
    ∙ test_leaves 5 (read_types f) c.in_default-find.is
    ∙ arguments_decide f (found_arguments (goal.at.returns c).After-find-2)
    ∙ test_leaves 4 (read_arguments f) c.in_default.is
    ∙ kinds_decide f (found_kinds (goal.at.returns c).After-find)

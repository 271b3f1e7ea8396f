-- The cases of 01 ("Cases, c1 to c12 to be proved"): of each the bytes of its file, the program that they are, what the check
-- gives, and what a run gives with one limit or more.
use Rattle.std.specs.Prelude.{ℕ, List, [], ◌∷◌}
use Rattle.std.proofs.Math.Option.{none, some}
use Rattle.rules.specs.CaseTerms.{one_label, two_labels, c1 as c1_term, c2 as c2_term, c3 as c3_term, c4 as c4_term}
use Rattle.rules.specs.CaseTerms.{c5 as c5_term, c6 as c6_term, c7 as c7_term, c8 as c8_term, c9 as c9_term, c10 as c10_term}
use Rattle.rules.specs.CaseTerms.{c11 as c11_term, c12 as c12_term}
use Rattle.program.specs.CaseFiles.{c1_file, c2_file, c3_file, c4_file, c5_file, c6_file, c7_file, c8_file, c9_file}
use Rattle.program.specs.CaseFiles.{c10_file, c11_file, c12_file, sizes_file}
use Rattle.refusals.specs.declared.Refusal.TheVariants.{Form, Typing, Run}
use Rattle.run_answers.specs.Answers.{ran, declines}
use Rattle.cases.specs.Case.{accepted, limit◌gives◌, Case, wirelist_limit, unfinished, refused_case}

-- The listings (01, "Listing": sizes, kinds, slots, outputs). Of c1: "output wire 0".
abbrev pub c1_listing : List ℕ
c1_listing =
    0x01 ∷ 0x00 ∷ 0x00 ∷ 0x00 ∷ 0x01 ∷ 0x00
    ∷ 0x81
    ∷ 0xFF ∷ 0xFF ∷ 0xFF ∷ 0xFF ∷ 0xFF ∷ 0xFF
    ∷ 0x00 ∷ 0x00 ∷ []

-- Of c2, as 02's ticket 6 has 01's sample rewritten: 01 00 01 00 01 00 81 00 FF FF FF FF FF FF 00 00 FF FF FF FF 01 00.
abbrev pub c2_listing : List ℕ
c2_listing =
    0x01 ∷ 0x00 ∷ 0x01 ∷ 0x00 ∷ 0x01 ∷ 0x00
    ∷ 0x81 ∷ 0x00
    ∷ 0xFF ∷ 0xFF ∷ 0xFF ∷ 0xFF ∷ 0xFF ∷ 0xFF ∷ 0x00 ∷ 0x00 ∷ 0xFF ∷ 0xFF ∷ 0xFF ∷ 0xFF
    ∷ 0x01 ∷ 0x00 ∷ []

-- Of c3: CNOT takes 0 and 1 and makes 2 and 3; outputs 3 and 2.
abbrev pub c3_listing : List ℕ
c3_listing =
    0x02 ∷ 0x00 ∷ 0x01 ∷ 0x00 ∷ 0x02 ∷ 0x00
    ∷ 0x81 ∷ 0x81 ∷ 0x05
    ∷ 0xFF ∷ 0xFF ∷ 0xFF ∷ 0xFF ∷ 0xFF ∷ 0xFF ∷ 0xFF ∷ 0xFF ∷ 0xFF ∷ 0xFF ∷ 0xFF ∷ 0xFF ∷ 0x00 ∷ 0x00 ∷ 0x01 ∷ 0x00 ∷ 0xFF ∷ 0xFF
    ∷ 0x03 ∷ 0x00 ∷ 0x02 ∷ 0x00 ∷ []

-- Of c10: H takes 0 and makes 1, H takes 1 and makes 2; output 2.
abbrev pub c10_listing : List ℕ
c10_listing =
    0x01 ∷ 0x00 ∷ 0x02 ∷ 0x00 ∷ 0x01 ∷ 0x00
    ∷ 0x81 ∷ 0x00 ∷ 0x00
    ∷ 0xFF ∷ 0xFF ∷ 0xFF ∷ 0xFF ∷ 0xFF ∷ 0xFF ∷ 0x00 ∷ 0x00 ∷ 0xFF ∷ 0xFF ∷ 0xFF ∷ 0xFF ∷ 0x01 ∷ 0x00 ∷ 0xFF ∷ 0xFF ∷ 0xFF ∷ 0xFF
    ∷ 0x02 ∷ 0x00 ∷ []

-- "c1: label 0 alone. File (hex) 01 00 00 00 01 00 01 11 00 00 00 00. Limit 0 finishes, 0 steps, output wire 0."
abbrev pub c1 : Case
c1 =
    record {
      file = c1_file;
      program = some (one_label, c1_term);
      check = accepted (1 ∷ []);
      runs = limit 0 gives ran 0 0 c1_listing ∷ [];
    }

-- "c2: H applied to label 0. 1 step".
abbrev pub c2 : Case
c2 =
    record {
      file = c2_file;
      program = some (one_label, c2_term);
      check = accepted (1 ∷ []);
      runs = limit 0 gives unfinished ∷ limit 1 gives ran 1 1 c2_listing ∷ [];
    }

-- "c3: L 2, both Qubit: let takes apart CNOT applied to the pair of labels 0 and 1, and gives the pair of its second half
-- and its first. 2 steps."
abbrev pub c3 : Case
c3 =
    record {
      file = c3_file;
      program = some (two_labels, c3_term);
      check = accepted (2 ∷ 1 ∷ 1 ∷ []);
      runs =
          limit 1 gives unfinished
          ∷ limit 2 gives ran 2 1 c3_listing
          ∷ limit wirelist_limit gives ran 2 1 c3_listing
          ∷ [];
    }

-- "c4: an abstraction over Qubit applies H to its variable; it is lifted, boxed at Qubit, and the box is applied to label 0.
-- Limit 4 gives 21; 5 finishes with c2's listing." The nodes of its configurations, 8, 14, 11, 9, 3, 1: c4_totals of
-- rules/proofs/Theorems/Cases.
abbrev pub c4 : Case
c4 =
    record {
      file = c4_file;
      program = some (one_label, c4_term);
      check = accepted (1 ∷ []);
      runs = limit 4 gives unfinished ∷ limit 5 gives ran 5 1 c2_listing ∷ [];
    }

-- "c5: the pair of label 0 and label 0: 17, place 0."
abbrev pub c5 : Case
c5 = refused_case c5_file (some (one_label, c5_term)) (Typing 17 0)

-- "c6: the abstraction over Qubit that gives its variable, label 0 unused: 17, place 0."
abbrev pub c6 : Case
c6 = refused_case c6_file (some (one_label, c6_term)) (Typing 17 0)

-- "c7: P 0, lift of label 0: 18, place 2."
abbrev pub c7 : Case
c7 = refused_case c7_file (some (one_label, c7_term)) (Typing 18 2)

-- "c8: P 0, H applied to the result of Meas applied to label 0: 16, place 1."
abbrev pub c8 : Case
c8 = refused_case c8_file (some (one_label, c8_term)) (Typing 16 1)

-- "c9: L 0, P 1, the abstraction over Qubit that pairs its variable with itself: 17, place 1."
abbrev pub c9 : Case
c9 = refused_case c9_file (some ([], c9_term)) (Typing 17 1)

-- "c10: an abstraction over Circ from Qubit to Qubit, which applies its variable to the result of applying it to label 0, is
-- given H: 3 steps, 2 gates, output 2."
abbrev pub c10 : Case
c10 =
    record {
      file = c10_file;
      program = some (one_label, c10_term);
      check = accepted (1 ∷ []);
      runs = limit 2 gives unfinished ∷ limit 3 gives ran 3 2 c10_listing ∷ [];
    }

-- "c11: L 0, c6's abstraction: checked; a run gives 20."
abbrev pub c11 : Case
c11 =
    record {
      file = c11_file;
      program = some ([], c11_term);
      check = accepted (3 ∷ 1 ∷ 1 ∷ []);
      runs = limit wirelist_limit gives declines (Run 20 0) ∷ [];
    }

-- "c12: an abstraction over Circ from Qubit to Qubit that gives label 0 is given H: 1 step, no gate."
abbrev pub c12 : Case
c12 =
    record {
      file = c12_file;
      program = some (one_label, c12_term);
      check = accepted (1 ∷ []);
      runs = limit 0 gives unfinished ∷ limit 1 gives ran 1 0 c1_listing ∷ [];
    }

-- "Empty file: 1."
abbrev pub empty_file : Case
empty_file = refused_case [] none (Form 1 0)

-- "Sizes 1, 0, 0 alone: 2."
abbrev pub sizes_alone : Case
sizes_alone = refused_case sizes_file none (Form 2 0)

-- All of them.
abbrev pub base_cases : List Case
base_cases =
    c1 ∷ c2 ∷ c3 ∷ c4 ∷ c5 ∷ c6 ∷ c7 ∷ c8 ∷ c9 ∷ c10 ∷ c11 ∷ c12 ∷ empty_file ∷ sizes_alone ∷ []

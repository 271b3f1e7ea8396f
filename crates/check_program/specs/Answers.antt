-- What the check answers and leaves in its buffers, as functions of the file's bytes (01, "When each operation says no").
use Rattle.std.specs.Prelude.{ℕ, zero, suc, ◌+◌, cond, List, [], ◌∷◌, ◌++◌, eqb, drop, Result, Ok, Err}
use Rattle.rules.specs.Kinds.{qubit_kind, pair_type_kind, function_kind, reusable_kind, circuit_kind, variable_kind}
use Rattle.rules.specs.Kinds.{label_kind, abstraction_kind, application_kind, pair_kind, let_kind, lift_kind}
use Rattle.rules.specs.Kinds.{force_kind, box_kind, apply_kind, unit_kind, unit_value_kind}
use Rattle.rules.specs.Types.{Wire, Bit, Qubit, Ty, wire, unit, ◌⊗◌, ◌⊸◌, !◌, Circ, entries, type_codes}
use Rattle.rules.specs.Terms.{Term, variable, label, gate, unit_value, abstraction, application, pair, let_in, lift, force}
use Rattle.rules.specs.Terms.{box, apply}
use Rattle.rules.specs.Sizes.{nodes, most_types}
use Rattle.lent.specs.Lent.{too_short, bytes_left}
use Rattle.program.specs.Format.{label_count, term_count, first_term, kind_at, argument_at}
use Rattle.program.specs.Reading.{read_of}
use Rattle.refusals.specs.declared.Refusal.{Refusal}
use Rattle.refusals.specs.declared.Refusal.TheVariants.{Typing, Run}
use Rattle.program.specs.declared.format.Sizes.{Sizes}
use Rattle.check_program.specs.Checking.{Verdict, has_type, refusal, verdict}
use Rattle.check_program.specs.Lengths.{check_lengths}

-- 01, label section: "0 Bit, 1 Qubit".
abbrev pub wire_of : ℕ → Wire
wire_of zero = Bit
wire_of (suc k) = Qubit

-- So many labels from entry e on.
abbrev pub labels_from : List ℕ → ℕ → ℕ → List Wire
labels_from f e zero = []
labels_from f e (suc n) = wire_of (kind_at f e) ∷ labels_from f (suc e) n

-- The labels of the file: its label section.
abbrev pub labels_of : List ℕ → List Wire
labels_of f = labels_from f 0 (label_count f)

-- A node of a tree with as many parts as its kind has.
pub data Node (X : Type 0) : Type 0 where
  no_part : X → Node X
  one_part : (X → X) → Node X
  two_parts : (X → X → X) → Node X

-- The tree of a node at entry e, where its parts are read from the entries behind it: the second part stands behind the
-- first, which has this size.
abbrev pub built : {X : Type 0} → (X → ℕ) → (ℕ → X) → ℕ → Node X → X
built size part e (no_part x) = x
built size part e (one_part c) = c (part (suc e))
built size part e (two_parts c) = let x = part (suc e) in c x (part (suc e + size x))

-- 01, type section: "0 Bit, 1 Qubit (no parts); 2 pair, 3 function, 5 circuit (two parts); 4 reusable (one)". 02, ticket 5: "a
-- unit type (type kind 6)".
abbrev pub type_node : ℕ → Node Ty
type_node k =
    cond (eqb k qubit_kind) (no_part (wire Qubit))
    (cond (eqb k pair_type_kind) (two_parts ◌⊗◌)
    (cond (eqb k function_kind) (two_parts ◌⊸◌)
    (cond (eqb k reusable_kind) (one_part !◌)
    (cond (eqb k circuit_kind) (two_parts Circ) (cond (eqb k unit_kind) (no_part unit) (no_part (wire Bit)))))))

-- The type whose preorder starts at entry e, of at most so many entries.
unfoldable pub type_from : ℕ → List ℕ → ℕ → Ty
type_from zero f e = wire Bit
type_from (suc most) f e = built entries (λ i. type_from most f i) e (type_node (kind_at f e))

-- 01: "Abstraction and box have a type position": the type at the position that entry e names.
abbrev pub named_type : List ℕ → ℕ → Ty
named_type f e = type_from most_types f (label_count f + argument_at f e)

-- 01, term section: "16 variable, 17 label, 26 gate (no parts); 18 abstraction, 22 lift, 23 force, 24 box (one);
-- 19 application, 20 pair, 21 let, 25 apply (two)." 02, ticket 5: unit's "value (term kind 27)".
abbrev pub term_node : List ℕ → ℕ → ℕ → Node Term
term_node f e k =
    cond (eqb k variable_kind) (no_part (variable (argument_at f e)))
    (cond (eqb k label_kind) (no_part (label (argument_at f e)))
    (cond (eqb k abstraction_kind) (one_part λ M. abstraction (named_type f e) M)
    (cond (eqb k application_kind) (two_parts application)
    (cond (eqb k pair_kind) (two_parts pair)
    (cond (eqb k let_kind) (two_parts let_in)
    (cond (eqb k lift_kind) (one_part lift)
    (cond (eqb k force_kind) (one_part force)
    (cond (eqb k box_kind) (one_part λ M. box (named_type f e) M)
    (cond (eqb k apply_kind) (two_parts apply)
    (cond (eqb k unit_value_kind) (no_part unit_value) (no_part (gate (argument_at f e)))))))))))))

-- The term whose preorder starts at entry e, of at most so many nodes.
unfoldable pub term_from : ℕ → List ℕ → ℕ → Term
term_from zero f e = gate 0
term_from (suc most) f e = built nodes (λ i. term_from most f i) e (term_node f e (kind_at f e))

-- The term of the file: its term section.
abbrev pub term_of : List ℕ → Term
term_of f = term_from (term_count f) f (first_term f)

-- The answer of a check whose buffers are long enough: the type of the program, or a refusal.
pub data Judged : Type 0 where
  accepts : Ty → Judged
  refuses : Refusal → Judged

-- 16 to 18 are of the family typing.
abbrev pub judged : Verdict → Judged
judged (has_type A) = accepts A
judged (refusal number place) = refuses (Typing number place)

-- "a check first reads": the refusal of the reader is handed up unchanged.
abbrev pub judged_as : List ℕ → Result Sizes Refusal → Judged
judged_as f (Ok sizes) = judged (verdict (labels_of f) (first_term f) (term_of f))
judged_as f (Err r) = refuses r

-- The check of a file.
unfoldable pub check_of : List ℕ → Judged
check_of f = judged_as f (read_of f)

-- "Accepted: the type in preorder, one kind byte an entry, at the start of the output buffer, and its length."
abbrev pub answer_to : Judged → Result ℕ Refusal
answer_to (accepts A) = Ok (entries A)
answer_to (refuses r) = Err r

-- The output buffer: "output bytes past the answer keep their values; after a refusal all do".
abbrev pub out_to : List ℕ → Judged → List ℕ
out_to out (accepts A) = type_codes A ++ drop (entries A) out
out_to out (refuses r) = out

-- The answer, with the buffers that were lent: the output buffer and the working memory. "19, before all else".
unfoldable pub check_answer : List ℕ → List (List ℕ) → Result ℕ Refusal
check_answer f buffers = let later = answer_to (check_of f) in cond (too_short check_lengths buffers) (Err (Run 19 0)) later

-- The final bytes of these buffers. "output bytes past the answer keep their values; after a refusal all do".
abbrev pub check_bytes : List ℕ → List (List ℕ) → List (List ℕ)
check_bytes f buffers = bytes_left check_lengths (λ out. out_to out (check_of f)) buffers

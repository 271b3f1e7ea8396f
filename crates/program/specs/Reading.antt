-- What `read` answers (01, "When each operation says no", Read). "Each test covers the whole file before the next."
use Rattle.std.specs.Prelude.{ℕ, ◌+◌, ◌*◌, ◌-◌, Bool, true, false, not, ◌&&◌, cond, Option, Some, None, Result, Ok, Err, is_none, is_err, List, [], ◌∷◌, eqb, leb, ltb, length}
use Rattle.program.specs.Format.{label_count, type_count, term_count, first_term, entry_count, kind_at, argument_at, within}
use Rattle.program.specs.Format.{shape_at, shape_allows}
use Rattle.program.specs.Traversal.{first_from, traverse_from}
use Rattle.refusals.specs.declared.Refusal.{Refusal}
use Rattle.refusals.specs.declared.Refusal.TheVariants.{Form}
use Rattle.program.specs.declared.format.Sizes.{Sizes}
use Rattle.program.specs.Traversal.{End, WireType, Scope}
use Rattle.program.specs.declared.traversal.Halt.{Halt}
use Rattle.program.specs.declared.traversal.Halt.TheVariants.{Stopped, Out}
use Rattle.rules.specs.Kinds.{circuit_kind, box_kind}
use Rattle.rules.specs.Sizes.{most_labels, most_types, most_terms}

-- A refusal of the family form, with its number and place.
abbrev pub refused : ℕ → ℕ → Result Sizes Refusal
refused number place = Err (Form number place)

-- The file is accepted, with these sizes.
abbrev pub accepted : ℕ → ℕ → ℕ → Result Sizes Refusal
accepted labels types terms = Ok (record { labels = labels; types = types; terms = terms })

-- The section ends before all the parts that were waited for stand there.
abbrev pub runs_out : Result ℕ Halt → Bool
runs_out (Ok e) = false
runs_out (Err (Stopped e)) = false
runs_out (Err Out) = true

-- 2: "a size outside its range": L 0 to 64, P 0 to 512, N 1 to 2,048.
unfoldable pub sizes_right : List ℕ → Bool
sizes_right f = leb (label_count f) most_labels && (leb (type_count f) most_types && within 1 most_terms (term_count f))

-- 4: "a kind not of its section".
unfoldable pub kind_wrong : List ℕ → ℕ → Bool
kind_wrong f e = is_none (shape_at f e)

-- 5: "an argument not allowed".
unfoldable pub argument_wrong : List ℕ → ℕ → Bool
argument_wrong f e = not (shape_allows (label_count f) (type_count f) (shape_at f e) (argument_at f e))

-- 6: "the type at any position, used or not, runs out".
unfoldable pub type_wrong : List ℕ → ℕ → Bool
type_wrong f e = runs_out (traverse_from End f (first_term f - e) e (0 ∷ []))

-- 7: "a Circ or box with a part or type that is no wire type". Of a Circ: its two parts.
unfoldable pub circ_wrong : List ℕ → ℕ → Bool
circ_wrong f e = is_err (traverse_from WireType f (first_term f - (e + 1)) (e + 1) (0 ∷ 0 ∷ []))

-- 7, of a box: the type at its position is no wire type.
unfoldable pub box_wrong : List ℕ → ℕ → Bool
box_wrong f e =
    is_err (traverse_from WireType f (type_count f - argument_at f e) (label_count f + argument_at f e) (0 ∷ []))

-- 7, of any entry: only Circ entries of the type section and box entries of the term section are concerned.
unfoldable pub wires_wrong : List ℕ → ℕ → Bool
wires_wrong f e =
    cond (ltb e (label_count f)) false
    (cond (ltb e (first_term f)) (eqb (kind_at f e) circuit_kind && circ_wrong f e) (eqb (kind_at f e) box_kind && box_wrong f e))

-- 9: "a variable with no binder; first entry." The traversal does not run out here: by 8 the section is one whole term.
abbrev pub scope_answer : List ℕ → Result ℕ Halt → Result Sizes Refusal
scope_answer f (Ok e) = accepted (label_count f) (type_count f) (term_count f)
scope_answer f (Err (Stopped e)) = refused 9 e
scope_answer f (Err Out) = accepted (label_count f) (type_count f) (term_count f)

-- The test for 9, of the whole term.
unfoldable pub read_scope : List ℕ → Result Sizes Refusal
read_scope f = scope_answer f (traverse_from Scope f (term_count f) (first_term f) (0 ∷ []))

-- 8: "the term section is not one whole term; place E if it runs out, else the first entry left over." The traversal is not
-- stopped here: by 4 every kind is known.
abbrev pub whole_answer : List ℕ → Result ℕ Halt → Result Sizes Refusal
whole_answer f (Ok e) = let later = read_scope f in cond (eqb e (entry_count f)) later (refused 8 e)
whole_answer f (Err (Stopped e)) = refused 8 e
whole_answer f (Err Out) = refused 8 (entry_count f)

-- The test for 8, then that for 9.
unfoldable pub read_whole : List ℕ → Result Sizes Refusal
read_whole f = whole_answer f (traverse_from End f (term_count f) (first_term f) (0 ∷ []))

-- A test that finds an entry refuses it; else the next test decides.
abbrev pub or_else : ℕ → Option ℕ → Result Sizes Refusal → Result Sizes Refusal
or_else number (Some e) later = refused number e
or_else number None later = later

-- The test for 7, of every entry, then those behind it.
unfoldable pub read_wires : List ℕ → Result Sizes Refusal
read_wires f = let later = read_whole f in or_else 7 (first_from (wires_wrong f) 0 (entry_count f)) later

-- The test for 6, of every type position, then those behind it.
unfoldable pub read_types : List ℕ → Result Sizes Refusal
read_types f = let later = read_wires f in or_else 6 (first_from (type_wrong f) (label_count f) (type_count f)) later

-- The test for 5, of every entry, then those behind it.
unfoldable pub read_arguments : List ℕ → Result Sizes Refusal
read_arguments f = let later = read_types f in or_else 5 (first_from (argument_wrong f) 0 (entry_count f)) later

-- The test for 4, of every entry, then those behind it.
unfoldable pub read_kinds : List ℕ → Result Sizes Refusal
read_kinds f = let later = read_arguments f in or_else 4 (first_from (kind_wrong f) 0 (entry_count f)) later

-- The answer of the reader. 1: "under 6 bytes." 2 as above. 3: "length is not 6 + 3E." Then the tests from 4 on.
unfoldable pub read_of : List ℕ → Result Sizes Refusal
read_of f =
    let later = read_kinds f in
    cond (ltb (length f) 6) (refused 1 0)
    (cond (sizes_right f) (cond (eqb (length f) (6 + 3 * entry_count f)) later (refused 3 0)) (refused 2 0))

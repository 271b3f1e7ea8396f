-- The kinds as numbers: what a kind number says of a node, and which number a kind of node has.
use Rattle.std.specs.Prelude.{ℕ, ◌≤◌, ◌<◌, ◌≡◌, refl, Bool, true, false, ◌&&◌, cond, eqb, leb}
use Rattle.std.proofs.Common.{arith, sym, ◌∙◌, ap, ap₂, subst, ne_eqb, le-leb, leb-true, leb-false}
use Rattle.std.proofs.lemmas.Bool.{lt-leb}
use Rattle.rules.specs.Kinds.{variable_kind, label_kind, abstraction_kind, application_kind, pair_kind, let_kind}
use Rattle.rules.specs.Kinds.{lift_kind, force_kind, box_kind, apply_kind, gate_term_kind, constant_kind, unit_value_kind}
use Rattle.rules.specs.Parts.{parts_of_kind}
use Rattle.rules.proofs.Laws.Ranges.{try, ◌and◌, no_more, in_range}
use Rattle.machine_terms.specs.Trees.{LeafKind, a_variable, a_label, a_gate, a_constant, leaf_kind, OneKind}
use Rattle.machine_terms.specs.Trees.{an_abstraction, a_lift, a_force, a_box, one_kind, TwoKind, an_application, a_pair}
use Rattle.machine_terms.specs.Trees.{a_let, an_apply, two_kind, parts, a_unit_value}

-- The numbers of the kinds without parts (01, "Program file", and 02's ticket 5; 32 is the machine's own).
abbrev pub leaf_number : LeafKind → ℕ
leaf_number a_variable = variable_kind
leaf_number a_label = label_kind
leaf_number a_gate = gate_term_kind
leaf_number a_unit_value = unit_value_kind
leaf_number a_constant = constant_kind

-- The numbers of the kinds with one part.
abbrev pub one_number : OneKind → ℕ
one_number an_abstraction = abstraction_kind
one_number a_lift = lift_kind
one_number a_force = force_kind
one_number a_box = box_kind

-- The numbers of the kinds with two parts.
abbrev pub two_number : TwoKind → ℕ
two_number an_application = application_kind
two_number a_pair = pair_kind
two_number a_let = let_kind
two_number an_apply = apply_kind

-- The number of a kind without parts is read as that kind.
pub leaf_number_read : (c : LeafKind) → (leaf_kind (leaf_number c) ≡ c) × (parts (leaf_number c) ≡ 0)
unfolding leaf_kind parts parts_of_kind
leaf_number_read a_variable = (refl, refl)
leaf_number_read a_label = (refl, refl)
leaf_number_read a_gate = (refl, refl)
leaf_number_read a_unit_value = (refl, refl)
leaf_number_read a_constant = (refl, refl)

-- The number of a kind with one part is read as that kind.
pub one_number_read : (c : OneKind) → (one_kind (one_number c) ≡ c) × (parts (one_number c) ≡ 1)
unfolding one_kind parts parts_of_kind
one_number_read an_abstraction = (refl, refl)
one_number_read a_lift = (refl, refl)
one_number_read a_force = (refl, refl)
one_number_read a_box = (refl, refl)

-- The number of a kind with two parts is read as that kind.
pub two_number_read : (c : TwoKind) → (two_kind (two_number c) ≡ c) × (parts (two_number c) ≡ 2)
unfolding two_kind parts parts_of_kind
two_number_read an_application = (refl, refl)
two_number_read a_pair = (refl, refl)
two_number_read a_let = (refl, refl)
two_number_read an_apply = (refl, refl)

-- The kinds, each with its number of parts.
pub data KindIs : ℕ → ℕ → Type 0 where
  kind_variable : KindIs 16 0
  kind_label : KindIs 17 0
  kind_gate : KindIs 26 0
  kind_unit_value : KindIs 27 0
  kind_constant : KindIs 32 0
  kind_abstraction : KindIs 18 1
  kind_lift : KindIs 22 1
  kind_force : KindIs 23 1
  kind_box : KindIs 24 1
  kind_application : KindIs 19 2
  kind_pair : KindIs 20 2
  kind_let : KindIs 21 2
  kind_apply : KindIs 25 2
  no_kind : {k : ℕ} → KindIs k 3

-- The parts of a number from the first kind of a term to the last, of one below them, and of one above them.
pub parts_inside : (k : ℕ) → variable_kind ≤ k → k ≤ unit_value_kind → parts k ≡ parts_of_kind k
unfolding parts
parts_inside k least most =
    ap₂ (λ b c. cond (b && c) (parts_of_kind k) (cond (eqb k constant_kind) 0 3))
    (le-leb variable_kind k least)
    (le-leb k unit_value_kind most)

pub parts_below : (k : ℕ) → k < variable_kind → parts k ≡ 3
unfolding parts
parts_below k most =
    ap (λ b. cond (b && leb k unit_value_kind) (parts_of_kind k) (cond (eqb k constant_kind) 0 3)) (lt-leb variable_kind k most)
    ∙ ap (λ b. cond b 0 3) (ne_eqb k constant_kind (λ e. absurd (omega (arith, e))))

pub parts_above : (k : ℕ) → unit_value_kind < k → (k ≡ constant_kind → ⊥) → parts k ≡ 3
unfolding parts
parts_above k least other =
    ap₂ (λ b c. cond (b && c) (parts_of_kind k) (cond (eqb k constant_kind) 0 3))
    (le-leb variable_kind k (omega arith))
    (lt-leb k unit_value_kind least)
    ∙ ap (λ b. cond b 0 3) (ne_eqb k constant_kind other)

term_kinds_lem : (k : ℕ) → variable_kind ≤ k → k ≤ unit_value_kind → KindIs k (parts_of_kind k)
unfolding parts_of_kind
term_kinds_lem k least most =
    in_range (λ j. KindIs j (parts_of_kind j)) variable_kind 12
    (kind_variable
    and kind_label
    and kind_abstraction
    and kind_application
    and kind_pair
    and kind_let
    and kind_lift
    and kind_force
    and kind_box
    and kind_apply
    and kind_gate
    and kind_unit_value
    and no_more)
    k
    least
    (omega arith)

pub kind_view : (k : ℕ) → KindIs k (parts k)
unfolding parts
kind_view k = go (leb variable_kind k) (leb k unit_value_kind) refl refl
  where
    go : (b c : Bool) → leb variable_kind k ≡ b → leb k unit_value_kind ≡ c → KindIs k (parts k)
    go false c least most = subst (KindIs k) (sym (parts_below k (leb-false variable_kind k least))) no_kind
    go true true least most =
        let from = leb-true variable_kind k least in
        let to = leb-true k unit_value_kind most in
        subst (KindIs k) (sym (parts_inside k from to)) (term_kinds_lem k from to)
    go true false least most =
        try (λ j. KindIs j (parts j)) k constant_kind kind_constant λ other.
        subst (KindIs k) (sym (parts_above k (leb-false k unit_value_kind most) other)) no_kind

-- A number of a kind without parts is that of the kind read.
leaf_is : {k : ℕ} → KindIs k 0 → k ≡ leaf_number (leaf_kind k)
unfolding leaf_kind
leaf_is kind_variable = refl
leaf_is kind_label = refl
leaf_is kind_gate = refl
leaf_is kind_unit_value = refl
leaf_is kind_constant = refl

pub leaf_number_lem : (k : ℕ) → parts k ≡ 0 → k ≡ leaf_number (leaf_kind k)
leaf_number_lem k e = leaf_is (subst (KindIs k) e (kind_view k))

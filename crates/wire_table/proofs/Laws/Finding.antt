-- What the searches of Wires find: the first number of which the words of WireRules hold, or that there is none.
use Rattle.std.specs.Prelude.{ℕ, zero, suc, ◌+◌, ◌≤◌, ◌<◌, ◌≡◌, refl, ◌⊎◌, Bool, true, false, ◌&&◌, cond, List, [], ◌∷◌, ◌++◌, eqb, length}
use Rattle.std.proofs.Common.{sym, ap, ◌∙◌, subst, inl, inr, true≢false, arith}
use Rattle.std.proofs.Math.Option.{Option, none, some, some-injective}
use Rattle.std.proofs.Math.Decide.{dec_lt}
use Rattle.rules.specs.Types.{Wire, Bit, Qubit, wire_code}
use Rattle.rules.specs.Gates.{nth, gate_type, input_wires, wires_in}
use Rattle.rules.specs.Terms.{Gate, ◌on◌}
use Rattle.rules.specs.Circuits.{outputs, taken, count, if_none}
use Rattle.rules.proofs.Laws.Wires.{Compared, equal, unequal, compared, nth_within, nth_some_within}
use Rattle.rules.proofs.Laws.KnownGates.{KnownGates}
use Rattle.wire_table.specs.Wires.{there, is_there, is_of_type, all_there, or_else, first_wrong_gate, first_wrong_output}
use Rattle.wire_table.specs.Wires.{first_where, lowest_left}
use Rattle.wire_table.specs.WireRules.{WrongWire, not_made, other_type, gone_already, TakesWrongly, this_slot}
use Rattle.wire_table.specs.WireRules.{later_slot, WrongGate, the_newest, an_older, WrongOutput, this_output}
use Rattle.wire_table.specs.WireRules.{later_output, First, NoSuch}

-- What a search gives: the first such number, or none where there is none.
abbrev pub Finds : (ℕ → Type 0) → Option ℕ → Type 0
Finds Such none = NoSuch Such
Finds Such (some n) = First Such n

-- There is one first such number.
first_unique : {Such : ℕ → Type 0} (m n : ℕ) → First Such m → First Such n → m ≡ n
first_unique m n f g = of_order (dec_lt m n) (dec_lt n m)
  where
    of_order : Dec (m < n) → Dec (n < m) → m ≡ n
    of_order (yes h) d = absurd (g.none_before m h f.is_such)
    of_order (no h) (yes k) = absurd (f.none_before n k g.is_such)
    of_order (no h) (no k) = omega arith

module _ (Such : ℕ → Type 0) where
  -- A search gives the first such number, and nothing where there is none.
  pub found_first : (o : Option ℕ) → Finds Such o → (n : ℕ) → First Such n → o ≡ some n
  found_first none f n g = absurd (f n g.is_such)
  found_first (some m) f n g = ap some (first_unique m n f g)

  pub found_none : (o : Option ℕ) → Finds Such o → NoSuch Such → o ≡ none
  found_none none f g = refl
  found_none (some n) f g = absurd (g n f.is_such)

  -- What finds such numbers finds those that are the same.
  pub finds_same : (Same : ℕ → Type 0) → ((n : ℕ) → Such n → Same n) → ((n : ℕ) → Same n → Such n)
      → (o : Option ℕ) → Finds Such o → Finds Same o
  finds_same Same to from none f = λ n s. f n (from n s)
  finds_same Same to from (some n) f =
      record { is_such = to n f.is_such; none_before = λ m h s. f.none_before m h (from m s) }

-- m is one of k numbers from n on, and passes a test.
abbrev pub Passing : (ℕ → Bool) → ℕ → ℕ → ℕ → Type 0
Passing test n k m = (n ≤ m) × (m < n + k) × (test m ≡ true)

-- The first of k numbers from n on that passes a test is found.
pub where_found : (test : ℕ → Bool) (k n : ℕ) → Finds (Passing test n k) (first_where test n k)
where_found test zero n = λ m h. omega (arith, h.0, h.1)
where_found test (suc k) n = of_test (test n) refl (first_where test (suc n) k) (where_found test k (suc n))
  where
    of_test : (b : Bool) → test n ≡ b
        → (o : Option ℕ) → Finds (Passing test (suc n) k) o
        → Finds (Passing test n (suc k)) (cond b (some n) o)
    of_test true e o f =
        record { is_such = (omega arith, omega arith, e); none_before = λ m l h. omega (arith, l, h.0) }
    of_test false e o f =
        finds_same
        (Passing test (suc n) k)
        (Passing test n (suc k))
        (λ m h. (omega (arith, h.0), omega (arith, h.1), h.2))
        (λ m h. (later m h (dec_lt n m), omega (arith, h.1), h.2))
        o
        f
      where
        later : (m : ℕ) → Passing test n (suc k) m → Dec (n < m) → suc n ≤ m
        later m h (yes l) = l
        later m h (no l) =
            let p : m ≡ n = omega (arith, h.0) in
            absurd (true≢false (sym h.2 ∙ ap test p ∙ e))

-- What the test for a wire says.
pub data There (types : List Wire) (gone : List ℕ) (w : ℕ) : Bool → Type 0 where
  is_there_lem : w < length types → count w gone ≡ 0 → There types gone w true
  not_there : (length types ≤ w) ⊎ (1 ≤ count w gone) → There types gone w false

beyond : (types : List Wire) (w : ℕ) → nth types w ≡ none → length types ≤ w
beyond types w e = of_order (dec_lt w (length types))
  where
    of_order : Dec (w < length types) → length types ≤ w
    of_order (yes h) =
        let r = nth_within types w h in
        let q = sym e ∙ r.1 in
        let z : ◌≡◌ {A = ℕ} 0 1 = cc in
        absurd (omega arith)
    of_order (no h) = omega arith

pub is_it_there : (types : List Wire) (gone : List ℕ) (w : ℕ) → There types gone w (is_there (there types gone w))
is_it_there types gone w = by_cases (count w gone) refl (nth types w) refl
  where
    by_cases : (c : ℕ) → count w gone ≡ c → (o : Option Wire) → nth types w ≡ o
        → There types gone w (is_there (if_none c o))
    by_cases zero p none q = not_there (inl (beyond types w q))
    by_cases zero p (some α) q = is_there_lem (nth_some_within types w q) p
    by_cases (suc c) p o q = not_there (inr (omega arith))

-- The lowest wire left over is found.
pub left_found : (types : List Wire) (gone : List ℕ)
    → Finds (λ w. (w < length types) × (count w gone ≡ 0)) (lowest_left types gone)
left_found types gone =
    finds_same
    (Passing test 0 (length types))
    (λ w. (w < length types) × (count w gone ≡ 0))
    (λ w h. is_left w (test w) (is_it_there types gone w) h.2)
    (λ w h. (omega arith, omega (arith, h.0), passes w (test w) (is_it_there types gone w) h))
    (lowest_left types gone)
    (where_found test (length types) 0)
  where
    test : ℕ → Bool
    test w = is_there (there types gone w)

    is_left : (w : ℕ) (b : Bool) → There types gone w b → b ≡ true → (w < length types) × (count w gone ≡ 0)
    is_left w _ (is_there_lem h c) e = (h, c)
    is_left w _ (not_there h) e = absurd (true≢false (sym e))

    passes : (w : ℕ) (b : Bool) → There types gone w b → (w < length types) × (count w gone ≡ 0) → b ≡ true
    passes w _ (is_there_lem h c) k = refl
    passes w _ (not_there (inl h)) k = let l = k.0 in absurd (omega arith)
    passes w _ (not_there (inr h)) k = let l = k.1 in absurd (omega arith)

-- The slots take wires that are there, of their types. For the slots behind it a slot's wire is gone.
pub data TakesRightly (types : List Wire) : List ℕ → List ℕ → List Wire → Type 0 where
  no_slot : {gone : List ℕ} → TakesRightly types gone [] []
  next_slot : {gone : List ℕ} {w : ℕ} {ws : List ℕ} {α : Wire} {αs : List Wire}
      → nth types w ≡ some α
      → count w gone ≡ 0
      → TakesRightly types (w ∷ gone) ws αs
      → TakesRightly types gone (w ∷ ws) (α ∷ αs)

wire_not_wrong : {types : List Wire} {gone : List ℕ} {w : ℕ} {α : Wire}
    → nth types w ≡ some α → count w gone ≡ 0 → WrongWire types gone w α → ⊥
wire_not_wrong {types} {w = w} p c (not_made h) = omega (arith, nth_some_within types w p)
wire_not_wrong {α = α} p c (other_type {β = β} q f) = f (some-injective β α (sym q ∙ p))
wire_not_wrong p c (gone_already h) = omega arith

pub rightly_not_wrongly : {types : List Wire} {gone ws : List ℕ} {αs : List Wire}
    → TakesRightly types gone ws αs → TakesWrongly types gone ws αs → ⊥
rightly_not_wrongly {types = types} (no_slot {gone = gone}) t = elim t [ ]
rightly_not_wrongly (next_slot p c r) (this_slot h) = wire_not_wrong p c h
rightly_not_wrongly (next_slot p c r) (later_slot t) = rightly_not_wrongly r t

-- What the test for the wire of a slot says.
data Slot (types : List Wire) (gone : List ℕ) (w : ℕ) (α : Wire) : Bool → Type 0 where
  fitting : nth types w ≡ some α → count w gone ≡ 0 → Slot types gone w α true
  unfitting : WrongWire types gone w α → Slot types gone w α false

code_injective : (α β : Wire) → wire_code α ≡ wire_code β → α ≡ β
code_injective Bit Bit e = refl
code_injective Bit Qubit e = absurd (omega arith)
code_injective Qubit Bit e = absurd (omega arith)
code_injective Qubit Qubit e = refl

does_it_fit : (types : List Wire) (gone : List ℕ) (w : ℕ) (α : Wire)
    → Slot types gone w α (is_of_type α (there types gone w))
does_it_fit types gone w α = by_cases (count w gone) refl (nth types w) refl
  where
    by_type : count w gone ≡ 0 → (β : Wire) → nth types w ≡ some β
        → (b : Bool) → Compared (wire_code α) (wire_code β) b
        → Slot types gone w α b
    by_type p β q _ (equal e) = fitting (q ∙ ap some (sym (code_injective α β e))) p
    by_type p β q _ (unequal f) = unfitting (other_type q (λ e. f (ap wire_code (sym e))))

    by_cases : (c : ℕ) → count w gone ≡ c → (o : Option Wire) → nth types w ≡ o
        → Slot types gone w α (is_of_type α (if_none c o))
    by_cases zero p none q = unfitting (not_made (beyond types w q))
    by_cases zero p (some β) q =
        by_type p β q (eqb (wire_code α) (wire_code β)) (compared (wire_code α) (wire_code β))
    by_cases (suc c) p o q = unfitting (gone_already (omega arith))

-- What the test for the wires of as many slots says.
pub data Taking (types : List Wire) (gone ws : List ℕ) (αs : List Wire) : Bool → Type 0 where
  rightly : TakesRightly types gone ws αs → Taking types gone ws αs true
  wrongly : TakesWrongly types gone ws αs → Taking types gone ws αs false

pub how_taken : (types : List Wire) (gone ws : List ℕ) (αs : List Wire) → length ws ≡ length αs
    → Taking types gone ws αs (all_there types gone ws αs)
how_taken types gone [] [] e = rightly no_slot
how_taken types gone [] (α ∷ αs) e = absurd (omega arith)
how_taken types gone (w ∷ ws) [] e = absurd (omega arith)
how_taken types gone (w ∷ ws) (α ∷ αs) e =
    both
    (is_of_type α (there types gone w))
    (does_it_fit types gone w α)
    (all_there types (w ∷ gone) ws αs)
    (how_taken types (w ∷ gone) ws αs (omega arith))
  where
    both : (a : Bool) → Slot types gone w α a
        → (b : Bool) → Taking types (w ∷ gone) ws αs b
        → Taking types gone (w ∷ ws) (α ∷ αs) (a && b)
    both _ (fitting p c) _ (rightly r) = rightly (next_slot p c r)
    both _ (fitting p c) _ (wrongly t) = wrongly (later_slot t)
    both _ (unfitting h) b t = wrongly (this_slot h)

-- The same for a gate that is known: the table says how many wires it takes.
pub how_gate_takes : (types : List Wire) (gone : List ℕ) (n : ℕ) (ws : List ℕ) → length ws ≡ wires_in n
    → Taking types gone ws (input_wires (gate_type n)) (all_there types gone ws (input_wires (gate_type n)))
unfolding wires_in
how_gate_takes types gone n ws e = how_taken types gone ws (input_wires (gate_type n)) e

-- A gate that is wrong is one of the gates; one before the newest is wrong among those before it.
wrong_within : {I : List Wire} {gs : List Gate} {i : ℕ} → WrongGate I gs i → i < length gs
wrong_within (the_newest t) = omega arith
wrong_within (an_older h) = let l = wrong_within h in omega arith

wrong_older : {I : List Wire} {g : Gate} {gs : List Gate} {i : ℕ}
    → WrongGate I (g ∷ gs) i → i < length gs → WrongGate I gs i
wrong_older (the_newest t) l = absurd (omega arith)
wrong_older (an_older h) l = h

wrong_not_newest : {I : List Wire} {n : ℕ} {ws : List ℕ} {gs : List Gate} {i : ℕ}
    → TakesRightly (I ++ outputs gs) (taken gs) ws (input_wires (gate_type n))
    → WrongGate I ((n on ws) ∷ gs) i
    → WrongGate I gs i
wrong_not_newest r (the_newest t) = absurd (rightly_not_wrongly r t)
wrong_not_newest r (an_older h) = h

-- The first gate that takes a wire wrongly is found.
pub gates_found : (I : List Wire) (gs : List Gate) → KnownGates gs → Finds (WrongGate I gs) (first_wrong_gate I gs)
gates_found I [] k = λ i h. elim h [ ]
gates_found I ((n on ws) ∷ gs) k =
    newest
    (first_wrong_gate I gs)
    (gates_found I gs k.2)
    (all_there (I ++ outputs gs) (taken gs) ws (input_wires (gate_type n)))
    (how_gate_takes (I ++ outputs gs) (taken gs) n ws k.1)
  where
    newest : (o : Option ℕ) → Finds (WrongGate I gs) o
        → (b : Bool) → Taking (I ++ outputs gs) (taken gs) ws (input_wires (gate_type n)) b
        → Finds (WrongGate I ((n on ws) ∷ gs)) (or_else o (cond b none (some (length gs))))
    newest none f _ (rightly r) = λ i h. f i (wrong_not_newest r h)
    newest none f _ (wrongly t) =
        record { is_such = the_newest t; none_before = λ i l h. f i (wrong_older h l) }
    newest (some j) f b t =
        let s = wrong_within f.is_such in
        record {
          is_such = an_older f.is_such;
          none_before = λ i l h. f.none_before i l (wrong_older h (omega arith));
        }

-- The output that is k outputs behind output j is wrong.
abbrev WrongFrom : List Wire → List ℕ → List ℕ → ℕ → ℕ → Type 0
WrongFrom types gone ws j i = (k : ℕ) × (i ≡ j + k) × WrongOutput types gone ws k

no_output_wrong : {types : List Wire} {gone : List ℕ} {k : ℕ} → WrongOutput types gone [] k → ⊥
no_output_wrong h = elim h [ ]

wrong_behind : {types : List Wire} {gone : List ℕ} {w : ℕ} {ws : List ℕ} (j i k : ℕ)
    → w < length types → count w gone ≡ 0
    → i ≡ j + k → WrongOutput types gone (w ∷ ws) k
    → WrongFrom types (w ∷ gone) ws (suc j) i
wrong_behind j i _ h c e (this_output (inl l)) = absurd (omega arith)
wrong_behind j i _ h c e (this_output (inr l)) = absurd (omega arith)
wrong_behind j i _ h c e (later_output {j = k} r) = (k, omega arith, r)

outputs_found_from : (types : List Wire) (ws gone : List ℕ) (j : ℕ)
    → Finds (WrongFrom types gone ws j) (first_wrong_output types gone j ws)
outputs_found_from types [] gone j = λ i h. no_output_wrong h.2
outputs_found_from types (w ∷ ws) gone j =
    of_test
    (is_there (there types gone w))
    (is_it_there types gone w)
    (first_wrong_output types (w ∷ gone) (suc j) ws)
    (outputs_found_from types ws (w ∷ gone) (suc j))
  where
    of_test : (b : Bool) → There types gone w b
        → (o : Option ℕ) → Finds (WrongFrom types (w ∷ gone) ws (suc j)) o
        → Finds (WrongFrom types gone (w ∷ ws) j) (cond b o (some j))
    of_test _ (is_there_lem h c) o f =
        finds_same
        (WrongFrom types (w ∷ gone) ws (suc j))
        (WrongFrom types gone (w ∷ ws) j)
        (λ i s. (suc s.0, omega (arith, s.1), later_output s.2))
        (λ i s. wrong_behind j i s.0 h c s.1 s.2)
        o
        f
    of_test _ (not_there h) o f =
        record {
          is_such = (0, omega arith, this_output h);
          none_before = λ i l s. omega (arith, l, s.1);
        }

-- The first wrong output is found.
pub outputs_found : (types : List Wire) (gone ws : List ℕ)
    → Finds (WrongOutput types gone ws) (first_wrong_output types gone 0 ws)
outputs_found types gone ws =
    finds_same
    (WrongFrom types gone ws 0)
    (WrongOutput types gone ws)
    (λ i s. subst (WrongOutput types gone ws) (omega (arith, s.1)) s.2)
    (λ i s. (i, omega arith, s))
    (first_wrong_output types gone 0 ws)
    (outputs_found_from types ws gone 0)

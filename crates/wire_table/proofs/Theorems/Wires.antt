-- `broken_at` gives the place where a wire rule is broken, and none exactly where each wire goes once to a gate or an output.
use Rattle.std.specs.Prelude.{ℕ, zero, suc, ◌+◌, ◌≤◌, ◌<◌, ◌≡◌, refl, ◌↔◌, Bool, true, false, cond, List, [], ◌∷◌, ◌++◌, T as Truth, eqb, ltb, length}
use Rattle.std.proofs.Common.{ap, ◌∙◌, subst, inl, inr, append-nil, arith, length-append, ltb-true, ltb-false, lt-ltb, le-ltb}
use Rattle.std.proofs.Math.Option.{Option, none, some, some-injective}
use Rattle.rules.specs.Types.{Wire, Ty}
use Rattle.rules.specs.Gates.{GateType, ◌to◌, gate_type, gate_outputs, is_some, is_gate, input_wires, wires_in}
use Rattle.rules.specs.Terms.{Gate, ◌on◌}
use Rattle.rules.specs.Circuits.{outputs, taken, one_if, count, OfTypes, wires_end, next_wire, TakesEarlier, no_gate}
use Rattle.rules.specs.Circuits.{next_gate}
use Rattle.rules.proofs.Laws.Wires.{Compared, equal, unequal, compared, one_if_equal, count_append}
use Rattle.rules.proofs.Laws.Appending.{made_once}
use Rattle.rules.proofs.Laws.KnownGates.{KnownGates}
use Rattle.wire_table.specs.Wires.{there, is_there, all_there, or_else, placed, first_wrong_gate, first_wrong_output}
use Rattle.wire_table.specs.Wires.{lowest_left, maker, broken_at}
use Rattle.wire_table.specs.WireRules.{GoesOnce, TakesWrongly, WrongGate, the_newest, an_older, WrongOutput}
use Rattle.wire_table.specs.WireRules.{this_output, later_output, LeftOver, Makes, an_input, newest_makes, older_makes}
use Rattle.wire_table.specs.WireRules.{NoSuch, BrokenAt, at_gate, at_output, at_maker}
use Rattle.wire_table.proofs.Laws.Finding.{Finds, found_first, found_none, There, is_there_lem, not_there, is_it_there}
use Rattle.wire_table.proofs.Laws.Finding.{left_found, TakesRightly, no_slot, next_slot, rightly_not_wrongly, Taking}
use Rattle.wire_table.proofs.Laws.Finding.{rightly, wrongly, how_gate_takes, gates_found, outputs_found}

-- A gate leaves the wires made before it.
grows : (I : List Wire) (g : Gate) (gs : List Gate) → length (I ++ outputs gs) ≤ length (I ++ outputs (g ∷ gs))
grows I (n on ws) gs =
    omega (
      arith,
      length-append I (outputs gs),
      length-append I (outputs gs ++ gate_outputs n),
      length-append (outputs gs) (gate_outputs n),
    )

-- Each wire made has one maker, and `maker` gives it.
makes_below : {I : List Wire} {gs : List Gate} {w e : ℕ} → Makes I gs w e → w < length (I ++ outputs gs)
makes_below {I} (an_input h) = rw (append-nil I) h
makes_below (newest_makes h k) = k
makes_below {I} (older_makes {g = g} {gs = gs} m) = omega (arith, makes_below m, grows I g gs)

maker_makes : (I : List Wire) (gs : List Gate) (w : ℕ) → w < length (I ++ outputs gs) → Makes I gs w (maker I gs w)
maker_makes I [] w h = an_input (rw (append-nil I) at h)
maker_makes I (g ∷ gs) w h = of_test (ltb w (length (I ++ outputs gs))) refl (λ l. maker_makes I gs w l)
  where
    of_test : (b : Bool) → ltb w (length (I ++ outputs gs)) ≡ b
        → (w < length (I ++ outputs gs) → Makes I gs w (maker I gs w))
        → Makes I (g ∷ gs) w (cond b (maker I gs w) (length I + length gs))
    of_test true e older = older_makes (older (ltb-true w (length (I ++ outputs gs)) e))
    of_test false e older = newest_makes (ltb-false w (length (I ++ outputs gs)) e) h

makes_maker : {I : List Wire} {gs : List Gate} {w e : ℕ} → Makes I gs w e → maker I gs w ≡ e
makes_maker (an_input h) = refl
makes_maker {I} {w = w} (newest_makes {gs = gs} h k) =
    ap (λ b. cond b (maker I gs w) (length I + length gs)) (le-ltb w (length (I ++ outputs gs)) h)
makes_maker {I} {w = w} (older_makes {gs = gs} m) =
    ap
    (λ b. cond b (maker I gs w) (length I + length gs))
    (lt-ltb w (length (I ++ outputs gs)) (makes_below m))
    ∙ makes_maker m

-- Slots take wires rightly exactly if the wires have their types and none is taken that is gone.
rightly_typed : {types : List Wire} {gone ws : List ℕ} {αs : List Wire}
    → TakesRightly types gone ws αs → OfTypes types ws αs
rightly_typed no_slot = wires_end
rightly_typed (next_slot p c r) = next_wire p (rightly_typed r)

once_more : (x : ℕ) (gone : List ℕ) → count x gone ≡ 0 → ((w : ℕ) → count w gone ≤ 1)
    → (w : ℕ) → count w (x ∷ gone) ≤ 1
once_more x gone c once w = of_test (eqb w x) (compared w x)
  where
    of_test : (b : Bool) → Compared w x b → one_if b + count w gone ≤ 1
    of_test _ (equal e) = let z : count w gone ≡ 0 = ap (λ v. count v gone) e ∙ c in omega arith
    of_test _ (unequal f) = omega (arith, once w)

rightly_once : {types : List Wire} {gone ws : List ℕ} {αs : List Wire}
    → TakesRightly types gone ws αs
    → ((w : ℕ) → count w gone ≤ 1)
    → (w : ℕ) → count w ws + count w gone ≤ 1
rightly_once no_slot once w = omega (arith, once w)
rightly_once (next_slot {gone = gone} {w = x} p c r) once w =
    omega (arith, rightly_once r (once_more x gone c once) w)

typed_rightly : {types : List Wire} {ws : List ℕ} {αs : List Wire}
    → OfTypes types ws αs
    → (gone : List ℕ) → ((w : ℕ) → count w ws + count w gone ≤ 1)
    → TakesRightly types gone ws αs
typed_rightly wires_end gone once = no_slot
typed_rightly (next_wire {w = x} p o) gone once =
    next_slot
    {gone = gone}
    p
    (omega (arith, once x, one_if_equal x x refl))
    (typed_rightly o (x ∷ gone) (λ w. omega (arith, once w)))

-- No gate takes a wire wrongly exactly if each takes earlier wires of its types and no wire is taken twice.
newest_rightly : (I : List Wire) (n : ℕ) (ws : List ℕ) (gs : List Gate)
    → length ws ≡ wires_in n
    → NoSuch (WrongGate I ((n on ws) ∷ gs))
    → TakesRightly (I ++ outputs gs) (taken gs) ws (input_wires (gate_type n))
newest_rightly I n ws gs l no_wrong =
    of_test
    (all_there (I ++ outputs gs) (taken gs) ws (input_wires (gate_type n)))
    (how_gate_takes (I ++ outputs gs) (taken gs) n ws l)
  where
    of_test : (b : Bool) → Taking (I ++ outputs gs) (taken gs) ws (input_wires (gate_type n)) b
        → TakesRightly (I ++ outputs gs) (taken gs) ws (input_wires (gate_type n))
    of_test _ (rightly r) = r
    of_test _ (wrongly t) = absurd (no_wrong (length gs) (the_newest t))

gate_types : (n : ℕ) → Truth (is_gate n) → (T : Ty) × (U : Ty) × (gate_type n ≡ some (T to U))
unfolding is_gate
gate_types n h = by_cases (gate_type n) refl h
  where
    by_cases : (o : Option GateType) → gate_type n ≡ o → Truth (is_some o)
        → (T : Ty) × (U : Ty) × (gate_type n ≡ some (T to U))
    by_cases none e k = absurd k
    by_cases (some (T to U)) e k = (T, U, e)

right_takes_earlier : (I : List Wire) (gs : List Gate) → KnownGates gs → NoSuch (WrongGate I gs) → TakesEarlier I gs
right_takes_earlier I [] k no_wrong = no_gate
right_takes_earlier I ((n on ws) ∷ gs) k no_wrong =
    let t = gate_types n k.0 in
    let o = rightly_typed (newest_rightly I n ws gs k.1 no_wrong) in
    next_gate
    t.2
    (subst (λ g. OfTypes (I ++ outputs gs) ws (input_wires g)) t.2 o)
    (right_takes_earlier I gs k.2 (λ i h. no_wrong i (an_older h)))

right_taken_once : (I : List Wire) (gs : List Gate) → KnownGates gs → NoSuch (WrongGate I gs)
    → (w : ℕ) → count w (taken gs) ≤ 1
right_taken_once I [] k no_wrong w = omega arith
right_taken_once I ((n on ws) ∷ gs) k no_wrong w =
    omega (
      arith,
      count_append w ws (taken gs),
      rightly_once
          (newest_rightly I n ws gs k.1 no_wrong)
          (right_taken_once I gs k.2 (λ i h. no_wrong i (an_older h)))
          w,
    )

sound_right : {I : List Wire} {gs : List Gate} {i : ℕ}
    → WrongGate I gs i → TakesEarlier I gs → ((w : ℕ) → count w (taken gs) ≤ 1) → ⊥
sound_right {I} (the_newest {ws = ws} {gs = gs} t) (next_gate e o earlier) once =
    rightly_not_wrongly
    (typed_rightly o (taken gs) (λ w. omega (arith, once w, count_append w ws (taken gs))))
    (subst (λ g. TakesWrongly (I ++ outputs gs) (taken gs) ws (input_wires g)) e t)
sound_right (an_older h) (next_gate {ws = ws} {gs = gs} e o earlier) once =
    sound_right h earlier (λ w. omega (arith, once w, count_append w ws (taken gs)))

-- No output is wrong exactly if each has been made and none is gone, to a gate or to another output.
first_right : (types : List Wire) (gone : List ℕ) (x : ℕ) (ws : List ℕ)
    → NoSuch (WrongOutput types gone (x ∷ ws))
    → (x < length types) × (count x gone ≡ 0)
first_right types gone x ws no_wrong = of_test (is_there (there types gone x)) (is_it_there types gone x)
  where
    of_test : (b : Bool) → There types gone x b → (x < length types) × (count x gone ≡ 0)
    of_test _ (is_there_lem h c) = (h, c)
    of_test _ (not_there h) = absurd (no_wrong 0 (this_output h))

outputs_once : (types : List Wire) (ws gone : List ℕ)
    → NoSuch (WrongOutput types gone ws)
    → ((w : ℕ) → count w gone ≤ 1)
    → (w : ℕ) → count w ws + count w gone ≤ 1
outputs_once types [] gone no_wrong once w = omega (arith, once w)
outputs_once types (x ∷ ws) gone no_wrong once w =
    omega (
      arith,
      outputs_once
          types
          ws
          (x ∷ gone)
          (λ j h. no_wrong (suc j) (later_output h))
          (once_more x gone (first_right types gone x ws no_wrong).1 once)
          w,
    )

outputs_made : (types : List Wire) (ws gone : List ℕ)
    → NoSuch (WrongOutput types gone ws)
    → (w : ℕ) → 1 ≤ count w ws → w < length types
outputs_made types [] gone no_wrong w h = absurd (omega arith)
outputs_made types (x ∷ ws) gone no_wrong w h =
    of_test
    (eqb w x)
    (compared w x)
    h
    (λ l. outputs_made types ws (x ∷ gone) (λ j s. no_wrong (suc j) (later_output s)) w l)
  where
    of_test : (b : Bool) → Compared w x b → 1 ≤ one_if b + count w ws
        → (1 ≤ count w ws → w < length types)
        → w < length types
    of_test _ (equal e) k rest = omega (arith, (first_right types gone x ws no_wrong).0)
    of_test _ (unequal f) k rest = rest (omega arith)

made_right : {types : List Wire} {gone ws : List ℕ} {j : ℕ}
    → WrongOutput types gone ws j
    → ((w : ℕ) → 1 ≤ count w ws → w < length types)
    → ((w : ℕ) → count w ws + count w gone ≤ 1)
    → ⊥
made_right (this_output {w = x} (inl h)) made once =
    let e = one_if_equal x x refl in omega (arith, made x (omega arith))
made_right (this_output {w = x} (inr h)) made once = omega (arith, once x, one_if_equal x x refl)
made_right (later_output r) made once =
    made_right r (λ w h. made w (omega arith)) (λ w. omega (arith, once w))

-- None of what `broken_at` looks for is there, and this is so exactly if each wire goes once.
record NothingWrong (I : List Wire) (gs : List Gate) (outs : List ℕ) : Type 0 where
  no_wrong_gate : NoSuch (WrongGate I gs)
  no_wrong_output : NoSuch (WrongOutput (I ++ outputs gs) (taken gs) outs)
  nothing_left : NoSuch (LeftOver I gs outs)

right_goes_once : (I : List Wire) (gs : List Gate) (outs : List ℕ)
    → KnownGates gs → NothingWrong I gs outs → GoesOnce I gs outs
right_goes_once I gs outs known none_is =
    record {
      sound =
          record {
            made_once = made_once I gs;
            takes_earlier = right_takes_earlier I gs known none_is.no_wrong_gate;
            taken_once = right_taken_once I gs known none_is.no_wrong_gate;
          };
      outputs_made = outputs_made (I ++ outputs gs) outs (taken gs) none_is.no_wrong_output;
      gone_once = λ w h. of_count w h (count w (taken gs ++ outs)) refl;
    }
  where
    of_count : (w : ℕ) → w < length (I ++ outputs gs)
        → (c : ℕ) → count w (taken gs ++ outs) ≡ c
        → count w (taken gs ++ outs) ≡ 1
    of_count w h zero e = absurd (none_is.nothing_left w (h, e))
    of_count w h (suc c) e =
        omega (
          arith,
          count_append w (taken gs) outs,
          outputs_once
              (I ++ outputs gs)
              outs
              (taken gs)
              none_is.no_wrong_output
              (right_taken_once I gs known none_is.no_wrong_gate)
              w,
        )

goes_once_right : (I : List Wire) (gs : List Gate) (outs : List ℕ) → GoesOnce I gs outs → NothingWrong I gs outs
goes_once_right I gs outs goes =
    record {
      no_wrong_gate = λ i h. sound_right h goes.sound.takes_earlier goes.sound.taken_once;
      no_wrong_output = λ j h. made_right h goes.outputs_made (λ w. of_count w (count w outs) refl);
      nothing_left = λ w h. omega (arith, goes.gone_once w h.0, h.1);
    }
  where
    of_count : (w c : ℕ) → count w outs ≡ c → count w outs + count w (taken gs) ≤ 1
    of_count w zero e = omega (arith, goes.sound.taken_once w)
    of_count w (suc c) e =
        omega (arith, goes.gone_once w (goes.outputs_made w (omega arith)), count_append w (taken gs) outs)

-- The place that `broken_at` gives, by what its three searches give.
abbrev first_of : List Wire → List Gate → Option ℕ → Option ℕ → Option ℕ → Option ℕ
first_of I gs a b c =
    or_else (placed (λ i. length I + i) a)
    (or_else (placed (λ j. length I + length gs + j) b)
    (placed (maker I gs) c))

-- What the three searches find. The place is then where a rule is broken, and there is none exactly if nothing is wrong.
record Searched (I : List Wire) (gs : List Gate) (outs : List ℕ) (a b c : Option ℕ) : Type 0 where
  wrong_gate : Finds (WrongGate I gs) a
  wrong_output : Finds (WrongOutput (I ++ outputs gs) (taken gs) outs) b
  left_over : Finds (LeftOver I gs outs) c

found_broken : (I : List Wire) (gs : List Gate) (outs : List ℕ) (a b c : Option ℕ) → Searched I gs outs a b c
    → (p : ℕ) → first_of I gs a b c ≡ some p → BrokenAt I gs outs p
found_broken I gs outs (some i) b c s p e =
    subst (BrokenAt I gs outs) (some-injective (length I + i) p e) (at_gate s.wrong_gate)
found_broken I gs outs none (some j) c s p e =
    subst
    (BrokenAt I gs outs)
    (some-injective (length I + length gs + j) p e)
    (at_output s.wrong_gate s.wrong_output)
found_broken I gs outs none none (some w) s p e =
    subst
    (BrokenAt I gs outs)
    (some-injective (maker I gs w) p e)
    (at_maker s.wrong_gate s.wrong_output s.left_over (maker_makes I gs w s.left_over.is_such.0))
found_broken I gs outs none none none s p e = let z : ◌≡◌ {A = ℕ} 0 1 = cc in absurd (omega arith)

broken_found : (I : List Wire) (gs : List Gate) (outs : List ℕ) (a b c : Option ℕ) → Searched I gs outs a b c
    → (p : ℕ) → BrokenAt I gs outs p → first_of I gs a b c ≡ some p
broken_found I gs outs a b c s _ (at_gate {i = i} f) =
    rw (found_first (WrongGate I gs) a s.wrong_gate i f) refl
broken_found I gs outs a b c s _ (at_output {j = j} n f) =
    rw (
      found_none (WrongGate I gs) a s.wrong_gate n,
      found_first (WrongOutput (I ++ outputs gs) (taken gs) outs) b s.wrong_output j f,
    )
    refl
broken_found I gs outs a b c s _ (at_maker {w = w} n m f k) =
    rw (
      found_none (WrongGate I gs) a s.wrong_gate n,
      found_none (WrongOutput (I ++ outputs gs) (taken gs) outs) b s.wrong_output m,
      found_first (LeftOver I gs outs) c s.left_over w f,
    )
    (ap some (makes_maker k))

found_nothing : (I : List Wire) (gs : List Gate) (outs : List ℕ) (a b c : Option ℕ) → Searched I gs outs a b c
    → first_of I gs a b c ≡ none → NothingWrong I gs outs
found_nothing I gs outs none none none s e =
    record { no_wrong_gate = s.wrong_gate; no_wrong_output = s.wrong_output; nothing_left = s.left_over }
found_nothing I gs outs none none (some w) s e = let z : ◌≡◌ {A = ℕ} 0 1 = cc in absurd (omega arith)
found_nothing I gs outs none (some j) c s e = let z : ◌≡◌ {A = ℕ} 0 1 = cc in absurd (omega arith)
found_nothing I gs outs (some i) b c s e = let z : ◌≡◌ {A = ℕ} 0 1 = cc in absurd (omega arith)

nothing_found : (I : List Wire) (gs : List Gate) (outs : List ℕ) (a b c : Option ℕ) → Searched I gs outs a b c
    → NothingWrong I gs outs → first_of I gs a b c ≡ none
nothing_found I gs outs a b c s n =
    rw (
      found_none (WrongGate I gs) a s.wrong_gate n.no_wrong_gate,
      found_none (WrongOutput (I ++ outputs gs) (taken gs) outs) b s.wrong_output n.no_wrong_output,
      found_none (LeftOver I gs outs) c s.left_over n.nothing_left,
    )
    refl

-- 26: `broken_at` gives p exactly where a wire rule is broken at p, and none exactly where each wire goes once.
pub record WiresMean (I : List Wire) (gs : List Gate) (outs : List ℕ) : Type 0 where
  pub broken : (p : ℕ) → (broken_at I gs outs ≡ some p) ↔ BrokenAt I gs outs p
  pub whole : (broken_at I gs outs ≡ none) ↔ GoesOnce I gs outs

pub wires_mean : (I : List Wire) (gs : List Gate) (outs : List ℕ) → KnownGates gs → WiresMean I gs outs
unfolding broken_at
wires_mean I gs outs known =
    record {
      broken = λ p. (found_broken I gs outs a b c searched p, broken_found I gs outs a b c searched p);
      whole = (
        λ e. right_goes_once I gs outs known (found_nothing I gs outs a b c searched e),
        λ goes. nothing_found I gs outs a b c searched (goes_once_right I gs outs goes),
      );
    }
  where
    a : Option ℕ
    a = first_wrong_gate I gs

    b : Option ℕ
    b = first_wrong_output (I ++ outputs gs) (taken gs) 0 outs

    c : Option ℕ
    c = lowest_left (I ++ outputs gs) (taken gs ++ outs)

    searched : Searched I gs outs a b c
    searched =
        record {
          wrong_gate = gates_found I gs known;
          wrong_output = outputs_found (I ++ outputs gs) (taken gs) outs;
          left_over = left_found (I ++ outputs gs) (taken gs ++ outs);
        }

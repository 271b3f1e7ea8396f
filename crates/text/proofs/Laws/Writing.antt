-- Laws of specs/Writing.antt.
use Rattle.std.specs.Prelude.{ℕ, suc, ◌+◌, ◌≤◌, ◌<◌, ◌≡◌, List, [], ◌∷◌, ◌++◌, length, take, drop, set}
use Rattle.std.proofs.Common.{arith, sym, ◌∙◌, ap, ap₂, subst, append_assoc, append-nil, length-append, length-take, length-drop, drop_of_length-le, take_all, drop-cons}
use Rattle.std.proofs.Math.Seq.{take-nil, set-append_seam, take-append_seam}
use Rattle.std.proofs.lemmas.List.{take-append-le}
use Rattle.text.specs.Written.{Written}
use Rattle.text.specs.Writing.{Puts}

-- Nothing is written yet.
nothing_written : (l : List ℕ) → Written l [] l 0
nothing_written l = record { contents = sym (ap (λ k. k ++ l) (take-nil (length l))); place = omega arith }

-- The buffer keeps its length.
same_length : (l xs text : List ℕ) (at : ℕ) → Written l xs text at → length text ≡ length l
same_length l xs text at w =
    ap length w.contents
    ∙ omega (
      arith,
      length-append (take (length l) xs) (drop (length xs) l),
      length-take (length l) xs,
      length-drop (length xs) l,
    )

-- One byte is written, if there is room.
byte_written : (l xs text : List ℕ) (at b : ℕ)
    → Written l xs text at
    → at < length text
    → Written l (xs ++ (b ∷ [])) (set text at b) (at + 1)
byte_written l xs text at b w room =
    let same : length text ≡ length l = same_length l xs text at w in
    let here : at ≡ length xs = omega (arith, w.place) in
    let long : length (xs ++ (b ∷ [])) ≡ suc (length xs) = length-append xs (b ∷ []) ∙ omega arith in
    let all : take (length l) xs ≡ xs = take_all (length l) xs (omega arith) in
    let more : take (length l) (xs ++ (b ∷ [])) ≡ xs ++ (b ∷ []) = take_all (length l) (xs ++ (b ∷ [])) (omega arith) in
    record {
      contents =
          ap₂ (λ t k. set t k b) (w.contents ∙ ap (λ t. t ++ drop (length xs) l) all) here
          ∙ ap (λ t. set (xs ++ t) (length xs) b) (drop-cons l (length xs) 0 (omega arith))
          ∙ set-append_seam xs _ (drop (suc (length xs)) l) b
          ∙ sym (append_assoc xs (b ∷ []) (drop (suc (length xs)) l))
          ∙ ap₂ (λ s k. s ++ drop k l) (sym more) (sym long);
      place = omega (arith, w.place);
    }

-- Where there is none, it is lost.
byte_lost : (l xs text : List ℕ) (at b : ℕ)
    → Written l xs text at
    → length text ≤ at
    → Written l (xs ++ (b ∷ [])) text at
byte_lost l xs text at b w full =
    let same : length text ≡ length l = same_length l xs text at w in
    let long : length (xs ++ (b ∷ [])) ≡ suc (length xs) = length-append xs (b ∷ []) ∙ omega arith in
    let past : length l ≤ length xs = omega (arith, w.place) in
    let further : length l ≤ length (xs ++ (b ∷ [])) = omega arith in
    record {
      contents =
          w.contents
          ∙ ap₂
          ◌++◌
          (sym (take-append-le (length l) xs (b ∷ []) past))
          (drop_of_length-le l past ∙ sym (drop_of_length-le l further));
      place = omega (arith, w.place);
    }

pub puts_byte : (text : List ℕ) (at b : ℕ) → at < length text → Puts text at (b ∷ []) (set text at b) (at + 1)
puts_byte text at b room = record { behind = λ l xs w. byte_written l xs text at b w room }

pub puts_lost : (text : List ℕ) (at b : ℕ) → length text ≤ at → Puts text at (b ∷ []) text at
puts_lost text at b full = record { behind = λ l xs w. byte_lost l xs text at b w full }

-- No byte is written.
pub puts_none : (text : List ℕ) (at : ℕ) → Puts text at [] text at
puts_none text at = record { behind = λ l xs w. subst (λ ys. Written l ys text at) (sym (append-nil xs)) w }

-- Bytes are written, and others behind them.
pub puts_both : {text text' text'' xs ys : List ℕ} {at at' at'' : ℕ}
    → Puts text at xs text' at'
    → Puts text' at' ys text'' at''
    → Puts text at (xs ++ ys) text'' at''
puts_both {text'' = text''} {xs = xs} {ys = ys} {at'' = at''} p q =
    record {
      behind = λ l zs w.
          subst
          (λ us. Written l us text'' at'')
          (append_assoc zs xs ys)
          (q.behind l (zs ++ xs) (p.behind l zs w));
    }

-- The same bytes by another name.
pub puts_same : {text text' xs ys : List ℕ} {at at' : ℕ} → xs ≡ ys → Puts text at xs text' at' → Puts text at ys text' at'
puts_same {text = text} {text' = text'} {at = at} {at' = at'} e p = subst (λ zs. Puts text at zs text' at') e p

-- Bytes that are written first.
pub puts_first : {text text' xs : List ℕ} {at : ℕ} → Puts text 0 xs text' at → Written text xs text' at
puts_first {text = text} p = p.behind text [] (nothing_written text)

-- Bytes for which there is room all stand at the start.
pub all_written : {l xs text : List ℕ} {at : ℕ} → Written l xs text at → length xs ≤ length l → take at text ≡ xs
all_written {l} {xs} {at = at} w room =
    let here : at ≡ length xs = omega (arith, w.place) in
    ap₂ take here (w.contents ∙ ap (λ t. t ++ drop (length xs) l) (take_all (length l) xs room))
    ∙ take-append_seam xs (drop (length xs) l)

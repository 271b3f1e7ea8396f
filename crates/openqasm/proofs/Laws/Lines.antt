-- Laws of specs/Layout.antt: a line by its parts.
use Rattle.std.specs.Prelude.{ℕ, zero, suc, ◌≡◌, refl, not, ◌&&◌, List, [], ◌∷◌, ◌++◌, eqb}
use Rattle.std.proofs.Common.{arith, sym, ◌∙◌, ap, ap₂, append_assoc, append-nil, ne_eqb}
use Rattle.rules.specs.Types.{Wire, Qubit}
use Rattle.rules.specs.Gates.{Init, Discard, CCX}
use Rattle.listing.specs.Reading.{input_type}
use Rattle.text.specs.Text.{ascii, decimal, joined}
use Rattle.text.specs.Writing.{Puts}
use Rattle.text.proofs.Laws.Writing.{puts_both, puts_same}
use Rattle.openqasm.specs.Layout.{bit_register, declaration, has_statement, gate_line}

-- Which gates have no statement, by their numbers.
pub statement_told : (n : ℕ) → has_statement n ≡ not (eqb n Init) && not (eqb n Discard)
unfolding has_statement
statement_told zero = refl
statement_told (suc zero) = refl
statement_told (suc (suc zero)) = refl
statement_told (suc (suc (suc zero))) = refl
statement_told (suc (suc (suc (suc zero)))) = refl
statement_told (suc (suc (suc (suc (suc zero))))) = refl
statement_told (suc (suc (suc (suc (suc (suc zero)))))) = refl
statement_told (suc (suc (suc (suc (suc (suc (suc zero))))))) = refl
statement_told (suc (suc (suc (suc (suc (suc (suc (suc zero)))))))) = refl
statement_told (suc (suc (suc (suc (suc (suc (suc (suc (suc zero))))))))) = refl
statement_told (suc (suc (suc (suc (suc (suc (suc (suc (suc (suc zero)))))))))) = refl
statement_told (suc (suc (suc (suc (suc (suc (suc (suc (suc (suc (suc zero))))))))))) = refl
statement_told (suc (suc (suc (suc (suc (suc (suc (suc (suc (suc (suc (suc n)))))))))))) =
    let m = suc (suc (suc (suc (suc (suc (suc (suc (suc (suc (suc (suc n))))))))))) in
    sym (ap₂ (λ s t. not s && not t) (ne_eqb m Init (λ e. omega arith)) (ne_eqb m Discard (λ e. omega arith)))

-- Two registers with what stands between them and behind them; a line with three.
abbrev pub register_pair : ℕ → ℕ → List ℕ
register_pair r s = joined (decimal r ∷ ascii "[0],q" ∷ decimal s ∷ ascii "[0];\n" ∷ [])

abbrev pub three_line : List ℕ → ℕ → ℕ → ℕ → List ℕ
three_line before r s t = (before ++ decimal r) ++ (ascii "[0],q" ++ register_pair s t)

pub gate_ccx : (r s t : ℕ) → three_line (ascii "ccx q") r s t ≡ gate_line CCX (r ∷ s ∷ t ∷ [])
unfolding gate_line
gate_ccx r s t = append_assoc (ascii "ccx q") (decimal r) (ascii "[0],q" ++ register_pair s t)

-- The declarations of a Qubit are written.
pub puts_qubit : (k : ℕ) {t₀ t₁ t₂ : List ℕ} {at₀ at₁ at₂ : ℕ}
    → Puts t₀ at₀ (ascii "qreg q" ++ (decimal k ++ ascii "[1];\n")) t₁ at₁
    → Puts t₁ at₁ (bit_register k) t₂ at₂
    → Puts t₀ at₀ (declaration k Qubit) t₂ at₂
puts_qubit k p q =
    puts_same
    (append_assoc (ascii "qreg q") (decimal k ++ ascii "[1];\n") (bit_register k)
    ∙ ap (λ ys. ascii "qreg q" ++ ys) (append_assoc (decimal k) (ascii "[1];\n") (bit_register k))
    ∙ ap (λ ys. ascii "qreg q" ++ (decimal k ++ (ascii "[1];\n" ++ ys))) (sym (append-nil (bit_register k))))
    (puts_both p q)

-- The kind of an input tells its type.
pub puts_declared : (k kind : ℕ) (α : Wire) {t t' : List ℕ} {at at' : ℕ}
    → α ≡ input_type kind
    → Puts t at (declaration k α) t' at'
    → Puts t at (declaration k (input_type kind)) t' at'
puts_declared k kind α e p = puts_same (ap (declaration k) e) p

-- What stands behind a number is written behind its word and it.
pub puts_behind : (word number ys : List ℕ) {t₀ t₁ t₂ : List ℕ} {at₀ at₁ at₂ : ℕ}
    → Puts t₀ at₀ (word ++ number) t₁ at₁
    → Puts t₁ at₁ ys t₂ at₂
    → Puts t₀ at₀ (word ++ (number ++ ys)) t₂ at₂
puts_behind word number ys p q = puts_same (append_assoc word number ys) (puts_both p q)

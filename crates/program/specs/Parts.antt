-- The kinds of types and terms, each with the number of its parts (02, ticket 7).
use Rattle.std.specs.Prelude.{ℕ, ◌≡◌, List, ◌∷◌, length}
use Rattle.rules.specs.Types.{Ty, type_codes}
use Rattle.rules.specs.Terms.{Term}
use Rattle.rules.specs.Parts.{type_parts, term_parts}
use Rattle.program.specs.Encoding.{term_kinds}

-- 02, ticket 7: "that kind's number of parts". A file has the type or the term in preorder, so its own kind is the first.
pub data KindWith : ℕ → ℕ → Type 0 where
  of_type : {k : ℕ} {ks : List ℕ} (A : Ty) → type_codes A ≡ k ∷ ks → KindWith k (length (type_parts A))
  of_term : {k : ℕ} {ks : List ℕ} (M : Term) → term_kinds M ≡ k ∷ ks → KindWith k (length (term_parts M))

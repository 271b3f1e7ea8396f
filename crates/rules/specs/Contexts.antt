-- Evaluation contexts (000, definition 2.15). 01: "left part first, then right; never under abstraction or lift, nor in
-- let's second part".
use Rattle.std.specs.Prelude.{T as Truth}
use Rattle.rules.specs.Types.{Ty}
use Rattle.rules.specs.Terms.{Term, application, pair, let_in, force, box, apply, value}

-- 000: E ::= [·] | E M | V E | ⟨E, M⟩ | ⟨V, E⟩ | let ⟨x, y⟩ = E in N | force E | box_T E | apply(E, M) | apply(V, E).
pub data EvaluationContext : Type 0 where
  hole : EvaluationContext
  application_left : EvaluationContext → Term → EvaluationContext
  application_right : (W : Term) → Truth (value W) → EvaluationContext → EvaluationContext
  pair_left : EvaluationContext → Term → EvaluationContext
  pair_right : (W : Term) → Truth (value W) → EvaluationContext → EvaluationContext
  let_first : EvaluationContext → Term → EvaluationContext
  force_of : EvaluationContext → EvaluationContext
  box_of : Ty → EvaluationContext → EvaluationContext
  apply_left : EvaluationContext → Term → EvaluationContext
  apply_right : (W : Term) → Truth (value W) → EvaluationContext → EvaluationContext

-- E[M].
abbrev pub plug : EvaluationContext → Term → Term
plug hole M = M
plug (application_left E N) M = application (plug E M) N
plug (application_right W v E) M = application W (plug E M)
plug (pair_left E N) M = pair (plug E M) N
plug (pair_right W v E) M = pair W (plug E M)
plug (let_first E N) M = let_in (plug E M) N
plug (force_of E) M = force (plug E M)
plug (box_of T E) M = box T (plug E M)
plug (apply_left E N) M = apply (plug E M) N
plug (apply_right W v E) M = apply W (plug E M)

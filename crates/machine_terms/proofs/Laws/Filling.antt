-- The holes of the innermost frame as an evaluation context of the rules.
use Rattle.std.specs.Prelude.{ℕ, suc, ◌≡◌, refl, List, [], ◌∷◌, T as Truth, length}
use Rattle.std.proofs.Common.{◌∙◌, ap, ap₂}
use Rattle.rules.specs.Types.{Ty}
use Rattle.rules.specs.Terms.{Boxed, Term, value}
use Rattle.rules.specs.Circuits.{Circuit}
use Rattle.rules.specs.Steps.{frame}
use Rattle.rules.specs.Contexts.{EvaluationContext, hole, application_left, application_right, pair_left, pair_right}
use Rattle.rules.specs.Contexts.{let_first, force_of, box_of, apply_left, apply_right, plug}
use Rattle.machine_terms.specs.Trees.{kind, argument, Tree, one, two, OneKind, an_abstraction, a_lift, a_force, a_box}
use Rattle.machine_terms.specs.Trees.{one_kind, TwoKind, an_application, a_pair, a_let, an_apply, two_kind, WellKinded}
use Rattle.machine_terms.specs.Meaning.{Environment, environment, one_term, two_term, meaning}
use Rattle.machine_terms.specs.Holes.{Hole, only, first, second, opened, frame_tree, trees_below, waits, goes_right}
use Rattle.machine_terms.specs.Holes.{HoleFits, HolesFit}
use Rattle.machine_terms.specs.States.{frames_below}
use Rattle.machine_terms.proofs.Laws.Meanings.{value_of, meaning_more, well_kinded_more}

-- The innermost frame's term, with M in the place of the tree in hand.
abbrev pub around : Environment → List Hole → Term → Term
around e [] M = M
around e (only n ∷ hs) M = around e hs (one_term (one_kind (kind n)) (e.type_at (argument n)) M)
around e (first n u ∷ hs) M = around e hs (two_term (two_kind (kind n)) M (meaning e u))
around e (second n v ∷ hs) M = around e hs (two_term (two_kind (kind n)) (meaning e v) M)
around e (opened n b ∷ hs) M = M

-- The whole tree of the innermost frame means its term.
pub meaning_frame : (e : Environment) (hs : List Hole) (t : Tree)
    → meaning e (frame_tree hs t) ≡ around e hs (meaning e t)
meaning_frame e [] t = refl
meaning_frame e (only n ∷ hs) t = meaning_frame e hs (one n t)
meaning_frame e (first n u ∷ hs) t = meaning_frame e hs (two n t u)
meaning_frame e (second n v ∷ hs) t = meaning_frame e hs (two n v t)
meaning_frame e (opened n b ∷ hs) t = refl

-- Evaluation contexts, one hole around another.
abbrev only_context : (c : OneKind) → Truth (waits c) → Ty → EvaluationContext → EvaluationContext
only_context an_abstraction h A E = absurd h
only_context a_lift h A E = absurd h
only_context a_force h A E = force_of E
only_context a_box h A E = box_of A E

abbrev first_context : TwoKind → EvaluationContext → Term → EvaluationContext
first_context an_application E N = application_left E N
first_context a_pair E N = pair_left E N
first_context a_let E N = let_first E N
first_context an_apply E N = apply_left E N

abbrev second_context : (c : TwoKind)
    → Truth (goes_right c)
    → (W : Term)
    → Truth (value W)
    → EvaluationContext
    → EvaluationContext
second_context an_application h W v E = application_right W v E
second_context a_pair h W v E = pair_right W v E
second_context a_let h W v E = absurd h
second_context an_apply h W v E = apply_right W v E

plug_only : (c : OneKind) (h : Truth (waits c)) (A : Ty) (E : EvaluationContext) (R : Term)
    → one_term c A (plug E R) ≡ plug (only_context c h A E) R
plug_only an_abstraction h A E R = absurd h
plug_only a_lift h A E R = absurd h
plug_only a_force h A E R = refl
plug_only a_box h A E R = refl

plug_first : (c : TwoKind) (E : EvaluationContext) (N R : Term)
    → two_term c (plug E R) N ≡ plug (first_context c E N) R
plug_first an_application E N R = refl
plug_first a_pair E N R = refl
plug_first a_let E N R = refl
plug_first an_apply E N R = refl

plug_second : (c : TwoKind) (h : Truth (goes_right c)) (W : Term) (v : Truth (value W)) (E : EvaluationContext)
    (R : Term)
    → two_term c W (plug E R) ≡ plug (second_context c h W v E) R
plug_second an_application h W v E R = refl
plug_second a_pair h W v E R = refl
plug_second a_let h W v E R = absurd h
plug_second an_apply h W v E R = refl

module _ (e : Environment) (positions closed : ℕ) where
  -- The holes of the innermost frame around an evaluation context.
  abbrev outside_of : (hs : List Hole) → HolesFit positions closed hs → EvaluationContext → EvaluationContext
  outside_of [] fit E = E
  outside_of (only n ∷ hs) fit E =
      outside_of hs fit.1 (only_context (one_kind (kind n)) fit.0.1 (e.type_at (argument n)) E)
  outside_of (first n u ∷ hs) fit E =
      outside_of hs fit.1 (first_context (two_kind (kind n)) E (meaning e u))
  outside_of (second n v ∷ hs) fit E =
      outside_of hs fit.1
      (second_context (two_kind (kind n)) fit.0.1 (meaning e v) (value_of e v fit.0.3) E)
  outside_of (opened n b ∷ hs) fit E = E

  around_plug : (hs : List Hole) (fit : HolesFit positions closed hs) (E : EvaluationContext) (R : Term)
      → around e hs (plug E R) ≡ plug (outside_of hs fit E) R
  around_plug [] fit E R = refl
  around_plug (only n ∷ hs) fit E R =
      ap (around e hs) (plug_only (one_kind (kind n)) fit.0.1 (e.type_at (argument n)) E R)
      ∙ around_plug hs fit.1 (only_context (one_kind (kind n)) fit.0.1 (e.type_at (argument n)) E) R
  around_plug (first n u ∷ hs) fit E R =
      ap (around e hs) (plug_first (two_kind (kind n)) E (meaning e u) R)
      ∙ around_plug hs fit.1 (first_context (two_kind (kind n)) E (meaning e u)) R
  around_plug (second n v ∷ hs) fit E R =
      ap (around e hs)
      (plug_second (two_kind (kind n)) fit.0.1 (meaning e v) (value_of e v fit.0.3) E R)
      ∙ around_plug hs fit.1
      (second_context (two_kind (kind n)) fit.0.1 (meaning e v) (value_of e v fit.0.3) E)
      R
  around_plug (opened n b ∷ hs) fit E R = refl

  -- The evaluation context that the holes of the innermost frame are.
  abbrev pub evaluation_context : (hs : List Hole) → HolesFit positions closed hs → EvaluationContext
  evaluation_context hs fit = outside_of hs fit hole

  -- The holes around a term are that evaluation context with the term in it.
  pub around_context : (hs : List Hole) (fit : HolesFit positions closed hs) (M : Term)
      → around e hs M ≡ plug (evaluation_context hs fit) M
  around_context hs fit M = around_plug hs fit hole M

  -- A frame's term is the term of the tree in hand in that evaluation context.
  pub frame_is_plug : (hs : List Hole) (fit : HolesFit positions closed hs) (t : Tree)
      → meaning e (frame_tree hs t) ≡ plug (evaluation_context hs fit) (meaning e t)
  frame_is_plug hs fit t = meaning_frame e hs t ∙ around_context hs fit (meaning e t)

-- The whole tree of a frame is well-kinded.
pub frame_kinded : (positions closed : ℕ) (hs : List Hole) (t : Tree)
    → HolesFit positions closed hs
    → WellKinded positions closed t
    → WellKinded positions closed (frame_tree hs t)
frame_kinded positions closed [] t fit h = h
frame_kinded positions closed (only n ∷ hs) t fit h =
    frame_kinded positions closed hs (one n t) fit.1 (fit.0.0, h)
frame_kinded positions closed (first n u ∷ hs) t fit h =
    frame_kinded positions closed hs (two n t u) fit.1 (fit.0.0, h, fit.0.1)
frame_kinded positions closed (second n v ∷ hs) t fit h =
    frame_kinded positions closed hs (two n v t) fit.1 (fit.0.0, fit.0.2, h)
frame_kinded positions closed (opened n b ∷ hs) t fit h = h

hole_fits_more : (positions closed : ℕ) (h : Hole)
    → HoleFits positions closed h
    → HoleFits positions (suc closed) h
hole_fits_more positions closed (only n) fit = fit
hole_fits_more positions closed (first n u) fit = (fit.0, well_kinded_more positions closed u fit.1)
hole_fits_more positions closed (second n v) fit =
    (fit.0, fit.1, well_kinded_more positions closed v fit.2, fit.3)
hole_fits_more positions closed (opened n b) fit =
    (fit.0, fit.1, well_kinded_more positions closed b fit.2, fit.3)

-- When one more circuit is closed, holes that fit still fit.
pub holes_fit_more : (positions closed : ℕ) (hs : List Hole)
    → HolesFit positions closed hs
    → HolesFit positions (suc closed) hs
holes_fit_more positions closed [] fit = tt
holes_fit_more positions closed (h ∷ hs) fit =
    (hole_fits_more positions closed h fit.0, holes_fit_more positions closed hs fit.1)

module _ (types : ℕ → Ty) (b : Boxed) (bs : List Boxed) (positions : ℕ) where
  -- When one more circuit is closed, the holes around a term mean what they meant.
  pub around_more : (hs : List Hole) (M : Term)
      → HolesFit positions (length bs) hs
      → around (environment types (b ∷ bs)) hs M ≡ around (environment types bs) hs M
  around_more [] M fit = refl
  around_more (only n ∷ hs) M fit = around_more hs (one_term (one_kind (kind n)) (types (argument n)) M) fit.1
  around_more (first n u ∷ hs) M fit =
      ap (λ N. around (environment types (b ∷ bs)) hs (two_term (two_kind (kind n)) M N))
      (meaning_more types b bs positions u fit.0.1)
      ∙ around_more hs (two_term (two_kind (kind n)) M (meaning (environment types bs) u)) fit.1
  around_more (second n v ∷ hs) M fit =
      ap (λ N. around (environment types (b ∷ bs)) hs (two_term (two_kind (kind n)) N M))
      (meaning_more types b bs positions v fit.0.2)
      ∙ around_more hs (two_term (two_kind (kind n)) (meaning (environment types bs) v) M) fit.1
  around_more (opened n c ∷ hs) M fit = refl

  -- When one more circuit is closed, the frames below mean what they meant.
  pub frames_more : (hs : List Hole) (Cs : List Circuit)
      → HolesFit positions (length bs) hs
      → frames_below (environment types (b ∷ bs)) (trees_below hs) Cs
      ≡ frames_below (environment types bs) (trees_below hs) Cs
  frames_more [] Cs fit = refl
  frames_more (only n ∷ hs) Cs fit = frames_more hs Cs fit.1
  frames_more (first n u ∷ hs) Cs fit = frames_more hs Cs fit.1
  frames_more (second n v ∷ hs) Cs fit = frames_more hs Cs fit.1
  frames_more (opened n c ∷ hs) [] fit = refl
  frames_more (opened n c ∷ hs) (C ∷ Cs) fit =
      ap₂ (λ M X. frame C M ∷ X)
      (meaning_more types b bs positions (frame_tree hs (one n c))
      (frame_kinded positions (length bs) hs (one n c) fit.1 (fit.0.0, fit.0.2)))
      (frames_more hs Cs fit.1)

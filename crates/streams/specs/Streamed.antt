-- What is read from an input and written to an output, where their bytes are known.
use Rattle.std.specs.Prelude.{ℕ, ◌≤◌, ◌≡◌, List, length, take, IfSome, OnOk}
use Rattle.std.specs.declared.option.Option.{Option}
use Rattle.std.specs.declared.result.Result.{Result}
use Rattle.std.specs.Io.KnownBytes.{Appends, Consumes}

-- What is read is the first bytes of the input, so many, or all of them where there are fewer.
abbrev pub ReadsFirst : ℕ → Option (List ℕ) → List ℕ → Type 0
ReadsFirst most input read = IfSome input (λ all. read ≡ take most all)

-- The input loses the bytes that are read, at most so many, and no others; where nothing fails, they are so many, or all.
abbrev pub TakesFirst : {A E : Type 0} → ℕ → Result A E → Option (List ℕ) → Option (List ℕ) → Type 0
TakesFirst most result input rest = (read : List ℕ) × (length read ≤ most) × Consumes input rest read × OnOk result (ReadsFirst most input read)

-- The output grows by some of the first of these bytes, and by nothing else.
abbrev pub AppendsPart : Option (List ℕ) → Option (List ℕ) → List ℕ → Type 0
AppendsPart old new bytes = (size : ℕ) × Appends old new (take size bytes)

-- To read no more than the first bytes, so many, loses nothing.
abbrev pub NeedsFirst : (List ℕ → List ℕ) → ℕ → Type 0
NeedsFirst f most = (all : List ℕ) → f (take most all) ≡ f all

-- The output grows by f of all bytes of the input.
abbrev pub WritesAnswer : (List ℕ → List ℕ) → Option (List ℕ) → Option (List ℕ) → Option (List ℕ) → Type 0
WritesAnswer f input old new = IfSome input (λ all. Appends old new (f all))

-- Whatever fails: the output grows by a part of f of the input's first bytes, however many, and by nothing else.
abbrev pub WritesPart : (List ℕ → List ℕ) → Option (List ℕ) → Option (List ℕ) → Option (List ℕ) → Type 0
WritesPart f input old new = IfSome input (λ all. (size : ℕ) × AppendsPart old new (f (take size all)))

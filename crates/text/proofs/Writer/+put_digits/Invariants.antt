use Rattle.text.proofs.Writer.+put_digits.Given as goal

-- The measure is the number.
abbrev pub decreases-put_digits : goal.decreases-put_digits
decreases-put_digits l = l.n

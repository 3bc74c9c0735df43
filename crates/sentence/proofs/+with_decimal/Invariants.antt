use Rattle.sentence.proofs.+with_decimal.Given as goal

-- the number itself: the digits before the last one are those of its tenth part
abbrev pub decreases-with_decimal : goal.decreases-with_decimal
decreases-with_decimal l = l.n

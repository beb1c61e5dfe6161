-- How many samples a run takes: a strip of equal ends none, every other at most 15·(2·L − 1), and L is limited. Assumes nothing.
use Rattle.std.proofs.Common.{◌≡◌, ℕ, ◌*◌, ◌≤◌, Bool, true, false, List, [], ◌∷◌, length, refl, arith}
use lib.Ieee.{Float, eq}
use Rattle.limits.specs.Limits.{most_pieces}
use Rattle.halving.specs.Cover.{samples_for}
use Rattle.strips.specs.Strips.{Run, Worked, samples_of, samples_in}
use Rattle.strips.specs.Claim.{Each, EqualEnds, OtherEnds, TakesNone, Report, Demand3}

module _ (limit : ℕ) (few : limit ≤ most_pieces) where
  strip_at_most : (s : Worked) → (EqualEnds s → TakesNone s) → (OtherEnds s → samples_of s ≤ samples_for limit)
      → samples_of s ≤ samples_for most_pieces
  strip_at_most s none most = look (eq s.lower s.upper) refl
    where
      look : (b : Bool) → eq s.lower s.upper ≡ b → samples_of s ≤ samples_for most_pieces
      look true e = rw (none e).no_sample (omega arith)
      look false e = omega (arith, few, most e)

  strips_at_most : (strips : List Worked) → Each (λ s. EqualEnds s → TakesNone s) strips
      → Each (λ s. OtherEnds s → samples_of s ≤ samples_for limit) strips →
      samples_in strips ≤ samples_for most_pieces * length strips
  strips_at_most [] none most = omega arith
  strips_at_most (s ∷ strips) none most = omega (arith, strip_at_most s none.0 most.0, strips_at_most strips none.1 most.1)

-- what is reported of at most n strips
pub samples_at_most : (run : Run) (strips : List Worked) (report : Report) (entry exit : List Float) (n : ℕ) → run.limit ≤ most_pieces
    → length strips ≤ n →
    Demand3 run strips report entry exit → report.samples ≤ samples_for most_pieces * n
samples_at_most run strips report entry exit n few counted claim =
    rw claim.reported.samples_reported
    (omega (
      arith,
      counted,
      strips_at_most run.limit few strips claim.worked.equal_ends_take_none
          claim.worked.others_take_at_most,
    ))

-- The numbers that the program lends are enough for every limit that is accepted, so that no line is refused 2; and with one fewer some
-- would be (document 02, Paper 8: "no run needs more than 1,024 numbers of scratch; .. the program lends just that many"). Assumes nothing.
use Rattle.std.specs.Prelude.{Ok, Err}
use mathlib.Core.Path.{◌≡◌, ap}
use mathlib.Core.Bool.{Bool}
use Prim.Native.Nat.{ℕ, ◌*◌, ◌-◌, ◌≤◌}
use native.Mathlib.Omega.{arith}
use borrow.Author.Tests.{le-leb, lt-leb}
use Rattle.refusals.specs.Order.{refuse_unless}
use Rattle.refusals.specs.declared.Refusal.TheVariants.{Scratch}
use Rattle.limits.specs.Limits.{most_pieces, piece_numbers, scratch_numbers, limit_check, scratch_check}
use Rattle.limits.proofs.Accepted.{limit_within}

-- more is accepted too
pub enough : (L n : ℕ) → limit_check L ≡ Ok tt → scratch_numbers ≤ n → scratch_check L n ≡ Ok tt
unfolding scratch_check
enough L n h more = ap (λ (t : Bool). refuse_unless t Scratch) (le-leb (piece_numbers * L) n (omega (arith, (limit_within L h).1)))

pub one_fewer : scratch_check most_pieces (scratch_numbers - 1) ≡ Err Scratch
unfolding scratch_check
one_fewer = ap (λ (t : Bool). refuse_unless t Scratch) (lt-leb (piece_numbers * most_pieces) (scratch_numbers - 1) (omega arith))

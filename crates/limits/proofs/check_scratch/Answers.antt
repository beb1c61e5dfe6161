-- `limits::check_scratch` meets its contract: the numbers of L pieces are at most n where L is at most n over those of
-- one. Assumes nothing.
use mathlib.Core.Path.{◌≡◌, refl, sym}
use mathlib.Core.Bool.{Bool, true, false}
use Prim.Native.Nat.{ℕ, ◌*◌, ◌/◌}
use native.Mathlib.Omega.{arith}
use borrow.Author.Tests.{leb-true, leb-false, le-leb, lt-leb}
use lib.Dec.{leb}
use Rattle.limits.specs.Limits.{piece_numbers, scratch_check}
use Rattle.limits.proofs.check_scratch.Goals as goal

room_for : (L n : ℕ) → leb L (n / piece_numbers) ≡ leb (piece_numbers * L) n
room_for L n = by_test (leb L (n / piece_numbers)) refl
  where
    by_test : (b : Bool) → leb L (n / piece_numbers) ≡ b → b ≡ leb (piece_numbers * L) n
    by_test true h = sym (le-leb (piece_numbers * L) n (omega (arith, leb-true L (n / piece_numbers) h)))
    by_test false h = sym (lt-leb (piece_numbers * L) n (omega (arith, leb-false L (n / piece_numbers) h)))

pub returns : goal.returns
unfolding scratch_check
returns c = rw (c.refuse_unless.ensures, room_for)

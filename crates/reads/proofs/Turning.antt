-- Turns of a read each: the bytes that it brought are counted, and whether there is another turn, which is so where it brought a byte
-- and every write took all. Assumes nothing.
use mathlib.Core.Bool.{Bool, true, false, ◌&&◌, cond, true≢false}
use mathlib.Core.Path.{◌≡◌, refl, sym}
use Prim.Native.Nat.{ℕ, zero, suc, ◌+◌, ◌-◌, ◌<◌}
use native.Mathlib.Omega.{arith}
use borrow.Author.Tests.{le-leb}
use lib.Dec.{leb}
use Rattle.std.specs.Prelude.{Option, Some, None}
use Rattle.reads.specs.Reads.{brought, at_end, most_read}

pub some_brought : (n : ℕ) (all : Bool) → leb 1 n && all ≡ true → 0 < n
some_brought zero all e = absurd (true≢false (sym e))
some_brought (suc n) all e = omega arith

pub all_taken : (n : ℕ) (all : Bool) → leb 1 n && all ≡ true → all ≡ true
all_taken zero all e = absurd (true≢false (sym e))
all_taken (suc n) all e = rw (le-leb 1 (suc n) (omega arith)) at e

pub not_all_taken : (n : ℕ) (all : Bool) → leb 1 n && all ≡ false → 0 < n → all ≡ false
not_all_taken zero all e h = absurd (let z : ⊥ = omega arith in z)
not_all_taken (suc n) all e h = rw (le-leb 1 (suc n) (omega arith)) at e

pub none_at_end : (got : Option ℕ) → at_end got ≡ true → brought got ≡ 0
none_at_end (Some zero) e = refl
none_at_end (Some (suc n)) e = absurd (true≢false (sym e))
none_at_end None e = refl

pub some_not_end : (got : Option ℕ) → 0 < brought got → at_end got ≡ false
some_not_end (Some zero) h = absurd (let z : ⊥ = omega arith in z)
some_not_end (Some (suc n)) h = refl
some_not_end None h = refl

-- each turn that goes on has read a byte
pub fewer_left : (read n next : ℕ) (more again : Bool) → more ≡ true → read < most_read → next ≡ read + n → (again ≡ true → 0 < n)
    → most_read - next + cond again 1 0 < most_read - read + cond more 1 0
fewer_left read n next more true m l e h = let k = h refl in rw m (omega arith)
fewer_left read n next more false m l e h = rw m (omega arith)

-- `significant::worked` meets its contract: fives and tens, or twos and tens, in place of twos and fives. Assumes nothing.
use mathlib.Core.List.{List}
use mathlib.Core.Path.{◌≡◌, refl, sym}
use Prim.Native.Nat.{ℕ, ◌+◌, ◌-◌, ◌≤◌}
use native.Mathlib.Omega.{arith}
use lib.ListN.{length, take}
use lib.Seq.{length-take-le}
use Rattle.significant.proofs.Exact.{as_five, as_two, many_fives, many_tens, same_units}
use Rattle.significant.proofs.worked.Goals as goal

-- 33 + k of the digits
so_many : (l : List ℕ) (k : ℕ) → length l ≡ 1107 → k ≤ 1074 → length (take (33 + k) l) ≡ 33 + k
so_many l k e h = length-take-le (33 + k) l (omega (arith, e))

pub slice_bounds-spelled-end : goal.slice_bounds-spelled-end
slice_bounds-spelled-end c = sym (so_many _ (1074 - c.args.j) refl (omega arith))

pub spelled-requires : goal.spelled-requires
spelled-requires c =
    record {
      m_bound = (c.requires.0, omega arith, omega arith, c.requires.2, c.requires.3);
      digits_len = (so_many _ (1074 - c.args.j) refl (omega arith), omega arith, many_fives c.args.j (omega arith));
    }

pub returns-then-j-lt1074 : goal.returns-then-j-lt1074
returns-then-j-lt1074 c = same_units c.args.n _ _ _ _ (as_five c.args.m c.args.j (omega arith)) c.spelled.ensures

pub slice_bounds-spelled-end-2 : goal.slice_bounds-spelled-end-2
slice_bounds-spelled-end-2 c = sym (so_many _ (c.args.j - 1074) refl (omega arith))

pub spelled-requires-2 : goal.spelled-requires-2
spelled-requires-2 c =
    record {
      m_bound = (c.requires.0, omega arith, omega arith, c.requires.2, c.requires.3);
      digits_len = (so_many _ (c.args.j - 1074) refl (omega arith), omega arith, many_tens (c.args.j - 1074));
    }

pub returns : goal.returns
returns c = same_units c.args.n _ _ _ _ (as_two c.args.m c.args.j (omega arith)) c.spelled-2.ensures

-- `hexadecimal::put_figure` meets its contract: the digits still to come, with those that stand behind them, are the whole text. Assumes
-- nothing.
use mathlib.Core.List.{List, ◌++◌}
use mathlib.Core.Path.{◌≡◌, refl, sym, ap, ◌∙◌}
use Prim.Native.Nat.{ℕ, ◌+◌, ◌-◌}
use native.Mathlib.Omega.{arith}
use lib.ListN.{take}
use lib.Seq.{drop-set-lt}
use lib.Ieee.{Float}
use Rattle.hexadecimal.specs.Hex.{digits, printed_bits, figure_text}
use Rattle.hexadecimal.proofs.Printing.{behind, next_digit, before_kept, none_behind, all_printed}
use Rattle.hexadecimal.proofs.RoundTrip.{figure_length}
use Rattle.hexadecimal.proofs.put_figure.Goals as goal

start : (x : Float) (out : List ℕ) (n rest : ℕ) → rest ≡ printed_bits x → digits 16 (printed_bits x) ≡ digits 16 rest ++ behind out n 16
start x out n rest e = none_behind (printed_bits x) out n ∙ ap (λ (b : ℕ). digits 16 b ++ behind out n 16) (sym e)

printed : (x : Float) (out₀ out : List ℕ) (n k rest : ℕ) → k ≡ 0 → take n out ≡ take n out₀
    → digits 16 (printed_bits x) ≡ digits k rest ++ behind out n k → take (n + 16) out ≡ take n out₀ ++ figure_text x
unfolding figure_text
printed x out₀ out n k rest z e t = all_printed (digits 16 (printed_bits x)) out₀ out n k rest z e t

pub loop-k-init : goal.loop-k-init
loop-k-init c = (
  refl,
  start c.args.x c.args.out.now
      c.args.n c.printed_bits-rest.result c.printed_bits-rest.ensures,
  refl,
)

pub loop-k-preserved : goal.loop-k-preserved
loop-k-preserved c = let s = c.args in (
  before_kept s.out.now c.loop-k.out s.n (c.loop-k.k - 1) c.digit_letter.result
      c.loop-k.invariant.0,
  next_digit (digits 16 (printed_bits s.x)) c.loop-k.out s.n c.loop-k.k c.loop-k.rest
      c.digit_letter.result (omega arith) (omega arith) (omega arith) c.digit_letter.ensures c.loop-k.invariant.1,
  drop-set-lt
      (s.n + 16) c.loop-k.out (s.n + (c.loop-k.k - 1)) c.digit_letter.result (omega arith) ∙ c.loop-k.invariant.2,
)

pub returns : goal.returns
returns c = let s = c.args in
    record {
      ends = omega (arith, figure_length s.x);
      holds = printed s.x s.out.now c.loop-k.out s.n c.loop-k.k c.loop-k.rest (omega arith) c.loop-k.invariant.0
          c.loop-k.invariant.1;
      rest = c.loop-k.invariant.2;
    }

-- `tokens::past_spaces` meets its contract: a space in front changes no token. Assumes nothing.
use mathlib.Core.Path.{◌≡◌, ◌∙◌}
use native.Mathlib.Omega.{arith}
use borrow.Author.Tests.{eq-eqb, ne_eqb}
use lib.ListN.{length}
use Rattle.tokens.specs.Places.{is_space}
use Rattle.tokens.proofs.Bytes.{space_at}
use Rattle.tokens.proofs.Places.{run_on, run_stops, run_ends}
use Rattle.tokens.proofs.past_spaces.Goals as goal

pub returns-then-line-i-ne32 : goal.returns-then-line-i-ne32
returns-then-line-i-ne32 c =
    record {
      behind = omega arith;
      within = omega arith;
      same = c.loop-i.invariant.0;
      stops = λ _. c.if-line-i-ne32.true;
      place = run_stops is_space c.args.line.now _ _ c.loop-i.invariant.1 (omega arith) (ne_eqb _ _ c.if-line-i-ne32.true);
    }

pub loop-i-preserved : goal.loop-i-preserved
loop-i-preserved c = (
  c.loop-i.invariant.0 ∙ space_at c.args.line.now c.loop-i.i (omega arith) c.if-line-i-ne32.false,
  run_on is_space c.args.line.now _ _ c.loop-i.invariant.1 (omega arith) (eq-eqb _ _ c.if-line-i-ne32.false),
)

pub returns : goal.returns
returns c =
    let line = c.args.line.now in
    let e : c.loop-i.i ≡ length line = omega arith in
    let q = run_ends is_space line _ _ c.loop-i.invariant.1 (omega arith) in
    record {
      behind = omega arith;
      within = omega arith;
      same = cc c.loop-i.invariant.0;
      stops = λ h. absurd (omega arith);
      place = omega (arith, q);
    }

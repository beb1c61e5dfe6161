-- The tests are the definition's.
use mathlib.Core.Path.{sym, ◌∙◌}
use native.Mathlib.Omega.{arith}
use borrow.Author.Tests.{le-leb}
use Rattle.tokens.specs.Text.{text, codes}
use Rattle.arguments.proofs.asked_by.Goals as goal

pub returns-then-same_bytes : goal.returns-then-same_bytes
unfolding text codes
returns-then-same_bytes c =
    let n = c.args.count in
    let help = c.same_bytes in
    rw (le-leb 2 n (omega arith), le-leb n 2 (omega arith), sym help.ensures ∙ c.if-same_bytes.true)

pub returns-then-same_bytes-2 : goal.returns-then-same_bytes-2
unfolding text codes
returns-then-same_bytes-2 c =
    let n = c.args.count in
    let help = c.same_bytes in
    let version = c.same_bytes-2 in
    rw (
      le-leb 2 n (omega arith),
      le-leb n 2 (omega arith),
      sym help.ensures ∙ c.if-same_bytes.false,
      sym version.ensures
          ∙ c.if-same_bytes-2.true,
    )

pub returns : goal.returns
unfolding text codes
returns c =
    let n = c.args.count in
    let help = c.same_bytes in
    let version = c.same_bytes-2 in
    rw (
      le-leb 2 n (omega arith),
      le-leb n 2 (omega arith),
      sym help.ensures ∙ c.if-same_bytes.false,
      sym version.ensures
          ∙ c.if-same_bytes-2.false,
    )

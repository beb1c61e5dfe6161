-- `reading::end_form` meets its contract: by whether the form was read, a token is left, and the reading is spoiled. Assumes nothing.
use mathlib.Core.Bool.{true}
use mathlib.Core.Path.{◌≡◌}
use borrow.Author.Tests.{not-false}
use Rattle.reading.proofs.end_form.Goals as goal

pub returns-then-found : goal.returns-then-found
returns-then-found c =
    let e : c.args.c.ok ≡ true = not-false _ c.if-not-c.false in
    rw (e, c.next_token-found.ensures.first c.if-found.true) c.refused-then-found.ensures

pub returns-then-c : goal.returns-then-c
returns-then-c c =
    let e : c.args.c.ok ≡ true = not-false _ c.if-not-c.false in
    rw (e, c.next_token-found.ensures.none c.if-found.false, c.if-c.true)
    c.refused-then-c.ensures

pub returns : goal.returns
returns c =
    let e : c.args.c.ok ≡ true = not-false _ c.if-not-c.false in
    rw (e, c.next_token-found.ensures.none c.if-found.false, c.if-c.false)

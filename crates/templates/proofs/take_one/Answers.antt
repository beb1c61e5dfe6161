-- `templates::take_one` meets its contract: each case by its law. Assumes nothing.
use mathlib.Core.Path.{refl}
use Prim.Native.Nat.{◌<◌}
use native.Mathlib.Omega.{arith}
use borrow.Author.Tests.{not-true, not-false}
use Rattle.templates.proofs.Steps.{no_form_lem, none_left, one_read, word_place, as_is}
use Rattle.templates.proofs.take_one.Goals as goal

pub returns-then-not-c : goal.returns-then-not-c
returns-then-not-c c =
    no_form_lem c.args.line.now c.args.values.now c.args.c c.requires c.args.wanted.now (not-true _ c.if-not-c.true)

pub returns-then-found : goal.returns-then-found
returns-then-found c =
    as_is _ _ _ _ c.not_a_form.ensures refl
    (none_left c.args.line.now c.args.values.now c.args.c c.requires c.args.wanted.now
    (not-false _ c.if-not-c.false) c.next_token-found.result c.next_token-found.ensures c.if-found.true)

pub take_word-requires : goal.take_word-requires
take_word-requires c = (
  c.requires,
  word_place c.args.line.now c.args.values.now c.args.c c.requires c.args.wanted.now
      (not-false _ c.if-not-c.false) c.next_token-found.result c.next_token-found.ensures,
)

pub returns : goal.returns
returns c =
    as_is _ _ _ _ refl
    (one_read c.args.line.now c.args.values.now c.args.c c.requires c.args.wanted.now
    (not-false _ c.if-not-c.false) c.next_token-found.result c.next_token-found.ensures
    (let h : c.next_token-found.result.from < c.next_token-found.result.to = omega arith in h)) c.take_word.ensures

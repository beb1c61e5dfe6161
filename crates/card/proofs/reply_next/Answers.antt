-- `card::reply_next` meets its contract: what `feed` appended at the start of `out` is what is written. Assumes nothing.
use native.Mathlib.Omega.{arith}
use Rattle.card.proofs.Handing.{fed_steps}
use Rattle.card.proofs.reply_next.Goals as goal

pub feed-fed-requires : goal.feed-fed-requires
feed-fed-requires c =
    (record { bytes = c.requires.0.line; within = c.requires.0.within; engine = c.requires.3 }, omega arith)

pub shared_ref_as_front-write_all : goal.shared_ref_as_front-write_all
shared_ref_as_front-write_all c = let r = c.feed-fed.ensures.into.room in let a = c.feed-fed.auto.out in omega arith

pub returns : goal.returns
returns c =
    fed_steps _ _ c.args.chunk.now c.args.s c.requires.2 (omega arith) c.feed-fed.ensures _

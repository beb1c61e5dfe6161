-- `card::reply_last` meets its contract: what `finish` appended at the start of `out` is what is written. Assumes nothing.
use mathlib.Core.Path.{refl}
use native.Mathlib.Omega.{arith}
use Rattle.card.proofs.reply_last.Goals as goal

pub finish-written-requires : goal.finish-written-requires
finish-written-requires c =
    (record { bytes = c.requires.0; within = c.requires.1; engine = c.requires.2 }, omega arith)

pub shared_ref_as_front-write_all : goal.shared_ref_as_front-write_all
shared_ref_as_front-write_all c = let r = c.finish-written.ensures.room in let a = c.finish-written.auto.out in omega arith

pub returns : goal.returns
returns c =
    let f = c.finish-written.ensures in let e = f.appended.ends in let s = f.short in
    record {
      answers = λ begun k. record { answered = rw f.appended.holds (f.answers begun k) };
      short = omega arith;
      room = f.room;
      same_told = refl;
    }

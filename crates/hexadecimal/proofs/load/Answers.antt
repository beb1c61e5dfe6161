-- `hexadecimal::load` meets its contract: the word's bytes are the eight that were read. Assumes nothing.
use Rattle.hexadecimal.proofs.Words.{loaded}
use Rattle.hexadecimal.proofs.load.Goals as goal

pub returns : goal.returns
returns c =
    let c2 = c.before in let c3 = c2.before in let c4 = c3.before in let c5 = c4.before in let c6 = c5.before in let c7 = c6.before in
    loaded c.args.text.now c.args.at c.requires
    c.byte_at-8.ensures c.byte_at-7.ensures c.byte_at-6.ensures c.byte_at-5.ensures c.byte_at-4.ensures
    c.byte_at-3.ensures c.byte_at-2.ensures c.byte_at.ensures

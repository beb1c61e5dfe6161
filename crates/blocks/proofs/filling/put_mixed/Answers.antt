-- `blocks::filling::put_mixed` meets its contract: nothing where all are 0, and else the line. Assumes nothing.
use Rattle.tokens.specs.Text.{text, codes}
use Rattle.blocks.specs.Cards.{mixed_line}
use Rattle.blocks.proofs.Said.{line_asked, mixed_line_room, some_mixed}
use Rattle.blocks.proofs.filling.put_mixed.Goals as goal

pub put_plain-requires : goal.put_plain-requires
unfolding mixed_line text codes
put_plain-requires c =
    line_asked mixed_line 200 mixed_line_room _ _ c.requires

pub returns : goal.returns
unfolding mixed_line text codes
returns c =
    some_mixed _ _ c.args.figures.now _ _
    c.beside_from-xy.result c.beside_from-xz.result c.beside_from-yz.result c.all_zero.result
    c.beside_from-xy.ensures c.beside_from-xz.ensures c.beside_from-yz.ensures c.all_zero.ensures
    c.if-all_zero.false c.put_plain.ensures

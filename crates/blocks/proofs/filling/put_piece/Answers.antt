-- `blocks::filling::put_piece` meets its contract: each answer by the law of its case. Assumes nothing.
use mathlib.Core.Path.{sym, ◌∙◌}
use Rattle.blocks.proofs.Pieces.{no_figure_lem, figure_put, no_count, count_put, plain_put, figure_room, count_room, one_byte}
use Rattle.blocks.proofs.filling.put_piece.Goals as goal

pub returns-then-figures-i : goal.returns-then-figures-i
returns-then-figures-i c =
    let o = c.args.out.now in
    let p = c.args.p in
    let b = c.args.b in
    let fs = c.args.figures.now in
    let ns = c.args.counts.now in
    no_figure_lem o p b fs ns (sym c.is_figure_mark.ensures ∙ c.if-is_figure_mark.true) c.requires.counts_left c.requires.figures_left
    c.if-figures-i.true

pub put_figure-end-requires : goal.put_figure-end-requires
put_figure-end-requires c =
    let o = c.args.out.now in
    let p = c.args.p in
    let b = c.args.b in
    let fs = c.args.figures.now in
    let ns = c.args.counts.now in
    figure_room o p b fs ns c.requires (sym c.is_figure_mark.ensures ∙ c.if-is_figure_mark.true)

pub returns-then-is_figure_mark : goal.returns-then-is_figure_mark
returns-then-is_figure_mark c =
    let o = c.args.out.now in
    let p = c.args.p in
    let b = c.args.b in
    let fs = c.args.figures.now in
    let ns = c.args.counts.now in
    figure_put o p b fs ns (sym c.is_figure_mark.ensures ∙ c.if-is_figure_mark.true) c.requires.counts_left c.put_figure-end.new.out
    c.put_figure-end.result c.if-figures-i.false c.put_figure-end.ensures

pub returns-then-counts-j : goal.returns-then-counts-j
returns-then-counts-j c =
    let o = c.args.out.now in
    let p = c.args.p in
    let b = c.args.b in
    let fs = c.args.figures.now in
    let ns = c.args.counts.now in
    no_count o p b fs ns c.if-b-eq78.true c.requires.figures_left c.requires.counts_left c.if-counts-j.true

pub put_count-end-requires : goal.put_count-end-requires
put_count-end-requires c =
    let o = c.args.out.now in
    let p = c.args.p in
    let b = c.args.b in
    let fs = c.args.figures.now in
    let ns = c.args.counts.now in
    count_room o p b fs ns c.requires c.if-b-eq78.true

pub returns-then-b-eq78 : goal.returns-then-b-eq78
returns-then-b-eq78 c =
    let o = c.args.out.now in
    let p = c.args.p in
    let b = c.args.b in
    let fs = c.args.figures.now in
    let ns = c.args.counts.now in
    count_put o p b fs ns c.if-b-eq78.true c.requires.figures_left c.put_count-end.new.out c.put_count-end.result c.if-counts-j.false
    c.put_count-end.ensures

pub bounds-out-n : goal.bounds-out-n
bounds-out-n c =
    let o = c.args.out.now in
    let p = c.args.p in
    let b = c.args.b in
    let fs = c.args.figures.now in
    let ns = c.args.counts.now in
    one_byte o p b fs ns c.requires (sym c.is_figure_mark.ensures ∙ c.if-is_figure_mark.false) c.if-b-eq78.false

pub returns : goal.returns
returns c =
    let o = c.args.out.now in
    let p = c.args.p in
    let b = c.args.b in
    let fs = c.args.figures.now in
    let ns = c.args.counts.now in
    let x = sym c.is_figure_mark.ensures ∙ c.if-is_figure_mark.false in
    plain_put o p b fs ns x c.if-b-eq78.false c.requires.figures_left c.requires.counts_left
    (one_byte o p b fs ns c.requires x c.if-b-eq78.false)

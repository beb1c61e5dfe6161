-- `blocks::filling::put_mark` meets its contract: each answer by the law of its case. Assumes nothing.
use mathlib.Core.Path.{sym, ◌∙◌}
use Rattle.blocks.proofs.Pieces.{body_put, no_refusal, refusal_put, other_put, body_room, refusal_room, other_room}
use Rattle.blocks.proofs.filling.put_mark.Goals as goal

pub put_body-end-requires : goal.put_body-end-requires
put_body-end-requires c =
    let o = c.args.out.now in
    let p = c.args.p in
    let b = c.args.b in
    let fs = c.args.figures.now in
    let ns = c.args.counts.now in
    let i = c.requires.figures_left in
    let j = c.requires.counts_left in
    body_room o p b fs ns i j c.requires (sym c.is_body_mark.ensures ∙ c.if-is_body_mark.true)

pub returns-then-is_body_mark : goal.returns-then-is_body_mark
returns-then-is_body_mark c =
    let o = c.args.out.now in
    let p = c.args.p in
    let b = c.args.b in
    let fs = c.args.figures.now in
    let ns = c.args.counts.now in
    let i = c.requires.figures_left in
    let j = c.requires.counts_left in
    body_put o p b fs ns i j (sym c.is_body_mark.ensures ∙ c.if-is_body_mark.true) c.put_body-end.new.out c.put_body-end.result
    c.put_body-end.ensures

pub returns-then-counts-j : goal.returns-then-counts-j
returns-then-counts-j c =
    let o = c.args.out.now in
    let p = c.args.p in
    let b = c.args.b in
    let fs = c.args.figures.now in
    let ns = c.args.counts.now in
    let i = c.requires.figures_left in
    let j = c.requires.counts_left in
    no_refusal o p b fs ns i j c.if-b-eq82.true c.if-counts-j.true

pub put_refusal-end-requires : goal.put_refusal-end-requires
put_refusal-end-requires c =
    let o = c.args.out.now in
    let p = c.args.p in
    let b = c.args.b in
    let fs = c.args.figures.now in
    let ns = c.args.counts.now in
    let i = c.requires.figures_left in
    let j = c.requires.counts_left in
    refusal_room o p b fs ns i j c.requires c.if-b-eq82.true

pub returns-then-b-eq82 : goal.returns-then-b-eq82
returns-then-b-eq82 c =
    let o = c.args.out.now in
    let p = c.args.p in
    let b = c.args.b in
    let fs = c.args.figures.now in
    let ns = c.args.counts.now in
    let i = c.requires.figures_left in
    let j = c.requires.counts_left in
    refusal_put o p b fs ns i j c.if-b-eq82.true c.put_refusal-end.new.out c.put_refusal-end.result c.if-counts-j.false
    c.put_refusal-end.ensures

pub put_piece-requires : goal.put_piece-requires
put_piece-requires c =
    let o = c.args.out.now in
    let p = c.args.p in
    let b = c.args.b in
    let fs = c.args.figures.now in
    let ns = c.args.counts.now in
    let i = c.requires.figures_left in
    let j = c.requires.counts_left in
    other_room o p b fs ns i j c.requires (sym c.is_body_mark.ensures ∙ c.if-is_body_mark.false) c.if-b-eq82.false

pub returns : goal.returns
returns c =
    let o = c.args.out.now in
    let p = c.args.p in
    let b = c.args.b in
    let fs = c.args.figures.now in
    let ns = c.args.counts.now in
    let i = c.requires.figures_left in
    let j = c.requires.counts_left in
    other_put o p b fs ns i j (sym c.is_body_mark.ensures ∙ c.if-is_body_mark.false) c.if-b-eq82.false c.put_piece.new.out
    c.put_piece.result c.put_piece.ensures

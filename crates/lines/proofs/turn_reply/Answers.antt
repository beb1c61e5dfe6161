-- `lines::turn_reply` meets its contract: each arm knows its case. Assumes nothing.
use mathlib.Core.Path.{◌≡◌, sym, ap, ◌∙◌}
use Rattle.figures.specs.declared.Figures.{Figures}
use Rattle.engines.specs.declared.Turn.{Turn}
use Rattle.answers.specs.declared.Reply.{Reply}
use Rattle.lines.specs.Lines.{turn_reply}
use Rattle.lines.proofs.Served.{turn_served}
use Rattle.lines.proofs.turn_reply.Goals as goal

of_turn : (f : Figures) {turn known : Turn} {r : Reply} → turn ≡ known → r ≡ turn_reply known f → r ≡ turn_reply turn f
of_turn f e h = h ∙ ap (λ (t : Turn). turn_reply t f) (sym e)

pub returns-in-Short : goal.returns-in-Short
returns-in-Short c =
    turn_served c.turn-turn.ensures c.turn_row-row.ensures (of_turn _ c.in-Short.is c.refused_reply.ensures)

pub returns-in-Idle : goal.returns-in-Idle
returns-in-Idle c =
    turn_served c.turn-turn.ensures c.turn_row-row.ensures (of_turn _ c.in-Idle.is c.plain_reply.ensures)

pub returns-in-More : goal.returns-in-More
returns-in-More c =
    turn_served c.turn-turn.ensures c.turn_row-row.ensures (of_turn _ c.in-More.is c.count_reply.ensures)

pub returns-in-Ended : goal.returns-in-Ended
returns-in-Ended c =
    turn_served c.turn-turn.ensures c.turn_row-row.ensures (of_turn _ c.in-Ended.is c.done_reply.ensures)

-- `shown_lines::run` meets its contract: a run over the input whose lines are shown. Assumes nothing.
use Rattle.shown_lines.proofs.run.Goals as goal

pub returns : goal.returns
returns c =
    let r = c.run.ensures in let z = c.requires.1 in
    record {
      taken = r.taken;
      rest = r.rest;
      reads = r.reads;
      text = r.text;
      hands = r.hands;
      blocks = rw z at r.answers.shown.blocks;
      all = r.all;
      stops = r.stops;
      tells = record { holds = r.tells; room = r.room };
    }

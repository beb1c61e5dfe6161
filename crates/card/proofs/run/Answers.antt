-- `card::run` meets its contract: a run over the input whose lines are replied. Assumes nothing.
use Rattle.card.proofs.run.Goals as goal

pub returns : goal.returns
returns c =
    let r = c.run.ensures in
    record {
      taken = r.taken;
      rest = r.rest;
      reads = r.reads;
      text = r.text;
      hands = r.hands;
      answers = rw c.requires.2 at r.answers.answered;
      all = r.all;
      stops = r.stops;
      tells = record { holds = r.tells; room = r.room };
    }

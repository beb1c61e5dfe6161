-- `lines::answer_read` meets its contract: the answer is printed. Assumes nothing.
use mathlib.Core.Path.{ap}
use Rattle.answers.specs.Answers.{text_of}
use Rattle.lines.proofs.Texts.{same_text}
use Rattle.lines.proofs.answer_read.Goals as goal

pub returns : goal.returns
returns c =
    record {
      appended = same_text (ap text_of c.reply_line-reply.ensures.replies) c.put_reply.ensures;
      leaves_lent = c.reply_line-reply.ensures.left;
    }

-- `texts::put_bytes` meets its contract: the part behind the n bytes is the text, and the rest is as it was. Assumes nothing.
use Rattle.std.proofs.Common.{rules, refl}
use Rattle.std.proofs.lemmas.Slice.{overwrites}
use Rattle.texts.proofs.put_bytes.Goals as goal

pub returns : goal.returns
returns c = record { ends = refl; holds = search (rules, overwrites); rest = search (rules, overwrites) }

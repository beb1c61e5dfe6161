-- `screen_exports::delvouzh_engine_clear` meets its contract: there is no room, or the counts are cleared. Assumes nothing.
use Rattle.screen_exports.proofs.Laws.{clear_refused, clear_written}
use Rattle.screen_exports.proofs.delvouzh_engine_clear.Goals as goal

pub returns-then-engine_counts-lt-ENGINE_COUNTS : goal.returns-then-engine_counts-lt-ENGINE_COUNTS
returns-then-engine_counts-lt-ENGINE_COUNTS c = clear_refused _ c.if-engine_counts-lt-ENGINE_COUNTS.true

pub returns : goal.returns
returns c = clear_written _ _ c.if-engine_counts-lt-ENGINE_COUNTS.false c.clear.ensures

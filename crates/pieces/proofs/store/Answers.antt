-- `pieces::store` meets its contract: two stores and two parts of seven. Assumes nothing.
use Rattle.pieces.proofs.Storage.{sevens_stored}
use Rattle.pieces.proofs.store.Goals as goal

pub returns : goal.returns
returns c =
    sevens_stored c.args.s.now _ _ c.args.p c.requires c.store_seven.ensures
    c.store_seven-2.ensures

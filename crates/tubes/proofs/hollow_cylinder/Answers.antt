-- `tubes::hollow_cylinder` meets its contract: its tensor has a diagonal alone. Assumes nothing.
use Rattle.tubes.proofs.hollow_cylinder.Goals as goal

pub returns : goal.returns
returns c = rw c.symmetric-inertia_kg_m2.ensures

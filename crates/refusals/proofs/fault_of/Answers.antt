-- `refusals::fault_of` meets its contract, which goes by the same numbers. Assumes nothing.
use borrow.Author.Tests.{ne_eqb}
use Rattle.refusals.specs.Numbered.{fault_from}
use Rattle.refusals.proofs.fault_of.Goals as goal

pub returns-in-0 : goal.returns-in-0
unfolding fault_from
returns-in-0 c = rw c.in-0.is

pub returns-in-1 : goal.returns-in-1
unfolding fault_from
returns-in-1 c = rw c.in-1.is

pub returns-in-3 : goal.returns-in-3
unfolding fault_from
returns-in-3 c = rw c.in-3.is

pub returns-in_default : goal.returns-in_default
unfolding fault_from
returns-in_default c = let (((u, a), b), d) = c.in_default.in_default-own.rest in simp (ne_eqb _ _ a, ne_eqb _ _ b, ne_eqb _ _ d)

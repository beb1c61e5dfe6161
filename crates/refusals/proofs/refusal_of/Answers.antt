-- `refusals::refusal_of` meets its contract, which goes by the same numbers. Assumes nothing.
use borrow.Author.Tests.{ne_eqb}
use Rattle.refusals.specs.Numbered.{refusal_from}
use Rattle.refusals.proofs.refusal_of.Goals as goal

pub returns-in-1 : goal.returns-in-1
unfolding refusal_from
returns-in-1 c = rw c.in-1.is

pub returns-in-2 : goal.returns-in-2
unfolding refusal_from
returns-in-2 c = rw c.in-2.is

pub returns-in-3 : goal.returns-in-3
unfolding refusal_from
returns-in-3 c = rw c.in-3.is

pub returns-in-4 : goal.returns-in-4
unfolding refusal_from
returns-in-4 c = rw c.in-4.is

pub returns-in-5 : goal.returns-in-5
unfolding refusal_from
returns-in-5 c = rw c.in-5.is

pub returns-in-6 : goal.returns-in-6
unfolding refusal_from
returns-in-6 c = rw c.in-6.is

pub returns-in-7 : goal.returns-in-7
unfolding refusal_from
returns-in-7 c = rw c.in-7.is

pub returns-in-8 : goal.returns-in-8
unfolding refusal_from
returns-in-8 c = rw c.in-8.is

pub returns-in-9 : goal.returns-in-9
unfolding refusal_from
returns-in-9 c = rw c.in-9.is

pub returns-in-10 : goal.returns-in-10
unfolding refusal_from
returns-in-10 c = rw c.in-10.is

pub returns-in-11 : goal.returns-in-11
unfolding refusal_from
returns-in-11 c = rw c.in-11.is

pub returns-in-12 : goal.returns-in-12
unfolding refusal_from
returns-in-12 c = rw c.in-12.is

pub returns-in-13 : goal.returns-in-13
unfolding refusal_from
returns-in-13 c = rw c.in-13.is

pub returns-in-15 : goal.returns-in-15
unfolding refusal_from
returns-in-15 c = rw c.in-15.is

pub returns-in-16 : goal.returns-in-16
unfolding refusal_from
returns-in-16 c = rw c.in-16.is

pub returns-in-17 : goal.returns-in-17
unfolding refusal_from
returns-in-17 c = rw (c.in-17.is, c.fault_of.ensures)

pub returns-in-19 : goal.returns-in-19
unfolding refusal_from
returns-in-19 c = rw c.in-19.is

pub returns-in-20 : goal.returns-in-20
unfolding refusal_from
returns-in-20 c = rw c.in-20.is

pub returns-in-21 : goal.returns-in-21
unfolding refusal_from
returns-in-21 c = rw c.in-21.is

pub returns-in-22 : goal.returns-in-22
unfolding refusal_from
returns-in-22 c = rw c.in-22.is

pub returns-in-23 : goal.returns-in-23
unfolding refusal_from
returns-in-23 c = rw c.in-23.is

pub returns-in-24 : goal.returns-in-24
unfolding refusal_from
returns-in-24 c = rw c.in-24.is

pub returns-in-25 : goal.returns-in-25
unfolding refusal_from
returns-in-25 c = rw c.in-25.is

pub returns-in-26 : goal.returns-in-26
unfolding refusal_from
returns-in-26 c = rw c.in-26.is

pub returns-in_default : goal.returns-in_default
unfolding refusal_from
returns-in_default c =
    let (
      (
        (
          (
            (
              (((((((((((((((((((u, n1), n2), n3), n4), n5), n6), n7), n8), n9), n10), n11), n12), n13), n14), n15), n16), n17), n18), n19),
              n20,
            ),
            n21,
          ),
          n22,
        ),
        n23,
      ),
      n24,
    ) = c.in_default.in_default-own.rest in
    simp (
      ne_eqb _ _ n1,
      ne_eqb _ _ n2,
      ne_eqb _ _ n3,
      ne_eqb _ _ n4,
      ne_eqb _ _ n5,
      ne_eqb _ _ n6,
      ne_eqb _ _ n7,
      ne_eqb _ _ n8,
      ne_eqb _ _
          n9,
      ne_eqb _ _ n10,
      ne_eqb _ _ n11,
      ne_eqb _ _ n12,
      ne_eqb _ _ n13,
      ne_eqb _ _ n14,
      ne_eqb _ _ n15,
      ne_eqb _ _ n16,
      ne_eqb _ _ n17,
      ne_eqb _ _ n18,
      ne_eqb _ _ n19,
      ne_eqb _ _ n20,
      ne_eqb _ _ n21,
      ne_eqb _ _ n22,
      ne_eqb _ _ n23,
      ne_eqb _ _ n24,
    )

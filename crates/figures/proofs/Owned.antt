-- What owning a planform, or a set, tells of its numbers: each is an f64. Assumes nothing.
use mathlib.Core.List.{List}
use Prim.Native.Nat.{ℕ}
use lib.Dec.{T}
use lib.Ieee.{Float, binary64, fits}
use mir.Val.{Val}
use denote.Laws.{Is}
use denote.Enum.Declared.{row}
use denote.Enum.Laws.{owed}
use denote.Struct.Declared as struct
use denote.Struct.Laws as structs
use Rattle.floats.specs.Operations.{at}
use Rattle.floats.proofs.Bools.{of_true}
use Rattle.planforms.specs.declared.Planform.{Planform}
use Rattle.planforms.specs.declared.Planform.TheVariants.{Trapezoid, Ellipse, Outline}
use Rattle.planforms.specs.contracts.Planform.{the_type}
use Rattle.planforms.proofs.Planform.TheLaws.{the_laws}
use Rattle.planforms.proofs.Sized.{PlanformF64}
use Rattle.fins.specs.declared.FinSet.{FinSet}
use Rattle.fins.specs.contracts.FinSet as set-type
use Rattle.fins.proofs.FinSet.TheLaws as set-laws

pub planform_f64 : (planform : Planform) (values : List Val) (points : List Float) → Is (row the_type) planform values
    → ((i : ℕ) → T (fits binary64 (at points i))) → PlanformF64 planform points
planform_f64 (Trapezoid root tip span sweep) values points p q =
    let h = owed the_type the_laws (Trapezoid root tip span sweep) values p in (
      of_true (fits binary64 root) h.0.1,
      (
        of_true (fits binary64 tip) h.1.0.1,
        (of_true (fits binary64 span) h.1.1.0.1, of_true (fits binary64 sweep) h.1.1.1.0.1),
      ),
    )
planform_f64 (Ellipse root span) values points p q =
    let h = owed the_type the_laws (Ellipse root span) values p in
    (of_true (fits binary64 root) h.0.1, of_true (fits binary64 span) h.1.0.1)
planform_f64 Outline values points p q = q

-- the numbers of a set that its integrand is worked from
pub record SetF64 (set : FinSet) (points : List Float) : Type 0 where
  pub planform : PlanformF64 set.planform points
  pub thickness : T (fits binary64 set.thickness_m)
  pub radius : T (fits binary64 set.body_radius_m)

pub set_f64 : (set : FinSet) (values : List Val) (points : List Float) → Is (struct.row set-type.the_type) set values
    → ((i : ℕ) → T (fits binary64 (at points i))) → SetF64 set points
set_f64 set values points p q =
    let h = structs.owed set-type.the_type set-laws.the_laws set values p in
    record {
      planform = planform_f64 set.planform _ points h.1.0 q;
      thickness = of_true (fits binary64 set.thickness_m) h.1.1.0.1;
      radius = of_true (fits binary64 set.body_radius_m) h.1.1.1.1.1.1.1.1.0.1;
    }

-- The front of a list that holds the copies is joined as they are. Assumes nothing.
use mathlib.Core.List.{List}
use mathlib.Core.Path.{◌≡◌, ap, ◌∙◌}
use Prim.Native.Nat.{ℕ, ◌≤◌}
use native.Mathlib.Omega.{arith}
use lib.ListN.{length, take}
use lib.Seq.{get_or-take, length-take-le}
use lib.Ieee.{Float}
use Rattle.bodies.specs.declared.Body.{Body}
use Rattle.bodies.specs.Bodies.{empty_body}
use Rattle.joins.specs.Joins.{join_of}
use Rattle.joins.proofs.JoinLaws.{join_same}
use Rattle.joins.specs.Lists.{body_in, join_list}
use Rattle.rings.specs.Rings.{rolled_copy, joined_copies, CopiesTo}

module _ (body : Body) (base : Float) (n : ℕ) (copies : List Body) (long : length copies ≡ 32) (within : n ≤ 32) where
  pub front_length : length (take n copies) ≡ n
  front_length = length-take-le n copies (omega arith)

  pub front_joined : CopiesTo n body base n copies → join_list (take n copies) ≡ joined_copies body base n
  front_joined filled =
      ap (join_of (body_in (take n copies))) front_length
      ∙ join_same (body_in (take n copies)) (rolled_copy body base n) n (λ k l. get_or-take n copies k empty_body l ∙ filled k l)

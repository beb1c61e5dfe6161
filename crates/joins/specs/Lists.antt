-- Bodies in a list of structs, joined (document 01, "Body").
use Rattle.std.specs.Prelude.{List, ℕ, length, get_or}
use Rattle.bodies.specs.declared.Body.{Body}
use Rattle.bodies.specs.Bodies.{empty_body}
use Rattle.joins.specs.Joins.{in_order, join_of}

-- body k of a list
abbrev pub body_in : List Body → ℕ → Body
body_in bodies k = get_or bodies k empty_body

-- the bodies of a list, joined
abbrev pub join_list : List Body → Body
join_list bodies = join_of (body_in bodies) (length bodies)

-- ---- what the steps do

-- every body of a list, added to a start in order
abbrev pub add_each : {A : Type 0} → (A → Body → A) → A → List Body → A
add_each add start bodies = in_order add start (body_in bodies) (length bodies)

-- "The bodies of one set lie one after another in a lent list" (document 01, "Body"): the numbers of each
-- (bodies/specs/Layout).
use Rattle.std.specs.Prelude.{List, [], ◌++◌, ℕ, zero, suc, ◌+◌, ◌*◌, take, drop, Float}
use Rattle.floats.specs.Operations.{at}
use Rattle.bodies.specs.declared.Body.{Body}
use Rattle.bodies.specs.Layout.{body_numbers, body_of, numbers_of}

-- body k of a list of numbers
abbrev pub body_at : List Float → ℕ → Body
body_at numbers k = body_of (λ i. at numbers (body_numbers * k + i))

-- the list of the numbers of f 0 to f (n − 1)
unfoldable pub listed : (ℕ → Body) → ℕ → List Float
listed f zero = []
listed f (suc n) = listed f n ++ numbers_of (f n)

-- a list with b written over body k
abbrev pub with_body : List Float → ℕ → Body → List Float
with_body numbers k b =
    take (body_numbers * k) numbers ++ numbers_of b ++ drop (body_numbers * k + body_numbers) numbers

-- a list with f 0 to f (n − 1) written over its first n bodies
abbrev pub with_bodies : (ℕ → Body) → ℕ → List Float → List Float
with_bodies f n numbers = listed f n ++ drop (body_numbers * n) numbers

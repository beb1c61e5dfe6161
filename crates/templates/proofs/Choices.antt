-- Alternatives: the first that fits, tried from the same place with whatever an earlier try left behind the figures taken. Assumes nothing.
use mathlib.Core.List.{List}
use mathlib.Core.Bool.{Bool, true, false}
use mathlib.Core.Path.{◌≡◌, refl, sym, ap, ◌∙◌}
use Prim.Native.Nat.{ℕ}
use native.Mathlib.Omega.{arith}
use lib.ListN.{take, drop}
use lib.Ieee.{Float}
use Rattle.tokens.specs.Tokens.{tokens}
use Rattle.templates.specs.declared.Cursor.{Cursor}
use Rattle.templates.specs.Matching.{Reading, failed, reading, pick, or_else, numbered}
use Rattle.templates.specs.Cursors.{taken_before, reading_at, Room, ReadsOn, numbered_cursor}
use Rattle.templates.proofs.Steps.{also_kept}

abbrev pub fits : Reading → Bool
fits failed = false
fits (reading ts t) = true

pub fits_at : (line : List ℕ) (v : List Float) (c : Cursor) → fits (reading_at line v c) ≡ c.ok
fits_at line v c = by c.ok
  where
    by : (t : Bool) → fits (pick t (reading (tokens (drop c.at line)) (taken_before v c)) failed) ≡ t
    by true = refl
    by false = refl

pub else_first : (a b : Reading) → fits a ≡ true → a ≡ or_else a b
else_first failed b h = let z : ◌≡◌ {A = ℕ} 0 1 = cc in absurd (let y : ⊥ = omega arith in y)
else_first (reading ts t) b h = refl

pub else_second : (a b : Reading) → fits a ≡ false → b ≡ or_else a b
else_second failed b h = refl
else_second (reading ts t) b h = let z : ◌≡◌ {A = ℕ} 0 1 = cc in absurd (let y : ⊥ = omega arith in y)

-- the same reading where the figures taken are the same
pub same_reading : (line : List ℕ) (v w : List Float) (c : Cursor) → take c.figures w ≡ take c.figures v
    → reading_at line w c ≡ reading_at line v c
same_reading line v w c k = ap (λ (l : List Float). pick c.ok
    (reading (tokens (drop c.at line)) (record { figures = l; number = c.number; spoiled = c.spoiled })) failed) k

-- nothing taken
pub here : (line : List ℕ) (v : List Float) (c : Cursor) → Room line v c → ReadsOn line v v c c (reading_at line v c)
here line v c m = record { is = refl; kept = refl; grows = omega arith; room = m }

module _ (line : List ℕ) (v w : List Float) (c r : Cursor) (m : Reading) (o : ReadsOn line v w c r m) where
  -- and then more
  pub also : (u : List Float) (s : Cursor) (p : Reading → Reading) → ReadsOn line w u r s (p (reading_at line w r))
      → ReadsOn line v u c s (p m)
  also u s p q =
      let g = o.grows in let h = q.grows in
      record {
        is = q.is
            ∙ ap p o.is;
        kept = also_kept v w u c.figures r.figures g o.kept q.kept;
        grows = omega arith;
        room = q.room;
      }

  pub meant_fits : fits m ≡ r.ok
  meant_fits = ap fits (sym o.is) ∙ fits_at line w r

  -- there is room at c still
  pub room_again : Room line v c → Room line w c
  room_again q = record { short = q.short; room = o.room.room; within = q.within; few = q.few }

  pub note : (k : ℕ) → ReadsOn line v w c (numbered_cursor k r) (numbered k m)
  note k =
      let q = o.room in
      record {
        is = by r.ok ∙ ap (numbered k) o.is;
        kept = o.kept;
        grows = o.grows;
        room = record { short = q.short; room = q.room; within = q.within; few = q.few };
      }
    where
      by : (t : Bool) → pick t (reading (tokens (drop r.at line)) (taken_before w (numbered_cursor k r))) failed
          ≡ numbered k (pick t (reading (tokens (drop r.at line)) (taken_before w r)) failed)
      by true = refl
      by false = refl

  pub first_fits : (b : Reading) → r.ok ≡ true → ReadsOn line v w c r (or_else m b)
  first_fits b h = record { is = o.is ∙ else_first m b (meant_fits ∙ h); kept = o.kept; grows = o.grows; room = o.room }

  -- the first did not fit, and another was tried from c
  pub next_tried : (u : List Float) (s : Cursor) (p : Reading → Reading) → r.ok ≡ false → ReadsOn line w u c s (p (reading_at line w c))
      → ReadsOn line v u c s (or_else m (p (reading_at line v c)))
  next_tried u s p h q =
      record {
        is = q.is ∙ ap p (same_reading line v w c o.kept) ∙ else_second m (p (reading_at line v c)) (meant_fits ∙ h);
        kept = q.kept ∙ o.kept;
        grows = q.grows;
        room = q.room;
      }

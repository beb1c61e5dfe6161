-- Which digits and points are figures: each test by itself. Assumes nothing.
use mathlib.Core.List.{List, [], ◌∷◌}
use mathlib.Core.Bool.{Bool, true, false, ◌&&◌, not}
use mathlib.Core.Path.{◌≡◌, refl}
use Prim.Native.Nat.{ℕ, ◌+◌, ◌<◌, ◌≤◌}
use native.Mathlib.Omega.{arith}
use borrow.Author.Tests.{le-leb, lt-leb, eq-eqb, ne_eqb}
use lib.Dec.{leb, eqb}
use lib.ListN.{length}
use Rattle.std.specs.Prelude.{Float, Option, Some, None}
use Rattle.hexadecimal.specs.Hex.{pick}
use Rattle.decimals.specs.Decimals.{decimal_of}
use Rattle.figure_words.specs.FigureWords.{leading_digits, behind_digits, number_from, whole_figure, point_figure, digits_figure}

turned_away_lem : (t : Bool) (x : Option Float) → t ≡ false → pick t x None ≡ None
turned_away_lem t x e = rw e

second_fails : (a c : Bool) → (a && false && c) ≡ false
second_fails true c = refl
second_fails false c = refl

last_fails : (a : Bool) → (a && false) ≡ false
last_fails true = refl
last_fails false = refl

-- ---- digits alone

pub sixteen_bare : (bare minus : Bool) (n c : ℕ) → bare ≡ true → c ≡ 16 → None ≡ whole_figure bare minus n c
sixteen_bare bare minus n c e f = rw (e, f)

pub whole_is : (bare minus : Bool) (n c : ℕ) → 0 < c → c ≤ 19 → (bare && eqb c 16) ≡ false
    → whole_figure bare minus n c ≡ Some (decimal_of minus n 0)
whole_is bare minus n c o l e = rw (le-leb 1 c o, le-leb c 19 l, e)

pub not_bare : (bare : Bool) (c : ℕ) → bare ≡ false → (bare && eqb c 16) ≡ false
not_bare bare c e = rw e

pub not_sixteen : (bare : Bool) (c : ℕ) → (c ≡ 16 → ⊥) → (bare && eqb c 16) ≡ false
not_sixteen true c h = ne_eqb c 16 h
not_sixteen false c h = refl

pub no_digits : (bare minus : Bool) (n c : ℕ) → c ≡ 0 → whole_figure bare minus n c ≡ None
no_digits bare minus n c h = rw h

-- ---- digits, a byte, and more

module _ (minus : Bool) (n c b : ℕ) (l : List ℕ) where
  abbrev k : ℕ
  k = length (leading_digits l)

  abbrev j : ℕ
  j = length (behind_digits l)

  abbrev value : Option Float
  value = Some (decimal_of minus (number_from n (leading_digits l)) k)

  -- the tests one by one
  abbrev by : Bool → Bool → Bool → Bool → Bool → Option Float
  by p q r s t = pick (p && q && r && s && t) value None

  pub not_point : (b ≡ 46 → ⊥) → point_figure minus n c b l ≡ None
  not_point h = rw (ne_eqb b 46 h)

  pub none_before : c ≡ 0 → point_figure minus n c b l ≡ None
  none_before h = let z : c < 1 = omega arith in rw (lt-leb 1 c z) (go (eqb b 46) (leb 1 k) (leb (c + k) 19) (eqb j 0))
    where
      go : (p r s t : Bool) → by p false r s t ≡ None
      go true r s t = refl
      go false r s t = refl

  pub none_behind : k ≡ 0 → point_figure minus n c b l ≡ None
  none_behind h = let z : k < 1 = omega arith in rw (lt-leb 1 k z) (go (eqb b 46 && leb 1 c) (leb (c + k) 19) (eqb j 0))
    where
      go : (p s t : Bool) → pick (p && false && s && t) value None ≡ None
      go true s t = refl
      go false s t = refl

  pub too_many_in_all : 19 < c + k → point_figure minus n c b l ≡ None
  too_many_in_all h = rw (lt-leb (c + k) 19 h) (go (eqb b 46 && leb 1 c && leb 1 k) (eqb j 0))
    where
      go : (p t : Bool) → pick (p && false && t) value None ≡ None
      go true t = refl
      go false t = refl

  pub more_behind : (j ≡ 0 → ⊥) → point_figure minus n c b l ≡ None
  more_behind h = rw (ne_eqb j 0 h) (go (eqb b 46 && leb 1 c && leb 1 k && leb (c + k) 19))
    where
      go : (p : Bool) → pick (p && false) value None ≡ None
      go true = refl
      go false = refl

  pub point_is : b ≡ 46 → 0 < c → 0 < k → c + k ≤ 19 → j ≡ 0 → point_figure minus n c b l ≡ value
  point_is e o p l h = rw (eq-eqb b 46 e, le-leb 1 c o, le-leb 1 k p, le-leb (c + k) 19 l, eq-eqb j 0 h)

-- over 19 digits, whatever stands behind them
pub too_many : (bare minus : Bool) (n c : ℕ) (rest : List ℕ) → 19 < c → digits_figure bare minus n c rest ≡ None
too_many bare minus n c [] h = rw (lt-leb c 19 h) (go (leb 1 c) (not (bare && eqb c 16)))
  where
    go : (p t : Bool) → pick (p && false && t) (Some (decimal_of minus n 0)) None ≡ None
    go true t = refl
    go false t = refl
too_many bare minus n c (b ∷ l) h = too_many_in_all minus n c b l (omega arith)

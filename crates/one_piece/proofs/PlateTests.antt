-- The tests of a plate's seven components, by sizes alone: tip up to 2 root chords (square) or 1 (airfoils), sweep from
-- 0 to 4. Those of M_2 and r·M_1 go by cases, sweep from 0 to 1, 1 to 2 and 2 to 4. The radius is up to the span (near)
-- or from it on (far); where it does not count (free) the span stands in its place. Assumes nothing.
use mathlib.Core.List.{List, [], ◌∷◌}
use Prim.Native.Nat.{ℕ, ◌*◌, ◌^◌}
use lib.Dec.{T}
use lib.Ieee.{Float, round, of_bits}
use Rattle.gauss_kronrod.specs.Tables.{nodes, kronrod_weights, gauss_weights}
use Rattle.sections.specs.Airfoil.{airfoil_constants}
use Rattle.sections.specs.declared.Section.{Section}
use Rattle.sections.specs.declared.Section.TheVariants.{Square, Rounded, Airfoil, AirfoilOpen}
use Rattle.tolerance.specs.Bounds.{relative}
use Rattle.error_terms.proofs.Monomials.{place}
use Rattle.error_terms.proofs.Terms.{shape, Given, larger}
use Rattle.error_terms.proofs.Entries.{full}
use Rattle.one_piece.proofs.Rule.{at_heights}
use Rattle.one_piece.proofs.PlatePiece.{entries_of, component_test, room_test}
use Rattle.one_piece.specs.OnePiece.{NotRounded, tips_of}

module _ (root tip span sweep scale thickness radius : Float) where
  abbrev pub near : Float → ℕ → ℕ → ℕ → List Given
  near x kt ks ls = entries_of root tip span sweep scale thickness x kt ks ls (shape 0 full (place 1) []) 0 []

  abbrev pub far : ℕ → ℕ → ℕ → List Given
  far kt ks ls = entries_of root tip span sweep scale thickness radius kt ks ls (shape 0 full (place 4) []) full (larger 1 4 ∷ [])

  abbrev pub Free : ℕ → ℕ → Section → ℕ → Type 0
  Free ks ls c k = T (component_test c (near span (tips_of c) ks ls) (0 ∷ 1 ∷ []) k)

  abbrev pub Near : ℕ → ℕ → Section → ℕ → Type 0
  Near ks ls c k = T (component_test c (near radius (tips_of c) ks ls) (0 ∷ 1 ∷ []) k)

  abbrev pub Far : ℕ → ℕ → Section → ℕ → Type 0
  Far ks ls c k = T (component_test c (far (tips_of c) ks ls) (0 ∷ 0 ∷ 0 ∷ 0 ∷ 1 ∷ []) k)

  pub record Tests (c : Section) : Type 0 where
    pub room : T (at_heights (room_test (near span (tips_of c) 4 0)) 7)
    pub free0 : Free 4 0 c 0
    pub free3 : Free 4 0 c 3
    pub free6 : Free 4 0 c 6
    pub near1 : Near 4 0 c 1
    pub near2 : Near 4 0 c 2
    pub far1 : Far 4 0 c 1
    pub far2 : Far 4 0 c 2
    pub free4 : Free 1 0 c 4 × (Free 2 (1 * 2 ^ 30) c 4 × Free 4 (2 * 2 ^ 30) c 4)
    pub near5 : Near 1 0 c 5 × (Near 2 (1 * 2 ^ 30) c 5 × Near 4 (2 * 2 ^ 30) c 5)
    pub far5 : Far 1 0 c 5 × (Far 2 (1 * 2 ^ 30) c 5 × Far 4 (2 * 2 ^ 30) c 5)

  square_room : T (at_heights (room_test (near span (tips_of Square) 4 0)) 7)
  unfolding round of_bits nodes kronrod_weights gauss_weights relative
  square_room = tt

  square_free : Free 4 0 Square 0 × (Free 4 0 Square 3 × Free 4 0 Square 6)
  unfolding round of_bits nodes kronrod_weights gauss_weights relative
  square_free = (tt, (tt, tt))

  square_out : (Near 4 0 Square 1 × Near 4 0 Square 2) × (Far 4 0 Square 1 × Far 4 0 Square 2)
  unfolding round of_bits nodes kronrod_weights gauss_weights relative
  square_out = ((tt, tt), (tt, tt))

  square_free4 : Free 1 0 Square 4 × (Free 2 (1 * 2 ^ 30) Square 4 × Free 4 (2 * 2 ^ 30) Square 4)
  unfolding round of_bits nodes kronrod_weights gauss_weights relative
  square_free4 = (tt, (tt, tt))

  square_near5 : Near 1 0 Square 5 × (Near 2 (1 * 2 ^ 30) Square 5 × Near 4 (2 * 2 ^ 30) Square 5)
  unfolding round of_bits nodes kronrod_weights gauss_weights relative
  square_near5 = (tt, (tt, tt))

  square_far5 : Far 1 0 Square 5 × (Far 2 (1 * 2 ^ 30) Square 5 × Far 4 (2 * 2 ^ 30) Square 5)
  unfolding round of_bits nodes kronrod_weights gauss_weights relative
  square_far5 = (tt, (tt, tt))

  foil_room : T (at_heights (room_test (near span (tips_of Airfoil) 4 0)) 7)
  unfolding round of_bits nodes kronrod_weights gauss_weights relative airfoil_constants
  foil_room = tt

  foil_free : Free 4 0 Airfoil 0 × (Free 4 0 Airfoil 3 × Free 4 0 Airfoil 6)
  unfolding round of_bits nodes kronrod_weights gauss_weights relative airfoil_constants
  foil_free = (tt, (tt, tt))

  foil_out : (Near 4 0 Airfoil 1 × Near 4 0 Airfoil 2) × (Far 4 0 Airfoil 1 × Far 4 0 Airfoil 2)
  unfolding round of_bits nodes kronrod_weights gauss_weights relative airfoil_constants
  foil_out = ((tt, tt), (tt, tt))

  foil_free4_01 : Free 1 0 Airfoil 4
  unfolding round of_bits nodes kronrod_weights gauss_weights relative airfoil_constants
  foil_free4_01 = tt

  foil_free4_12 : Free 2 (1 * 2 ^ 30) Airfoil 4
  unfolding round of_bits nodes kronrod_weights gauss_weights relative airfoil_constants
  foil_free4_12 = tt

  foil_free4_24 : Free 4 (2 * 2 ^ 30) Airfoil 4
  unfolding round of_bits nodes kronrod_weights gauss_weights relative airfoil_constants
  foil_free4_24 = tt

  foil_near5 : Near 1 0 Airfoil 5 × (Near 2 (1 * 2 ^ 30) Airfoil 5 × Near 4 (2 * 2 ^ 30) Airfoil 5)
  unfolding round of_bits nodes kronrod_weights gauss_weights relative airfoil_constants
  foil_near5 = (tt, (tt, tt))

  foil_far5 : Far 1 0 Airfoil 5 × (Far 2 (1 * 2 ^ 30) Airfoil 5 × Far 4 (2 * 2 ^ 30) Airfoil 5)
  unfolding round of_bits nodes kronrod_weights gauss_weights relative airfoil_constants
  foil_far5 = (tt, (tt, tt))

  open_room : T (at_heights (room_test (near span (tips_of AirfoilOpen) 4 0)) 7)
  unfolding round of_bits nodes kronrod_weights gauss_weights relative airfoil_constants
  open_room = tt

  open_free : Free 4 0 AirfoilOpen 0 × (Free 4 0 AirfoilOpen 3 × Free 4 0 AirfoilOpen 6)
  unfolding round of_bits nodes kronrod_weights gauss_weights relative airfoil_constants
  open_free = (tt, (tt, tt))

  open_out : (Near 4 0 AirfoilOpen 1 × Near 4 0 AirfoilOpen 2) × (Far 4 0 AirfoilOpen 1 × Far 4 0 AirfoilOpen 2)
  unfolding round of_bits nodes kronrod_weights gauss_weights relative airfoil_constants
  open_out = ((tt, tt), (tt, tt))

  open_free4_01 : Free 1 0 AirfoilOpen 4
  unfolding round of_bits nodes kronrod_weights gauss_weights relative airfoil_constants
  open_free4_01 = tt

  open_free4_12 : Free 2 (1 * 2 ^ 30) AirfoilOpen 4
  unfolding round of_bits nodes kronrod_weights gauss_weights relative airfoil_constants
  open_free4_12 = tt

  open_free4_24 : Free 4 (2 * 2 ^ 30) AirfoilOpen 4
  unfolding round of_bits nodes kronrod_weights gauss_weights relative airfoil_constants
  open_free4_24 = tt

  open_near5 : Near 1 0 AirfoilOpen 5 × (Near 2 (1 * 2 ^ 30) AirfoilOpen 5 × Near 4 (2 * 2 ^ 30) AirfoilOpen 5)
  unfolding round of_bits nodes kronrod_weights gauss_weights relative airfoil_constants
  open_near5 = (tt, (tt, tt))

  open_far5 : Far 1 0 AirfoilOpen 5 × (Far 2 (1 * 2 ^ 30) AirfoilOpen 5 × Far 4 (2 * 2 ^ 30) AirfoilOpen 5)
  unfolding round of_bits nodes kronrod_weights gauss_weights relative airfoil_constants
  open_far5 = (tt, (tt, tt))

  pub tests : (c : Section) → NotRounded c → Tests c
  tests Rounded e = absurd e
  tests Square e =
      record {
        room = square_room;
        free0 = square_free.0;
        free3 = square_free.1.0;
        free6 = square_free.1.1;
        near1 = square_out.0.0;
        near2 = square_out.0.1;
        far1 = square_out.1.0;
        far2 = square_out.1.1;
        free4 = square_free4;
        near5 = square_near5;
        far5 = square_far5;
      }
  tests Airfoil e =
      record {
        room = foil_room;
        free0 = foil_free.0;
        free3 = foil_free.1.0;
        free6 = foil_free.1.1;
        near1 = foil_out.0.0;
        near2 = foil_out.0.1;
        far1 = foil_out.1.0;
        far2 = foil_out.1.1;
        free4 = (foil_free4_01, (foil_free4_12, foil_free4_24));
        near5 = foil_near5;
        far5 = foil_far5;
      }
  tests AirfoilOpen e =
      record {
        room = open_room;
        free0 = open_free.0;
        free3 = open_free.1.0;
        free6 = open_free.1.1;
        near1 = open_out.0.0;
        near2 = open_out.0.1;
        far1 = open_out.1.0;
        far2 = open_out.1.1;
        free4 = (open_free4_01, (open_free4_12, open_free4_24));
        near5 = open_near5;
        far5 = open_far5;
      }

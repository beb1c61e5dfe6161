-- Terms with parts that stand in several places and are judged once. Assumes nothing.
use mathlib.Core.Path.{◌≡◌, refl, sym, ap, ap₂, ◌∙◌, subst}
use mathlib.Core.List.{List, [], ◌∷◌}
use Prim.Native.Nat.{ℕ, zero, suc}
use lib.Dec.{T}
use lib.Ieee.{Float}
use lib.ListN.{get_or}
use Rattle.rounding_error.proofs.Numbers.{Size, ◌of◌, ◌roundoffs◌, value_of, Under, Near}
use Rattle.rounding_error.proofs.Polynomials.{Expression, evaluate}
use Rattle.error_terms.proofs.Monomials.{AllRanges}
use Rattle.error_terms.proofs.Terms.{Given, none, shape_of, low_of, Term, var, divided, tight, raised, ◌add◌, ◌take◌, ◌mul◌, ◌over◌}
use Rattle.error_terms.proofs.Terms.{value, double, AllKnown, unit_by, numbers_of}
use Rattle.error_terms.proofs.Judged.{Judged, judge, add_judged, take_judged, mul_judged, over_judged, divided_judged, tight_judged}
use Rattle.error_terms.proofs.Judged.{raised_judged, nearer, near_within, reaching, reach_within}

infixl 65 ◌⊞◌
infixl 65 ◌⊟◌
infixl 70 ◌⊠◌
infixl 70 ◌⊡◌
pub data Shared : Type 0 where
  local : ℕ → Shared
  whole : Term → Shared
  ◌⊞◌ ◌⊟◌ ◌⊠◌ : Shared → Shared → Shared
  ◌⊡◌ : Shared → ℕ → Shared
  divided_by : Float → Shared → Shared
  tightly : Shared → Shared
  raised_by : ℕ → Shared → Shared
  bind : Shared → Shared → Shared

-- the term, with each part in its places
abbrev pub expand : List Term → Shared → Term
expand L (local i) = get_or L i (var 0)
expand L (whole t) = t
expand L (s ⊞ t) = expand L s add expand L t
expand L (s ⊟ t) = expand L s take expand L t
expand L (s ⊠ t) = expand L s mul expand L t
expand L (s ⊡ i) = expand L s over i
expand L (divided_by c s) = divided c (expand L s)
expand L (tightly s) = tight (expand L s)
expand L (raised_by k s) = raised k (expand L s)
expand L (bind s t) = expand (expand L s ∷ L) t

abbrev pub judge_in : List Given → List Judged → Shared → Judged
judge_in G M (local i) = get_or M i (judge G (var 0))
judge_in G M (whole t) = judge G t
judge_in G M (s ⊞ t) = add_judged (judge_in G M s) (judge_in G M t)
judge_in G M (s ⊟ t) = take_judged (judge_in G M s) (judge_in G M t)
judge_in G M (s ⊠ t) = mul_judged (judge_in G M s) (judge_in G M t)
judge_in G M (s ⊡ i) = over_judged (judge_in G M s) (shape_of (get_or G i none)) (low_of (get_or G i none)) (suc (double i))
judge_in G M (divided_by c s) = divided_judged c (judge_in G M s)
judge_in G M (tightly s) = tight_judged G (judge_in G M s)
judge_in G M (raised_by k s) = raised_judged (get_or G k none) (judge_in G M s)
judge_in G M (bind s t) = judge_in G (judge_in G M s ∷ M) t

abbrev judges : List Given → List Term → List Judged
judges G [] = []
judges G (t ∷ L) = judge G t ∷ judges G L

pub shared_is : (G : List Given) (L : List Term) (s : Shared) → judge_in G (judges G L) s ≡ judge G (expand L s)
shared_is G L (local i) = go L i
  where
    go : (L : List Term) (i : ℕ) → get_or (judges G L) i (judge G (var 0)) ≡ judge G (get_or L i (var 0))
    go [] i = refl
    go (t ∷ L) zero = refl
    go (t ∷ L) (suc i) = go L i
shared_is G L (whole t) = refl
shared_is G L (s ⊞ t) = ap₂ (λ (a b : Judged). add_judged a b) (shared_is G L s) (shared_is G L t)
shared_is G L (s ⊟ t) = ap₂ (λ (a b : Judged). take_judged a b) (shared_is G L s) (shared_is G L t)
shared_is G L (s ⊠ t) = ap₂ (λ (a b : Judged). mul_judged a b) (shared_is G L s) (shared_is G L t)
shared_is G L (s ⊡ i) = ap (λ (a : Judged). over_judged a (shape_of (get_or G i none)) (low_of (get_or G i none)) (suc (double i)))
    (shared_is G L s)
shared_is G L (divided_by c s) = ap (λ (a : Judged). divided_judged c a) (shared_is G L s)
shared_is G L (tightly s) = ap (λ (a : Judged). tight_judged G a) (shared_is G L s)
shared_is G L (raised_by k s) = ap (λ (a : Judged). raised_judged (get_or G k none) a) (shared_is G L s)
shared_is G L (bind s t) = ap (λ (a : Judged). judge_in G (a ∷ judges G L) t) (shared_is G L s) ∙ shared_is G (expand L s ∷ L) t

pub shared_within : (B : List Size) → AllRanges 32 B → (G : List Given) → AllKnown B G
    → (s : Shared) (target : Expression) (K : ℕ) (p q : List ℕ) → T (nearer G target K p q (judge_in G [] s))
    → Near (value G (expand [] s)) (evaluate (numbers_of G) target) (K roundoffs unit_by B p q)
shared_within B r G h s target K p q e = near_within B r G h (expand [] s) target K p q
    (subst (λ (j : Judged). T (nearer G target K p q j)) (shared_is G [] s) e)

-- ---- parts that are judged once for several terms
abbrev pub judge_all : List Given → List Judged → List Shared → List Judged
judge_all G M [] = M
judge_all G M (s ∷ l) = judge_all G (judge_in G M s ∷ M) l

abbrev pub bind_all : List Shared → Shared → Shared
bind_all [] t = t
bind_all (s ∷ l) t = bind s (bind_all l t)

pub judge_all_lem : (G : List Given) (M : List Judged) (l : List Shared) (t : Shared)
    → judge_in G M (bind_all l t) ≡ judge_in G (judge_all G M l) t
judge_all_lem G M [] t = refl
judge_all_lem G M (s ∷ l) t = judge_all_lem G (judge_in G M s ∷ M) l t

pub all_within : (B : List Size) → AllRanges 32 B → (G : List Given) → AllKnown B G
    → (l : List Shared) (s : Shared) (target : Expression) (K : ℕ) (p q : List ℕ)
    → T (nearer G target K p q (judge_in G (judge_all G [] l) s))
    → Near (value G (expand [] (bind_all l s))) (evaluate (numbers_of G) target) (K roundoffs unit_by B p q)
all_within B r G h l s target K p q e =
    shared_within B r G h (bind_all l s) target K p q (subst (λ (j : Judged). T (nearer G target K p q j)) (sym (judge_all_lem G [] l s)) e)

pub all_reach : (B : List Size) → AllRanges 32 B → (G : List Given) → AllKnown B G → (l : List Shared) (s : Shared) (J : ℕ) (p q : List ℕ)
    → T (reaching J p q (judge_in G (judge_all G [] l) s)) → Under (J of unit_by B p q) (value_of (value G (expand [] (bind_all l s))))
all_reach B r G h l s J p q e =
    reach_within B r G h (expand [] (bind_all l s)) J p q
    (subst (λ (j : Judged). T (reaching J p q j)) (sym (judge_all_lem G [] l s) ∙ shared_is G [] (bind_all l s)) e)

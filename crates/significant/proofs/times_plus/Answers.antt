-- `significant::times_plus` meets its contract: the digits before place i are done, and those from there on are as they
-- were. Assumes nothing.
use mathlib.Core.List.{List, ◌∷◌, ◌++◌, append_assoc, []}
use mathlib.Core.Path.{◌≡◌, refl, sym, ap, ◌∙◌}
use Prim.Native.Nat.{ℕ, suc, ◌+◌, ◌*◌, ◌/◌, ◌%◌, ◌^◌, ◌≤◌, ◌<◌}
use native.Mathlib.Nat.{mul-le-mul}
use native.Mathlib.Numerals.{add-one}
use native.Mathlib.Omega.{arith}
use lib.ListN.{length, take, drop, set, get_or, drop_of_length-le}
use lib.Seq.{take_all, take-suc-set, drop-set-lt, drop-cons}
use Rattle.significant.specs.Digits.{times_plus}
use Rattle.significant.proofs.Values.{append_nil}
use Rattle.significant.proofs.times_plus.Goals as goal
use Rattle.significant.proofs.times_plus.Invariants.{SoFar}

start : (by plus : ℕ) (l : List ℕ) → plus ≤ 2 ^ 59 → SoFar by plus l l plus 0
start by plus l h = record { done = refl; few = h }

product : (d by : ℕ) → d ≤ 255 → by ≤ 2 ^ 54 → d * by ≤ 255 * 2 ^ 54
product d by h g = mul-le-mul h g

next : (by plus : ℕ) (before digits : List ℕ) (carry i d t r q : ℕ) → SoFar by plus before digits carry i → by ≤ 2 ^ 54 → i < length digits
    → d ≤ 255 → d ≡ get_or digits i 0 → t ≡ d * by + carry → r ≡ t % 10 → q ≡ t / 10
    → SoFar by plus before (set digits i r) q (i + 1)
unfolding times_plus
next by plus before digits carry i d t r q v b h o e f g k =
    let p = product d by o b in
    let w = v.few in
    record {
      done =
          v.done
          ∙ ap (λ (x : List ℕ). take i digits ++ times_plus by carry x) (drop-cons digits i 0 h)
          ∙ ap (λ (x : ℕ). take i digits ++ ((x * by + carry) % 10 ∷ times_plus by ((x * by + carry) / 10) (drop (suc i) digits))) (sym e)
          ∙ ap (λ (x : ℕ). take i digits ++ (x % 10 ∷ times_plus by (x / 10) (drop (suc i) digits))) (sym f)
          ∙ ap (λ (x : ℕ). take i digits ++ (x ∷ times_plus by (t / 10) (drop (suc i) digits))) (sym g)
          ∙ ap (λ (x : ℕ). take i digits ++ (r ∷ times_plus by x (drop (suc i) digits))) (sym k)
          ∙ sym (append_assoc (take i digits) (r ∷ []) (times_plus by q (drop (suc i) digits)))
          ∙ ap (λ (x : List ℕ). x ++ times_plus by q (drop (suc i) digits)) (sym (take-suc-set digits i r h))
          ∙ ap (λ (x : List ℕ). take (suc i) (set digits i r) ++ times_plus by q x)
          (sym (drop-set-lt (suc i) digits i r (let z : i < suc i = omega arith in z)))
          ∙ ap (λ (j : ℕ). take j (set digits i r) ++ times_plus by q (drop j (set digits i r))) (sym (add-one i));
      few = omega (arith, p, w, f, k);
    }

ends : (by plus : ℕ) (before digits : List ℕ) (carry i : ℕ) → SoFar by plus before digits carry i → length digits ≤ i
    → digits ≡ times_plus by plus before
unfolding times_plus
ends by plus before digits carry i v h =
    sym (v.done
    ∙ ap (λ (x : List ℕ). x ++ times_plus by carry (drop i digits)) (take_all i digits h)
    ∙ ap (λ (x : List ℕ). digits ++ times_plus by carry x) (drop_of_length-le digits h)
    ∙ append_nil digits)

pub loop-digit-init : goal.loop-digit-init
loop-digit-init c = start c.args.by c.args.plus c.args.digits.now c.requires.1

pub overflow_mul-t : goal.overflow_mul-t
overflow_mul-t c = omega (arith, product c.from.result c.args.by (omega arith) c.requires.0)

pub overflow_add-t : goal.overflow_add-t
overflow_add-t c = omega (arith, product c.from.result c.args.by (omega arith) c.requires.0, c.loop-digit.invariant.few)

pub loop-digit-preserved : goal.loop-digit-preserved
loop-digit-preserved c =
    let l = c.loop-digit in
    next c.args.by c.args.plus c.args.digits.now l.digits l.carry l.digit-index c.from.result
    (c.from.result * c.args.by + l.carry) _ _ l.invariant c.requires.0 (omega arith) (omega arith) c.from.ensures refl refl refl

pub returns : goal.returns
returns c =
    let l = c.loop-digit in
    ends c.args.by c.args.plus c.args.digits.now l.digits l.carry l.digit-index l.invariant (omega arith)

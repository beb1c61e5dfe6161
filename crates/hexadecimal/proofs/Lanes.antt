-- Numbers as lanes of k bits: where no lane overflows, an operation on the whole is that operation on each lane. Each law is an
-- induction over the list of lanes, of any length. Assumes nothing.
use mathlib.Core.List.{List, [], ◌∷◌, ◌++◌, map}
use mathlib.Core.Path.{◌≡◌, refl, sym, ap, ap₂, ◌∙◌}
use Prim.Native.Nat.{ℕ, zero, suc, ◌+◌, ◌*◌, ◌/◌, ◌%◌, ◌^◌, ◌<◌, ◌≤◌}
use native.Mathlib.Nat.{add-mul, mul-add, mul_assoc, mul_comm, mul-zero, mul-div_cancel, mul-le-mul_right, pow-suc}
use native.Mathlib.Omega.{arith}
use lib.Arith.{digits_div, digits_mod}
use lib.Bits.{bit_and, and_block}
use lib.ListN.{length}
use Rattle.hexadecimal.specs.Words.{Each, bytes_before, lanes}

-- ---- what holds of each

pub each : {P Q : ℕ → Type 0} → ((b : ℕ) → P b → Q b) → (l : List ℕ) → Each P l → Each Q l
each h [] p = tt
each h (b ∷ l) p = (h b p.0, each h l p.1)

pub zipped : {P Q R : ℕ → Type 0} → ((b : ℕ) → P b → Q b → R b) → (l : List ℕ) → Each P l → Each Q l → Each R l
zipped h [] p q = tt
zipped h (b ∷ l) p q = (h b p.0 q.0, zipped h l p.1 q.1)

pub each_map : (P : ℕ → Type 0) (f : ℕ → ℕ) → ((b : ℕ) → P (f b)) → (l : List ℕ) → Each P (map f l)
each_map P f h [] = tt
each_map P f h (b ∷ l) = (h b, each_map P f h l)

-- ---- operations on lanes

pub lanes_ext : (k n : ℕ) (f g : ℕ → ℕ) (l : List ℕ) → Each (λ b. f b ≡ g b) l → lanes k n f l ≡ lanes k n g l
unfolding lanes
lanes_ext k n f g [] p = refl
lanes_ext k n f g (b ∷ l) p = ap (λ (x : ℕ). lanes k (n * 2 ^ k + x) f l) p.0 ∙ lanes_ext k (n * 2 ^ k + g b) f g l p.1

pub lanes_map : (k n : ℕ) (f g : ℕ → ℕ) (l : List ℕ) → lanes k n g (map f l) ≡ lanes k n (λ b. g (f b)) l
unfolding lanes
lanes_map k n f g [] = refl
lanes_map k n f g (b ∷ l) = lanes_map k (n * 2 ^ k + g (f b)) f g l

pub and_lanes : (k n m : ℕ) (f g : ℕ → ℕ) (l : List ℕ) → Each (λ b. (f b < 2 ^ k) × (g b < 2 ^ k)) l
    → bit_and (lanes k n f l) (lanes k m g l) ≡ lanes k (bit_and n m) (λ b. bit_and (f b) (g b)) l
unfolding lanes
and_lanes k n m f g [] p = refl
and_lanes k n m f g (b ∷ l) p =
    and_lanes k (n * 2 ^ k + f b) (m * 2 ^ k + g b) f g l p.1
    ∙ ap (λ (x : ℕ). lanes k x (λ (b : ℕ). bit_and (f b) (g b)) l) (and_block k n m (f b) (g b) p.0.0 p.0.1)

pub add_lanes : (k n m : ℕ) (f g : ℕ → ℕ) (l : List ℕ) → lanes k n f l + lanes k m g l ≡ lanes k (n + m) (λ b. f b + g b) l
unfolding lanes
add_lanes k n m f g [] = refl
add_lanes k n m f g (b ∷ l) =
    add_lanes k (n * 2 ^ k + f b) (m * 2 ^ k + g b) f g l
    ∙ ap (λ (x : ℕ). lanes k x (λ (b : ℕ). f b + g b) l)
    (let z : n * 2 ^ k + f b + (m * 2 ^ k + g b) ≡ (n + m) * 2 ^ k + (f b + g b) = omega (arith, add-mul n m (2 ^ k)) in z)

pub mul_lanes : (k n c : ℕ) (f : ℕ → ℕ) (l : List ℕ) → c * lanes k n f l ≡ lanes k (c * n) (λ b. c * f b) l
unfolding lanes
mul_lanes k n c f [] = refl
mul_lanes k n c f (b ∷ l) =
    mul_lanes k (n * 2 ^ k + f b) c f l
    ∙ ap (λ (x : ℕ). lanes k x (λ (b : ℕ). c * f b) l)
    (mul-add c (n * 2 ^ k) (f b) ∙ ap (λ (x : ℕ). x + c * f b) (sym (mul_assoc c n (2 ^ k))))

pub div_lanes : (k c : ℕ) (f : ℕ → ℕ) (l : List ℕ) → 0 < c → lanes k 0 (λ b. c * f b) l / c ≡ lanes k 0 f l
div_lanes k c f l h =
    ap (λ (x : ℕ). lanes k x (λ b. c * f b) l / c) (sym (mul-zero c))
    ∙ ap (λ (x : ℕ). x / c) (sym (mul_lanes k 0 c f l) ∙ mul_comm c (lanes k 0 f l))
    ∙ mul-div_cancel (lanes k 0 f l) h

pub lanes_le : (k n m : ℕ) (f g : ℕ → ℕ) (l : List ℕ) → n ≤ m → Each (λ b. f b ≤ g b) l → lanes k n f l ≤ lanes k m g l
unfolding lanes
lanes_le k n m f g [] h p = h
lanes_le k n m f g (b ∷ l) h p = lanes_le k (n * 2 ^ k + f b) (m * 2 ^ k + g b) f g l
    (let z = p.0 in omega (arith, mul-le-mul_right (2 ^ k) h)) p.1

-- the lanes of a number are its own
same_lane : (p n m a b : ℕ) → a < p → b < p → n * p + a ≡ m * p + b → (n ≡ m) × (a ≡ b)
same_lane p n m a b h g e =
    (sym (digits_div n h) ∙ ap (λ (x : ℕ). x / p) e ∙ digits_div m g, sym (digits_mod n h) ∙ ap (λ (x : ℕ). x % p) e ∙ digits_mod m g)

pub lanes_inj : (k n m : ℕ) (f g : ℕ → ℕ) (l : List ℕ) → Each (λ b. (f b < 2 ^ k) × (g b < 2 ^ k)) l → lanes k n f l ≡ lanes k m g l
    → (n ≡ m) × Each (λ b. f b ≡ g b) l
unfolding lanes
lanes_inj k n m f g [] p e = (e, tt)
lanes_inj k n m f g (b ∷ l) p e =
    let r = lanes_inj k (n * 2 ^ k + f b) (m * 2 ^ k + g b) f g l p.1 e in
    let s = same_lane (2 ^ k) n m (f b) (g b) p.0.0 p.0.1 r.0 in
    (s.0, (s.1, r.1))

-- ---- bytes and lanes of 8 bits

pub bytes_small : (k w : ℕ) (l : List ℕ) → Each (λ b. b < 256) l → Each (λ b. b < 256) (bytes_before k w l)
unfolding bytes_before
bytes_small zero w l p = p
bytes_small (suc k) w l p = bytes_small k (w / 256) (w % 256 ∷ l) (omega arith, p)

-- a number's bytes make it up
pub bytes_make_up : (k w : ℕ) (l : List ℕ) → w < 256 ^ k → lanes 8 0 (λ b. b) (bytes_before k w l) ≡ lanes 8 w (λ b. b) l
unfolding bytes_before lanes
bytes_make_up zero w l h = ap (λ (x : ℕ). lanes 8 x (λ b. b) l) (let z : 0 ≡ w = omega arith in z)
bytes_make_up (suc k) w l h =
    bytes_make_up k (w / 256) (w % 256 ∷ l) (let e = pow-suc 256 k in let z : w / 256 < 256 ^ k = omega arith in z)
    ∙ ap (λ (x : ℕ). lanes 8 x (λ b. b) l) (let z : w / 256 * 2 ^ 8 + w % 256 ≡ w = omega arith in z)

-- what makes a number up are its bytes
pub lanes_bytes : (f : ℕ → ℕ) (l r : List ℕ) (k n w : ℕ) → k ≡ length l + n → Each (λ b. f b < 256) l
    → bytes_before k (lanes 8 w f l) r ≡ bytes_before n w (map f l ++ r)
unfolding bytes_before lanes
lanes_bytes f [] r k n w e p = ap (λ (j : ℕ). bytes_before j w r) (let z : k ≡ n = omega arith in z)
lanes_bytes f (b ∷ l) r k n w e p =
    lanes_bytes f l r k (suc n) (w * 2 ^ 8 + f b) (omega arith) p.1
    ∙ ap₂ (λ (x y : ℕ). bytes_before n x (y ∷ (map f l ++ r))) (digits_div w p.0) (digits_mod w p.0)

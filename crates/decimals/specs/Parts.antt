-- What the parts of the long division give: the contracts of the crate's own functions, which Decimals.antt does not
-- use.
use Rattle.std.specs.Prelude.{◌≡◌, ℕ, ◌+◌, ◌*◌, ◌^◌, ◌≤◌, ◌<◌}

-- the divisor d is made e = d * 2 ^ b, so that n / e is below 2 ^ 53
pub record WidenedTo (n d e b : ℕ) : Type 0 where
  pub is : e ≡ d * 2 ^ b
  pub least : 0 < e
  pub most : e ≤ 2 ^ 42
  pub turns : b ≤ 11
  pub fits : n < 2 ^ 53 * e

-- z more binary digits of a quotient by e: where n * 2 ^ a was q * e + r, n * 2 ^ a' is q' * e + r'
pub record MoreDigits (e z q r a q' r' a' : ℕ) : Type 0 where
  pub is : q' * e + r' ≡ (q * e + r) * 2 ^ z
  pub rest : r' < e
  pub turns : a' ≡ a + z

-- n / e to 53 binary digits: the quotient q of n * 2 ^ a, and its rest
pub record DividedTo (n e q r a : ℕ) : Type 0 where
  pub is : n * 2 ^ a ≡ q * e + r
  pub rest : r < e
  pub least : 2 ^ 52 ≤ q
  pub most : q < 2 ^ 53
  pub turns : a ≤ 52

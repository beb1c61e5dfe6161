-- Bytes taken, and texts handed to write: what can still be counted, and a step more of a chunk. Assumes nothing.
use mathlib.Core.List.{List}
use mathlib.Core.Path.{◌≡◌, ap, ◌∙◌}
use Prim.Native.Nat.{ℕ, ◌+◌, ◌-◌, ◌*◌, ◌≤◌}
use native.Mathlib.Nat.{mul-add}
use native.Mathlib.Omega.{arith}
use lib.ListN.{length, take}
use lib.Seq.{length-take-le}
use Rattle.input_lines.specs.Taking.{Place, Hands}
use Rattle.input_lines.proofs.Taking.{Laws, next_handed}
use Rattle.line_runs.specs.declared.Step.{Step}
use Rattle.line_runs.specs.Runs.{Steps}

sums : (handed total text a b c : ℕ) → total ≡ handed + text → text ≤ b → handed ≤ a → c ≡ a + b → total ≤ c
sums handed total text a b c e f g h = omega arith

-- of more bytes no less
pub counted_within : (most : ℕ) {total : ℕ} (i n : ℕ) → total ≤ most * i → i ≤ n → total ≤ most * n
counted_within most {total} i n c l =
    let e : n ≡ i + (n - i) = omega arith in
    sums total total 0 (most * i) (most * (n - i)) (most * n) (omega arith) (omega arith) c
    (ap (λ (k : ℕ). most * k) e ∙ mul-add most i (n - i))

module _ {Memory : Type 0} {Answered : Memory → List (List ℕ) → List ℕ → Memory → Type 0} {Stays : Memory → ℕ → Memory → Type 0} {most : ℕ}
  where
    -- what was handed to write, by how many bytes were taken
    pub still_counted : {p q : Place Memory} {bytes : List ℕ} {handed total : ℕ} (n : ℕ) → Hands Answered Stays most p bytes q handed total
        → handed ≤ most * n → total ≤ most * (n + length bytes)
    still_counted {bytes = bytes} {handed} {total} n h c =
        sums handed total (length h.text) (most * n) (most * length bytes) (most * (n + length bytes)) h.counts h.takes.short c
        (mul-add most n (length bytes))

    -- a step more of a chunk: what the first bytes of `out` are, was handed to write
    pub next_step : Laws Answered Stays → {p q r : Place Memory} {s t : Step} (chunk : List ℕ) {out : List ℕ} {handed : ℕ}
        → Hands Answered Stays most p (take s.taken chunk) q handed s.handed → Steps Answered Stays most q r s t chunk out
        → Hands Answered Stays most p (take t.taken chunk) r handed t.handed
    next_step laws {s = s} {t = t} chunk {out} h n =
        let m = n.more in let c = n.counts in let l = length-take-le t.written out n.room in
        next_handed laws chunk s.taken t.taken (omega arith) h
        (record { text = take t.written out; takes = n.takes; counts = omega arith })

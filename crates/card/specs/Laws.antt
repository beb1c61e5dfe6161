-- The laws of `line_runs::Answers`, which replies keep.
use mathlib.Core.Path.{◌≡◌, refl}
use Prim.Native.Nat.{ℕ, ◌≤◌}
use native.Mathlib.Omega.{arith}
use Rattle.input_lines.proofs.Taking.{Laws}
use Rattle.inputs.specs.Inputs.{reply_bytes}
use Rattle.inputs.proofs.Taking.{laws as lent_laws}
use Rattle.card.specs.declared.Replying.{Replying}
use Rattle.card.specs.Program.{lent_at, told, Ready, AnsweredOver, StaysOver}

pub laws : Laws AnsweredOver StaysOver
laws =
    record {
      no_lines = λ m. record { answered = lent_laws.no_lines (lent_at m) };
      then_lines = λ m n o l k x y p q.
          record { answered = lent_laws.then_lines (lent_at m) (lent_at n) (lent_at o) l k x y p.answered q.answered };
      still = λ m i. record { lengths = lent_laws.still (lent_at m) i };
      then_stays = λ m n o i j p q.
          record { lengths = lent_laws.then_stays (lent_at m) (lent_at n) (lent_at o) i j p.lengths q.lengths };
    }

pub still_ready : (m n : Replying) (i j : ℕ) → Ready m → StaysOver m j n → Ready n
still_ready m n i j r s =
    let a = r.0 in let b = r.1 in let e = s.lengths.numbers in let f = s.lengths.counts in (omega arith, omega arith)

pub told_stays : (m n : Replying) (i : ℕ) → StaysOver m i n → told ≡ told
told_stays m n i s = refl

pub few : reply_bytes ≤ 1050
few = omega arith

-- Nothing read is nothing taken; else the bytes read are a chunk.
use mathlib.Core.List.{List}
use mathlib.Core.Bool.{true, false}
use mathlib.Core.Path.{◌≡◌, refl, sym, ap, ◌∙◌}
use Prim.Native.Nat.{ℕ, ◌+◌, ◌≤◌}
use native.Mathlib.Omega.{arith}
use borrow.Author.Tests.{le-leb}
use Rattle.std.specs.Prelude.{Option}
use lib.ListN.{length, take}
use lib.Seq.{take-take, length-take-le}
use Rattle.input_lines.specs.Taking.{Place}
use Rattle.input_lines.proofs.Taking.{Laws, none_handed}
use Rattle.reads.specs.Reads.{brought}
use Rattle.line_runs.specs.declared.Step.{Step}
use Rattle.line_runs.specs.declared.Turn.{Turn}
use Rattle.line_runs.specs.Runs.{TakesChunk, Turns}
use Rattle.line_runs.proofs.take_turn.Goals as goal

module _ {Memory : Type 0} {Answered : Memory → List (List ℕ) → List ℕ → Memory → Type 0} {Stays : Memory → ℕ → Memory → Type 0} {most : ℕ}
    (laws : Laws Answered Stays) {p : Place Memory} (t : Turn) {chunk : List ℕ} {got : Option ℕ} {n : ℕ} (b : n ≡ brought got) where
  nothing_read : n ≡ 0
      → Turns Answered Stays most p p t
      (record { state = t.state; got = got; read = t.read; handed = t.handed; all = true; more = false }) chunk
  nothing_read z =
      let e : brought got ≡ 0 = omega arith in
      record {
        most_brought = omega arith;
        reads = omega arith;
        taken = 0;
        hands = none_handed laws;
        some = omega arith;
        all = λ _. omega arith;
        goes = rw e refl;
      }

  -- n bytes were read
  some_read : {q : Place Memory} {r : Step} → n ≤ length chunk → n ≡ length (take n chunk) → (n ≡ 0 → ⊥)
      → TakesChunk Answered Stays most p q (take n chunk) t.handed r
      → Turns Answered Stays most p q t
      (record { state = r.state; got = got; read = t.read + n; handed = r.handed; all = r.all; more = r.all }) chunk
  some_read {q} {r} h e z v =
      let m = v.some in
      let some : r.taken ≤ n = omega arith in
      record {
        most_brought = omega arith;
        reads = omega arith;
        taken = r.taken;
        hands = rw (take-take r.taken n chunk some) at v.hands;
        some = omega arith;
        all = λ a. v.all a ∙ sym e ∙ b;
        goes = rw (le-leb 1 (brought got) (omega arith)) refl;
      }

pub returns-then-n-eq0 : goal.returns-then-n-eq0
returns-then-n-eq0 g c = nothing_read g.T.Answers.laws c.args.t c.unwrap_or-n.ensures c.if-n-eq0.true

pub take_chunk-step-requires : goal.take_chunk-step-requires
take_chunk-step-requires g c =
    let b = c.unwrap_or-n.ensures in let h = c.read-got.ensures.answers in let z = c.if-n-eq0.false in
    let within : c.unwrap_or-n.result ≤ length c.read-got.new.chunk = omega arith in
    let e = length-take-le c.unwrap_or-n.result c.read-got.new.chunk within in
    let l = c.read-got.auto.chunk in let d = c.requires.0 in let m = d.most in
    (record { line = d.line; within = d.within; some = omega arith; most = omega arith }, c.requires.1, c.requires.3)

pub returns : goal.returns
returns g c =
    let b = c.unwrap_or-n.ensures in let h = c.read-got.ensures.answers in
    let within : c.unwrap_or-n.result ≤ length c.read-got.new.chunk = omega arith in
    some_read g.T.Answers.laws c.args.t b within (sym (length-take-le c.unwrap_or-n.result c.read-got.new.chunk within))
    c.if-n-eq0.false c.take_chunk-step.ensures

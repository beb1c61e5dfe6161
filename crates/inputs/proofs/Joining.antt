-- From `no_line`'s state on, however the input is cut and wherever `feed` stops and is called again: with `finish` at the end, all that was
-- appended is `replies_to` all chunks joined, and scratch and engine are as their lines left them, one after the other. Assumes nothing.
use mathlib.Core.List.{List, [], ◌++◌, append-nil, append_assoc}
use mathlib.Core.Path.{◌≡◌, refl, sym, ap, ◌∙◌}
use Prim.Native.Nat.{ℕ, ◌≤◌}
use lib.ListN.{length, take, drop, take-append-drop}
use lib.Seq.{drop_at, length-take-le}
use Rattle.texts.specs.Appended.{Appended}
use Rattle.input_lines.specs.Lines.{begun_after, lines_of}
use Rattle.input_lines.specs.Taking.{Begun}
use Rattle.input_lines.proofs.Taking.{none, also}
use Rattle.inputs.specs.States.{Place, memory_at, Answered, Takes, Finishes}
use Rattle.inputs.specs.Calls.{appended_in, Calls, begins, reads, feeds}
use Rattle.inputs.proofs.Taking.{laws, then_answered}

-- what was appended stands after the n bytes
appended_in_lem : (before text after : List ℕ) (n w : ℕ) → n ≤ length before → Appended before n text after w → appended_in after n w ≡ text
appended_in_lem before text after n w h a = ap (drop n) a.holds ∙ drop_at (take n before) text n (length-take-le n before h)

-- what the calls so far took of the input
record SoFar (first : Place) (rest : List ℕ) (p : Place) (input replied : List ℕ) : Type 0 where
  begins : Begun first []
  bytes : List ℕ
  whole : input ≡ bytes ++ rest
  takes : Takes first bytes p replied

so_far : {first : Place} {rest : List ℕ} {p : Place} {input replied : List ℕ} → Calls first rest p input replied
    → SoFar first rest p input replied
so_far {first = first} (begins k) = record { begins = k first.buffer; bytes = []; whole = refl; takes = none laws }
so_far (reads bytes p input replied c) =
    let v = so_far c in
    let whole = ap (λ (l : List ℕ). l ++ bytes) (v.whole ∙ append-nil v.bytes) in
    record { begins = v.begins; bytes = v.bytes; whole = whole; takes = v.takes }
so_far (feeds rest p after input replied out written n r c h f) =
    let v = so_far c in
    let now = take r.taken rest in
    record {
      begins = v.begins;
      bytes = v.bytes ++ now;
      whole = v.whole ∙ ap (λ (l : List ℕ). v.bytes ++ l) (sym (take-append-drop r.taken rest))
          ∙ sym (append_assoc v.bytes now (drop r.taken rest));
      takes = rw (appended_in_lem out f.into.text written n r.written h f.into.appended) (also laws v.takes f.into.takes);
    }

pub however_called : {first p after : Place} {input replied out written : List ℕ} {n w : ℕ}
    → Calls first [] p input replied → n ≤ length out → Finishes p after out n written w
    → Answered (memory_at first) (lines_of input) (replied ++ appended_in written n w) (memory_at after)
however_called {out = out} {written = written} {n = n} {w = w} c h f =
    let v = so_far c in
    rw (appended_in_lem out f.text written n w h f.appended, v.whole, append-nil v.bytes)
    (then_answered (v.takes.answers [] v.begins) (f.answers (begun_after [] v.bytes) (v.takes.keeps [] v.begins)))

-- Bytes taken: none, a line's, its newline, and more after others; whatever answers the lines, as long as lines after others are answered
-- as all of them. Assumes nothing.
use mathlib.Core.List.{List, [], ◌∷◌, ◌++◌}
use mathlib.Core.Path.{◌≡◌, refl, sym, ap, ◌∙◌}
use Prim.Native.Nat.{ℕ, ◌+◌, ◌-◌, ◌*◌, ◌≤◌}
use native.Mathlib.Nat.{mul-add}
use native.Mathlib.Omega.{arith}
use borrow.Author.Tests.{eq-eqb}
use lib.ListN.{length, take, drop, length-append}
use lib.Seq.{take-add}
use Rattle.input_lines.specs.declared.KeptLine.{KeptLine}
use Rattle.input_lines.specs.Lines.{lines_within, begun_after}
use Rattle.input_lines.specs.Kept.{Keeps, KeepsLine}
use Rattle.input_lines.specs.Taking.{Place, Begun, Takes, Hands}
use Rattle.input_lines.proofs.Cutting.{begun_twice, lines_twice}

both_short : (most : ℕ) (a b x y : List ℕ) → length x ≤ most * length a → length y ≤ most * length b
    → length (x ++ y) ≤ most * length (a ++ b)
both_short most a b x y p q =
    by (length x) (length y) (most * length a) (most * length b) p q (length-append x y)
    (ap (λ (n : ℕ). most * n) (length-append a b) ∙ mul-add most (length a) (length b))
  where
    by : (i j m n : ℕ) → i ≤ m → j ≤ n → length (x ++ y) ≡ i + j → most * length (a ++ b) ≡ m + n → length (x ++ y) ≤ most * length (a ++ b)
    by i j m n p q e f = rw (e, f) (omega arith)

-- what answers no line, and lines after others; and what stays of the memory
pub record Laws {Memory : Type 0} (Answered : Memory → List (List ℕ) → List ℕ → Memory → Type 0) (Stays : Memory → ℕ → Memory → Type 0)
    : Type 0 where
  pub no_lines : (m : Memory) → Answered m [] [] m
  pub then_lines : (m n o : Memory) (l k : List (List ℕ)) (x y : List ℕ)
      → Answered m l x n → Answered n k y o → Answered m (l ++ k) (x ++ y) o
  pub still : (m : Memory) (i : ℕ) → Stays m i m
  pub then_stays : (m n o : Memory) (i j : ℕ) → Stays m i n → Stays n j o → Stays m (i + j) o

module _ {Memory : Type 0} {Answered : Memory → List (List ℕ) → List ℕ → Memory → Type 0} {Stays : Memory → ℕ → Memory → Type 0} {most : ℕ}
    (laws : Laws Answered Stays) where
  pub none : {p : Place Memory} → Takes Answered Stays most p [] p []
  unfolding begun_after lines_within
  none {p} =
      record {
        answers = λ begun k. laws.no_lines p.memory;
        keeps = λ begun k. k;
        short = omega arith;
        within = λ h. h;
        buffers = refl;
        stays = laws.still p.memory 0;
      }

  pub also : {p q r : Place Memory} {a b x y : List ℕ} → Takes Answered Stays most p a q x → Takes Answered Stays most q b r y
      → Takes Answered Stays most p (a ++ b) r (x ++ y)
  also {p} {q} {r} {a} {b} {x} {y} s t =
      record {
        answers = λ begun k.
            rw (lines_twice begun a b)
            (laws.then_lines p.memory q.memory r.memory (lines_within begun a) (lines_within (begun_after begun a) b) x y
            (s.answers begun k) (t.answers (begun_after begun a) (s.keeps begun k)));
        keeps = λ begun k. rw (begun_twice begun a b) (t.keeps (begun_after begun a) (s.keeps begun k));
        short = both_short most a b x y s.short t.short;
        within = λ h. t.within (s.within h);
        buffers = t.buffers ∙ s.buffers;
        stays = rw (length-append a b) (laws.then_stays p.memory q.memory r.memory (length a) (length b) s.stays t.stays);
      }

  -- the bytes of a line, in which none ends
  pub line_taken : {p : Place Memory} {after bytes : List ℕ} {r : KeptLine} → KeepsLine p.buffer after p.state bytes r
      → length after ≡ length p.buffer
      → Takes Answered Stays most p (take r.taken bytes) (record { buffer = after; state = r.state; memory = p.memory }) []
  line_taken {p} {bytes = bytes} {r = r} k e =
      record {
        answers = λ begun g. rw (k.none_ends begun) (laws.no_lines p.memory);
        keeps = k.keeps;
        short = omega arith;
        within = λ _. k.within;
        buffers = e;
        stays = laws.still p.memory (length (take r.taken bytes));
      }

  -- its newline
  pub newline_taken : {p q : Place Memory} {text : List ℕ} (b : ℕ) → b ≡ 10 → ((buffer : List ℕ) → Keeps buffer q.state [])
      → ((begun : List ℕ) → Begun p begun → Answered p.memory (begun ∷ []) text q.memory) → length text ≤ most
      → length q.buffer ≡ length p.buffer → Stays p.memory 1 q.memory → Takes Answered Stays most p (b ∷ []) q text
  unfolding begun_after lines_within
  newline_taken {p} {q} b h empty answered short buffers stays =
      let z = eq-eqb b 10 h in let c = (empty []).count in
      record {
        answers = λ begun k. rw z (answered begun k);
        keeps = λ begun k. rw z (empty q.buffer);
        short = omega arith;
        within = λ _. omega arith;
        buffers = buffers;
        stays = stays;
      }

  -- the text handed to write
  pub none_handed : {p : Place Memory} {handed : ℕ} → Hands Answered Stays most p [] p handed handed
  none_handed = record { text = []; takes = none; counts = omega arith }

  pub also_handed : {p q r : Place Memory} {a b : List ℕ} {n m w : ℕ} → Hands Answered Stays most p a q n m
      → Hands Answered Stays most q b r m w → Hands Answered Stays most p (a ++ b) r n w
  also_handed s t =
      let e = s.counts in let f = t.counts in let l = length-append s.text t.text in
      record { text = s.text ++ t.text; takes = also s.takes t.takes; counts = omega arith }

  -- the bytes of a chunk up to place j, after those up to place i
  pub next_handed : {p q r : Place Memory} (chunk : List ℕ) (i j : ℕ) {n m w : ℕ} → i ≤ j → Hands Answered Stays most p (take i chunk) q n m
      → Hands Answered Stays most q (take (j - i) (drop i chunk)) r m w → Hands Answered Stays most p (take j chunk) r n w
  next_handed chunk i j h s t =
      let e : i + (j - i) ≡ j = omega arith in
      let whole : take j chunk ≡ take i chunk ++ take (j - i) (drop i chunk) =
      ap (λ (k : ℕ). take k chunk) (sym e) ∙ take-add i (j - i) chunk in
      rw whole (also_handed s t)

-- The figures that templates take from a line are f64s: a word is the f64 of its bits, or the one nearest to a decimal. By following the
-- reading. Assumes nothing.
use mathlib.Core.Bool.{Bool, true, false, not, ◌&&◌}
use mathlib.Core.List.{List, [], ◌∷◌, ◌++◌}
use Prim.Native.Nat.{ℕ, zero, suc, ◌+◌, ◌*◌, ◌^◌}
use lib.Dec.{T, leb, ltb, eqb}
use lib.ListN.{length, take, drop}
use lib.Ieee.{Float, binary64, fits}
use lib.Ieee.Fits.{nan-fits, round-fits}
use lib.Ieee.Bits.{of_bits-fits}
use Rattle.floats.specs.Operations.{at}
use Rattle.std.specs.Prelude.{Option, Some, None}
use Rattle.hexadecimal.specs.Hex.{digit_value, read_digits, figure_of}
use Rattle.hexadecimal.specs.Hex as hex
use Rattle.counts.specs.Counts.{count_of, capped_count}
use Rattle.tokens.specs.Text.{text}
use Rattle.tokens.specs.Tokens.{line_bytes, tokens}
use Rattle.figure_words.specs.FigureWords.{leading_digits, behind_digits, number_from}
use Rattle.figure_words.specs.FigureWords.{digits_figure, unsigned_figure, decimal_figure, figure_word}
use Rattle.templates.specs.Matching.{Taken, Reading, failed, reading, pick, spoil, same_bytes, is_word}
use Rattle.templates.specs.Matching.{take_figure, take_count, take_word, take_one}
use Rattle.templates.specs.Matching.{while_fits, take_times, take_token, take_tokens, take_text, or_else, numbered, first_of, optional}

-- an f64, and a list of them; past its end stands a NaN, which is one too
abbrev pub F64 : Float → Type 0
F64 x = T (fits binary64 x)

abbrev pub AllF64 : List Float → Type 0
AllF64 l = (i : ℕ) → F64 (at l i)

pub no_figures : AllF64 []
no_figures i = nan-fits binary64

with_one : (l : List Float) (x : Float) → AllF64 l → F64 x → AllF64 (l ++ (x ∷ []))
with_one [] x e f zero = f
with_one [] x e f (suc i) = nan-fits binary64
with_one (y ∷ l) x e f zero = e 0
with_one (y ∷ l) x e f (suc i) = with_one l x (λ j. e (suc j)) f i

pub take_f64 : (n : ℕ) (l : List Float) → AllF64 l → AllF64 (take n l)
take_f64 zero l e i = nan-fits binary64
take_f64 (suc n) [] e i = nan-fits binary64
take_f64 (suc n) (x ∷ l) e zero = e 0
take_f64 (suc n) (x ∷ l) e (suc i) = take_f64 n l (λ j. e (suc j)) i

pub drop_f64 : (n : ℕ) (l : List Float) → AllF64 l → AllF64 (drop n l)
drop_f64 zero l e i = e i
drop_f64 (suc n) [] e i = nan-fits binary64
drop_f64 (suc n) (x ∷ l) e i = drop_f64 n l (λ j. e (suc j)) i

-- ---- a word
abbrev FigureF64 : Option Float → Type 0
FigureF64 (Some x) = F64 x
FigureF64 None = Unit {0}

if_figure : (b : Bool) (f : Option Float) → FigureF64 f → FigureF64 (hex.pick b f None)
if_figure true f e = e
if_figure false f e = tt

one_figure : (b : Bool) (f g : Option Float) → FigureF64 f → FigureF64 g → FigureF64 (hex.pick b f g)
one_figure true f g e h = e
one_figure false f g e h = h

digits_read : (word : List ℕ) (n : ℕ) → FigureF64 (read_digits word n)
unfolding read_digits
digits_read [] n = of_bits-fits binary64 n
digits_read (b ∷ word) n = if_figure (ltb (digit_value b) 16) _ (digits_read word (n * 16 + digit_value b))

digits_figure_lem : (bare minus : Bool) (n c : ℕ) (l : List ℕ) → FigureF64 (digits_figure bare minus n c l)
digits_figure_lem bare minus n c [] = if_figure (leb 1 c && leb c 19 && not (bare && eqb c 16)) _ (round-fits binary64 minus n (10 ^ 0))
digits_figure_lem bare minus n c (b ∷ l) =
    let k = length (leading_digits l) in
    if_figure (eqb b 46 && leb 1 c && leb 1 k && leb (c + k) 19 && eqb (length (behind_digits l)) 0) _
    (round-fits binary64 minus (number_from n (leading_digits l)) (10 ^ k))

unsigned_figure_lem : (bare minus : Bool) (l : List ℕ) → FigureF64 (unsigned_figure bare minus l)
unfolding unsigned_figure
unsigned_figure_lem bare minus l =
    digits_figure_lem bare minus (number_from 0 (leading_digits l)) (length (leading_digits l)) (behind_digits l)

decimal_figure_lem : (word : List ℕ) → FigureF64 (decimal_figure word)
unfolding decimal_figure
decimal_figure_lem [] = tt
decimal_figure_lem (b ∷ l) =
    one_figure (eqb b 43) _ _ (unsigned_figure_lem false false l)
    (one_figure (eqb b 45) _ _ (unsigned_figure_lem false true l) (unsigned_figure_lem true false (b ∷ l)))

word_f64 : (word : List ℕ) → FigureF64 (figure_word word)
unfolding figure_word figure_of
word_f64 [] = tt
word_f64 (b ∷ l) = one_figure (eqb b 35) _ _ (if_figure (eqb (length l) 16) _ (digits_read l 0)) (decimal_figure_lem (b ∷ l))

-- ---- what was taken from a line
abbrev pub Held : Reading → Type 0
Held failed = Unit {0}
Held (reading ts t) = AllF64 t.figures

abbrev pub Keeps : (Reading → Reading) → Type 0
Keeps step = (r : Reading) → Held r → Held (step r)

pub picked : (b : Bool) (x y : Reading) → Held x → Held y → Held (pick b x y)
picked true x y e h = e
picked false x y e h = h

figure_taken : (f : Option Float) → FigureF64 f → (w : List ℕ) (ts : List (List ℕ)) (t : Taken) → AllF64 t.figures
    → Held (take_figure f w ts t)
figure_taken (Some x) f w ts t e = with_one t.figures x e f
figure_taken None f w ts t e = picked (is_word w) (reading ts (spoil t)) failed e tt

count_taken : (c : Option ℕ) (ts : List (List ℕ)) (t : Taken) → AllF64 t.figures → Held (take_count c ts t)
count_taken (Some n) ts t e = e
count_taken None ts t e = tt

pub one_taken : (p : List ℕ) → Keeps (take_one p)
unfolding take_one take_word
one_taken p failed e = tt
one_taken p (reading [] t) e = tt
one_taken p (reading (w ∷ ts) t) e =
    picked (same_bytes p (text "F")) _ _ (figure_taken (figure_word w) (word_f64 w) w ts t e)
    (picked (same_bytes p (text "N")) _ _ (count_taken (capped_count (count_of w)) ts t e) (picked (same_bytes p w) (reading ts t) failed e tt))

went_on : (x before : Reading) (g : Reading → Reading) → Held x → Held before → Keeps g → Held (while_fits x before g)
went_on failed before g e b k = b
went_on (reading ts t) before g e b k = k (reading ts t) e

pub times_taken : (n : ℕ) (step : Reading → Reading) → Keeps step → Keeps (take_times n step)
unfolding take_times
times_taken zero step k r e = e
times_taken (suc n) step k r e = went_on (step r) r (take_times n step) (k r e) e (times_taken n step k)

token_taken : (p : List ℕ) → Keeps (take_token p)
unfolding take_token
token_taken p r e =
    picked (same_bytes p (text "F..")) _ _ (times_taken line_bytes (take_one (text "F")) (one_taken (text "F")) r e) (one_taken p r e)

tokens_taken : (ps : List (List ℕ)) → Keeps (take_tokens ps)
unfolding take_tokens
tokens_taken [] r e = e
tokens_taken (p ∷ ps) r e = tokens_taken ps (take_token p r) (token_taken p r e)

pub text_taken : (template : List ℕ) → Keeps (take_text template)
unfolding take_text
text_taken template r e = tokens_taken (tokens template) r e

either : (x y : Reading) → Held x → Held y → Held (or_else x y)
either failed y e h = h
either (reading ts t) y e h = e

noted : (k : ℕ) → Keeps (numbered k)
noted k failed e = tt
noted k (reading ts t) e = e

pub first_taken : (k : ℕ) (templates : List (List ℕ)) → Keeps (first_of k templates)
unfolding first_of
first_taken k [] r e = tt
first_taken k (template ∷ templates) r e =
    either (numbered k (take_text template r)) _ (noted k (take_text template r) (text_taken template r e))
    (first_taken (suc k) templates r e)

pub left_out : (templates : List (List ℕ)) → Keeps (optional templates)
left_out templates r e = either (first_of 1 templates r) (numbered 0 r) (first_taken 1 templates r e) (noted 0 r e)

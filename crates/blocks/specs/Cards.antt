-- The block of an answer (docs/FORMS.md has the answers and the refusals' sentences): a table of what each answer looks
-- like and what is shown for it.
use Rattle.std.specs.Prelude.{List, [], ◌∷◌, ◌++◌, Bool, ◌&&◌, ◌||◌, cond, ℕ, ◌+◌, ◌≤◌, eqb, leb, length, drop, Float}
use Rattle.std.specs.Float.Ieee.{neg, lt, eq}
use Rattle.floats.specs.Operations.{◌⊗◌, bits, at}
use Rattle.floats.specs.Floats.{abs_of, max_of}
use Rattle.counts.specs.Counts.{count_text}
use Rattle.tokens.specs.Text.{text}
use Rattle.blocks.specs.Words.{shape_in, figures_in, counts_in}
use Rattle.blocks.specs.Tables.{text_for}
use Rattle.blocks.specs.Filled.{Marks, of_first, plain_piece, plain, filled, plain_most}

-- parts of a text, one after the other
abbrev pub all : List (List ℕ) → List ℕ
all [] = []
all (t ∷ ts) = t ++ all ts

-- the end of a line
abbrev pub newline : List ℕ
newline = 10 ∷ []

-- "m²" in UTF-8
abbrev pub square_metre : List ℕ
square_metre = 109 ∷ 194 ∷ 178 ∷ []

-- "kg·m²" in UTF-8
abbrev pub kilogram_square_metre : List ℕ
kilogram_square_metre = 107 ∷ 103 ∷ 194 ∷ 183 ∷ square_metre

-- ---- a body: its mass in g, its balance point in mm, and its tensor about that point in kg·m²

-- the largest magnitude of three figures, from place k on
abbrev pub largest_from : List Float → ℕ → Float
largest_from f k = max_of (max_of (abs_of (at f k)) (abs_of (at f (k + 1)))) (abs_of (at f (k + 2)))

-- the figure at place i beside the three from place k on: 0 where it is below 2^-40 of their largest, as the noise of
-- rounding is. Multiplying an f64 by 2^40 rounds nothing, unless to infinity.
unfoldable pub beside_from : List Float → ℕ → ℕ → Float
beside_from f k i = cond (lt (abs_of (at f i) ⊗ bits 0x4270_0000_0000_0000) (largest_from f k)) (bits 0) (at f i)

-- a length at place i, beside the centre's x, y and z
abbrev pub length_at : List Float → ℕ → Float
length_at f i = beside_from f 1 i

-- an entry of the tensor at place i, beside the diagonal
abbrev pub moment_at : List Float → ℕ → Float
moment_at f i = beside_from f 4 i

-- the mass, and how far aft the balance point lies: z points to the nose
abbrev pub mass_figures : List Float → List Float
mass_figures f = at f 0 ∷ neg (length_at f 3) ∷ []

unfoldable pub mass_line : List ℕ
mass_line = all (text "mass G g" ∷ newline ∷ text "balance point G mm aft of " ∷ [])

-- x and y of the balance point, and the tensor's diagonal: about the body's axis, which is z, and about x and y
abbrev pub moment_figures : List Float → List Float
moment_figures f = length_at f 1 ∷ length_at f 2 ∷ moment_at f 6 ∷ moment_at f 4 ∷ moment_at f 5 ∷ []

unfoldable pub moment_line : List ℕ
moment_line =
    all
    (text ", off the axis by G mm in x and G mm in y" ∷ newline
    ∷ text "moments about it: roll (zz) F, pitch (xx) F, yaw (yy) F " ∷ kilogram_square_metre ∷ newline
    ∷ [])

-- the tensor's xy, xz and yz, each beside the diagonal
abbrev pub mixed_figures : List Float → List Float
mixed_figures f = moment_at f 7 ∷ moment_at f 8 ∷ moment_at f 9 ∷ []

abbrev pub all_zero : Float → Float → Float → Bool
all_zero a b c = eq a (bits 0) && eq b (bits 0) && eq c (bits 0)

unfoldable pub mixed_line : List ℕ
mixed_line = all (text "mixed entries of the tensor: xy F, xz F, yz F " ∷ kilogram_square_metre ∷ newline ∷ [])

-- the mixed entries as text, or nothing where all of them are 0 beside the diagonal
abbrev pub mixed_text : List Float → List ℕ
mixed_text f =
    cond (all_zero (moment_at f 7) (moment_at f 8) (moment_at f 9)) [] (filled plain mixed_line (mixed_figures f) [])

-- the marks of a body: B (66), its mass and its balance point up to the name of the origin; C (67), the rest of that
-- line and the moments; D (68), the mixed entries
abbrev pub is_body_mark : ℕ → Bool
is_body_mark b = eqb b 66 || eqb b 67 || eqb b 68

-- what a mark of a body gives
abbrev pub body_piece : ℕ → List Float → List ℕ
body_piece b f =
    cond (eqb b 66) (filled plain mass_line (mass_figures f) [])
    (cond (eqb b 67) (filled plain moment_line (moment_figures f) [])
    (mixed_text f))

-- the most bytes that a mark of a body can give
abbrev pub body_most : ℕ → ℕ
body_most b = cond (eqb b 66) 130 (cond (eqb b 67) 330 200)

-- ---- the sentences of the refusals

unfoldable pub sentences : List (List ℕ)
sentences =
    text "1" ∷ text "the limit is not 1 to 64"
    ∷ text "2" ∷ text "the lent scratch is too short for the limit"
    ∷ text "3" ∷ text "the count of fins, of tubes, of joined points, of offsets or of places is not 1 to 32"
    ∷ text "4" ∷ text "a length is out of its limits"
    ∷ text "5" ∷ text "the outline is not 3 to 64 whole points"
    ∷ text "6" ∷ text "the outline does not begin at (0, 0), or does not end at (c, 0) with c > 0"
    ∷ text "7" ∷ text "the outline touches itself"
    ∷ text "8" ∷ text "there is no area or no volume"
    ∷ text "9" ∷ text "a cant, base angle or roll is not a number, or is beyond 4 rad"
    ∷ text "10" ∷ text "the tab begins ahead of the root or ends aft of it"
    ∷ text "11" ∷ text "the tab is higher than the body's radius"
    ∷ text "12" ∷ all (text "the density of the fins, of the tubes or of a fillet with a radius above 0 is not bulk, or is neither 0 nor 2^-10 to 2^15 kg/m" ∷ (194 ∷ 179 ∷ []) ∷ [])
    ∷ text "13" ∷ text "the sums did not settle within the limit's pieces, or cannot"
    ∷ text "15" ∷ text "a body's mass is negative or not finite"
    ∷ text "16" ∷ text "a body's centre is not finite"
    ∷ text "17" ∷ text "a body's tensor is none that a body can have"
    ∷ text "18" ∷ text "the line is none of the forms in docs/FORMS.md"
    ∷ text "19" ∷ text "a word where a figure belongs has neither shape of a figure, or is sixteen decimal digits alone"
    ∷ text "20" ∷ text "a tube's wall is thicker than its outer radius"
    ∷ text "21" ∷ text "the fin is thicker than its root chord is long"
    ∷ text "22" ∷ text "the fillet's radius is over 1000 times the body's, whatever its density"
    ∷ text "23" ∷ text "the screen is not 1 to 8, or already holds a job"
    ∷ text "24" ∷ text "an ellipse has no corners"
    ∷ text "25" ∷ text "a coordinate of the point or of a corner is no whole number of steps of 2^-20 m"
    ∷ text "26" ∷ text "the whole is not heavier than the part taken off, or a part is moved in a body of mass 0"
    ∷ []

-- the text t, or `other` where t has no byte
abbrev pub or_else : List ℕ → List ℕ → List ℕ
or_else t other = cond (leb 1 (length t)) t other

-- a refusal's number, and its sentence
abbrev pub refusal_text : ℕ → List ℕ
refusal_text n = count_text n ++ (text ": " ++ or_else (text_for (count_text n) sentences) (text "no number of the table"))

-- ---- blocks: a body's marks, and R (82) for a refusal

abbrev pub card_piece : ℕ → List Float → List ℕ → List ℕ
card_piece b figures counts =
    cond (is_body_mark b) (body_piece b figures)
    (cond (eqb b 82) (of_first refusal_text counts)
    (plain_piece b figures counts))

abbrev pub card : Marks
card = record { piece = card_piece; counts_after = λ b counts. cond (eqb b 78 || eqb b 82) (drop 1 counts) counts }

-- the most bytes that a byte of a block's text can give
abbrev pub card_most : ℕ → ℕ
card_most b = cond (is_body_mark b) (body_most b) (cond (eqb b 82) 180 (plain_most b))

-- what each answer looks like, and the text of its block
unfoldable pub cards : List (List ℕ)
cards =
    text "(figures (mass F) (centre F F F) (inertia F F F F F F) (intervals N) (samples N))" ∷ all (text "Bthe root's leading edgeCDpieces N, samples N" ∷ newline ∷ [])
    ∷ text "(joined (mass F) (centre F F F) (inertia F F F F F F))" ∷ text "Bthe originCD"
    ∷ text "(ring (mass F) (centre F F F) (inertia F F F F F F))" ∷ text "Bthe tubes' forward endCD"
    ∷ text "(body (mass F) (centre F F F) (inertia F F F F F F))" ∷ text "Bthe originCD"
    ∷ text "(refused N)" ∷ all (text "refused R" ∷ newline ∷ [])
    ∷ text "(area (area F) (centroid F F) (intervals N) (samples N))"
    ∷ all (text "area F " ∷ square_metre ∷ newline ∷ text "centroid G mm aft of the root's leading edge, G mm above the root" ∷ newline ∷ text "pieces N, samples N" ∷ newline ∷ [])
    ∷ text "(moments F F F)" ∷ all (text "principal moments F, F, F " ∷ kilogram_square_metre ∷ newline ∷ [])
    ∷ text "(closing F)" ∷ all (text "the ring closes at an outer radius of G mm" ∷ newline ∷ [])
    ∷ text "(sound)" ∷ all (text "the body is sound" ∷ newline ∷ [])
    ∷ text "(inside N)" ∷ all (text "inside; the nearest corner is N" ∷ newline ∷ [])
    ∷ text "(edge N)" ∷ all (text "on the edge; the nearest corner is N" ∷ newline ∷ [])
    ∷ text "(outside N)" ∷ all (text "outside; the nearest corner is N" ∷ newline ∷ [])
    ∷ text "(taken)" ∷ all (text "taken" ∷ newline ∷ [])
    ∷ text "(idle)" ∷ all (text "no screen has a job" ∷ newline ∷ [])
    ∷ text "(more N)" ∷ all (text "screen N: more to come" ∷ newline ∷ [])
    ∷ text "(done N (figures (mass F) (centre F F F) (inertia F F F F F F) (intervals N) (samples N)))"
    ∷ all (text "screen N: done" ∷ newline ∷ text "Bthe root's leading edgeCDpieces N, samples N" ∷ newline ∷ [])
    ∷ text "(done N (refused N))" ∷ all (text "screen N: refused R" ∷ newline ∷ [])
    ∷ text "(progress (worked N) (strips N) (intervals N) (samples N))" ∷ all (text "N of N strips worked; pieces N, samples N so far" ∷ newline ∷ [])
    ∷ []

-- the most bytes that an answer has: a longer line is none
abbrev pub longest_answer : ℕ
longest_answer = 512

-- what is shown for a line that is no answer
abbrev pub no_answer : List ℕ
no_answer = all (text "no answer of the card program" ∷ newline ∷ [])

-- what is shown for an answer's shape, figures and counts: the block of the answer that looks so, and an empty line
abbrev pub shown : List ℕ → List Float → List ℕ → List ℕ
shown shape figures counts = or_else (filled card (text_for shape cards) figures counts) no_answer ++ newline

-- the block of a line, whatever its bytes
unfoldable pub block_of : List ℕ → List ℕ
block_of line =
    cond (leb (length line) longest_answer)
    (shown (shape_in line) (figures_in line) (counts_in line)) (no_answer ++ newline)

-- the most bytes that a block has
abbrev pub block_bytes : ℕ
block_bytes = 1024

-- a buffer has room for a block after its first n bytes
abbrev pub BlockFits : ℕ → List ℕ → Type 0
BlockFits n out = n + block_bytes ≤ length out

-- the block with its line's number above it, so that a reader can pair them
unfoldable pub numbered_block : ℕ → List ℕ → List ℕ
numbered_block number line = text "line " ++ (count_text number ++ (newline ++ block_of line))

-- the most bytes that a numbered block has: "line ", a number of at most twenty digits, a newline and the block
abbrev pub numbered_bytes : ℕ
numbered_bytes = 26 + block_bytes

-- Words and what each is, computed: which are taken, by their bits, and which are turned away. Assumes nothing.
use mathlib.Core.Bool.{Bool, true, false, ◌&&◌}
use mathlib.Core.List.{List, [], ◌∷◌}
use Prim.Native.Nat.{ℕ}
use Prim.Native.String.{String}
use lib.Dec.{T, eqb}
use lib.Ieee.{binary64, round, of_bits, to_bits}
use Rattle.tokens.specs.Text.{codes, text}
use Rattle.std.specs.Prelude.{Float, Option, Some, None}
use Rattle.hexadecimal.specs.Hex.{read_digits, figure_of}
use Rattle.figure_words.specs.FigureWords.{leading_digits, behind_digits, number_from, unsigned_figure, decimal_figure, figure_word}

pub data Word : Type 0 where
  taken : String → ℕ → Word
  not_taken : String → Word

abbrev is_taken_lem : Option Float → ℕ → Bool
is_taken_lem (Some x) b = eqb (to_bits binary64 x) b
is_taken_lem None b = false

abbrev is_turned_away : Option Float → Bool
is_turned_away (Some x) = false
is_turned_away None = true

abbrev holds : Word → Bool
holds (taken word b) = is_taken_lem (figure_word (text word)) b
holds (not_taken word) = is_turned_away (figure_word (text word))

abbrev pub all_hold : List Word → Bool
all_hold [] = true
all_hold (w ∷ ws) = holds w && all_hold ws

abbrev pub words : List Word
words =
    taken "0.0032" 0x3f6a_36e2_eb1c_432d ∷
    taken "-5" 0xc014_0000_0000_0000 ∷
    taken "+12.50" 0x4029_0000_0000_0000 ∷
    taken "-0.0" 0x8000_0000_0000_0000 ∷
    taken "9007199254740993.0" 0x4340_0000_0000_0000 ∷
    taken "932800531062987.7" 0x430a_8304_6267_065e ∷
    taken "+1234567890123456" 0x4311_8b54_f22a_eb00 ∷
    taken "9999999999999999999" 0x43e1_58e4_6091_3d00 ∷
    taken "#3ff0000000000000" 0x3ff0_0000_0000_0000 ∷
    not_taken "1234567890123456" ∷
    not_taken "3ff0000000000000" ∷
    not_taken "#3FF0000000000000" ∷
    not_taken "10000000000000000000" ∷
    not_taken "0.1234567890123456789" ∷
    not_taken ".5" ∷
    not_taken "5." ∷
    not_taken "1e3" ∷
    not_taken "1.2.3" ∷
    not_taken "+" ∷
    not_taken "--5" ∷
    not_taken "" ∷
    []

pub words_hold : T (all_hold words)
unfolding codes text round of_bits to_bits read_digits figure_of leading_digits behind_digits number_from unsigned_figure decimal_figure figure_word
words_hold = tt

-- `hexadecimal::all_digits` meets its contract: the letters of the values are the word again exactly where its bytes are digits. Assumes
-- nothing.
use native.Mathlib.Omega.{arith}
use Rattle.hexadecimal.proofs.Words.{values_small, letters_again}
use Rattle.hexadecimal.proofs.all_digits.Goals as goal

pub letters-requires : goal.letters-requires
letters-requires c = values_small c.args.w c.values.result c.values.ensures

pub returns : goal.returns
returns c = letters_again c.args.w c.values.result c.letters.result (omega arith)
    c.values.ensures c.letters.ensures

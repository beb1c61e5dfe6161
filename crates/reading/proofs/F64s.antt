-- The figures that a line asks with are f64s, whatever its form. By following the reading. Assumes nothing.
use mathlib.Core.List.{List}
use Prim.Native.Nat.{ℕ}
use Rattle.templates.specs.Matching.{Reading, failed, reading}
use Rattle.templates.proofs.F64s.{AllF64, no_figures, Held, Keeps, text_taken, first_taken, left_out}
use Rattle.reading.specs.Parts.{figures_in, take_planform, take_section, take_tab, take_fillet, take_density, take_set}
use Rattle.reading.specs.Lines.{start}

pub figures_f64 : (r : Reading) → Held r → AllF64 (figures_in r)
figures_f64 failed e = no_figures
figures_f64 (reading ts t) e = e

pub start_f64 : (line : List ℕ) → Held (start line)
start_f64 line = no_figures

pub set_f64 : Keeps take_set
unfolding take_set take_planform take_section take_tab take_fillet take_density
set_f64 r e =
    text_taken _ _
    (first_taken 1 _ _
    (text_taken _ _
    (left_out _ _
    (left_out _ _
    (text_taken _ _
    (first_taken 1 _ _
    (text_taken _ _
    (first_taken 1 _ _
    (text_taken _ _
    (text_taken _ r e))))))))))

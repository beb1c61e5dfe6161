-- `planform_chords::chords_at` meets its contract: by the planform's check. Assumes nothing.
use Rattle.std.proofs.Common.{◌≡◌, Err, rules}
use mathlib.Core.Path.{refl, sym, ◌∙◌}
use Rattle.planform_chords.proofs.Answer.{answered_so, listed_so}
use Rattle.planform_chords.proofs.chords_at.Goals as goal

pub returns-in_err-check_planform : goal.returns-in_err-check_planform
returns-in_err-check_planform c =
    let a = c.args in
    let refused : c.from_residual.result ≡ Err c.in_err-check_planform.field-0.0 = search rules in
    let both = answered_so a.planform a.points.now a.h a.ends.now _ _ _ (sym c.check_planform.ensures.is ∙ c.in_err-check_planform.was)
    (refused, refl) in
    record { chord_list = both.0; ends_after = both.1 }

pub returns : goal.returns
returns c =
    let a = c.args in
    let both = listed_so a.planform a.points.now a.h a.ends.now _ _
    (sym c.check_planform.ensures.is ∙ c.in_ok-check_planform.was)
    c.chords_found-found.result _ c.chords_found-found.ensures c.write_chords.ensures refl in
    record { chord_list = both.0; ends_after = both.1 }

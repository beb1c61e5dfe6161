-- `explanations::saves_here` meets its contract: from a space on, up to the next bar, stands an ending. Assumes nothing.
use mathlib.Core.List.{List}
use mathlib.Core.Bool.{Bool, ◌&&◌}
use mathlib.Core.Path.{refl, sym, ap, ◌∙◌}
use native.Mathlib.Omega.{arith}
use borrow.Author.Tests.{eq-eqb, ne_eqb}
use lib.ListN.{take, drop}
use Prim.Native.Nat.{ℕ}
use Rattle.explanations.specs.Endings.{first_text, to_bar, saves_with}
use Rattle.explanations.proofs.Wanting.{part_length}
use Rattle.explanations.proofs.saves_here.Goals as goal

pub returns-then-endings-j-ne32 : goal.returns-then-endings-j-ne32
returns-then-endings-j-ne32 c =
    let s = c.args in record {
      value = sym (ap (λ (t : Bool). t && saves_with s.fault (take s.n s.trial.now) (to_bar (drop s.j s.endings.now)))
          (ne_eqb _ _ c.if-endings-j-ne32.true));
      trial_unchanged = refl;
    }

pub saves_with-requires : goal.saves_with-requires
saves_with-requires c =
    let e = part_length c.args.endings.now c.args.j c.bar_end-end.result c.bar_end-end.ensures.behind
    c.bar_end-end.ensures.within in
    let g = c.bar_end-end.ensures.within in let h = c.requires.0 in
    omega (arith, e, g, h)

pub returns : goal.returns
returns c = record {
  value = c.saves_with.ensures.value
      ∙ ap (λ (t : List ℕ). saves_with c.args.fault (take c.args.n c.args.trial.now) t)
      (sym (ap first_text c.bar_end-end.ensures.cut))
      ∙ sym (ap (λ (t : Bool). t && saves_with c.args.fault (take c.args.n c.args.trial.now)
      (to_bar (drop c.args.j c.args.endings.now))) (eq-eqb _ _ c.if-endings-j-ne32.false));
  trial_unchanged = c.saves_with.ensures.trial_unchanged;
}

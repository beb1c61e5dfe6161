-- `templates::take_one_of` meets its contract: the alternatives that are left, from the number that is next on, are the
-- whole. Assumes nothing.
use mathlib.Core.Bool.{Bool, true, false, cond}
use mathlib.Core.List.{List, []}
use mathlib.Core.Path.{◌≡◌, refl, sym, ap, ◌∙◌}
use Prim.Native.Nat.{ℕ, suc, ◌+◌, ◌<◌, ◌≤◌}
use native.Mathlib.Numerals.{add-one}
use native.Mathlib.Omega.{arith}
use borrow.Author.Tests.{lt-ltb, le-ltb}
use lib.Dec.{ltb}
use lib.ListN.{length, drop}
use lib.Ieee.{Float}
use Rattle.tokens.specs.Found.{part}
use Rattle.templates.specs.declared.Cursor.{Cursor}
use Rattle.templates.specs.Matching.{Reading, take_text, or_else, numbered, first_of, one_of, cut_at_bars}
use Rattle.templates.specs.Cursors.{reading_at, Room, ReadsOn, not_aform, numbered_cursor, IsBarEnd}
use Rattle.templates.proofs.Steps.{stays, as_is}
use Rattle.templates.proofs.Choices.{fits, else_second, same_reading, meant_fits, room_again, note, first_fits}
use Rattle.templates.proofs.take_one_of.Goals as goal
use Rattle.templates.proofs.take_one_of.Invariants.{Trying}

module _ (line alternatives : List ℕ) (before : List Float) (c : Cursor) where
  abbrev from : Reading
  from = reading_at line before c

  begins : Room line before c → Trying line alternatives before before c 0 1
  begins m = record { place = omega arith; small = omega arith; whole = refl; kept = refl; room = m; same = refl }

  module _ (between : List Float) (i number end : ℕ) (v : Trying line alternatives before between c i number)
      (b : IsBarEnd alternatives i end) where
    abbrev more : List (List ℕ)
    more = cond (ltb end (length alternatives)) (cut_at_bars (drop (end + 1) alternatives)) []

    abbrev this : Reading → Reading
    this r = numbered number (take_text (part alternatives i end) r)

    split : one_of (cut_at_bars alternatives) from ≡ or_else (this from) (first_of (suc number) more from)
    unfolding first_of
    split = v.whole ∙ ap (λ (l : List (List ℕ)). first_of number l from) b.cut

    module _ (after : List Float) (r : Cursor)
        (o : ReadsOn line between after c r (take_text (part alternatives i end) (reading_at line between c))) where
      noted : ReadsOn line between after c (numbered_cursor number r) (this (reading_at line between c))
      noted = note line between after c r _ o number

      here : this (reading_at line between c) ≡ this from
      here = ap this (same_reading line before between c v.kept)

      it_fits : r.ok ≡ true → ReadsOn line before after c (numbered_cursor number r) (one_of (cut_at_bars alternatives) from)
      it_fits h =
          let f = first_fits line between after c (numbered_cursor number r) _ noted (first_of (suc number) more from) h in
          record {
            is = f.is ∙ ap (λ (x : Reading). or_else x (first_of (suc number) more from)) here ∙ sym split;
            kept = f.kept
                ∙ v.kept;
            grows = f.grows;
            room = f.room;
          }

      module _ (h : r.ok ≡ false) where
        passed : one_of (cut_at_bars alternatives) from ≡ first_of (suc number) more from
        passed = split ∙
            sym (else_second (this from) (first_of (suc number) more from)
            (ap fits (sym here) ∙ meant_fits line between after c (numbered_cursor number r) _ noted ∙ h))

        room : Room line after c
        room = room_again line between after c r _ o v.room

        was_last : length alternatives ≤ end → ReadsOn line before after c (not_aform c) (one_of (cut_at_bars alternatives) from)
        unfolding first_of
        was_last l =
            let s = stays line after c room _
            (sym (passed ∙ ap (λ (t : Bool). first_of (suc number) (cond t (cut_at_bars (drop (end + 1) alternatives)) []) from)
            (le-ltb end (length alternatives) l))) in
            record { is = s.is; kept = o.kept ∙ v.kept; grows = s.grows; room = s.room }

        next : end < length alternatives → length after ≡ length between → Trying line alternatives before after c (end + 1) (number + 1)
        next l e =
            let g = v.small in let a = b.behind in let q = v.same in
            record {
              place = omega arith;
              small = omega arith;
              whole = passed ∙ ap (λ (t : Bool). first_of (suc number) (cond t (cut_at_bars (drop (end + 1) alternatives)) []) from)
                  (lt-ltb end (length alternatives) l)
                  ∙ ap (λ (k : ℕ). first_of k (cut_at_bars (drop (end + 1) alternatives)) from) (sym (add-one number));
              kept = o.kept ∙ v.kept;
              room = room;
              same = omega arith;
            }

pub returns-then-r : goal.returns-then-r
returns-then-r c =
    as_is _ _ _ _ c.with_number.ensures refl
    (it_fits _ _ _ _ _ _ _ _ c.loop-c.invariant c.bar_end-end.ensures _ _ c.take_text-r.ensures c.if-r.true)

pub returns-then-alternatives-end : goal.returns-then-alternatives-end
returns-then-alternatives-end c =
    as_is _ _ _ _ c.not_a_form.ensures refl
    (was_last _ _ _ _ _ _ _ _ c.loop-c.invariant c.bar_end-end.ensures _ _ c.take_text-r.ensures c.if-r.false
    c.if-alternatives-end.true)

pub overflow_add-number : goal.overflow_add-number
overflow_add-number c =
    let v = c.loop-c.invariant.small in
    let p = c.loop-c.invariant.place in
    let r = c.requires.1 in
    omega arith

pub loop-c-preserved : goal.loop-c-preserved
loop-c-preserved c =
    next _ _ _ _ _ _ _ _ c.loop-c.invariant c.bar_end-end.ensures _ _ c.take_text-r.ensures c.if-r.false
    (let h : c.bar_end-end.result < length
    c.args.alternatives.now = omega arith in h) c.take_text-r.auto.values

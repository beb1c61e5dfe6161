-- Steps over the bodies of a list make what a fold of the list makes. Assumes nothing.
use Rattle.std.proofs.Common.{◌≡◌, ℕ, zero, suc, ◌≤◌, List, length, take, fold, refl, sym, ◌∙◌, ap, add-one, arith}
use Rattle.std.proofs.lemmas.List.{take_all}
use Rattle.std.proofs.lemmas.List.Sums.{fold_more}
use Rattle.bodies.specs.declared.Body.{Body}
use Rattle.bodies.specs.Bodies.{empty_body}
use Rattle.joins.specs.Joins.{in_order}
use Rattle.joins.specs.Lists.{body_in, add_each}

module _ {A : Type 0} (add : A → Body → A) (start : A) (bodies : List Body) where
  added_to : (k : ℕ) → k ≤ length bodies → fold add start (take k bodies) ≡ in_order add start (body_in bodies) k
  unfolding in_order
  added_to zero h = refl
  added_to (suc k) h =
      rw (sym (add-one k), fold_more add start bodies k empty_body (omega arith), added_to k (omega arith))

  pub added : {r : A} → r ≡ fold add start bodies → r ≡ add_each add start bodies
  added p = p ∙ ap (fold add start) (sym (take_all (length bodies) bodies (omega arith))) ∙ added_to (length bodies) (omega arith)

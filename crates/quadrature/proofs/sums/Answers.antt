-- `quadrature::sums` meets its contract: after j turns the sums are those of the first j samples. Assumes nothing.
use mathlib.Core.Path.{◌≡◌, sym, ◌∙◌}
use native.Mathlib.Omega.{arith}
use lib.ListN.{get_or}
use lib.Seq.{length-take-le}
use Rattle.floats.specs.Operations.{◌⊗◌, at}
use Rattle.limits.specs.Limits.{piece_samples}
use Rattle.chords.specs.declared.Chords.TheVariants.{Nothing}
use Rattle.chords.proofs.Answer.{several_outline}
use Rattle.integrands.specs.Integrands.{sample_of}
use Rattle.integrands.proofs.Sampled.{sampled}
use Rattle.quadrature.proofs.Tallies.{none_yet, one_more, all_summed}
use Rattle.quadrature.proofs.sums.Goals as goal

pub slice_bounds-chords_found-end : goal.slice_bounds-chords_found-end
slice_bounds-chords_found-end c = sym (length-take-le _ _ c.edges_near-n.ensures.room)

pub chords_found-found-requires : goal.chords_found-found-requires
chords_found-found-requires c = c.edges_near-n.ensures.holding

pub loop-j-init : goal.loop-j-init
loop-j-init c = none_yet _ _ _ _

-- only an outline has several chords, and the list has all of its crossings
pub values_over-y-requires : goal.values_over-y-requires
values_over-y-requires c =
    let a = c.args in
    let height = at c.sample_heights-heights.result c.loop-j.j in
    let found = c.chords_found-found.ensures c.loop-j.j (omega arith) in
    λ e. c.edges_near-n.ensures.holding c.loop-j.j (omega arith)
    (several_outline a.integrand.planform a.points.now (height ⊗ a.integrand.scale) (sym found ∙ e))

pub loop-j-preserved : goal.loop-j-preserved
loop-j-preserved c =
    let a = c.args in
    let height = at c.sample_heights-heights.result c.loop-j.j in
    -- over the chords found there lie the sample's values
    let valued : c.values_over-y.result ≡ sample_of a.integrand a.points.now height =
    sampled a.integrand a.points.now height (get_or c.chords_found-found.result c.loop-j.j Nothing) _
    (c.chords_found-found.ensures c.loop-j.j (omega arith)) c.values_over-y.ensures in
    one_more (sample_of a.integrand a.points.now) _ _ _ c.loop-j.j _ _ _ _ _ c.loop-j.invariant valued
    c.plus_weighted-k.ensures c.plus_weighted-g.ensures

pub returns : goal.returns
returns c =
    let e : c.loop-j.j ≡ piece_samples = omega arith in
    all_summed (sample_of c.args.integrand c.args.points.now) _ _ _ _ _ _ _ c.sample_heights-heights.ensures
    c.kronrod_weights-kw.ensures c.gauss_weights-gw.ensures _ e c.loop-j.invariant

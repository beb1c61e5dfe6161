-- `explanations::put_detail` meets its contract: by the number. Assumes nothing.
use native.Mathlib.Omega.{arith}
use borrow.Author.Tests.{eq-eqb, ne_eqb}
use lib.Dec.{lit≤}
use Rattle.tokens.specs.Text.{text, codes}
use Rattle.explanations.specs.Examples.{details}
use Rattle.explanations.specs.Explanations.{edges_text, detail_key}
use Rattle.templates.specs.Matching.{cut_at_bars}
use Rattle.blocks.specs.Tables.{text_for}
use Rattle.explanations.proofs.Ends.{edges_few, detail_few}
use Rattle.explanations.proofs.Wanting.{by_true, by_false}
use Rattle.explanations.proofs.put_detail.Goals as goal

pub returns-then-fault-eq7 : goal.returns-then-fault-eq7
returns-then-fault-eq7 c =
    let e = c.put_edges.ensures.ends in let f = edges_few c.args.fault in record {
      appended = by_true (text_for (detail_key c.args.fault) (cut_at_bars details)) (eq-eqb _ _ c.if-fault-eq7.true)
          c.put_edges.ensures;
      upper_bound = omega (arith, e, f);
    }

pub put_found-requires : goal.put_found-requires
unfolding details text codes
put_found-requires c =
    (c.requires, lit≤ tt, detail_few (detail_key c.args.fault))

pub returns : goal.returns
unfolding details text codes
returns c =
    let e = c.put_found.ensures.ends in
    let f = detail_few (detail_key c.args.fault) in record {
      appended = by_false (edges_text c.args.fault) (ne_eqb _ _ c.if-fault-eq7.false) c.put_found.ensures;
      upper_bound = omega (arith, e, f);
    }

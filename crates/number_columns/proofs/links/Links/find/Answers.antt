use Rattle.std.proofs.Common.{◌≡◌, ◌∙◌, ◌<◌, ◌≤◌, ℕ, length, sym, ap, arith}
use Rattle.termination_model.proofs.Lists.{any_default}
use Rattle.number_columns.specs.Links.{AreFalling, LinksMore, NoPair, Respects, parent}
use Rattle.number_columns.proofs.LinkLaws.{halved, links_then, roots_kept}
use Rattle.number_columns.proofs.links.Links.find.Goals as goal

pub loop-at-preserved : goal.loop-at-preserved
loop-at-preserved c =
    let i = c.loop-at.invariant in
    let old = c.args.self.now.parents.items in
    let ps = c.loop-at.self.parents.items in
    let at = c.loop-at.at in
    let above = c.index-above.result.now in
    let next = c.index-next.result.now in
    let known : at < length ps = omega (arith, i.known, i.links.count) in
    let up : parent ps at ≡ above = any_default ps at 0 above known ∙ sym c.index-above.ensures in
    let low : above ≤ at = omega (arith, i.links.falling at known, up) in
    let higher : parent ps above ≡ next = any_default ps above 0 next (omega (arith, low, known)) ∙ sym c.index-next.ensures in
    let lower : next ≤ above = omega (arith, i.links.falling above (omega (arith, low, known)), higher) in
    let here : parent ps at ≡ c.index.result.now = any_default ps at 0 c.index.result.now known ∙ sym c.index.ensures in
    let stays : parent ps at ≡ at → ⊥ = λ e. c.loop-at-test.true (sym here ∙ e) in
    let more = halved ps at next i.links.falling known above up higher in
    record {
      known = omega (arith, lower, low, i.known);
      earlier = omega (arith, lower, low, i.earlier);
      links = links_then NoPair NoPair NoPair old ps _ (λ n m p. p) (λ n m p. p) i.links more;
      linked = λ f r.
          let rp : Respects f ps = i.links.only f (λ n m p. absurd p) r in
          ap f (sym higher) ∙ rp above (omega (arith, low, known)) ∙ ap f (sym up) ∙ rp at known ∙ i.linked f r;
      roots = λ k e. roots_kept ps at next i.links.falling known stays k (i.roots k e);
    }

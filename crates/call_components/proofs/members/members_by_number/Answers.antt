use Rattle.std.proofs.Common.{◌≡◌, ◌<◌, ℕ, length, slice_get, Some, refl, ap, sym, subst, ◌∙◌, arith, length-set}
use Rattle.std.proofs.lemmas.Option.{slice_get_read}
use Rattle.call_components.proofs.MemberLaws.{members_more}
use Rattle.call_components.proofs.members.members_by_number.Goals as goal

pub loop-pred-preserved : goal.loop-pred-preserved
loop-pred-preserved c =
    let of = c.args.numbering.now.of in
    let count = c.args.numbering.now.count in
    let within : c.loop-pred.pred < length of.items = omega (arith, of.ok.0) in
    let at : slice_get of.items c.loop-pred.pred ≡ Some c.index.result.now = slice_get_read of.items (length of.items) c.loop-pred.pred c.index.result.now refl within c.index.ensures in
    let below : c.index.result.now < count = subst (λ (x : ℕ). x < count) (sym c.index.ensures) (c.requires.below c.loop-pred.pred c.index.result.now within) in
    record {
      each = ap length c.in_ok-push.ensures.ok ∙ length-set c.loop-pred.members _ _ ∙ c.loop-pred.invariant.each;
      row = members_more c.loop-pred.members c.push.new.self of.items c.loop-pred.pred c.index.result.now count at c.loop-pred.invariant.each below c.in_ok-push.ensures.ok c.loop-pred.invariant.row;
    }

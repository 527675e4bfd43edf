use Rattle.std.proofs.Common.{◌≡◌, ◌-◌, ◌+◌, ◌<◌, ℕ, length, drop, ap, ◌∙◌, arith}
use Rattle.std.proofs.lemmas.List.{drop-drop, length-drop}
use Rattle.unifier.proofs.bindings.Bindings.undo.Goals as goal

pub loop-self-preserved : goal.loop-self-preserved
loop-self-preserved c =
    let n = length c.args.self.now in
    let old = length c.loop-self.self in
    let new = length c.undo_last.new.self in
    let shorter = ap length c.undo_last.ensures ∙ length-drop 1 c.loop-self.self in
    let before = ap length c.loop-self.invariant.dropped ∙ length-drop (n - old) c.args.self.now in
    let more : c.args.count < old = omega (arith, c.loop-self-test.true, c.len.ensures.count) in
    let same : new ≡ old - 1 = shorter in
    let count : (n - old) + 1 ≡ n - new = omega (arith, same, more, before) in
    record {
      enough = omega (arith, same, more);
      dropped = c.undo_last.ensures ∙ ap (drop 1) c.loop-self.invariant.dropped ∙ drop-drop 1 (n - old) c.args.self.now ∙ ap (λ (k : ℕ). drop k c.args.self.now) count;
    }

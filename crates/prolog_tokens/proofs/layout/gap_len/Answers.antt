use Rattle.std.proofs.Common.{◌≤◌, length, drop, ◌∙◌, ap, arith, length-drop}
use Rattle.std.proofs.lemmas.List.{take_rest}
use Rattle.prolog_tokens.specs.Layout.{space_at}
use Rattle.prolog_tokens.proofs.GapLemmas.{past_space, gap_goes_on}
use Rattle.prolog_tokens.proofs.layout.gap_len.Goals as goal

pub spaces-preserved : goal.spaces-preserved
spaces-preserved c =
    let same = take_rest c.args.bytes.now c.spaces.at in
    let is = c.in-Ok.ensures.value ∙ ap space_at same in
    let short : c.in-Ok.len ≤ length (drop c.spaces.at c.args.bytes.now) = omega (arith, c.in-Ok.ensures.fits, ap length same) in
    record {
      left = gap_goes_on c.spaces.at c.in-Ok.len c.args.bytes.now _ (past_space c.in-Ok.len _ is (omega (arith, c.in-Ok.len-test)) short) c.spaces.invariant.left;
      within = omega (arith, short, length-drop c.spaces.at c.args.bytes.now);
    }

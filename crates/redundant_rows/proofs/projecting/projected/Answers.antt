use Rattle.std.proofs.Common.{◌≡◌, ◌+◌, ℕ, ℤ, suc, List, None, map, take, arith, ap, subst, ◌∙◌}
use Rattle.exact128.specs.Fits.{fits}
use Rattle.linear_rows.specs.Blown.{all_of, blown_step}
use Rattle.linear_rows.specs.Plain.{plain_rows, HaveWidth}
use Rattle.linear_rows.specs.Step.{all_eliminated, columns}
use Rattle.termination_model.specs.chains.ChainRows.{AreSpoken}
use Rattle.redundant_rows.specs.Choosing.{IsCore}
use Rattle.redundant_rows.specs.Projecting.{left_of}
use Rattle.redundant_rows.proofs.Cuts.{cut_spoken}
use Rattle.redundant_rows.proofs.projecting.projected.Goals as goal

pub returns-in_ok-core-in-Ok : goal.returns-in_ok-core-in-Ok
returns-in_ok-core-in-Ok c =
    let n : ℕ = c.args.kept in
    let count : ℕ = c.args.count in
    let rows : List (List ℤ) = plain_rows c.args.rows.now.list in
    let left = c.in-Ok.left in
    let short = c.in_ok-short-in-Ok.short in
    let r = c.in_ok-core-in-Ok.field-0 in
    let leftis : plain_rows left.list ≡ all_eliminated (n + count) (columns (suc n) count) rows =
    subst (λ (m : ℕ). plain_rows left.list ≡ all_eliminated m (columns (suc n) count) rows) c.requires.columns c.in-Ok.ensures.exact.0 in
    let decided : blown_step (n + count) (columns (suc n) count) rows ≡ None =
    subst (λ (m : ℕ). blown_step m (columns (suc n) count) rows ≡ None) c.requires.columns c.in-Ok.ensures.exact.1 in
    let cutis : map (take (suc n)) (plain_rows left.list) ≡ left_of n count rows = ap (map (take (suc n))) leftis in
    let core : IsCore n (left_of n count rows) (plain_rows r.list) =
    subst (λ (xs : List (List ℤ)). IsCore n xs (plain_rows r.list)) (c.in_ok-short-in-Ok.ensures.rows ∙ cutis)
    (subst (λ (m : ℕ). IsCore m (plain_rows short.list) (plain_rows r.list)) c.in_ok-short-in-Ok.ensures.width c.in_ok-core-in-Ok.ensures.core) in
    let width = c.in_ok-core-in-Ok.ensures.width ∙ c.in_ok-short-in-Ok.ensures.width in
    record {
      decided = decided;
      width = width;
      widths = subst (λ (m : ℕ). HaveWidth m r.list) c.in_ok-short-in-Ok.ensures.width c.in_ok-core-in-Ok.ensures.widths;
      core = core;
      spoken = subst (AreSpoken (all_of fits) n) cutis
          (cut_spoken n left.width left.list (let e = c.in-Ok.ensures.width in let h = c.requires.columns in omega (arith, e, h)) c.in-Ok.ensures.long c.in-Ok.ensures.fit);
    }

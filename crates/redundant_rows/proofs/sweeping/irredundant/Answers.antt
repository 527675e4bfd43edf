use Rattle.std.proofs.Common.{◌≡◌, ℕ, length, subst, ◌∙◌, true, false, not, Bool, arith, refl}
use Rattle.linear_rows.specs.Plain.{plain_rows, HaveWidth}
use Rattle.redundant_rows.specs.Sweeping.{IsSwept, IsLess}
use Rattle.redundant_rows.proofs.Sweeps.{less_self, less_trans, swept_all}
use Rattle.redundant_rows.proofs.sweeping.irredundant.Goals as goal

was_true : (b : Bool) → not b ≡ false → b ≡ true
was_true true e = refl
was_true false e = cc

was_false : (b : Bool) → not b ≡ true → b ≡ false
was_false false e = refl
was_false true e = cc

pub loop-swept-init : goal.loop-swept-init
loop-swept-init c = record { width = refl; widths = c.requires.width; less = less_self c.args.rows.width (plain_rows c.args.rows.list) }

pub loop-swept-preserved : goal.loop-swept-preserved
loop-swept-preserved c =
    let i = c.loop-swept.invariant in
    let s = c.in_ok-swept.swept.rows in
    record {
      width = c.in_ok-swept.ensures.width ∙ i.width;
      widths = subst (λ (k : ℕ). HaveWidth k s.list) (c.in_ok-swept.ensures.width ∙ i.width) c.in_ok-swept.ensures.widths;
      less = less_trans c.args.rows.width (plain_rows c.args.rows.list) (plain_rows c.loop-swept.left.list) (plain_rows s.list) i.less (subst (λ (k : ℕ). IsLess k (plain_rows c.loop-swept.left.list) (plain_rows s.list)) i.width c.in_ok-swept.ensures.less);
    }

pub loop-swept-smaller : goal.loop-swept-smaller
loop-swept-smaller c = c.in_ok-swept.ensures.fewer (was_true c.in_ok-swept.swept.fewer c.if-not-swept.false)

pub returns-then-not-swept-clause-core : goal.returns-then-not-swept-clause-core
returns-then-not-swept-clause-core c =
    let i = c.loop-swept.invariant in
    let n = c.args.rows.width in
    let s = c.in_ok-swept.swept.rows in
    let less = less_trans n (plain_rows c.args.rows.list) (plain_rows c.loop-swept.left.list) (plain_rows s.list) i.less (subst (λ (k : ℕ). IsLess k (plain_rows c.loop-swept.left.list) (plain_rows s.list)) i.width c.in_ok-swept.ensures.less) in
    let swept : IsSwept n (plain_rows s.list) (length (plain_rows s.list)) = subst (λ (k : ℕ). IsSwept k (plain_rows s.list) (length (plain_rows s.list))) i.width (c.in_ok-swept.ensures.swept (was_false c.in_ok-swept.swept.fewer c.if-not-swept.true)) in
    record { part = less.part; covers = less.covers; irredundant = swept_all n (plain_rows s.list) (length (plain_rows s.list)) (omega arith) swept }

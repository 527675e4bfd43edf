use Rattle.std.proofs.Common.{◌≡◌, ◌++◌, ◌+◌, suc, length, ap, sym, ◌∙◌, append-nil, inl, arith}
use Rattle.certificate.specs.Text.{text_of}
use Rattle.certificate.specs.declared.fault.CertFault.TheVariants.{NotAFact as WrongLine}
use Rattle.certificate.proofs.TextLemmas.{all_read, wrong_line, one_wrong, no_wrong, left_empty, left_some}
use Rattle.certificate.proofs.certificate.Certificate.read.Goals as goal

pub returns-then-is_empty-clause-only : goal.returns-then-is_empty-clause-only
returns-then-is_empty-clause-only c d text =
    let e = c.in_ok-facts.ensures in
    let same = all_read c.in_ok-facts.facts d.facts c.in_ok-facts.rest.now e.in_range text.in_range (sym e.whole ∙ text.is) e.stops in
    ap (λ facts. record { facts = facts }) same.0

pub returns-then-is_empty-clause-wrong : goal.returns-then-is_empty-clause-wrong
returns-then-is_empty-clause-wrong c n short wrong =
    let e = c.in_ok-facts.ensures in
    let none = left_empty c.in_ok-facts.rest.now c.if-is_empty.ensures in
    no_wrong c.in_ok-facts.facts c.args.text.now n e.in_range (e.whole ∙ ap (λ r. text_of c.in_ok-facts.facts ++ r) none ∙ append-nil (text_of c.in_ok-facts.facts)) wrong

pub returns-else-is_empty-clause-only : goal.returns-else-is_empty-clause-only
returns-else-is_empty-clause-only c d text =
    let e = c.in_ok-facts.ensures in
    let same = all_read c.in_ok-facts.facts d.facts c.in_ok-facts.rest.now e.in_range text.in_range (sym e.whole ∙ text.is) e.stops in
    absurd (left_some c.in_ok-facts.rest.now c.if-is_empty.ensures same.1)

pub returns-else-is_empty-clause-line : goal.returns-else-is_empty-clause-line
returns-else-is_empty-clause-line c n same =
    let e = c.in_ok-facts.ensures in
    let is : c.len.result + 1 ≡ n = cc in
    let wrong = wrong_line c.in_ok-facts.facts c.in_ok-facts.rest.now c.args.text.now e.in_range e.whole e.stops (left_some c.in_ok-facts.rest.now c.if-is_empty.ensures) in
    let count : suc (length c.in_ok-facts.facts) ≡ n = omega (arith, is, c.len.ensures) in
    (omega (arith, c.if-text-gt-MOST_BYTES.false), rw count at wrong)

pub returns-else-is_empty-clause-wrong : goal.returns-else-is_empty-clause-wrong
returns-else-is_empty-clause-wrong c n short wrong =
    let e = c.in_ok-facts.ensures in
    let own = wrong_line c.in_ok-facts.facts c.in_ok-facts.rest.now c.args.text.now e.in_range e.whole e.stops (left_some c.in_ok-facts.rest.now c.if-is_empty.ensures) in
    let same = one_wrong c.args.text.now _ n own wrong in
    let count : c.len.result + 1 ≡ n = omega (arith, same, c.len.ensures) in
    inl (ap WrongLine count)

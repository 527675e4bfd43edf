use Rattle.std.proofs.Common.{◌≡◌, ◌++◌, ◌+◌, suc, length, ap, sym, ◌∙◌, append-nil, inl, arith}
use Rattle.std.specs.Prelude.{flat_map}
use Rattle.certificate.specs.declared.fault.CertFault.TheVariants.{NotAFact as WrongLine}
use Rattle.prove_certificate.proofs.TextLemmas.{all_read, wrong_line, one_wrong, no_wrong, left_empty, left_some}
use Rattle.prove_certificate.proofs.lines.read_lines.Goals as goal

pub returns-then-is_empty-clause-only : goal.returns-then-is_empty-clause-only
returns-then-is_empty-clause-only g c fs text =
    let laws = g.met.F.Line in
    let e = c.in_ok-facts.ensures in
    let same = all_read g.F.Line.shown g.F.Line.fits g.F.Line.reads laws.one_line laws.read_back c.in_ok-facts.facts fs c.in_ok-facts.rest.now e.in_range text.in_range
    (sym e.whole ∙ text.is) e.stops in
    same.0

pub returns-then-is_empty-clause-wrong : goal.returns-then-is_empty-clause-wrong
returns-then-is_empty-clause-wrong g c n short wrong =
    let laws = g.met.F.Line in
    let e = c.in_ok-facts.ensures in
    let none = left_empty c.in_ok-facts.rest.now c.if-is_empty.ensures in
    let whole = e.whole ∙ ap (λ r. flat_map g.F.Line.shown c.in_ok-facts.facts ++ r) none ∙ append-nil (flat_map g.F.Line.shown c.in_ok-facts.facts) in
    no_wrong g.F.Line.shown g.F.Line.fits g.F.Line.reads laws.one_line laws.read_back c.in_ok-facts.facts c.args.text.now n e.in_range whole wrong

pub returns-else-is_empty-clause-only : goal.returns-else-is_empty-clause-only
returns-else-is_empty-clause-only g c fs text =
    let laws = g.met.F.Line in
    let e = c.in_ok-facts.ensures in
    let same = all_read g.F.Line.shown g.F.Line.fits g.F.Line.reads laws.one_line laws.read_back c.in_ok-facts.facts fs c.in_ok-facts.rest.now e.in_range text.in_range
    (sym e.whole ∙ text.is) e.stops in
    absurd (left_some c.in_ok-facts.rest.now c.if-is_empty.ensures same.1)

pub returns-else-is_empty-clause-line : goal.returns-else-is_empty-clause-line
returns-else-is_empty-clause-line g c n same =
    let laws = g.met.F.Line in
    let e = c.in_ok-facts.ensures in
    let is : c.len.result + 1 ≡ n = cc in
    let wrong = wrong_line g.F.Line.shown g.F.Line.fits g.F.Line.reads laws.one_line laws.read_back c.in_ok-facts.facts c.in_ok-facts.rest.now c.args.text.now e.in_range e.whole e.stops
    (left_some c.in_ok-facts.rest.now c.if-is_empty.ensures) in
    let count : suc (length c.in_ok-facts.facts) ≡ n = omega (arith, is, c.len.ensures) in
    (omega (arith, c.if-text-gt-MOST_BYTES.false), rw count at wrong)

pub returns-else-is_empty-clause-wrong : goal.returns-else-is_empty-clause-wrong
returns-else-is_empty-clause-wrong g c n short wrong =
    let laws = g.met.F.Line in
    let e = c.in_ok-facts.ensures in
    let own = wrong_line g.F.Line.shown g.F.Line.fits g.F.Line.reads laws.one_line laws.read_back c.in_ok-facts.facts c.in_ok-facts.rest.now c.args.text.now e.in_range e.whole e.stops
    (left_some c.in_ok-facts.rest.now c.if-is_empty.ensures) in
    let same = one_wrong g.F.Line.shown g.F.Line.fits g.F.Line.reads laws.one_line laws.read_back c.args.text.now _ n own wrong in
    let count : c.len.result + 1 ≡ n = omega (arith, same, c.len.ensures) in
    inl (ap WrongLine count)

use Rattle.std.proofs.Common.{sym, subst}
use Rattle.cti_top.specs.Runs.{Ends}
use Rattle.cti_top.specs.declared.status.Status.{Status}
use Rattle.cti_top.proofs.RunLemmas.{ends_as}
use Rattle.cti_top.proofs.running.ran.Goals as goal

pub returns : goal.returns
returns c =
    let source = c.args.source.now in
    let g = c.args.goal.now in
    let ran = c.in_ok-ran.ran in
    let h = c.in_ok-ran.ensures in
    record {
      ending = ran.ending;
      ends = subst (λ (s : Status). Ends source.program g c.args.steps s ran.ending) (sym c.status_of.ensures) (ends_as source.program g c.args.steps ran.ending h.stopped h.finished h.overflow);
      printed = h.lines;
    }

use Rattle.std.proofs.Common.{Some}
use Rattle.outside.specs.Held.{held_or_empty}
use Rattle.cti_top.proofs.KeepLemmas.{never_rises, no_file_rises}
use Rattle.cti_top.proofs.sure.sure_command.Goals as goal

pub returns-clause-file_fault : goal.returns-clause-file_fault
returns-clause-file_fault c e = let r = c.command.ensures.file_fault e in no_file_rises (Some (held_or_empty c.args.files.now.files)) r.0 r.2

pub returns-clause-out_fault : goal.returns-clause-out_fault
returns-clause-out_fault c e = never_rises (c.command.ensures.out_fault e)

use Rattle.std.proofs.Common.{inl, rules}
use Rattle.outside.proofs.memory_files.MemFilesFiles.load.Goals as goal

pub returns-then-contains-clause-failed : goal.returns-then-contains-clause-failed
returns-then-contains-clause-failed c e = inl (search rules)

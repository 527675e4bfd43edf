use Rattle.std.proofs.Common.{inl, rules}
use Rattle.outside.proofs.memory_sink.MemSinkSink.write.Goals as goal

pub returns-then-contains-clause-failed : goal.returns-then-contains-clause-failed
returns-then-contains-clause-failed c = inl (search rules)

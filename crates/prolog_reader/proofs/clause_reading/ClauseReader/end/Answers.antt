use Rattle.prolog_reader.proofs.EndLemmas.{end_none, end_refused, end_within, end_whole}
use Rattle.prolog_reader.proofs.clause_reading.ClauseReader.end.Goals as goal

pub returns-then-not-self : goal.returns-then-not-self
returns-then-not-self c = end_none c.args.state c.args.self.now c.if-not-self.true

pub returns-in-Finished : goal.returns-in-Finished
returns-in-Finished c = end_whole c.args.state c.args.self.now c.in-Finished.part c.clause.result c.if-not-self.false (rw c.in-Finished.is at c.in_ok-part.ensures.0) c.clause.ensures

pub returns-in-Refused : goal.returns-in-Refused
returns-in-Refused c = rw c.end_kind.ensures (end_refused c.args.state c.args.self.now c.in-Refused.refusal c.if-not-self.false (rw c.in-Refused.is at c.in_ok-part.ensures.0))

pub returns : goal.returns
returns c = end_within c.args.state c.args.self.now _ c.if-not-self.false (rw c.in-Continue.is at c.in_ok-part.ensures.0)

use Rattle.std.proofs.Common.{le_of_lt}
use Rattle.call_components.proofs.Searches.{last_within, row_within, call_pops, ends_to}
use Rattle.call_components.proofs.search.Search.step.Goals as goal

pub follow-requires-clause-known : goal.follow-requires-clause-known
follow-requires-clause-known c =
    let s = c.args.self.now in
    (call_pops c.args.table.now s.marks s.open s.waiting s.count s.segments.items c.args.last c.requires.idle c.requires.last c.pop_above.new.self c.in-Some.callee.0 c.in-Some.ensures.0 c.in-Some.ensures.1).2

pub follow-requires-clause-following : goal.follow-requires-clause-following
follow-requires-clause-following c =
    let s = c.args.self.now in
    let next = call_pops c.args.table.now s.marks s.open s.waiting s.count s.segments.items c.args.last c.requires.idle c.requires.last c.pop_above.new.self c.in-Some.callee.0 c.in-Some.ensures.0 c.in-Some.ensures.1 in
    record { search = next.0; lead = next.1 }

pub tail-requires : goal.tail-requires
tail-requires c =
    let s = c.args.self.now in
    le_of_lt (last_within c.args.table.now s.marks s.open s.waiting s.count s.segments.items c.args.last c.requires.idle c.requires.last)

pub close-requires : goal.close-requires
close-requires c =
    let s = c.args.self.now in
    row_within c.args.table.now (λ _. ⊥) s.marks s.open s.waiting _ s.count c.requires.idle c.args.last.first c.tail.result.now c.tail.ensures

pub returns-in-None-clause-ok : goal.returns-in-None-clause-ok
returns-in-None-clause-ok c =
    let s = c.args.self.now in
    rw c.in-None.ensures.0 ((ends_to c.args.table.now s.marks s.open s.waiting s.count s.segments.items c.args.last c.requires.idle c.requires.last c.in-None.ensures.1
    c.close.new.self c.truncate.new.self c.pop.new.self.items c.tail.result.now s.segments.len c.tail.ensures c.close.ensures c.truncate.ensures s.segments.ok.0 c.pop.ensures.rest).0)

pub returns-in-None-clause-kept : goal.returns-in-None-clause-kept
returns-in-None-clause-kept c =
    let s = c.args.self.now in
    (ends_to c.args.table.now s.marks s.open s.waiting s.count s.segments.items c.args.last c.requires.idle c.requires.last c.in-None.ensures.1
    c.close.new.self c.truncate.new.self c.pop.new.self.items c.tail.result.now s.segments.len c.tail.ensures c.close.ensures c.truncate.ensures s.segments.ok.0 c.pop.ensures.rest).2

pub returns-in-None-clause-less : goal.returns-in-None-clause-less
returns-in-None-clause-less c =
    let s = c.args.self.now in
    rw c.in-None.ensures.0 ((ends_to c.args.table.now s.marks s.open s.waiting s.count s.segments.items c.args.last c.requires.idle c.requires.last c.in-None.ensures.1
    c.close.new.self c.truncate.new.self c.pop.new.self.items c.tail.result.now s.segments.len c.tail.ensures c.close.ensures c.truncate.ensures s.segments.ok.0 c.pop.ensures.rest).1)

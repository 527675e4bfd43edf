use Rattle.std.proofs.Common.{reverse, sym, ◌∙◌}
use Rattle.call_components.proofs.Searches.{joins, passes}
use Rattle.call_components.proofs.search.Search.follow.Goals as goal

pub returns-in-Open-clause-ok : goal.returns-in-Open-clause-ok
returns-in-Open-clause-ok c =
    let s = c.args.self.now in
    let done = joins c.args.table.now s.marks s.open s.waiting s.count c.args.callee.0 (reverse s.segments.items) c.requires.following.search c.requires.following.lead c.in-Open.place (sym c.of.ensures ∙ c.in-Open.is) in
    rw c.join.ensures done.0

pub returns-in-Open-clause-less : goal.returns-in-Open-clause-less
returns-in-Open-clause-less c =
    let s = c.args.self.now in
    let done = joins c.args.table.now s.marks s.open s.waiting s.count c.args.callee.0 (reverse s.segments.items) c.requires.following.search c.requires.following.lead c.in-Open.place (sym c.of.ensures ∙ c.in-Open.is) in
    rw c.join.ensures done.1

pub returns-in-Closed-clause-ok : goal.returns-in-Closed-clause-ok
returns-in-Closed-clause-ok c =
    let s = c.args.self.now in
    passes c.args.table.now s.marks s.open s.waiting s.count c.args.callee.0 (reverse s.segments.items) c.requires.following.search c.requires.following.lead c.in-Closed.field-0 (sym c.of.ensures ∙ c.in-Closed.is)

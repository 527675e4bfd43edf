use Rattle.call_components.proofs.Searches.{opens_to}
use Rattle.call_components.proofs.search.Search.open.Goals as goal

pub returns-clause-ok : goal.returns-clause-ok
returns-clause-ok c =
    let s = c.args.self.now in
    (opens_to c.args.table.now s.marks s.open s.waiting s.count c.args.pred.0 s.segments.items c.requires.following.search c.requires.following.lead c.requires.fresh c.requires.known
    c.len-first.result c.len-waiting.result c.len-first.ensures c.len-waiting.ensures c.row.result.now c.row.ensures
    c.set.new.self c.push-2.new.self c.extend.new.self c.push.new.self.items c.set.ensures c.in_ok-push-2.ensures.ok c.in_ok-extend.ensures.ok c.in_ok-push.ensures.items).0

pub returns-clause-less : goal.returns-clause-less
returns-clause-less c =
    let s = c.args.self.now in
    (opens_to c.args.table.now s.marks s.open s.waiting s.count c.args.pred.0 s.segments.items c.requires.following.search c.requires.following.lead c.requires.fresh c.requires.known
    c.len-first.result c.len-waiting.result c.len-first.ensures c.len-waiting.ensures c.row.result.now c.row.ensures
    c.set.new.self c.push-2.new.self c.extend.new.self c.push.new.self.items c.set.ensures c.in_ok-push-2.ensures.ok c.in_ok-extend.ensures.ok c.in_ok-push.ensures.items).1

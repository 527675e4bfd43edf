use Rattle.bool_diagrams.proofs.Memos.{entry_put}
use Rattle.bool_diagrams.proofs.memo.Memo.keep.Goals as goal

pub returns : goal.returns
returns c = entry_put c.args.self.now.answers c.put.new.self c.args.key c.args.number c.put.result c.put.ensures.entries c.put.ensures.err

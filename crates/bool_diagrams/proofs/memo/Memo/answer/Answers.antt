use Rattle.std.proofs.Common.{◌∙◌}
use Rattle.bool_diagrams.proofs.Memos.{found_entry, entry_found}
use Rattle.bool_diagrams.proofs.memo.Memo.answer.Goals as goal

pub returns-clause-kept : goal.returns-clause-kept
returns-clause-kept c = found_entry c.args.self.now.answers.entries c.args.key c.copied.result (c.copied.ensures ∙ c.get.ensures.value)

pub returns-clause-within : goal.returns-clause-within
returns-clause-within c = entry_found c.args.self.now.answers c.get.follows.lender-at-none c.args.key c.get.follows.holds-at-none

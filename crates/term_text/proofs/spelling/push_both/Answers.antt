use Rattle.std.proofs.Common.{◌≡◌, [], ◌∷◌, ◌++◌}
use Rattle.term_text.proofs.LeftLemmas.{placed, work_placed}
use Rattle.term_text.proofs.spelling.push_both.Goals as goal

pub returns-clause-text : goal.returns-clause-text
returns-clause-text c names =
    let old = c.args.stack.now.items in
    let one : c.push.new.self.items ≡ old ++ c.args.second ∷ [] = c.in_ok-push.ensures.items in
    let two : c.push-2.new.self.items ≡ c.push.new.self.items ++ c.args.first ∷ [] = c.in_ok-push-2.ensures.items in
    placed names c.args.first c.args.second old _ _ one two

pub returns-clause-work : goal.returns-clause-work
returns-clause-work c =
    let old = c.args.stack.now.items in
    let one : c.push.new.self.items ≡ old ++ c.args.second ∷ [] = c.in_ok-push.ensures.items in
    let two : c.push-2.new.self.items ≡ c.push.new.self.items ++ c.args.first ∷ [] = c.in_ok-push-2.ensures.items in
    work_placed c.args.first c.args.second old _ _ one two

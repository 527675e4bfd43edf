use Rattle.std.proofs.Common.{◌∙◌, ap, ℕ, List, slice_get}
use Rattle.cti_terms.specs.Numbers.{number_of}
use Rattle.cti_terms.proofs.Texts.{number_found, same_texts, number_inserted, texts_inserted, text_at_number, texts_stay}
use Rattle.cti_terms.proofs.naming.Names.intern.Goals as goal

pub returns-in-Some-clause-number : goal.returns-in-Some-clause-number
returns-in-Some-clause-number c = rw (← c.self.view_is) (number_found c.self.inside.texts.keys _ _ c.in-Some.ensures.index)

pub returns-in-Some-clause-added : goal.returns-in-Some-clause-added
returns-in-Some-clause-added c = rw (← c.self.view_is) (same_texts c.self.inside.texts.keys _ c.in-Some.ensures.found)

pub returns-in-Some-clause-spelled : goal.returns-in-Some-clause-spelled
returns-in-Some-clause-spelled c =
    ap (slice_get c.args.self.now) (returns-in-Some-clause-number c)
    ∙ ap (λ (ts : List (List ℕ)). slice_get ts (number_of c.args.self.now c.args.text.now)) (returns-in-Some-clause-added c)
    ∙ text_at_number c.args.self.now c.args.text.now

pub returns-clause-number : goal.returns-clause-number
returns-clause-number c = rw (← c.self.view_is) (number_inserted c.self.inside.texts.keys _ c.in_ok-copy.copy _ c.in_ok-copy.ensures.items c.in_ok-i.ensures.index)

pub returns-clause-added : goal.returns-clause-added
returns-clause-added c = rw (← c.self.view_is) (texts_inserted c.self.inside.texts.keys _ c.in_ok-copy.copy _ c.in_ok-copy.ensures.items c.in_ok-i.ensures.keys)

pub returns-clause-spelled : goal.returns-clause-spelled
returns-clause-spelled c = rw (returns-clause-number c, returns-clause-added c) (text_at_number c.args.self.now c.args.text.now)

pub returns-clause-kept : goal.returns-clause-kept
returns-clause-kept c = λ i h. rw (returns-clause-added c) (texts_stay c.args.self.now c.args.text.now i h)

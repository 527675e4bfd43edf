use Rattle.std.proofs.Common.{length, ap, sym, ◌∙◌, arith, length-take}
use Rattle.std.specs.Prelude.{slice_get}
use Rattle.std.specs.Str.{chars}
use Rattle.prolog_tokens.proofs.CharacterLemmas.{character_in, no_character, character_fits}
use Rattle.prolog_tokens.proofs.characters.character.Goals as goal

pub returns-in-Ok-clause-value : goal.returns-in-Ok-clause-value
returns-in-Ok-clause-value c =
    let cases = c.in-Ok.ensures.cases in
    let found = character_in c.args.bytes.now c.min.result (grind arith) (search arith) cases.1 in
    c.next.ensures.steps.2 ∙ ap (λ text. slice_get (chars text) 0) (c.chars.ensures.rest ∙ cases.0) ∙ sym found

pub returns-in-Ok-clause-fits : goal.returns-in-Ok-clause-fits
returns-in-Ok-clause-fits c =
    let front = ap length (c.chars.ensures.rest ∙ c.in-Ok.ensures.cases.0) in
    character_fits c.next.result _ _ _ _ c.next.ensures.steps.0 (omega (arith, front, length-take c.min.result c.args.bytes.now))

pub returns-in-Err-clause-value : goal.returns-in-Err-clause-value
returns-in-Err-clause-value c = sym (no_character c.args.bytes.now c.min.result (grind arith) (search arith) c.in-Err.ensures.cases.0)

use Rattle.std.proofs.Common.{◌++◌, List, ℕ, sym, ap, ◌∙◌, map-id, drop, subst}
use Rattle.std.specs.Str.{IsUtf8, chars}
use Rattle.std.proofs.lemmas.Str.{chars-encodes}
use Rattle.std.proofs.lemmas.Iterator.{YieldsList-from_chars}
use Rattle.std.proofs.lemmas.Iterator.Consumers.{YieldsList-end}
use Rattle.prolog_tokens.specs.Items.{item_characters}
use Rattle.prolog_tokens.specs.Decoding.{bytes_of, meaning_of, characters_of}
use Rattle.prolog_reader.proofs.TextLemmas.{item_spells, item_utf8}
use Rattle.prolog_reader.proofs.symbols.codes.Goals as goal

pub unreachable-requires : goal.unreachable-requires
unreachable-requires c =
    let spelled = c.deref.ensures.value ∙ c.in_ok-decode.ensures.ok ∙ ap (λ (xs : List ℕ). xs ++ characters_of c.args.text.now c.args.token) c.new-spelled.ensures.items ∙ ap (λ k. meaning_of k (bytes_of c.args.text.now c.args.token)) c.requires.kind in
    c.in-Err.ensures.cases.0 (subst IsUtf8 (sym spelled) (item_utf8 (drop 1 (bytes_of c.args.text.now c.args.token))))

pub returns : goal.returns
returns c =
    let spelled = c.deref.ensures.value ∙ c.in_ok-decode.ensures.ok ∙ ap (λ (xs : List ℕ). xs ++ characters_of c.args.text.now c.args.token) c.new-spelled.ensures.items ∙ ap (λ k. meaning_of k (bytes_of c.args.text.now c.args.token)) c.requires.kind in
    let end = YieldsList-end (YieldsList-from_chars c.in-Ok.characters.now (subst IsUtf8 (sym c.in-Ok.ensures.cases.0) c.in-Ok.ensures.cases.1) cc) c.loop-code.yielded _ c.loop-code.yielded_by _ _ c.in-None.is c.next.ensures.steps in
    let items = item_characters 34 0 (drop 1 (bytes_of c.args.text.now c.args.token)) in
    c.loop-code.invariant ∙ sym (map-id c.loop-code.yielded) ∙ end.0 ∙ ap chars (c.in-Ok.ensures.cases.0 ∙ spelled) ∙ chars-encodes items (item_spells 0 (drop 1 (bytes_of c.args.text.now c.args.token))).scalars

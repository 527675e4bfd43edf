use Rattle.std.proofs.Common.{◌≡◌, ◌≤◌, ◌+◌, ◌∙◌, ◌++◌, ℕ, List, [], length, drop, ap, sym, ⊎_elim, arith, length-drop}
use Rattle.std.proofs.lemmas.List.{take_rest, drop-drop}
use Rattle.std.specs.Char.{encode_utf8}
use Rattle.std.specs.Str.{encode_utf8_all}
use Rattle.prolog_tokens.specs.Pieces.{piece_at}
use Rattle.prolog_tokens.specs.Items.{item_characters}
use Rattle.prolog_tokens.proofs.ItemLemmas.{characters_past_character, characters_past_dropped, characters_at_closing, characters_at_fault}
use Rattle.prolog_tokens.proofs.AppendLemmas.{prefix_appended, more_appended, all_appended, same_rest, at_err}
use Rattle.prolog_tokens.proofs.decoding.decode_item.Goals as goal

pub returns-in_err-extend_from_slice-in-Character-clause-err : goal.returns-in_err-extend_from_slice-in-Character-clause-err
returns-in_err-extend_from_slice-in-Character-clause-err c =
    at_err _ c.from_residual.result (rw c.in_err-extend_from_slice-in-Character.ensures.items (prefix_appended _ _ _ _ c.pieces.invariant.appended))

pub pieces-preserved-in-Character : goal.pieces-preserved-in-Character
pieces-preserved-in-Character c =
    let quote = c.args.quote in
    let bytes = c.args.bytes.now in
    let same = take_rest bytes c.pieces.at in
    let is = c.in-Character.ensures.value ∙ ap (piece_at quote) same in
    let short : c.in-Character.len ≤ length (drop c.pieces.at bytes) = omega (arith, c.in-Character.ensures.fits, ap length same) in
    let rest = characters_past_character quote c.in-Character.found c.in-Character.len (drop c.pieces.at bytes) is c.in-Character.ensures.fits.0 short in
    let encoded = c.in_ok-extend_from_slice-in-Character.ensures.items ∙ ap (λ (xs : List ℕ). c.pieces.out.items ++ xs) (c.as_bytes.ensures.value ∙ c.encode_utf8.ensures.value) in
    record {
      appended = more_appended _ _ _ (encode_utf8 c.in-Character.found) (encode_utf8_all (item_characters quote 0 (drop (c.pieces.at + c.in-Character.len) bytes))) _
          (same_rest _ _ _ _ _ c.pieces.invariant.appended (ap encode_utf8_all rest ∙ ap (λ (xs : List ℕ). encode_utf8 c.in-Character.found ++ encode_utf8_all (item_characters quote 0 xs)) (drop-drop c.in-Character.len c.pieces.at bytes)))
          encoded;
      within = omega (arith, short, length-drop c.pieces.at bytes);
    }

pub pieces-preserved : goal.pieces-preserved
pieces-preserved c =
    let quote = c.args.quote in
    let bytes = c.args.bytes.now in
    let same = take_rest bytes c.pieces.at in
    let is = c.in-Dropped.ensures.value ∙ ap (piece_at quote) same in
    let short : 2 ≤ length (drop c.pieces.at bytes) = omega (arith, c.in-Dropped.ensures.fits, ap length same) in
    record {
      appended = same_rest _ _ _ _ _ c.pieces.invariant.appended (ap encode_utf8_all (characters_past_dropped quote (drop c.pieces.at bytes) is short ∙ ap (item_characters quote 0) (drop-drop 2 c.pieces.at bytes)));
      within = omega (arith, short, length-drop c.pieces.at bytes);
    }

pub returns-in-Closing-clause-ok : goal.returns-in-Closing-clause-ok
returns-in-Closing-clause-ok c =
    let quote = c.args.quote in
    let here = drop c.pieces.at c.args.bytes.now in
    let is = c.piece_at.ensures.value ∙ ap (piece_at quote) (take_rest c.args.bytes.now c.pieces.at) in
    let none : item_characters quote 0 here ≡ [] = ⊎_elim (λ h. characters_at_closing quote here (sym h ∙ is)) (λ h. characters_at_fault quote h.0 here (sym h.1 ∙ is)) c.in-Closing.is in
    all_appended _ _ _ _ c.pieces.invariant.appended (ap encode_utf8_all none)

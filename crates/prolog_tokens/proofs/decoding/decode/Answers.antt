use Rattle.std.proofs.Common.{List, ℕ, subst, arith}
use Rattle.std.proofs.lemmas.List.{take_rest}
use Rattle.std.specs.Result.{OnErr}
use Rattle.std.specs.Str.{encode_utf8_all}
use Rattle.prolog_tokens.specs.Items.{item_characters}
use Rattle.prolog_tokens.specs.Decoding.{AppendsPrefix, bytes_of}
use Rattle.prolog_tokens.proofs.NextLemmas.{token_within, bytes_some}
use Rattle.prolog_tokens.proofs.decoding.decode.Goals as goal

pub slice_bounds-bytes-end : goal.slice_bounds-bytes-end
slice_bounds-bytes-end c = let within = token_within c.args.text.now c.args.token c.requires in omega (arith, within)

pub slice_bounds-decode_item-count : goal.slice_bounds-decode_item-count
slice_bounds-decode_item-count c = bytes_some c.args.text.now c.args.token c.requires

pub slice_bounds-decode_item-start : goal.slice_bounds-decode_item-start
slice_bounds-decode_item-start c = bytes_some c.args.text.now c.args.token c.requires

pub slice_bounds-decode_item-count-in-Text : goal.slice_bounds-decode_item-count-in-Text
slice_bounds-decode_item-count-in-Text c = bytes_some c.args.text.now c.args.token c.requires

pub slice_bounds-decode_item-start-in-Text : goal.slice_bounds-decode_item-start-in-Text
slice_bounds-decode_item-start-in-Text c = bytes_some c.args.text.now c.args.token c.requires

pub returns-in-Quoted-clause-err : goal.returns-in-Quoted-clause-err
returns-in-Quoted-clause-err c =
    let P : List ℕ → Type 0 = λ bytes. OnErr c.decode_item.result (AppendsPrefix c.args.out.now.items (encode_utf8_all (item_characters 39 0 bytes)) c.decode_item.new.out.items) in
    rw c.in-Quoted.is (subst P (take_rest (bytes_of c.args.text.now c.args.token) 1) c.decode_item.ensures.err)

pub returns-in-Text-clause-err : goal.returns-in-Text-clause-err
returns-in-Text-clause-err c =
    let P : List ℕ → Type 0 = λ bytes. OnErr c.decode_item-in-Text.result (AppendsPrefix c.args.out.now.items (encode_utf8_all (item_characters 34 0 bytes)) c.decode_item-in-Text.new.out.items) in
    rw c.in-Text.is (subst P (take_rest (bytes_of c.args.text.now c.args.token) 1) c.decode_item-in-Text.ensures.err)

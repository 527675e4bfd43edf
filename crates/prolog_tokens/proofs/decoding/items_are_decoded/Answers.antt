use Rattle.std.proofs.Common.{inl, inr, refl, ap}
use Rattle.std.specs.Str.{encode_utf8_all}
use Rattle.prolog_tokens.proofs.BodyLemmas.{item_characters-IsItem}
use Rattle.prolog_tokens.proofs.decoding.items_are_decoded.Goals as goal

pub returns : goal.returns
returns c = record {
  quoted = λ bytes after item. ap encode_utf8_all (item_characters-IsItem 39 bytes after (inl refl) item);
  text = λ bytes after item. ap encode_utf8_all (item_characters-IsItem 34 bytes after (inr refl) item);
}

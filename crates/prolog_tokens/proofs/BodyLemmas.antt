-- Items, by their bodies.
use Rattle.std.proofs.Common.{◌≡◌, ℕ, zero, suc, ◌+◌, ◌<◌, ◌≤◌, false, List, [], ◌∷◌, ◌++◌, length, drop, Result, Ok, Err, refl, sym, ◌∙◌, ap, subst, inl, inr, ⊎_elim, append_assoc, append-nil, length-append, arith, ◌⊎◌}
use Rattle.std.proofs.lemmas.List.{drop_at}
use Rattle.prolog_tokens.specs.Bytes.{begins_with}
use Rattle.prolog_tokens.specs.Places.{fault_at, further}
use Rattle.prolog_tokens.specs.Pieces.{piece_at}
use Rattle.prolog_tokens.specs.Items.{item_len, item_characters}
use Rattle.prolog_tokens.specs.Forms.{SpellsCharacter, doubled, itself, escaped, hexadecimal, octal, IsBody, empty, character, dropped, IsItem, IsQuote}
use Rattle.prolog_tokens.specs.declared.piece.Piece.{Piece}
use Rattle.prolog_tokens.specs.declared.piece.Piece.TheVariants.{Character, Dropped, Closing, Fault}
use Rattle.prolog_tokens.specs.declared.fault.LexKind.{LexKind}
use Rattle.prolog_tokens.specs.declared.fault.LexFault.{LexFault}
use Rattle.prolog_tokens.proofs.PlaceLemmas.{further-further, further-zero}
use Rattle.prolog_tokens.proofs.CharacterLemmas.{encoded}
use Rattle.prolog_tokens.proofs.PieceLemmas.{IsPiece, piece_is}
use Rattle.prolog_tokens.proofs.SpelledLemmas.{quote_small, spelled_piece, dropped_piece, closing_piece}
use Rattle.prolog_tokens.proofs.ItemLemmas.{past_character, past_dropped, characters_past_character, characters_past_dropped, characters_at_closing, at_closing, at_fault}

-- the spelling of a character has a byte
pub spelled_some : (quote c : ℕ) (text : List ℕ) → SpellsCharacter quote c text → 0 < length text
spelled_some quote c text (doubled is whole) = omega (arith, ap length whole)
spelled_some quote c text (itself scalar quotable a b whole) = let e = encoded c in omega (arith, ap length (whole ∙ e.whole))
spelled_some quote c text (escaped b is whole) = omega (arith, ap length whole)
spelled_some quote c text (hexadecimal digits are scalar number whole) = omega (arith, ap length whole)
spelled_some quote c text (octal digits are scalar number whole) = omega (arith, ap length whole)

-- a body, and then how long the item goes on
pub item_len-body : (quote : ℕ) {cs body : List ℕ} (after : List ℕ) → IsQuote quote → IsBody quote cs body → item_len quote 0 (body ++ after) ≡ further (length body) (item_len quote 0 after)
item_len-body quote after q empty = sym (further-zero _)
item_len-body quote after q (character {c = c} {cs = cs} {part = part} {rest = rest} spells more) =
    let is = sym (spelled_piece quote c part (rest ++ after) q spells) in
    let step = past_character quote c (length part) (part ++ (rest ++ after)) is (spelled_some quote c part spells) (omega (arith, length-append part (rest ++ after))) in
    ap (item_len quote 0) (append_assoc part rest after) ∙ step
    ∙ ap (λ (xs : List ℕ). further (length part) (item_len quote 0 xs)) (drop_at part (rest ++ after) (length part) refl)
    ∙ ap (further (length part)) (item_len-body quote after q more)
    ∙ further-further (length part) (length rest) (item_len quote 0 after)
    ∙ ap (λ n. further n (item_len quote 0 after)) (sym (length-append part rest))
item_len-body quote after q (dropped {cs = cs} {rest = rest} more) =
    past_dropped quote (92 ∷ 10 ∷ (rest ++ after)) (sym (dropped_piece quote (rest ++ after) q)) (omega arith)
    ∙ ap (further 2) (item_len-body quote after q more)
    ∙ further-further 2 (length rest) (item_len quote 0 after)
    ∙ ap (λ n. further n (item_len quote 0 after)) (omega arith)

-- a body, and then the characters of the rest
pub item_characters-body : (quote : ℕ) {cs body : List ℕ} (after : List ℕ) → IsQuote quote → IsBody quote cs body → item_characters quote 0 (body ++ after) ≡ cs ++ item_characters quote 0 after
item_characters-body quote after q empty = refl
item_characters-body quote after q (character {c = c} {cs = cs} {part = part} {rest = rest} spells more) =
    let is = sym (spelled_piece quote c part (rest ++ after) q spells) in
    let step = characters_past_character quote c (length part) (part ++ (rest ++ after)) is (spelled_some quote c part spells) (omega (arith, length-append part (rest ++ after))) in
    ap (item_characters quote 0) (append_assoc part rest after) ∙ step
    ∙ ap (λ (xs : List ℕ). c ∷ item_characters quote 0 xs) (drop_at part (rest ++ after) (length part) refl)
    ∙ ap (λ (xs : List ℕ). c ∷ xs) (item_characters-body quote after q more)
item_characters-body quote after q (dropped {cs = cs} {rest = rest} more) =
    characters_past_dropped quote (92 ∷ 10 ∷ (rest ++ after)) (sym (dropped_piece quote (rest ++ after) q)) (omega arith)
    ∙ item_characters-body quote after q more

-- an item up to its end or to its first fault
pub record Parts (quote : ℕ) (bs : List ℕ) : Type 0 where
  pub characters : List ℕ
  pub body : List ℕ
  pub after : List ℕ
  pub is_body : IsBody quote characters body
  pub whole : bs ≡ body ++ after
  pub stops : (piece_at quote after ≡ Closing) ⊎ ((kind : LexKind) × (piece_at quote after ≡ Fault kind))

parts_by : (quote : ℕ) (bs : List ℕ) (p : Piece) → piece_at quote bs ≡ p → IsPiece quote bs p → ((rest : List ℕ) → length rest < length bs → Parts quote rest) → Parts quote bs
parts_by quote bs (Character c n) e k more =
    let rest = more k.rest (omega (arith, ap length k.whole, length-append k.text k.rest, spelled_some quote c k.text k.spells)) in
    record {
      characters = c ∷ rest.characters;
      body = k.text ++ rest.body;
      after = rest.after;
      is_body = character k.spells rest.is_body;
      whole = k.whole ∙ ap (λ (xs : List ℕ). k.text ++ xs) rest.whole ∙ sym (append_assoc k.text rest.body rest.after);
      stops = rest.stops;
    }
parts_by quote bs Dropped e k more =
    let rest = more k.0 (omega (arith, ap length k.1)) in
    record {
      characters = rest.characters;
      body = 92 ∷ 10 ∷ rest.body;
      after = rest.after;
      is_body = dropped rest.is_body;
      whole = k.1 ∙ ap (λ (xs : List ℕ). 92 ∷ 10 ∷ xs) rest.whole;
      stops = rest.stops;
    }
parts_by quote bs Closing e k more = record { characters = []; body = []; after = bs; is_body = empty; whole = refl; stops = inl e }
parts_by quote bs (Fault kind) e k more = record { characters = []; body = []; after = bs; is_body = empty; whole = refl; stops = inr (kind, e) }

parts_within : (quote n : ℕ) (bs : List ℕ) → IsQuote quote → length bs ≤ n → Parts quote bs
parts_within quote zero bs q short = parts_by quote bs (piece_at quote bs) refl (piece_is quote bs (quote_small quote q)) (λ rest less. absurd (omega (arith, less)))
parts_within quote (suc n) bs q short = parts_by quote bs (piece_at quote bs) refl (piece_is quote bs (quote_small quote q)) (λ rest less. parts_within quote n rest q (omega (arith, less)))

pub parts : (quote : ℕ) (bs : List ℕ) → IsQuote quote → Parts quote bs
parts quote bs q = parts_within quote (length bs) bs q (omega arith)

-- an item that ends: its body, and its last quote
pub record Ends (quote n : ℕ) (bs : List ℕ) : Type 0 where
  pub characters : List ℕ
  pub body : List ℕ
  pub rest : List ℕ
  pub is_body : IsBody quote characters body
  pub whole : bs ≡ body ++ quote ∷ rest
  pub apart : begins_with quote rest ≡ false
  pub count : n ≡ length body + 1

-- an item with a fault: its body so far, and the piece that fails
pub record Fails (quote : ℕ) (bs : List ℕ) (fault : LexFault) : Type 0 where
  pub characters : List ℕ
  pub body : List ℕ
  pub after : List ℕ
  pub is_body : IsBody quote characters body
  pub whole : bs ≡ body ++ after
  pub piece : piece_at quote after ≡ Fault fault.kind
  pub count : fault.at ≡ length body

pub item_closed : (quote : ℕ) {cs body : List ℕ} (rest : List ℕ) → IsQuote quote → IsBody quote cs body → begins_with quote rest ≡ false → item_len quote 0 (body ++ quote ∷ rest) ≡ Ok (length body + 1)
item_closed quote {body = body} rest q is apart =
    item_len-body quote (quote ∷ rest) q is ∙ ap (further (length body)) (at_closing quote (quote ∷ rest) (sym (closing_piece quote rest apart)))

pub item_failed : (quote : ℕ) (kind : LexKind) {cs body : List ℕ} (after : List ℕ) → IsQuote quote → IsBody quote cs body → piece_at quote after ≡ Fault kind → item_len quote 0 (body ++ after) ≡ Err (fault_at kind (length body))
item_failed quote kind {body = body} after q is fails =
    item_len-body quote after q is ∙ ap (further (length body)) (at_fault quote kind after (sym fails)) ∙ ap (λ n. Err (fault_at kind n)) (omega arith)

abbrev pub IsItemLen : ℕ → List ℕ → Result ℕ LexFault → Type 0
IsItemLen quote bs (Ok n) = Ends quote n bs
IsItemLen quote bs (Err fault) = Fails quote bs fault

-- what the length of an item says of its bytes
pub item_is : (quote : ℕ) (bs : List ℕ) → IsQuote quote → IsItemLen quote bs (item_len quote 0 bs)
item_is quote bs q = ⊎_elim closes (λ h. fails h.0 h.1) p.stops
  where
    p : Parts quote bs
    p = parts quote bs q

    closes : piece_at quote p.after ≡ Closing → IsItemLen quote bs (item_len quote 0 bs)
    closes e =
        let k : IsPiece quote p.after Closing = subst (IsPiece quote p.after) e (piece_is quote p.after (quote_small quote q)) in
        let whole = p.whole ∙ ap (λ (xs : List ℕ). p.body ++ xs) k.1 in
        let len = ap (item_len quote 0) whole ∙ item_closed quote k.0 q p.is_body k.2 in
        rw len (record { characters = p.characters; body = p.body; rest = k.0; is_body = p.is_body; whole = whole; apart = k.2; count = refl })

    fails : (kind : LexKind) → piece_at quote p.after ≡ Fault kind → IsItemLen quote bs (item_len quote 0 bs)
    fails kind e =
        let len = ap (item_len quote 0) p.whole ∙ item_failed quote kind p.after q p.is_body e in
        rw len (record { characters = p.characters; body = p.body; after = p.after; is_body = p.is_body; whole = p.whole; piece = e; count = refl })

-- the characters between the quotes of an item
pub item_characters-IsItem : (quote : ℕ) (bytes after : List ℕ) → IsQuote quote → (item : IsItem quote bytes after) → item_characters quote 0 (drop 1 bytes) ≡ item.characters
item_characters-IsItem quote bytes after q item =
    ap (λ (xs : List ℕ). item_characters quote 0 (drop 1 xs)) item.whole
    ∙ item_characters-body quote (quote ∷ []) q item.is_body
    ∙ ap (λ (cs : List ℕ). item.characters ++ cs) (characters_at_closing quote (quote ∷ []) (sym (closing_piece quote [] refl)))
    ∙ append-nil item.characters

use Rattle.std.proofs.Common.{◌≤◌, length, drop, ◌∙◌, ap, sym, Err, arith, add-zero, length-drop}
use Rattle.std.proofs.lemmas.List.{take_rest}
use Rattle.prolog_tokens.specs.Places.{further, fault_at}
use Rattle.prolog_tokens.specs.Pieces.{piece_at}
use Rattle.prolog_tokens.specs.declared.fault.LexFault.{LexFault}
use Rattle.prolog_tokens.proofs.ItemLemmas.{past_character, past_dropped, at_closing, at_fault, item_goes_on}
use Rattle.prolog_tokens.proofs.items.item_len.Goals as goal

pub pieces-preserved-in-Character : goal.pieces-preserved-in-Character
pieces-preserved-in-Character c =
    let same = take_rest c.args.bytes.now c.pieces.at in
    let is = c.in-Character.ensures.value ∙ ap (piece_at c.args.quote) same in
    let short : c.in-Character.len ≤ length (drop c.pieces.at c.args.bytes.now) = omega (arith, c.in-Character.ensures.fits, ap length same) in
    record {
      left = item_goes_on c.args.quote c.pieces.at c.in-Character.len c.args.bytes.now _ (past_character c.args.quote _ _ _ is c.in-Character.ensures.fits.0 short) c.pieces.invariant.left;
      within = omega (arith, short, length-drop c.pieces.at c.args.bytes.now);
    }

pub pieces-preserved : goal.pieces-preserved
pieces-preserved c =
    let same = take_rest c.args.bytes.now c.pieces.at in
    let is = c.in-Dropped.ensures.value ∙ ap (piece_at c.args.quote) same in
    let short : 2 ≤ length (drop c.pieces.at c.args.bytes.now) = omega (arith, c.in-Dropped.ensures.fits, ap length same) in
    record {
      left = item_goes_on c.args.quote c.pieces.at 2 c.args.bytes.now _ (past_dropped c.args.quote _ is short) c.pieces.invariant.left;
      within = omega (arith, short, length-drop c.pieces.at c.args.bytes.now);
    }

pub returns-in-Closing-clause-value : goal.returns-in-Closing-clause-value
returns-in-Closing-clause-value c =
    let is = c.in-Closing.ensures.value ∙ ap (piece_at c.args.quote) (take_rest c.args.bytes.now c.pieces.at) in
    ap (further c.pieces.at) (sym (at_closing c.args.quote _ is)) ∙ c.pieces.invariant.left

pub returns-in-Fault-clause-value : goal.returns-in-Fault-clause-value
returns-in-Fault-clause-value c =
    let is = c.in-Fault.ensures.value ∙ ap (piece_at c.args.quote) (take_rest c.args.bytes.now c.pieces.at) in
    let told = ap (further c.pieces.at) (sym (at_fault c.args.quote _ _ is)) ∙ c.pieces.invariant.left in
    ap (λ (fault : LexFault). Err fault) (c.new.ensures ∙ ap (fault_at c.in-Fault.kind) (sym (add-zero c.pieces.at))) ∙ told

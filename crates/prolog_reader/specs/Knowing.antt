-- Private.
-- The numbers of the names that the syntax makes terms of. Nothing here has to be believed.
use Rattle.std.specs.Prelude.{◌≡◌, ℕ, List, Bool, true, false}
use Rattle.prolog_operators.specs.Table.{Table}
use Rattle.prolog_reader.specs.Directive.{Effect, sets, refuses}
use Rattle.prolog_reader.specs.declared.words.Words.{Words as CodeWords}
use Rattle.prolog_terms.specs.declared.symbol.Known.{Known as CodeKnown}
use Rattle.prolog_operators.specs.Names.{Extends}
use Rattle.prolog_reader.specs.Words.{Words, known, words_of}
use Rattle.term_parser.specs.Views.{known_of}

-- they are these, whatever names come later
abbrev pub AreKnown : List (List ℕ) → CodeKnown → Type 0
AreKnown names k = (later : List (List ℕ)) → Extends names later → known later ≡ known_of k

abbrev pub words_view : CodeWords → Words
words_view w = record { known = known_of w.known; neck = w.neck.0; op = w.op.0; xfx = w.xfx.0; xfy = w.xfy.0; yfx = w.yfx.0; fx = w.fx.0; fy = w.fy.0; bar = w.bar.0 }

abbrev pub AreWords : List (List ℕ) → CodeWords → Type 0
AreWords names w = (later : List (List ℕ)) → Extends names later → words_of later ≡ words_view w

-- the answer of a call that sets operators
abbrev pub done_effect : Bool → Table → Effect
done_effect true table = sets table
done_effect false table = refuses

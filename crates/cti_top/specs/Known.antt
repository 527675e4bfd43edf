-- Private.
-- What the code holds of a program that was read. Nothing here has to be believed.
use Rattle.std.specs.Prelude.{◌≡◌, ℕ, List}
use Rattle.clause_normal.specs.Numbering.{arithmetic_of}
use Rattle.cti_terms.specs.Listing.{Listing}
use Rattle.prolog_reader.specs.Names.{Extends}
use Rattle.prolog_reader.specs.Meanings.{table_of}
use Rattle.cti_top.specs.Queries.{Known}
use Rattle.cti_top.specs.declared.source.Source.{Source}

abbrev pub known_of : Source → Known
known_of s = record { names = s.names; program = s.program; table = table_of s.ops }

-- what is built in is what the names say, and later ones too
abbrev pub NamesBuiltins : List (List ℕ) → Listing → Type 0
NamesBuiltins names p = (later : List (List ℕ)) → Extends names later → p.arithmetic ≡ arithmetic_of later p.preds

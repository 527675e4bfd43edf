-- To believe, for the modes by lists of mappings.
-- What a valid certificate of lists says of queries: each that meets a printed mode has bounded derivations.
--
-- To believe: this file, over `ModeIsBounded` of `cert_checker`, which speaks of terms, programs, unification and
-- derivations alone. The arguments that a mode names have no variables.
use Rattle.std.specs.Prelude.{ℕ, List}
use Rattle.std.specs.List.{AllByRecursion}
use Rattle.cert_checker.specs.Bounding.{ModeIsBounded}
use Rattle.cti_terms.specs.Listing.{Listing}
use Rattle.cti_terms.specs.Tree.{is_rigid}
use Rattle.lex_certificate.specs.declared.fact.LexFact.{LexFact}
use Rattle.lex_certificate.specs.declared.fact.LexFact.TheVariants.{Terminates}

-- the queries are bounded that meet a mode which the fact prints
abbrev pub FactIsBounded : Listing → List (List ℕ) → LexFact → Type 0
FactIsBounded p names (Terminates text modes) = AllByRecursion (ModeIsBounded p names is_rigid text) modes
FactIsBounded p names _ = Unit {0}

-- and those that meet one which the facts print
abbrev pub ModesAreBounded : Listing → List (List ℕ) → List LexFact → Type 0
ModesAreBounded p names facts = AllByRecursion (FactIsBounded p names) facts

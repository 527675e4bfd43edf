-- Private.
-- The lines of stuck sets and notes. Nothing here has to be believed.
use Rattle.std.specs.Prelude.{ℕ, List, []}
use Rattle.lex_certificate.specs.declared.fact.LexFact.{LexFact}
use Rattle.lex_certificate.specs.declared.fact.LexFact.TheVariants as lex
use Rattle.lex_certificate.specs.Text.{fact_text}

-- the line of a stuck set's fact or of a note, and nothing for another fact
abbrev pub other_text : LexFact → List ℕ
other_text (lex.Ctilex version) = []
other_text (lex.Terminates pred modes) = []
other_text (lex.Size pred index row) = []
other_text (lex.By clause index scale multipliers) = []
other_text (lex.Grounds pred index cube) = []
other_text (lex.Level pred list index coeffs offset) = []
other_text (lex.Drops clause call list index scale multipliers) = []
other_text (lex.Pre pred list index cube) = []
other_text f = fact_text f

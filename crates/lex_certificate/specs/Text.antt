-- To believe, for the modes by lists of mappings.
-- The text of a certificate of lists: a line for each fact.
--
-- To believe: all of this file, over Text.antt of `certificate`.
use Rattle.std.specs.Prelude.{ℕ, List, ◌++◌, codes, decimal, flat_map}
use Rattle.std.specs.Fmt.{signed_decimal}
use Rattle.certificate.specs.Text.{indicator, list_text, numbers_text, positions_text, cube_text, how_text}
use Rattle.lex_certificate.specs.declared.fact.LexFact.{LexFact}
use Rattle.lex_certificate.specs.declared.fact.LexFact.TheVariants as lex

-- the line of a fact
abbrev pub fact_text : LexFact → List ℕ
fact_text (lex.Ctilex version) = codes "ctilex(" ++ signed_decimal version ++ codes ").\n"
fact_text (lex.Terminates pred modes) = codes "terminates(" ++ indicator pred ++ codes "," ++ list_text positions_text modes ++ codes ").\n"
fact_text (lex.Size pred index row) = codes "size(" ++ indicator pred ++ codes "," ++ decimal index ++ codes "," ++ numbers_text row ++ codes ").\n"
fact_text (lex.By clause index scale multipliers) =
    codes "by(" ++ decimal clause ++ codes "," ++ decimal index ++ codes "," ++ signed_decimal scale ++ codes "," ++ numbers_text multipliers ++ codes ").\n"
fact_text (lex.Grounds pred index cube) = codes "grounds(" ++ indicator pred ++ codes "," ++ decimal index ++ codes "," ++ cube_text cube ++ codes ").\n"
fact_text (lex.Level pred list index coeffs offset) =
    codes "level(" ++ indicator pred ++ codes "," ++ decimal list ++ codes "," ++ decimal index ++ codes "," ++ numbers_text coeffs ++ codes "," ++ signed_decimal offset ++ codes ").\n"
fact_text (lex.Drops clause call list index scale multipliers) =
    codes "drops(" ++ decimal clause ++ codes "," ++ decimal call ++ codes "," ++ decimal list ++ codes "," ++ decimal index ++ codes "," ++ signed_decimal scale ++ codes ","
    ++ numbers_text multipliers ++ codes ").\n"
fact_text (lex.Pre pred list index cube) =
    codes "pre(" ++ indicator pred ++ codes "," ++ decimal list ++ codes "," ++ decimal index ++ codes "," ++ cube_text cube ++ codes ").\n"
fact_text (lex.Refuted pred points) = codes "none(" ++ indicator pred ++ codes "," ++ decimal points ++ codes ").\n"
fact_text (lex.Point clause call t w) =
    codes "point(" ++ decimal clause ++ codes "," ++ decimal call ++ codes "," ++ signed_decimal t ++ codes "," ++ numbers_text w ++ codes ").\n"
fact_text (lex.Image step clause pred rows) =
    codes "image(" ++ decimal step ++ codes "," ++ decimal clause ++ codes "," ++ indicator pred ++ codes "," ++ list_text numbers_text rows ++ codes ").\n"
fact_text (lex.Step step pred how rows) =
    codes "step(" ++ decimal step ++ codes "," ++ indicator pred ++ codes "," ++ how_text how ++ codes "," ++ list_text numbers_text rows ++ codes ").\n"
fact_text (lex.WeakImage step) = codes "weak(image(" ++ decimal step ++ codes ")).\n"
fact_text (lex.WeakStep step) = codes "weak(step(" ++ decimal step ++ codes ")).\n"
fact_text (lex.Blown pred) = codes "blown(" ++ indicator pred ++ codes ").\n"

-- the text of these facts: their lines, in order
abbrev pub text_of : List LexFact → List ℕ
text_of facts = flat_map fact_text facts

-- Private.
-- To believe, for the modes by measures with numbers.
-- The text of a certificate of measures with numbers: a line for each fact.
--
-- To believe: all of this file, over Text.antt of `certificate`.
use Rattle.std.specs.Prelude.{ℕ, List, ◌++◌, codes, decimal, flat_map}
use Rattle.std.specs.Fmt.{signed_decimal}
use Rattle.certificate.specs.Text.{indicator, list_text, numbers_text, positions_text, cube_text, how_text}
use Rattle.prove_certificate.specs.declared.kind.CertKind.{CertKind}
use Rattle.prove_certificate.specs.declared.kind.CertKind.TheVariants as kind
use Rattle.prove_certificate.specs.declared.fact.ProveFact.{ProveFact}
use Rattle.prove_certificate.specs.declared.fact.ProveFact.TheVariants as fact

abbrev pub kind_text : CertKind → List ℕ
kind_text kind.Size = codes "size"
kind_text kind.Number = codes "number"

abbrev pub kinds_text : List CertKind → List ℕ
kinds_text kinds = list_text kind_text kinds

-- the line of a fact
abbrev pub fact_text : ProveFact → List ℕ
fact_text (fact.Ctiprove version) = codes "ctiprove(" ++ signed_decimal version ++ codes ").\n"
fact_text (fact.Terminates pred modes) = codes "terminates(" ++ indicator pred ++ codes "," ++ list_text positions_text modes ++ codes ").\n"
fact_text (fact.Kinds pred kinds) = codes "kinds(" ++ indicator pred ++ codes "," ++ kinds_text kinds ++ codes ").\n"
fact_text (fact.Fails pred) = codes "fails(" ++ indicator pred ++ codes ").\n"
fact_text (fact.Size pred index row) = codes "size(" ++ indicator pred ++ codes "," ++ decimal index ++ codes "," ++ numbers_text row ++ codes ").\n"
fact_text (fact.By clause index scale multipliers) =
    codes "by(" ++ decimal clause ++ codes "," ++ decimal index ++ codes "," ++ signed_decimal scale ++ codes "," ++ numbers_text multipliers ++ codes ").\n"
fact_text (fact.Grounds pred index cube) = codes "grounds(" ++ indicator pred ++ codes "," ++ decimal index ++ codes "," ++ cube_text cube ++ codes ").\n"
fact_text (fact.Level pred list index coeffs offset) =
    codes "level(" ++ indicator pred ++ codes "," ++ decimal list ++ codes "," ++ decimal index ++ codes "," ++ numbers_text coeffs ++ codes "," ++ signed_decimal offset ++ codes ").\n"
fact_text (fact.Drops clause call list index scale multipliers) =
    codes "drops(" ++ decimal clause ++ codes "," ++ decimal call ++ codes "," ++ decimal list ++ codes "," ++ decimal index ++ codes "," ++ signed_decimal scale ++ codes ","
    ++ numbers_text multipliers ++ codes ").\n"
fact_text (fact.Floors clause call list scale multipliers) =
    codes "floors(" ++ decimal clause ++ codes "," ++ decimal call ++ codes "," ++ decimal list ++ codes "," ++ signed_decimal scale ++ codes ","
    ++ numbers_text multipliers ++ codes ").\n"
fact_text (fact.Pre pred list index cube) =
    codes "pre(" ++ indicator pred ++ codes "," ++ decimal list ++ codes "," ++ decimal index ++ codes "," ++ cube_text cube ++ codes ").\n"
fact_text (fact.Refuted pred groups) = codes "none(" ++ indicator pred ++ codes "," ++ decimal groups ++ codes ").\n"
fact_text (fact.Group clause call) = codes "group(" ++ decimal clause ++ codes "," ++ decimal call ++ codes ").\n"
fact_text (fact.Point clause call t w) =
    codes "point(" ++ decimal clause ++ codes "," ++ decimal call ++ codes "," ++ signed_decimal t ++ codes "," ++ numbers_text w ++ codes ").\n"
fact_text (fact.Floor clause call t w) =
    codes "floor(" ++ decimal clause ++ codes "," ++ decimal call ++ codes "," ++ signed_decimal t ++ codes "," ++ numbers_text w ++ codes ").\n"
fact_text (fact.Image step clause pred rows) =
    codes "image(" ++ decimal step ++ codes "," ++ decimal clause ++ codes "," ++ indicator pred ++ codes "," ++ list_text numbers_text rows ++ codes ").\n"
fact_text (fact.Step step pred how rows) =
    codes "step(" ++ decimal step ++ codes "," ++ indicator pred ++ codes "," ++ how_text how ++ codes "," ++ list_text numbers_text rows ++ codes ").\n"
fact_text (fact.WeakImage step) = codes "weak(image(" ++ decimal step ++ codes ")).\n"
fact_text (fact.WeakStep step) = codes "weak(step(" ++ decimal step ++ codes ")).\n"
fact_text (fact.Blown pred support) = codes "blown(" ++ indicator pred ++ codes "," ++ list_text positions_text support ++ codes ").\n"

-- the text of these facts: their lines, in order
abbrev pub text_of : List ProveFact → List ℕ
text_of facts = flat_map fact_text facts

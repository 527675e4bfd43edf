-- To believe, for the modes.
-- The text of a certificate: a line for each fact.
--
-- To believe: all of this file, and the spelling of names, `spelling` of prolog_tokens.
use Rattle.std.specs.Prelude.{ℕ, ℤ, List, [], ◌∷◌, ◌++◌, codes, decimal, flat_map}
use Rattle.std.specs.Fmt.{signed_decimal}
use Rattle.prolog_tokens.specs.Spelling.{spelling}
use Rattle.certificate.specs.declared.pred_text.PredText.{PredText}
use Rattle.certificate.specs.declared.cell.CertCell.{CertCell}
use Rattle.certificate.specs.declared.cell.CertCell.TheVariants as cell
use Rattle.certificate.specs.declared.how.CertHow.{CertHow}
use Rattle.certificate.specs.declared.how.CertHow.TheVariants as how
use Rattle.certificate.specs.declared.norm.CertNorm.{CertNorm}
use Rattle.certificate.specs.declared.norm.CertNorm.TheVariants as norm
use Rattle.certificate.specs.declared.fact.Fact.{Fact}
use Rattle.certificate.specs.declared.fact.Fact.TheVariants as fact

-- the indicator of a predicate, as append/3
abbrev pub indicator : PredText → List ℕ
indicator p = spelling p.name ++ codes "/" ++ decimal p.arity

-- a list in brackets, with commas between
abbrev pub list_text : {A : Type 0} → (A → List ℕ) → List A → List ℕ
list_text text [] = codes "[]"
list_text text (x ∷ xs) = codes "[" ++ text x ++ flat_map (λ y. codes "," ++ text y) xs ++ codes "]"

abbrev pub numbers_text : List ℤ → List ℕ
numbers_text zs = list_text signed_decimal zs

abbrev pub positions_text : List ℕ → List ℕ
positions_text ns = list_text decimal ns

abbrev pub cell_text : CertCell → List ℕ
cell_text cell.Zero = codes "0"
cell_text cell.One = codes "1"
cell_text cell.Any = codes "x"

abbrev pub cube_text : List CertCell → List ℕ
cube_text cells = list_text cell_text cells

abbrev pub how_text : CertHow → List ℕ
how_text how.None = codes "none"
how_text how.First = codes "first"
how_text how.Join = codes "join"
how_text how.Keep = codes "keep"
how_text how.Same = codes "same"

abbrev pub norm_text : CertNorm → List ℕ
norm_text norm.Term = codes "term"
norm_text norm.List = codes "list"

-- the line of a fact
abbrev pub fact_text : Fact → List ℕ
fact_text (fact.Cti version) = codes "cti(" ++ signed_decimal version ++ codes ").\n"
fact_text (fact.Norm named) = codes "norm(" ++ norm_text named ++ codes ").\n"
fact_text (fact.Terminates pred modes) = codes "terminates(" ++ indicator pred ++ codes "," ++ list_text positions_text modes ++ codes ").\n"
fact_text (fact.Size pred index row) = codes "size(" ++ indicator pred ++ codes "," ++ decimal index ++ codes "," ++ numbers_text row ++ codes ").\n"
fact_text (fact.By clause index scale multipliers) =
    codes "by(" ++ decimal clause ++ codes "," ++ decimal index ++ codes "," ++ signed_decimal scale ++ codes "," ++ numbers_text multipliers ++ codes ").\n"
fact_text (fact.Grounds pred index cube) = codes "grounds(" ++ indicator pred ++ codes "," ++ decimal index ++ codes "," ++ cube_text cube ++ codes ").\n"
fact_text (fact.Measure pred mapping coeffs offset) =
    codes "measure(" ++ indicator pred ++ codes "," ++ decimal mapping ++ codes "," ++ numbers_text coeffs ++ codes "," ++ signed_decimal offset ++ codes ").\n"
fact_text (fact.Falls clause call mapping scale multipliers) =
    codes "falls(" ++ decimal clause ++ codes "," ++ decimal call ++ codes "," ++ decimal mapping ++ codes "," ++ signed_decimal scale ++ codes ","
    ++ numbers_text multipliers ++ codes ").\n"
fact_text (fact.Pre pred mapping index cube) =
    codes "pre(" ++ indicator pred ++ codes "," ++ decimal mapping ++ codes "," ++ decimal index ++ codes "," ++ cube_text cube ++ codes ").\n"
fact_text (fact.Refuted pred points) = codes "none(" ++ indicator pred ++ codes "," ++ decimal points ++ codes ").\n"
fact_text (fact.Point clause call t w) =
    codes "point(" ++ decimal clause ++ codes "," ++ decimal call ++ codes "," ++ signed_decimal t ++ codes "," ++ numbers_text w ++ codes ").\n"
fact_text (fact.At clause call t w) =
    codes "at(" ++ decimal clause ++ codes "," ++ decimal call ++ codes "," ++ signed_decimal t ++ codes "," ++ numbers_text w ++ codes ").\n"
fact_text (fact.Image step clause pred rows) =
    codes "image(" ++ decimal step ++ codes "," ++ decimal clause ++ codes "," ++ indicator pred ++ codes "," ++ list_text numbers_text rows ++ codes ").\n"
fact_text (fact.Step step pred how rows) =
    codes "step(" ++ decimal step ++ codes "," ++ indicator pred ++ codes "," ++ how_text how ++ codes "," ++ list_text numbers_text rows ++ codes ").\n"
fact_text (fact.WeakImage step) = codes "weak(image(" ++ decimal step ++ codes ")).\n"
fact_text (fact.WeakStep step) = codes "weak(step(" ++ decimal step ++ codes ")).\n"
fact_text (fact.Blown pred support) = codes "blown(" ++ indicator pred ++ codes "," ++ list_text positions_text support ++ codes ").\n"
fact_text (fact.Large pred positions) = codes "large(" ++ indicator pred ++ codes "," ++ decimal positions ++ codes ").\n"

-- the text of these facts: their lines, in order
abbrev pub text_of : List Fact → List ℕ
text_of facts = flat_map fact_text facts

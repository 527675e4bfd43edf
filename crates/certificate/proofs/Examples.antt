-- The definitions, evaluated.
use Rattle.std.proofs.Common.{◌≡◌, [], ◌∷◌, None, refl, lit≤}
use Rattle.std.proofs.lemmas.Fmt.{decimal_digit}
use Rattle.std.specs.Prelude.{codes}
use Rattle.certificate.specs.declared.pred_text.PredText.{PredText}
use Rattle.certificate.specs.declared.cell.CertCell.TheVariants as cell
use Rattle.certificate.specs.declared.norm.CertNorm.TheVariants as norm
use Rattle.certificate.specs.declared.fact.Fact.TheVariants as fact
use Rattle.prolog_tokens.specs.Spelling.{spelling}
use Rattle.certificate.specs.Text.{fact_text}
use Rattle.certificate.specs.Lines.{lines}
use Rattle.certificate.specs.Parse.{read_norm, read_norm_fact, read_any}

append : PredText
append = record { name = codes "app"; arity = 3 }

mark : fact_text (fact.WeakImage 7) ≡ codes "weak(image(7)).\n"
mark = rw (decimal_digit 7 (lit≤ tt)) refl

list_size : fact_text (fact.Norm norm.List) ≡ codes "norm(list).\n"
list_size = refl

-- the line of another norm is not a fact
another_norm : read_any (codes "norm(depth).\n") ≡ None
unfolding read_any read_norm_fact read_norm
another_norm = refl

longer_norm : read_any (codes "norm(lists).\n") ≡ None
unfolding read_any read_norm_fact read_norm
longer_norm = refl

rows : fact_text (fact.Grounds append 1 (cell.Zero ∷ cell.Any ∷ cell.One ∷ [])) ≡ codes "grounds(app/3,1,[0,x,1]).\n"
unfolding spelling append
rows = rw (decimal_digit 3 (lit≤ tt), decimal_digit 1 (lit≤ tt)) refl

their_lines : lines (codes "weak(image(7)).\ncti(1).\n") ≡ codes "weak(image(7)).\n" ∷ codes "cti(1).\n" ∷ []
their_lines = refl

last_line : lines (codes "a\nb") ≡ codes "a\n" ∷ codes "b" ∷ []
last_line = refl

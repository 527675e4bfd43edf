-- The definitions, evaluated.
use Rattle.std.proofs.Common.{◌≡◌, [], ◌∷◌, refl, lit≤}
use Rattle.std.proofs.lemmas.Fmt.{decimal_digit}
use Rattle.std.specs.Prelude.{codes, pos, negsuc}
use Rattle.certificate.specs.declared.pred_text.PredText.{PredText}
use Rattle.prolog_tokens.specs.Spelling.{spelling}
use Rattle.prove_certificate.specs.declared.kind.CertKind.TheVariants as kind
use Rattle.prove_certificate.specs.declared.fact.ProveFact.TheVariants as fact
use Rattle.prove_certificate.specs.Range.{amounts_of}
use Rattle.prove_certificate.specs.Text.{fact_text, text_of}

up : PredText
up = record { name = codes "up"; arity = 2 }

kinds : fact_text (fact.Kinds up (kind.Size ∷ kind.Number ∷ [])) ≡ codes "kinds(up/2,[size,number]).\n"
unfolding spelling up
kinds = rw (decimal_digit 2 (lit≤ tt)) refl

level : fact_text (fact.Level up 1 1 (pos 0 ∷ negsuc 0 ∷ []) (negsuc 1)) ≡ codes "level(up/2,1,1,[0,-1],-2).\n"
unfolding spelling up
level = rw (decimal_digit 2 (lit≤ tt), decimal_digit 1 (lit≤ tt), decimal_digit 0 (lit≤ tt)) refl

group : text_of (fact.Group 1 2 ∷ fact.Floor 1 2 (pos 0) [] ∷ []) ≡ codes "group(1,2).\nfloor(1,2,0,[]).\n"
group = rw (decimal_digit 1 (lit≤ tt), decimal_digit 2 (lit≤ tt), decimal_digit 0 (lit≤ tt)) refl

-- the numbers of a level may be below 0, those of a floor not
of_level : amounts_of (fact.Level up 1 1 (negsuc 0 ∷ []) (negsuc 1)) ≡ []
of_level = refl

of_floor : amounts_of (fact.Floor 1 2 (pos 1) (pos 3 ∷ [])) ≡ pos 1 ∷ pos 3 ∷ []
of_floor = refl

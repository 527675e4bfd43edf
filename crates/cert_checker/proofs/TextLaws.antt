-- Predicates are distinguished by their texts.
use Rattle.std.proofs.Common.{◌≡◌, ◌≢◌, ℕ, ◌<◌, List, [], length, unwrap_or, Option, Some, sym, ap, ◌∙◌}
use Rattle.std.specs.List.{AllPairs}
use Rattle.certificate.specs.declared.pred_text.PredText.{PredText}
use Rattle.cti_terms.specs.Listing.{IsProgram, Listing}
use Rattle.cti_terms.specs.declared.predicates.Pred.{Pred}
use Rattle.cert_structure.specs.Order.{pred_text, text_or_none}
use Rattle.cert_structure.specs.Structure.{AreNamed}
use Rattle.number_tests.proofs.ColumnLengths.{an_element}
use Rattle.termination_model.proofs.Lists.{by_places}
use Rattle.cert_checker.proofs.PrintedModes.{same_pred}

pub same_text : (p : Listing) (names : List (List ℕ)) → IsProgram p → AreNamed names p.preds → AllPairs (λ a b. a ≢ b) names
    → (q r : ℕ) → q < length p.preds → r < length p.preds → pred_text p names q ≡ pred_text p names r → r ≡ q
same_text p names prog named distinct q r lt less same =
    let (d, ed) = an_element p.preds q lt in
    let (e, ee) = an_element p.preds r less in
    let (text, at) = an_element names d.name.0 (by_places (λ (x : Pred). x.name.0 < length names) p.preds named q d ed) in
    let spelled : (pred_text p names q).name ≡ text = ap (λ (o : Option Pred). (text_or_none names o).name) ed ∙ ap (λ (o : Option (List ℕ)). unwrap_or o []) at in
    let long : (pred_text p names q).arity ≡ d.arity = ap (λ (o : Option Pred). (text_or_none names o).arity) ed in
    same_pred p names prog named distinct q r d e ed ee (at ∙ ap Some (sym spelled ∙ ap (λ (t : PredText). t.name) same)) (sym long ∙ ap (λ (t : PredText). t.arity) same)

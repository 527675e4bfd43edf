use Rattle.std.proofs.Common.{◌≡◌, Some, slice_get, ap, sym, subst, ◌∙◌, List}
use Rattle.lex_turns.specs.declared.call_drops.CallDrops.{CallDrops}
use Rattle.lex_measures.proofs.Inferred.{if_ok}
use Rattle.termination_model.proofs.Lists.{there}
use Rattle.lex_measures.specs.Lists.{place_or_none}
use Rattle.lex_measures.proofs.DropLaws.{drops_first}
use Rattle.lex_measures.proofs.places.place_at.Goals as goal

pub returns-in-Some : goal.returns-in-Some
returns-in-Some c =
    let drops = c.args.list.now.drops in
    let f : CallDrops = c.in-Some.drops.now in
    let looked = c.in-Some.ensures.lookup.3 in
    let at : slice_get drops c.args.at ≡ Some f = subst (λ (fs : List CallDrops). slice_get fs c.args.at ≡ Some f) c.as_slice.ensures (there c.as_slice.result.now c.args.at f looked.0 ∙ ap Some (sym (looked.1 f))) in
    if_ok c.copied_multipliers.result _ _ (λ bys is. is ∙ c.as_slice-in-Some.ensures ∙ sym (ap place_or_none (drops_first drops c.args.at c.args.clause c.args.call f c.requires at c.if-drops-clause.true c.if-drops-call.true))) c.copied_multipliers.ensures

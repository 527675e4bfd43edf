use Rattle.std.proofs.Common.{subst}
use Rattle.linear_rows.specs.declared.multipliers.Multipliers.{Multipliers}
use Rattle.lex_turns.specs.Testing.{ShowsDrop, Tells}
use Rattle.lex_turns.proofs.dropping.drop_at.Goals as goal

pub returns : goal.returns
returns c =
    let ms = c.args.measures.now in
    let own = c.args.own.now in
    let by = c.in_ok-by.by in
    let first = subst (Tells (ShowsDrop 1 ms own by)) c.if-branch.false c.in_ok-shows_drop.ensures in
    let second = subst (Tells (ShowsDrop 0 ms own by)) c.if-branch-2.false c.in_ok-shows_drop-2.ensures in
    subst (λ (b : Multipliers). (ShowsDrop 1 ms own b → ⊥) × (ShowsDrop 0 ms own b → ⊥)) c.in_ok-by.ensures (first, second)

use Rattle.std.proofs.Common.{◌≡◌, inl, inr, slice_get, Some}
use Rattle.solved_program.proofs.Comparisons.{elsewhere}
use Rattle.solved_program.proofs.standing.Compared.is_same_call.Goals as goal

pub returns : goal.returns
returns c =
    let s = c.args.self.now in
    let out : (slice_get s.edit.now.components_before.now.of c.args.before.0 ≡ Some s.before) → ⊥ = elsewhere s.edit.now.components_before.now.of c.args.before.0 c.of.result s.before c.of.ensures c.if-of-self.false in
    let new_out : (slice_get s.edit.now.components.now.of c.args.after.0 ≡ Some s.after) → ⊥ = elsewhere s.edit.now.components.now.of c.args.after.0 c.of-2.result s.after c.of-2.ensures c.if-of-self-2.false in (
      λ is. inr (out, new_out, is),
      λ same. elim same [
        | inl both ↦ absurd (out both.0)
        | inr apart ↦ apart.2
      ],
    )

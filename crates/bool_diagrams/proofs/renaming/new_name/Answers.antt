use Rattle.std.proofs.Common.{inl, inr, sym, ◌∙◌}
use Rattle.bool_diagrams.proofs.Renamed.{renamed_from_none, renamed_to_none}
use Rattle.bool_diagrams.proofs.renaming.new_name.Goals as goal

pub returns : goal.returns
returns c = elim c.in-None.ensures.steps [
  | inl h ↦ sym (renamed_from_none _ _ c.args.variable h.1.0) ∙ c.loop-old.invariant
  | inr h ↦ sym (renamed_to_none _ _ c.args.variable h.1.0) ∙ c.loop-old.invariant
]

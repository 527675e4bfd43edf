use Rattle.std.proofs.Common.{[], map, ap, sym, ◌∙◌}
use Rattle.call_components.specs.Numbers.{number_of}
use Rattle.termination_model.specs.mappings.Ready.{arity_in, positions_by}
use Rattle.termination_model.proofs.Lists.{indexed}
use Rattle.level_systems.proofs.SoundLaws.{are_below}
use Rattle.level_systems.proofs.members.component_positions.Goals as goal

pub positions_of-requires : goal.positions_of-requires
positions_of-requires c = are_below c.args.p.now c.args.comps.now c.args.c (map number_of c.members.result.now) c.requires.components c.members.ensures

pub returns : goal.returns
returns c =
    c.in_ok-positions.ensures ∙ ap (positions_by (arity_in c.args.p.now)) (sym (indexed c.args.comps.now.members c.args.c (map number_of c.members.result.now) [] c.members.ensures))

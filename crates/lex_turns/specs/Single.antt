-- Private.
-- A mapping that decreases as a list of one. Nothing here has to be believed.
use Rattle.std.specs.Prelude.{[], ◌∷◌, map}
use Rattle.level_systems.specs.declared.fall.Fall.{Fall}
use Rattle.level_systems.specs.declared.mapping.Mapping.{Mapping}
use Rattle.lex_turns.specs.declared.call_drops.CallDrops.{CallDrops}
use Rattle.lex_turns.specs.declared.measure_list.MeasureList.{MeasureList}

abbrev pub drop_of_fall : Fall → CallDrops
drop_of_fall f = record { clause = f.clause; call = f.call; by = f.by ∷ [] }

abbrev pub one_list : Mapping → MeasureList
one_list m = record { measures = m.measures ∷ []; drops = map drop_of_fall m.falls }

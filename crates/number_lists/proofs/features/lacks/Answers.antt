use Rattle.number_turns.specs.Recalled.{recalled, spelled}
use Rattle.number_lists.proofs.Lacking.{test_is}
use Rattle.number_lists.proofs.features.lacks.Goals as goal

pub returns : goal.returns
returns c = test_is (recalled c.args.transition.now) (spelled c.args.feature) c.lacks.result c.lacks.ensures

use Rattle.ld_resolver.proofs.first_argument.compounds_differ.Goals as goal
use Rattle.ld_resolver.proofs.first_argument.compounds_differ.Goals.{else-f-g-via-then-f-g+else-args-count, else-f-g-via-else-f-g}

pub returns : goal.returns
returns c = λ yes h. elim c.else-f-g.branch [
  | else-f-g-via-then-f-g+else-args-count w ↦ w.if-args-count.false h.1
  | else-f-g-via-else-f-g w ↦ w.if-f-g.false h.0
]

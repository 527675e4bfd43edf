use Rattle.std.proofs.Common.{◌≡◌, ◌&&◌, nat_lt, not, length, map, take}
use Rattle.std.specs.List.{filter, list_any}
use Rattle.precond_fixpoint.specs.Solving.{arguments_of}
use Rattle.termination_model.specs.grounds.Modes.{is_part}
use Rattle.precond_fixpoint.proofs.modes.minimal_lists.Given as goal

-- the minimal ones of the lists so far
abbrev pub invariant-loop-args : goal.invariant-loop-args
invariant-loop-args l =
    map arguments_of l.minimal
    ≡ filter (λ args. not (list_any (λ less. nat_lt (length less) (length args) && is_part less args) l.lists)) (take l.args-index l.lists)
